-- A text that is read line by line, while it may go on.
use Rattle.std.proofs.Common.{◌≡◌, ℕ, zero, suc, ◌+◌, ◌-◌, ◌*◌, ◌≤◌, ◌<◌, Bool, true, false, List, [], ◌∷◌, ◌++◌, All, length, take, drop, get_or, refl, ap, sym, ◌∙◌, arith, append_assoc, append-nil, subst, inl, inr, Option, Some, None, Ok, Err}
use Rattle.std.proofs.lemmas.Bool.Decides.{nat_tests}
use Rattle.std.proofs.lemmas.List.{drop-drop, drop_more, length-append, length-drop, take-append-drop}
use Rattle.std.proofs.lemmas.List.Elements.{All-append, All-nil}
use Rattle.std.specs.Prelude.{Result, OnOk, is_some, not, ◌⊎◌, ◌==◌}
use Rattle.gcode_state.specs.States.{one_if}
use Rattle.text_core.specs.Lines.{lines_of, with_first}
use Rattle.plan_types.specs.declared.cause.LineKind.{LineKind}
use Rattle.plan_types.specs.declared.machine.Machine.{Machine}
use Rattle.plan_types.specs.declared.plan.ReadEnd.{ReadEnd}
use Rattle.plan_types.specs.declared.plan.ReadStop.{ReadStop}
use Rattle.plan_types.specs.declared.plan.ReadStop.TheVariants.{End, Stop, Refused}
use Rattle.gcode_state.specs.declared.state.Action.{Action}
use Rattle.gcode_state.specs.declared.state.Action.TheVariants as actions
use Rattle.gcode_state.specs.declared.state.State.{State}
use Rattle.gcode_state.specs.Starts.{initial}
use Rattle.gcode_program.specs.declared.items.Item.{Item}
use Rattle.gcode_program.specs.declared.items.Opening.{Opening}
use Rattle.gcode_program.specs.declared.reading.Reading.{Reading}
use Rattle.gcode_program.specs.Items.{IsGood, ending, items_by, items_of, opening_by}
use Rattle.gcode_program.specs.Programs.{outcome_of, program_end, program_sections}
use Rattle.gcode_program.specs.Reader.{AreReading, HasNoEnd, IsAll, IsComing, AreBytesKnown, IsOn, IsRead, items_from, stop_by}
use Rattle.gcode_program.specs.Readings.{Outcome, applied_line, behind_action, behind_line, deed_of, is_large, is_passed, is_stop, line_result, outcome}
use Rattle.gcode_program.proofs.Behind.{goes_on}
use Rattle.gcode_program.proofs.Telling.{end_good, told_all}

-- one more action
pub coming_on : (m : Machine) (whole coming : Outcome) (o : Opening) (s : State) (a : Action) (p : Bool) (number lines passed : ℕ) (told : List Item) → is_stop a ≡ false → IsComing m whole (behind_action number p s a coming) o lines passed told
    → IsComing m whole coming (opening_by o a) (lines + 1) (passed + one_if p) (told ++ items_by m o s a)
coming_on m whole coming o s a p number lines passed told on was =
    let e = goes_on number p s a coming on in
    record {
      items = append_assoc told (items_by m o s a) (items_from m (opening_by o a) coming.deeds) ∙ rw e at was.items;
      count = let h = rw e at was.count in omega arith;
      passed_is = let h = rw e at was.passed_is in omega arith;
      stop = rw e at was.stop;
    }

abbrev program_end_of : Outcome → ReadEnd
program_end_of o = record { lines = length o.deeds; passed = o.passed; stop = o.stop }

abbrev read_end : ℕ → ℕ → ReadStop → ReadEnd
read_end l p s = record { lines = l; passed = p; stop = s }

end_made : (o : Outcome) (l p : ℕ) (s : ReadStop) → l ≡ length o.deeds → p ≡ o.passed → s ≡ o.stop → program_end_of o ≡ read_end l p s
end_made o l p s a b c = rw (a, b, c) refl

-- nothing more comes
ends : (m : Machine) (all : List ℕ) (coming : Outcome) (o : Opening) (lines passed : ℕ) (told more : List Item) (l p : ℕ) (stop : ReadStop) → IsComing m (outcome_of m all) coming o lines passed told → items_from m o coming.deeds ≡ more → l ≡ lines + length coming.deeds → p ≡ passed + coming.passed → stop ≡ coming.stop → All IsGood (told ++ more)
    → IsAll m all (record { lines = l; passed = p; stop = stop }) (told ++ more)
ends m all coming o lines passed told more l p stop was is l_is p_is stop_is good = record {
  items = told_all m (outcome_of m all).deeds ∙ sym was.items ∙ ap (λ is. told ++ is) is;
  end_is = end_made (outcome_of m all) l p stop (l_is ∙ was.count) (p_is ∙ was.passed_is) (stop_is ∙ was.stop);
  good = good;
}

-- the text ends
pub all_ended : (m : Machine) (all : List ℕ) (o : Opening) (lines passed : ℕ) (told : List Item) → All IsGood told → IsComing m (outcome_of m all) (record { deeds = []; passed = 0; stop = End }) o lines passed told → IsAll m all (record { lines = lines; passed = passed; stop = End }) (told ++ ending o.goes)
all_ended m all o lines passed told good was = ends m all (record { deeds = []; passed = 0; stop = End }) o lines passed told (ending o.goes) lines passed End was refl (omega arith) (omega arith) refl (All-append IsGood told (ending o.goes) good (end_good o.goes))

-- a line is refused
pub all_refused : (m : Machine) (all : List ℕ) (o : Opening) (number lines passed : ℕ) (kind : LineKind) (told : List Item) → All IsGood told → IsComing m (outcome_of m all) (record { deeds = []; passed = 0; stop = Refused number kind }) o lines passed told → IsAll m all (record { lines = lines; passed = passed; stop = Refused number kind }) (told ++ ending o.goes)
all_refused m all o number lines passed kind told good was = ends m all (record { deeds = []; passed = 0; stop = Refused number kind }) o lines passed told (ending o.goes) lines passed (Refused number kind) was refl (omega arith) (omega arith) refl (All-append IsGood told (ending o.goes) good (end_good o.goes))

-- a line asks for a stop
pub all_stopped : (m : Machine) (all : List ℕ) (o : Opening) (s : State) (a : Action) (p : Bool) (coming : Outcome) (number lines passed : ℕ) (told : List Item) → is_stop a ≡ true → All IsGood told → IsComing m (outcome_of m all) (behind_action number p s a coming) o lines passed told → IsAll m all (record { lines = lines + 1; passed = passed + one_if p; stop = Stop number }) (told ++ items_by m o s a)
all_stopped m all o s actions.Stop p coming number lines passed told is good was = ends m all (record { deeds = deed_of s actions.Stop ∷ []; passed = one_if p; stop = Stop number }) o lines passed told (ending o.goes) (lines + 1) (passed + one_if p) (Stop number) was (append-nil (ending o.goes)) (omega arith) (omega arith) refl (All-append IsGood told (ending o.goes) good (end_good o.goes))
all_stopped m all o s actions.None p coming number lines passed told is good was = absurd cc
all_stopped m all o s (actions.Move one) p coming number lines passed told is good was = absurd cc
all_stopped m all o s (actions.Dwell ms) p coming number lines passed told is good was = absurd cc
all_stopped m all o s actions.Wait p coming number lines passed told is good was = absurd cc
all_stopped m all o s (actions.Home axes) p coming number lines passed told is good was = absurd cc

-- what a line does is decided by what is known
large_same : (known n start : ℕ) (line : List ℕ) → AreBytesKnown known (start + length line) n → is_large known start line ≡ is_large n start line
large_same known n start line is = elim is.1 [
  | inl end ↦ (let k = is.0 in grind (arith, nat_tests))
  | inr same ↦ rw same refl
]

pub line_same : (known n start : ℕ) (s : State) (line : List ℕ) → AreBytesKnown known (start + length line) n → line_result known start s line ≡ line_result n start s line
unfolding line_result
line_same known n start s line is = rw (large_same known n start line is) refl

-- the first line of a text of lines
pub whole_line : (line rest : List ℕ) → ((k : ℕ) → k < length line → get_or line k 0 ≡ 10 → ⊥) → lines_of (line ++ 10 ∷ rest) ≡ line ∷ lines_of rest
whole_line [] rest h = refl
whole_line (b ∷ line) rest h =
    let later = whole_line line rest (λ k l e. h (suc k) (omega arith) e) in
    first b (h 0 (omega arith)) later
  where
    first : (b : ℕ) → (b ≡ 10 → ⊥) → lines_of (line ++ 10 ∷ rest) ≡ line ∷ lines_of rest → lines_of (b ∷ (line ++ 10 ∷ rest)) ≡ (b ∷ line) ∷ lines_of rest
    first b other e = grind (arith, nat_tests, e)

-- the only line of a text without an end
pub last_line : (b : ℕ) (line : List ℕ) → HasNoEnd (b ∷ line) → lines_of (b ∷ line) ≡ (b ∷ line) ∷ []
last_line b [] h = let other : b ≡ 10 → ⊥ = h 0 (omega arith) in grind (arith, nat_tests)
last_line b (c ∷ line) h =
    let later = last_line c line (λ k l e. h (suc k) (omega arith) e) in
    let other : b ≡ 10 → ⊥ = h 0 (omega arith) in
    grind (arith, nat_tests, later)

abbrev pub reading_of : State → Opening → ℕ → ℕ → ℕ → Option ReadEnd → Reading
reading_of s o start lines passed stop = record { modes = s; opening = o; start = start; lines = lines; passed = passed; stop = stop }

-- a line that is accepted
pub line_accepted : (m : Machine) (all : List ℕ) (known start lines passed : ℕ) (s t : State) (o : Opening) (line : List ℕ) (rest : List (List ℕ)) (a : Action) (p : Bool) (was_stop stop : Option ReadEnd) (told : List Item) → AreBytesKnown known (start + length line) (length all) → line_result known start s line ≡ Ok (t, a) → p ≡ is_passed line → stop ≡ stop_by a (lines + 1) (passed + one_if p)
    → All IsGood (items_by m o s a) → IsOn m all (reading_of s o start lines passed was_stop) (line ∷ rest) told → IsRead m all (reading_of t (opening_by o a) (start + (length line + 1)) (lines + 1) (passed + one_if p) stop) rest (told ++ items_by m o s a)
line_accepted m all known start lines passed s t o line rest a p was_stop stop told is accepted passed_is stop_is good on = go (is_stop a) refl
  where
    same : line_result (length all) start s line ≡ Ok (t, a)
    same = sym (line_same known (length all) start s line is) ∙ accepted

    was : IsComing m (outcome_of m all) (behind_action (lines + 1) p s a (outcome (length all) t (lines + 1 + 1) (start + (length line + 1)) rest)) o lines passed told
    was = rw passed_is (rw same at on.coming)

    all_good : All IsGood (told ++ items_by m o s a)
    all_good = All-append IsGood told (items_by m o s a) on.good good

    none : (end : ReadEnd) → Some end ≡ None → ⊥
    none end e = cc

    some : (end : ReadEnd) → None ≡ Some end → ⊥
    some end e = cc

    same_end : (x y : ReadEnd) → Some x ≡ Some y → x ≡ y
    same_end x y e = cc

    go : (b : Bool) → is_stop a ≡ b → IsRead m all (reading_of t (opening_by o a) (start + (length line + 1)) (lines + 1) (passed + one_if p) stop) rest (told ++ items_by m o s a)
    go true stops =
        let end : ReadEnd = record { lines = lines + 1; passed = passed + one_if p; stop = Stop (lines + 1) } in
        let e : stop ≡ Some end = stop_is ∙ (rw stops refl) in
        record {
          goes = λ goes. absurd (none end (sym e ∙ goes));
          over = λ other is_end. subst (λ x. IsAll m all x (told ++ items_by m o s a)) (same_end end other (sym e ∙ is_end)) (all_stopped m all o s a p (outcome (length all) t (lines + 1 + 1) (start + (length line + 1)) rest) (lines + 1) lines passed told stops on.good was);
        }
    go false goes_on =
        let e : stop ≡ None = stop_is ∙ (rw goes_on refl) in
        record {
          goes = λ goes. record { coming = coming_on m (outcome_of m all) (outcome (length all) t (lines + 1 + 1) (start + (length line + 1)) rest) o s a p (lines + 1) lines passed told goes_on was; good = all_good };
          over = λ other is_end. absurd (some other (sym e ∙ is_end));
        }

-- a line that is refused
pub line_refused : (m : Machine) (all : List ℕ) (known start lines passed : ℕ) (s t : State) (o : Opening) (line : List ℕ) (rest : List (List ℕ)) (kind : LineKind) (was_stop : Option ReadEnd) (told : List Item) → AreBytesKnown known (start + length line) (length all) → line_result known start s line ≡ Err kind
    → IsOn m all (reading_of s o start lines passed was_stop) (line ∷ rest) told → IsRead m all (reading_of t o start lines passed (Some (record { lines = lines; passed = passed; stop = Refused (lines + 1) kind }))) rest (told ++ ending o.goes)
line_refused m all known start lines passed s t o line rest kind was_stop told is refused on =
    let same : line_result (length all) start s line ≡ Err kind = sym (line_same known (length all) start s line is) ∙ refused in
    let was : IsComing m (outcome_of m all) (record { deeds = []; passed = 0; stop = Refused (lines + 1) kind }) o lines passed told = rw same at on.coming in
    let end : ReadEnd = record { lines = lines; passed = passed; stop = Refused (lines + 1) kind } in
    record {
      goes = λ goes. absurd (none end goes);
      over = λ other is_end. subst (λ x. IsAll m all x (told ++ ending o.goes)) (same_end end other is_end) (all_refused m all o (lines + 1) lines passed kind told on.good was);
    }
  where
    none : (end : ReadEnd) → Some end ≡ None → ⊥
    none end e = cc

    same_end : (x y : ReadEnd) → Some x ≡ Some y → x ≡ y
    same_end x y e = cc

-- what follows from a success
pub ok_map : {E : Type 0} (r : Result (Unit {0}) E) (A B : Type 0) → (A → B) → OnOk r A → OnOk r B
ok_map (Ok x) A B f h = f h
ok_map (Err e) A B f h = tt

pub no_stop : (o : Option ReadEnd) (b : Bool) → b ≡ is_some o → b ≡ false → o ≡ None
no_stop None b e f = refl
no_stop (Some x) b e f = absurd (clash (sym e ∙ f))
  where
    clash : true ≡ false → ⊥
    clash p = cc

pub stopped : (o : Option ReadEnd) (b : Bool) → b ≡ is_some o → b ≡ true → o ≡ None → ⊥
stopped None b e f none = clash (sym e ∙ f)
  where
    clash : false ≡ true → ⊥
    clash p = cc
stopped (Some x) b e f none = clash none
  where
    clash : Some x ≡ None → ⊥
    clash p = cc

pub no_bytes : (xs : List ℕ) (b : Bool) → b ≡ (length xs == 0) → b ≡ true → xs ≡ []
no_bytes [] b e f = refl
no_bytes (x ∷ xs) b e f = absurd (clash (sym e ∙ f))
  where
    clash : (length (x ∷ xs) == 0) ≡ true → ⊥
    clash p = grind (arith, nat_tests)

last_lines : (carry : List ℕ) (b : Bool) → b ≡ (length carry == 0) → b ≡ false → HasNoEnd carry → lines_of (carry ++ []) ≡ carry ∷ []
last_lines [] b e f plain = absurd (clash (sym e ∙ f))
  where
    clash : true ≡ false → ⊥
    clash p = cc
last_lines (x ∷ xs) b e f plain = ap lines_of (append-nil (x ∷ xs)) ∙ last_line x xs plain

-- a reading that stopped, or behind which no byte stands
pub read_over : (m : Machine) (r : Reading) (carry text : List ℕ) (told : List Item) → (r.stop ≡ None → ⊥) → AreReading m r carry text told → IsRead m text r [] told
read_over m r carry text told over h = record {
  goes = λ none. absurd (over none);
  over = λ end is. subst (λ t. IsAll m t end told) (append-nil text) ((h.read []).over end is);
}

pub read_none : (m : Machine) (r : Reading) (carry text : List ℕ) (told : List Item) → carry ≡ [] → AreReading m r carry text told → IsRead m text r [] told
read_none m r carry text told none h = subst (λ t. IsRead m t r [] told) (append-nil text) (subst (λ c. IsRead m (text ++ []) r (lines_of (c ++ [])) told) none (h.read []))

-- the last line
pub read_rest : (m : Machine) (r new : Reading) (carry text : List ℕ) (told more : List Item) (b : Bool) → r.stop ≡ None → b ≡ (length carry == 0) → b ≡ false
    → ((all : List ℕ) (rest : List (List ℕ)) (before : List Item) → AreBytesKnown (r.start + length carry) (r.start + length carry) (length all) → IsOn m all r (carry ∷ rest) (before ++ more) → IsRead m all new rest (before ++ told)) → (before : List Item) → AreReading m r carry text (before ++ more) → IsRead m text new [] (before ++ told)
read_rest m r new carry text told more b goes some is_some read before h =
    let place = h.place goes in
    let on = (h.read []).goes goes in
    let one = subst (λ (ls : List (List ℕ)). IsOn m (text ++ []) r ls (before ++ more)) (last_lines carry b some is_some (h.open_end goes)) on in
    read text [] before (omega arith, inr place) (subst (λ t. IsOn m t r (carry ∷ []) (before ++ more)) (append-nil text) one)

-- nothing is read yet
pub read_first : (m : Machine) (s : State) (carry more : List ℕ) → s ≡ initial m → carry ≡ [] → IsRead m more (reading_of s (record { goes = false; dwell = 0 }) 0 0 0 None) (lines_of (carry ++ more)) []
unfolding outcome_of
read_first m s carry more is none = rw (is, none) (record {
  goes = λ goes. record { coming = record { items = refl; count = omega arith; passed_is = omega arith; stop = refl }; good = All-nil IsGood };
  over = λ end e. absurd (clash end e);
})
  where
    clash : (end : ReadEnd) → None ≡ Some end → ⊥
    clash end e = cc

pub is_stop_none : (o : Option ReadEnd) (b : Bool) → is_some o ≡ not b → b ≡ true → o ≡ None
is_stop_none None b e f = refl
is_stop_none (Some x) b e f = absurd (clash (e ∙ ap not f))
  where
    clash : true ≡ false → ⊥
    clash p = cc

taken_plain : (e : ℕ) (xs : List ℕ) → ((k : ℕ) → k < e → get_or xs k 0 ≡ 10 → ⊥) → HasNoEnd (take e xs)
taken_plain zero xs h = λ k l p. absurd (omega arith)
taken_plain (suc e) [] h = λ k l p. absurd (omega arith)
taken_plain (suc e) (x ∷ xs) h = at (taken_plain e xs (λ j m q. h (suc j) (omega arith) q))
  where
    at : HasNoEnd (take e xs) → (k : ℕ) → k < length (x ∷ take e xs) → get_or (x ∷ take e xs) k 0 ≡ 10 → ⊥
    at later zero l p = h 0 (omega arith) p
    at later (suc k) l p = later k (omega arith) p

pub taken_length : (e : ℕ) (xs : List ℕ) → e ≤ length xs → length (take e xs) ≡ e
taken_length zero xs h = refl
taken_length (suc e) [] h = absurd (omega arith)
taken_length (suc e) (x ∷ xs) h = let r = taken_length e xs (omega arith) in omega arith

-- one more whole line
pub lines_next : (m : Machine) (all more text : List ℕ) (r new : Reading) (start used e n : ℕ) (told old now : List Item) → n ≡ e → used ≤ length text → e < length (drop used text) → get_or (drop used text) e 0 ≡ 10 → ((k : ℕ) → k < e → get_or (drop used text) k 0 ≡ 10 → ⊥)
    → r.stop ≡ None → (r.stop ≡ None → r.start ≡ start + used) → start + length text ≤ length all
    → ((all : List ℕ) (rest : List (List ℕ)) (told : List Item) → AreBytesKnown (start + length text) (r.start + length (take n (drop used text))) (length all) → IsOn m all r (take n (drop used text) ∷ rest) (told ++ old) → IsRead m all new rest (told ++ now))
    → IsRead m all r (lines_of (drop used text ++ more)) (told ++ old) → IsRead m all new (lines_of (drop (used + (e + 1)) text ++ more)) (told ++ now)
lines_next m all more text r new start used e n told old now same within inside ends plain none place known read was =
    let rest = drop used text in
    let line = take e rest in
    let split : rest ≡ line ++ 10 ∷ drop (e + 1) rest = sym (take-append-drop e rest) ∙ ap (λ xs. line ++ xs) (drop_more rest e 0 inside ∙ ap (λ x. x ∷ drop (e + 1) rest) ends) in
    let lines : lines_of (rest ++ more) ≡ line ∷ lines_of (drop (used + (e + 1)) text ++ more) = ap (λ xs. lines_of (xs ++ more)) split ∙ ap lines_of (append_assoc line (10 ∷ drop (e + 1) rest) more) ∙ whole_line line (drop (e + 1) rest ++ more) (taken_plain e rest plain) ∙ ap (λ xs. line ∷ lines_of (xs ++ more)) (drop-drop (e + 1) used text) in
    let at = place none in
    let len = length-drop used text in
    let own = taken_length e rest (omega arith) in
    let Read : ℕ → Type 0 = λ k. (all : List ℕ) (rest' : List (List ℕ)) (told : List Item) → AreBytesKnown (start + length text) (r.start + length (take k rest)) (length all) → IsOn m all r (take k rest ∷ rest') (told ++ old) → IsRead m all new rest' (told ++ now) in
    subst Read same read all (lines_of (drop (used + (e + 1)) text ++ more)) told (known, inl (omega arith)) (subst (λ (ls : List (List ℕ)). IsOn m all r ls (told ++ old)) lines (was.goes none))

-- more bytes were read
pub reader_read : (m : Machine) (r new : Reading) (carry bytes both left text : List ℕ) (used : ℕ) (told old now : List Item) → r.stop ≡ None → both ≡ carry ++ bytes → left ≡ drop used both → used ≤ length both
    → (new.stop ≡ None → new.start ≡ r.start + used) → (new.stop ≡ None → HasNoEnd (drop used both))
    → ((all more : List ℕ) (told : List Item) → r.start + length both ≤ length all → IsOn m all r (lines_of (both ++ more)) (told ++ old) → IsRead m all new (lines_of (drop used both ++ more)) (told ++ now))
    → AreReading m r carry text (told ++ old) → AreReading m new left (text ++ bytes) (told ++ now)
reader_read m r new carry bytes both left text used told old now none both_is left_is within place plain read h =
    let at = h.place none in
    let l1 = ap (λ (xs : List ℕ). length xs) both_is in
    let l2 = length-append carry bytes in
    let l3 = ap (λ (xs : List ℕ). length xs) left_is in
    let l4 = length-drop used both in
    let l5 = length-append text bytes in
    record {
      place = λ goes. (let p = place goes in omega arith);
      open_end = λ goes. subst HasNoEnd (sym left_is) (plain goes);
      read = λ more. (
          let all = (text ++ bytes) ++ more in
          let l6 = length-append (text ++ bytes) more in
          let on = (h.read (bytes ++ more)).goes none in
          let one = subst (λ (t : List ℕ). IsOn m t r (lines_of (carry ++ (bytes ++ more))) (told ++ old)) (sym (append_assoc text bytes more)) on in
          let two = subst (λ (t : List ℕ). IsOn m all r (lines_of t) (told ++ old)) (sym (append_assoc carry bytes more) ∙ ap (λ xs. xs ++ more) (sym both_is)) one in
          subst (λ (t : List ℕ). IsRead m all new (lines_of (t ++ more)) (told ++ now)) (sym left_is) (read all more told (omega arith) two));
    }

-- nothing is read behind a stop
pub reader_stopped : (m : Machine) (r : Reading) (carry bytes text : List ℕ) (told : List Item) → (r.stop ≡ None → ⊥) → AreReading m r carry text told → AreReading m r carry (text ++ bytes) told
reader_stopped m r carry bytes text told over h = record {
  place = λ goes. absurd (over goes);
  open_end = λ goes. absurd (over goes);
  read = λ more. record {
    goes = λ goes. absurd (over goes);
    over = λ end is. subst (λ t. IsAll m t end told) (sym (append_assoc text bytes more)) ((h.read (bytes ++ more)).over end is);
  };
}

-- what was told is the first of all
pub told_first : (m : Machine) (all : List ℕ) (r : Reading) (lines : List (List ℕ)) (told : List Item) → IsRead m all r lines told → (rest : List Item) × (items_of (program_sections m all) ≡ told ++ rest)
told_first m all r lines told h = by r.stop refl
  where
    by : (o : Option ReadEnd) → r.stop ≡ o → (rest : List Item) × (items_of (program_sections m all) ≡ told ++ rest)
    by None is = (let on = h.goes is in (items_from m r.opening (outcome (length all) r.modes (r.lines + 1) r.start lines).deeds, told_all m (outcome_of m all).deeds ∙ sym on.coming.items))
    by (Some end) is = ([], (h.over end is).items ∙ sym (append-nil told))
