-- How written lines are read, one behind the other.
use Rattle.std.proofs.Common.{◌≡◌, ◌∙◌, ℕ, zero, suc, ◌+◌, ◌≤◌, ◌<◌, if◌then◌else◌, get_or, Bool, true, false, List, [], ◌∷◌, ◌++◌, length, length-append, refl, ap, arith, append_assoc, rules}
use Rattle.std.specs.Prelude.{Result, Ok, Err}
use Rattle.laws_board.proofs.Names.{nat_tests, ReadStop}
use Rattle.text_core.specs.Lines.{lines_of}
use Rattle.plan_types.specs.declared.cause.LineKind.{LineKind}
use Rattle.plan_types.specs.declared.cause.LineKind.TheVariants as kinds
use Rattle.plan_types.specs.declared.plan.ReadStop.TheVariants.{End, Stop, Refused}
use Rattle.gcode_state.specs.declared.state.State.{State}
use Rattle.gcode_state.specs.declared.state.Action.{Action}
use Rattle.gcode_state.specs.declared.state.Action.TheVariants as actions
use Rattle.gcode_program.specs.Readings.{Deed, Outcome, applied_line, deed_of, is_large, is_passed, is_stop, line_result, outcome, with_front}
use Rattle.gcode_program.proofs.Behind.{goes_on}
use Rattle.gcode_program.proofs.Lining.{whole_line}
use Rattle.bed_mesh.specs.Files.{accepted_state, on_accepted}
use Rattle.bed_mesh.specs.BentLines.{joined_lines}
use Rattle.bed_mesh.proofs.Writing.{texts_both}
use Rattle.laws_report.proofs.meshes.Spelling.{ArePlain, is_plain}

-- the greatest size of a file
abbrev pub most : ℕ
most = 1073741824

abbrev pub AllPlain : List (List ℕ) → Type 0
AllPlain [] = Unit {0}
AllPlain (line ∷ lines) = ArePlain line × AllPlain lines

pub plain_lines : (a b : List (List ℕ)) → AllPlain a → AllPlain b → AllPlain (a ++ b)
plain_lines [] b h k = k
plain_lines (line ∷ a) b h k = (h.0, plain_lines a b h.1 k)

no_end : (b : ℕ) → is_plain b ≡ true → b ≡ 10 → ⊥
no_end b h e = (let k = rw e at h in cc)

pub no_ends : (line : List ℕ) → ArePlain line → (k : ℕ) → k < length line → get_or line k 0 ≡ 10 → ⊥
no_ends [] h k less e = omega arith
no_ends (b ∷ line) h zero less e = no_end b h.0 e
no_ends (b ∷ line) h (suc k) less e = no_ends line h.1 k (omega arith) e

-- the lines of a text are those that were written
pub lines_back : (lines : List (List ℕ)) (rest : List ℕ) → AllPlain lines → lines_of (joined_lines lines ++ rest) ≡ lines ++ lines_of rest
lines_back [] rest h = refl
lines_back (line ∷ lines) rest h =
    ap lines_of (append_assoc line (10 ∷ joined_lines lines) rest) ∙ whole_line line (joined_lines lines ++ rest) (no_ends line h.0) ∙ ap (λ (l : List (List ℕ)). line ∷ l) (lines_back lines rest h.1)

-- a line that is accepted, and those behind it
abbrev pub IsFirst : ℕ → State → List ℕ → List (List ℕ) → State → Type 0
IsFirst start w line lines v = (u : State) × (act : Action) × (applied_line w line ≡ Ok (u, act)) × (accepted_state (start + (length line + 1)) u lines ≡ Ok v)

pub first_of : (start : ℕ) (w v : State) (line : List ℕ) (lines : List (List ℕ)) → accepted_state start w (line ∷ lines) ≡ Ok v → IsFirst start w line lines v
unfolding line_result
first_of start w v line lines h = go (is_large (start + (length line + 1)) start line) (applied_line w line) refl h where
  go : (large : Bool) (r : Result (State × Action) LineKind) → applied_line w line ≡ r → on_accepted (if large then Err kinds.TooLarge else r) (λ t. accepted_state (start + (length line + 1)) t lines) ≡ Ok v → IsFirst start w line lines v
  go true r is e = absurd cc
  go false (Err kind) is e = absurd cc
  go false (Ok next) is e = (next.0, next.1, is, e)

not_large : (size start : ℕ) (line : List ℕ) → size ≤ most → is_large size start line ≡ false
not_large size start line h = grind (arith, nat_tests)

pub result_of : (size start : ℕ) (w u : State) (line : List ℕ) (act : Action) → size ≤ most → applied_line w line ≡ Ok (u, act) → line_result size start w line ≡ Ok (u, act)
unfolding line_result
result_of size start w u line act few h = let e = not_large size start line few in rw (e, h) refl

-- lines that are read, and what they do, in every file that isn't too large
pub record AreRead (w : State) (lines : List (List ℕ)) (u : State) (deeds : List Deed) : Type 0 where
  pub same : (size number start : ℕ) (more : List (List ℕ)) → size ≤ most → outcome size w (number + 1) start (lines ++ more) ≡ with_front deeds 0 (outcome size u (number + length lines + 1) (start + length (joined_lines lines)) more)
  pub count : length deeds ≡ length lines

fronts : (a b : List Deed) (o : Outcome) → with_front a 0 (with_front b 0 o) ≡ with_front (a ++ b) 0 o
fronts a b o = let e : 0 + (0 + o.passed) ≡ 0 + o.passed = omega arith in rw (append_assoc a b o.deeds, e) refl

no_front : (o : Outcome) → o ≡ with_front [] 0 o
no_front o = let e : 0 + o.passed ≡ o.passed = omega arith in rw e refl

pub none_read : (w : State) → AreRead w [] w []
none_read w = search (rules, no_front)

line_size : (line : List ℕ) → length (joined_lines (line ∷ [])) ≡ length line + 1
line_size line = length-append line (10 ∷ [])

pub one_read : (w u : State) (line : List ℕ) (act : Action) → applied_line w line ≡ Ok (u, act) → is_passed line ≡ false → is_stop act ≡ false → AreRead w (line ∷ []) u (deed_of w act ∷ [])
one_read w u line act h passed goes = record {
  same = λ size number start more few. (let r = result_of size start w u line act few h in let s = line_size line in
      let g = goes_on (number + 1) false w act (outcome size u (number + 1 + 1) (start + (length line + 1)) more) goes in
      rw (passed, r, s) g);
  count = refl;
}

pub both_read : (w u v : State) (a b : List (List ℕ)) (ds es : List Deed) → AreRead w a u ds → AreRead u b v es → AreRead w (a ++ b) v (ds ++ es)
both_read w u v a b ds es one two = search (rules, length-append, texts_both, append_assoc, fronts)

abbrev pub outcome_with : List Deed → ReadStop → Outcome
outcome_with deeds stop = record { deeds = deeds; passed = 0; stop = stop }

-- how lines are read that stop so, and what they do
abbrev pub AreTold : ReadStop → State → List (List ℕ) → List Deed → Type 0
AreTold (Stop n) w lines deeds =
    ((size number start : ℕ) (more : List (List ℕ)) → size ≤ most → outcome size w (number + 1) start (lines ++ more) ≡ record { deeds = deeds; passed = 0; stop = Stop (number + length lines) }) × (length deeds ≡ length lines)
AreTold other w lines deeds = (u : State) × AreRead w lines u deeds

pub read_told : (stop : ReadStop) (w u : State) (a b : List (List ℕ)) (ds es : List Deed) → AreRead w a u ds → AreTold stop u b es → AreTold stop w (a ++ b) (ds ++ es)
read_told (Stop n) w u a b ds es one two = (
  (λ size number start more few. (
      let k : number + length a + length b ≡ number + length (a ++ b) = (let l = length-append a b in omega arith) in
      ap (λ (l : List (List ℕ)). outcome size w (number + 1) start l) (append_assoc a b more)
      ∙ one.same size number start (b ++ more) few
      ∙ ap (λ (o : Outcome). with_front ds 0 o) (two.0 size (number + length a) (start + length (joined_lines a)) more few)
      ∙ ap (λ (i : ℕ). outcome_with (ds ++ es) (Stop i)) k)),
  (let x = one.count in let y = two.1 in let l = length-append ds es in let k = length-append a b in omega arith),
)
read_told c w u a b ds es one two = (two.0, both_read w u two.0 a b ds es one two.1)

-- a line that asks for a stop
pub stop_told : (n : ℕ) (w u : State) (line : List ℕ) → applied_line w line ≡ Ok (u, actions.Stop) → is_passed line ≡ false → AreTold (Stop n) w (line ∷ []) (deed_of w actions.Stop ∷ [])
stop_told n w u line h passed =
    ((λ size number start more few. (let r = result_of size start w u line actions.Stop few h in rw (passed, r) refl)), refl)

-- accepted lines fit a file
large_no : (start size : ℕ) (line : List ℕ) → is_large (start + (size + 1)) start line ≡ false → size ≡ length line → start + (size + 1) ≤ most
large_no start size line h e = grind (arith, nat_tests)

line_fits : (start : ℕ) (w v : State) (line : List ℕ) (lines : List (List ℕ)) → accepted_state start w (line ∷ lines) ≡ Ok v → start + (length line + 1) ≤ most
unfolding line_result
line_fits start w v line lines h = go (is_large (start + (length line + 1)) start line) refl h where
  go : (large : Bool) → is_large (start + (length line + 1)) start line ≡ large → on_accepted (if large then Err kinds.TooLarge else applied_line w line) (λ t. accepted_state (start + (length line + 1)) t lines) ≡ Ok v → start + (length line + 1) ≤ most
  go true is e = absurd cc
  go false is e = large_no start (length line) line is refl

pub lines_fit : (start : ℕ) (w v : State) (lines : List (List ℕ)) → start ≤ most → accepted_state start w lines ≡ Ok v → start + length (joined_lines lines) ≤ most
lines_fit start w v [] few h = omega arith
lines_fit start w v (line ∷ lines) few h =
    let f = first_of start w v line lines h in
    let rest = lines_fit (start + (length line + 1)) f.0 v lines (line_fits start w v line lines h) f.3 in
    let size = length-append line (10 ∷ joined_lines lines) in
    omega (arith, rest, size)
