-- The text of a load, as it is read.
use Rattle.std.proofs.Common.{◌≡◌, ◌∙◌, ℕ, zero, suc, ◌+◌, ◌*◌, ◌/◌, ◌%◌, ◌≤◌, Bool, true, false, codes, List, [], ◌∷◌, ◌++◌, length, refl, ap, sym, arith, append_assoc, append-nil, length-append, if◌then◌else◌, rules}
use Rattle.std.specs.Prelude.{Ok}
use Rattle.text_core.specs.Lines.{lines_of}
use Rattle.laws_board.proofs.Names.{Move}
use Rattle.plan_types.specs.declared.plan.ReadEnd.{ReadEnd}
use Rattle.plan_types.specs.declared.plan.ReadStop.TheVariants.{End}
use Rattle.gcode_text.specs.Commands.{table_entry, head_of, unnumbered}
use Rattle.gcode_text.specs.Lines.{given_at, reading, given_words}
use Rattle.text_core.specs.Numbers.{amount, is_readable, number_at, parts_of, signed, value_of}
use Rattle.gcode_state.specs.declared.state.Action.TheVariants as actions
use Rattle.gcode_state.specs.declared.state.State.{State}
use Rattle.gcode_state.specs.States.{aim_of, has_relative_e, is_any_outside, is_any_unhomed, is_long, is_slow, is_too_many, linear, move_fault, moved, moves, stretched, unmeasured}
use Rattle.gcode_program.specs.Cuts.{closed, sections_of}
use Rattle.gcode_program.specs.Programs.{outcome_of, program_end, program_sections}
use Rattle.gcode_program.specs.Readings.{Deed, Outcome, applied_line, deed_of, is_passed, is_stop, outcome}
use Rattle.bed_mesh.specs.BentLines.{joined_lines}
use Rattle.generated_load.specs.Printer.{load_machine}
use Rattle.generated_load.specs.Text.{load_moves, load_text, millimetres, next_random, upper}
use Rattle.laws_report.specs.loads.Path.{accepted_whole, load_move, load_path}
use Rattle.laws_report.specs.meshes.Bent.{differ, origin}
use Rattle.laws_report.proofs.loads.Lines.{act_by, begins, count_by, move_applied, move_passed, place, standing}
use Rattle.laws_report.proofs.loads.Words.{place_line, plain_line, short_line}
use Rattle.laws_report.proofs.meshes.Telling.{AllPlain, AreRead, both_read, lines_back, most, none_read, one_read}

abbrev line_at : ℕ → List ℕ
line_at u = place_line (u % 200_001) (u / 200_001 % 200_001)

-- the lines of so many moves behind a state of the generator
abbrev load_lines : ℕ → ℕ → List (List ℕ)
load_lines zero state = []
load_lines (suc n) state = line_at (upper (next_random state)) ∷ load_lines n (next_random state)

ended : (p a q b rest : List ℕ) → (p ++ (a ++ (q ++ b))) ++ 10 ∷ rest ≡ (p ++ (a ++ (q ++ (b ++ 10 ∷ [])))) ++ rest
ended p a q b rest = search (rules, append_assoc)

lines_text : (n state : ℕ) → joined_lines (load_lines n state) ≡ load_moves n state
lines_text zero state = refl
lines_text (suc n) state =
    let u = upper (next_random state) in
    ended (codes "G1 X") (millimetres (u % 200_001)) (codes " Y") (millimetres (u / 200_001 % 200_001)) (joined_lines (load_lines n (next_random state)))
    ∙ ap (λ (t : List ℕ). (codes "G1 X" ++ (millimetres (u % 200_001) ++ (codes " Y" ++ (millimetres (u / 200_001 % 200_001) ++ 10 ∷ [])))) ++ t) (lines_text n (next_random state))

lines_plain : (n state : ℕ) → AllPlain (load_lines n state)
lines_plain zero state = tt
lines_plain (suc n) state = (plain_line (upper (next_random state) % 200_001) (upper (next_random state) / 200_001 % 200_001), lines_plain n (next_random state))

lines_size : (n state : ℕ) → length (joined_lines (load_lines n state)) ≤ 21 * n
lines_size zero state = omega arith
lines_size (suc n) state =
    let u = upper (next_random state) in
    let one = short_line (u % 200_001) (u / 200_001 % 200_001) (omega arith) (omega arith) in
    let more = lines_size n (next_random state) in
    let both = length-append (line_at u) (10 ∷ joined_lines (load_lines n (next_random state))) in
    omega (arith, one, more, both)

lines_many : (n state : ℕ) → length (load_lines n state) ≡ n
lines_many zero state = refl
lines_many (suc n) state = ap suc (lines_many n (next_random state))

-- so many lines of moves are read, and what they do is their path
record AreLoaded (n state x y count lines : ℕ) : Type 0 where
  behind : State
  deeds : List Deed
  read : AreRead (standing 6_000_000_000 x y count lines) (load_lines n state) behind deeds
  path : (before : List Move) → sections_of load_machine 0 before deeds ≡ closed 0 (before ++ load_path n state (place x y))

counted_once : (b : Bool) (count : ℕ) → (if b then count + 1 else count) ≤ count + 1
counted_once true count = omega arith
counted_once false count = omega arith

pub goes : (b : Bool) (mv : Move) → is_stop (if b then actions.Move mv else actions.None) ≡ false
goes true mv = refl
goes false mv = refl

taken : (w : State) (b : Bool) (mv : Move) (path before : List Move) (deeds : List Deed) → ((some : List Move) → sections_of load_machine 0 some deeds ≡ closed 0 (some ++ path))
    → sections_of load_machine 0 before (deed_of w (if b then actions.Move mv else actions.None) ∷ deeds) ≡ closed 0 (before ++ ((if b then mv ∷ [] else []) ++ path))
taken w true mv path before deeds more = more (before ++ mv ∷ []) ∙ ap (closed 0) (append_assoc before (mv ∷ []) path)
taken w false mv path before deeds more = more before

loaded : (n state x y count lines : ℕ) → count + n ≤ 2_000_000 → AreLoaded n state x y count lines
loaded zero state x y count lines few = record {
  behind = standing 6_000_000_000 x y count lines;
  deeds = [];
  read = none_read (standing 6_000_000_000 x y count lines);
  path = λ before. ap (closed 0) (sym (append-nil before));
}
loaded (suc n) state x y count lines few =
    let u = upper (next_random state) in
    let a = u % 200_001 in
    let b = u / 200_001 % 200_001 in
    let from = place x y in
    let to = place (a * 1_000) (b * 1_000) in
    let w = standing 6_000_000_000 x y count lines in
    let v = standing 6_000_000_000 (a * 1_000) (b * 1_000) (count_by count from to) (lines + 1) in
    let once = counted_once (differ from to) count in
    let rest = loaded n (next_random state) (a * 1_000) (b * 1_000) (count_by count from to) (lines + 1) (omega (arith, once)) in
    let one = one_read w v (line_at u) (act_by from to) (move_applied x y a b count lines (omega arith) (omega arith) (omega arith)) (move_passed a b (omega arith) (omega arith)) (goes (differ from to) (load_move from to)) in
    record {
      behind = rest.behind;
      deeds = deed_of w (act_by from to) ∷ rest.deeds;
      read = both_read w v rest.behind (line_at u ∷ []) (load_lines n (next_random state)) (deed_of w (act_by from to) ∷ []) rest.deeds one rest.read;
      path = λ before. taken w (differ from to) (load_move from to) (load_path n (next_random state) to) before rest.deeds rest.path;
    }

-- the first line
abbrev speed_line : List ℕ
speed_line = codes "G1 F6000"

speed_applied : applied_line (standing 1_500_000_000 0 0 0 0) speed_line ≡ Ok (standing 6_000_000_000 0 0 0 1, actions.None)
unfolding applied_line reading head_of unnumbered table_entry given_words value_of given_at number_at parts_of is_readable amount signed linear move_fault is_slow is_any_unhomed is_any_outside is_long is_too_many moved moves unmeasured aim_of has_relative_e stretched
speed_applied = refl

speed_passed : is_passed speed_line ≡ false
unfolding is_passed reading head_of unnumbered table_entry given_words value_of given_at number_at parts_of is_readable amount signed
speed_passed = refl

text_is : (seed n : ℕ) → load_text seed n ≡ joined_lines (speed_line ∷ load_lines n seed)
unfolding load_text
text_is seed n = ap (λ (t : List ℕ). codes "G1 F6000\n" ++ t) (sym (lines_text n seed))

lines_are : (seed n : ℕ) → lines_of (load_text seed n) ≡ speed_line ∷ load_lines n seed
lines_are seed n =
    ap lines_of (text_is seed n ∙ sym (append-nil (joined_lines (speed_line ∷ load_lines n seed)))) ∙ lines_back (speed_line ∷ load_lines n seed) [] ((refl, (refl, (refl, (refl, (refl, (refl, (refl, (refl, tt)))))))), lines_plain n seed) ∙ append-nil (speed_line ∷ load_lines n seed)

-- the whole text
record IsLoaded (seed n : ℕ) : Type 0 where
  deeds : List Deed
  is : outcome_of load_machine (load_text seed n) ≡ record { deeds = deeds; passed = 0; stop = End }
  many : length deeds ≡ n + 1
  path : sections_of load_machine 0 [] deeds ≡ closed 0 (load_path n seed origin)

whole : (seed n : ℕ) → n ≤ 2_000_000 → IsLoaded seed n
unfolding outcome_of
whole seed n few =
    let w = standing 1_500_000_000 0 0 0 0 in
    let v = standing 6_000_000_000 0 0 0 1 in
    let rest = loaded n seed 0 0 0 1 (omega arith) in
    let deeds : List Deed = deed_of w actions.None ∷ rest.deeds in
    let all = speed_line ∷ load_lines n seed in
    let read = both_read w v rest.behind (speed_line ∷ []) (load_lines n seed) (deed_of w actions.None ∷ []) rest.deeds (one_read w v speed_line actions.None speed_applied speed_passed refl) rest.read in
    let size = ap length (text_is seed n) in
    let long = lines_size n seed in
    let fits : length (load_text seed n) ≤ most = omega arith in
    record {
      deeds = deeds;
      is = ap (λ (s : State). outcome (length (load_text seed n)) s 1 0 (lines_of (load_text seed n))) begins
          ∙ ap (λ (l : List (List ℕ)). outcome (length (load_text seed n)) w 1 0 l) (lines_are seed n ∙ sym (append-nil all))
          ∙ read.same (length (load_text seed n)) 0 0 [] fits
          ∙ ap (λ (ds : List Deed). (let o : Outcome = record { deeds = ds; passed = 0; stop = End } in o)) (append-nil deeds);
      many = (let c : length deeds ≡ suc (length (load_lines n seed)) = read.count in let k = lines_many n seed in omega (arith, c, k));
      path = rest.path [];
    }

pub load_end : (seed n : ℕ) → n ≤ 2_000_000 → program_end load_machine (load_text seed n) ≡ accepted_whole (n + 1)
load_end seed n few =
    let x = whole seed n few in
    ap (λ (o : Outcome). (let e : ReadEnd = record { lines = length o.deeds; passed = o.passed; stop = o.stop } in e)) x.is ∙ ap accepted_whole x.many

pub load_sections : (seed n : ℕ) → n ≤ 2_000_000 → program_sections load_machine (load_text seed n) ≡ closed 0 (load_path n seed origin)
load_sections seed n few = let x = whole seed n few in ap (λ (o : Outcome). sections_of load_machine 0 [] o.deeds) x.is ∙ x.path
