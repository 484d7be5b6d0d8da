-- No text has more lines than its first 2^30 bytes.
use Rattle.std.proofs.Common.{◌≡◌, ℕ, suc, ◌+◌, ◌-◌, ◌∙◌, ◌<◌, ◌≤◌, Bool, true, false, List, [], ◌∷◌, length, arith, inl, inr, refl, subst, sym, ap}
use Rattle.std.specs.Prelude.{◌==◌, ◌&&◌, if◌then◌else◌, nat_le, Result, Ok, Err}
use Rattle.laws_board.proofs.Names.{leb_tells, Machine, ReadStop}
use Rattle.gcode_state.specs.States.{one_if}
use Rattle.plan_types.specs.declared.cause.LineKind.{LineKind}
use Rattle.plan_types.specs.declared.cause.LineKind.TheVariants as kinds
use Rattle.plan_types.specs.declared.plan.ReadStop.TheVariants.{End, Stop, Refused}
use Rattle.text_core.specs.Lines.{lines_of, with_first}
use Rattle.gcode_state.specs.declared.state.Action.{Action}
use Rattle.gcode_state.specs.declared.state.Action.TheVariants as actions
use Rattle.gcode_state.specs.declared.state.State.{State}
use Rattle.gcode_state.specs.Starts.{initial}
use Rattle.gcode_program.specs.Programs.{outcome_of}
use Rattle.gcode_program.specs.Readings.{Outcome, applied_line, behind_action, behind_line, is_large, is_passed, line_result, outcome}

-- a text has no more lines than bytes
pub lines_few : (text : List ℕ) → length (lines_of text) ≤ length text
lines_few [] = omega arith
lines_few (b ∷ bs) = by (b == 10) (lines_of bs) (lines_few bs) where
  first_long : (ls : List (List ℕ)) → length (with_first b ls) ≤ length ls + 1
  first_long [] = omega arith
  first_long (l ∷ ls) = omega arith

  by : (t : Bool) (ls : List (List ℕ)) → length ls ≤ length bs → length (if t then [] ∷ ls else with_first b ls) ≤ length (b ∷ bs)
  by true ls few = omega (arith, few)
  by false ls few = (let h = first_long ls in omega (arith, few, h))

-- the line at which the reading stopped, 0 for none
abbrev pub stop_line : ReadStop → ℕ
stop_line End = 0
stop_line (Stop line) = line
stop_line (Refused line kind) = line

-- at most so many lines were accepted from a number on
pub record AreFew (o : Outcome) (number n : ℕ) : Type 0 where
  pub deeds : length o.deeds ≤ n
  pub passed : o.passed ≤ n
  pub stop : stop_line o.stop ≤ number + n

one_few : (b : Bool) → one_if b ≤ 1
one_few true = omega arith
one_few false = omega arith

action_few : (number : ℕ) (p : Bool) (s : State) (a : Action) (o : Outcome) (n : ℕ) → AreFew o (number + 1) n → AreFew (behind_action number p s a o) number (n + 1)
action_few number p s actions.Stop o n few = (let one = one_few p in record { deeds = omega arith; passed = omega (arith, one); stop = omega arith })
action_few number p s c o n few = (let one = one_few p in let d = few.deeds in let q = few.passed in let z = few.stop in record { deeds = omega (arith, d); passed = omega (arith, one, q); stop = omega (arith, z) })

more_few : (o : Outcome) (number n k : ℕ) → n ≤ k → AreFew o number n → AreFew o number k
more_few o number n k low few = (let d = few.deeds in let q = few.passed in let z = few.stop in record { deeds = omega (arith, d, low); passed = omega (arith, q, low); stop = omega (arith, z, low) })

-- of a line and the lines behind it, which are few
line_few : (number : ℕ) (p : Bool) (s : State) (r : Result (State × Action) LineKind) (f : State → Outcome) (n : ℕ) → ((t : State) → AreFew (f t) (number + 1) n) → AreFew (behind_line number p s r f) number (n + 1)
line_few number p s (Err kind) f n later = record { deeds = omega arith; passed = omega arith; stop = omega arith }
line_few number p s (Ok next) f n later = action_few number p s next.1 (f next.0) n (later next.0)

-- no more than there are
all_few : (size : ℕ) (s : State) (number start : ℕ) (lines : List (List ℕ)) → AreFew (outcome size s number start lines) number (length lines)
all_few size s number start [] = record { deeds = omega arith; passed = omega arith; stop = omega arith }
all_few size s number start (line ∷ lines) =
    let one = line_few number (is_passed line) s (line_result size start s line) (λ t. outcome size t (number + 1) (start + (length line + 1)) lines) (length lines) (λ t. all_few size t (number + 1) (start + (length line + 1)) lines) in
    more_few (outcome size s number start (line ∷ lines)) number (length lines + 1) (length (line ∷ lines)) (omega arith) one

-- where the text is large, no more than begin in its first 2^30 bytes
large_few : (size : ℕ) (s : State) (number start n : ℕ) (lines : List (List ℕ)) → 1_073_741_824 < size → start + n ≡ 1_073_741_824 → AreFew (outcome size s number start lines) number n
unfolding line_result
large_few size s number start n [] large left = record { deeds = omega arith; passed = omega arith; stop = omega arith }
large_few size s number start n (line ∷ lines) large left =
    large_line (λ t. outcome size t (number + 1) (start + (length line + 1)) lines) (is_large size start line) refl (λ k t e. large_few size t (number + 1) (start + (length line + 1)) k lines large e) where
      Line : (State → Outcome) → Bool → Outcome
      Line rest b = behind_line number (is_passed line) s (if b then Err kinds.TooLarge else applied_line s line) rest

      large_line : (rest : State → Outcome) (b : Bool) → is_large size start line ≡ b → ((k : ℕ) (t : State) → start + (length line + 1) + k ≡ 1_073_741_824 → AreFew (rest t) (number + 1) k) → AreFew (Line rest (is_large size start line)) number n
      large_line rest true is later = subst (λ (b : Bool). AreFew (Line rest b) number n) (sym is) (record { deeds = omega arith; passed = omega arith; stop = omega arith })
      large_line rest false is later = elim (leb_tells 1_073_741_825 size) [
        | inr p ↦ absurd (omega (arith, p.1, large))
        | inl p ↦ elim (leb_tells 1_073_741_824 (start + length line)) [
          | inl q ↦ absurd (let e : true ≡ false = sym (ap (λ (b : Bool). b && nat_le 1_073_741_824 (start + length line)) p.0 ∙ q.0) ∙ is in cc)
          | inr q ↦
              let k = n - (length line + 1) in
              let low = q.1 in
              let one = line_few number (is_passed line) s (applied_line s line) rest k (λ t. later k t (omega (arith, left, low))) in
              subst (λ (b : Bool). AreFew (Line rest b) number n) (sym is) (more_few (Line rest false) number (k + 1) n (omega (arith, left, low)) one)
        ]
      ]

-- so of every text
pub read_few : (m : Machine) (text : List ℕ) → AreFew (outcome_of m text) 1 1_073_741_824
unfolding outcome_of
read_few m text = elim (leb_tells (suc 1_073_741_824) (length text)) [
  | inl p ↦ large_few (length text) (initial m) 1 0 1_073_741_824 (lines_of text) (omega (arith, p.1)) refl
  | inr p ↦ more_few (outcome (length text) (initial m) 1 0 (lines_of text)) 1 (length (lines_of text)) 1_073_741_824 (let few = lines_few text in omega (arith, few, p.1)) (all_few (length text) (initial m) 1 0 (lines_of text))
]
