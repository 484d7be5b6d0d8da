-- The steppers of a board, found one by one among those of the machine.
use Rattle.std.proofs.Common.{◌≡◌, ℕ, zero, suc, ◌+◌, ◌-◌, ◌*◌, ◌<◌, ◌≤◌, Bool, true, false, cond, eqb, Some, None, List, [], ◌∷◌, length, get_or, take, count_by, arith, ap, sym, ◌∙◌, refl, subst}
use Rattle.std.proofs.lemmas.Bool.{eq-eqb}
use Rattle.std.proofs.lemmas.List.{take_all}
use Rattle.std.proofs.lemmas.List.Recursion.{is_count_by}
use Rattle.std.proofs.lemmas.List.Sums.{count_by_more_no, count_by_more_yes}
use Rattle.plan_types.specs.declared.machine.Machine.{Machine}
use Rattle.plan_types.specs.declared.machine.StepperDef.{StepperDef}
use Rattle.plan_types.specs.Clock.{turn_ns}
use Rattle.plan_types.specs.Lines.{Clocks, lines_tick}
use Rattle.plan_types.specs.Machines.{board_at, no_stepper}
use Rattle.section_stream.specs.Steppers.{StepperKind, kind_from}
use Rattle.section_feed.specs.declared.board.BoardStream.{BoardStream}
use Rattle.section_feed.specs.Feeding.{IsBoardOf, base_of, count_of, first_of, lines_of_board, packed_of, slots_in, fed_time, turn_of}
use Rattle.section_feed.specs.Sets.{goes_of, set_from, set_of}
use Rattle.section_feed.proofs.Setting.{set_with, set-same}
use Rattle.section_feed.specs.Kinds.{board_kinds, steppers_on}

-- how many of some steppers are on a board
abbrev count_on : ℕ → List StepperDef → ℕ
count_on b [] = 0
count_on b (s ∷ ss) = cond (eqb s.board b) (1 + count_on b ss) (count_on b ss)

on-counted : (b : ℕ) (ss : List StepperDef) (i : ℕ) (d e : StepperDef) → i < length ss → (get_or ss i d).board ≡ b → get_or (steppers_on b ss) (count_on b (take i ss)) e ≡ get_or ss i d
on-counted b [] i d e h own = absurd (omega arith)
on-counted b (s ∷ ss) zero d e h own = let t : eqb s.board b ≡ true = eq-eqb s.board b own in rw t refl
on-counted b (s ∷ ss) (suc i) d e h own = by-test (eqb s.board b) (on-counted b ss i d e (omega arith) own)
  where
    by-test : (t : Bool) → get_or (steppers_on b ss) (count_on b (take i ss)) e ≡ get_or ss i d → get_or (cond t (s ∷ steppers_on b ss) (steppers_on b ss)) (cond t (1 + count_on b (take i ss)) (count_on b (take i ss))) e ≡ get_or ss i d
    by-test true r = let n : 1 + count_on b (take i ss) ≡ suc (count_on b (take i ss)) = omega arith in rw n r
    by-test false r = r

-- the stepper at a place of a machine stands among those of its board behind the ones before it
pub on-place : (b : ℕ) (ss : List StepperDef) (i : ℕ) (d e : StepperDef) → i < length ss → (get_or ss i d).board ≡ b → get_or (steppers_on b ss) (count_by (λ t. eqb t.board b) (take i ss)) e ≡ get_or ss i d
on-place b ss i d e h own = ap (λ n. get_or (steppers_on b ss) n e) (sym (is_count_by (count_on b) (λ t. eqb t.board b) refl (λ x xs. refl) (take i ss))) ∙ on-counted b ss i d e h own

-- a board that has those of its steppers that stand before a place
pub record AreFound (m : Machine) (clocks : Clocks) (number turn : ℕ) (homing : Bool) (place : ℕ) (board : BoardStream) : Type 0 where
  pub relation : IsBoardOf board (board_kinds m clocks number turn homing) (lines_tick clocks (turn * turn_ns)) [] []
  pub count : count_of board ≡ count_by (λ t. eqb t.board number) (take place m.steppers)
  pub base : base_of board ≡ lines_tick clocks (turn * turn_ns)
  pub lines_are : lines_of_board board ≡ clocks
  pub time : fed_time board ≡ turn * turn_ns
  pub next : turn_of board + 250 ≡ turn
  pub first : first_of board + 250 ≡ turn
  pub slots : slots_in board ≡ (board_at m number).slots
  pub goes : goes_of board ≡ true
  pub packed : packed_of board ≡ turn

pub found-other : (m : Machine) (clocks : Clocks) (number turn : ℕ) (homing : Bool) (place : ℕ) (board : BoardStream) (d : StepperDef) → AreFound m clocks number turn homing place board → place < length m.steppers → eqb (get_or m.steppers place d).board number ≡ false → AreFound m clocks number turn homing (place + 1) board
found-other m clocks number turn homing place board d f inside other = record {
  relation = f.relation;
  count = f.count ∙ sym (count_by_more_no (λ t. eqb t.board number) m.steppers place d inside other);
  base = f.base;
  lines_are = f.lines_are;
  time = f.time;
  next = f.next;
  first = f.first;
  slots = f.slots;
  goes = f.goes;
  packed = f.packed;
}

-- what a board is after one more stepper was added
pub record IsAdded (m : Machine) (clocks : Clocks) (turn : ℕ) (homing : Bool) (def : StepperDef) (old new : BoardStream) : Type 0 where
  pub empty : (kinds : ℕ → StepperKind) → IsBoardOf old kinds (base_of old) [] [] → kinds (count_of old) ≡ kind_from m.corexy def (lines_of_board old).first (cond homing None (Some (base_of old))) → IsBoardOf new kinds (base_of old) [] []
  pub base : base_of new ≡ base_of old
  pub lines_are : lines_of_board new ≡ lines_of_board old
  pub time : fed_time new ≡ fed_time old
  pub next : turn_of new ≡ turn_of old
  pub count : count_of new ≡ count_of old + 1
  pub first : first_of new ≡ first_of old
  pub slots : slots_in new ≡ slots_in old
  pub goes : goes_of new ≡ goes_of old
  pub packed : packed_of new ≡ packed_of old

pub found-more : (m : Machine) (clocks : Clocks) (number turn : ℕ) (homing : Bool) (place : ℕ) (old new : BoardStream) (def : StepperDef) → AreFound m clocks number turn homing place old → place < length m.steppers → def ≡ get_or m.steppers place def → def.board ≡ number → IsAdded m clocks turn homing def old new → AreFound m clocks number turn homing (place + 1) new
found-more m clocks number turn homing place old new def f inside is own added =
    let here : (get_or m.steppers place def).board ≡ number = ap (λ (s : StepperDef). s.board) (sym is) ∙ own in
    let at = on-place number m.steppers place def no_stepper inside here in
    let kinds = board_kinds m clocks number turn homing in
    let base = lines_tick clocks (turn * turn_ns) in
    let stepper : get_or (steppers_on number m.steppers) (count_of old) no_stepper ≡ def = ap (λ n. get_or (steppers_on number m.steppers) n no_stepper) f.count ∙ at ∙ sym is in
    let one : kinds (count_of old) ≡ kind_from m.corexy def clocks.first (cond homing None (Some base)) = ap (λ s. kind_from m.corexy s clocks.first (cond homing None (Some base))) stepper in
    let two : kind_from m.corexy def clocks.first (cond homing None (Some base)) ≡ kind_from m.corexy def (lines_of_board old).first (cond homing None (Some (base_of old))) = ap (λ (k : Clocks). kind_from m.corexy def k.first (cond homing None (Some base))) (sym f.lines_are) ∙ ap (λ b. kind_from m.corexy def (lines_of_board old).first (cond homing None (Some b))) (sym f.base) in
    let was : IsBoardOf old kinds (base_of old) [] [] = subst (λ b. IsBoardOf old kinds b [] []) (sym f.base) f.relation in
    let next = added.next in
    let more = added.count in
    let start = f.next in
    let count = f.count in
    record {
      relation = subst (λ b. IsBoardOf new kinds b [] []) f.base (added.empty kinds was (one ∙ two));
      count = more ∙ ap (λ n. n + 1) count ∙ sym (count_by_more_yes (λ t. eqb t.board number) m.steppers place def inside (eq-eqb (get_or m.steppers place def).board number here));
      base = added.base ∙ f.base;
      lines_are = added.lines_are ∙ f.lines_are;
      time = added.time ∙ f.time;
      next = omega arith;
      first = ap (λ t. t + 250) added.first ∙ f.first;
      slots = added.slots ∙ f.slots;
      goes = added.goes ∙ f.goes;
      packed = added.packed ∙ f.packed;
    }

-- how many steppers a board has
on-length : (b : ℕ) (ss : List StepperDef) → length (steppers_on b ss) ≡ count_on b ss
on-length b [] = refl
on-length b (s ∷ ss) = by-test (eqb s.board b) (on-length b ss)
  where
    by-test : (t : Bool) → length (steppers_on b ss) ≡ count_on b ss → length (cond t (s ∷ steppers_on b ss) (steppers_on b ss)) ≡ cond t (1 + count_on b ss) (count_on b ss)
    by-test true r = omega arith
    by-test false r = r

-- a board that has all its steppers
pub found-all : (m : Machine) (clocks : Clocks) (number turn : ℕ) (homing : Bool) (place : ℕ) (board : BoardStream) → AreFound m clocks number turn homing place board → length m.steppers ≤ place → set_of board ≡ set_from m clocks turn number
found-all m clocks number turn homing place board f all =
    let first = f.first in
    let taken : take place m.steppers ≡ m.steppers = take_all place m.steppers all in
    let count : count_of board ≡ length (steppers_on number m.steppers) = f.count ∙ ap (count_by (λ t. eqb t.board number)) taken ∙ sym (is_count_by (count_on number) (λ t. eqb t.board number) refl (λ x xs. refl) m.steppers) ∙ sym (on-length number m.steppers) in
    ap (λ k. set_with k (first_of board) (slots_in board) (count_of board)) f.lines_are ∙ set-same clocks (turn - 250) (first_of board) (board_at m number).slots (slots_in board) (length (steppers_on number m.steppers)) (count_of board) (omega arith) f.slots count
