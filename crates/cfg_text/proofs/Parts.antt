-- The parts of a valid machine.
use Rattle.std.proofs.Common.{◌≡◌, ◌≢◌, ℕ, suc, zero, ◌+◌, ◌<◌, ◌≤◌, inl, inr, List, [], ◌∷◌, ◌++◌, length, take, get_or, All, AllPairs, refl, sym, ap, subst, ◌∙◌, arith, length-append}
use Rattle.std.proofs.lemmas.Bool.{cases_order}
use Rattle.std.proofs.lemmas.List.{take-append-le}
use Rattle.std.proofs.Math.Seq.{take-append_seam}
use Rattle.plan_types.specs.declared.machine.Machine.{Machine}
use Rattle.plan_types.specs.declared.machine.BoardDef.{BoardDef}
use Rattle.plan_types.specs.declared.machine.StepperDef.{StepperDef}
use Rattle.plan_types.specs.declared.machine.AxisDef.{AxisDef}
use Rattle.plan_types.specs.Machines.{IsValidStepper, IsValidAxis, no_stepper, stepper_at}
use Rattle.cfg_lines.specs.declared.item.Entry.{Entry}
use Rattle.cfg_text.specs.declared.wiring.Use.{Use}
use Rattle.cfg_text.specs.Building.{board_defs}
use Rattle.cfg_text.specs.Valid.{IsStepperBehind, AreSteppersOn, IsAxisOn, NamesDiffer}

-- a list with one more element, at the end
at_end : {A : Type 0} (xs : List A) (x d : A) → get_or (xs ++ x ∷ []) (length xs) d ≡ x
at_end [] x d = refl
at_end (y ∷ ys) x d = at_end ys x d

before_end : {A : Type 0} (xs : List A) (x d : A) (i : ℕ) → i < length xs → get_or (xs ++ x ∷ []) i d ≡ get_or xs i d
before_end [] x d i below = absurd (omega arith)
before_end (y ∷ ys) x d zero below = refl
before_end (y ∷ ys) x d (suc i) below = before_end ys x d i (omega arith)

-- one more stepper
pub steppers_more : (boards : List BoardDef) (before : List StepperDef) (s : StepperDef) → AreSteppersOn boards before → IsStepperBehind boards before s → AreSteppersOn boards (before ++ s ∷ [])
steppers_more boards before s all next k within = let size : length (before ++ s ∷ []) ≡ length before + 1 = length-append before (s ∷ []) in
    elim (cases_order k (length before)) [
      | inl e ↦ subst (λ (n : ℕ). IsStepperBehind boards (take n (before ++ s ∷ [])) (get_or (before ++ s ∷ []) n no_stepper)) (sym e)
          (subst (λ (front : List StepperDef). IsStepperBehind boards front (get_or (before ++ s ∷ []) (length before) no_stepper)) (sym (take-append_seam before (s ∷ [])))
          (subst (λ (x : StepperDef). IsStepperBehind boards before x) (sym (at_end before s no_stepper)) next))
      | inr o ↦ elim o [
        | inl below ↦ let le : k ≤ length before = omega arith in
            subst (λ (front : List StepperDef). IsStepperBehind boards front (get_or (before ++ s ∷ []) k no_stepper)) (sym (take-append-le k before (s ∷ []) le))
            (subst (λ (x : StepperDef). IsStepperBehind boards (take k before) x) (sym (before_end before s no_stepper k below)) (all k below))
        | inr above ↦ absurd (omega (arith, size))
      ]
    ]

-- the boards have the names in order
name_at : (entries : List Entry) (uses : List Use) (names : List (List ℕ)) (i : ℕ) (d : BoardDef) (n : List ℕ) → i < length names → (get_or (board_defs entries uses names) i d).name ≡ get_or names i n
name_at entries uses [] i d n below = absurd (omega arith)
name_at entries uses (x ∷ xs) zero d n below = refl
name_at entries uses (x ∷ xs) (suc i) d n below = name_at entries uses xs i d n (omega arith)

size_of : (entries : List Entry) (uses : List Use) (names : List (List ℕ)) → length (board_defs entries uses names) ≡ length names
size_of entries uses [] = refl
size_of entries uses (x ∷ xs) = ap suc (size_of entries uses xs)

pub boards_differ : (entries : List Entry) (uses : List Use) (names : List (List ℕ)) → AllPairs (λ p q. p ≢ q) names → NamesDiffer (board_defs entries uses names)
boards_differ entries uses names apart i j d lt within same = let size : length (board_defs entries uses names) ≡ length names = size_of entries uses names in
    let here : i < length names = omega (arith, size) in let there : j < length names = omega (arith, size) in
    apart i j [] lt there (sym (name_at entries uses names i d [] here) ∙ same ∙ name_at entries uses names j d [] there)

-- three axes
pub three : (P : AxisDef → Type 0) (a b c : AxisDef) → P a → P b → P c → All P (a ∷ b ∷ c ∷ [])
three P a b c x y z zero d below = x
three P a b c x y z (suc zero) d below = y
three P a b c x y z (suc (suc zero)) d below = z
three P a b c x y z (suc (suc (suc k))) d below = absurd (omega arith)

pub stepper_of_machine : (m : Machine) → AreSteppersOn m.boards m.steppers → (k : ℕ) → k < length m.steppers → IsValidStepper m k (stepper_at m k)
stepper_of_machine m all k below = let s : IsStepperBehind m.boards (take k m.steppers) (stepper_at m k) = all k below in
    record { board = s.board; oid = s.oid; drive = s.drive; gear = s.gear; step_pin = s.step_pin; dir_pin = s.dir_pin }

pub axis_of_machine : (m : Machine) → All (IsAxisOn m.boards) m.axes → All (IsValidAxis m) m.axes
axis_of_machine m all k d below = let a : IsAxisOn m.boards (get_or m.axes k d) = all k d below in
    record { low = a.low; high = a.high; apart = a.apart; endstop_low = a.endstop_low; endstop_high = a.endstop_high; speed_low = a.speed_low; speed_high = a.speed_high; board = a.board; pin = a.pin }
