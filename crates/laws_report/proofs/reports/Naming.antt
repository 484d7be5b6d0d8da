-- A name that the machine has once is found at its place.
use Rattle.std.proofs.Common.{◌≡◌, ◌≢◌, ◌∙◌, ℕ, zero, suc, ◌+◌, ◌<◌, Bool, true, false, List, [], ◌∷◌, length, get_or, ap, refl, arith, Option, Some, rules}
use Rattle.std.specs.Prelude.{AllPairs, if◌then◌else◌}
use Rattle.std.specs.Str.{bytes_eq}
use Rattle.std.proofs.lemmas.Slice.Eq.{bytes_eq-Decides}
use Rattle.laws_board.proofs.Names.{BoardDef}
use Rattle.plan_types.specs.declared.machine.StepperDef.{StepperDef}
use Rattle.log_text.specs.Names.{board_from, stepper_from}
use Rattle.text_core.specs.Bytes.{Text}

pub same-text : (xs ys : Text) → xs ≡ ys → bytes_eq xs ys ≡ true
same-text xs ys e = (bytes_eq-Decides xs ys).1 e

pub other-text : (xs ys : Text) → xs ≢ ys → bytes_eq xs ys ≡ false
other-text xs ys e = search (rules, bytes_eq, bytes_eq-Decides)

found : (a : Bool) (k n : ℕ) (later : Option ℕ) → a ≡ true → k ≡ n → (if a then Some k else later) ≡ Some n
found true k n later e f = ap (λ (i : ℕ). Some i) f
found false k n later e f = cc

passed : (a : Bool) (k : ℕ) (later : Option ℕ) → a ≡ false → (if a then Some k else later) ≡ later
passed true k later e = cc
passed false k later e = refl

board-found : (k : ℕ) (boards : List BoardDef) (i : ℕ) (d : BoardDef) → i < length boards → AllPairs (λ b c. b.name ≢ c.name) boards → board_from k (get_or boards i d).name boards ≡ Some (k + i)
board-found k [] i d inside differ = absurd (omega arith)
board-found k (b ∷ boards) zero d inside differ = found (bytes_eq b.name b.name) k (k + 0) _ (same-text b.name b.name refl) (omega arith)
board-found k (b ∷ boards) (suc i) d inside differ =
    passed (bytes_eq b.name (get_or boards i d).name) k _ (other-text b.name (get_or boards i d).name (differ 0 (suc i) d (omega arith) inside))
    ∙ board-found (k + 1) boards i d (omega (arith, inside)) (λ x y e p q. differ (suc x) (suc y) e (omega (arith, p)) (omega (arith, q)))
    ∙ ap (λ (n : ℕ). Some n) (omega arith)

stepper-found : (k : ℕ) (steppers : List StepperDef) (i : ℕ) (d : StepperDef) → i < length steppers → AllPairs (λ s t. s.name ≢ t.name) steppers → stepper_from k (get_or steppers i d).name steppers ≡ Some (k + i)
stepper-found k [] i d inside differ = absurd (omega arith)
stepper-found k (s ∷ steppers) zero d inside differ = found (bytes_eq s.name s.name) k (k + 0) _ (same-text s.name s.name refl) (omega arith)
stepper-found k (s ∷ steppers) (suc i) d inside differ =
    passed (bytes_eq s.name (get_or steppers i d).name) k _ (other-text s.name (get_or steppers i d).name (differ 0 (suc i) d (omega arith) inside))
    ∙ stepper-found (k + 1) steppers i d (omega (arith, inside)) (λ x y e p q. differ (suc x) (suc y) e (omega (arith, p)) (omega (arith, q)))
    ∙ ap (λ (n : ℕ). Some n) (omega arith)

-- of all boards, and of all steppers
pub board-at : (boards : List BoardDef) (i : ℕ) (d : BoardDef) → i < length boards → AllPairs (λ b c. b.name ≢ c.name) boards → board_from 0 (get_or boards i d).name boards ≡ Some i
board-at boards i d inside differ = board-found 0 boards i d inside differ ∙ ap (λ (n : ℕ). Some n) (omega arith)

pub stepper-at : (steppers : List StepperDef) (i : ℕ) (d : StepperDef) → i < length steppers → AllPairs (λ s t. s.name ≢ t.name) steppers → stepper_from 0 (get_or steppers i d).name steppers ≡ Some i
stepper-at steppers i d inside differ = stepper-found 0 steppers i d inside differ ∙ ap (λ (n : ℕ). Some n) (omega arith)
