use Rattle.std.proofs.Common.{◌≡◌, ℕ, Option, Some, None, refl}
use Rattle.wire_scene.specs.Marks.{no_marks}
use Rattle.wire_scene.proofs.marks.Marks.new.Goals as goal

pub returns : goal.returns
unfolding no_marks
returns c = c.in_ok-vec.ensures.items_if_clones_equal (λ y clone. elim y as (λ (x : Option ℕ). (elim x as (λ z. Type 0) [ None ↦ Unit {0} | Some z ↦ ⊥ ]) → x ≡ None) [
  | None ↦ (λ same. refl)
  | Some z ↦ (λ other. absurd other)
] clone)
