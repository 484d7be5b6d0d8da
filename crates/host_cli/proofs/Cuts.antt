-- Files that are read up to a limit.
use Rattle.std.proofs.Common.{◌≡◌, ℕ, ◌+◌, ◌<◌, ◌^◌, List, length, take, refl, ap, arith, inl, inr, true, Some}
use Rattle.std.specs.Prelude.{nat_lt}
use Rattle.std.proofs.lemmas.List.{take_all, length-take-le}
use Rattle.std.proofs.lemmas.Bool.{cases_lt}
use Rattle.std.proofs.lemmas.Bool.Decides.{nat_tests}
use Rattle.cfg_text.specs.Reading.{machine_of_text}
use Rattle.plan_types.specs.declared.machine.Machine.{Machine}
use Rattle.wire_scene.specs.Reading as scenes

pub is-large : (n : ℕ) → 1_048_576 < n → nat_lt 1_048_576 n ≡ true
is-large n h = grind (arith, nat_tests)

-- of a configuration that is too large, no more than one byte too many need be read
pub reading-cut : (t : List ℕ) → machine_of_text (take (1_048_576 + 1) t) ≡ machine_of_text t
unfolding machine_of_text
reading-cut t = elim (cases_lt 1_048_576 (length t)) [
  | inl large ↦ (
      let count : length (take 1_048_577 t) ≡ 1_048_577 = length-take-le 1_048_577 t (omega arith) in
      let one = is-large (length (take 1_048_577 t)) (omega arith) in
      let two = is-large (length t) large in
      rw (one, two) refl)
  | inr small ↦ ap machine_of_text (take_all 1_048_577 t (omega arith))
]

-- a file that isn't too long is read whole
pub text-cut : (t : List ℕ) → length t < 2 ^ 62 → take (4_611_686_018_427_387_903 + 1) t ≡ t
text-cut t h = take_all 4_611_686_018_427_387_904 t (omega arith)

-- two pairs of names that are the same begin with the same name
pub first-name : (x y : List ℕ × List ℕ) → Some x ≡ Some y → x.0 ≡ y.0
first-name x y e = let same : x ≡ y = cc in ap (λ (p : List ℕ × List ℕ). p.0) same

pub is-large-scene : (n : ℕ) → 16_777_216 < n → nat_lt 16_777_216 n ≡ true
is-large-scene n h = grind (arith, nat_tests)

-- nor of a scene
pub scene-cut : (m : Machine) (t : List ℕ) → scenes.scene_of_text m (take (16_777_216 + 1) t) ≡ scenes.scene_of_text m t
unfolding scenes.scene_of_text
scene-cut m t = elim (cases_lt 16_777_216 (length t)) [
  | inl large ↦ (
      let count : length (take 16_777_217 t) ≡ 16_777_217 = length-take-le 16_777_217 t (omega arith) in
      let one = is-large-scene (length (take 16_777_217 t)) (omega arith) in
      let two = is-large-scene (length t) large in
      rw (one, two) refl)
  | inr small ↦ ap (scenes.scene_of_text m) (take_all 16_777_217 t (omega arith))
]
