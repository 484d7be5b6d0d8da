-- The moves in a move's place.
use Rattle.std.proofs.Common.{◌≡◌, ◌∙◌, ℕ, zero, suc, Bool, true, false, List, [], ◌∷◌, ◌++◌, refl, sym, subst, ap, arith, if◌then◌else◌, rules}
use Rattle.std.specs.Prelude.{ℤ, pos, ◌+ℤ◌, ◌-ℤ◌, ◌||◌}
use Rattle.std.specs.List.{All}
use Rattle.std.proofs.lemmas.Int.{ints}
use Rattle.laws_board.proofs.Names.{Move}
use Rattle.plan_types.specs.Moves.{change}
use Rattle.gcode_state.specs.States.{differs}
use Rattle.bed_mesh.specs.declared.mesh.Mesh.{Mesh}
use Rattle.bed_mesh.specs.Cuts.{cut_ends}
use Rattle.bed_mesh.specs.BentLines.{at, raised}
use Rattle.laws_report.specs.meshes.Bent.{differ, part_of, parts_to, raised_place}
use Rattle.laws_report.specs.meshes.Joined.{IsAsFast, Join, change_by}
use Rattle.laws_report.proofs.meshes.Moving.{led, move_place}

none_differs : (a b c d : Bool) → (a || (b || (c || d))) ≡ false → ((a ≡ false) × (b ≡ false)) × ((c ≡ false) × (d ≡ false))
none_differs false false false false h = ((refl, refl), (refl, refl))
none_differs true b c d h = absurd cc
none_differs false true c d h = absurd cc
none_differs false false true d h = absurd cc
none_differs false false false true h = absurd cc

same_number : (a b : ℤ) → differs a b ≡ false → a ≡ b
same_number a b h = grind (arith, ints)

-- places that don't differ are one
same_places : (x y z e : ℤ) (to : List ℤ) → (p q r s : ℤ) → to ≡ p ∷ q ∷ r ∷ s ∷ [] → differ (x ∷ y ∷ z ∷ e ∷ []) to ≡ false → x ∷ y ∷ z ∷ e ∷ [] ≡ to
same_places x y z e to p q r s is h = search (rules, none_differs, same_number)

-- a part, where there is one, and those behind it
part_joins : (m : Move) (from to end : List ℤ) (b : Bool) (parts : List Move) → (b ≡ false → from ≡ to) → Join to parts end → Join from ((if b then part_of m from to ∷ [] else []) ++ parts) end
part_joins m from to end true parts same h = (refl, h)
part_joins m from to end false parts same h = subst (λ (p : List ℤ). Join p parts end) (sym (same refl)) h

pub parts_join : (t : Mesh) (m : Move) (x y z e : ℤ) (places : List (List ℤ)) → Join (x ∷ y ∷ z ∷ e ∷ []) (parts_to t m (x ∷ y ∷ z ∷ e ∷ []) places) (led t (x ∷ y ∷ z ∷ e ∷ []) places)
parts_join t m x y z e [] = refl
parts_join t m x y z e (p ∷ places) =
    let from = x ∷ y ∷ z ∷ e ∷ [] in
    part_joins m from (raised_place t p) _ (differ from (raised_place t p)) (parts_to t m (raised_place t p) places) (λ h. same_places x y z e (raised_place t p) _ _ _ _ refl h) (parts_join t m (at p 0) (at p 1) (raised t p) (at p 3) places)

-- what moves that join change together
sum_of : (a b c : ℤ) → (b -ℤ a) +ℤ (c -ℤ b) ≡ c -ℤ a
sum_of a b c = omega (arith, ints)

nothing : (a : ℤ) → pos 0 ≡ a -ℤ a
nothing a = omega (arith, ints)

pub joined_change : (from to : List ℤ) (ms : List Move) (k : ℕ) → Join from ms to → change_by ms k ≡ at to k -ℤ at from k
joined_change from to [] k h = nothing (at from k) ∙ ap (λ (l : List ℤ). at l k -ℤ at from k) h
joined_change from to (m ∷ ms) k h =
    ap (λ (n : ℤ). change m k +ℤ n) (joined_change m.to to ms k h.1) ∙ sum_of (at m.from k) (at m.to k) (at to k) ∙ ap (λ (l : List ℤ). at to k -ℤ at l k) h.0

-- they are as fast as the move
fast_more : (m n : Move) (ms : List Move) → IsAsFast m n → All (IsAsFast m) ms → All (IsAsFast m) (n ∷ ms)
fast_more m n ms h all zero d less = h
fast_more m n ms h all (suc k) d less = all k d (omega arith)

part_fast : (m : Move) (from to : List ℤ) (b : Bool) (parts : List Move) → All (IsAsFast m) parts → All (IsAsFast m) ((if b then part_of m from to ∷ [] else []) ++ parts)
part_fast m from to true parts all = fast_more m (part_of m from to) parts (record { speed = refl; acceleration = refl }) all
part_fast m from to false parts all = all

none_fast : (m : Move) → All (IsAsFast m) []
none_fast m k d less = absurd (omega arith)

pub parts_fast : (t : Mesh) (m : Move) (from : List ℤ) (places : List (List ℤ)) → All (IsAsFast m) (parts_to t m from places)
parts_fast t m from [] = none_fast m
parts_fast t m from (p ∷ places) = part_fast m from (raised_place t p) (differ from (raised_place t p)) (parts_to t m (raised_place t p) places) (parts_fast t m (raised_place t p) places)

-- the moves to all ends of a move
pub ends_join : (t : Mesh) (m : Move) (x y z e : ℤ) → Join (x ∷ y ∷ z ∷ e ∷ []) (parts_to t m (x ∷ y ∷ z ∷ e ∷ []) (cut_ends t m)) (raised_place t m.to)
ends_join t m x y z e = subst (λ (l : List ℤ). Join (x ∷ y ∷ z ∷ e ∷ []) (parts_to t m (x ∷ y ∷ z ∷ e ∷ []) (cut_ends t m)) l) (move_place t m (x ∷ y ∷ z ∷ e ∷ [])) (parts_join t m x y z e (cut_ends t m))

pub ends_change_e : (t : Mesh) (m : Move) (x y z e : ℤ) → e ≡ at m.from 3 → change_by (parts_to t m (x ∷ y ∷ z ∷ e ∷ []) (cut_ends t m)) 3 ≡ change m 3
ends_change_e t m x y z e h = joined_change (x ∷ y ∷ z ∷ e ∷ []) (raised_place t m.to) _ 3 (ends_join t m x y z e) ∙ ap (λ (n : ℤ). at m.to 3 -ℤ n) h
