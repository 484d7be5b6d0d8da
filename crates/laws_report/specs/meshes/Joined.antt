-- Moves that run one behind the other.
use Rattle.std.specs.Prelude.{◌≡◌, ℕ, ℤ, pos, ◌+ℤ◌, List, [], ◌∷◌}
use Rattle.plan_types.specs.declared.plan.Move.{Move}
use Rattle.plan_types.specs.declared.plan.Section.{Section}
use Rattle.plan_types.specs.Moves.{change}
use Rattle.bed_mesh.specs.BentLines.{at}

-- the moves join end to end, from one place to another
abbrev pub Join : List ℤ → List Move → List ℤ → Type 0
Join from [] to = from ≡ to
Join from (m ∷ ms) to = (m.from ≡ from) × Join m.to ms to

-- by how much moves change a coordinate together
abbrev pub change_by : List Move → ℕ → ℤ
change_by [] k = pos 0
change_by (m ∷ ms) k = change m k +ℤ change_by ms k

-- a move has the speed and the acceleration of another
pub record IsAsFast (m n : Move) : Type 0 where
  pub speed : n.v ≡ m.v
  pub acceleration : n.a ≡ m.a

-- E goes on through moves, from one coordinate to another: each begins at the E to which the one before led
abbrev pub Extrude : ℤ → List Move → ℤ → Type 0
Extrude from [] to = from ≡ to
Extrude from (m ∷ ms) to = (at m.from 3 ≡ from) × Extrude (at m.to 3) ms to

-- and through the moves of sections, those that home among them
abbrev pub ExtrudeThrough : ℤ → List Section → Type 0
ExtrudeThrough from [] = Unit {0}
ExtrudeThrough from (s ∷ ss) = (to : ℤ) × Extrude from s.moves to × ExtrudeThrough to ss
