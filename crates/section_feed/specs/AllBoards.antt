-- All boards of a section have released its units, or planned its steps.
use Rattle.std.specs.Prelude.{ℕ, ◌<◌, List, length, map, slice_index_or}
use Rattle.section_feed.specs.declared.board.BoardStream.{BoardStream}
use Rattle.plan_types.specs.Sections.{latest}
use Rattle.section_feed.specs.Released.{HasReleased, IsPast, last_in}

-- all boards have released all units of the parts that they were given
pub record AreReleased (boards : List BoardStream) : Type 0 where
  pub each : (b : ℕ) (d : BoardStream) → b < length boards → HasReleased (slice_index_or boards b d)

-- all steps of these parts are planned before the end of a turn
pub record ArePast (turn : ℕ) (boards : List BoardStream) : Type 0 where
  pub each : (b : ℕ) (d : BoardStream) → b < length boards → IsPast turn (slice_index_or boards b d)

-- the latest turn of the steps that their steppers packed last, 0 for none
abbrev pub latest_packed : List BoardStream → ℕ
latest_packed boards = latest (map last_in boards)
