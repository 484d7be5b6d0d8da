-- Whether a further clock line is told.
use Rattle.std.specs.Prelude.{ℕ, ◌≤◌, ◌⊎◌, List, [], ◌∷◌, length}
use Rattle.plan_types.specs.declared.machine.Machine.{Machine}
use Rattle.wire_scene.specs.declared.scene.Switch.{Switch}
use Rattle.host_reactor.specs.Runs.{Came, last_reacted}
use Rattle.laws_board.specs.clocks.Samples.{further_lines}

-- in one of these turns, from one on, the word tells a further clock line of a board
abbrev pub TellsLineFrom : Machine → List Switch → ℕ → ℕ → List Came → Type 0
TellsLineFrom m switches b from [] = ⊥
TellsLineFrom m switches b from (c ∷ before) =
    ((from ≤ length before) × (1 ≤ length (further_lines b (last_reacted m switches c before).ordered.word.news)))
    ⊎ TellsLineFrom m switches b from before
