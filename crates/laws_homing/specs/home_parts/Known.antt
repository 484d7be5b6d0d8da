-- What the reactor knows of the clock lines while the planner's sections go on.
use Rattle.std.specs.Prelude.{◌≡◌, ◌+◌, ◌<◌, ◌*◌, ◌^◌, List, [], ◌∷◌, length, map}
use Rattle.plan_types.specs.declared.machine.Machine.{Machine}
use Rattle.plan_types.specs.Clock.{turn_ns}
use Rattle.plan_types.specs.Lines.{Clocks, lines_tick}
use Rattle.wire_scene.specs.declared.scene.Switch.{Switch}
use Rattle.host_reactor.specs.declared.ordered.Phase.TheVariants.{Connecting}
use Rattle.host_reactor.specs.Notes.{noted}
use Rattle.host_reactor.specs.Runs.{Came, known_by}
use Rattle.motion_work.specs.Known.{lines_by}
use Rattle.motion_work.specs.Seen.{Started}

-- In each turn behind connecting the reactor knows just the boards' clock lines that hold by 276 turns behind
-- it: those that the planner's notes told so far, which hold 277 turns behind the planner's turn, one turn
-- before.
abbrev pub KnowsLately : Machine → List Switch → List Clocks → List Came → Type 0
KnowsLately m switches clocks [] = Unit {0}
KnowsLately m switches clocks (c ∷ before) =
    (((known_by m switches before).phase ≡ Connecting → ⊥) →
    (noted m c.note (known_by m switches before)).clocks ≡ map (lines_by (length before + 276)) clocks)
    × KnowsLately m switches clocks before

-- the ticks at which these sections start are in the range of 64 bits
abbrev pub StartInRange : Clocks → List Started → Type 0
StartInRange clocks [] = Unit {0}
StartInRange clocks (s ∷ begun) = (lines_tick clocks (s.start * turn_ns) < 2 ^ 64) × StartInRange clocks begun
