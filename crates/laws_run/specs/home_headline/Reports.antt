-- What boards told of their triggers, where readings triggered them.
use Rattle.std.specs.Prelude.{◌≡◌, ◌<◌, ℕ, List, [], ◌∷◌, length}
use Rattle.plan_types.specs.declared.machine.Machine.{Machine}
use Rattle.plan_types.specs.Machines.{board_at}
use Rattle.msg_code.specs.declared.talk.State.{State}
use Rattle.wire_scene.specs.declared.scene.Switch.{Switch}
use Rattle.link_work.specs.Switches.{pins_of}
use Rattle.host_reactor.specs.Runs.{Came}
use Rattle.session_work.specs.Rows.{item}
use Rattle.laws_homing.specs.switch_runs.Reading.{TellTrue}
use Rattle.laws_homing.specs.switch_runs.Runs.{IsReadInRun}

-- In each of some turns of the reactor, whatever a state that comes tells of a board's trigger, that readings
-- triggered it, it tells of a tick at which the board's readings of the endstop of an axis that homes are
-- complete: by the levels of its pins, and by the homing sections that were known before the turn.
abbrev pub TellOfReadings : Machine → List Switch → List Came → Type 0
TellOfReadings m switches [] = Unit {0}
TellOfReadings m switches (c ∷ before) =
    ((b : ℕ) (state : State) → b < length m.boards → item b c.states ≡ state ∷ [] →
    TellTrue (IsReadInRun m switches (pins_of (board_at m b) b switches) b before) state.news)
    × TellOfReadings m switches before
