-- When connecting ends in a run, and when its first section starts.
use Rattle.std.specs.Prelude.{◌≡◌, ℕ, ◌+◌, List, [], ◌∷◌, ◌++◌, length, max}
use Rattle.plan_types.specs.declared.machine.Machine.{Machine}
use Rattle.wire_scene.specs.declared.scene.Switch.{Switch}
use Rattle.host_reactor.specs.declared.ordered.Phase.TheVariants.{Connecting, Running}
use Rattle.host_reactor.specs.Runs.{known_by}
use Rattle.motion_work.specs.Seen.{Started}
use Rattle.session_work.specs.declared.table.ReactorTurn.{ReactorTurn}
use Rattle.session_run.specs.Boards.{came_from, came_in}

-- Connecting ends in a turn of the reactor, of some that are counted from 0: as the turn begins it is
-- connecting, and behind it the run is under way.
pub record EndsConnecting (m : Machine) (switches : List Switch) (turns : List ReactorTurn) (k : ℕ) : Type 0 where
  pub past : List ReactorTurn
  pub turn : ReactorTurn
  pub later : List ReactorTurn
  pub are : turns ≡ past ++ turn ∷ later
  pub number : length past ≡ k
  pub before : (known_by m switches (came_from [] past)).phase ≡ Connecting
  pub behind : (known_by m switches (came_in turn ∷ came_from [] past)).phase ≡ Running

-- The turn from which on the first section may start is 1,260, or 260 turns behind that in which connecting
-- ended, whichever is later. The first of these sections starts in it, or as many turns later as the dwells
-- before it have milliseconds.
pub record StartsBehindConnecting (m : Machine) (switches : List Switch) (turns : List ReactorTurn) (ready : ℕ)
    (begun : List Started) : Type 0 where
  pub connected : ℕ
  pub ends : EndsConnecting m switches turns connected
  pub ready_is : ready ≡ max 1_260 (connected + 260)
  pub first : (s : Started) (later : List Started) → begun ≡ s ∷ later →
      s.start ≡ max 1_260 (connected + 260) + s.section.dwell
