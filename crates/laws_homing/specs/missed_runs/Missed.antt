-- When a homing section misses its switch, whenever its board took the section's command.
use Rattle.std.specs.Prelude.{◌≡◌, ◌≤◌, ◌+◌, ℕ, List, ◌∷◌, length}
use Rattle.plan_types.specs.declared.levels.Level.{Level}
use Rattle.plan_types.specs.declared.machine.Machine.{Machine}
use Rattle.plan_types.specs.declared.plan.BoardState.TheVariants.{Running}
use Rattle.plan_types.specs.Clock.{clock_of}
use Rattle.plan_types.specs.Lines.{Clocks}
use Rattle.plan_types.specs.Machines.{board_at}
use Rattle.plan_types.specs.Sections.{clocks_at}
use Rattle.clock_line.specs.Kept.{AreKept}
use Rattle.wire_scene.specs.declared.scene.Entry.{Entry}
use Rattle.wire_scene.specs.declared.scene.Switch.{Switch}
use Rattle.board_asking.specs.Machine.{trigger_of}
use Rattle.link_work.specs.Stands.{first_state}
use Rattle.trigger_group.specs.Group.{by_switch}
use Rattle.host_reactor.specs.Runs.{Came, state_at}
use Rattle.laws_board.specs.turns.Turns.{BoardTurn, latest_state, stands_after}
use Rattle.laws_board.specs.clocks.Near.{LinesKeepUp}
use Rattle.laws_board.specs.clocks.Runs.{IsInRun}
use Rattle.laws_homing.specs.switch_runs.Taken.{IsTriggerOf}
use Rattle.laws_homing.specs.fired_runs.Since.{AreNotAhead, AreSoInTurns, ReadsAsTold, WasFiredAt}

-- A homing section misses its switch up to a tick: since this tick, as one of these turns of its endstop's board
-- ended, the board's trigger could not trigger, and for another reason than readings (1). No trigger tick of the
-- section is before it: no last reading of a group that shows the switch pressed throughout, of the readings that
-- begin with the section's command as the board took it, from the section's start on.
pub record IsMissedOf (m : Machine) (switches : List Switch) (pins : List (List Level)) (entries : List Entry)
    (b start axis : ℕ) (came : List Came) (turns : List BoardTurn) (until : ℕ) : Type 0 where
  pub reason : ℕ
  pub fired : WasFiredAt (trigger_of m b) reason until turns
  pub other : reason ≡ by_switch → ⊥
  pub none : (tick : ℕ) → IsTriggerOf m switches pins entries b start axis came turns tick → until ≤ tick

-- A board that runs, up to a turn of the reactor: its reports are read as what they told, as homing sections
-- start it is no more than a turn ahead of its clock lines, and from a turn on these keep up with it, until
-- 275 turns behind that one.
pub record IsHeardWell (m : Machine) (switches : List Switch) (pins : List (List Level)) (entries : List Entry)
    (clocks : List Clocks) (b from : ℕ) (c : Came) (before : List Came) (turns : List BoardTurn) : Type 0 where
  pub run : IsInRun m switches pins entries b before turns
  pub latest : state_at b c.states ≡ latest_state turns
  pub runs : (stands_after (first_state (board_at m b) pins b entries) turns).core.board.controller.state ≡ Running
  pub reads : AreSoInTurns (ReadsAsTold m switches b) (c ∷ before) turns
  pub behind : AreNotAhead m switches b (c ∷ before)
  pub kept : AreKept (clocks_at clocks b)
  pub keeps_up : (turn : ℕ) → from ≤ turn → turn ≤ length before + 275 →
      LinesKeepUp (clock_of (board_at m b)) (clocks_at clocks b) turn
