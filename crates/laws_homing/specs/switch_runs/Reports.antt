-- What a board told of its trigger, in a homing section, by the states that came to the reactor.
use Rattle.std.specs.Prelude.{◌≡◌, ◌⊎◌, ◌≤◌, ◌+◌, ℕ, false, List, [], ◌∷◌, Some}
use Rattle.plan_types.specs.declared.machine.Machine.{Machine}
use Rattle.plan_types.specs.Board.{IsNear, nearest}
use Rattle.plan_types.specs.Sections.{clocks_at}
use Rattle.clock_line.specs.Early.{turn_in_run, turn_tick}
use Rattle.msg_code.specs.declared.cmd.Cmd.TheVariants as cmd
use Rattle.msg_code.specs.declared.talk.State.{State}
use Rattle.wire_scene.specs.declared.scene.Switch.{Switch}
use Rattle.board_sim.specs.Rig.{Slot, slot_at}
use Rattle.board_asking.specs.Machine.{trigger_of}
use Rattle.trigger_group.specs.declared.seen.Fired.{Fired}
use Rattle.host_reactor.specs.Notes.{noted}
use Rattle.host_reactor.specs.Runs.{Came, known_by, state_at}
use Rattle.laws_board.specs.turns.Turns.{BoardTurn}
use Rattle.laws_homing.specs.home_runs.Windows.{HasAnswer, SayFired}

-- Of the states that came in a turn of the reactor that of a board, of a turn in which it counts for a homing
-- section with this start, tells that the board's trigger has triggered: for this reason, and at this tick,
-- the one with the told clock that is nearest to that of the state's turn by the board's clock lines that are
-- known then; and it is one of a turn from the start on.
pub record IsReport (m : Machine) (switches : List Switch) (b start : ℕ) (f : Fired) (c : Came) (before : List Came)
    : Type 0 where
  pub state : State
  pub came : state_at b c.states ≡ state ∷ []
  pub counts : start ≤ state.turn + 1
  pub oid : ℕ
  pub clock : ℕ
  pub told : HasAnswer (cmd.TrsyncState oid 0 f.reason clock) state.news
  pub tick_is : f.tick
      ≡ nearest (turn_tick (clocks_at (noted m c.note (known_by m switches before)).clocks b) state.turn) clock
  pub turn_is : turn_in_run (clocks_at (noted m c.note (known_by m switches before)).clocks b) f.tick ≡ Some f.turn
  pub late : start ≤ f.turn

-- so it was in one of some turns
abbrev pub WasReported : Machine → List Switch → ℕ → ℕ → Fired → List Came → Type 0
WasReported m switches b start f [] = ⊥
WasReported m switches b start f (c ∷ before) =
    IsReport m switches b start f c before ⊎ WasReported m switches b start f before

-- Half a round: in a turn of the reactor the state of a board's turn comes, of the one in front of a
-- section's start or of a later one, and tells of a trigger that it can't trigger. Where the board's trigger
-- stands so behind that turn, it does so since a tick that is within half a round of the 32-bit clock of the
-- turn's tick by the board's clock lines that are known then.
abbrev pub HearsSoon : Machine → List Switch → ℕ → ℕ → Came → List Came → BoardTurn → ℕ → Type 0
HearsSoon m switches b start c before t k =
    start ≤ k + 1 → SayFired t.state.news → (slot : Slot) → slot_at t.after.core.board (trigger_of m b) ≡ Some slot →
    slot.trigger.can ≡ false →
    IsNear (turn_tick (clocks_at (noted m c.note (known_by m switches before)).clocks b) k) slot.trigger.tick
