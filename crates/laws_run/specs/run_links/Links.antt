-- What the lanes of a run's boards carried, and what it means: the lists that the report of a run hands out.
use Rattle.std.specs.Prelude.{◌≡◌, ℕ, ◌≤◌, true, All, List, [], ◌∷◌, ◌++◌, length, map, Some, if◌then◌else◌, ◌==◌}
use Rattle.std.specs.List.{flat_map}
use Rattle.lane_queue.specs.Order.{IsPrefix}
use Rattle.plan_types.specs.declared.cause.Cause.{Cause}
use Rattle.plan_types.specs.declared.cause.Cause.TheVariants as cause
use Rattle.plan_types.specs.declared.machine.Machine.{Machine}
use Rattle.plan_types.specs.Clock.{clock_of}
use Rattle.plan_types.specs.Machines.{board_at}
use Rattle.msg_code.specs.declared.talk.State.{State}
use Rattle.msg_code.specs.declared.unit.Batch.{Batch}
use Rattle.msg_code.specs.declared.unit.Control.{Control}
use Rattle.report_text.specs.declared.line.ReportLine.{ReportLine}
use Rattle.report_text.specs.declared.line.ReportLine.TheVariants as report
use Rattle.wire_scene.specs.declared.scene.Scene.{Scene}
use Rattle.wire_scene.specs.declared.scene.Switch.{Switch}
use Rattle.host_reactor.specs.Report.{pulse_line}
use Rattle.host_reactor.specs.Runs.{Came, HaveStates, last_reacted, state_at}
use Rattle.laws_board.specs.turns.Turns.{AreBoardTurns, BoardTurn, control_at}
use Rattle.motion_work.specs.Told.{Told}
use Rattle.session_work.specs.declared.table.MotionTurn.{MotionTurn}
use Rattle.session_work.specs.declared.table.ReactorTurn.{ReactorTurn}
use Rattle.session_work.specs.Bares.{bare_state}
use Rattle.session_work.specs.Leads.{each_turn, last_controls}
use Rattle.session_work.specs.Rows.{item}
use Rattle.session_lanes.specs.declared.near.LinkLog.{LinkLog}
use Rattle.session_run.specs.Desks.{reported_lines}
use Rattle.session_run.specs.Boards.{came_from, came_in}
use Rattle.laws_run.specs.lanes.Boards.{turns_behind}
use Rattle.laws_board.specs.plans.Planned.{PlannerInput}
use Rattle.laws_run.specs.run_headline.Made.{IsMade}
use Rattle.laws_run.specs.run_headline.Timely.{link_of}
use Rattle.laws_run.specs.run_links.Units.{AreBatchesOf, IsPartOn}

-- what the reactor orders for a board in some turns, in order, by what came in them, of which the latest stands first
abbrev pub ordered_for : Machine → List Switch → ℕ → List Came → List Control
ordered_for m switches b [] = []
ordered_for m switches b (c ∷ before) =
    ordered_for m switches b before ++ control_at b (last_reacted m switches c before).ordered.controls

-- the states of a board that came in these turns, in order
abbrev pub states_from : ℕ → List Came → List State
states_from b [] = []
states_from b (c ∷ before) = states_from b before ++ state_at b c.states

-- a state in which nothing is told but that memory is wanted
abbrev pub out_state : ℕ → State
out_state k = bare_state k true

-- A board in its turns: in each it takes the next control and the next batch, and a state is put, which tells
-- what its core did with them by the definition of a turn, from its first state on and by the scene. From the
-- turn on in which its link wants memory, if it does, each state says only that.
pub record MakesTurns (m : Machine) (s : Scene) (b : ℕ) (x : LinkLog) : Type 0 where
  pub made : List BoardTurn
  pub are : AreBoardTurns (clock_of (board_at m b)) (link_of m s b) (turns_behind [] made)
  pub out : ℕ
  pub states : x.states.0 ≡ map (λ t. t.state) made ++ each_turn out_state (length made) out
  pub later : List Batch
  pub batches : x.batches.1 ≡ map (λ t. t.batch) made ++ later
  pub as_many : length later ≡ out
  pub others : List Control
  pub controls : x.controls.1 ≡ map (λ t. t.control) made ++ others

-- a line, where it tells a pulse of a board
abbrev pub pulse_on : ℕ → ReportLine → List ReportLine
pulse_on b (report.Pulse board stepper tick up) = if board == b then report.Pulse board stepper tick up ∷ [] else []
pulse_on b _ = []

-- the lines of some that tell pulses of a board
abbrev pub pulses_on : ℕ → List ReportLine → List ReportLine
pulses_on b lines = flat_map (pulse_on b) lines

-- The lines of the pulses that some states of a board tell: each names the stepper of this board that has the
-- pulse's object id, with the pulse's tick and its direction, which is turned round where this stepper's
-- dir_pin is inverted (`pulse_line`, which has no line where no stepper has the id).
abbrev pub lines_for : Machine → ℕ → List State → List ReportLine
lines_for m b states = flat_map (λ s. flat_map (pulse_line m b) s.pulses) states

-- What the lanes of a board carried in a run of a machine in a scene: by what its planner saw and in how many
-- turns it sent units, by what came to the reactor in each of its turns that went on, by the states that came
-- in its last one, by its lines and by its cause.
pub record IsLinkIn (m : Machine) (s : Scene) (seen : PlannerInput) (sent : ℕ) (came : List Came) (last : List State)
    (lines : List ReportLine) (c : Cause) (b : ℕ) (x : LinkLog) : Type 0 where
  -- Batches put: batch k has the units that the sections which were begun release in turn k, and none once
  -- the planner stopped
  pub batches : AreBatchesOf b seen.begun sent 0 x.batches.0
  pub all_sent : sent ≤ length x.batches.0
  -- and these units are those of the sections' plans, none of a homing section from the turn of its answer on
  pub parts : (t : Told) → seen.told ≡ Some t → All (IsPartOn m t.clocks sent b) seen.begun
  -- Taken: what was taken is the first of what was put, in order
  pub batches_taken : IsPrefix x.batches.1 x.batches.0
  pub controls_taken : IsPrefix x.controls.1 x.controls.0
  pub states_taken : IsPrefix x.states.1 x.states.0
  -- Controls put: in each turn that went on the one that the reactor orders for all that came; behind them
  -- controls without commands, of which the last one ends the run
  pub ahead : ℕ
  pub controls : x.controls.0 ≡ ordered_for m s.switches b came ++ last_controls (length came) ahead
  -- States put: they are told of the board's turns, in which it took these controls and batches
  pub board : MakesTurns m s b x
  -- States taken: they are those that came to the reactor
  pub states : x.states.1 ≡ states_from b came ++ last
  -- Pulses: the lines that tell pulses of the board are those of the states that were taken. Where the run
  -- ended for want of memory, the last turn has no lines.
  pub pulses : (c ≡ cause.Memory → ⊥) → pulses_on b lines ≡ lines_for m b x.states.1
  pub pulses_before : c ≡ cause.Memory → pulses_on b lines ≡ lines_for m b (states_from b came)

-- What the lanes of a run's boards carried, where the run read a text: there is a log for each board, and of
-- each it holds what `IsLinkIn` says, by the sections of the text that were begun. In each turn of the
-- reactor but the first a state of each board came; in the one that ends the run, where it does not for want
-- of memory.
pub record AreLinksIn (m : Machine) (s : Scene) (text : List ℕ) (c : Cause) (ts : List MotionTurn)
    (rs : List ReactorTurn) (end : ReactorTurn) (links : List LinkLog) : Type 0 where
  pub made : IsMade m s ts rs
  pub of_text : made.plans.seen.text ≡ text
  pub rows : HaveStates m (came_from [] rs)
  pub last_row : (c ≡ cause.Memory → ⊥) → HaveStates m (came_in end ∷ came_from [] rs)
  pub count : length links ≡ length m.boards
  pub each : (b : ℕ) (x : LinkLog) → item b links ≡ x ∷ [] →
      IsLinkIn m s made.plans.seen (length made.plans.made) (came_from [] rs) (state_at b end.states)
      (reported_lines (rs ++ end ∷ [])) c b x
