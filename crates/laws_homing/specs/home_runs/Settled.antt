-- The homing sections of a board in a run, whose parts of steps stop.
use Rattle.std.specs.Prelude.{◌≡◌, ◌⊎◌, ◌<◌, ◌≤◌, ◌+◌, ℕ, List, [], ◌∷◌, ◌++◌, length, Option, Some, None}
use Rattle.plan_types.specs.declared.levels.Level.{Level}
use Rattle.plan_types.specs.declared.machine.Machine.{Machine}
use Rattle.plan_types.specs.Machines.{board_at}
use Rattle.msg_code.specs.declared.unit.Unit.{Unit as StepUnit}
use Rattle.wire_scene.specs.declared.scene.Entry.{Entry}
use Rattle.wire_scene.specs.declared.scene.Switch.{Switch}
use Rattle.link_work.specs.Stands.{first_state}
use Rattle.axis_homing.specs.declared.homing.Homing.{Homing}
use Rattle.host_reactor.specs.Runs.{Came, state_at}
use Rattle.laws_board.specs.turns.Turns.{BoardTurn, latest_state}
use Rattle.laws_board.specs.clocks.Runs.{IsInRun}
use Rattle.laws_homing.specs.home_runs.Sections.{GroupAnswers, TakesSetUp}
use Rattle.laws_homing.specs.fired_runs.Since.{IsReadSo}

-- no unit sets a clock
abbrev pub SetNoClock : List StepUnit → Type 0
SetNoClock [] = Unit {0}
SetNoClock (u ∷ us) = (u.reset ≡ None) × SetNoClock us

-- nor does any in some turns from a number on
abbrev pub SetNoClockFrom : ℕ → List BoardTurn → Type 0
SetNoClockFrom from [] = Unit {0}
SetNoClockFrom from (t ∷ before) = (from ≤ length before → SetNoClock t.batch.units) × SetNoClockFrom from before

-- no unit is sent in some turns from a number on and before another one
abbrev pub SendNoneIn : ℕ → ℕ → List BoardTurn → Type 0
SendNoneIn from to [] = Unit {0}
SendNoneIn from to (t ∷ before) =
    (from ≤ length before → length before < to → t.batch.units ≡ []) × SendNoneIn from to before

-- A homing section of a board in a run, which starts in a turn and whose group answers in another: the
-- section was known, and no unit set a clock, from 254 turns before its start on, and none was sent in the
-- four turns of the set-up; and the board took the set-up in time, or what it told is read as the ticks since
-- which its trigger can't trigger.
pub record IsHomed (m : Machine) (switches : List Switch) (pins : List (List Level)) (entries : List Entry)
    (b start end : ℕ) (turns : List BoardTurn) : Type 0 where
  pub came : Came
  pub before : List Came
  pub later : List BoardTurn
  pub past : List BoardTurn
  pub are : turns ≡ later ++ past
  pub long : length past ≡ end
  pub run_is : IsInRun m switches pins entries b before past
  pub states : state_at b came.states ≡ latest_state past
  pub homing : Homing
  pub answered : GroupAnswers m switches came before homing
  pub begin : homing.start ≡ start
  pub sets_none : SetNoClockFrom answered.from past
  pub sends_none : SendNoneIn answered.from (answered.from + 4) past
  pub fires : TakesSetUp (first_state (board_at m b) pins b entries) start past ⊎ IsReadSo m switches b came before past

-- The parts of a board's steps that are begun by a turn stop with homing sections that have ended by the end
-- of some turns: each such part is begun 254 to 252 turns before the start of one.
abbrev pub AreHomed : Machine → List Switch → List (List Level) → List Entry → ℕ → ℕ → (ℕ → Option ℕ) → List BoardTurn →
    Type 0
AreHomed m switches pins entries b until stops turns =
    (turn end : ℕ) → turn ≤ until → stops turn ≡ Some end → end ≤ length turns →
    (start : ℕ) × (start ≤ turn + 254) × (turn + 252 ≤ start) × (start ≤ end)
    × IsHomed m switches pins entries b start end turns
