-- In what order a board takes the commands of a homing section.
use Rattle.std.specs.Prelude.{◌<◌, ◌≡◌, ◌≤◌, ◌==◌, ◌&&◌, ◌+◌, ◌++◌, ℕ, List, [], ◌∷◌, length, max, if◌then◌else◌}
use Rattle.plan_types.specs.declared.levels.Level.{Level}
use Rattle.plan_types.specs.declared.machine.Machine.{Machine}
use Rattle.plan_types.specs.declared.plan.Pulse.{Pulse}
use Rattle.plan_types.specs.Machines.{board_at, stepper_at}
use Rattle.msg_code.specs.declared.cmd.Cmd.{Cmd}
use Rattle.msg_code.specs.declared.cmd.Cmd.TheVariants as cmd
use Rattle.wire_scene.specs.declared.scene.Entry.{Entry}
use Rattle.wire_scene.specs.declared.scene.Switch.{Switch}
use Rattle.board_sim.specs.Fair.{Meant}
use Rattle.board_sim.specs.RigRuns.{AllBefore}
use Rattle.link_work.specs.Stands.{first_state}
use Rattle.link_work.specs.Turn.{LinkState}
use Rattle.trigger_group.specs.declared.order.Member.{Member}
use Rattle.board_asking.specs.Machine.{trigger_of}
use Rattle.host_reactor.specs.Runs.{Came}
use Rattle.laws_board.specs.turns.Turns.{BoardTurn, stands_after}
use Rattle.laws_board.specs.clocks.Runs.{IsInRun}
use Rattle.laws_homing.specs.home_runs.Sections.{HomesFrom, Moves, queued_in_turns}
use Rattle.laws_homing.specs.home_runs.Settled.{SendNoneIn, SetNoClockFrom}

-- How far a stepper is set up, and its trigger: 1, its clock is set; 2, the trigger is started; 3, a timeout is set;
-- 4, the stepper is bound to the trigger. What a command makes of it.
abbrev pub far_by : ℕ → ℕ → ℕ → Cmd → ℕ
far_by stepper trigger far (cmd.ResetStepClock oid clock) = if oid == stepper then 1 else far
far_by stepper trigger far (cmd.TrsyncStart oid clock every reason) = if oid == trigger then 2 else far
far_by stepper trigger far (cmd.TrsyncSetTimeout oid clock) = if oid == trigger then max far 3 else far
far_by stepper trigger far (cmd.StepperStopOnTrigger oid other) =
    if (oid == stepper) && (other == trigger) then 4 else far
far_by stepper trigger far c = far

-- A command comes in order: no clock is set once the trigger is started; it is started once, behind the clock; a
-- timeout is set behind that; the stepper is bound behind the first one; and it takes a step only when it is bound.
abbrev pub IsInOrder : ℕ → ℕ → ℕ → Cmd → Type 0
IsInOrder stepper trigger far (cmd.ResetStepClock oid clock) = oid ≡ stepper → far ≤ 1
IsInOrder stepper trigger far (cmd.TrsyncStart oid clock every reason) = oid ≡ trigger → far ≡ 1
IsInOrder stepper trigger far (cmd.TrsyncSetTimeout oid clock) = oid ≡ trigger → 2 ≤ far
IsInOrder stepper trigger far (cmd.StepperStopOnTrigger oid other) = oid ≡ stepper → 3 ≤ far
IsInOrder stepper trigger far (cmd.QueueStep oid interval count add) = oid ≡ stepper → far ≡ 4
IsInOrder stepper trigger far c = Unit {0}

-- so do some commands, of a stepper that is set up so far
abbrev pub AreSetUpInOrder : ℕ → ℕ → ℕ → List Cmd → Type 0
AreSetUpInOrder stepper trigger far [] = Unit {0}
AreSetUpInOrder stepper trigger far (c ∷ cs) =
    IsInOrder stepper trigger far c × AreSetUpInOrder stepper trigger (far_by stepper trigger far c) cs

-- behind a turn a board has taken the command that stands behind some others, and it had not behind the turns before
abbrev pub TookInTurn : LinkState → List Meant → BoardTurn → List BoardTurn → Type 0
TookInTurn first front t past =
    (length (stands_after first past).core.taken ≤ length front) × (length front < length t.after.core.taken)

-- In a turn of a run a board took the command that binds a stepper to its trigger, for a homing section with these
-- members in which the stepper moves; the section was known, and no unit set a clock, from 254 turns before its start
-- on, and none was sent in the four turns of the set-up.
pub record IsBoundIn (m : Machine) (switches : List Switch) (pins : List (List Level)) (entries : List Entry)
    (b stepper : ℕ) (came : List Came) (later : List BoardTurn) (t : BoardTurn) (between early : List BoardTurn)
    (from start : ℕ) (members : List Member) : Type 0 where
  pub run_is : IsInRun m switches pins entries b came (later ++ t ∷ (between ++ early))
  pub homes : HomesFrom m switches from start members came
  pub begun : from + 254 ≡ start
  pub long : length early ≡ from
  pub moves : Moves b stepper members
  pub there : stepper < length m.steppers
  pub on : (stepper_at m stepper).board ≡ b
  pub sets_none : SetNoClockFrom from (later ++ t ∷ (between ++ early))
  pub sends_none : SendNoneIn from (from + 4) (later ++ t ∷ (between ++ early))
  pub front : List Meant
  pub bind : Meant
  pub behind : List Meant
  pub took : (stands_after (first_state (board_at m b) pins b entries) (later ++ t ∷ (between ++ early))).core.taken
      ≡ queued_in_turns early ++ (front ++ bind ∷ behind)
  pub is : bind.command ≡ cmd.StepperStopOnTrigger (stepper_at m stepper).oid (trigger_of m b)
  pub in_turn : TookInTurn (first_state (board_at m b) pins b entries) (queued_in_turns early ++ front) t
      (between ++ early)

-- the pulses of a stepper that its board makes in some turns, but for those of the first ones, are before a tick
abbrev pub StopsAt : Machine → List (List Level) → List Entry → ℕ → ℕ → ℕ → List BoardTurn → List BoardTurn → Type 0
StopsAt m pins entries b stepper most turns first =
    (pulses : List Pulse) × ((stands_after (first_state (board_at m b) pins b entries) first).core.made ++ pulses
    ≡ (stands_after (first_state (board_at m b) pins b entries) turns).core.made)
    × AllBefore (stepper_at m stepper).oid most pulses
