-- A homing section over the turns of a run: what the reactor knows of it, which steppers move in it, and what
-- the planner sends.
use Rattle.std.specs.Prelude.{◌≡◌, ◌<◌, ◌≤◌, ◌+◌, ◌⊎◌, ℕ, true, List, [], ◌∷◌, ◌++◌, length, Option, Some, None}
use Rattle.plan_types.specs.declared.machine.Machine.{Machine}
use Rattle.plan_types.specs.Machines.{stepper_at}
use Rattle.msg_code.specs.declared.unit.Unit.{Unit as StepUnit}
use Rattle.wire_scene.specs.declared.scene.Switch.{Switch}
use Rattle.board_sim.specs.Fair.{Meant}
use Rattle.link_work.specs.Ends.{is_idle, spoiled}
use Rattle.link_work.specs.Runs.{queued_in}
use Rattle.link_work.specs.Stands.{orders}
use Rattle.link_work.specs.Turn.{LinkState}
use Rattle.trigger_group.specs.declared.order.End.{End}
use Rattle.trigger_group.specs.declared.order.Member.{Member}
use Rattle.trigger_group.specs.Group.{steppers, unseen}
use Rattle.axis_homing.specs.declared.homing.Homing.{Homing}
use Rattle.axis_homing.specs.Homing.{answer_in, hears_all}
use Rattle.axis_homing.specs.Rising.{members_of}
use Rattle.host_reactor.specs.declared.ordered.Phase.TheVariants.{Connecting}
use Rattle.host_reactor.specs.Notes.{noted}
use Rattle.host_reactor.specs.Runs.{Came, known_by}
use Rattle.laws_board.specs.turns.Turns.{BoardTurn, stands_after}
use Rattle.laws_board.specs.clocks.Runs.{ends_in}
use Rattle.laws_board.specs.clocks.Samples.{IsAmong}

-- a stepper of a board moves in a homing section with these members
abbrev pub Moves : ℕ → ℕ → List Member → Type 0
Moves b stepper [] = ⊥
Moves b stepper (x ∷ ms) = ((x.board ≡ b) × IsAmong stepper (steppers (unseen x))) ⊎ Moves b stepper ms

-- the homing section that is known has this start and these members
abbrev pub IsOf : ℕ → List Member → Option Homing → Type 0
IsOf start members None = ⊥
IsOf start members (Some h) = (h.start ≡ start) × (h.group.start ≡ start) × (members_of h.group ≡ members)

-- from a turn on a run is past connecting, and the homing section that is known in it has this start and these members
abbrev pub HomesFrom : Machine → List Switch → ℕ → ℕ → List Member → List Came → Type 0
HomesFrom m switches from start members [] = Unit {0}
HomesFrom m switches from start members (c ∷ before) =
    (from ≤ length before →
    ((known_by m switches before).phase ≡ Connecting → ⊥)
    × IsOf start members (noted m c.note (known_by m switches before)).homing)
    × HomesFrom m switches from start members before

-- no unit sets the clock of a stepper
abbrev pub SetNone : ℕ → List StepUnit → Type 0
SetNone oid [] = Unit {0}
SetNone oid (u ∷ us) = (u.stepper ≡ oid → u.reset ≡ None) × SetNone oid us

-- nor does any in some turns from a number on
abbrev pub SetNoneFrom : ℕ → ℕ → List BoardTurn → Type 0
SetNoneFrom oid from [] = Unit {0}
SetNoneFrom oid from (t ∷ before) = (from ≤ length before → SetNone oid t.batch.units) × SetNoneFrom oid from before

-- what was queued in some turns
abbrev pub queued_in_turns : List BoardTurn → List Meant
queued_in_turns [] = []
queued_in_turns (t ∷ before) = queued_in_turns before ++ queued_in (orders t.control t.batch)

-- A board in a homing section, in some turns up to that in which its group answers: 250 turns before the
-- section's start the last command of the set-up was queued; and before the turn in front of the start there
-- is one by which the board has taken all that was queued until then, and nothing that it said is under way
-- any more.
pub record TakesSetUp (first : LinkState) (start : ℕ) (turns : List BoardTurn) : Type 0 where
  pub window : List BoardTurn
  pub late : List BoardTurn
  pub past : List BoardTurn
  pub are : turns ≡ window ++ (late ++ past)
  pub queued : start ≤ length past + 249
  pub in_time : length (late ++ past) + 1 ≤ start
  pub more : List Meant
  pub took : queued_in_turns past ++ more ≡ (stands_after first (late ++ past)).core.taken
  pub heard : (stands_after first (late ++ past)).core.link.up ≡ []

-- the group of the homing section that is known answers in a turn, by what came to the reactor in it and
-- before; and the section was known from 254 turns before its start on
pub record GroupAnswers (m : Machine) (switches : List Switch) (c : Came) (before : List Came) (h : Homing) :
    Type 0 where
  pub known : (noted m c.note (known_by m switches before)).homing ≡ Some h
  pub end : End
  pub answer : answer_in (length before) h.start
      (hears_all (noted m c.note (known_by m switches before)).clocks c.states h).group ≡ Some end
  pub from : ℕ
  pub set_up : from + 254 ≡ h.start
  pub since : HomesFrom m switches from h.start (members_of h.group) before

-- a stepper of a board moves in a homing section, and from 254 turns before its start on no unit sets its clock
pub record IsMoved (m : Machine) (b : ℕ) (h : Homing) (turns : List BoardTurn) (stepper : ℕ) : Type 0 where
  pub moves : Moves b stepper (members_of h.group)
  pub there : stepper < length m.steppers
  pub on : (stepper_at m stepper).board ≡ b
  pub from : ℕ
  pub begun : from + 254 ≡ h.start
  pub sets_none : SetNoneFrom (stepper_at m stepper).oid from turns

-- 249 turns before a section's start or later, and before the turn in front of it, a turn ends in which
-- nothing is left of a link's work: nothing waits or is outstanding, and nothing is under way up.
pub record RestsInTime (first : LinkState) (start : ℕ) (turns : List BoardTurn) : Type 0 where
  pub later : List BoardTurn
  pub past : List BoardTurn
  pub are : turns ≡ later ++ past
  pub queued : start ≤ length past + 249
  pub in_time : length past + 1 ≤ start
  pub idle : is_idle (stands_after first past) ≡ true
  pub none : (stands_after first past).up.copies ≡ []

-- Between the set-up of a homing section, n turns on, and the turn in front of its start a turn ends in which
-- nothing is under way up; of the busy stretch at its end at most n turns were spoiled.
pub record SpoilsFew (first : LinkState) (start n : ℕ) (turns : List BoardTurn) : Type 0 where
  pub later : List BoardTurn
  pub past : List BoardTurn
  pub are : turns ≡ later ++ past
  pub queued : start + n ≤ length past + 249
  pub in_time : length past + 1 ≤ start
  pub few : spoiled (ends_in past) ≤ n
  pub none : (stands_after first past).up.copies ≡ []
