-- Since which tick a board's trigger can't trigger, and as which tick the reactor reads what it tells of that.
use Rattle.std.specs.Prelude.{◌≡◌, ◌⊎◌, ◌≤◌, ◌+◌, ◌-◌, ◌*◌, ℕ, false, List, [], ◌∷◌, ◌++◌, None, Some, length}
use Rattle.plan_types.specs.declared.machine.Machine.{Machine}
use Rattle.plan_types.specs.Clock.{board_tick, clock_of, turn_ns}
use Rattle.plan_types.specs.Lines.{lines_tick}
use Rattle.plan_types.specs.Machines.{board_at}
use Rattle.plan_types.specs.Sections.{clocks_at}
use Rattle.msg_code.specs.declared.cmd.Cmd.{Cmd}
use Rattle.msg_code.specs.declared.cmd.Cmd.TheVariants as cmd
use Rattle.wire_scene.specs.declared.scene.Switch.{Switch}
use Rattle.board_sim.specs.Fair.{Meant, commands_of}
use Rattle.board_sim.specs.Rig.{Rig, Slot, slot_at}
use Rattle.link_work.specs.Turn.{LinkState}
use Rattle.board_asking.specs.Machine.{trigger_of}
use Rattle.trigger_group.specs.declared.seen.Fired.{Fired}
use Rattle.trigger_group.specs.Group.{by_switch}
use Rattle.axis_homing.specs.declared.homing.Homing.{Homing}
use Rattle.axis_homing.specs.Rising.{members_of}
use Rattle.host_reactor.specs.declared.ordered.Phase.TheVariants.{Connecting}
use Rattle.host_reactor.specs.Notes.{news_of, noted}
use Rattle.host_reactor.specs.Runs.{Came, known_by}
use Rattle.laws_board.specs.turns.Turns.{BoardTurn, stands_after}
use Rattle.laws_homing.specs.home_runs.Sections.{queued_in_turns}
use Rattle.laws_homing.specs.home_runs.Told.{IsMember}
use Rattle.laws_homing.specs.home_runs.Words.{BeginsNone}
use Rattle.laws_homing.specs.missed_groups.Ticks.{IsReader}
use Rattle.laws_homing.specs.switch_runs.Reports.{IsReport}
use Rattle.laws_homing.specs.clear_groups.Resting.{EachTame}

-- a trigger stands here that can't trigger, for this reason since this tick
pub record IsFiredAt (trigger reason tick : ℕ) (r : Rig) : Type 0 where
  pub slot : Slot
  pub is : slot_at r trigger ≡ Some slot
  pub fired : slot.trigger.can ≡ false
  pub why : slot.trigger.reason ≡ reason
  pub at : slot.trigger.tick ≡ tick

-- so as one of some turns of a board ended
abbrev pub WasFiredAt : ℕ → ℕ → ℕ → List BoardTurn → Type 0
WasFiredAt trigger reason tick [] = ⊥
WasFiredAt trigger reason tick (t ∷ before) =
    IsFiredAt trigger reason tick t.after.core.board ⊎ WasFiredAt trigger reason tick before

-- Where the state of a board that comes in a turn of the reactor tells that its trigger has triggered, and that counts
-- for the homing section that is known, of which the board is a member, the tick as which it is read is one since which
-- the board's trigger could not trigger, as one of these turns ended.
abbrev pub ReadsTrue : Machine → List Switch → ℕ → Came → List Came → List BoardTurn → Type 0
ReadsTrue m switches b c before turns =
    (h : Homing) (f : Fired) → (noted m c.note (known_by m switches before)).homing ≡ Some h →
    IsMember b (members_of h.group) → IsReport m switches b h.start f c before →
    (reason : ℕ) × WasFiredAt (trigger_of m b) reason f.tick turns

-- Where such a state is of the board of the section's endstop, and tells that readings (1) triggered its trigger, the
-- tick as which it is read is one since which the board's trigger could not trigger for that reason, as one of these
-- turns ended.
abbrev pub ReadsSwitchTrue : Machine → List Switch → ℕ → Came → List Came → List BoardTurn → Type 0
ReadsSwitchTrue m switches b c before turns =
    (h : Homing) (f : Fired) → (noted m c.note (known_by m switches before)).homing ≡ Some h →
    IsReader b (members_of h.group) → f.reason ≡ by_switch → IsReport m switches b h.start f c before →
    WasFiredAt (trigger_of m b) 1 f.tick turns

-- Where the state of a board that comes in a turn of the reactor tells that its trigger has triggered, and that counts
-- for the homing section that is known, of which the board is a member, it is read as what it told: the board's trigger
-- could not trigger since the tick as which it is read, for the told reason, as one of these turns ended.
abbrev pub ReadsAsTold : Machine → List Switch → ℕ → Came → List Came → List BoardTurn → Type 0
ReadsAsTold m switches b c before turns =
    (h : Homing) (f : Fired) → (noted m c.note (known_by m switches before)).homing ≡ Some h →
    IsMember b (members_of h.group) → IsReport m switches b h.start f c before →
    WasFiredAt (trigger_of m b) f.reason f.tick turns

-- so in each of some turns; the first state that came is that of the latest of the board's turns
abbrev pub AreSoInTurns : (Came → List Came → List BoardTurn → Type 0) → List Came → List BoardTurn → Type 0
AreSoInTurns R [] turns = Unit {0}
AreSoInTurns R (c ∷ before) [] = Unit {0}
AreSoInTurns R (c ∷ before) (t ∷ earlier) = R c before (t ∷ earlier) × AreSoInTurns R before earlier

-- so what a board tells is read as ticks since which its trigger can't trigger (`ReadsTrue`)
abbrev pub AreReadTrue : Machine → List Switch → ℕ → List Came → List BoardTurn → Type 0
AreReadTrue m switches b came turns = AreSoInTurns (ReadsTrue m switches b) came turns

-- As a homing section that is known starts a board is no more than a turn ahead of its clock lines, by those
-- that are known in some turns from the start on: its own tick of the turn in front of the start is no later
-- than theirs of the start.
abbrev pub AreNotAhead : Machine → List Switch → ℕ → List Came → Type 0
AreNotAhead m switches b [] = Unit {0}
AreNotAhead m switches b (c ∷ before) =
    ((h : Homing) → (noted m c.note (known_by m switches before)).homing ≡ Some h → h.start ≤ length before →
    board_tick (clock_of (board_at m b)) (h.start - 1)
    ≤ lines_tick (clocks_at (noted m c.note (known_by m switches before)).clocks b) (h.start * turn_ns))
    × AreNotAhead m switches b before

-- Each note begins no section, or it begins one where no homing section is known; and where it is a homing
-- section, past connecting, and 251 turns before its start or earlier.
abbrev pub BeginsApart : Machine → List Switch → List Came → Type 0
BeginsApart m switches [] = Unit {0}
BeginsApart m switches (c ∷ before) =
    (BeginsNone (news_of c.note)
    ⊎ (((known_by m switches before).homing ≡ None)
    × ((h : Homing) → (noted m c.note (known_by m switches before)).homing ≡ Some h →
    ((known_by m switches before).phase ≡ Connecting → ⊥) × (length before + 251 ≤ h.start))))
    × BeginsApart m switches before

-- a command starts a trigger
abbrev pub IsStart : Cmd → Type 0
IsStart (cmd.TrsyncStart oid clock every reason) = Unit {0}
IsStart c = ⊥

-- this trigger can't trigger, where it stands
abbrev pub IsOff : ℕ → Rig → Type 0
IsOff trigger r = (s : Slot) → slot_at r trigger ≡ Some s → s.trigger.can ≡ false

-- A board's trigger can't trigger, and no command is left that starts it.
pub record IsAtRest (trigger : ℕ) (first : LinkState) (turns : List BoardTurn) : Type 0 where
  pub off : IsOff trigger (stands_after first turns).core.board
  pub left : List Meant
  pub rest : (stands_after first turns).core.taken ++ left ≡ (stands_after first turns).core.queued
  pub tame : EachTame (commands_of left)

-- A board took the command that starts its trigger for a homing section with this start, 251 turns before it,
-- with all that was queued before, and nothing that starts it since; and its trigger is at rest.
pub record HasFiredSince (trigger start : ℕ) (first : LinkState) (turns : List BoardTurn) : Type 0 where
  pub later : List BoardTurn
  pub early : List BoardTurn
  pub are : turns ≡ later ++ early
  pub at : length early + 251 ≡ start
  pub front : List Meant
  pub begin : Meant
  pub more : List Meant
  pub took : (stands_after first turns).core.taken ≡ queued_in_turns early ++ (front ++ begin ∷ more)
  pub starts : IsStart begin.command
  pub tame : EachTame (commands_of more)
  pub at_rest : IsAtRest trigger first turns

-- What a board tells in the turns of a run up to one is read so: as the ticks since which its trigger can't
-- trigger, of sections that are begun one behind the other, by clock lines that the board is no more than a
-- turn ahead of.
pub record IsReadSo (m : Machine) (switches : List Switch) (b : ℕ) (c : Came) (before : List Came)
    (turns : List BoardTurn) : Type 0 where
  pub apart : BeginsApart m switches (c ∷ before)
  pub reads : AreReadTrue m switches b (c ∷ before) turns
  pub behind : AreNotAhead m switches b (c ∷ before)

-- so all that a board tells in a run: what comes in each turn of the reactor is of the board's turns before
-- it, of which there are as many
abbrev pub AllRead : (Came → List Came → List BoardTurn → Type 0) → List Came → List BoardTurn → Type 0
AllRead R came [] = Unit {0}
AllRead R came (t ∷ earlier) = AreSoInTurns R came earlier

-- so all that it tells in a run is read true
abbrev pub AllReadTrue : Machine → List Switch → ℕ → List Came → List BoardTurn → Type 0
AllReadTrue m switches b came turns = AllRead (ReadsTrue m switches b) came turns

-- What a board tells in a whole run is read so (`IsReadSo`), up to each of its turns.
pub record AreReadSo (m : Machine) (switches : List Switch) (b : ℕ) (came : List Came) (turns : List BoardTurn)
    : Type 0 where
  pub apart : BeginsApart m switches came
  pub reads : AllReadTrue m switches b came turns
  pub behind : AreNotAhead m switches b came
