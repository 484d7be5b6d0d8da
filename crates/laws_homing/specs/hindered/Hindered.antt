-- Links that are hindered, in any scene.
use Rattle.std.specs.Prelude.{◌≡◌, ◌⊎◌, ◌+◌, ◌*◌, ◌<◌, ◌≤◌, ◌^◌, ℕ, false, true, List, [], ◌∷◌, Some, length}
use Rattle.plan_types.specs.declared.levels.Level.{Level}
use Rattle.plan_types.specs.declared.machine.Machine.{Machine}
use Rattle.plan_types.specs.Clock.{board_tick, clock_of, turn_ns, run_turns}
use Rattle.plan_types.specs.Lines.{lines_tick}
use Rattle.plan_types.specs.Machines.{board_at}
use Rattle.plan_types.specs.Sections.{clocks_at}
use Rattle.wire_scene.specs.declared.scene.Entry.{Entry}
use Rattle.wire_scene.specs.declared.scene.Switch.{Switch}
use Rattle.link_work.specs.Ends.{is_quiet, none_wait}
use Rattle.link_work.specs.Turn.{LinkState}
use Rattle.board_asking.specs.Machine.{trigger_of}
use Rattle.board_trig.specs.declared.sampling.Sampling.{Sampling}
use Rattle.board_sim.specs.Rig.{Rig, Slot, slot_at}
use Rattle.trigger_group.specs.declared.order.Member.{Member}
use Rattle.trigger_group.specs.Group.{by_timeout}
use Rattle.axis_homing.specs.declared.homing.Homing.{Homing}
use Rattle.axis_homing.specs.Homing.{hears_all}
use Rattle.host_reactor.specs.Notes.{noted}
use Rattle.host_reactor.specs.Runs.{Came, known_by}
use Rattle.laws_board.specs.turns.Turns.{BoardTurn}
use Rattle.laws_board.specs.clocks.Runs.{IsInRun}
use Rattle.laws_homing.specs.fired_runs.Since.{AllRead, AllReadTrue, AreNotAhead, ReadsSwitchTrue}
use Rattle.laws_homing.specs.clear_groups.Early.{HeardUntil}
use Rattle.laws_homing.specs.clear_groups.Sections.{ShutNone, report_ticks, turns_of}

-- A link is hindered as a turn ends: the turn wasn't quiet (something is held on its lines, or an entry was used in it
-- or in the four turns before), or commands wait in the queue.
abbrev pub IsHinderedTurn : ℕ → LinkState → Type 0
IsHinderedTurn turn l = (is_quiet (record { turn = turn; link = l }) ≡ false) ⊎ (none_wait l.core.link.waiting ≡ false)

-- so in one of some turns, from a number on and up to another one
abbrev pub HinderedIn : ℕ → ℕ → List BoardTurn → Type 0
HinderedIn from to [] = ⊥
HinderedIn from to (t ∷ before) =
    ((from ≤ length before) × (length before ≤ to) × IsHinderedTurn (length before) t.after) ⊎ HinderedIn from to before

-- so the link of one of some members' boards
abbrev pub SomeHinderedIn : ℕ → ℕ → List Member → List (ℕ → BoardTurn) → Type 0
SomeHinderedIn from to [] all = ⊥
SomeHinderedIn from to (x ∷ xs) all = HinderedIn from to (turns_of x.board all) ⊎ SomeHinderedIn from to xs all

-- A member's board in a run that goes on, in any scene: none of its states tells of a shutdown, and what it tells of
-- its trigger is read true.
pub record IsGoingOn (m : Machine) (switches : List Switch) (pins : List (List Level)) (entries : List Entry) (b : ℕ)
    (before : List Came) (turns : List BoardTurn) : Type 0 where
  pub run : IsInRun m switches pins entries b before turns
  pub none_shut : ShutNone turns
  pub in_range : board_tick (clock_of (board_at m b)) (length turns) < 2 ^ 63
  pub reads : AllReadTrue m switches b before turns
  pub reads_switch : AllRead (ReadsSwitchTrue m switches b) before turns
  pub behind : AreNotAhead m switches b before

-- In each turn of the reactor from a section's start on the group of the homing section that is known has heard of a
-- board as able to trigger in no turn behind this one.
abbrev pub HeardByNow : Machine → List Switch → ℕ → ℕ → List Came → Type 0
HeardByNow m switches b start [] = Unit {0}
HeardByNow m switches b start (c ∷ before) =
    (start ≤ length before → (h : Homing) → (noted m c.note (known_by m switches before)).homing ≡ Some h →
    HeardUntil (hears_all (noted m c.note (known_by m switches before)).clocks c.states h).group.start b (length before)
    (hears_all (noted m c.note (known_by m switches before)).clocks c.states h).group.members)
    × HeardByNow m switches b start before

-- As a turn begins a board's trigger is live: it can trigger and has a timeout, its readings trigger it for another
-- reason than that (2), and it reports every five turns, the next time within them.
pub record HasLiveTrigger (m : Machine) (b turn : ℕ) (r : Rig) : Type 0 where
  pub slot : Slot
  pub is : slot_at r (trigger_of m b) ≡ Some slot
  pub can : slot.trigger.can ≡ true
  pub timeout : ℕ
  pub timed : slot.trigger.timeout ≡ Some timeout
  pub reads : (y : Sampling) → slot.trigger.sampling ≡ Some y → y.reason ≡ by_timeout → ⊥
  pub every : slot.trigger.every ≡ report_ticks m b
  pub next : ℕ
  pub report : slot.trigger.report ≡ Some next
  pub due : board_tick (clock_of (board_at m b)) turn ≤ next
  pub soon : next ≤ board_tick (clock_of (board_at m b)) turn + report_ticks m b

-- As a turn begins a board's trigger has triggered, at a tick from this one on, and goes on reporting: every five
-- turns, the next time within them.
pub record HasTellingTrigger (m : Machine) (b base turn : ℕ) (r : Rig) : Type 0 where
  pub slot : Slot
  pub is : slot_at r (trigger_of m b) ≡ Some slot
  pub fired : slot.trigger.can ≡ false
  pub every : slot.trigger.every ≡ report_ticks m b
  pub next : ℕ
  pub report : slot.trigger.report ≡ Some next
  pub due : board_tick (clock_of (board_at m b)) turn ≤ next
  pub soon : next ≤ board_tick (clock_of (board_at m b)) turn + report_ticks m b
  pub since : base ≤ slot.trigger.tick

-- so it has, or it is live
abbrev pub TellsOn : Machine → (b base turn : ℕ) → Rig → Type 0
TellsOn m b base turn r = HasLiveTrigger m b turn r ⊎ HasTellingTrigger m b base turn r

-- so a board stood as its turn with this number began
abbrev pub StoodAt : (Rig → Type 0) → ℕ → List BoardTurn → Type 0
StoodAt P at [] = Unit {0}
StoodAt P at (t ∷ before) = (length before + 1 ≡ at → P t.after.core.board) × StoodAt P at before

-- By the clock lines of a board that the reactor knows in a turn a round of the 32-bit clock fits between this turn and
-- the last one of a run.
abbrev pub HasRoundAhead : Machine → List Switch → ℕ → Came → List Came → Type 0
HasRoundAhead m switches b c before =
    let known = clocks_at (noted m c.note (known_by m switches before)).clocks b in
    lines_tick known (length before * turn_ns) + 2 ^ 32 ≤ lines_tick known (run_turns * turn_ns)

-- so in each turn of a section, from its start to its last one
abbrev pub HaveRoundAhead : Machine → List Switch → (b start last : ℕ) → List Came → Type 0
HaveRoundAhead m switches b start last [] = Unit {0}
HaveRoundAhead m switches b start last (c ∷ before) =
    (start ≤ length before → length before ≤ last → HasRoundAhead m switches b c before)
    × HaveRoundAhead m switches b start last before
