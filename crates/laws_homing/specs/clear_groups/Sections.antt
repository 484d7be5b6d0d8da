-- A homing section over the turns of a run in a scene without entries, by the reactor and all boards together.
use Rattle.std.specs.Prelude.{◌≡◌, ◌<◌, ◌≤◌, ◌+◌, ◌*◌, ◌/◌, ◌^◌, ℕ, List, [], ◌∷◌, None, Some, length, min}
use Rattle.plan_types.specs.declared.levels.Level.{Level}
use Rattle.plan_types.specs.declared.machine.Machine.{Machine}
use Rattle.plan_types.specs.Clock.{board_tick, clock_of, turn_ns, run_turns}
use Rattle.plan_types.specs.Lines.{Clocks, lines_tick}
use Rattle.plan_types.specs.Machines.{board_at}
use Rattle.plan_types.specs.Sections.{clocks_at}
use Rattle.clock_line.specs.Kept.{AreKept}
use Rattle.msg_code.specs.declared.talk.State.{State}
use Rattle.wire_scene.specs.declared.scene.Entry.{Entry}
use Rattle.wire_scene.specs.declared.scene.Switch.{Switch}
use Rattle.board_asking.specs.Machine.{trigger_of}
use Rattle.link_work.specs.Limits.{AllKeepLimits}
use Rattle.link_work.specs.Stands.{first_state}
use Rattle.trigger_group.specs.declared.order.Member.{Member}
use Rattle.axis_homing.specs.declared.homing.Homing.{Homing}
use Rattle.host_reactor.specs.declared.ordered.Phase.TheVariants.{Connecting}
use Rattle.host_reactor.specs.Notes.{news_of, noted}
use Rattle.host_reactor.specs.Runs.{Came, GoesOn, known_by, state_at}
use Rattle.laws_board.specs.turns.Turns.{BoardTurn, latest_state, stands_after}
use Rattle.board_sim.specs.Rig.{Rig}
use Rattle.laws_board.specs.clocks.Runs.{IsInRun, orders_in}
use Rattle.laws_board.specs.sections.Events.{AreTicks}
use Rattle.laws_board.specs.sections.Parts.{AreTracked}
use Rattle.laws_homing.specs.home_runs.Sections.{HomesFrom}
use Rattle.laws_homing.specs.home_runs.Told.{IsMember}
use Rattle.laws_homing.specs.home_runs.Words.{BeginsNone}
use Rattle.laws_homing.specs.clear_boards.Expiry.{TellExpiry}
use Rattle.laws_homing.specs.clear_boards.Rests.{RestsFrom}

-- of what each board did in some turns, the latest first, what one board did
abbrev pub turns_of : ℕ → List (ℕ → BoardTurn) → List BoardTurn
turns_of b [] = []
turns_of b (j ∷ js) = j b ∷ turns_of b js

-- no state of some turns tells of a shutdown
abbrev pub ShutNone : List BoardTurn → Type 0
ShutNone [] = Unit {0}
ShutNone (t ∷ before) = (t.state.shut ≡ None) × ShutNone before

-- behind a turn no note begins a section
abbrev pub BeginsNoneFrom : ℕ → List Came → Type 0
BeginsNoneFrom from [] = Unit {0}
BeginsNoneFrom from (c ∷ before) = (from < length before → BeginsNone (news_of c.note)) × BeginsNoneFrom from before

-- Clock lines of a board that hold one after the other, by which each turn up to one begins at the same tick
-- as by others.
pub record IsAlike (most : ℕ) (known lines : Clocks) : Type 0 where
  pub kept : AreKept known
  pub ticks : (turn : ℕ) → turn ≤ most → lines_tick known (turn * turn_ns) ≡ lines_tick lines (turn * turn_ns)

-- In each turn behind connecting in which a homing section with this start is known the reactor knows clock
-- lines of each board by which each turn up to 276 behind this one begins at the same tick as by these.
abbrev pub KnowsLines : Machine → List Switch → ℕ → (ℕ → Clocks) → List Came → Type 0
KnowsLines m switches start lines [] = Unit {0}
KnowsLines m switches start lines (c ∷ before) =
    (((known_by m switches before).phase ≡ Connecting → ⊥) → (h : Homing) →
    (noted m c.note (known_by m switches before)).homing ≡ Some h → h.start ≡ start → (b : ℕ) → b < length m.boards →
    (b < length (noted m c.note (known_by m switches before)).clocks)
    × IsAlike (length before + 276) (clocks_at (noted m c.note (known_by m switches before)).clocks b) (lines b))
    × KnowsLines m switches start lines before

-- the ticks between two reports of a board's trigger
abbrev pub report_ticks : Machine → ℕ → ℕ
report_ticks m b = (board_at m b).freq * 5 / 1_000

-- A board whose clock lines follow it, from five turns before a section's start on until a turn at least, or
-- until the turn behind the section's last one, where that is sooner.
pub record IsFollowed (m : Machine) (b : ℕ) (clocks : Clocks) (ready start last until : ℕ) : Type 0 where
  pub tracked : AreTracked (λ k. board_tick (clock_of (board_at m b)) k) clocks ready
  pub begins : ready + 5 ≤ start
  pub goes : start ≤ last
  pub ends : min (last + 1) until ≤ tracked.until
  pub in_run : tracked.until < run_turns
  pub ticks : AreTicks (λ k. board_tick (clock_of (board_at m b)) k)
  pub rises : (u : ℕ) → board_tick (clock_of (board_at m b)) u < board_tick (clock_of (board_at m b)) (u + 1)
  pub reports : (u : ℕ) →
      board_tick (clock_of (board_at m b)) u + report_ticks m b < board_tick (clock_of (board_at m b)) (u + 6)
  pub trigger : trigger_of m b < 2 ^ 8
  pub spaced : 0 < report_ticks m b

-- A member's board in a run that goes on: what it is sent keeps the limits, and none of its states tells of a shutdown.
pub record IsPlain (m : Machine) (switches : List Switch) (pins : List (List Level)) (entries : List Entry) (b : ℕ)
    (before : List Came) (turns : List BoardTurn) : Type 0 where
  pub run : IsInRun m switches pins entries b before turns
  pub limits : AllKeepLimits (orders_in turns)
  pub none_shut : ShutNone turns
  pub in_range : board_tick (clock_of (board_at m b)) (length turns) < 2 ^ 63

-- A member's board in a run that goes on, in any scene: its link rests in each turn from a number on, and none of its
-- states tells of a shutdown.
pub record IsOnward (m : Machine) (switches : List Switch) (pins : List (List Level)) (entries : List Entry)
    (b from : ℕ) (before : List Came) (turns : List BoardTurn) : Type 0 where
  pub run : IsInRun m switches pins entries b before turns
  pub rests : RestsFrom from turns
  pub none_shut : ShutNone turns
  pub in_range : board_tick (clock_of (board_at m b)) (length turns) < 2 ^ 63

-- A homing section that is known from a turn on, as the reactor begins another turn: no later note begins one, by the
-- clock lines that are known with it turns begin as by these, and the reactor and the members' boards, of which
-- something holds, go on together.
pub record IsHomingSection (Goes : ℕ → List Came → List BoardTurn → Type 0) (m : Machine) (switches : List Switch)
    (lines : ℕ → Clocks) (from start : ℕ) (members : List Member) (c : Came) (before : List Came)
    (all : List (ℕ → BoardTurn)) : Type 0 where
  pub goes_on : GoesOn m switches before
  pub long : length all ≡ length before
  pub homes : HomesFrom m switches from start members (c ∷ before)
  pub begins : BeginsNoneFrom from (c ∷ before)
  pub knows : KnowsLines m switches start lines (c ∷ before)
  pub plain : (b : ℕ) → IsMember b members → Goes b before (turns_of b all)
  pub states : (b : ℕ) → IsMember b members → state_at b c.states ≡ latest_state (turns_of b all)

-- so with boards in a scene without entries
abbrev pub IsClearSection : Machine → List Switch → (pins : ℕ → List (List Level)) → List Entry → (lines : ℕ → Clocks)
    → (from start : ℕ) → List Member → Came → List Came → List (ℕ → BoardTurn) → Type 0
IsClearSection m switches pins entries lines from start members c before all =
    IsHomingSection (λ b. IsPlain m switches (pins b) entries b) m switches lines from start members c before all

-- and with boards whose links rest from then on
abbrev pub IsRestingSection : Machine → List Switch → (pins : ℕ → List (List Level)) → List Entry
    → (lines : ℕ → Clocks) → (from start : ℕ) → List Member → Came → List Came → List (ℕ → BoardTurn) → Type 0
IsRestingSection m switches pins entries lines from start members c before all =
    IsHomingSection (λ b. IsOnward m switches (pins b) entries b from) m switches lines from start members c before all

-- a board behind its turns
abbrev pub rig_at : Machine → (ℕ → List (List Level)) → List Entry → List (ℕ → BoardTurn) → ℕ → Rig
rig_at m pins entries all b = (stands_after (first_state (board_at m b) (pins b) b entries) (turns_of b all)).core.board

-- what a board told of expiries in some turns, from a number on, is of no turn that isn't past the section's
-- last one, by any clock lines by which turns begin as by these
abbrev pub AllLate : Clocks → ℕ → ℕ → List BoardTurn → Type 0
AllLate clocks last at [] = Unit {0}
AllLate clocks last at (t ∷ before) =
    (at ≤ length before → (known : Clocks) → IsAlike (length before + 277) known clocks → (when : ℕ) →
    TellExpiry known (length before) when t.state.news → last < when)
    × AllLate clocks last at before

-- the turns before the latest one
abbrev pub earlier_turns : List (ℕ → BoardTurn) → List (ℕ → BoardTurn)
earlier_turns [] = []
earlier_turns (j ∷ js) = js

-- states are of the turn before this one
abbrev pub AreOfTurn : ℕ → List State → Type 0
AreOfTurn turn states = (b : ℕ) (s : State) → state_at b states ≡ s ∷ [] → s.turn + 1 ≡ turn
