-- The boards of a homing group as a turn begins, when the group has heard what they told: none expires before
-- the end of the section's last turn.
use Rattle.std.specs.Prelude.{◌≡◌, ◌⊎◌, ◌<◌, ◌≤◌, ◌+◌, ◌*◌, ℕ, List, [], ◌∷◌, None, Some, length}
use Rattle.plan_types.specs.declared.levels.Level.{Level}
use Rattle.plan_types.specs.declared.machine.Machine.{Machine}
use Rattle.plan_types.specs.Clock.{board_tick, clock_of, turn_ns}
use Rattle.plan_types.specs.Lines.{Clocks, lines_tick}
use Rattle.plan_types.specs.Machines.{board_at}
use Rattle.wire_scene.specs.declared.scene.Entry.{Entry}
use Rattle.wire_scene.specs.declared.scene.Switch.{Switch}
use Rattle.board_asking.specs.Machine.{trigger_of}
use Rattle.board_sim.specs.Rig.{Rig}
use Rattle.trigger_group.specs.declared.order.Member.{Member}
use Rattle.trigger_group.specs.declared.seen.Seen.{Seen}
use Rattle.trigger_group.specs.Group.{GroupState}
use Rattle.axis_homing.specs.declared.homing.Homing.{Homing}
use Rattle.axis_homing.specs.Homing.{hears_all}
use Rattle.host_reactor.specs.Notes.{noted}
use Rattle.host_reactor.specs.Runs.{Came, known_by}
use Rattle.laws_board.specs.turns.Turns.{BoardTurn}
use Rattle.laws_homing.specs.home_runs.Guards.{HasFired}
use Rattle.laws_homing.specs.home_runs.Told.{IsMember}
use Rattle.laws_homing.specs.clear_boards.Firing.{AllSmall}
use Rattle.laws_homing.specs.clear_boards.Hearing.{FiredOn}
use Rattle.laws_homing.specs.clear_boards.Limited.{IsLimited}
use Rattle.laws_homing.specs.clear_boards.Member.{IsMember as IsMemberAt}
use Rattle.laws_homing.specs.clear_boards.Modes.{IsFiringKnown, IsLive, IsTimed}
use Rattle.laws_homing.specs.clear_groups.Early.{HeardUntil}
use Rattle.laws_homing.specs.clear_groups.Sections.{report_ticks, earlier_turns, rig_at}

-- the timeout of a board's one trigger is at this turn, while it can trigger, and it never expired
abbrev pub IsRenewed : ℕ → Clocks → ℕ → Rig → Type 0
IsRenewed oid clocks timeout r = (tick : ℕ) → IsLimited oid tick (lines_tick clocks (timeout * turn_ns)) r

-- Its group, with this last timeout and these members, watches it: it can trigger and was heard of lately, by
-- no more than 249 turns ahead, and the timeout is at most 274 turns ahead; or it triggered and is known to
-- have by the section's last turn.
abbrev pub IsWatched : Machine → Clocks → (b turn start last sent : ℕ) → List Seen → Rig → Type 0
IsWatched m clocks b turn start last sent members r =
    (IsMemberAt (λ k. board_tick (clock_of (board_at m b)) k) (trigger_of m b) (lines_tick clocks (start * turn_ns))
    (report_ticks m b) start last b turn r members
    × HeardUntil start b (turn + 249) members × (sent ≤ turn + 274))
    ⊎ (HasFired (trigger_of m b) r × FiredOn b last members)

-- its timeout is the one behind the section's last turn, and it never expired, or at that tick alone, and that is past
abbrev pub IsLast : Machine → Clocks → (b turn last : ℕ) → Rig → Type 0
IsLast m clocks b turn last r =
    IsRenewed (trigger_of m b) clocks (last + 1) r
    ⊎ (IsLimited (trigger_of m b) (lines_tick clocks ((last + 1) * turn_ns)) (lines_tick clocks ((last + 1) * turn_ns))
    r
    × (lines_tick clocks ((last + 1) * turn_ns) < board_tick (clock_of (board_at m b)) turn))

-- In a turn before the section's start the first timeout is sent; from the start on the last one is three
-- turns ahead, and all could trigger lately or one is known to have triggered.
abbrev pub IsFar : ℕ → GroupState → Type 0
IsFar turn g =
    ((turn < g.start) × (g.start + 1 ≤ g.sent))
    ⊎ ((g.start ≤ turn) × (turn + 3 ≤ g.sent) × (IsLive turn g ⊎ IsFiringKnown turn g))

-- The timeout behind the last turn is sent; or no member's board can trigger any more, and none expired; or
-- the group watches each, and doesn't relay yet.
abbrev pub IsGroupHeld : (m : Machine) (lines : ℕ → Clocks) (start last : ℕ) (members : List Member) (turn : ℕ)
    (g : GroupState) (rigs : ℕ → Rig) → Type 0
IsGroupHeld m lines start last members turn g rigs =
    ((g.sent ≡ last + 1) × ((b : ℕ) → IsMember b members → IsLast m (lines b) b turn last (rigs b)))
    ⊎ (((b : ℕ) → IsMember b members →
    IsRenewed (trigger_of m b) (lines b) g.sent (rigs b) × HasFired (trigger_of m b) (rigs b))
    ⊎ ((g.relay ≡ None) × IsFar turn g
    × ((b : ℕ) → IsMember b members →
    IsRenewed (trigger_of m b) (lines b) g.sent (rigs b)
    × IsWatched m (lines b) b turn start last g.sent g.members (rigs b))))

-- The group of a section with this start and last turn, and its members' boards, as a turn begins: its
-- timeouts are in their bounds, and no board expired before the end of the section's last turn, nor will.
pub record IsSafe (m : Machine) (lines : ℕ → Clocks) (start last : ℕ) (members : List Member) (turn : ℕ)
    (g : GroupState) (rigs : ℕ → Rig) : Type 0 where
  pub begins : g.start ≡ start
  pub ends : g.last ≡ last
  pub timed : IsTimed g
  pub small : (b : ℕ) → IsMember b members → AllSmall (rigs b)
  pub held : IsGroupHeld m lines start last members turn g rigs

-- so the group of the homing section that the reactor knows in a turn, and its boards
abbrev pub IsSafeIn : (m : Machine) (switches : List Switch) (pins : ℕ → List (List Level)) (entries : List Entry)
    (lines : ℕ → Clocks) (start last : ℕ) (members : List Member) → Came → List Came → List (ℕ → BoardTurn) → Type 0
IsSafeIn m switches pins entries lines start last members c before all =
    (h : Homing) × ((noted m c.note (known_by m switches before)).homing ≡ Some h)
    × IsSafe m lines start last members (length before)
    (hears_all (noted m c.note (known_by m switches before)).clocks c.states h).group (rig_at m pins entries all)

-- so as the turn with this number began
abbrev pub IsSafeAt : (m : Machine) (switches : List Switch) (pins : ℕ → List (List Level)) (entries : List Entry)
    (lines : ℕ → Clocks) (start last : ℕ) (members : List Member) (at : ℕ) → List Came → List (ℕ → BoardTurn) → Type 0
IsSafeAt m switches pins entries lines start last members at [] all = Unit {0}
IsSafeAt m switches pins entries lines start last members at (c ∷ before) all =
    (length before ≡ at → IsSafeIn m switches pins entries lines start last members c before all)
    × IsSafeAt m switches pins entries lines start last members at before (earlier_turns all)
