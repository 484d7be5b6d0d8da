-- A member's board while a homing section is set up on it.
use Rattle.std.specs.Prelude.{◌≡◌, ◌<◌, ◌≤◌, ◌+◌, ◌*◌, ◌^◌, ℕ, true, List, [], ◌∷◌, map, length, Option, Some, None, slice_index_or}
use Rattle.plan_types.specs.declared.levels.Level.{Level}
use Rattle.plan_types.specs.declared.machine.Machine.{Machine}
use Rattle.plan_types.specs.Clock.{turn_ns}
use Rattle.plan_types.specs.Lines.{Clocks, lines_tick}
use Rattle.msg_code.specs.declared.talk.NoteNews.{NoteNews}
use Rattle.msg_code.specs.declared.talk.NoteNews.TheVariants as news
use Rattle.wire_scene.specs.declared.scene.Entry.{Entry}
use Rattle.wire_scene.specs.declared.scene.Switch.{Switch}
use Rattle.board_asking.specs.Machine.{trigger_of}
use Rattle.laws_board.specs.turns.Turns.{BoardTurn}
use Rattle.board_trig.specs.declared.sampling.Sampling.{Sampling}
use Rattle.board_trig.specs.Kept.{MovesOn}
use Rattle.board_trig.specs.Sampling.{IsTriggerTick}
use Rattle.board_sim.specs.Rig.{Rig, Slot, slot_at}
use Rattle.trigger_group.specs.declared.order.Member.{Member}
use Rattle.trigger_group.specs.Group.{GroupState, unseen, by_timeout}
use Rattle.axis_homing.specs.declared.homing.Homing.{Homing}
use Rattle.axis_homing.specs.Homing.{hears_all}
use Rattle.host_reactor.specs.Notes.{noted}
use Rattle.host_reactor.specs.Runs.{Came, known_by}
use Rattle.laws_homing.specs.home_runs.Guards.{IsSole}
use Rattle.laws_homing.specs.home_runs.Told.{IsMember}
use Rattle.laws_homing.specs.clear_groups.Sections.{AreOfTurn, rig_at}

-- Of a trigger all is told, its readings move on, and its switch triggers it for another reason than its
-- timeout, that fits a byte, at a tick or later.
pub record IsPrepared (base : ℕ) (pins : List (List Level)) (s : Slot) : Type 0 where
  pub told : s.trigger.untold ≡ None
  pub moves : MovesOn s.trigger.sampling
  pub sampled : (y : Sampling) → s.trigger.sampling ≡ Some y →
      (y.reason < 2 ^ 8) × (y.reason ≡ by_timeout → ⊥)
      × ((x : ℕ) → IsTriggerTick (slice_index_or pins s.pin []) y x → base ≤ x)

-- So, and it can trigger, its timeout, where it has one, is this one, its next report is at the tick, reports
-- come every so many ticks, and its reasons fit a byte.
pub record IsArmed (base every : ℕ) (limit : Option ℕ) (pins : List (List Level)) (s : Slot) : Type 0 where
  pub prepared : IsPrepared base pins s
  pub can : s.trigger.can ≡ true
  pub every_is : s.trigger.every ≡ every
  pub report : s.trigger.report ≡ Some base
  pub timed : s.trigger.timeout ≡ limit
  pub reason : s.trigger.reason < 2 ^ 8
  pub expire : s.trigger.expire < 2 ^ 8

-- a board has one trigger, and this holds of it
pub record HoldsOf (oid : ℕ) (P : List (List Level) → Slot → Type 0) (r : Rig) : Type 0 where
  pub sole : IsSole oid r
  pub slot : Slot
  pub is : slot_at r oid ≡ Some slot
  pub so : P r.pins slot

-- A homing group before its boards are started: it has this start and last turn and these members, of which
-- nothing was heard, and relays nothing.
pub record IsNew (start last : ℕ) (members : List Member) (g : GroupState) : Type 0 where
  pub begins : g.start ≡ start
  pub ends : g.last ≡ last
  pub unheard : g.members ≡ map unseen members
  pub calm : g.relay ≡ None

-- so the group of the homing section that the reactor knows in a turn
abbrev pub IsNewIn : Machine → List Switch → (start last : ℕ) → List Member → Came → List Came → Type 0
IsNewIn m switches start last members c before =
    (h : Homing) × ((noted m c.note (known_by m switches before)).homing ≡ Some h)
    × IsNew start last members (hears_all (noted m c.note (known_by m switches before)).clocks c.states h).group

-- so the group of the homing section that is known in the turn with this number, if the run came to it
abbrev pub IsNewAt : Machine → List Switch → (start last : ℕ) → List Member → (at : ℕ) → List Came → Type 0
IsNewAt m switches start last members at [] = Unit {0}
IsNewAt m switches start last members at (c ∷ before) =
    (length before ≡ at → IsNewIn m switches start last members c before)
    × IsNewAt m switches start last members at before

-- the one trigger of each member's board is prepared for a section's start
abbrev pub ArePrepared : (m : Machine) (pins : ℕ → List (List Level)) (entries : List Entry) (lines : ℕ → Clocks)
    (start : ℕ) → List Member → List (ℕ → BoardTurn) → Type 0
ArePrepared m pins entries lines start members all =
    (b : ℕ) → IsMember b members →
    HoldsOf (trigger_of m b) (λ ps s. IsPrepared (lines_tick (lines b) (start * turn_ns)) ps s)
    (rig_at m pins entries all b)

-- so as the turn with this number began
abbrev pub ArePreparedAt : (m : Machine) (pins : ℕ → List (List Level)) (entries : List Entry) (lines : ℕ → Clocks)
    (start : ℕ) → List Member → (at : ℕ) → List (ℕ → BoardTurn) → Type 0
ArePreparedAt m pins entries lines start members at [] = 0 ≡ at → ArePrepared m pins entries lines start members []
ArePreparedAt m pins entries lines start members at (j ∷ js) =
    (length js + 1 ≡ at → ArePrepared m pins entries lines start members (j ∷ js))
    × ArePreparedAt m pins entries lines start members at js

-- all states that came are of the turns before
abbrev pub AllOfTurn : List Came → Type 0
AllOfTurn [] = Unit {0}
AllOfTurn (c ∷ before) = AreOfTurn (length before) c.states × AllOfTurn before

-- a note begins a section
abbrev pub BeginsSome : List NoteNews → Type 0
BeginsSome [] = ⊥
BeginsSome (news.Start section kind turn last moving ∷ ns) = Unit {0}
BeginsSome (n ∷ ns) = BeginsSome ns
