-- The board for which a run ends as one that expired, among the members of its homing section's group; and
-- what these told where it ends since no switch closed.
use Rattle.std.specs.Prelude.{◌≡◌, ◌<◌, ◌≤◌, ℕ, true, List, [], ◌∷◌, ◌++◌, Some, length}
use Rattle.plan_types.specs.declared.machine.Machine.{Machine}
use Rattle.plan_types.specs.Machines.{axis_at}
use Rattle.wire_scene.specs.declared.scene.Switch.{Switch}
use Rattle.trigger_group.specs.declared.order.Member.{Member}
use Rattle.trigger_group.specs.declared.seen.Fired.{Fired}
use Rattle.trigger_group.specs.Kept.{BoardsRise}
use Rattle.trigger_group.specs.Group.{by_switch, by_timeout}
use Rattle.axis_homing.specs.declared.homing.Homing.{Homing}
use Rattle.axis_homing.specs.Rising.{members_of}
use Rattle.host_reactor.specs.Notes.{noted}
use Rattle.host_reactor.specs.Runs.{known_by}
use Rattle.session_work.specs.declared.table.ReactorTurn.{ReactorTurn}
use Rattle.session_run.specs.Boards.{came_from, came_in}
use Rattle.laws_homing.specs.missed_groups.Ticks.{IsReader}
use Rattle.laws_homing.specs.switch_runs.Reports.{WasReported}

-- each of some members told that its trigger has triggered
abbrev pub HaveTold : (ℕ → Fired → Type 0) → List Member → Type 0
HaveTold W [] = Unit {0}
HaveTold W (x ∷ xs) = ((f : Fired) × W x.board f) × HaveTold W xs

-- and none of them that its timeout passed in a turn up to this one
abbrev pub NoneExpired : (ℕ → Fired → Type 0) → ℕ → List Member → Type 0
NoneExpired W last [] = Unit {0}
NoneExpired W last (x ∷ xs) =
    ((f : Fired) × W x.board f × (f.reason ≡ by_timeout → f.turn ≤ last → ⊥)) × NoneExpired W last xs

-- Of some members this board is the first one that told that its timeout passed in a turn up to this last
-- one, and it passed in that turn; all told that their triggers have triggered.
pub record IsFirstOf (W : ℕ → Fired → Type 0) (last board turn : ℕ) (members : List Member) : Type 0 where
  pub ahead : List Member
  pub at : Member
  pub behind : List Member
  pub are : members ≡ ahead ++ at ∷ behind
  pub board_is : at.board ≡ board
  pub tick : ℕ
  pub told : W board (record { reason = 2; tick = tick; turn = turn })
  pub early : turn ≤ last
  pub others : NoneExpired W last ahead
  pub later : HaveTold W behind

-- A run ends as a board expired in a turn: in the homing section that is under way all members told that
-- their triggers have triggered, in states of the turn in front of its start or later, and of those that told
-- that their timeouts passed in turns up to the section's last one the board is the first. The members stand
-- in the order of their boards' numbers.
pub record IsFirstExpired (m : Machine) (switches : List Switch) (board turn : ℕ) (turns : List ReactorTurn)
    (last : ReactorTurn) : Type 0 where
  pub homing : Homing
  pub known : (noted m last.note (known_by m switches (came_from [] turns))).homing ≡ Some homing
  pub rise : BoardsRise (members_of homing.group)
  pub first : IsFirstOf (λ b f. WasReported m switches b homing.start f (came_in last ∷ came_from [] turns))
      homing.group.last board turn (members_of homing.group)

-- Each of some members told that its trigger has triggered: none since its timeout passed in a turn up to
-- this one, and none with an endstop by readings.
abbrev pub NoneSwitched : (ℕ → Fired → Type 0) → ℕ → List Member → Type 0
NoneSwitched W last [] = Unit {0}
NoneSwitched W last (x ∷ xs) =
    ((f : Fired) × W x.board f × (f.reason ≡ by_timeout → f.turn ≤ last → ⊥)
    × (x.endstop ≡ true → f.reason ≡ by_switch → ⊥))
    × NoneSwitched W last xs

-- A run ends since no switch closed in the section with this number: it is the homing section that is under
-- way, and its members, in states of the turn in front of its start or later, told so. They stand in the
-- order of their boards' numbers; one is the endstop's board, where there is that.
pub record IsUnswitched (m : Machine) (switches : List Switch) (section : ℕ) (turns : List ReactorTurn)
    (last : ReactorTurn) : Type 0 where
  pub homing : Homing
  pub known : (noted m last.note (known_by m switches (came_from [] turns))).homing ≡ Some homing
  pub number : homing.section ≡ section
  pub rise : BoardsRise (members_of homing.group)
  pub reader : (axis_at m homing.axis).board < length m.boards →
      IsReader (axis_at m homing.axis).board (members_of homing.group)
  pub none : NoneSwitched (λ b f. WasReported m switches b homing.start f (came_in last ∷ came_from [] turns))
      homing.group.last (members_of homing.group)
