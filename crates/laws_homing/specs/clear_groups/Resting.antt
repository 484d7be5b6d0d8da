-- A board between and in the homing sections of a run.
use Rattle.std.specs.Prelude.{◌≡◌, ◌⊎◌, ◌≤◌, ◌+◌, ℕ, List, [], ◌∷◌, Option, Some, None, length}
use Rattle.plan_types.specs.declared.machine.Machine.{Machine}
use Rattle.msg_code.specs.declared.cmd.Cmd.{Cmd}
use Rattle.msg_code.specs.declared.cmd.Cmd.TheVariants as cmd
use Rattle.wire_scene.specs.declared.scene.Switch.{Switch}
use Rattle.board_sim.specs.Rig.{Rig}
use Rattle.laws_board.specs.turns.Turns.{BoardTurn}
use Rattle.axis_homing.specs.declared.homing.Homing.{Homing}
use Rattle.axis_homing.specs.Rising.{members_of}
use Rattle.host_reactor.specs.Notes.{news_of, noted}
use Rattle.host_reactor.specs.Runs.{Came, known_by}
use Rattle.laws_homing.specs.home_runs.Guards.{HasFired}
use Rattle.laws_homing.specs.home_runs.Told.{IsMember, TellFiredFrom}
use Rattle.laws_homing.specs.home_runs.Words.{BeginsNone}

-- a command starts no trigger
abbrev pub IsTame : Cmd → Type 0
IsTame (cmd.TrsyncStart oid clock every reason) = ⊥
IsTame c = Unit {0}

-- none of some commands starts a trigger
abbrev pub EachTame : List Cmd → Type 0
EachTame [] = Unit {0}
EachTame (c ∷ cs) = IsTame c × EachTame cs

-- the homing section that is known in a turn starts 251 turns behind it, and a board is among its members
pub record IsStartedIn (b turn : ℕ) (o : Option Homing) : Type 0 where
  pub homing : Homing
  pub known : o ≡ Some homing
  pub at : homing.group.start ≡ turn + 251
  pub member : IsMember b (members_of homing.group)

-- A board has started its trigger for the section that is known; and once it told since of a trigger that it
-- can't trigger, its own can't.
pub record IsUnderWay (oid b turn : ℕ) (o : Option Homing) (turns : List BoardTurn) (r : Rig) : Type 0 where
  pub homing : Homing
  pub known : o ≡ Some homing
  pub together : homing.group.start ≡ homing.start
  pub since : homing.start ≤ turn + 250
  pub member : IsMember b (members_of homing.group)
  pub fires : TellFiredFrom homing.start turns → HasFired oid r

-- Each note begins no section, or it begins one where none is known, 251 turns before the start or earlier.
abbrev pub BeginsAlone : Machine → List Switch → List Came → Type 0
BeginsAlone m switches [] = Unit {0}
BeginsAlone m switches (c ∷ before) =
    (BeginsNone (news_of c.note)
    ⊎ (((known_by m switches before).homing ≡ None)
    × ((h : Homing) → (noted m c.note (known_by m switches before)).homing ≡ Some h → length before + 251 ≤ h.start)))
    × BeginsAlone m switches before
