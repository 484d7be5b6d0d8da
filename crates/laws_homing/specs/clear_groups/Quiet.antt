-- A board of which no trigger that can't trigger reads its switch.
use Rattle.std.specs.Prelude.{◌≡◌, ◌+◌, ℕ, false, List, [], ◌∷◌, Option, Some, None}
use Rattle.msg_code.specs.declared.cmd.Cmd.{Cmd}
use Rattle.board_sim.specs.Rig.{Rig, Slot, slot_at}
use Rattle.axis_homing.specs.declared.homing.Homing.{Homing}
use Rattle.axis_homing.specs.Rising.{members_of}
use Rattle.laws_homing.specs.home_runs.Told.{IsMember}
use Rattle.laws_homing.specs.switch_runs.Taken.{IsBlind}

-- no trigger that can't trigger reads its switch
abbrev pub ReadsNoSwitch : Rig → Type 0
ReadsNoSwitch r = (oid : ℕ) (s : Slot) → slot_at r oid ≡ Some s → s.trigger.can ≡ false → s.trigger.sampling ≡ None

-- none of some commands lets a trigger read its switch
abbrev pub EachBlind : List Cmd → Type 0
EachBlind [] = Unit {0}
EachBlind (c ∷ cs) = IsBlind c × EachBlind cs

-- the homing section that is known in a turn starts 250 turns behind it, and a board is among its members
pub record IsReadIn (b turn : ℕ) (o : Option Homing) : Type 0 where
  pub homing : Homing
  pub known : o ≡ Some homing
  pub at : homing.group.start ≡ turn + 250
  pub member : IsMember b (members_of homing.group)
