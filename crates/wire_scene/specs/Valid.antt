-- What every scene that is read has.
use Rattle.std.specs.Prelude.{◌≡◌, ◌+◌, ◌<◌, ◌≤◌, ◌^◌, All, AllPairs, length, ⊤}
use Rattle.plan_types.specs.declared.machine.Machine.{Machine}
use Rattle.plan_types.specs.Machines.{board_at}
use Rattle.wire_scene.specs.declared.scene.Deed.{Deed}
use Rattle.wire_scene.specs.declared.scene.Deed.TheVariants.{Delay, Garble}
use Rattle.wire_scene.specs.declared.scene.Entry.{Entry}
use Rattle.wire_scene.specs.declared.scene.Switch.{Switch}
use Rattle.wire_scene.specs.declared.scene.Scene.{Scene}
use Rattle.wire_scene.specs.Scenes.{NumbersRise, SwitchesRise}

-- a delay is of 1 to 100,000 turns, and a change is one
abbrev pub IsValidDeed : Deed → Type 0
IsValidDeed (Delay turns) = (1 ≤ turns) × (turns ≤ 100_000)
IsValidDeed (Garble at xor) = (1 ≤ xor) × (xor ≤ 255)
IsValidDeed deed = ⊤

-- an entry of a line: its board is there, and what happens is valid
pub record IsValidEntry (m : Machine) (e : Entry) : Type 0 where
  pub board : e.board < length m.boards
  pub deed : IsValidDeed e.deed

-- an entry of a pin: its board and pin are there, its tick is below 2^63, and it has a line
pub record IsValidSwitch (m : Machine) (s : Switch) : Type 0 where
  pub board : s.board < length m.boards
  pub pin : s.pin < length (board_at m s.board).pins
  pub tick : s.tick < 2 ^ 63
  pub line : 1 ≤ s.line

-- a scene of valid entries, at most 100,000; the numbers on each line and the ticks of each pin rise
pub record IsValidScene (m : Machine) (s : Scene) : Type 0 where
  pub few : length s.entries + length s.switches ≤ 100_000
  pub entries : All (IsValidEntry m) s.entries
  pub switches : All (IsValidSwitch m) s.switches
  pub numbers_rise : NumbersRise s.entries
  pub ticks_rise : SwitchesRise s.switches
