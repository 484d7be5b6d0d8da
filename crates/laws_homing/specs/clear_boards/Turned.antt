-- A turn of a board behind the set-up of a homing section.
use Rattle.std.specs.Prelude.{◌≡◌, ◌⊎◌, ◌++◌, ℕ, List, [], ◌∷◌}
use Rattle.msg_code.specs.declared.cmd.Cmd.{Cmd}
use Rattle.msg_code.specs.declared.cmd.Cmd.TheVariants as cmd
use Rattle.board_sim.specs.Rig.{Rig, passes, takes_all}
use Rattle.board_world.specs.World.{says}
use Rattle.trigger_group.specs.Group.{by_host}
use Rattle.laws_homing.specs.clear_boards.Held.{AllTellOnly}
use Rattle.laws_homing.specs.clear_boards.Limited.{IsLimited}

-- A command that a board is sent behind the set-up: it makes, starts and samples no trigger, and binds no
-- stepper; a timeout that it sets is this trigger's, at this clock; and what it triggers is this trigger, as
-- a relay.
abbrev pub IsSentBehind : ℕ → ℕ → Cmd → Type 0
IsSentBehind oid clock (cmd.TrsyncSetTimeout other at) = (other ≡ oid) × (at ≡ clock)
IsSentBehind oid clock (cmd.TrsyncTrigger other reason) = (other ≡ oid) × (reason ≡ by_host)
IsSentBehind oid clock (cmd.ConfigTrsync other) = ⊥
IsSentBehind oid clock (cmd.TrsyncStart other at every reason) = ⊥
IsSentBehind oid clock (cmd.StepperStopOnTrigger stepper other) = ⊥
IsSentBehind oid clock (cmd.ConfigEndstop other pin pull) = ⊥
IsSentBehind oid clock (cmd.EndstopHome other at sample count rest value trigger reason) = ⊥
IsSentBehind oid clock c = Unit {0}

-- so each of some commands
abbrev pub AreSentBehind : ℕ → ℕ → List Cmd → Type 0
AreSentBehind oid clock [] = Unit {0}
AreSentBehind oid clock (c ∷ cs) = IsSentBehind oid clock c × AreSentBehind oid clock cs

-- a command sets the timeout of a trigger
abbrev pub SetsTimeout : Cmd → Type 0
SetsTimeout (cmd.TrsyncSetTimeout other at) = Unit {0}
SetsTimeout c = ⊥

-- one of some commands sets the timeout of a trigger
abbrev pub SetsOne : List Cmd → Type 0
SetsOne [] = ⊥
SetsOne (c ∷ cs) = SetsTimeout c ⊎ SetsOne cs

-- a command tells a trigger to trigger
abbrev pub Relays : Cmd → Type 0
Relays (cmd.TrsyncTrigger other reason) = Unit {0}
Relays c = ⊥

-- one of some commands tells a trigger to trigger
abbrev pub RelaysOne : List Cmd → Type 0
RelaysOne [] = ⊥
RelaysOne (c ∷ cs) = Relays c ⊎ RelaysOne cs

-- A board takes commands in a turn and runs on to a tick: its timeout is then this one, and what it tells
-- tells of no expiry but at one tick.
pub record IsTurnedTo (oid tick limit until : ℕ) (r : Rig) (cs : List Cmd) : Type 0 where
  pub limited : IsLimited oid tick limit (passes (takes_all r cs).rig until).rig
  pub tells : AllTellOnly tick ((takes_all r cs).answers ++ says (takes_all r cs).rig until)

-- no command sets the timeout
abbrev pub SetsNone : List Cmd → Type 0
SetsNone [] = Unit {0}
SetsNone (c ∷ cs) = (SetsTimeout c → ⊥) × SetsNone cs
