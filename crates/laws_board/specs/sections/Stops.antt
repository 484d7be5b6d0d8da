-- Boards that are never told to stop.
use Rattle.std.specs.Prelude.{List, [], ◌∷◌, All}
use Rattle.msg_code.specs.declared.cmd.Cmd.{Cmd}
use Rattle.msg_code.specs.declared.cmd.Cmd.TheVariants as cmd
use Rattle.link_work.specs.Turn.{Orders}

-- a command is not the order to stop
abbrev pub IsNoStop : Cmd → Type 0
IsNoStop cmd.EmergencyStop = ⊥
IsNoStop _ = Unit {0}

-- a board is not told to stop in some turns
abbrev pub NeverStop : List Orders → Type 0
NeverStop [] = Unit {0}
NeverStop (o ∷ os) = All IsNoStop o.control.commands × NeverStop os
