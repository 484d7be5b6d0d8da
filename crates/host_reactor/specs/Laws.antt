-- What a reactor puts on the links in a turn.
use Rattle.std.specs.Prelude.{ℕ, ◌+◌, ◌≤◌, Bool, true, false, List, [], ◌∷◌, if◌then◌else◌}
use Rattle.msg_code.specs.declared.cmd.Cmd.{Cmd}
use Rattle.msg_code.specs.declared.cmd.Cmd.TheVariants as cmd
use Rattle.msg_code.specs.declared.unit.Control.{Control}
use Rattle.board_asking.specs.Drift.{bytes_of}

-- a command asks for the clock
abbrev pub is_uptime : Cmd → Bool
is_uptime cmd.GetUptime = true
is_uptime c = false

-- how many of some commands ask for the clock
abbrev pub uptimes : List Cmd → ℕ
uptimes [] = 0
uptimes (c ∷ cs) = (if is_uptime c then 1 else 0) + uptimes cs

-- every control asks at most once
abbrev pub AskOnce : List Control → Type 0
AskOnce [] = Unit {0}
AskOnce (c ∷ controls) = (uptimes c.commands ≤ 1) × AskOnce controls

-- the commands of every control have at most so many bytes
abbrev pub FitIn : ℕ → List Control → Type 0
FitIn limit [] = Unit {0}
FitIn limit (c ∷ controls) = (bytes_of c.commands ≤ limit) × FitIn limit controls
