-- The switchings of the part fan of a text.
use Rattle.std.specs.Prelude.{ℕ, ◌*◌, ◌/◌, List, ◌++◌}
use Rattle.plan_types.specs.declared.machine.FanDef.{FanDef}
use Rattle.plan_types.specs.declared.machine.Machine.{Machine}
use Rattle.plan_types.specs.Machines.{board_at}
use Rattle.digital_out.specs.declared.want.Want.{Want}
use Rattle.digital_out.specs.Refreshes.{off_behind}
use Rattle.digital_out.specs.Wants.{wants}

-- so many ticks are 2,500 turns of the fan's board
abbrev pub every_of : Machine → FanDef → ℕ
every_of m f = 2_500 * ((board_at m f.board).freq / 1_000)

-- the wants of a text, and where the last one is on, the off 5,000 turns behind it
abbrev pub switched : Machine → FanDef → List ℕ → List Want
switched m f text = wants m f text ++ off_behind (every_of m f) (wants m f text)
