-- The further clock lines that the lines of a report tell.
use Rattle.std.specs.Prelude.{◌≡◌, true, List, [], ◌∷◌, Ok}
use Rattle.log_text.specs.declared.line.LogLine.{LogLine}
use Rattle.log_text.specs.declared.line.LogLine.TheVariants as line
use Rattle.log_check.specs.declared.further.Further.{Further}
use Rattle.log_check.specs.Behind.{further_of, told_clocks, with_one}
use Rattle.log_check.specs.Faults.{may_follow}
use Rattle.plan_types.specs.declared.machine.Machine.{Machine}

-- the further clock lines that some lines tell, in order
abbrev pub further_told : List LogLine → List Further
further_told [] = []
further_told (l ∷ lines) = with_one (further_of (Ok l)) (further_told lines)

-- a line that tells a further clock line may follow the lines before it, which are listed from the last one back
abbrev pub MayStand : Machine → List LogLine → LogLine → Type 0
MayStand m before (line.Line b turn tick from) = may_follow m (told_clocks m before) b turn tick from ≡ true
MayStand m before _ = Unit {0}

-- so may each of some lines, behind others
abbrev pub AllMayStand : Machine → List LogLine → List LogLine → Type 0
AllMayStand m before [] = Unit {0}
AllMayStand m before (l ∷ lines) = MayStand m before l × AllMayStand m (l ∷ before) lines
