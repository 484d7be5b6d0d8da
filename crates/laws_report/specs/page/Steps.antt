-- How many steps the sections of a log plan.
use Rattle.std.specs.Prelude.{ℕ, ◌+◌, List, [], ◌∷◌, length}
use Rattle.log_check.specs.declared.further.Further.{Further}
use Rattle.log_text.specs.declared.line.LogLine.{LogLine}
use Rattle.log_text.specs.declared.line.LogLine.TheVariants as line
use Rattle.laws_report.specs.logs.Follows.{further_among, plan_at}
use Rattle.plan_types.specs.declared.machine.Machine.{Machine}
use Rattle.plan_types.specs.declared.plan.Section.{Section}
use Rattle.plan_types.specs.Sections.{for_each_stepper}
use Rattle.session_run.specs.Counts.{counted}

-- how many steps of a stepper are planned in the sections that have their line in a log, by the clock lines
-- that it tells
abbrev pub steps_planned : Machine → List Section → List Further → ℕ → List LogLine → ℕ
steps_planned m sections further s [] = 0
steps_planned m sections further s (line.Section i turn kind ∷ lines) =
    steps_planned m sections further s lines + length (plan_at m sections further (line.Section i turn kind ∷ lines) s)
steps_planned m sections further s (_ ∷ lines) = steps_planned m sections further s lines

-- so many of each stepper; a count stands still at 2^64-1
abbrev pub counts_planned : Machine → List Section → List LogLine → List ℕ
counts_planned m sections log = for_each_stepper m (λ s. counted (steps_planned m sections (further_among log) s log))
