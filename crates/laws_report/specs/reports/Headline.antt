-- The plan that the pulses of a report follow.
use Rattle.std.specs.Prelude.{ℕ, List}
use Rattle.plan_types.specs.declared.machine.Machine.{Machine}
use Rattle.plan_types.specs.declared.plan.Move.{Move}
use Rattle.plan_types.specs.declared.plan.Planned.{Planned}
use Rattle.plan_types.specs.declared.plan.Section.{Section}
use Rattle.plan_types.specs.declared.plan.SectionKind.{SectionKind}
use Rattle.plan_types.specs.Lines.{Clocks}
use Rattle.plan_types.specs.Sections.{stepper_plan}
use Rattle.log_check.specs.Points.{section_at}

-- the moves of a section of a number
abbrev pub moves_of : List Section → ℕ → List Move
moves_of sections i = (section_at sections i).moves

-- what the section of a number does
abbrev pub section_kind : List Section → ℕ → SectionKind
section_kind sections i = (section_at sections i).kind

-- the planned steps of a stepper in a section of a number that starts in a turn, by the boards' clock lines
abbrev pub plan_by : List Clocks → Machine → List Section → ℕ → ℕ → ℕ → List Planned
plan_by clocks m sections i turn s = stepper_plan m clocks (moves_of sections i) turn s
