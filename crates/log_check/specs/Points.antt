-- A point in a log: what its lines so far told, and the plan of the present section.
use Rattle.std.specs.Prelude.{ℕ, zero, suc, Bool, List, [], slice_index_or}
use Rattle.log_text.specs.declared.line.LogLine.{LogLine}
use Rattle.plan_types.specs.declared.machine.Machine.{Machine}
use Rattle.plan_types.specs.declared.plan.Planned.{Planned}
use Rattle.plan_types.specs.declared.plan.Section.{Section}
use Rattle.plan_types.specs.Lines.{Clocks}
use Rattle.plan_types.specs.Sections.{base_tick, for_each_stepper, section_end, section_plans, no_section}
use Rattle.log_check.specs.declared.further.Further.{Further}
use Rattle.log_check.specs.declared.tally.Tally.{Tally}
use Rattle.log_check.specs.Behind.{begun, clocks, is_cut, is_ended, pulses, section_start, told_clocks}
use Rattle.log_check.specs.Pulses.{tally_of}

-- the section of a number
abbrev pub section_at : List Section → ℕ → Section
section_at sections i = slice_index_or sections i no_section

-- the plans of all steppers in the present section, which is the last one of so many and started in a turn
abbrev pub plans_by : Machine → List Section → List Clocks → ℕ → ℕ → List (List Planned)
plans_by m sections lines zero turn = []
plans_by m sections lines (suc i) turn = section_plans m lines (section_at sections i).moves turn

-- the ticks at which it begins for them
abbrev pub bases_by : Machine → List Clocks → ℕ → ℕ → List ℕ
bases_by m lines zero turn = []
bases_by m lines (suc i) turn = for_each_stepper m (base_tick m lines turn)

-- the turn in which its plan ends
abbrev pub end_by : Machine → List Section → List Clocks → ℕ → ℕ → ℕ
end_by m sections lines zero turn = 0
end_by m sections lines (suc i) turn = section_end m lines (section_at sections i).moves turn

-- What the lines so far told, and the plan of the present section with its pulses. Sections are planned by
-- the boards' clock lines with the further ones of the whole log; a further one is judged by those that were
-- told so far.
pub record Point : Type 0 where
  pub further : List Further
  pub clocks : List Clocks
  pub told : List Clocks
  pub begun : ℕ
  pub start : ℕ
  pub end : ℕ
  pub cut : Bool
  pub ended : Bool
  pub plans : List (List Planned)
  pub bases : List ℕ
  pub tallies : List Tally

-- how the pulses of all steppers stand to their plans
abbrev pub tallies_by : Machine → List (List Planned) → List LogLine → List Tally
tallies_by m plans lines = for_each_stepper m (λ s. tally_of (slice_index_or plans s []) (pulses s lines))

-- the plans of the present section behind some lines, by the further clock lines of the log
abbrev pub plans : Machine → List Section → List Further → List LogLine → List (List Planned)
plans m sections further lines = plans_by m sections (clocks m further lines) (begun lines) (section_start lines)

-- the point behind some lines of a log, the last one first, by its further clock lines
abbrev pub point : Machine → List Section → List Further → List LogLine → Point
point m sections further lines = record {
  further = further;
  clocks = clocks m further lines;
  told = told_clocks m lines;
  begun = begun lines;
  start = section_start lines;
  end = end_by m sections (clocks m further lines) (begun lines) (section_start lines);
  cut = is_cut lines;
  ended = is_ended lines;
  plans = plans m sections further lines;
  bases = bases_by m (clocks m further lines) (begun lines) (section_start lines);
  tallies = tallies_by m (plans m sections further lines) lines;
}
