-- The sections of a board as far as their units are released before a turn.
use Rattle.std.specs.Prelude.{ℕ, ◌+◌, ◌<◌, false, List, [], ◌∷◌, length, map, min, nat_lt, take, if◌then◌else◌}
use Rattle.plan_types.specs.declared.machine.Machine.{Machine}
use Rattle.plan_types.specs.declared.plan.SectionKind.{SectionKind}
use Rattle.plan_types.specs.declared.plan.SectionKind.TheVariants.{Home, Moves}
use Rattle.plan_types.specs.Lines.{Clocks}
use Rattle.plan_types.specs.Sections.{section_end}
use Rattle.section_units.specs.Sections.{BoardSection, of_stepper, steps_said}
use Rattle.step_feed.specs.Pacing.{units_of}
use Rattle.laws_board.specs.sections.Homes.{RunSection}
use Rattle.motion_work.specs.Homes.{before_turn, no_end}
use Rattle.motion_work.specs.Seen.{Started}
use Rattle.laws_board.specs.plans.Homed.{run_on}

-- a section with its units that are released before a turn, and of its plan the steps that these mean
abbrev pub cut_section : ℕ → BoardSection → BoardSection
cut_section turn s = record {
  start = s.start;
  end = s.end;
  plan =
      λ oid.
      take (length (steps_said oid false (of_stepper oid (units_of (before_turn turn s.releases))))) (s.plan oid);
  releases = before_turn turn s.releases;
}

-- what a board has so of a section that was begun
abbrev pub cut_on : Machine → List Clocks → ℕ → ℕ → Started → RunSection
cut_on m clocks turn b s =
    record { section = cut_section turn (run_on m clocks b s).section; homes = (run_on m clocks b s).homes }

-- and of all
abbrev pub cuts_on : Machine → List Clocks → ℕ → List Started → ℕ → List RunSection
cuts_on m clocks turn begun b = map (cut_on m clocks turn b) begun

-- The turn by which the steps of a section's units are over: that in which its plan ends; and of one that
-- homes and whose end is known, 269 turns behind this one, where that is sooner.
abbrev pub over_in : SectionKind → Machine → List Clocks → Started → ℕ
over_in Moves m clocks s = section_end m clocks s.section.moves s.start
over_in (Home axis) m clocks s =
    if nat_lt s.end no_end then min (s.end + 269) (section_end m clocks s.section.moves s.start)
    else section_end m clocks s.section.moves s.start

-- so it is before a turn in all of some sections
abbrev pub AreOverBefore : Machine → List Clocks → ℕ → List Started → Type 0
AreOverBefore m clocks until [] = Unit {0}
AreOverBefore m clocks until (s ∷ begun) =
    (over_in s.section.kind m clocks s < until) × AreOverBefore m clocks until begun
