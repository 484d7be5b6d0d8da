-- What one board has of the sections that a motion machine begun.
use Rattle.std.specs.Prelude.{ℕ, ◌+◌, ◌≤◌, List, [], ◌∷◌, map}
use Rattle.plan_types.specs.declared.machine.Machine.{Machine}
use Rattle.plan_types.specs.Lines.{Clocks}
use Rattle.section_units.specs.Sections.{BoardSection}
use Rattle.motion_work.specs.Seen.{Started, part_on}

-- the sections of a board
abbrev pub parts_on : Machine → List Clocks → List Started → ℕ → List BoardSection
parts_on m clocks begun b = map (λ s. part_on m clocks s b) begun

-- sections one behind the other: the first starts in a turn or later, each later one 260 turns or more behind
-- the end of the one before
abbrev pub AreSectionsApart : ℕ → List BoardSection → Type 0
AreSectionsApart ready [] = Unit {0}
AreSectionsApart ready (s ∷ ss) = (ready ≤ s.start) × (s.start ≤ s.end) × AreSectionsApart (s.end + 260) ss
