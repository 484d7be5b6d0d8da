-- The units of several steppers in one order, and the plans of a board's steppers.
use Rattle.std.specs.Prelude.{◌≡◌, ◌⊎◌, ℕ, ◌<◌, List, [], ◌∷◌, slice_index_or}
use Rattle.plan_types.specs.declared.plan.Planned.{Planned}
use Rattle.step_feed.specs.Pacing.{Release}
use Rattle.step_feed.specs.Units.{StepUnit}
use Rattle.section_units.specs.Sections.{BoardSection}

-- a unit stands before another: its first tick is earlier, or it is the same and the stepper's object id is less
abbrev pub Precedes : StepUnit → StepUnit → Type 0
Precedes u v = (u.first < v.first) ⊎ ((u.first ≡ v.first) × (u.stepper < v.stepper))

-- each of some units stands behind one
abbrev pub AreBehind : StepUnit → List StepUnit → Type 0
AreBehind u [] = Unit {0}
AreBehind u (v ∷ vs) = Precedes u v × AreBehind u vs

-- units in the order of their first ticks, then of steppers
abbrev pub AreInOrder : List StepUnit → Type 0
AreInOrder [] = Unit {0}
AreInOrder (u ∷ us) = AreBehind u us × AreInOrder us

-- the plan of an object id among those of a board's steppers, in their order
abbrev pub plan_at : List (List Planned) → ℕ → List Planned
plan_at plans oid = slice_index_or plans oid []

-- the section of some plans that starts and ends in these turns, with its units
abbrev pub section_of : ℕ → ℕ → List (List Planned) → List Release → BoardSection
section_of start end plans releases = record { start = start; end = end; plan = plan_at plans; releases = releases }
