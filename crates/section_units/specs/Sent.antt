-- What holds of the units that a board is sent of a section: they stand in order, and each triple covers as
-- many steps as one can. The units by which a section that goes on is told whole are sent by nobody, and need
-- neither.
use Rattle.std.specs.Prelude.{◌≡◌, ℕ, ℤ, ◌<◌, ◌≤◌, ◌++◌, All, List, [], ◌∷◌, drop, false, length, slice_index_or}
use Rattle.plan_types.specs.declared.plan.Planned.{Planned}
use Rattle.plan_types.specs.declared.plan.Window.{Window}
use Rattle.plan_types.specs.Lines.{Clocks, lines_turn}
use Rattle.plan_types.specs.Packing.{IsCompared, open_windows}
use Rattle.plan_types.specs.Plan.{max_error}
use Rattle.step_feed.specs.Pacing.{Release, units_of}
use Rattle.step_feed.specs.Units.{StepUnit}
use Rattle.section_units.specs.Merged.{AreInOrder}
use Rattle.section_units.specs.Sections.{BoardSection, base_of, of_stepper}

-- the step of a plan at a place
abbrev pub step_at : List Planned → ℕ → Planned
step_at plan i = slice_index_or plan i (record { tick = 0; up = false })

-- The first so many steps of a plan end before the last one that is planned in the turn of the first: the
-- step behind them is in that turn too.
pub record EndInTurn (clocks : Clocks) (plan : List Planned) (count : ℕ) : Type 0 where
  pub more : count < length plan
  pub same : lines_turn clocks (step_at plan count).tick ≤ lines_turn clocks (step_at plan 0).tick

-- behind a tick no triple that is compared, and ends before the last step that is planned in the turn of the
-- first, covers more steps
abbrev pub IsLongestInTurn : Clocks → ℕ → List Window → List Planned → ℕ → Type 0
IsLongestInTurn clocks behind windows plan count =
    (interval other : ℕ) → (add : ℤ) → IsCompared behind interval other add windows → EndInTurn clocks plan other →
    other ≤ count

-- so it is of the triples of some units, each behind the tick and the steps of those before it
abbrev pub AreLongest : Clocks → ℕ → List Window → List Planned → List StepUnit → Type 0
AreLongest clocks behind windows plan [] = Unit {0}
AreLongest clocks behind windows plan (u ∷ us) =
    IsLongestInTurn clocks behind windows plan u.triple.count
    × AreLongest clocks u.last (drop u.triple.count windows) (drop u.triple.count plan) us

-- so it is of those of a stepper in a section that begins at a tick
abbrev pub AreLongestOf : Clocks → ℕ → ℕ → List Planned → List StepUnit → Type 0
AreLongestOf clocks freq base plan us = AreLongest clocks base (open_windows (max_error freq) base plan) plan us

-- all units of a section are such as a board is sent
pub record AreSent (clocks : Clocks) (freq : ℕ) (s : BoardSection) : Type 0 where
  pub in_order : AreInOrder (units_of s.releases)
  pub longest : (oid : ℕ) →
      AreLongestOf clocks freq (base_of clocks s) (s.plan oid) (of_stepper oid (units_of s.releases))

-- and so are those that are released before a turn
pub record AreSentTo (clocks : Clocks) (freq turn : ℕ) (s : BoardSection) : Type 0 where
  pub sent : List Release
  pub later : List Release
  pub are : s.releases ≡ sent ++ later
  pub behind : All (λ r. turn ≤ r.turn) later
  pub is : AreSent clocks freq (record s { releases = sent })
