-- A section on one board: its plan, its units, and how these are spread over the turns.
use Rattle.std.specs.Prelude.{◌≡◌, ◌≢◌, ℕ, ◌+◌, ◌*◌, ◌^◌, ◌<◌, ◌==◌, Bool, false, List, [], ◌∷◌, ◌++◌, All, length, map, Option, Some, None, slice_index, if◌then◌else◌}
use Rattle.std.specs.List.{flat_map}
use Rattle.plan_types.specs.Clock.{turn_ns}
use Rattle.plan_types.specs.Lines.{Clocks, lines_tick, lines_turn}
use Rattle.plan_types.specs.declared.plan.Planned.{Planned}
use Rattle.plan_types.specs.declared.plan.Pulse.{Pulse}
use Rattle.plan_types.specs.Packing.{ticks_of}
use Rattle.plan_types.specs.Plan.{AreSpaced, Fits, pulse_of}
use Rattle.plan_types.specs.Board.{last_of, steps_of, IsExpansion, TicksRise}
use Rattle.step_feed.specs.Units.{StepUnit}
use Rattle.step_feed.specs.Pacing.{Release, ArePaced, units_of}

-- a section, on one board
pub record BoardSection : Type 0 where
  -- the turns in which it starts and ends
  pub start : ℕ
  pub end : ℕ
  -- the planned steps of the stepper of each object id, in the directions that are sent
  pub plan : ℕ → List Planned
  -- its units, each with the turn in which it is released
  pub releases : List Release

-- the tick at which a section begins
abbrev pub base_of : Clocks → BoardSection → ℕ
base_of clocks s = lines_tick clocks (s.start * turn_ns)

-- the units of one stepper
abbrev pub of_stepper : ℕ → List StepUnit → List StepUnit
of_stepper oid [] = []
of_stepper oid (u ∷ us) = if u.stepper == oid then u ∷ of_stepper oid us else of_stepper oid us

-- the whole ticks that a unit means
abbrev pub ticks_meant : StepUnit → List ℕ
ticks_meant u = ticks_of u.first u.triple

-- the direction behind one that may be told
abbrev pub dir_after : Bool → Option Bool → Bool
dir_after up None = up
dir_after up (Some told) = told

-- the steps that units of one stepper mean
abbrev pub steps_said : ℕ → Bool → List StepUnit → List Pulse
steps_said oid up [] = []
steps_said oid up (u ∷ us) =
    map (pulse_of oid) (steps_of (dir_after up u.up) (ticks_meant u)) ++ steps_said oid (dir_after up u.up) us

-- a unit behind a tick: its ticks are an expansion of its triple and rise, and its first and last tick and
-- its turn are told
pub record IsUnit (clocks : Clocks) (behind : ℕ) (u : StepUnit) : Type 0 where
  pub expands : IsExpansion behind u.triple (ticks_meant u)
  pub rise : TicksRise (ticks_meant u)
  pub small : u.triple.interval < 2 ^ 32
  pub first : u.first ≡ slice_index (ticks_meant u) 0
  pub last : u.last ≡ last_of 0 (ticks_meant u)
  pub due : u.due ≡ lines_turn clocks u.first

-- units of one stepper, one behind the other
abbrev pub AreChained : Clocks → ℕ → List StepUnit → Type 0
AreChained clocks behind [] = Unit {0}
AreChained clocks behind (u ∷ us) = (u.reset ≡ None) × IsUnit clocks behind u × AreChained clocks u.last us

-- the tick to which the first unit of a stepper sets its clock, if it does: in a section that homes it does not
abbrev pub set_to : Bool → ℕ → Option ℕ
set_to homing base = if homing then None else Some base

-- Units of one stepper in a section, which homes or not: the first one tells the direction, and sets the
-- clock to the section's first tick, or does not set it.
abbrev pub AreBegunBy : Bool → Clocks → ℕ → List StepUnit → Type 0
AreBegunBy homing clocks base [] = Unit {0}
AreBegunBy homing clocks base (u ∷ us) =
    (u.reset ≡ set_to homing base) × (u.up ≢ None) × IsUnit clocks base u × AreChained clocks u.last us

-- and those in a section that does not home
abbrev pub AreBegun : Clocks → ℕ → List StepUnit → Type 0
AreBegun clocks base us = AreBegunBy false clocks base us

-- the steps of a stepper in a section, as its units mean them
abbrev pub section_steps : ℕ → BoardSection → List Pulse
section_steps oid s = steps_said oid false (of_stepper oid (units_of s.releases))

-- the steps of a stepper in all sections
abbrev pub all_steps : ℕ → List BoardSection → List Pulse
all_steps oid ss = flat_map (section_steps oid) ss

-- releases in turns before one
abbrev pub AreBefore : ℕ → List Release → Type 0
AreBefore turn [] = Unit {0}
AreBefore turn (r ∷ rs) = (r.turn < turn) × AreBefore turn rs

-- all units of some sections are released in turns before one
abbrev pub AreReleased : ℕ → List BoardSection → Type 0
AreReleased turn [] = Unit {0}
AreReleased turn (s ∷ ss) = AreBefore turn s.releases × AreReleased turn ss

-- a section, which homes or not, of which the units fit the plan, and are paced from 250 turns before its start on
pub record IsWholeBy (homing : Bool) (clocks : Clocks) (freq slots : ℕ) (s : BoardSection) : Type 0 where
  pub spaced : (oid : ℕ) → AreSpaced (base_of clocks s) (s.plan oid)
  pub within : (oid : ℕ) → All (λ p. p.tick < lines_tick clocks ((s.end + 1) * turn_ns)) (s.plan oid)
  pub begun : (oid : ℕ) → AreBegunBy homing clocks (base_of clocks s) (of_stepper oid (units_of s.releases))
  pub fits : (oid : ℕ) → Fits freq (base_of clocks s) (section_steps oid s) (s.plan oid)
  pub whole : (oid : ℕ) → length (section_steps oid s) ≡ length (s.plan oid)
  pub from : ℕ
  pub exact : from + 250 ≡ s.start
  pub paced : ArePaced clocks slots from [] s.releases

-- a section of moves, which does not home
abbrev pub IsSection : Clocks → ℕ → ℕ → BoardSection → Type 0
IsSection clocks freq slots s = IsWholeBy false clocks freq slots s
