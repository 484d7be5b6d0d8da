-- A section of which some units were released before a turn, and by which ones it may become whole.
use Rattle.std.specs.Prelude.{◌≡◌, ℕ, ◌+◌, ◌*◌, ◌≤◌, ◌<◌, List, [], ◌++◌, All, Bool, drop, false, length}
use Rattle.plan_types.specs.declared.plan.Planned.{Planned}
use Rattle.plan_types.specs.Clock.{turn_ns}
use Rattle.plan_types.specs.Lines.{Clocks, lines_tick, lines_turn}
use Rattle.plan_types.specs.Plan.{AreSpaced, Fits}
use Rattle.step_feed.specs.Fed.{IsNoSooner, releases_behind, last_release}
use Rattle.step_feed.specs.Pacing.{ArePaced, Release, lead, units_of}
use Rattle.step_feed.specs.Units.{StepUnit}
use Rattle.section_units.specs.Fronts.{section_from}
use Rattle.section_units.specs.Sections.{AreBegunBy, IsWholeBy, of_stepper, steps_said}

-- the units of a stepper that were released, and those that wait
abbrev pub pushed_of : ℕ → List Release → List StepUnit → List StepUnit
pushed_of oid rs waiting = of_stepper oid (units_of rs ++ waiting)

-- Of a section, which homes or not, these units were released before a turn, and these wait, of which there
-- was no room for the first; together they are the first ones of the plan, and the other steps are due 250
-- turns behind that turn or later.
pub record IsOpenFrontBy (homing : Bool) (clocks : Clocks) (freq slots start end next count : ℕ)
    (plan : ℕ → List Planned) (rs : List Release) (waiting : List StepUnit) : Type 0 where
  pub slots_some : 1 ≤ slots
  pub none : (oid : ℕ) → count ≤ oid → plan oid ≡ []
  pub spaced : (oid : ℕ) → AreSpaced (lines_tick clocks (start * turn_ns)) (plan oid)
  pub within : (oid : ℕ) → All (λ p. p.tick < lines_tick clocks ((end + 1) * turn_ns)) (plan oid)
  pub begun : (oid : ℕ) → AreBegunBy homing clocks (lines_tick clocks (start * turn_ns)) (pushed_of oid rs waiting)
  pub fits : (oid : ℕ) →
      Fits freq (lines_tick clocks (start * turn_ns)) (steps_said oid false (pushed_of oid rs waiting)) (plan oid)
  pub later : (oid : ℕ) →
      All (λ s. next + lead ≤ lines_turn clocks s.tick)
      (drop (length (steps_said oid false (pushed_of oid rs waiting))) (plan oid))
  pub from : ℕ
  pub exact : from + 250 ≡ start
  pub paced : ArePaced clocks slots from [] rs
  pub no_room : IsNoSooner clocks slots next (last_release from rs) (releases_behind [] rs) waiting

-- with these releases a section is whole, and none of them is before a turn
pub record IsCompletionBy (homing : Bool) (clocks : Clocks) (freq slots start end next : ℕ) (plan : ℕ → List Planned)
    (rs more : List Release) : Type 0 where
  pub whole : IsWholeBy homing clocks freq slots (section_from start end plan (rs ++ more))
  pub later : All (λ r. next ≤ r.turn) more
