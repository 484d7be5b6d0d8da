-- Lists whose elements change one by one, and what the steppers of a board are given, and give.
use Rattle.std.specs.Prelude.{◌≡◌, ℕ, ◌<◌, ◌≤◌, Bool, List, ◌++◌, length, slice_index_or}
use Rattle.plan_types.specs.Lines.{Clocks}
use Rattle.plan_types.specs.Sections.{TimedPart}
use Rattle.msg_code.specs.declared.unit.Unit.{Unit as StepUnit}
use Rattle.section_stream.specs.declared.stepper.StepperStream.{StepperStream}
use Rattle.section_stream.specs.Steppers.{IsDueFrom, kind_of}
use Rattle.section_units.specs.Sections.{of_stepper}
use Rattle.section_feed.specs.Boards.{HasGiven, IsUpTo}
use Rattle.section_feed.specs.Rested.{IsRested}

-- each element of a list has changed in a way that may depend on its place
pub record AreChanged {A : Type 0} (R : ℕ → A → A → Type 0) (old new : List A) : Type 0 where
  pub same : length new ≡ length old
  pub each : (k : ℕ) (d : A) → k < length old → R k (slice_index_or old k d) (slice_index_or new k d)

-- the first so many have; the others are as they were
pub record AreChangedTo {A : Type 0} (R : ℕ → A → A → Type 0) (count : ℕ) (old new : List A) : Type 0 where
  pub same : length new ≡ length old
  pub first : (k : ℕ) (d : A) → k < count → k < length old → R k (slice_index_or old k d) (slice_index_or new k d)
  pub others : (k : ℕ) (d : A) → count ≤ k → k < length old → slice_index_or new k d ≡ slice_index_or old k d

-- a stepper was given more parts, and gave more units
pub record StepperGoesOn (clocks : Clocks) (goes : Bool) (time turn : ℕ) (more : List TimedPart) (units : List StepUnit)
    (place : ℕ) (old new : StepperStream) : Type 0 where
  pub up : IsUpTo clocks goes time turn place new
  pub kind : kind_of new ≡ kind_of old
  pub due : (low : ℕ) → IsDueFrom low old → IsDueFrom low new
  pub on : (base : ℕ) (parts : List TimedPart) (given : List StepUnit) → HasGiven old base parts given →
      HasGiven new base (parts ++ more) (given ++ of_stepper place units)

-- a stepper took up a line that holds from the beginning of a turn on: what it gave stays, and what is left
-- is due as before
pub record IsLined (clocks : Clocks) (goes : Bool) (time packed turn : ℕ) (place : ℕ) (old new : StepperStream)
    : Type 0 where
  pub up : IsUpTo clocks goes time packed place new
  pub kind : kind_of new ≡ kind_of old
  pub due : (low : ℕ) → low < turn → IsDueFrom low old → IsDueFrom low new
  pub on : (base : ℕ) (parts : List TimedPart) (given : List StepUnit) → HasGiven old base parts given →
      HasGiven new base parts given
  pub rested : (low : ℕ) → low < turn → IsRested low old → IsRested low new

-- all steppers of a board did
abbrev pub AreLined : Clocks → Bool → ℕ → ℕ → ℕ → List StepperStream → List StepperStream → Type 0
AreLined clocks goes time packed turn old new = AreChanged (IsLined clocks goes time packed turn) old new

-- all steppers of a board were given them, and gave them
abbrev pub GoOn : Clocks → Bool → ℕ → ℕ → List TimedPart → List StepUnit → List StepperStream → List StepperStream →
    Type 0
GoOn clocks goes time turn more units old new = AreChanged (StepperGoesOn clocks goes time turn more units) old new
