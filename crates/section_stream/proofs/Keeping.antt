-- What a stepper gave stays, whatever comes later.
use Rattle.std.proofs.Common.{◌≡◌, ℕ, ◌≤◌, List, ◌++◌, All, Bool, drop, ap, ◌∙◌}
use Rattle.plan_types.specs.declared.plan.Planned.{Planned}
use Rattle.plan_types.specs.Clock.{tick}
use Rattle.plan_types.specs.Plan.{max_error}
use Rattle.plan_types.specs.Sections.{TimedPart}
use Rattle.msg_code.specs.declared.unit.Unit.{Unit as StepUnit}
use Rattle.section_units.specs.Fronts.{AreFirstOfBy}
use Rattle.section_units.specs.Sections.{set_to}
use Rattle.section_units.specs.Units.{as_sent}
use Rattle.section_stream.specs.declared.stepper.StepperStream.{StepperStream}
use Rattle.section_stream.specs.Fronts.{plan_of}
use Rattle.section_stream.specs.Packs.{held_of, is_inverted, waiting_of}
use Rattle.section_stream.specs.Pieces.{Piece}
use Rattle.section_stream.specs.Plans.{stream_lines}
use Rattle.section_stream.specs.Steppers.{IsStepperOf, stepper_clocks, kind_of, known_of}
use Rattle.section_stream.proofs.Making.{made-first, sent-append}
use Rattle.section_stream.proofs.Staying.{parts-front}

pub units-kept : (homing : Bool) (s : StepperStream) (freq base : ℕ) (parts more : List TimedPart) (out : List Planned) (pieces : List Piece) (given : List StepUnit) → (kind_of s).reset ≡ set_to homing base → (kind_of s).early ≡ max_error freq → IsStepperOf s base parts out pieces given
    → All (λ t. known_of s ≤ tick (stepper_clocks s).first t.begin) more → AreFirstOfBy homing (stepper_clocks s) freq (kind_of s).oid base (as_sent (kind_of s).inverted (plan_of s base (parts ++ more))) given
units-kept homing s freq base parts more out pieces given reset early are later =
    let r = parts-front s.steps.gear s.steps.lines s.drive s.steps.reach s.steps.end s.steps.last_end s.steps.last (drop s.steps.next s.steps.raw.items) base parts more are.asked out s.line are.steps_are later in
    let inverted = is_inverted s.pack in
    let packed = are.packed in
    made-first homing (stream_lines s.steps) s.pack.oid freq base s.pack.reset s.pack.max_error (as_sent inverted out) (held_of s.pack) (as_sent inverted r.rest) (as_sent inverted (plan_of s base (parts ++ more))) pieces given (waiting_of s.pack) reset early packed.spaced packed.packed packed.split (ap (as_sent inverted) r.whole ∙ sent-append inverted out r.rest) packed.units_are
