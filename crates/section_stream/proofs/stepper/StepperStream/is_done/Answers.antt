use Rattle.std.proofs.Common.{ap}
use Rattle.section_units.specs.Units.{as_sent}
use Rattle.section_stream.specs.Fronts.{plan_of}
use Rattle.section_stream.specs.Packs.{is_inverted, waiting_of}
use Rattle.section_stream.specs.Plans.{stream_lines}
use Rattle.section_stream.proofs.Making.{made-whole}
use Rattle.section_stream.proofs.stepper.StepperStream.is_done.Goals as goal

pub returns-then-is_whole : goal.returns-then-is_whole
returns-then-is_whole c = λ t homing freq base parts out pieces given reset early h. (
    let s = c.args.self.now in
    let whole = c.is_whole.ensures.whole c.if-is_whole.true base parts out pieces given h in
    made-whole homing (stream_lines s.steps) s.pack.oid freq base s.pack.reset s.pack.max_error (as_sent (is_inverted s.pack) out) (as_sent (is_inverted s.pack) (plan_of s base parts)) pieces given (waiting_of s.pack) reset early h.packed.spaced h.packed.packed whole.1 (ap (as_sent (is_inverted s.pack)) whole.0) (c.is_given.ensures.0 t) h.packed.units_are)
