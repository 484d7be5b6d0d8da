use Rattle.std.proofs.Common.{◌∙◌, ap}
use Rattle.std.proofs.Math.Logic.{∥∥₁_map}
use Rattle.step_ticks.specs.Streaming.{last_step_tick}
use Rattle.section_units.specs.Units.{as_sent}
use Rattle.section_stream.proofs.Stretches.{last-append, last-sent, packable-either}
use Rattle.section_stream.proofs.Packed.{packed-held}
use Rattle.section_stream.proofs.pack.PackStream.hold.Goals as goal

pub invariant_of-self : goal.invariant_of-self
invariant_of-self c = record {
  packable = ∥∥₁_map c.args.self.now.packable (λ h. packable-either c.add_sent.result c.args.self.now.inverted c.args.self.now.last c.args.self.now.held.items c.args.steps.now c.add_sent.new.held.items h c.requires.spaced c.add_sent.ensures.small c.add_sent.ensures.all c.add_sent.ensures.none);
  own = c.args.self.now.own;
  byte = c.args.self.now.byte;
}

pub returns-clause-held : goal.returns-clause-held
returns-clause-held c = λ clocks base pushed pieces given are. (
    let s = c.args.self.now in
    packed-held clocks s.oid s.max_error s.last s.up s.reset s.held.items c.add_sent.new.held.items s.units.items base pushed pieces given s.inverted c.args.steps.now are c.requires.spaced c.in_ok-add_sent.ensures.small c.in_ok-add_sent.ensures.all)

pub returns-clause-last : goal.returns-clause-last
returns-clause-last c =
    let s = c.args.self.now in
    ap (last_step_tick s.last) c.in_ok-add_sent.ensures.all ∙ last-append s.last s.held.items (as_sent s.inverted c.args.steps.now) ∙ last-sent s.inverted (last_step_tick s.last s.held.items) c.args.steps.now
