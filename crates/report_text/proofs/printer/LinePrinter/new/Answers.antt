use Rattle.std.proofs.Common.{arith, sym, subst, rules}
use Rattle.report_text.specs.Heads.{AreHeads}
use Rattle.report_text.proofs.Heads.{heads-more}
use Rattle.report_text.proofs.printer.LinePrinter.new.Goals as goal

pub loop-stepper-preserved : goal.loop-stepper-preserved
loop-stepper-preserved c =
    let more = heads-more c.args.machine.now 0 c.loop-stepper.heads.items c.head_of.result c.loop-stepper.stepper c.loop-stepper.invariant.heads (omega (arith, c.loop-stepper.invariant.count)) c.head_of.ensures in
    record {
      heads = subst (AreHeads c.args.machine.now 0) (sym c.in_ok-push.ensures.items) more;
      count = search rules;
    }
