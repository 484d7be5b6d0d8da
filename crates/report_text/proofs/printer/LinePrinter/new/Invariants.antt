use Rattle.std.proofs.Common.{◌≡◌, length}
use Rattle.report_text.specs.Heads.{AreHeads}
use Rattle.report_text.proofs.printer.LinePrinter.new.Given as goal

abbrev pub invariant-loop-stepper : goal.invariant-loop-stepper
invariant-loop-stepper l = record {
  heads : AreHeads l.machine 0 l.heads.items;
  count : length l.heads.items ≡ l.stepper;
}
