use Rattle.std.proofs.Common.{◌≡◌, take}
use Rattle.report_text.specs.Text.{report_text}
use Rattle.report_text.specs.Written.{WritesAll}
use Rattle.report_text.proofs.write.write_lines.Given as goal

abbrev pub invariant-loop-line : goal.invariant-loop-line
invariant-loop-line g l = record {
  faults : g.S.Sink.faults l.out ≡ g.S.Sink.faults l.fn.out;
  shown : WritesAll (g.S.Sink.written l.fn.out) (g.S.Sink.written l.out) (report_text l.machine (take l.line-index l.lines));
}
