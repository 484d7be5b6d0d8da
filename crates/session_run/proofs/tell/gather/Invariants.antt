use Rattle.std.proofs.Common.{◌≡◌, ◌++◌, take}
use Rattle.report_text.specs.Text.{report_text}
use Rattle.session_run.specs.Counts.{with_pulses}
use Rattle.session_run.specs.Tells.{without_pulses}
use Rattle.session_run.proofs.tell.gather.Given as goal

abbrev pub invariant-loop-line : goal.invariant-loop-line
invariant-loop-line l = record {
  text : l.buffer.items ≡ l.fn.buffer.items ++ report_text l.machine (take l.line-index l.lines);
  kept : l.kept ≡ l.fn.kept ++ without_pulses (take l.line-index l.lines);
  counted : l.counts.items ≡ with_pulses (take l.line-index l.lines) l.fn.counts.items;
}
