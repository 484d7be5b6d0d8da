use Rattle.std.proofs.Common.{◌+◌, ◌<◌, ◌≤◌, ◌^◌, length}
use Rattle.text_core.specs.Lines.{lines_of}
use Rattle.text_core.specs.Words.{worded_lines}
use Rattle.log_check.specs.Steps.{CheckSofar, IsSoundPoint, point_of}
use Rattle.log_check.specs.Verdicts.{log_verdict, worded}
use Rattle.log_check.specs.Behind.{further_said}
use Rattle.log_check.proofs.check.check_log.Given as goal

-- the lines so far fit, and the verdict is that on those that are left behind them
abbrev pub invariant-loop-line : goal.invariant-loop-line
invariant-loop-line l = record {
  sofar : CheckSofar l.machine l.sections (further_said l.machine (worded l.fn.text)) (point_of l.stand) l.out.items l.last (worded_lines 35 l.number (lines_of l.rest)) (log_verdict l.machine l.sections l.fn.text);
  sound : IsSoundPoint l.machine (point_of l.stand);
  begun : l.stand.begun ≤ length l.sections;
  few : length l.stand.plans ≤ 16;
  small : l.number + length l.rest < 2 ^ 64;
}

abbrev pub decreases-loop-line : goal.decreases-loop-line
decreases-loop-line l = length l.rest
