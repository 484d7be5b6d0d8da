use Rattle.std.proofs.Common.{◌≡◌, ◌+◌, ◌<◌, ◌^◌, length, None}
use Rattle.text_core.specs.Lines.{lines_of}
use Rattle.text_core.specs.Words.{worded_lines}
use Rattle.frame_dump.specs.Traces.{AreTurns, turns_from}
use Rattle.frame_dump.specs.Sofar.{low_after, low_behind, with_turns}
use Rattle.frame_dump.proofs.read.read_turns.Given as goal

-- the turns so far, with those that are left behind them
abbrev pub invariant-loop-line : goal.invariant-loop-line
invariant-loop-line l = record {
  turns : with_turns l.turns.items (turns_from l.last (worded_lines 35 l.number (lines_of l.rest))) ≡ turns_from None (worded_lines 35 1 (lines_of l.fn.text));
  rise : AreTurns 0 l.turns.items;
  low : low_behind l.last ≡ low_after 0 l.turns.items;
  small : l.number + length l.rest < 2 ^ 64;
}

abbrev pub decreases-loop-line : goal.decreases-loop-line
decreases-loop-line l = length l.rest
