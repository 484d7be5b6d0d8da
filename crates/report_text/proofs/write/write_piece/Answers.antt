use Rattle.std.proofs.Common.{rules}
use Rattle.report_text.proofs.Writing.{shows-more}
use Rattle.report_text.proofs.write.write_piece.Goals as goal

pub loop-rest-preserved : goal.loop-rest-preserved
loop-rest-preserved g c = record {
  faults = search rules;
  shown = shows-more _ _ _ _ _ _ _ c.loop-rest.invariant.shown c.in_ok-count.ensures.written c.behind-rest.ensures;
}
