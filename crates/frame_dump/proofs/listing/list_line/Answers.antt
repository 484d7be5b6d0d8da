use Rattle.std.proofs.Common.{arith, length-drop}
use Rattle.board_sim.proofs.Hearing.{takes_some}
use Rattle.frame_dump.proofs.Dumping.{has_number, line_end, line_more, line_none}
use Rattle.frame_dump.proofs.listing.list_line.Goals as goal
use Rattle.msg_code.proofs.Parameters.{rest_all}

pub returns-in-NeedMore-clause-lists : goal.returns-in-NeedMore-clause-lists
returns-in-NeedMore-clause-lists c =
    let scans = simp rest_all at c.scan-found.ensures in
    λ taken same. line_end _ _ taken _ c.loop-end.scanner _ _ _ _ c.loop-end.at c.scan-found.result.1 _ (c.loop-end.invariant.sofar taken same) (rw c.in-NeedMore.is at scans)

pub loop-end-preserved : goal.loop-end-preserved
loop-end-preserved c =
    let scans = simp rest_all at c.scan-found.ensures in
    let l = c.loop-end in
    let took = takes_some l.scanner _ c.scan-found.result.0 c.scan-found.result.1 c.scan-found.new.s scans c.in_default.not-NeedMore in
    let behind = length-drop l.at c.args.bytes.now in
    record {
      within = omega arith;
      sofar = λ taken same. line_more _ _ taken _ l.scanner _ _ _ l.lines.items _ l.at c.scan-found.result.1 l.end _ c.scan-found.result.0 (l.invariant.sofar taken same) scans c.in_default.not-NeedMore
          c.in_ok-list_found.ensures.shows c.in_ok-list_found.ensures.number;
    }
