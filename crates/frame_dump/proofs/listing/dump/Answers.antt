use Rattle.std.proofs.Common.{◌∙◌, ap, ◌++◌}
use Rattle.frame_dump.specs.Dumps.{open_lines}
use Rattle.frame_dump.proofs.Dumping.{dump_more, whole}
use Rattle.frame_dump.proofs.listing.dump.Goals as goal

pub loop-rest-preserved : goal.loop-rest-preserved
loop-rest-preserved c =
    let l = c.loop-rest in
    dump_more _ _ l.rest.now c.turn-item.result l.reader.waiting.items _ l.reader.scanner _ l.reader.end _ l.lines.items _ l.invariant c.in-len1-up.len_at_least c.turn-item.is c.in_ok-list_turn.ensures

pub returns : goal.returns
returns c =
    let l = c.loop-rest in
    whole _ _ l.rest.now l.reader.waiting.items l.reader.scanner l.reader.end l.lines.items _ l.invariant c.in_default.len_below
    (c.in_ok-list_open.ensures ∙ ap (λ bytes. l.lines.items ++ open_lines bytes) c.as_slice.ensures.value)
