use Rattle.std.proofs.Common.{◌≡◌, ◌+◌, ◌++◌, length, length-append, ap, sym, ◌∙◌, arith}
use Rattle.report_text.proofs.Heads.{put-over}
use Rattle.report_text.proofs.printer.put_behind.Goals as goal

pub returns : goal.returns
returns c =
    let old = c.args.out.now.items in
    let block = c.args.head.now.words in
    let before : c.as_mut_slice.result.now ≡ old ++ block = c.as_mut_slice.ensures.value ∙ c.in_ok-extend_from_slice.ensures.items in
    let long : length c.as_mut_slice.result.now ≡ length old + length block = ap length before ∙ length-append old block in
    put-over old block _ _ _ _ _ c.args.head.now.size _ _ _ before (omega (arith, long, c.len.ensures, c.as_mut_slice.ensures.len, c.requires.1)) (omega (arith, c.place_rest-end.ensures.size, c.as_mut_slice.ensures.len)) c.place_rest-end.ensures.bytes c.truncate.ensures.items
