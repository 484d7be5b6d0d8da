use Rattle.std.proofs.Common.{◌-◌, ◌<◌, length, arith}
use Rattle.std.proofs.lemmas.List.Elements.{All-take}
use Rattle.motion_work.specs.declared.told.BoardLine.{BoardLine}
use Rattle.motion_work.specs.Further.{WasHeard}
use Rattle.motion_stream.specs.Uptakes.{lined}
use Rattle.motion_stream.proofs.Leaving.{both_more, each_left}
use Rattle.motion_stream.proofs.Uptaking.{both_told}
use Rattle.motion_stream.proofs.uptake.+take_each.Goals as goal

pub returns-in_ok-take_each-in-len1-up-clause-taken : goal.returns-in_ok-take_each-in-len1-up-clause-taken
returns-in_ok-take_each-in-len1-up-clause-taken n c = λ seen heard_of heard h.
    let P : BoardLine → Type 0 = λ x. WasHeard x.board x.line heard_of in
    let some = c.in-len1-up.len_at_least in
    let last : length c.args.waiting.now - 1 < length c.args.waiting.now = omega (arith, some) in
    let a = c.in_ok-take_one-in-len1-up.ensures.taken seen heard_of (heard (length c.args.waiting.now - 1) _ last) h in
    let b = c.in_ok-take_each-in-len1-up.ensures.taken (lined seen a.more) heard_of (All-take P (length c.args.waiting.now - 1) c.args.waiting.now heard) a.is in
    both_told c.args.machine.now seen heard_of c.args.k c.args.news.now c.take_one.new.news c.take_each.new.news c.take_each.new.course (a.more, a.are, a.further, a.heard) b

pub returns-in_ok-take_each-in-len1-up-clause-told : goal.returns-in_ok-take_each-in-len1-up-clause-told
returns-in_ok-take_each-in-len1-up-clause-told n c =
    let one = c.in_ok-take_one-in-len1-up.ensures in
    let rest = c.in_ok-take_each-in-len1-up.ensures in
    each_left c.args.machine.now c.args.course.now.lines.each.items c.take_one.new.course.lines.each.items c.take_each.new.course.lines.each.items c.args.k c.args.news.now c.take_one.new.news c.take_each.new.news c.args.waiting.now _ c.in-len1-up.len_at_least one.more rest.more one.told rest.told

pub returns-in_ok-take_each-in-len1-up-clause-more : goal.returns-in_ok-take_each-in-len1-up-clause-more
returns-in_ok-take_each-in-len1-up-clause-more n c =
    both_more c.args.course.now.lines.each.items c.take_one.new.course.lines.each.items c.take_each.new.course.lines.each.items c.args.news.now c.take_one.new.news c.take_each.new.news c.in_ok-take_one-in-len1-up.ensures.more c.in_ok-take_each-in-len1-up.ensures.more
