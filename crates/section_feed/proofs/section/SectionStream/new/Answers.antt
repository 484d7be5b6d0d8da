use Rattle.std.proofs.Common.{◌≡◌, ◌<◌, length, arith, ◌∙◌}
use Rattle.plan_types.specs.Lines.{Clocks}
use Rattle.plan_types.specs.Sections.{clocks_at}
use Rattle.section_feed.proofs.Changing.{any-default}
use Rattle.section_feed.proofs.Sectioning.{made-open, made-sets, one-made}
use Rattle.section_feed.proofs.section.SectionStream.new.Goals as goal

pub loop-number-preserved : goal.loop-number-preserved
loop-number-preserved c =
    let clocks = c.args.clocks.now in
    let number = c.loop-number.number in
    let inside : number < length clocks = (let t = c.loop-number-test.true in let e = c.loop-number.auto.number-end in omega arith) in
    let is : c.in_ok-copied.field-0 ≡ clocks_at clocks number = c.in_ok-copied.ensures ∙ c.index-clocks-number.is ∙ any-default {A = Clocks} (λ k x y. Unit {0}) clocks number _ _ inside in
    let board = c.in_ok-board in
    one-made c.args.machine.now clocks c.args.turn c.args.homing number c.loop-number.boards.items c.push.new.self.items board.board c.in_ok-copied.field-0 c.loop-number.invariant c.in_ok-push.ensures.items is board.ensures.empty board.ensures.time board.ensures.turn board.ensures.set board.ensures.goes board.ensures.packed

pub invariant_of-result-clause-ended : goal.invariant_of-result-clause-ended
invariant_of-result-clause-ended c = made-open c.args.machine.now c.args.clocks.now c.args.turn c.args.homing c.loop-number.number c.loop-number.boards.items c.args.queue c.loop-number.invariant

pub returns-clause-sets : goal.returns-clause-sets
returns-clause-sets c = λ b d h. made-sets c.args.machine.now c.args.clocks.now c.args.turn c.args.homing c.loop-number.number c.loop-number.boards.items c.loop-number.invariant b d (let n = c.requires.boards in let t = c.loop-number-test.false in let e = c.loop-number.auto.number-end in omega arith)
