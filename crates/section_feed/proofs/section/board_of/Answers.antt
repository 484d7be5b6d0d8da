use Rattle.std.proofs.Common.{◌≡◌, ◌+◌, ◌<◌, List, length, get_or, arith, ap, sym, ◌∙◌, subst}
use Rattle.plan_types.specs.declared.machine.StepperDef.{StepperDef}
use Rattle.section_feed.proofs.Orders.{ne-eqb}
use Rattle.section_feed.proofs.Founding.{AreFound, found-all, found-more, found-other}
use Rattle.section_feed.proofs.section.board_of.Goals.{then-from-number+in_ok-add, else-from-number}
use Rattle.section_feed.proofs.section.board_of.Goals as goal

pub loop-place-preserved : goal.loop-place-preserved
loop-place-preserved c =
    let m = c.args.machine.now in
    let place = c.loop-place.place in
    let f = c.loop-place.invariant in
    let list = c.as_slice-steppers.ensures in
    let def = c.index-steppers-place.result in
    let is : def ≡ get_or m.steppers place def = rw list at c.index-steppers-place.is in
    let inside : place < length m.steppers = (let l = ap (λ (ss : List StepperDef). length ss) list in let t = c.loop-place-test.true in let e = c.loop-place.auto.place-end in omega arith) in
    let board = c.from.ensures in
    elim c.if-from-number.branch [
      | then-from-number+in_ok-add w ↦ (let own : def.board ≡ c.args.number = (let t = w.if-from-number.true in omega arith) in
          subst (AreFound m c.args.lines c.args.number c.args.turn c.args.homing (place + 1)) (sym w.board-is) (found-more m c.args.lines c.args.number c.args.turn c.args.homing place c.loop-place.board w.add.new.self def f inside is own (record {
            empty = w.in_ok-add.ensures.empty;
            base = w.add.ensures.base;
            lines_are = w.add.ensures.lines;
            time = w.add.ensures.time;
            next = w.add.ensures.turn;
            count = w.in_ok-add.ensures.count;
            first = w.add.ensures.first;
            slots = w.add.ensures.slots;
            goes = w.add.ensures.goes;
            packed = w.add.ensures.packed;
          })))
      | else-from-number w ↦ (let other : def.board ≡ c.args.number → ⊥ = (λ e. w.if-from-number.false (omega arith)) in
          subst (AreFound m c.args.lines c.args.number c.args.turn c.args.homing (place + 1)) (sym w.board-is) (found-other m c.args.lines c.args.number c.args.turn c.args.homing place c.loop-place.board def f inside (ne-eqb (get_or m.steppers place def).board c.args.number (λ e. other (ap (λ (s : StepperDef). s.board) is ∙ e)))))
    ]

pub returns-clause-set : goal.returns-clause-set
returns-clause-set c =
    let m = c.args.machine.now in
    let place = c.loop-place.place in
    let l = ap (λ (ss : List StepperDef). length ss) c.as_slice-steppers.ensures in
    found-all m c.args.lines c.args.number c.args.turn c.args.homing place c.loop-place.board c.loop-place.invariant (let t = c.loop-place-test.false in let e = c.loop-place.auto.place-end in omega arith)
