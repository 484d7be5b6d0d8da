use Rattle.std.proofs.Common.{rules, ◌≡◌, ◌+◌, ◌<◌, ◌++◌, ◌∷◌, ◌∙◌, [], length, arith, subst, sym, ap}
use Rattle.session_work.specs.Lates.{AreLate, batches_of, late_row}
use Rattle.session_work.specs.Rows.{AreOf, RowPut}
use Rattle.session_work.proofs.Motions.{late_first, motion_handed}
use Rattle.session_work.proofs.motion.flush.Goals as goal

pub put_row-requires-clause-boards : goal.put_row-requires-clause-boards
put_row-requires-clause-boards g c =
    let n = length c.args.lanes.now.batches.now in let i = c.loop-i.i in let all = subst (AreLate n i) c.in-Some.ensures.items c.loop-i.invariant.late in let x = c.in-Some.late in
    let many = c.loop-i.invariant.at.3.3.0 in (search rules, subst (λ t. length (batches_of n t x.row) ≡ n) all.0.0 all.0.1)

pub put_row-requires-clause-passes : goal.put_row-requires-clause-passes
put_row-requires-clause-passes g c =
    (late_first g.M.MotionMachine c.args.lanes.now c.loop-i.i c.args.n c.args.start.now.value c.loop-i.motion c.loop-i.invariant.at c.loop-i.invariant.late c.loop-i.invariant.count).0

pub put_row-requires-clause-numbers : goal.put_row-requires-clause-numbers
put_row-requires-clause-numbers g c =
    let n = length c.args.lanes.now.batches.now in let i = c.loop-i.i in let all = subst (AreLate n i) c.in-Some.ensures.items c.loop-i.invariant.late in let x = c.in-Some.late in
    subst (λ t. AreOf (λ b. b.turn) i (batches_of n t x.row)) all.0.0 all.0.2

pub put-requires-clause-number : goal.put-requires-clause-number
put-requires-clause-number g c =
    let n = length c.args.lanes.now.batches.now in let i = c.loop-i.i in let all = subst (AreLate n i) c.in-Some.ensures.items c.loop-i.invariant.late in
    all.0.0 ∙ sym (late_first g.M.MotionMachine c.args.lanes.now i c.args.n c.args.start.now.value c.loop-i.motion c.loop-i.invariant.at c.loop-i.invariant.late c.loop-i.invariant.count).1

pub loop-i-preserved : goal.loop-i-preserved
loop-i-preserved g c =
    let n = length c.args.lanes.now.batches.now in let i = c.loop-i.i in let is = c.in-Some.ensures.items in let all = subst (AreLate n i) is c.loop-i.invariant.late in let x = c.in-Some.late in
    let row : RowPut c.args.lanes.now.batches.now c.loop-i.motion.batch_passes.items c.put_row.new.passes.items (late_row n x) = subst (λ t. RowPut c.args.lanes.now.batches.now c.loop-i.motion.batch_passes.items c.put_row.new.passes.items (batches_of n t x.row)) (sym all.0.0) c.put_row.ensures in
    let many = ap length is in let count = c.loop-i.invariant.count in record {
      at = motion_handed g.M.MotionMachine c.args.lanes.now c.args.n c.args.start.now.value c.loop-i.motion x c.put_row.new.passes c.put.new.pass c.pop_front.new.self
          c.loop-i.invariant.at is row (c.put.ensures.lane, c.put.ensures.first, c.put.ensures.put);
      late = all.1;
      count = omega arith;
    }

pub loop-i-init : goal.loop-i-init
loop-i-init g c = record { at = c.requires.at; late = c.requires.late.0; count = c.requires.late.1 }

pub put-requires-clause-lane : goal.put-requires-clause-lane
put-requires-clause-lane g c = c.loop-i.invariant.at.3.2.0
