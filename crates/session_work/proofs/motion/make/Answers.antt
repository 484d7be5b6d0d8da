use Rattle.std.proofs.Common.{rules, ◌≡◌, ◌∙◌, length, vec_len, sym, subst}
use Rattle.session_work.specs.Lates.{batches_of}
use Rattle.session_work.specs.Rows.{AreOf, RowPut}
use Rattle.session_work.proofs.Motions.{fed_batches, fed_note, motion_more}
use Rattle.session_work.proofs.motion.make.Goals as goal

pub put_row-requires-clause-boards : goal.put_row-requires-clause-boards
put_row-requires-clause-boards g c =
    let n = length c.args.lanes.now.batches.now in let late = (c.turn-row.ensures.made _ c.requires.fed.0.10.6).1 in let many = c.requires.fed.0.10.3.0 in
    (search rules, subst (λ t. length (batches_of n t c.turn-row.result.row) ≡ n) late.0 late.1)

pub put_row-requires-clause-passes : goal.put_row-requires-clause-passes
put_row-requires-clause-passes g c = fed_batches g.M.MotionMachine c.args.lanes.now c.args.k c.args.start.now.value c.args.motion.now c.requires.fed c.requires.late

pub put_row-requires-clause-numbers : goal.put_row-requires-clause-numbers
put_row-requires-clause-numbers g c =
    let n = length c.args.lanes.now.batches.now in let late = (c.turn-row.ensures.made _ c.requires.fed.0.10.6).1 in
    subst (λ t. AreOf (λ b. b.turn) c.args.k (batches_of n t c.turn-row.result.row)) late.0 late.2

pub put-requires-clause-number : goal.put-requires-clause-number
put-requires-clause-number g c =
    let late = (c.turn-row.ensures.made _ c.requires.fed.0.10.6).1 in
    late.0 ∙ sym (fed_note g.M.MotionMachine c.args.lanes.now c.args.k c.args.start.now.value c.args.motion.now c.requires.fed c.requires.late)

pub returns-clause-at : goal.returns-clause-at
returns-clause-at g c =
    let b = c.requires.fed.0.10.6 in let n = length c.args.lanes.now.batches.now in let made = c.turn-row.ensures.made _ b in let d = c.args.motion.now in
    let put = subst (λ t. RowPut c.args.lanes.now.batches.now d.batch_passes.items c.put_row.new.passes.items (batches_of n t c.turn-row.result.row)) (sym made.1.0) c.put_row.ensures in
    motion_more g.M.MotionMachine c.args.lanes.now c.args.k c.args.start.now.value d _ c.turn-row.result.note c.turn-row.new.self c.put_row.new.passes c.put.new.pass
    c.requires.fed c.requires.late made.0 put c.put.ensures.lane c.put.ensures.first c.put.ensures.put (c.turn-row.ensures.boards ∙ b)
