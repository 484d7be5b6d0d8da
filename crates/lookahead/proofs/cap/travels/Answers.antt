use Rattle.std.proofs.Common.{arith}
use Rattle.lookahead.proofs.Vectors.{changed, unchanged, last_tells, where_true, where_false}
use Rattle.lookahead.proofs.cap.travels.Goals as goal
use Rattle.lookahead.proofs.cap.travels.Goals.{then-change_at-ne0, else-change_at-ne0}

pub returns-then-change_at-ne0-2 : goal.returns-then-change_at-ne0-2
returns-then-change_at-ne0-2 c = elim c.if-change_at-ne0.branch [
  | then-change_at-ne0 w ↦ (λ t. (let some = changed c.change_at.result _ c.change_at.ensures.value w.if-change_at-ne0.true in omega arith), λ t. c.if-change_at-ne0-2.true)
  | else-change_at-ne0 w ↦ (
    λ t. (let some = changed w.change_at-else-change_at-ne0.result _ w.change_at-else-change_at-ne0.ensures.value (where_true _ _ w.value-is c.if-change_at-ne0-2.true) in omega arith),
    λ t. c.if-change_at-ne0-2.true,
  )
]

pub returns-else-change_at-ne0-2 : goal.returns-else-change_at-ne0-2
returns-else-change_at-ne0-2 c =
    let last = c.change_at-else-change_at-ne0-2 in
    elim c.if-change_at-ne0.branch [
      | then-change_at-ne0 w ↦ absurd (w.if-change_at-ne0.true (where_false _ _ w.value-is c.if-change_at-ne0-2.false))
      | else-change_at-ne0 w ↦
          let next = w.change_at-else-change_at-ne0 in
          last_tells last.result _ _ _ last.ensures.value last.ensures.small (unchanged c.change_at.result _ c.change_at.ensures.value c.change_at.ensures.small w.if-change_at-ne0.false)
          (unchanged next.result _ next.ensures.value next.ensures.small (where_false _ _ w.value-is c.if-change_at-ne0-2.false))
    ]
