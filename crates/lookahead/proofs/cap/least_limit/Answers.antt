use Rattle.std.proofs.Common.{◌∙◌, ap, min}
use Rattle.lookahead.proofs.Limits.{with_both, with_bends, with_corner, with_none, below_then, below_else, below_corner, below_speeds}
use Rattle.lookahead.proofs.cap.least_limit.Goals as goal
use Rattle.lookahead.proofs.cap.least_limit.Goals.{then-sine-lt-UNIT, else-sine-lt-UNIT}

pub returns-then-cosine-gt0-clause-value : goal.returns-then-cosine-gt0-clause-value
returns-then-cosine-gt0-clause-value c =
    let p = c.square.ensures.value in
    let q = c.square-2.ensures.value in
    let l = c.min-speeds.ensures in
    let x = c.bend_limit.ensures in
    let f = c.min.ensures in
    let y = c.bend_limit-then-cosine-gt0.ensures in
    let r = c.min-then-cosine-gt0.ensures in
    let above = c.if-cosine-gt0.true in
    elim c.if-sine-lt-UNIT.branch [
      | then-sine-lt-UNIT w ↦ with_both c.args.one.now c.args.two.now c.args.scv c.args.sine c.args.cosine _ _ _ p q l _ _ _ _ _ _ w.if-sine-lt-UNIT.true above w.corner_limit.ensures (w.corner-is ∙ w.min-corner.ensures) x f y r
      | else-sine-lt-UNIT w ↦ with_bends c.args.one.now c.args.two.now c.args.scv c.args.sine c.args.cosine _ _ _ p q l _ _ _ _ _ w.if-sine-lt-UNIT.false above w.corner-is x f y r
    ]

pub returns-else-cosine-gt0-clause-value : goal.returns-else-cosine-gt0-clause-value
returns-else-cosine-gt0-clause-value c =
    let p = c.square.ensures.value in
    let q = c.square-2.ensures.value in
    let l = c.min-speeds.ensures in
    let none = c.if-cosine-gt0.false in
    elim c.if-sine-lt-UNIT.branch [
      | then-sine-lt-UNIT w ↦ with_corner c.args.one.now c.args.two.now c.args.scv c.args.sine c.args.cosine _ _ _ p q l _ _ w.if-sine-lt-UNIT.true none w.corner_limit.ensures (w.corner-is ∙ w.min-corner.ensures)
      | else-sine-lt-UNIT w ↦ with_none c.args.one.now c.args.two.now c.args.scv c.args.sine c.args.cosine _ _ _ p q l _ w.if-sine-lt-UNIT.false none w.corner-is
    ]

pub returns-then-cosine-gt0-clause-small : goal.returns-then-cosine-gt0-clause-small
returns-then-cosine-gt0-clause-small c =
    let p = c.square.ensures.small in
    let l = c.min-speeds.ensures in
    let f = c.min.ensures in
    let r = c.min-then-cosine-gt0.ensures in
    elim c.if-sine-lt-UNIT.branch [
      | then-sine-lt-UNIT w ↦ below_then _ _ _ _ _ _ _ _ _ p l (w.corner-is ∙ w.min-corner.ensures) f r
      | else-sine-lt-UNIT w ↦ below_else _ _ _ _ _ _ _ p l (f ∙ ap (λ z. min z c.bend_limit.result) w.corner-is) r
    ]

pub returns-else-cosine-gt0-clause-small : goal.returns-else-cosine-gt0-clause-small
returns-else-cosine-gt0-clause-small c =
    let p = c.square.ensures.small in
    let l = c.min-speeds.ensures in
    elim c.if-sine-lt-UNIT.branch [
      | then-sine-lt-UNIT w ↦ below_corner _ _ _ _ _ p l (w.corner-is ∙ w.min-corner.ensures)
      | else-sine-lt-UNIT w ↦ below_speeds _ _ _ p (w.corner-is ∙ l)
    ]
