use Rattle.std.proofs.Common.{◌≡◌, ◌+◌, ◌/◌, ◌++◌, ◌∙◌, sym, length, ap, arith}
use Rattle.std.specs.Fmt.{decimal}
use Rattle.report_text.proofs.Pairs.{digits-behind, longer, more-digits}
use Rattle.report_text.proofs.digits.place_eight.Goals as goal

pub place_short-end-requires : goal.place_short-end-requires
place_short-end-requires c =
    let long = longer c.args.number c.if-number-lt10000.false c.ranges.number.fits in
    omega arith

pub place-requires : goal.place-requires
place-requires c =
    let long = longer c.args.number c.if-number-lt10000.false c.ranges.number.fits in
    let four : length c.four_of.result ≡ 4 = ap length c.four_of.ensures in
    omega (arith, c.place_short-end.ensures.end, c.place_short-end.ensures.size)

pub returns-clause-bytes : goal.returns-clause-bytes
returns-clause-bytes c =
    digits-behind _ _ _ _ _ _ _ _ _ (more-digits c.args.number c.if-number-lt10000.false c.ranges.number.fits ∙ ap (λ t. decimal (c.args.number / 10000) ++ t) (sym c.four_of.ensures)) c.place_short-end.ensures.bytes c.place.ensures.bytes

pub returns-clause-end : goal.returns-clause-end
returns-clause-end c =
    let long = longer c.args.number c.if-number-lt10000.false c.ranges.number.fits in
    let four : length c.four_of.result ≡ 4 = ap length c.four_of.ensures in
    omega (arith, c.place_short-end.ensures.end, c.place.ensures.end)
