use Rattle.std.proofs.Common.{◌≡◌, ◌+◌, ◌/◌, ◌<◌, ◌^◌, length, ap, arith}
use Rattle.std.specs.Fmt.{decimal}
use Rattle.report_text.proofs.Pairs.{eight-behind, longest}
use Rattle.report_text.proofs.digits.place_number.Goals as goal

pub place_eight-end-requires : goal.place_eight-end-requires
place_eight-end-requires c =
    let long = longest c.args.number c.if-number-lt100000000.false c.ranges.number.fits in
    (c.if-front-lt100000000.true, omega arith)

pub place-requires : goal.place-requires
place-requires c =
    let long = longest c.args.number c.if-number-lt100000000.false c.ranges.number.fits in
    let eight : length c.eight_of.result ≡ 8 = ap length c.eight_of.ensures in
    omega (arith, c.place_eight-end.ensures.end, c.place_eight-end.ensures.size)

pub returns-then-front-lt100000000-clause-bytes : goal.returns-then-front-lt100000000-clause-bytes
returns-then-front-lt100000000-clause-bytes c =
    eight-behind _ _ _ _ _ _ _ _ c.if-number-lt100000000.false c.ranges.number.fits c.eight_of.ensures c.place_eight-end.ensures.bytes c.place.ensures.bytes

pub returns-then-front-lt100000000-clause-end : goal.returns-then-front-lt100000000-clause-end
returns-then-front-lt100000000-clause-end c =
    let long = longest c.args.number c.if-number-lt100000000.false c.ranges.number.fits in
    let eight : length c.eight_of.result ≡ 8 = ap length c.eight_of.ensures in
    omega (arith, c.place_eight-end.ensures.end, c.place.ensures.end)

pub place_short-first-requires : goal.place_short-first-requires
place_short-first-requires c =
    let fits : c.args.number / 100000000 < 2 ^ 64 = omega (arith, c.ranges.number.fits) in
    let long = longest c.args.number c.if-number-lt100000000.false c.ranges.number.fits in
    let front = longest (c.args.number / 100000000) c.if-front-lt100000000.false fits in
    (omega (arith, c.ranges.number.fits), omega arith)

pub place-second-requires : goal.place-second-requires
place-second-requires c =
    let fits : c.args.number / 100000000 < 2 ^ 64 = omega (arith, c.ranges.number.fits) in
    let long = longest c.args.number c.if-number-lt100000000.false c.ranges.number.fits in
    let front = longest (c.args.number / 100000000) c.if-front-lt100000000.false fits in
    let eight : length c.eight_of-2.result ≡ 8 = ap length c.eight_of-2.ensures in
    omega (arith, c.place_short-first.ensures.end, c.place_short-first.ensures.size)

pub place-requires-2 : goal.place-requires-2
place-requires-2 c =
    let fits : c.args.number / 100000000 < 2 ^ 64 = omega (arith, c.ranges.number.fits) in
    let long = longest c.args.number c.if-number-lt100000000.false c.ranges.number.fits in
    let front = longest (c.args.number / 100000000) c.if-front-lt100000000.false fits in
    let second : length c.eight_of-2.result ≡ 8 = ap length c.eight_of-2.ensures in
    let third : length c.eight_of-3.result ≡ 8 = ap length c.eight_of-3.ensures in
    omega (arith, c.place_short-first.ensures.end, c.place_short-first.ensures.size, c.place-second.ensures.end, c.place-second.ensures.size)

pub returns-clause-bytes : goal.returns-clause-bytes
returns-clause-bytes c =
    let fits : c.args.number / 100000000 < 2 ^ 64 = omega (arith, c.ranges.number.fits) in
    eight-behind _ _ _ _ _ _ _ _ c.if-number-lt100000000.false c.ranges.number.fits c.eight_of-3.ensures (eight-behind _ _ _ _ _ _ _ _ c.if-front-lt100000000.false fits c.eight_of-2.ensures c.place_short-first.ensures.bytes c.place-second.ensures.bytes) c.place-2.ensures.bytes

pub returns-clause-end : goal.returns-clause-end
returns-clause-end c =
    let fits : c.args.number / 100000000 < 2 ^ 64 = omega (arith, c.ranges.number.fits) in
    let long = longest c.args.number c.if-number-lt100000000.false c.ranges.number.fits in
    let front = longest (c.args.number / 100000000) c.if-front-lt100000000.false fits in
    let second : length c.eight_of-2.result ≡ 8 = ap length c.eight_of-2.ensures in
    let third : length c.eight_of-3.result ≡ 8 = ap length c.eight_of-3.ensures in
    omega (arith, c.place_short-first.ensures.end, c.place-second.ensures.end, c.place-2.ensures.end)
