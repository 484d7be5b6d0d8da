use Rattle.std.proofs.Common.{◌≡◌, ◌+◌, length, ap, arith}
use Rattle.std.specs.Fmt.{decimal}
use Rattle.report_text.proofs.Pairs.{one-digit, two-digits, three-digits, four-digits}
use Rattle.report_text.proofs.digits.place_short.Goals as goal

pub place-requires : goal.place-requires
place-requires c =
    let long : length (decimal c.args.number) ≡ 4 = ap length (four-digits c.args.number c.if-number-ge1000.true c.requires.0) in
    let four : length c.four_of.result ≡ 4 = ap length c.four_of.ensures in
    omega arith

pub returns-then-number-ge1000-clause-bytes : goal.returns-then-number-ge1000-clause-bytes
returns-then-number-ge1000-clause-bytes c =
    rw (four-digits c.args.number c.if-number-ge1000.true c.requires.0) (rw c.four_of.ensures at c.place.ensures.bytes)

pub returns-then-number-ge1000-clause-end : goal.returns-then-number-ge1000-clause-end
returns-then-number-ge1000-clause-end c =
    rw (four-digits c.args.number c.if-number-ge1000.true c.requires.0) (rw c.four_of.ensures at c.place.ensures.end)

pub place-requires-then-number-ge100 : goal.place-requires-then-number-ge100
place-requires-then-number-ge100 c =
    let long : length (decimal c.args.number) ≡ 3 = ap length (three-digits c.args.number c.if-number-ge100.true c.if-number-ge1000.false) in
    omega arith

pub returns-then-number-ge100-clause-bytes : goal.returns-then-number-ge100-clause-bytes
returns-then-number-ge100-clause-bytes c =
    rw (three-digits c.args.number c.if-number-ge100.true c.if-number-ge1000.false) (rw c.pair_of-last.ensures at c.place-then-number-ge100.ensures.bytes)

pub returns-then-number-ge100-clause-end : goal.returns-then-number-ge100-clause-end
returns-then-number-ge100-clause-end c =
    rw (three-digits c.args.number c.if-number-ge100.true c.if-number-ge1000.false) c.place-then-number-ge100.ensures.end

pub place-requires-then-number-ge10 : goal.place-requires-then-number-ge10
place-requires-then-number-ge10 c =
    let long : length (decimal c.args.number) ≡ 2 = ap length (two-digits c.args.number c.if-number-ge10.true c.if-number-ge100.false) in
    let two : length c.pair_of.result ≡ 2 = ap length c.pair_of.ensures in
    omega arith

pub returns-then-number-ge10-clause-bytes : goal.returns-then-number-ge10-clause-bytes
returns-then-number-ge10-clause-bytes c =
    rw (two-digits c.args.number c.if-number-ge10.true c.if-number-ge100.false) (rw c.pair_of.ensures at c.place-then-number-ge10.ensures.bytes)

pub returns-then-number-ge10-clause-end : goal.returns-then-number-ge10-clause-end
returns-then-number-ge10-clause-end c =
    rw (two-digits c.args.number c.if-number-ge10.true c.if-number-ge100.false) (rw c.pair_of.ensures at c.place-then-number-ge10.ensures.end)

pub place-requires-2 : goal.place-requires-2
place-requires-2 c =
    let long : length (decimal c.args.number) ≡ 1 = ap length (one-digit c.args.number c.if-number-ge10.false) in
    omega arith

pub returns-clause-bytes : goal.returns-clause-bytes
returns-clause-bytes c = rw (one-digit c.args.number c.if-number-ge10.false) c.place-2.ensures.bytes

pub returns-clause-end : goal.returns-clause-end
returns-clause-end c = rw (one-digit c.args.number c.if-number-ge10.false) c.place-2.ensures.end
