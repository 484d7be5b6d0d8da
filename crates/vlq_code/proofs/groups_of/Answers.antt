use Rattle.std.proofs.Common.{◌≡◌, ◌+◌, ◌*◌, ◌%◌, ◌^◌, ◌<◌, get_or, arith, length, refl, ap, ◌∙◌}
use Rattle.std.proofs.lemmas.List.{take_more}
use Rattle.std.proofs.lemmas.Nat.{and_mask, pow-add}
use Rattle.vlq_code.proofs.Spelled.{groups_after-append}
use Rattle.vlq_code.proofs.groups_of.Goals as goal

pub loop-byte-preserved : goal.loop-byte-preserved
loop-byte-preserved c =
    let bytes = c.args.bytes.now in
    let i = c.loop-byte.byte-index in
    let low : c.from.result ≡ get_or bytes i 0 % 128 = c.from.ensures ∙ and_mask _ 7 in
    let within : i < length bytes = c.loop-byte-test.true in
    let next : 7 * (i + 1) ≡ 7 * i + 7 = omega arith in
    let power : 2 ^ (7 * (i + 1)) ≡ 2 ^ (7 * i) * 2 ^ 7 = ap (λ k. 2 ^ k) next ∙ pow-add 2 (7 * i) 7 in
    (rw (take_more bytes i 0, groups_after-append, low, c.loop-byte.invariant.0) refl, omega (arith, power, low, c.loop-byte.invariant.1))
