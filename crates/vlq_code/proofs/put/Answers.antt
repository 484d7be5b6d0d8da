use Rattle.std.proofs.Common.{◌≡◌, ◌+◌, ◌-◌, ◌%◌, ◌≤◌, ◌∷◌, ◌++◌, ap, arith, rules, append_assoc, sym, ◌∙◌, bit_or, div-one}
use Rattle.std.proofs.lemmas.Nat.{or_shifted}
use Rattle.vlq_code.specs.Spelling.{spelling, byte_count, low_bytes, byte_at}
use Rattle.vlq_code.proofs.Spelled.{low_bytes_step, byte_at_high}
use Rattle.vlq_code.proofs.Lengths.{spelling_spells}
use Rattle.vlq_code.proofs.put.Goals as goal

pub loop-place-preserved : goal.loop-place-preserved
loop-place-preserved c =
    let p = c.loop-place.place in
    let n = c.args.n in
    let some : 1 ≤ p = omega arith in
    let high : 1 ≤ p - 1 = omega arith in
    let byte : bit_or 128 c.group.result ≡ byte_at (p - 1) n =
    or_shifted 1 7 c.group.result (omega arith) ∙ ap (λ b. 128 + b) c.group.ensures ∙ sym (byte_at_high (p - 1) n high) in
    let step : low_bytes p n ≡ byte_at (p - 1) n ∷ low_bytes (p - 1) n = low_bytes_step p n some in
    let kept = c.loop-place.invariant.0 in
    (rw (c.push.ensures.items, append_assoc, byte) (rw step at kept), omega arith, omega arith)

pub push-requires-2 : goal.push-requires-2
push-requires-2 c = (search rules, omega arith)

pub returns-clause-appends : goal.returns-clause-appends
unfolding spelling
returns-clause-appends c =
    let n = c.args.n in
    let last : c.loop-place.place ≡ 1 = omega arith in
    let kept = c.loop-place.invariant.0 in
    let final : c.group-2.result ≡ n % 128 = c.group-2.ensures ∙ ap (λ q. q % 128) (div-one n) in
    let whole : low_bytes c.spelled_length-len.result n ≡ low_bytes (byte_count n) n = ap (λ k. low_bytes k n) c.spelled_length-len.ensures in
    rw (c.push-2.ensures.items, final) (rw last at kept) ∙ ap (λ t. c.args.out.now.items ++ t) whole

pub returns-clause-spells : goal.returns-clause-spells
returns-clause-spells c = spelling_spells c.args.n (omega arith)
