-- The line of a sample is near to the board's own clock.
use Rattle.std.proofs.Common.{◌≡◌, ◌≤◌, ℕ, ◌+◌, ◌-◌, ◌*◌, ◌/◌, ◌%◌, ap, ◌∙◌, arith, refl, sym, subst}
use Rattle.std.proofs.Math.Nat.{div-add-mod, mul-le-mul}
use Rattle.plan_types.specs.declared.plan.Line.{Line}
use Rattle.plan_types.specs.Clock.{own_tick, tick, turn_ns}
use Rattle.std.specs.Prelude.{ℤ, pos, negsuc}
use Rattle.clock_line.specs.Samples.{own, sample_at, sampled, ppm_size, AreWithin, line_reach}
use Rattle.clock_line.proofs.Turns.{tick-turn}

abbrev own_line : ℕ → ℕ → Line
own_line start freq = record { at = 0; clock = start; freq = freq }

own-is : (start freq q turn : ℕ) → freq ≡ q * 1_000 → own start freq turn ≡ start + turn * q
own-is start freq q turn e =
    let t = tick-turn (own_line start freq) 0 q turn (omega arith) e in
    let z : turn - 0 ≡ turn = omega arith in
    t ∙ ap (λ (n : ℕ). start + n * q) z

distributed : (a b q : ℕ) → (a + b) * q ≡ a * q + b * q
distributed a b q = omega arith

pub near : (start freq sent got turn k : ℕ) → freq % 1_000 ≡ 0 → sent ≤ turn → turn ≤ got → sent ≤ k
    → (own start freq k ≤ tick (sampled (sample_at start freq sent got turn) freq) (k * turn_ns))
    × (tick (sampled (sample_at start freq sent got turn) freq) (k * turn_ns) ≤ own start freq (k + (got - sent)))
near start freq sent got turn k whole low high after =
    let q = freq / 1_000 in
    let d = div-add-mod freq 1_000 in
    let e : freq ≡ q * 1_000 = omega arith in
    let line = sampled (sample_at start freq sent got turn) freq in
    let t : tick line (k * turn_ns) ≡ own start freq turn + (k - sent) * q = tick-turn line sent q k refl e in
    let a = own-is start freq q turn e in
    let b = own-is start freq q k e in
    let c = own-is start freq q (k + (got - sent)) e in
    let x : (turn + (k - sent)) * q ≡ turn * q + (k - sent) * q = distributed turn (k - sent) q in
    let one : k * q ≤ (turn + (k - sent)) * q = mul-le-mul (omega arith) (omega arith) in
    let two : (turn + (k - sent)) * q ≤ (k + (got - sent)) * q = mul-le-mul (omega arith) (omega arith) in
    (omega arith, omega arith)

-- quotients by 10 ^ 9 of a sum and of its parts, where the board is fast, and where it is slow
fast : (p w z d : ℕ) → w ≡ p + d * 1_000_000_000 + z
    → (p / 1_000_000_000 + d + z / 1_000_000_000 ≤ w / 1_000_000_000) × (w / 1_000_000_000 ≤ p / 1_000_000_000 + d + z / 1_000_000_000 + 1)
fast p w z d e = (omega arith, omega arith)

slow : (p w z d : ℕ) → w + z ≡ p + d * 1_000_000_000
    → (p / 1_000_000_000 + d ≤ w / 1_000_000_000 + z / 1_000_000_000 + 1) × (w / 1_000_000_000 + z / 1_000_000_000 ≤ p / 1_000_000_000 + d)
slow p w z d e = (omega arith, omega arith)

-- the rate of a board over some turns behind others, where it is fast and where it is slow
turns_fast : (sent d q n : ℕ)
    → (sent + d) * (q * 1_000) * (1_000_000 + n) ≡ sent * (q * 1_000) * (1_000_000 + n) + d * q * 1_000_000_000 + q * 1_000 * n * d
turns_fast sent d q n = omega arith

turns_slow : (sent d q n r : ℕ) → r + n ≡ 1_000_000
    → (sent + d) * (q * 1_000) * r + q * 1_000 * n * d ≡ sent * (q * 1_000) * r + d * q * 1_000_000_000
turns_slow sent d q n r e =
    let one : (sent + d) * (q * 1_000) * r + q * 1_000 * n * d ≡ sent * (q * 1_000) * r + d * q * 1_000 * (r + n) = omega arith in
    let two : d * q * 1_000 * (r + n) ≡ d * q * 1_000 * 1_000_000 = ap (λ (x : ℕ). d * q * 1_000 * x) e in
    let three : d * q * 1_000 * 1_000_000 ≡ d * q * 1_000_000_000 = omega arith in
    omega arith

-- a line and a board in turn k, which is d turns behind that of the sample
near_fast : (start q n sent got clock d : ℕ) → (own_tick start (q * 1_000) (pos n) sent ≤ clock) → clock ≤ own_tick start (q * 1_000) (pos n) got
    → AreWithin (own_tick start (q * 1_000) (pos n) got - own_tick start (q * 1_000) (pos n) sent + q * 1_000 * n * d / 1_000_000_000 + 1)
    (clock + d * q) (own_tick start (q * 1_000) (pos n) (sent + d))
unfolding own_tick
near_fast start q n sent got clock d low high =
    let f = fast (sent * (q * 1_000) * (1_000_000 + n)) ((sent + d) * (q * 1_000) * (1_000_000 + n)) (q * 1_000 * n * d) (d * q) (turns_fast sent d q n) in
    let one = f.0 in
    let two = f.1 in
    (omega arith, omega arith)

near_slow : (start q n sent got clock d : ℕ) → n + 1 ≤ 1_000_000 → own_tick start (q * 1_000) (negsuc n) sent ≤ clock → clock ≤ own_tick start (q * 1_000) (negsuc n) got
    → AreWithin (own_tick start (q * 1_000) (negsuc n) got - own_tick start (q * 1_000) (negsuc n) sent + q * 1_000 * (n + 1) * d / 1_000_000_000 + 1)
    (clock + d * q) (own_tick start (q * 1_000) (negsuc n) (sent + d))
unfolding own_tick
near_slow start q n sent got clock d small low high =
    let r : 1_000_000 - (n + 1) + (n + 1) ≡ 1_000_000 = omega arith in
    let f = slow (sent * (q * 1_000) * (1_000_000 - (n + 1))) ((sent + d) * (q * 1_000) * (1_000_000 - (n + 1))) (q * 1_000 * (n + 1) * d) (d * q) (turns_slow sent d q (n + 1) (1_000_000 - (n + 1)) r) in
    let one = f.0 in
    let two = f.1 in
    (omega arith, omega arith)

near_both : (start q sent got clock d : ℕ) (drift : ℤ) → ppm_size drift ≤ 1_000_000 → own_tick start (q * 1_000) drift sent ≤ clock → clock ≤ own_tick start (q * 1_000) drift got
    → AreWithin (own_tick start (q * 1_000) drift got - own_tick start (q * 1_000) drift sent + q * 1_000 * ppm_size drift * d / 1_000_000_000 + 1)
    (clock + d * q) (own_tick start (q * 1_000) drift (sent + d))
near_both start q sent got clock d (pos n) small low high = near_fast start q n sent got clock d low high
near_both start q sent got clock d (negsuc n) small low high = near_slow start q n sent got clock d small low high

pub stay_near : (start freq : ℕ) (drift : ℤ) (sent got clock k : ℕ) → freq % 1_000 ≡ 0 → ppm_size drift ≤ 1_000_000 → sent ≤ k
    → own_tick start freq drift sent ≤ clock → clock ≤ own_tick start freq drift got
    → AreWithin (line_reach start freq drift sent got k) (tick (sampled (record { sent = sent; got = got; clock = clock }) freq) (k * turn_ns)) (own_tick start freq drift k)
stay_near start freq drift sent got clock k whole small after low high =
    let q = freq / 1_000 in
    let d = div-add-mod freq 1_000 in
    let e : q * 1_000 ≡ freq = omega arith in
    let behind : sent + (k - sent) ≡ k = omega arith in
    let t : tick (sampled (record { sent = sent; got = got; clock = clock }) freq) (k * turn_ns) ≡ clock + (k - sent) * q =
    tick-turn (sampled (record { sent = sent; got = got; clock = clock }) freq) sent q k refl (sym e) in
    let n = near_both start q sent got clock (k - sent) drift small (subst (λ (f : ℕ). own_tick start f drift sent ≤ clock) (sym e) low) (subst (λ (f : ℕ). clock ≤ own_tick start f drift got) (sym e) high) in
    let m = subst (λ (f : ℕ). AreWithin (own_tick start f drift got - own_tick start f drift sent + f * ppm_size drift * (k - sent) / 1_000_000_000 + 1) (clock + (k - sent) * q) (own_tick start f drift (sent + (k - sent)))) e n in
    let o = subst (λ (j : ℕ). AreWithin (line_reach start freq drift sent got k) (clock + (k - sent) * q) (own_tick start freq drift j)) behind m in
    subst (λ (x : ℕ). AreWithin (line_reach start freq drift sent got k) x (own_tick start freq drift k)) (sym t) o
