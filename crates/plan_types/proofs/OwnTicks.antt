-- The own ticks of boards.
use Rattle.std.proofs.Common.{◌≡◌, ℕ, ℤ, pos, ◌+◌, ◌-◌, ◌*◌, ◌/◌, ◌≤◌, ap, arith, sym, ◌∙◌}
use Rattle.std.proofs.Math.Nat.{mul-le-mul_right}
use Rattle.plan_types.specs.Clock.{own_tick, rate, tick, turn_ns}

pub exact : (start freq turn : ℕ) → own_tick start freq (pos 0) turn ≡ tick (record { at = 0; clock = start; freq = freq }) (turn * turn_ns)
unfolding own_tick
exact start freq turn =
    let zero : turn * 1_000_000 - 0 ≡ turn * 1_000_000 = omega arith in
    let same : turn * freq * 1_000_000 ≡ turn * 1_000_000 * freq = grind arith in
    ap (λ x. start + x / 1_000_000_000) (same ∙ ap (λ x. x * freq) (sym zero))

pub rise : (start freq turn later : ℕ) (drift : ℤ) → turn ≤ later → own_tick start freq drift turn ≤ own_tick start freq drift later
unfolding own_tick
rise start freq turn later drift h =
    let ticks : turn * freq ≤ later * freq = mul-le-mul_right freq h in
    let all : turn * freq * rate drift ≤ later * freq * rate drift = mul-le-mul_right (rate drift) ticks in
    omega arith
