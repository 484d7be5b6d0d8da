-- The line of a sample of an exact clock follows the board.
use Rattle.std.proofs.Common.{◌≡◌, ℕ, pos, ◌+◌, ◌-◌, ◌*◌, ◌/◌, ◌^◌, ◌<◌, ◌≤◌, refl, ap, ◌∙◌, arith}
use Rattle.laws_board.proofs.Names.{Line, one_line, AreKept}
use Rattle.plan_types.specs.Clock.{own_tick}
use Rattle.plan_types.specs.Machines.{IsValidFreq}
use Rattle.plan_types.proofs.OwnTicks.{exact, rise}
use Rattle.clock_line.specs.Samples.{sample_at, sampled}
use Rattle.clock_line.proofs.Nears.{near}
use Rattle.clock_line.proofs.Turns.{tick-turn}
use Rattle.laws_board.specs.sections.Parts.{AreTracked}

-- a board's own ticks, a whole number of them a turn
own_at : (start q freq k : ℕ) → freq ≡ q * 1_000 → own_tick start freq (pos 0) k ≡ start + k * q
own_at start q freq k e =
    let none : k - 0 ≡ k = omega arith in
    exact start freq k ∙ tick-turn (record { at = 0; clock = start; freq = freq }) 0 q k refl e ∙ ap (λ n. start + n * q) none

one_more : (start q freq k : ℕ) → freq ≡ q * 1_000 → 0 < q → own_tick start freq (pos 0) (k + 3) < own_tick start freq (pos 0) (k + 4)
one_more start q freq k e some =
    let more : (k + 4) * q ≡ (k + 3) * q + q = omega arith in
    omega (arith, own_at start q freq (k + 3) e, own_at start q freq (k + 4) e, more, some)

pub tracked : (start freq sent got turn ready until : ℕ) → IsValidFreq freq → sent < 2 ^ 63 → sent ≤ turn → turn ≤ got → got ≤ sent + 3 → sent ≤ ready
    → (t : AreTracked (own_tick start freq (pos 0)) (one_line (sampled (sample_at start freq sent got turn) freq)) ready) × (t.until ≡ until)
tracked start freq sent got turn ready until v small from to soon after =
    let line : Line = sampled (sample_at start freq sent got turn) freq in
    let q = freq / 1_000 in
    let whole : freq ≡ q * 1_000 = omega (arith, v.whole) in
    let some : 0 < q = omega (arith, v.low, whole) in
    let kept : AreKept (one_line line) =
    record { valid = record { freq_low = v.low; freq_high = v.high; freq_whole = v.whole; whole_turn = omega arith; few_turns = omega (arith, small) }; held = tt } in (
      record {
        until = until;
        kept = kept;
        behind = λ k low high.
            let n = near start freq sent got turn (k + 1) v.whole from to (omega (arith, low, after)) in
            omega (arith, exact start freq (k + 1), n.0, rise start freq k (k + 1) (pos 0) (omega arith));
        ahead = λ k low high.
            let n = near start freq sent got turn k v.whole from to (omega (arith, low, after)) in
            omega (arith, exact start freq (k + (got - sent)), n.1, rise start freq (k + (got - sent)) (k + 3) (pos 0) (omega (arith, soon)), one_more start q freq k whole some);
      },
      refl,
    )
