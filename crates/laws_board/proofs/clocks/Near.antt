-- How near a sample's clock line is to its board.
use Rattle.std.proofs.Common.{◌≡◌, ℕ, ℤ, pos, negsuc, ◌+◌, ◌-◌, ◌*◌, ◌/◌, ◌%◌, ◌<◌, ◌≤◌, List, refl, ap, sym, ◌∙◌, subst, arith, rules}
use Rattle.std.proofs.Math.Nat.{mul-le-mul_left, mul-le-mul_right}
use Rattle.plan_types.proofs.OwnTicks.{exact, rise}
use Rattle.laws_board.proofs.Names.{BoardClock, board_tick, tick, turn_ns}
use Rattle.plan_types.specs.Clock.{own_tick, rate}
use Rattle.clock_line.specs.declared.sample.Sample.{Sample}
use Rattle.clock_line.specs.Samples.{AreWithin, line_reach, own, ppm_size, sample_at, sampled}
use Rattle.clock_line.proofs.Nears.{near, stay_near}
use Rattle.clock_line.proofs.Holding.{tick-mono}
use Rattle.clock_line.proofs.Turns.{tick-turn}
use Rattle.plan_types.specs.Machines.{IsValidFreq}
use Rattle.laws_board.specs.turns.Turns.{BoardTurn}
use Rattle.laws_board.specs.clocks.Near.{KeepsUp}
use Rattle.laws_board.specs.clocks.Samples.{IsSample}

exact_sample : (clock : BoardClock) (s : Sample) (turn : ℕ) → clock.drift ≡ pos 0 → s.clock ≡ board_tick clock turn → s ≡ sample_at clock.start clock.freq s.sent s.got turn
exact_sample clock s turn d e =
    let same : s.clock ≡ own clock.start clock.freq turn = e ∙ ap (λ (z : ℤ). own_tick clock.start clock.freq z turn) d ∙ exact clock.start clock.freq turn in
    ap (λ (c : ℕ). record { sent = s.sent; got = s.got; clock = c }) same

own_is : (clock : BoardClock) (turn : ℕ) → clock.drift ≡ pos 0 → own clock.start clock.freq turn ≡ board_tick clock turn
own_is clock turn d = sym (ap (λ (z : ℤ). own_tick clock.start clock.freq z turn) d ∙ exact clock.start clock.freq turn)

pub exact_near : (clock : BoardClock) (turns : List BoardTurn) (s : Sample) (k : ℕ) → clock.freq % 1_000 ≡ 0 → clock.drift ≡ pos 0 → IsSample clock turns s → s.sent ≤ k
    → (board_tick clock k ≤ tick (sampled s clock.freq) (k * turn_ns)) × (tick (sampled s clock.freq) (k * turn_ns) ≤ board_tick clock (k + (s.got - s.sent)))
exact_near clock turns s k f d i l =
    let n = near clock.start clock.freq s.sent s.got i.turn k f i.from i.to l in
    let same = exact_sample clock s i.turn d i.own in
    let At : Sample → Type 0 = λ x. (own clock.start clock.freq k ≤ tick (sampled x clock.freq) (k * turn_ns)) × (tick (sampled x clock.freq) (k * turn_ns) ≤ own clock.start clock.freq (k + (s.got - s.sent))) in
    let here : At s = subst At (sym same) n in
    let a = here.0 in
    let b = here.1 in
    (omega (arith, own_is clock k d), omega (arith, own_is clock (k + (s.got - s.sent)) d))

pub drifting_near : (clock : BoardClock) (turns : List BoardTurn) (s : Sample) (k : ℕ) → clock.freq % 1_000 ≡ 0 → ppm_size clock.drift ≤ 1_000_000 → IsSample clock turns s → s.sent ≤ k
    → AreWithin (line_reach clock.start clock.freq clock.drift s.sent s.got k) (tick (sampled s clock.freq) (k * turn_ns)) (board_tick clock k)
drifting_near clock turns s k f d i l =
    let low = rise clock.start clock.freq s.sent i.turn clock.drift i.from in
    let high = rise clock.start clock.freq i.turn s.got clock.drift i.to in
    let e = i.own in
    stay_near clock.start clock.freq clock.drift s.sent s.got s.clock k f d l (omega arith) (omega arith)

-- the own ticks of some turns behind a turn: about as many as without a drift
abbrev part : ℕ → ℕ → ℕ → ℕ
part n freq r = n * freq * r / 1_000_000_000

rate_low : (drift : ℤ) → ppm_size drift ≤ 200 → 1_000_000 ≤ rate drift + ppm_size drift
rate_low (pos n) l = omega arith
rate_low (negsuc n) l = omega arith

rate_high : (drift : ℤ) → ppm_size drift ≤ 200 → rate drift ≤ 1_000_000 + ppm_size drift
rate_high (pos n) l = omega arith
rate_high (negsuc n) l = omega arith

-- the own tick of n turns later
later_low : (start freq : ℕ) (drift : ℤ) (a n : ℕ) → own_tick start freq drift a + part n freq (rate drift) ≤ own_tick start freq drift (a + n)
unfolding own_tick
later_low start freq drift a n =
    let r = rate drift in
    let whole : (a + n) * freq * r ≡ a * freq * r + n * freq * r = grind arith in
    omega arith

later_high : (start freq : ℕ) (drift : ℤ) (a n : ℕ) → own_tick start freq drift (a + n) ≤ own_tick start freq drift a + part n freq (rate drift) + 1
unfolding own_tick
later_high start freq drift a n =
    let r = rate drift in
    let whole : (a + n) * freq * r ≡ a * freq * r + n * freq * r = grind arith in
    omega arith

-- n turns of q ticks without the drift
part_high : (n q r d : ℕ) → r ≤ 1_000_000 + d → 1_000 ≤ q → n * d ≤ 980_000 → part n (q * 1_000) r + 2 ≤ n * q + q
part_high n q r d h l few =
    let y = n * q in
    let same : n * (q * 1_000) * r ≡ y * r * 1_000 = grind arith in
    let top : y * r ≤ y * (1_000_000 + d) = mul-le-mul_left y h in
    let whole : y * (1_000_000 + d) ≡ y * 1_000_000 + n * d * q = grind arith in
    let most : n * d * q ≤ 980_000 * q = mul-le-mul_right q few in
    omega arith

part_low : (n q r d : ℕ) → 1_000_000 ≤ r + d → 1_000 ≤ q → n * d ≤ 980_200 → n * q + 2 ≤ part n (q * 1_000) r + q
part_low n q r d h l few =
    let y = n * q in
    let same : n * (q * 1_000) * r ≡ y * r * 1_000 = grind arith in
    let bottom : y * 1_000_000 ≤ y * (r + d) = mul-le-mul_left y h in
    let whole : y * (r + d) ≡ y * r + n * d * q = grind arith in
    let most : n * d * q ≤ 980_200 * q = mul-le-mul_right q few in
    omega arith

-- the line's tick n turns behind the sample
line_tick : (s : Sample) (q n : ℕ) → tick (sampled s (q * 1_000)) ((s.sent + n) * turn_ns) ≡ s.clock + n * q
line_tick s q n =
    let t = tick-turn (sampled s (q * 1_000)) s.sent q (s.sent + n) refl refl in
    let left : s.sent + n - s.sent ≡ n = omega arith in
    t ∙ ap (λ (x : ℕ). s.clock + x * q) left

behind_at : (start q : ℕ) (drift : ℤ) (s : Sample) (n : ℕ) → ppm_size drift ≤ 200 → 1_000 ≤ q → n * ppm_size drift ≤ 980_000 → own_tick start (q * 1_000) drift s.sent ≤ s.clock
    → own_tick start (q * 1_000) drift (s.sent + n) ≤ tick (sampled s (q * 1_000)) ((s.sent + (n + 1)) * turn_ns)
behind_at start q drift s n d l few low = search (rules, later_high, part_high, rate_high, line_tick)

ahead_at : (start q : ℕ) (drift : ℤ) (s : Sample) (n : ℕ) → ppm_size drift ≤ 200 → 1_000 ≤ q → n * ppm_size drift ≤ 980_000 → s.clock ≤ own_tick start (q * 1_000) drift (s.sent + 3)
    → tick (sampled s (q * 1_000)) ((s.sent + n) * turn_ns) < own_tick start (q * 1_000) drift (s.sent + n + 4)
ahead_at start q drift s n d l few high =
    let down = later_low start (q * 1_000) drift (s.sent + 3) (n + 1) in
    let one : (n + 1) * ppm_size drift ≡ n * ppm_size drift + ppm_size drift = grind arith in
    let p = part_low (n + 1) q (rate drift) (ppm_size drift) (rate_low drift d) l (omega arith) in
    let e = line_tick s q n in
    let more : (n + 1) * q ≡ n * q + q = grind arith in
    let place : s.sent + 3 + (n + 1) ≡ s.sent + n + 4 = omega arith in
    let same = ap (λ (x : ℕ). own_tick start (q * 1_000) drift x) place in
    omega arith

up_at : (clock : BoardClock) (s : Sample) (q n k : ℕ) → clock.freq ≡ q * 1_000 → k ≡ s.sent + n → ppm_size clock.drift ≤ 200 → 1_000 ≤ q → n * ppm_size clock.drift ≤ 980_000
    → board_tick clock s.sent ≤ s.clock → s.clock ≤ board_tick clock (s.sent + 3) → KeepsUp clock (sampled s clock.freq) k
up_at clock s q n k f e d l few low high = search (rules, tick, turn_ns, behind_at, ahead_at)

pub keeps_up : (clock : BoardClock) (turns : List BoardTurn) (s : Sample) (k : ℕ) → IsValidFreq clock.freq → ppm_size clock.drift ≤ 200 → IsSample clock turns s → s.sent ≤ k → (k - s.sent) * ppm_size clock.drift ≤ 980_000 → KeepsUp clock (sampled s clock.freq) k
keeps_up clock turns s k v d i l m =
    let w = v.whole in
    let z = v.low in
    let soon = i.soon in
    let e = i.own in
    let low = rise clock.start clock.freq s.sent i.turn clock.drift i.from in
    let to = i.to in
    let high = rise clock.start clock.freq i.turn (s.sent + 3) clock.drift (omega arith) in
    up_at clock s (clock.freq / 1_000) (k - s.sent) k (omega arith) (omega arith) d (omega arith) m (omega arith) (omega arith)

-- without a drift a line keeps up for good
pub turn_long : (clock : BoardClock) (k : ℕ) → IsValidFreq clock.freq → ppm_size clock.drift ≤ 200 → board_tick clock k < board_tick clock (k + 1)
turn_long clock k v d = search (rules, later_low, part_low, rate_low)

pub keeps_up_always : (clock : BoardClock) (turns : List BoardTurn) (s : Sample) (k : ℕ) → IsValidFreq clock.freq → clock.drift ≡ pos 0 → IsSample clock turns s → s.sent ≤ k → KeepsUp clock (sampled s clock.freq) k
keeps_up_always clock turns s k v d i l =
    let small : ppm_size clock.drift ≤ 200 = subst (λ (z : ℤ). ppm_size z ≤ 200) (sym d) (omega arith) in
    let n = exact_near clock turns s k v.whole d i l in
    let a = n.0 in
    let b = n.1 in
    let soon = i.soon in
    let mono = tick-mono (sampled s clock.freq) (k * turn_ns) ((k + 1) * turn_ns) (omega arith) in
    let more = rise clock.start clock.freq (k + (s.got - s.sent)) (k + 3) clock.drift (omega arith) in
    let next : k + 3 + 1 ≡ k + 4 = omega arith in
    let long = turn_long clock (k + 3) v small in
    let same = ap (board_tick clock) next in
    record { behind = omega arith; ahead = omega arith }
