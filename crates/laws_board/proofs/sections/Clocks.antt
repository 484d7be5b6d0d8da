-- Ticks by the clock lines and by the board.
use Rattle.std.proofs.Common.{◌≡◌, ℕ, zero, suc, ◌+◌, ◌*◌, ◌^◌, ◌<◌, ◌≤◌, arith, inl, inr}
use Rattle.laws_board.proofs.Names.{leb_tells, turn_ns, Clocks, lines_tick}
use Rattle.plan_types.specs.Lines.{lines_turn}
use Rattle.clock_line.proofs.Turns.{turn-after}
use Rattle.laws_board.specs.sections.Events.{AreTicks}
use Rattle.laws_board.specs.sections.Parts.{AreTracked}
use Rattle.laws_board.proofs.sections.Lists.{own_up}

pub ticks_up : (own : ℕ → ℕ) → AreTicks own → (k : ℕ) → own k ≤ own (k + 1)
ticks_up own t k = t.up k

pub ticks_rise : (own : ℕ → ℕ) → AreTicks own → (j k : ℕ) → j ≤ k → own j ≤ own k
ticks_rise own t j k h = own_up own (ticks_up own t) j k h

pub ticks_most : (own : ℕ → ℕ) → AreTicks own → (n k : ℕ) → own (k + n) ≤ own k + n * 1_000_000
ticks_most own t zero k = let e : k + 0 ≡ k = omega arith in rw e (omega arith)
ticks_most own t (suc n) k =
    let e : k + suc n ≡ k + n + 1 = omega arith in
    rw e (omega (arith, ticks_most own t n k, t.most (k + n)))

-- a tick from a turn's beginning on isn't in an earlier turn
pub turn_least : (own : ℕ → ℕ) (clocks : Clocks) (ready start t : ℕ) → (tracked : AreTracked own clocks ready) → lines_tick clocks (start * turn_ns) ≤ t → start ≤ lines_turn clocks t
turn_least own clocks ready zero t k h = omega arith
turn_least own clocks ready (suc start) t k h =
    elim (leb_tells (suc start) (lines_turn clocks t)) [
      | inl p ↦ p.1
      | inr p ↦
          let e : start + 1 ≡ suc start = omega arith in
          let before = rw e at (turn-after clocks t start k.kept (omega (arith, p.1))) in
          absurd (omega (arith, before, h))
    ]

-- where its turn is over by five turns, a tick is before the board's
pub over_made : (own : ℕ → ℕ) (clocks : Clocks) (ready start n t : ℕ) → AreTicks own → (tracked : AreTracked own clocks ready) → ready ≤ start → lines_tick clocks (start * turn_ns) ≤ t
    → lines_turn clocks t < tracked.until → lines_turn clocks t + 5 ≤ n → t < own n
over_made own clocks ready start n t ticks k h low soon over =
    let turn = lines_turn clocks t in
    let from = turn_least own clocks ready start t k low in
    let before = turn-after clocks t turn k.kept (omega arith) in
    let e : turn + 1 + 4 ≡ turn + 5 = omega arith in
    let ahead = rw e at (k.ahead (turn + 1) (omega (arith, from, h)) (omega (arith, soon))) in
    omega (arith, before, ahead, ticks_rise own ticks (turn + 5) n over)

-- a tick before the line's tick of a turn is before the board's four turns later
pub bound_made : (own : ℕ → ℕ) (clocks : Clocks) (ready end n t : ℕ) → AreTicks own → (tracked : AreTracked own clocks ready) → ready ≤ end → end < tracked.until → t < lines_tick clocks ((end + 1) * turn_ns) → end + 5 ≤ n → t < own n
bound_made own clocks ready end n t ticks k h soon low over =
    let e : end + 1 + 4 ≡ end + 5 = omega arith in
    let ahead = rw e at (k.ahead (end + 1) (omega (arith, h)) (omega (arith, soon))) in
    omega (arith, low, ahead, ticks_rise own ticks (end + 5) n over)

-- a tick that is due within 250 turns is near
pub near_tick : (own : ℕ → ℕ) (clocks : Clocks) (ready start turn t : ℕ) → AreTicks own → (tracked : AreTracked own clocks ready) → ready ≤ start → lines_tick clocks (start * turn_ns) ≤ t
    → lines_turn clocks t < tracked.until → lines_turn clocks t ≤ turn + 250 → t ≤ own turn + 2 ^ 31
near_tick own clocks ready start turn t ticks k h low soon due =
    let before = over_made own clocks ready start (turn + 255) t ticks k h low soon (omega (arith, due)) in
    omega (arith, before, ticks_most own ticks 255 turn)
