-- Timeouts come in time, and reports count in their turns.
use Rattle.std.proofs.Common.{◌≡◌, ℕ, ℤ, suc, ◌+◌, ◌-◌, ◌*◌, ◌/◌, ◌%◌, ◌^◌, ◌<◌, ◌≤◌, Bool, true, List, [], ◌∷◌, Some, None, refl, ap, ◌∙◌, subst, arith, inl, inr, max, pos, negsuc, rules}
use Rattle.std.specs.Prelude.{◌&&◌, nat_le, nat_lt, if◌then◌else◌}
use Rattle.std.proofs.Math.Nat.{mul-le-mul_right}
use Rattle.laws_board.proofs.Names.{leb_tells, nat_tests, BoardClock, Held, Line, nearest, board_tick, tick, turn_ns, Clocks, lines_tick, turn_in_run, turn_tick, AreKept}
use Rattle.plan_types.specs.Board.{ahead}
use Rattle.plan_types.specs.Clock.{own_tick, rate, run_turns}
use Rattle.plan_types.specs.Lines.{AreHeld, lines_turn, tick_over}
use Rattle.plan_types.specs.Machines.{IsValidFreq}
use Rattle.board_step.proofs.Whole.{nearest_is}
use Rattle.clock_line.specs.Early.{is_in_run}
use Rattle.clock_line.specs.Samples.{ppm_size}
use Rattle.clock_line.proofs.Holding.{passed, tick-zero}
use Rattle.clock_line.proofs.Turns.{tick_over-mono, turn-below, here-is}
use Rattle.laws_board.specs.sections.Events.{AreTicks}
use Rattle.laws_board.specs.sections.Parts.{AreTracked}
use Rattle.laws_board.proofs.sections.Clocks.{ticks_most, ticks_rise, turn_least}
use Rattle.laws_homing.specs.clear_boards.Clocking.{IsAhead, IsCounted}
use Rattle.plan_types.proofs.Facts.{is_le, is_less}
use Rattle.laws_board.proofs.clocks.Near.{turn_long}

pub lines_up : (clocks : Clocks) (j k : ℕ) → j ≤ k → lines_tick clocks (j * turn_ns) ≤ lines_tick clocks (k * turn_ns)
lines_up clocks j k l = tick_over-mono clocks.first 0 clocks.held (j * turn_ns) (k * turn_ns) (mul-le-mul_right turn_ns l)

-- a board comes to a tick of its lines one turn later at the latest
pub line_ahead : (own : ℕ → ℕ) (clocks : Clocks) (ready turn timeout : ℕ) → (k : AreTracked own clocks ready) → ready ≤ turn → turn ≤ k.until → turn + 1 ≤ timeout → own turn ≤ lines_tick clocks (timeout * turn_ns)
line_ahead own clocks ready turn timeout k low soon far = search (rules, lines_up)

pub tick_whole : (clocks : Clocks) (turn : ℕ) → lines_tick clocks (turn * turn_ns) < 2 ^ 64 → turn_tick clocks turn ≡ lines_tick clocks (turn * turn_ns)
tick_whole clocks turn small = omega (arith, small)

pub near_there : (now t : ℕ) → now < t + 2 ^ 31 → t ≤ now + 2 ^ 31 → nearest now (t % 2 ^ 32) ≡ t
near_there now t low high = nearest_is now (t % 2 ^ 32) t (low, high) (omega arith)

pub timeout_ahead : (own : ℕ → ℕ) (clocks : Clocks) (ready turn timeout : ℕ) → AreTicks own → (k : AreTracked own clocks ready) → ready ≤ turn → timeout ≤ k.until → turn + 2 ≤ timeout → timeout ≤ turn + 1_000
    → own turn < own (turn + 1) → own turn < 2 ^ 63 → IsAhead own clocks turn timeout
timeout_ahead own clocks ready turn timeout ticks k low soon far near rises small =
    let t = lines_tick clocks (timeout * turn_ns) in
    let behind = line_ahead own clocks ready (turn + 1) timeout k (omega (arith, low)) (omega (arith, soon, far)) (omega (arith, far)) in
    let ahead = k.ahead timeout (omega (arith, low, far)) soon in
    let up = ticks_rise own ticks (timeout + 4) (turn + 1_004) (omega (arith, near)) in
    let most = ticks_most own ticks 1_004 turn in
    let later : own turn < t = omega (arith, behind, rises) in
    let whole = tick_whole clocks timeout (omega (arith, ahead, up, most, small)) in
    record {
      is = ap (λ (n : ℕ). nearest (own turn) (n % 2 ^ 32)) whole ∙ near_there (own turn) t (omega (arith, later)) (omega (arith, ahead, up, most));
      later = later;
    }

-- a tick of a turn of the run
run_if : (b : Bool) (n : ℕ) → b ≡ true → (if b then Some n else None) ≡ Some n
run_if b n e = rw e refl

all_three : (a b c : Bool) → a ≡ true → b ≡ true → c ≡ true → (a && (b && c)) ≡ true
all_three a b c e f g = rw e (rw f g)

first_low : (clocks : Clocks) (time : ℕ) → AreKept clocks → clocks.first.clock ≤ lines_tick clocks time
first_low clocks time kept = by clocks.held kept.held
  where
    by : (held : List Held) → AreHeld clocks.first clocks.first 0 0 held → clocks.first.clock ≤ tick_over clocks.first 0 held time
    by [] are = let z = tick-zero clocks.first in let up = tick_over-mono clocks.first 0 [] 0 time (omega arith) in omega (arith, z, up)
    by (h ∷ held) are =
        let z = tick-zero clocks.first in
        let b = are.0 in
        let e = here-is clocks.first 0 h held 0 b in
        let up = tick_over-mono clocks.first 0 (h ∷ held) 0 time (omega arith) in
        omega (arith, z, e, up)

-- a tick from a time on that the run comes to is in one of its turns
in_run_at : (clocks : Clocks) (time tick : ℕ) → AreKept clocks → lines_tick clocks time ≤ tick → tick < 2 ^ 64 → tick < lines_tick clocks (run_turns * turn_ns) → turn_in_run clocks tick ≡ Some (lines_turn clocks tick)
in_run_at clocks time tick kept late small soon =
    let first = first_low clocks time kept in
    run_if (is_in_run clocks tick) (lines_turn clocks tick)
    (all_three (nat_lt tick (2 ^ 64)) (nat_le clocks.first.clock tick) (nat_lt tick (lines_tick clocks (run_turns * turn_ns))) (is_less tick (2 ^ 64) small) (is_le clocks.first.clock tick (omega (arith, first, late))) (is_less tick (lines_tick clocks (run_turns * turn_ns)) soon))

-- the tick of a turn by the lines, beside the board's own one
tick_near : (own : ℕ → ℕ) (clocks : Clocks) (ready turn : ℕ) → AreTicks own → (k : AreTracked own clocks ready) → ready + 1 ≤ turn → turn ≤ k.until → own turn < 2 ^ 63
    → (turn_tick clocks turn ≡ lines_tick clocks (turn * turn_ns)) × (own turn ≤ turn_tick clocks turn + 1_000_000) × (turn_tick clocks turn ≤ own turn + 4_000_000)
tick_near own clocks ready turn ticks k low soon small =
    let up = k.ahead turn (omega (arith, low)) soon in
    let most = ticks_most own ticks 4 turn in
    let f : turn - 1 + 1 ≡ turn = omega (arith, low) in
    let back : own (turn - 1) ≤ lines_tick clocks (turn * turn_ns) = subst (λ (n : ℕ). own (turn - 1) ≤ lines_tick clocks (n * turn_ns)) f (k.behind (turn - 1) (omega (arith, low)) (omega (arith, soon))) in
    let one : own turn ≤ own (turn - 1) + 1_000_000 = subst (λ (n : ℕ). own n ≤ own (turn - 1) + 1_000_000) f (ticks.most (turn - 1)) in
    let whole = tick_whole clocks turn (omega (arith, up, most, small)) in
    (whole, omega (arith, whole, back, one), omega (arith, whole, up, most))

pub report_counts : (own : ℕ → ℕ) (clocks : Clocks) (ready turn from tick : ℕ) → AreTicks own → (k : AreTracked own clocks ready) → ready + 4 ≤ from → from ≤ turn → turn ≤ from + 1_000 → turn + 1 ≤ k.until → k.until < run_turns → own turn < 2 ^ 63
    → own from ≤ tick → tick < own (turn + 1) → IsCounted clocks turn from tick
report_counts own clocks ready turn from tick ticks k low behind_so near soon few small late before =
    let start = from - 4 in
    let e : start + 4 ≡ from = omega (arith, low) in
    let ahead : lines_tick clocks (start * turn_ns) < own from = subst (λ (n : ℕ). lines_tick clocks (start * turn_ns) < own n) e (k.ahead start (omega (arith, low)) (omega (arith, soon, behind_so))) in
    let least = turn_least own clocks ready start tick k (omega (arith, ahead, late)) in
    let most = ticks_most own ticks 1_000 from in
    let rise = ticks_rise own ticks turn (from + 1_000) near in
    let next = ticks_most own ticks 1 turn in
    let now = tick_near own clocks ready turn ticks k (omega (arith, low, behind_so)) (omega (arith, soon)) small in
    let now_low = now.1 in
    let now_high = now.2 in
    let is : nearest (turn_tick clocks turn) (tick % 2 ^ 32) ≡ tick = near_there (turn_tick clocks turn) tick (omega (arith, now_high, most, rise, late)) (omega (arith, now_low, before, next)) in
    let far = lines_up clocks (turn + 1 + 1) run_turns (omega (arith, soon, few)) in
    let behind_next = k.behind (turn + 1) (omega (arith, low, behind_so)) soon in
    record {
      is = is;
      when = lines_turn clocks tick;
      in_run = ap (turn_in_run clocks) is ∙ in_run_at clocks (start * turn_ns) tick k.kept (omega (arith, ahead, late)) (omega (arith, before, next, small)) (omega (arith, before, behind_next, far));
      late = omega (arith, least);
      ends = λ end l. turn-below clocks tick end l;
      begun = λ begin l. turn_least own clocks ready begin tick k l;
    }

-- the tick nearest to another one is less than half a round before it, and less than a round behind it
near_within : (now clock : ℕ) → (now < nearest now clock + 2 ^ 31) × (nearest now clock < now + 2 ^ 32)
near_within now clock = search (rules, leb_tells)

-- a tick that the board has come to, from a turn's beginning on, is read as one of a turn of the run from that turn on, where a round of the clock is still ahead
pub read_counts : (own : ℕ → ℕ) (clocks : Clocks) (ready turn start tick : ℕ) → AreTicks own → (k : AreTracked own clocks ready) → ready + 1 ≤ turn → turn ≤ k.until → own turn < 2 ^ 63 → lines_tick clocks (turn * turn_ns) + 2 ^ 32 ≤ lines_tick clocks (run_turns * turn_ns)
    → tick ≤ own turn → lines_tick clocks (start * turn_ns) ≤ tick
    → (start ≤ lines_turn clocks (nearest (turn_tick clocks turn) (tick % 2 ^ 32))) × (turn_in_run clocks (nearest (turn_tick clocks turn) (tick % 2 ^ 32)) ≡ Some (lines_turn clocks (nearest (turn_tick clocks turn) (tick % 2 ^ 32))))
read_counts own clocks ready turn start tick ticks k low soon small far early base =
    let now = turn_tick clocks turn in
    let at = nearest now (tick % 2 ^ 32) in
    let near = tick_near own clocks ready turn ticks k low soon small in
    let whole = near.0 in
    let now_low = near.1 in
    let now_high = near.2 in
    let within = near_within now (tick % 2 ^ 32) in
    let at_low = within.0 in
    let at_high = within.1 in
    let least : lines_tick clocks (start * turn_ns) ≤ at = elim (leb_tells (suc now) (tick + 2 ^ 31)) [
      | inl p ↦ (let lately = p.1 in let is = near_there now tick (omega (arith, lately)) (omega (arith, early, now_low)) in omega (arith, is, base))
      | inr p ↦ (let old = p.1 in omega (arith, old, at_low, base))
    ] in
    (turn_least own clocks ready start at k least, in_run_at clocks (start * turn_ns) at k.kept least (omega (arith, at_high, now_high, small)) (omega (arith, at_high, whole, far)))

-- a board's clock goes on, and by so many ticks at least
pub rate_low : (drift : ℤ) → ppm_size drift ≤ 200 → 999_800 ≤ rate drift
rate_low (pos n) l = omega arith
rate_low (negsuc n) l = omega arith

gains : (start freq k n : ℕ) (drift : ℤ) → own_tick start freq drift k + n * freq * rate drift / 1_000_000_000 ≤ own_tick start freq drift (k + n)
unfolding own_tick
gains start freq k n drift =
    let r = rate drift in
    let all : (k + n) * freq * r ≡ k * freq * r + n * freq * r = grind arith in
    omega (arith, all)

pub board_reports : (clock : BoardClock) (turn : ℕ) → IsValidFreq clock.freq → ppm_size clock.drift ≤ 200 → board_tick clock turn + clock.freq * 5 / 1_000 < board_tick clock (turn + 6)
board_reports clock turn v d = search (rules, gains, mul-le-mul_right, rate_low)
