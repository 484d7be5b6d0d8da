-- A board whose clock lines are near it may take up a new one.
use Rattle.std.proofs.Common.{◌≡◌, ℕ, ℤ, pos, negsuc, ◌+◌, ◌-◌, ◌*◌, ◌/◌, ◌%◌, ◌^◌, ◌<◌, ◌≤◌, List, [], ◌∷◌, max, refl, ap, sym, ◌∙◌, subst, arith, inl, inr}
use Rattle.std.proofs.Math.Nat.{mul-le-mul, mul-le-mul_left}
use Rattle.laws_board.proofs.Names.{leb_tells, BoardClock, Held, Line, board_tick, tick, turn_ns, Clocks, lines_tick, AreKept}
use Rattle.plan_types.specs.Clock.{own_tick, rate}
use Rattle.plan_types.specs.Lines.{AreHeld, last_from, tick_over}
use Rattle.plan_types.specs.Machines.{IsValidFreq}
use Rattle.plan_types.specs.Plan.{max_error}
use Rattle.clock_line.specs.Samples.{ppm_size}
use Rattle.clock_line.proofs.Holding.{tick-mono}
use Rattle.clock_line.proofs.Turns.{last_from-above, tick-turn}
use Rattle.section_feed.specs.Boards.{MayTake}
use Rattle.laws_board.specs.turns.Turns.{BoardTurn}
use Rattle.laws_board.specs.clocks.Samples.{IsSampled}
use Rattle.laws_board.proofs.clocks.Near.{keeps_up}
use Rattle.laws_board.specs.sections.Parts.{AreTracked}
use Rattle.laws_board.specs.orders.Renewed.{AreSampled, ComeInTime, NoneBefore}
use Rattle.laws_board.proofs.orders.Followed.{lines_in_time}
use Rattle.laws_homing.proofs.clear_boards.Clocking.{rate_low}

-- the last line of a board, and the tick below which its own never falls
abbrev pub last_line : Line → List Held → Line
last_line line [] = line
last_line line (h ∷ held) = last_line h.line held

abbrev floor : Line → ℕ → List Held → ℕ
floor line most [] = most
floor line most (h ∷ held) = floor h.line (max most (tick line h.from)) held

-- from its time on the ticks are those of the last line
last_tick : (first line : Line) (from keep most time : ℕ) (held : List Held) → AreHeld first line from keep held → last_from from held ≤ time → tick_over line most held time ≡ max (floor line most held) (tick (last_line line held) time)
last_tick first line from keep most time [] are late = refl
last_tick first line from keep most time (h ∷ held) are late =
    let above = last_from-above first h.line h.from h.most held are.4 in
    elim (leb_tells h.from time) [
      | inl p ↦ rw p.0 (last_tick first h.line h.from h.most (max most (tick line h.from)) time held are.4 late)
      | inr p ↦ absurd (let soon = p.1 in omega (arith, above, late, soon))
    ]

-- the last line is one of the board, from before its time
record IsLast (first line : Line) (time : ℕ) : Type 0 where
  freq : line.freq ≡ first.freq
  whole : line.at % 1_000_000 ≡ 0
  begun : line.at ≤ time

last_is : (first line : Line) (from keep time : ℕ) (held : List Held) → AreHeld first line from keep held → IsLast first line time → last_from from held ≤ time → IsLast first (last_line line held) time
last_is first line from keep time [] are is late = is
last_is first line from keep time (h ∷ held) are is late =
    let above = last_from-above first h.line h.from h.most held are.4 in
    let fit = are.5 in
    let before = fit.before in
    last_is first h.line h.from h.most time held are.4 (record { freq = fit.same_freq; whole = fit.whole_turn; begun = omega (arith, above, late, before) }) late

-- a turn of a line is longer than a step may be early
times_one : (n q : ℕ) → (n + 1) * q ≡ n * q + q
times_one n q = grind arith

line_apart : (line : Line) (k : ℕ) → line.at % 1_000_000 ≡ 0 → line.freq % 1_000 ≡ 0 → line.at ≤ k * turn_ns → tick line (k * turn_ns) + max_error line.freq ≤ tick line ((k + 1) * turn_ns)
line_apart line k whole freq begun =
    let a = line.at / 1_000_000 in
    let q = line.freq / 1_000 in
    let at : line.at ≡ a * 1_000_000 = omega (arith, whole) in
    let is : line.freq ≡ q * 1_000 = omega (arith, freq) in
    let one = tick-turn line a q k at is in
    let two = tick-turn line a q (k + 1) at is in
    let more : k + 1 - a ≡ (k - a) + 1 = omega (arith, begun, at) in
    let grows : (k + 1 - a) * q ≡ (k - a) * q + q = ap (λ n. n * q) more ∙ times_one (k - a) q in
    omega (arith, one, two, grows, is)

own_apart : (start freq : ℕ) (drift : ℤ) (k : ℕ) → ppm_size drift ≤ 200 → own_tick start freq drift k + max_error freq ≤ own_tick start freq drift (k + 1)
unfolding own_tick
own_apart start freq drift k few =
    let r = rate drift in
    let whole : (k + 1) * freq * r ≡ k * freq * r + freq * r = grind arith in
    let low = rate_low drift few in
    let part : freq * 25_000 ≤ freq * r = mul-le-mul_left freq (omega (arith, low)) in
    omega (arith, whole, part)

-- The clock lines of a board behind which one may come that holds from a turn on: each is that of a sample, they come in time up to that turn, and
-- the last one has held for seven turns by then.
pub record AreReady (clock : BoardClock) (turns : List BoardTurn) (clocks : Clocks) (ready turn : ℕ) : Type 0 where
  pub freq : IsValidFreq clock.freq
  pub drift : ppm_size clock.drift ≤ 200
  pub kept : AreKept clocks
  pub first : IsSampled clock turns clocks.first
  pub sampled : AreSampled clock turns clocks.held
  pub early : clocks.first.at ≤ ready * turn_ns
  pub none : NoneBefore ready clocks.held
  pub begun : ready + 7 ≤ turn
  pub before : last_from 0 clocks.held + 7 * turn_ns ≤ turn * turn_ns
  pub young : ComeInTime clock.drift clocks.first clocks.held (turn + 6)

-- A new line, which is that of a sample that is not old.
pub record IsReady (clock : BoardClock) (turns : List BoardTurn) (turn : ℕ) (line : Line) : Type 0 where
  pub is : IsSampled clock turns line
  pub before : line.at ≤ turn * turn_ns
  pub young : (turn + 6) * turn_ns ≤ line.at + 4_900 * turn_ns
  pub small : line.clock < 2 ^ 63

-- then the lines are near the board's clock
ready_tracked : (clock : BoardClock) (turns : List BoardTurn) (clocks : Clocks) (ready turn : ℕ) → AreReady clock turns clocks ready turn → (x : AreTracked (λ k. board_tick clock k) clocks ready) × (x.until ≡ turn + 6)
ready_tracked clock turns clocks ready turn g = lines_in_time clock turns clocks ready (turn + 6) g.freq g.kept g.first g.sampled g.early g.none (inr (g.drift, g.young))

-- and so their ticks go on in that turn
ticks_go : (clock : BoardClock) (turns : List BoardTurn) (clocks : Clocks) (ready j : ℕ) → AreReady clock turns clocks ready (j + 7) → lines_tick clocks ((j + 6) * turn_ns) + max_error clocks.first.freq ≤ lines_tick clocks ((j + 7) * turn_ns)
ticks_go clock turns clocks ready j g =
    let x = ready_tracked clock turns clocks ready (j + 7) g in
    let at = x.1 in
    let begun = g.begun in
    let before = g.before in
    let early = g.early in
    let held = g.kept.held in
    let line = last_line clocks.first clocks.held in
    let ahead : lines_tick clocks (j * turn_ns) < board_tick clock (j + 4) = x.0.ahead j (omega (arith, begun)) (omega (arith, at)) in
    let behind : board_tick clock (j + 4) ≤ lines_tick clocks ((j + 4 + 1) * turn_ns) = x.0.behind (j + 4) (omega (arith, begun)) (omega (arith, at)) in
    let one = last_tick clocks.first clocks.first 0 0 0 (j * turn_ns) clocks.held held (omega (arith, before)) in
    let two = last_tick clocks.first clocks.first 0 0 0 ((j + 4 + 1) * turn_ns) clocks.held held (omega (arith, before)) in
    let three = last_tick clocks.first clocks.first 0 0 0 ((j + 6) * turn_ns) clocks.held held (omega (arith, before)) in
    let four = last_tick clocks.first clocks.first 0 0 0 ((j + 7) * turn_ns) clocks.held held (omega (arith, before)) in
    let is = last_is clocks.first clocks.first 0 0 (j * turn_ns) clocks.held held (record { freq = refl; whole = g.kept.valid.whole_turn; begun = omega (arith, early, begun) }) (omega (arith, before)) in
    let same = is.freq in
    let since = is.begun in
    let whole = g.kept.valid.freq_whole in
    let mono = tick-mono line ((j + 4 + 1) * turn_ns) ((j + 6) * turn_ns) (omega arith) in
    let next : j + 6 + 1 ≡ j + 7 = omega arith in
    let apart = line_apart line (j + 6) is.whole (omega (arith, same, whole)) (omega (arith, since)) in
    let there = ap (λ (n : ℕ). tick line (n * turn_ns)) next in
    let error = ap max_error same in
    omega (arith, ahead, behind, one, two, three, four, mono, apart, there, error)

-- and the new line is past them soon
ticks_past : (clock : BoardClock) (turns : List BoardTurn) (clocks : Clocks) (ready turn : ℕ) (line : Line) → AreReady clock turns clocks ready turn → IsReady clock turns turn line
    → lines_tick clocks (turn * turn_ns) + max_error clock.freq ≤ tick line ((turn + 6) * turn_ns)
ticks_past clock turns clocks ready turn line g n =
    let x = ready_tracked clock turns clocks ready turn g in
    let at = x.1 in
    let begun = g.begun in
    let ahead : lines_tick clocks (turn * turn_ns) < board_tick clock (turn + 4) = x.0.ahead turn (omega (arith, begun)) (omega (arith, at)) in
    let own = own_apart clock.start clock.freq clock.drift (turn + 4) g.drift in
    let five : turn + 4 + 1 ≡ turn + 5 = omega arith in
    let six : turn + 5 + 1 ≡ turn + 6 = omega arith in
    let there = ap (board_tick clock) five in
    let s = n.is.0 in
    let when = ap (λ (l : Line). l.at) n.is.2 in
    let before = n.before in
    let young = n.young in
    let few : (turn + 5 - s.sent) * ppm_size clock.drift ≤ 4_900 * 200 = mul-le-mul {n₁ = turn + 5 - s.sent} {m₁ = ppm_size clock.drift} {n₂ = 4_900} {m₂ = 200} (omega (arith, when, young)) g.drift in
    let near = (keeps_up clock turns s (turn + 5) g.freq g.drift n.is.1 (omega (arith, when, before)) (omega (arith, few))).behind in
    let behind : board_tick clock (turn + 5) ≤ tick line ((turn + 5 + 1) * turn_ns) = subst (λ (l : Line). board_tick clock (turn + 5) ≤ tick l ((turn + 5 + 1) * turn_ns)) (sym n.is.2) near in
    let last = ap (λ (k : ℕ). tick line (k * turn_ns)) six in
    omega (arith, ahead, own, there, behind, last)

pub may_take : (clock : BoardClock) (turns : List BoardTurn) (clocks : Clocks) (ready turn : ℕ) (line : Line) → AreReady clock turns clocks ready turn → IsReady clock turns turn line → turn < 2 ^ 44 → MayTake clocks turn line
may_take clock turns clocks ready turn line g n low =
    let begun = g.begun in
    let early = g.early in
    let before = g.before in
    let young = n.young in
    let own = ap (λ (l : Line). l.freq) n.is.2 in
    let first = ap (λ (l : Line). l.freq) g.first.2 in
    let at = ap (λ (l : Line). l.at) n.is.2 in
    let valid = g.kept.valid in
    let j = turn - 7 in
    let is : j + 7 ≡ turn = omega (arith, begun) in
    let less : j + 6 ≡ turn - 1 = omega (arith, begun) in
    let goes = ticks_go clock turns clocks ready j (subst (AreReady clock turns clocks ready) (sym is) g) in
    let here = ap (λ (k : ℕ). lines_tick clocks (k * turn_ns)) is in
    let last = ap (λ (k : ℕ). lines_tick clocks (k * turn_ns)) less in
    let past = ticks_past clock turns clocks ready turn line g n in
    let error = ap max_error first in
    record {
      fit = record {
        same_freq = own ∙ sym first;
        whole_freq = valid.freq_whole;
        whole_turn = omega (arith, at);
        whole_start = valid.whole_turn;
        before = n.before;
        first_before = omega (arith, early, begun);
      };
      after = omega (arith, before);
      near = record { goes = omega (arith, goes, here, last); past = omega (arith, past, error) };
      turn_small = low;
      clock_small = n.small;
    }
