-- Lines that hold one after the other keep up with their board, where each of them does in its time.
use Rattle.std.proofs.Common.{◌≡◌, ℕ, ◌+◌, ◌*◌, ◌/◌, ◌<◌, ◌≤◌, inl, inr, List, [], ◌∷◌, max, refl, ap, arith}
use Rattle.laws_board.proofs.Names.{leb_tells, BoardClock, Held, Line, board_tick, tick, turn_ns, Clocks, AreKept}
use Rattle.plan_types.specs.Lines.{AreHeld, tick_over}
use Rattle.plan_types.proofs.OwnTicks.{rise}
use Rattle.clock_line.proofs.Holding.{tick-mono}
use Rattle.laws_board.specs.clocks.Near.{AllKeepUp, KeepsUp, LinesKeepUp, turn_from}
use Rattle.clock_line.proofs.Turns.{tick_over-least}
use Rattle.link_work.proofs.Units.{ticks_rise}

-- lines behind which a tick is kept: from turn f on not behind, and from turn g on not far ahead
record Held_so (clock : BoardClock) (line : Line) (most : ℕ) (held : List Held) (f g until : ℕ) : Type 0 where
  pub behind : (k : ℕ) → f ≤ k → k ≤ until → board_tick clock k ≤ tick_over line most held ((k + 1) * turn_ns)
  pub ahead : (k : ℕ) → g ≤ k → k ≤ until → tick_over line most held (k * turn_ns) < board_tick clock (k + 4)

last_so : (clock : BoardClock) (line : Line) (most f g until : ℕ) → AllKeepUp clock f line [] until → f ≤ g → most < board_tick clock (g + 4) → Held_so clock line most [] f g until
last_so clock line most f g until all l m = record {
  behind = λ k low high. let x = (all k low high).behind in omega arith;
  ahead = λ k low high. let x = (all k (omega arith) high).ahead in let y = ticks_rise clock (g + 4) (k + 4) (omega arith) in omega arith;
}

behind_one : (clock : BoardClock) (line : Line) (most f k : ℕ) (h : Held) (held : List Held) → board_tick clock k ≤ tick line ((k + 1) * turn_ns)
    → ((h.from / turn_ns ≤ k) → board_tick clock k ≤ tick_over h.line (max most (tick line h.from)) held ((k + 1) * turn_ns))
    → board_tick clock k ≤ tick_over line most (h ∷ held) ((k + 1) * turn_ns)
behind_one clock line most f k h held x later =
    let t = (k + 1) * turn_ns in
    let floor = tick_over-least h.line (max most (tick line h.from)) held t in
    let here : board_tick clock k ≤ max most (tick line t) = omega arith in
    elim (leb_tells h.from t) [
      | inl p ↦
          let from = p.1 in
          elim (leb_tells (h.from / turn_ns) k) [
            | inl q ↦ rw p.0 (later q.1)
            | inr q ↦
                let above = q.1 in
                let same : h.from ≡ t = omega arith in
                let at = ap (tick line) same in
                let there : board_tick clock k ≤ tick_over h.line (max most (tick line h.from)) held t = omega arith in
                rw p.0 there
          ]
      | inr p ↦ rw p.0 here
    ]

ahead_one : (clock : BoardClock) (line : Line) (most k : ℕ) (h : Held) (held : List Held) → (k < turn_from h.from → max most (tick line (k * turn_ns)) < board_tick clock (k + 4))
    → (turn_from h.from ≤ k → tick_over h.line (max most (tick line h.from)) held (k * turn_ns) < board_tick clock (k + 4))
    → tick_over line most (h ∷ held) (k * turn_ns) < board_tick clock (k + 4)
ahead_one clock line most k h held now later =
    elim (leb_tells h.from (k * turn_ns)) [
      | inl p ↦ let from = p.1 in rw p.0 (later (omega arith))
      | inr p ↦ let from = p.1 in rw p.0 (now (omega arith))
    ]

held_so : (clock : BoardClock) (first line : Line) (from most keep : ℕ) (held : List Held) (f g until : ℕ) → AreHeld first line from keep held → AllKeepUp clock f line held until → f ≤ g
    → ((h : Held) (rest : List Held) → held ≡ h ∷ rest → g ≤ turn_from h.from) → most < board_tick clock (g + 4) → Held_so clock line most held f g until
held_so clock first line from most keep [] f g until a all l n m = last_so clock line most f g until all l m
held_so clock first line from most keep (h ∷ held) f g until a all l n m =
    let next = turn_from h.from in
    let up = all.0 in
    let g_next : g ≤ next = n h held refl in
    let at = (up next (omega arith) (omega arith)).ahead in
    let mono = tick-mono line h.from (next * turn_ns) (omega arith) in
    let grows = ticks_rise clock (g + 4) (next + 4) (omega arith) in
    let kept : max most (tick line h.from) < board_tick clock (next + 4) = omega arith in
    let rest = held_so clock first h.line h.from (max most (tick line h.from)) h.most held (h.from / turn_ns) next until a.4 all.1 (omega arith) (rises held a.4) kept in
    record {
      behind = λ k low high. either_behind k low high (up k low) rest.behind;
      ahead = λ k low high.
          ahead_one clock line most k h held
          (λ early. let x = (up k (omega arith) (omega arith)).ahead in let y = ticks_rise clock (g + 4) (k + 4) (omega arith) in omega arith)
          (λ late. rest.ahead k late high);
    }
  where
    rises : (hs : List Held) → AreHeld first h.line h.from h.most hs → (d : Held) (rest : List Held) → hs ≡ d ∷ rest → turn_from h.from ≤ turn_from d.from
    rises [] b d rest e = cc
    rises (x ∷ hs) b d rest e = let same : x ≡ d = cc in let s = ap (λ (y : Held). y.from) same in let k = b.0 in omega arith

    either_behind : (k : ℕ) → f ≤ k → k ≤ until → (k ≤ turn_from h.from → KeepsUp clock line k)
        → ((j : ℕ) → h.from / turn_ns ≤ j → j ≤ until → board_tick clock j ≤ tick_over h.line (max most (tick line h.from)) held ((j + 1) * turn_ns))
        → board_tick clock k ≤ tick_over line most (h ∷ held) ((k + 1) * turn_ns)
    either_behind k low high now later =
        elim (leb_tells k (turn_from h.from)) [
          | inl p ↦ behind_one clock line most f k h held (now p.1).behind (λ floor. later k floor high)
          | inr p ↦
              let above = p.1 in
              let there = later k (omega arith) high in
              let from : h.from ≤ (k + 1) * turn_ns = omega arith in
              elim (leb_tells h.from ((k + 1) * turn_ns)) [ inl q ↦ rw q.0 there | inr q ↦ let z = q.1 in absurd (omega arith) ]
        ]

pub lines_keep : (clock : BoardClock) (clocks : Clocks) (ready until k : ℕ) → AreKept clocks → AllKeepUp clock ready clocks.first clocks.held until → ready ≤ k → k ≤ until → LinesKeepUp clock clocks k
lines_keep clock clocks ready until k a all low high = start clocks.first clocks.held a.held all
  where
    start : (first : Line) (held : List Held) → AreHeld first first 0 0 held → AllKeepUp clock ready first held until → LinesKeepUp clock (record { first = first; held = held }) k
    start first [] a all =
        let x = all k low high in
        let b = x.behind in
        let c = x.ahead in
        record { behind = omega arith; ahead = omega arith }
    start first (h ∷ held) a all =
        let x = (all.0 ready (omega arith) (all.2)).ahead in
        let so = held_so clock first first 0 0 0 (h ∷ held) ready ready until a all (omega arith) (λ d rest e. let same : h ≡ d = cc in let s = ap (λ (y : Held). y.from) same in let z = all.2 in omega arith) (omega arith) in
        record { behind = so.behind k low high; ahead = so.ahead k low high }
