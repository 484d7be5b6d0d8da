-- The clock lines of a board that hold by the beginning of a turn.
use Rattle.std.proofs.Common.{◌≡◌, inl, inr, ℕ, zero, suc, ◌*◌, ◌<◌, ◌≤◌, List, [], ◌∷◌, map, max, cond, refl, ap, sym, ◌∙◌, subst, arith}
use Rattle.std.specs.Prelude.{nat_le}
use Rattle.laws_board.proofs.Names.{leb_tells, nat_tests, Held, Line, tick, turn_ns, Clocks, lines_tick, clocks_at, AreKept}
use Rattle.plan_types.specs.Lines.{AreHeld, tick_over}
use Rattle.clock_line.proofs.Holding.{passed}
use Rattle.motion_work.specs.Known.{held_by, lines_by}

-- those of a board of a number
pub clocks_by : (turn : ℕ) (clocks : List Clocks) (b : ℕ) → clocks_at (map (lines_by turn) clocks) b ≡ lines_by turn (clocks_at clocks b)
clocks_by turn [] b = refl
clocks_by turn (c ∷ clocks) zero = refl
clocks_by turn (c ∷ clocks) (suc b) = clocks_by turn clocks b

-- behind a line that holds later none does by then
pub none_by : (turn : ℕ) (first line : Line) (from most : ℕ) (held : List Held) → AreHeld first line from most held → turn * turn_ns < from → held_by turn held ≡ []
none_by turn first line from most [] are late = refl
none_by turn first line from most (h ∷ held) are late =
    let above = are.0 in
    elim (leb_tells (suc (turn * turn_ns)) h.from) [
      | inl p ↦ rw p.0 (none_by turn first h.line h.from h.most held are.4 p.1)
      | inr p ↦ absurd (let early = p.1 in omega (arith, above, late, early))
    ]

-- up to then the ticks are those by all lines
tick_by : (turn : ℕ) (first line : Line) (from most old : ℕ) (held : List Held) (time : ℕ) → AreHeld first line from most held → time ≤ turn * turn_ns → tick_over line old (held_by turn held) time ≡ tick_over line old held time
tick_by turn first line from most old [] time are early = refl
tick_by turn first line from most old (h ∷ held) time are early =
    elim (leb_tells (suc (turn * turn_ns)) h.from) [
      | inl p ↦
          let late = p.1 in
          let one : held_by turn (h ∷ held) ≡ [] = rw p.0 (none_by turn first h.line h.from h.most held are.4 late) in
          let two : tick_over line old (h ∷ held) time ≡ max old (tick line time) = passed (nat_le h.from time) _ _ (grind (arith, nat_tests, late)) in
          ap (λ hs. tick_over line old hs time) one ∙ sym two
      | inr p ↦
          let one : held_by turn (h ∷ held) ≡ h ∷ held_by turn held = rw p.0 refl in
          ap (λ hs. tick_over line old hs time) one ∙ ap (λ n. cond (nat_le h.from time) n (max old (tick line time))) (tick_by turn first h.line h.from h.most (max old (tick line h.from)) held time are.4 early)
    ]

pub ticks_by : (turn : ℕ) (clocks : Clocks) (time : ℕ) → AreKept clocks → time ≤ turn * turn_ns → lines_tick (lines_by turn clocks) time ≡ lines_tick clocks time
ticks_by turn clocks time kept early = tick_by turn clocks.first clocks.first 0 0 0 clocks.held time kept.held early

-- they hold one after the other
held_on : (turn : ℕ) (first line : Line) (from most : ℕ) (held : List Held) → AreHeld first line from most held → AreHeld first line from most (held_by turn held)
held_on turn first line from most [] are = are
held_on turn first line from most (h ∷ held) are = elim (leb_tells (suc (turn * turn_ns)) h.from) [
  | inl p ↦ rw p.0 (let none = none_by turn first h.line h.from h.most held are.4 p.1 in subst (AreHeld first line from most) (sym none) tt)
  | inr p ↦ rw p.0 (are.0, are.1, are.2, are.3, held_on turn first h.line h.from h.most held are.4, are.5)
]

pub kept_by : (turn : ℕ) (clocks : Clocks) → AreKept clocks → AreKept (lines_by turn clocks)
kept_by turn clocks kept = record { valid = kept.valid; held = held_on turn clocks.first clocks.first 0 0 clocks.held kept.held }

-- where a reactor knows those that hold by a turn, each turn up to it begins at the same tick as by all
pub tick_known : (known clocks : List Clocks) (most b turn : ℕ) → known ≡ map (lines_by most) clocks → AreKept (clocks_at clocks b) → turn ≤ most → lines_tick (clocks_at known b) (turn * turn_ns) ≡ lines_tick (clocks_at clocks b) (turn * turn_ns)
tick_known known clocks most b turn is kept low =
    ap (λ (cs : List Clocks). lines_tick (clocks_at cs b) (turn * turn_ns)) is ∙ ap (λ (x : Clocks). lines_tick x (turn * turn_ns)) (clocks_by most clocks b) ∙ ticks_by most (clocks_at clocks b) (turn * turn_ns) kept (omega (arith, low))
