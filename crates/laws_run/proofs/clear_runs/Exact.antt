-- The clock lines of a board whose clock is exact are never behind it.
use Rattle.std.proofs.Common.{◌≡◌, ℕ, pos, ◌+◌, ◌*◌, ◌≤◌, List, [], ◌∷◌, ap, sym, subst, arith, inl, inr}
use Rattle.laws_board.proofs.Names.{leb_tells, BoardClock, Held, Line, board_tick, tick, turn_ns, Clocks, lines_tick, AreKept}
use Rattle.std.specs.Prelude.{max}
use Rattle.plan_types.specs.Lines.{AreHeld, tick_over}
use Rattle.plan_types.specs.Machines.{IsValidFreq}
use Rattle.laws_board.specs.turns.Turns.{BoardTurn}
use Rattle.laws_board.specs.clocks.Samples.{IsSampled}
use Rattle.laws_board.proofs.clocks.Near.{exact_near}
use Rattle.laws_board.specs.orders.Renewed.{AreSampled}

line_not_behind : (clock : BoardClock) (turns : List BoardTurn) (line : Line) (k : ℕ) → IsValidFreq clock.freq → clock.drift ≡ pos 0 → IsSampled clock turns line → line.at ≤ k * turn_ns → board_tick clock k ≤ tick line (k * turn_ns)
line_not_behind clock turns line k freq exact x begun =
    let at = ap (λ (l : Line). l.at) x.2 in
    subst (λ (l : Line). board_tick clock k ≤ tick l (k * turn_ns)) (sym x.2) (exact_near clock turns x.0 k freq.whole exact x.1 (omega (arith, at, begun))).0

over_not_behind : (clock : BoardClock) (turns : List BoardTurn) (first line : Line) (start kept most k : ℕ) (held : List Held) → IsValidFreq clock.freq → clock.drift ≡ pos 0 → AreHeld first line start kept held → IsSampled clock turns line → AreSampled clock turns held
    → line.at ≤ k * turn_ns → board_tick clock k ≤ tick_over line most held (k * turn_ns)
over_not_behind clock turns first line start kept most k [] freq exact h x all begun = let near = line_not_behind clock turns line k freq exact x begun in omega (arith, near)
over_not_behind clock turns first line start kept most k (y ∷ held) freq exact h x all begun =
    let near = line_not_behind clock turns line k freq exact x begun in
    let fit = h.5 in
    let before = fit.before in
    elim (leb_tells y.from (k * turn_ns)) [
      | inl p ↦ (let late = p.1 in rw p.0 (over_not_behind clock turns first y.line y.from y.most (max most (tick line y.from)) k held freq exact h.4 all.0 all.1 (omega (arith, late, before))))
      | inr p ↦ rw p.0 (omega (arith, near))
    ]

pub not_behind : (clock : BoardClock) (turns : List BoardTurn) (clocks : Clocks) (ready k : ℕ) → IsValidFreq clock.freq → clock.drift ≡ pos 0 → AreKept clocks → IsSampled clock turns clocks.first → AreSampled clock turns clocks.held
    → clocks.first.at ≤ ready * turn_ns → ready ≤ k → board_tick clock k ≤ lines_tick clocks ((k + 0) * turn_ns)
not_behind clock turns clocks ready k freq exact kept x all early low =
    let same : k + 0 ≡ k = omega arith in
    subst (λ n. board_tick clock k ≤ lines_tick clocks (n * turn_ns)) (sym same) (over_not_behind clock turns clocks.first clocks.first 0 0 0 k clocks.held freq exact kept.held x all (omega (arith, early, low)))
