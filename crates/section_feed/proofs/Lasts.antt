-- Lines by which a section goes on: a single one, and one more.
use Rattle.std.proofs.Common.{◌≡◌, ℕ, ◌-◌, ◌*◌, ◌<◌, ◌≤◌, ◌^◌, List, [], ◌∷◌, ◌++◌, max, Bool, true, false, cond, arith, refl, sym, subst, inl, inr}
use Rattle.std.specs.Prelude.{nat_le}
use Rattle.std.proofs.Props.{props}
use Rattle.std.proofs.Math.Logic.{∥∥₁_elim}
use Rattle.std.proofs.Math.Nat.{mul-le-mul}
use Rattle.std.proofs.lemmas.Bool.{cases_lt}
use Rattle.std.proofs.lemmas.Bool.Decides.{nat_tests}
use Rattle.std.proofs.lemmas.Grind.{merely}
use Rattle.plan_types.specs.declared.plan.Line.{Line}
use Rattle.plan_types.specs.declared.plan.Held.{Held}
use Rattle.plan_types.specs.Clock.{tick, tick_limit, turn_ns}
use Rattle.plan_types.specs.Lines.{AreHeld, Clocks, IsFit, board_over, come, last_from, lines_board, lines_tick, tick_over}
use Rattle.plan_types.specs.Valid.{IsValidLine}
use Rattle.clock_line.specs.Kept.{AreKept, added}
use Rattle.clock_line.proofs.Boards.{board-mono}
use Rattle.clock_line.proofs.Holding.{chosen, passed, tick-mono, come-fit}
use Rattle.section_plan.proofs.Boards.{alone-board}
use Rattle.section_stream.proofs.Adding.{apart-added, board-from, kept-added, one-apart}
use Rattle.section_feed.specs.Boards.{IsLasting, MayTake}
use Rattle.clock_line.proofs.Turns.{tick_over-least, clock-least}

-- lines are kept in one way
held-prop : (first line : Line) (from most : ℕ) (held : List Held) (x y : AreHeld first line from most held) → x ≡ y
held-prop first line from most [] x y = refl
held-prop first line from most (h ∷ held) x y = λ k. (lt x.0 y.0 k, eq x.1 y.1 k, eq x.2 y.2 k, eq x.3 y.3 k, held-prop first h.line h.from h.most held x.4 y.4 k, fit x.5 y.5 k)
  where
    lt : {a b : ℕ} (x y : a < b) → x ≡ y
    lt = hlevel props

    eq : {a b : ℕ} (x y : a ≡ b) → x ≡ y
    eq = hlevel props

    fit : {l m : Line} {t : ℕ} (x y : IsFit l m t) → x ≡ y
    fit = hlevel props

kept-prop : (clocks : Clocks) (x y : AreKept clocks) → x ≡ y
kept-prop clocks x y = λ k. record { valid = valid x.valid y.valid k; held = held-prop clocks.first clocks.first 0 0 clocks.held x.held y.held k }
  where
    valid : {l : Line} (x y : IsValidLine l) → x ≡ y
    valid = hlevel props

pub kept-lasting : (clocks : Clocks) → IsLasting clocks → AreKept clocks
kept-lasting clocks is = ∥∥₁_elim is.kept (kept-prop clocks) (λ k. k)

-- a tick of the next 500 years by one line
pub line-small : (line : Line) (time : ℕ) → line.freq ≤ 200_000_000 → line.clock < 2 ^ 63 → time ≤ 2 ^ 44 * turn_ns → tick line time < tick_limit
line-small line time high low small =
    let product : (time - line.at) * line.freq ≤ time * 200_000_000 = mul-le-mul (omega arith) high in
    omega arith

-- and by all of them
pub tick-small : (clocks : Clocks) (time : ℕ) → IsLasting clocks → time < 2 ^ 44 * turn_ns → tick clocks.first time < tick_limit
tick-small clocks time is small = let low = is.clock_small in line-small clocks.first time is.valid.freq_high (omega arith) (omega arith)

pub board-small : (clocks : Clocks) (time : ℕ) → IsLasting clocks → time < 2 ^ 44 * turn_ns → lines_board clocks (tick clocks.first time) < tick_limit
board-small clocks time is small =
    let all = is.small in
    let up = tick-mono clocks.first time (2 ^ 44 * turn_ns) (omega arith) in
    let m = board-mono clocks (tick clocks.first time) (tick clocks.first (2 ^ 44 * turn_ns)) up in
    omega arith

pub lines-small : (clocks : Clocks) (time : ℕ) → IsLasting clocks → time < 2 ^ 44 * turn_ns → lines_tick clocks time < tick_limit
lines-small clocks time is small =
    let b = board-small clocks time is small in
    let f = board-from clocks time (tick clocks.first time) (kept-lasting clocks is) (omega arith) in
    omega arith

pub lines-from : (clocks : Clocks) (time : ℕ) → clocks.first.clock ≤ lines_tick clocks time
lines-from clocks time = clock-least clocks.first 0 clocks.held time

-- the time from which the last line holds
last-either : (a bound : ℕ) (held : List Held) → a < bound → last_from 0 held < bound → last_from a held < bound
last-either a bound [] one two = one
last-either a bound (h ∷ held) one two = two

pub last-soon : (clocks : Clocks) (time : ℕ) → IsLasting clocks → clocks.first.at ≤ time → time < 2 ^ 44 * turn_ns → last_from clocks.first.at clocks.held < 2 ^ 62 * turn_ns
last-soon clocks time is begun small =
    let soon = is.soon in
    let l = last-either clocks.first.at (2 ^ 44 * turn_ns) clocks.held (omega arith) soon in
    omega arith

last-added : (a : ℕ) (held : List Held) (h : Held) → last_from a (held ++ h ∷ []) ≡ h.from
last-added a [] h = refl
last-added a (g ∷ held) h = last-added g.from held h

-- a single line
pub one-lasts : (clocks : Clocks) → IsValidLine clocks.first → clocks.held ≡ [] → clocks.first.clock < 2 ^ 62 → IsLasting clocks
one-lasts clocks valid alone low =
    let t = line-small clocks.first (2 ^ 44 * turn_ns) valid.freq_high (omega arith) (omega arith) in
    let e = alone-board clocks (tick clocks.first (2 ^ 44 * turn_ns)) alone (omega arith) in
    record {
      valid = valid;
      kept = merely (record { valid = valid; held = subst (λ (h : List Held). AreHeld clocks.first clocks.first 0 0 h) (sym alone) tt });
      apart = one-apart clocks valid alone;
      clock_small = low;
      soon = rw alone (omega arith);
      small = omega arith;
    }

-- one more line: the board's tick of a plan tick is that of before, or the line's
board-either : (first line : Line) (from most : ℕ) (held : List Held) (h : Held) (n : ℕ) → board_over first line from most (held ++ h ∷ []) n ≤ max (board_over first line from most held n) (come first h.line h.from n)
board-either first line from most [] h n = elim (cases_lt n (tick first h.from)) as (λ _. board_over first line from most (h ∷ []) n ≤ max (max most (come first line from n)) (come first h.line h.from n)) [
  | inl before ↦ (let e : board_over first line from most (h ∷ []) n ≡ max most (come first line from n) = passed (nat_le (tick first h.from) n) _ _ (grind (arith, nat_tests)) in omega arith)
  | inr late ↦ (let e : board_over first line from most (h ∷ []) n ≡ max (max most (come first line from (tick first h.from))) (come first h.line h.from n) = chosen (nat_le (tick first h.from) n) _ _ (grind (arith, nat_tests)) in omega arith)
]
board-either first line from most (g ∷ held) h n =
    both (nat_le (tick first g.from) n) (board_over first g.line g.from (max most (come first line from (tick first g.from))) (held ++ h ∷ []) n) (board_over first g.line g.from (max most (come first line from (tick first g.from))) held n) (max most (come first line from n)) (come first h.line h.from n)
    (board-either first g.line g.from (max most (come first line from (tick first g.from))) held h n)
  where
    both : (b : Bool) (x y z c : ℕ) → x ≤ max y c → cond b x z ≤ max (cond b y z) c
    both true x y z c h = h
    both false x y z c h = omega arith

pub added-lasts : (clocks : Clocks) (turn : ℕ) (line : Line) → IsLasting clocks → MayTake clocks turn line → IsLasting (added clocks (turn * turn_ns) line)
added-lasts clocks turn line is may =
    let from = turn * turn_ns in
    let kept = kept-lasting clocks is in
    let few = may.turn_small in
    let h : Held = record { from = from; line = line; most = lines_tick clocks from; start = tick line from; plan = tick clocks.first from } in
    let n = tick clocks.first (2 ^ 44 * turn_ns) in
    let before = is.small in
    let either : lines_board (added clocks from line) n ≤ max (lines_board clocks n) (come clocks.first line from n) = board-either clocks.first clocks.first 0 0 clocks.held h n in
    let comes = come-fit clocks.first line from (2 ^ 44 * turn_ns) may.fit (omega arith) in
    let same = may.fit.same_freq in
    let high = is.valid.freq_high in
    let own = line-small line (2 ^ 44 * turn_ns) (omega arith) may.clock_small (omega arith) in
    let last : last_from 0 (added clocks from line).held ≡ from = last-added 0 clocks.held h in
    record {
      valid = is.valid;
      kept = merely (kept-added clocks from line kept may.after may.fit);
      apart = apart-added clocks turn line kept is.apart may.after may.fit may.near;
      clock_small = is.clock_small;
      soon = omega arith;
      small = omega arith;
    }
