-- Clock lines of boards that are not ahead of their clocks by much have ticks for the moves of a text.
use Rattle.std.proofs.Common.{◌≡◌, ℕ, suc, ◌+◌, ◌-◌, ◌*◌, ◌/◌, ◌%◌, ◌^◌, ◌<◌, ◌≤◌, Bool, true, false, List, [], ◌∷◌, length, max, ap, refl, arith, inl, inr, rules}
use Rattle.std.specs.Prelude.{◌&&◌, nat_le, nat_lt, not}
use Rattle.std.proofs.Math.Nat.{div-add-mod, mul-le-mul_left}
use Rattle.laws_board.proofs.Names.{and_from, leb_tells, nat_tests, Held, Line, tick, turn_ns, Clocks, lines_tick, clocks_at}
use Rattle.std.proofs.lemmas.Bool.{cases_lt}
use Rattle.plan_types.specs.Lines.{board_over, come, lines_board, tick_over}
use Rattle.plan_types.specs.Sections.{turns_of_move}
use Rattle.clock_line.proofs.Holding.{chosen, passed, tick-mono, tick-zero}
use Rattle.section_plan.specs.Runs.{move_ns, steps_of_move}
use Rattle.log_check.specs.Faults.{are_few, has_own_room, has_room, have_room, is_roomy}
use Rattle.plan_types.proofs.Facts.{is_le, is_less}

-- A line tells no more ticks as a turn begins than a clock of 200 MHz has that begins at 2^40, runs fast by 200 millionths, and was asked
-- three turns before its answer.
pub record IsSlow (l : Line) : Type 0 where
  pub freq : l.freq ≤ 200_000_000
  pub whole : l.at % 1_000_000 ≡ 0
  pub early : l.at < 2 ^ 44 * 1_000_000
  pub clock : l.clock ≤ 2 ^ 40 + (l.at / 1_000_000 + 3) * 200_040

abbrev pub AllSlow : List Held → Type 0
AllSlow [] = Unit {0}
AllSlow (h ∷ held) = IsSlow h.line × (h.line.at ≤ h.from) × (h.from < 2 ^ 44 * 1_000_000) × AllSlow held

-- its ticks at a time
abbrev pub most_at : ℕ → ℕ
most_at t = 2 ^ 40 + 600_120 + 40 * 2 ^ 44 + t / 5

slow-tick : (l : Line) (t : ℕ) → IsSlow l → l.at ≤ t → tick l t ≤ most_at t
slow-tick l t slow begun = search (rules, div-add-mod, mul-le-mul_left)

over-slow : (line : Line) (most : ℕ) (held : List Held) (t : ℕ) → IsSlow line → line.at ≤ t → most ≤ most_at t → AllSlow held → tick_over line most held t ≤ most_at t
over-slow line most [] t slow begun low all = let own = slow-tick line t slow begun in omega (arith, own, low)
over-slow line most (h ∷ held) t slow begun low all =
    let own = slow-tick line t slow begun in
    elim (cases_lt t h.from) as (λ _. tick_over line most (h ∷ held) t ≤ most_at t) [
      | inl before ↦ (let e : tick_over line most (h ∷ held) t ≡ max most (tick line t) = passed (nat_le h.from t) _ _ (grind (arith, nat_tests)) in omega (arith, e, own, low))
      | inr late ↦ (
          let e : tick_over line most (h ∷ held) t ≡ tick_over h.line (max most (tick line h.from)) held t = chosen (nat_le h.from t) _ _ (grind (arith, nat_tests)) in
          let up = tick-mono line h.from t late in
          let at = all.1 in
          let rest = over-slow h.line (max most (tick line h.from)) held t all.0 (omega (arith, at, late)) (omega (arith, up, own, low)) all.3 in
          omega (arith, e, rest))
    ]

pub lines-slow : (c : Clocks) (t : ℕ) → IsSlow c.first → AllSlow c.held → c.first.at ≤ t → lines_tick c t ≤ most_at t
lines-slow c t slow all begun = over-slow c.first 0 c.held t slow begun (omega arith) all

lt-not : (a b : ℕ) → b ≤ a → not (nat_lt a b) ≡ true
lt-not a b low = elim (leb_tells (suc a) b) [ inl p ↦ absurd (omega (arith, p.1, low)) | inr p ↦ ap not p.0 ]

-- there are ticks for a section
room-first : (l : Line) (n turn : ℕ) → IsSlow l → l.at ≤ turn * turn_ns → turn < 2 ^ 42 + 260 → n ≤ 2_000_000 → has_room l n turn ≡ true
room-first l n turn slow begun early few =
    let far = slow-tick l ((turn + n * turns_of_move) * turn_ns) slow (omega (arith, begun)) in
    and_from (nat_le l.at (turn * turn_ns)) (nat_lt (tick l ((turn + n * turns_of_move) * turn_ns)) 12_999_999_995_705_032_704) (is_le l.at (turn * turn_ns) begun) (is_less (tick l ((turn + n * turns_of_move) * turn_ns)) 12_999_999_995_705_032_704 (omega (arith, far, early, few)))

few-own : (c : Clocks) (n turn : ℕ) → IsSlow c.first → AllSlow c.held → c.first.at ≤ turn * turn_ns → turn < 2 ^ 42 + 260 → n ≤ 2_000_000 → are_few c n turn ≡ true
few-own c n turn slow all begun early few = search (rules, lines-slow, turn_ns, lt-not, lines_tick)

room-own : (c : Clocks) (held : List Held) (n turn : ℕ) → are_few c n turn ≡ true → has_own_room c held n turn ≡ true
room-own c [] n turn few = refl
room-own c (h ∷ held) n turn few = few

pub roomy : (c : Clocks) (n turn : ℕ) → IsSlow c.first → AllSlow c.held → c.first.at ≤ turn * turn_ns → turn < 2 ^ 42 + 260 → n ≤ 2_000_000 → is_roomy c n turn ≡ true
roomy c n turn slow all begun early few =
    and_from (has_room c.first n turn) (has_own_room c c.held n turn) (room-first c.first n turn slow begun early few) (room-own c c.held n turn (few-own c n turn slow all begun early few))

pub all-roomy : (lines : List Clocks) (n turn : ℕ) → ((b : ℕ) → b < length lines → is_roomy (clocks_at lines b) n turn ≡ true) → have_room lines n turn ≡ true
all-roomy [] n turn each = refl
all-roomy (c ∷ lines) n turn each = and_from (is_roomy c n turn) (have_room lines n turn) (each 0 (omega arith)) (all-roomy lines n turn (λ b low. each (suc b) (omega (arith, low))))

-- the board's tick of a plan tick is not much greater
abbrev StartLow : List Held → Type 0
StartLow [] = Unit {0}
StartLow (h ∷ held) = (tick h.line h.from ≤ 2 ^ 62) × StartLow held

over-far : (first line : Line) (from most : ℕ) (held : List Held) (n : ℕ) → tick line from ≤ 2 ^ 62 → most ≤ 2 ^ 62 + n → StartLow held → board_over first line from most held n ≤ 2 ^ 62 + n
over-far first line from most [] n low few all = omega (arith, low, few)
over-far first line from most (h ∷ held) n low few all = elim (cases_lt n (tick first h.from)) as (λ _. board_over first line from most (h ∷ held) n ≤ 2 ^ 62 + n) [
  | inl before ↦ (let e : board_over first line from most (h ∷ held) n ≡ max most (come first line from n) = passed (nat_le (tick first h.from) n) _ _ (grind (arith, nat_tests)) in omega (arith, e, low, few))
  | inr late ↦ (
      let e : board_over first line from most (h ∷ held) n ≡ board_over first h.line h.from (max most (come first line from (tick first h.from))) held n = chosen (nat_le (tick first h.from) n) _ _ (grind (arith, nat_tests)) in
      let rest = over-far first h.line h.from (max most (come first line from (tick first h.from))) held n all.0 (omega (arith, low, few, late)) all.1 in
      omega (arith, e, rest))
]

starts-low : (held : List Held) → AllSlow held → StartLow held
starts-low [] all = tt
starts-low (h ∷ held) all =
    let own = slow-tick h.line h.from all.0 all.1 in
    let early = all.2 in
    (omega (arith, own, early), starts-low held all.3)

pub board-far : (c : Clocks) (n : ℕ) → IsSlow c.first → AllSlow c.held → lines_board c n ≤ 2 ^ 62 + n
board-far c n slow all = search (rules, tick-zero, div-add-mod, over-far, starts-low)

-- and the tick of a time is no greater than this
pub tick-far : (l : Line) (turn n : ℕ) → IsSlow l → l.at ≤ turn * turn_ns → turn < 2 ^ 42 + 260 → n ≤ 2_000_000 → tick l (turn * turn_ns + n * move_ns) ≤ 2 ^ 63
tick-far l turn n slow begun early few = search (rules, slow-tick, turn_ns)
