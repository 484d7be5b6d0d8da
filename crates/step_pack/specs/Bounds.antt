-- What the search for the longest triple keeps. Adds are counted from -1024 on: a bend is an add and 1024.
use Rattle.std.specs.Prelude.{◌≡◌, ℕ, ◌+◌, ◌-◌, ◌*◌, ◌/◌, ◌^◌, ◌<◌, ◌≤◌, List, length}
use Rattle.plan_types.specs.declared.plan.Window.{Window}
use Rattle.step_pack.specs.declared.Bounds.{Bounds}
use Rattle.step_pack.specs.declared.Verdict.{Verdict}
use Rattle.step_pack.specs.declared.Verdict.TheVariants.{Whole, TooGreat, TooSmall, Own}
use Rattle.plan_types.specs.Packing.{window_at}

-- how often the add counts in step k, from 0
abbrev pub triangle : ℕ → ℕ
triangle k = k * (k + 1) / 2

-- the first steps of a triple behind a tick: so many are not early, so many not late, and so many less than 2 ^ 32
-- behind the one before
pub record Meets (behind : ℕ) (windows : List Window) (lows highs nears bend interval : ℕ) : Type 0 where
  pub some : 0 < interval
  pub small : interval < 2 ^ 32
  pub not_early : (k : ℕ) → k < lows →
      (window_at windows k).low + 1024 * triangle k ≤ behind + (k + 1) * interval + bend * triangle k
  pub not_late : (k : ℕ) → k < highs →
      behind + (k + 1) * interval + bend * triangle k ≤ (window_at windows k).high + 1024 * triangle k
  pub near : (k : ℕ) → k < nears → interval + bend * k < 2 ^ 32 + 1024 * k

-- the intervals that meet so much with a bend, and for each side a step that bounds those of all bends
pub record AreBounds (behind : ℕ) (windows : List Window) (lows highs nears bend : ℕ) (b : Bounds) : Type 0 where
  pub some : 0 < b.least
  pub order : b.least ≤ b.greatest
  pub small : b.greatest < 2 ^ 32
  pub least : (interval : ℕ) → Meets behind windows lows highs nears bend interval → b.least ≤ interval
  pub greatest : (interval : ℕ) → Meets behind windows lows highs nears bend interval → interval ≤ b.greatest
  pub all : (interval : ℕ) → b.least ≤ interval → interval ≤ b.greatest →
      Meets behind windows lows highs nears bend interval
  pub low_place : b.low_place ≤ lows - 1
  pub low_line : (other interval : ℕ) → Meets behind windows lows highs nears other interval →
      b.low_at + bend * triangle b.low_place ≤ (b.low_place + 1) * interval + other * triangle b.low_place
  pub high_place : b.high_place ≤ highs - 1
  pub high_line : (other interval : ℕ) → Meets behind windows lows highs nears other interval →
      (b.high_place + 1) * interval + other * triangle b.high_place ≤ b.high_at + bend * triangle b.high_place

-- what is known of a bend is known of the other as well
abbrev pub Rules : Verdict → ℕ → ℕ → Type 0
Rules Whole bend other = Unit {0}
Rules (TooGreat less) bend other = bend ≤ other + less
Rules (TooSmall more) bend other = other ≤ bend + more
Rules Own bend other = other ≡ bend

-- no bend that the verdict is on meets so much
abbrev pub NoneMeets : ℕ → List Window → ℕ → ℕ → ℕ → ℕ → Verdict → Type 0
NoneMeets behind windows lows highs nears bend verdict =
    (other interval : ℕ) → Rules verdict bend other → Meets behind windows lows highs nears other interval → ⊥

-- a triple behind a tick that covers so many steps in one direction
pub record IsReach (behind : ℕ) (windows : List Window) (bend interval count : ℕ) : Type 0 where
  pub within : count ≤ length windows
  pub count_small : count ≤ 65_535
  pub meets : Meets behind windows count count count bend interval
  pub one_way : (k : ℕ) → k < count → (window_at windows k).up ≡ (window_at windows 0).up

-- no triple with a bend that the verdict is on covers more steps
abbrev pub IsMost : ℕ → List Window → ℕ → Verdict → ℕ → Type 0
IsMost behind windows bend verdict most =
    (other interval count : ℕ) → Rules verdict bend other → IsReach behind windows other interval count → count ≤ most

-- no triple with a bend from one on and below another covers more steps
abbrev pub IsMostWithin : ℕ → List Window → ℕ → ℕ → ℕ → Type 0
IsMostWithin behind windows low high most =
    (other interval count : ℕ) → low ≤ other → other < high → IsReach behind windows other interval count → count ≤ most

-- all windows are behind the tick
pub record AreAfter (behind : ℕ) (windows : List Window) : Type 0 where
  pub after : (k : ℕ) → k < length windows → behind < (window_at windows k).low
  pub order : (k : ℕ) → k < length windows → (window_at windows k).low ≤ (window_at windows k).high
