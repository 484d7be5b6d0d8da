-- What contracts see of a step queue: the steps that pend, at whole ticks.
use Rattle.std.specs.Prelude.{◌≡◌, ℕ, zero, suc, ℤ, ◌+◌, ◌-◌, ◌%◌, ◌^◌, ◌<◌, ◌≤◌, Bool, List, [], ◌∷◌, ◌++◌, slice_index}
use Rattle.std.specs.Int.{cast_unsigned, w32}
use Rattle.plan_types.specs.declared.plan.Triple.{Triple}
use Rattle.plan_types.specs.Board.{Group, end_of, nearest, AreTicksOf, Continues, TicksRise, IsNear, groups_from, last_before}

-- a step queue as contracts see it: whether it is halted, the direction, the last step, the groups that pend, its size
pub record Pending : Type 0 where
  pub halted : Bool
  -- the direction of the next triple
  pub up : Bool
  -- the tick of the last step, or the clock that was set behind it
  pub last : ℕ
  pub groups : List Group
  -- how many groups may pend
  pub slots : ℕ

-- the gap behind this one, as a number of 32 bits
abbrev pub next_gap : ℕ → ℤ → ℕ
next_gap gap add = (gap + cast_unsigned w32 add) % 2 ^ 32

-- so many ticks behind this one, of which the first is a gap later
abbrev pub ticks_behind : ℕ → ℕ → ℤ → ℕ → List ℕ
ticks_behind tick gap add zero = []
ticks_behind tick gap add (suc n) = (tick + gap) ∷ ticks_behind (tick + gap) (next_gap gap add) add n

-- the ticks of a triple that begins at this one
abbrev pub ticks_at : ℕ → Triple → List ℕ
ticks_at first t = first ∷ ticks_behind first (next_gap t.interval t.add) t.add (t.count - 1)

-- the first tick of a triple that comes now: an interval after the last step that pends, or else the nearest tick
abbrev pub first_tick : ℕ → ℕ → ℕ → List Group → ℕ
first_tick now last interval [] = nearest now (last + interval)
first_tick now last interval (g ∷ gs) = end_of last (g ∷ gs) + interval

-- a queue with these ticks as one more group
abbrev pub with_ticks : Pending → List ℕ → Pending
with_ticks q ticks = record q { groups = q.groups ++ record { up = q.up; ticks = ticks } ∷ [] }

-- a queue whose steps before t are made
abbrev pub queue_to : ℕ → Pending → Pending
queue_to t q = record q { last = last_before q.last t q.groups; groups = groups_from t q.groups }

-- the groups without the first step
abbrev pub behind_first : Bool → List ℕ → List Group → List Group
behind_first up [] gs = gs
behind_first up (t ∷ []) gs = gs
behind_first up (t ∷ u ∷ us) gs = record { up = up; ticks = u ∷ us } ∷ gs

-- the groups without their first step
abbrev pub without_first : List Group → List Group
without_first [] = []
without_first (g ∷ gs) = behind_first g.up g.ticks gs

-- the first step is this one
abbrev pub IsFirstStep : List Group → ℕ → Bool → Type 0
IsFirstStep [] tick up = ⊥
IsFirstStep (g ∷ gs) tick up = (rest : List ℕ) × (g.ticks ≡ tick ∷ rest) × (g.up ≡ up)

-- no step stands before this tick
abbrev pub NoneBefore : List Group → ℕ → Type 0
NoneBefore [] until = Unit {0}
NoneBefore (g ∷ gs) until = (tick : ℕ) × (rest : List ℕ) × (g.ticks ≡ tick ∷ rest) × (until ≤ tick)

-- a triple behind steps that pend: they are not before now, and it is behind them
abbrev pub Follows : ℕ → ℕ → List Group → ℕ → Type 0
Follows now last [] first = Unit {0}
Follows now last (g ∷ gs) first = (now ≤ end_of last (g ∷ gs)) × (end_of last (g ∷ gs) < first)

-- the whole ticks of a triple that comes now: they are those of the triple and rise, and the first one is near, stands
-- behind the steps that pend, and has the clock that the queue counts on
pub record IsFair (now : ℕ) (q : Pending) (t : Triple) (ticks : List ℕ) : Type 0 where
  pub ticks_of : AreTicksOf t ticks
  pub continues : Continues (end_of q.last q.groups) t.interval (slice_index ticks 0)
  pub rise : TicksRise ticks
  pub near : IsNear now (slice_index ticks 0)
  pub follows : Follows now q.last q.groups (slice_index ticks 0)
