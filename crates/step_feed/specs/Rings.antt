-- The last ticks of a stepper's units that are released and not over.
use Rattle.std.specs.Prelude.{ℕ, ◌+◌, ◌-◌, ◌*◌, ◌<◌, ◌≤◌, List, [], ◌∷◌, length, nat_le, nat_lt, slice_index_or, if◌then◌else◌}
use Rattle.plan_types.specs.Clock.{turn_ns}
use Rattle.plan_types.specs.Lines.{Clocks, lines_tick}
use Rattle.step_feed.specs.Pacing.{one_pending}

-- numbers do not fall
abbrev pub IsUp : List ℕ → Type 0
IsUp es = (i : ℕ) → i + 1 < length es → slice_index_or es i 0 ≤ slice_index_or es (i + 1) 0

-- of the last ticks of some units, how many aren't over in a turn
abbrev pub not_over : Clocks → ℕ → List ℕ → ℕ
not_over clocks k [] = 0
not_over clocks k (e ∷ es) = one_pending clocks k e + not_over clocks k es

-- 1 where a tick is at least another
abbrev pub one_from : ℕ → ℕ → ℕ
one_from x e = if nat_le x e then 1 else 0

-- how many of some ticks are at least a tick
abbrev pub count_from : ℕ → List ℕ → ℕ
count_from x [] = 0
count_from x (e ∷ es) = one_from x e + count_from x es

-- the tick before which all steps count as made in a turn
abbrev pub made_before : Clocks → ℕ → ℕ
made_before clocks k = if nat_lt k 5 then 0 else lines_tick clocks ((k - 4) * turn_ns)

-- all numbers are at most a number
abbrev pub AreAtMost : ℕ → List ℕ → Type 0
AreAtMost last [] = Unit {0}
AreAtMost last (e ∷ es) = e ≤ last × AreAtMost last es

-- all numbers are at least a number
abbrev pub AreAtLeast : ℕ → List ℕ → Type 0
AreAtLeast last [] = Unit {0}
AreAtLeast last (e ∷ es) = last ≤ e × AreAtLeast last es
