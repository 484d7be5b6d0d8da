-- What a step queue keeps, and the steps that it stands for.
use Rattle.std.specs.Prelude.{◌≡◌, ℕ, ◌+◌, ◌<◌, ◌^◌, List, [], ◌∷◌, length, Option, Some, None}
use Rattle.plan_types.specs.Clock.{tick_limit}
use Rattle.board_step.specs.declared.Queued.{Queued}
use Rattle.board_step.specs.declared.Current.{Current}
use Rattle.plan_types.specs.Board.{Group, last_of}
use Rattle.board_step.specs.Steps.{next_gap, ticks_behind}

-- the ticks of a waiting triple, behind a tick
abbrev pub group_of : ℕ → Queued → Group
group_of first q = record { up = q.up; ticks = first ∷ ticks_behind first (next_gap q.interval q.add) q.add q.more }

-- the ticks of all waiting triples
abbrev pub groups_behind : ℕ → List Queued → List Group
groups_behind tick [] = []
groups_behind tick (q ∷ qs) =
    group_of (tick + q.interval) q ∷ groups_behind (last_of tick (group_of (tick + q.interval) q).ticks) qs

-- the ticks that are left of the triple that runs
abbrev pub current_ticks : Current → List ℕ
current_ticks c = c.tick ∷ ticks_behind c.tick c.gap c.add c.more

-- the steps that pend in a queue
abbrev pub groups_of : Option Current → List Queued → List Group
groups_of None qs = []
groups_of (Some c) qs = record { up = c.up; ticks = current_ticks c } ∷ groups_behind (last_of 0 (current_ticks c)) qs

-- the tick of the next step is near enough, and no command waits without one that runs
abbrev pub IsSoundQueue : Option Current → List Queued → ℕ → ℕ → Type 0
IsSoundQueue None qs slots last = (qs ≡ []) × (last < tick_limit)
IsSoundQueue (Some c) qs slots last = (c.tick < tick_limit + 2 ^ 32) × (length qs < slots) × (last < tick_limit)
