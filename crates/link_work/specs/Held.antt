-- The units of a busy stretch, and what is told of the one that came too late.
use Rattle.std.specs.Prelude.{◌≡◌, ℕ, zero, suc, ◌+◌, ◌-◌, ◌<◌, ◌≤◌, ◌==◌, ◌&&◌, ℤ, pos, negsuc, Bool, true, false, List, [], ◌∷◌, ◌++◌, drop, filter, length, map, nat_le, nat_lt, Option, Some, None, if◌then◌else◌}
use Rattle.plan_types.specs.declared.clock.BoardClock.{BoardClock}
use Rattle.plan_types.specs.Clock.{board_tick}
use Rattle.msg_code.specs.declared.talk.ShutNews.{ShutNews}
use Rattle.msg_code.specs.declared.unit.Unit.{Unit as StepUnit}
use Rattle.board_sim.specs.Board.{timer_too_close}
use Rattle.link_work.specs.declared.held.HeldUnit.{HeldUnit}
use Rattle.link_work.specs.Turn.{Orders}
use Rattle.link_work.specs.Ends.{Ended, stretch}
use Rattle.link_work.specs.Taking.{spill}

-- a unit that is queued in a turn: its first tick, the turn of this tick, and by how many turns it was held back
abbrev pub held_unit : ℕ → StepUnit → HeldUnit
held_unit turn u = record { first = u.first; due = u.due; spill = spill turn u.due }

-- the units of a turn are queued behind others
abbrev pub hold : List HeldUnit → ℕ → List StepUnit → List HeldUnit
hold hs turn us = hs ++ map (held_unit turn) us

-- the units of turns from a number on
abbrev pub held_from : ℕ → List Orders → List HeldUnit
held_from turn [] = []
held_from turn (o ∷ os) = map (held_unit turn) o.batch.units ++ held_from (turn + 1) os

-- the units of those of these turns that are in the busy stretch at the last of them
abbrev pub held_in : List Orders → List Ended → List HeldUnit
held_in os ends = held_from (length os - length (stretch ends)) (drop (length os - length (stretch ends)) os)

-- how many of these turns come no later than one
abbrev pub counted_to : ℕ → List ℕ → ℕ
counted_to due turns = length (filter (λ turn. nat_le turn due) turns)

-- spoiled turns, and one more turn where it wasn't quiet
abbrev pub spoiled_with : List ℕ → ℕ → Bool → List ℕ
spoiled_with turns turn quiet = if quiet then turns else turns ++ turn ∷ []

-- by how many turns a board must be disturbed before steps come too late: 250, and one less for a board whose
-- clock is off
abbrev pub lead_of : ℤ → ℕ
lead_of (pos zero) = 250
lead_of (pos (suc n)) = 249
lead_of (negsuc n) = 249

-- a unit with this first tick may have come too late: with its spill, more turns than the lead were spoiled
-- up to its due turn
abbrev pub may_be_late : ℕ → List ℕ → ℕ → HeldUnit → Bool
may_be_late lead spoiled first h = (h.first == first) && nat_lt lead (counted_to h.due spoiled + h.spill)

-- the spoiled turns and the spill of the first such unit
abbrev pub late_by : ℕ → List ℕ → ℕ → List HeldUnit → ℕ × ℕ
late_by lead spoiled first [] = (0, 0)
late_by lead spoiled first (h ∷ hs) =
    if may_be_late lead spoiled first h then (counted_to h.due spoiled, h.spill) else late_by lead spoiled first hs

-- the spoiled turns and the spill that are told of a shutdown: none, unless a step came too late
abbrev pub spill_told : Bool → ℕ × ℕ → ℕ × ℕ
spill_told true late = late
spill_told false late = (0, 0)

-- what is told of a shutdown beside its reason: of one for steps that came too late, their spoiled turns and
-- their spill
abbrev pub IsCounted : ℕ → List ℕ → List HeldUnit → Option ShutNews → Type 0
IsCounted lead spoiled hs None = Unit {0}
IsCounted lead spoiled hs (Some n) =
    (n.spoiled, n.spill) ≡ spill_told (n.reason == timer_too_close) (late_by lead spoiled n.first hs)

-- by the board's own clock the due turns of units are those of their first ticks; where it is off they may be
-- one turn later
abbrev pub AreDue : BoardClock → List StepUnit → Type 0
AreDue clock [] = Unit {0}
AreDue clock (u ∷ us) = (board_tick clock (u.due - (250 - lead_of clock.drift)) ≤ u.first) × AreDue clock us

-- so the units of each of some turns
abbrev pub AllDue : BoardClock → List Orders → Type 0
AllDue clock [] = Unit {0}
AllDue clock (o ∷ os) = AreDue clock o.batch.units × AllDue clock os
