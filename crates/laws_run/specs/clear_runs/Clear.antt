-- Runs in a scene without entries, in which every unit is sent in time.
use Rattle.std.specs.Prelude.{◌≡◌, ◌⊎◌, ℕ, ◌<◌, pos, List, [], ◌∷◌, length, Some}
use Rattle.plan_types.specs.declared.machine.Machine.{Machine}
use Rattle.plan_types.specs.Machines.{board_at}
use Rattle.step_feed.specs.Pacing.{Release}
use Rattle.section_units.specs.Sections.{BoardSection}
use Rattle.motion_work.specs.Boards.{parts_on}
use Rattle.motion_work.specs.Told.{Told}
use Rattle.session_work.specs.declared.table.MotionTurn.{MotionTurn}
use Rattle.laws_board.specs.sections.Runs.{AreSpilled}
use Rattle.laws_board.specs.plans.Planned.{Plans}

-- each unit that is due before a turn is released before its own
abbrev pub AreSoon : ℕ → List Release → Type 0
AreSoon turns [] = Unit {0}
AreSoon turns (r ∷ rs) = (r.unit.due < turns → r.turn < r.unit.due) × AreSoon turns rs

-- so those of some sections
abbrev pub AllSoon : ℕ → List BoardSection → Type 0
AllSoon turns [] = Unit {0}
AllSoon turns (s ∷ ss) = AreSoon turns s.releases × AllSoon turns ss

-- The planner of a run of a text sends its units soon to every board, those that are due in its turns: where
-- the board's clock is exact, none behind the turn in which it is due; where it drifts, each before that
-- turn.
abbrev pub SendsAllSoon : Machine → List ℕ → List MotionTurn → Type 0
SendsAllSoon m text planned =
    (p : Plans m (length m.boards) planned) (t : Told) (b : ℕ) → p.seen.text ≡ text → p.seen.told ≡ Some t →
    b < length m.boards →
    (((board_at m b).drift ≡ pos 0) × AreSpilled (length p.made) 0 (parts_on m t.clocks p.seen.begun b))
    ⊎ AllSoon (length p.made) (parts_on m t.clocks p.seen.begun b)
