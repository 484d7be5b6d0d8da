-- What one board has of the sections of a run in which axes home.
use Rattle.std.specs.Prelude.{◌≡◌, ℕ, ◌+◌, ◌<◌, ◌&&◌, Bool, true, List, [], ◌∷◌, All, map, nat_le, Option, Some, None, if◌then◌else◌}
use Rattle.plan_types.specs.declared.machine.Machine.{Machine}
use Rattle.plan_types.specs.Lines.{Clocks}
use Rattle.plan_types.specs.Sections.{section_end, is_home}
use Rattle.section_units.specs.Sections.{AreBefore}
use Rattle.link_work.specs.Turn.{Orders}
use Rattle.laws_board.specs.sections.Homes.{IsControlIn, RunSection}
use Rattle.motion_work.specs.Homes.{no_end}
use Rattle.motion_work.specs.Seen.{Started, part_on}

-- the section that a board has of one that was begun, and whether it homes an axis
abbrev pub run_on : Machine → List Clocks → ℕ → Started → RunSection
run_on m clocks b s = record { section = part_on m clocks s b; homes = is_home s.section.kind }

-- the sections of a board
abbrev pub runs_on : Machine → List Clocks → List Started → ℕ → List RunSection
runs_on m clocks begun b = map (run_on m clocks b) begun

-- in a turn the clocks of a section that starts in another are set: 254 to 252 turns before
abbrev pub is_set_in : ℕ → ℕ → Bool
is_set_in start turn = nat_le start (turn + 254) && nat_le (turn + 252) start

-- Where the parts of steppers' steps stop that are begun in a turn: those of homing sections with the end of
-- the section, all others don't.
abbrev pub stops_of : List Started → ℕ → Option ℕ
stops_of [] turn = None
stops_of (s ∷ begun) turn = if is_home s.section.kind && is_set_in s.start turn then Some s.end else stops_of begun turn

-- the planned ends of these sections are before a turn, and long before that in which a section ends that has no answer
abbrev pub ArePlannedBefore : Machine → List Clocks → ℕ → List Started → Type 0
ArePlannedBefore m clocks until [] = Unit {0}
ArePlannedBefore m clocks until (s ∷ begun) =
    (section_end m clocks s.section.moves s.start < until) × (section_end m clocks s.section.moves s.start + 6 < no_end)
    × ArePlannedBefore m clocks until begun

-- no unit of those of these sections that home is released on a board more than five turns behind the planned
-- end of its section
abbrev pub AreOutInTime : Machine → List Clocks → ℕ → List Started → Type 0
AreOutInTime m clocks b [] = Unit {0}
AreOutInTime m clocks b (s ∷ begun) =
    (is_home s.section.kind ≡ true →
    AreBefore (section_end m clocks s.section.moves s.start + 6) (part_on m clocks s b).releases)
    × AreOutInTime m clocks b begun

-- the controls of turns from a number on are those of a run in which axes home
abbrev pub TookControlsIn : Clocks → List RunSection → ℕ → List Orders → Type 0
TookControlsIn clocks ss turn [] = Unit {0}
TookControlsIn clocks ss turn (o ∷ os) =
    All (IsControlIn clocks ss turn) o.control.commands × TookControlsIn clocks ss (turn + 1) os
