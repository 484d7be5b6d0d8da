-- The homing section that the reactor knows is one of a board's.
use Rattle.std.specs.Prelude.{◌≡◌, true, List, ◌∷◌, ◌++◌, Option, Some, None}
use Rattle.plan_types.specs.Lines.{Clocks}
use Rattle.clock_line.specs.Early.{turn_tick}
use Rattle.axis_homing.specs.declared.homing.Homing.{Homing}
use Rattle.section_units.specs.Sections.{base_of}
use Rattle.laws_board.specs.sections.Homes.{RunSection}

-- A homing section that is under way is among the sections of a board, starts in the same turn, and by the
-- clock lines that are known of the board at the same tick.
pub record IsUnderWay (h : Homing) (known clocks : Clocks) (ss : List RunSection) : Type 0 where
  pub together : h.group.start ≡ h.start
  pub past : List RunSection
  pub section : RunSection
  pub later : List RunSection
  pub are : ss ≡ past ++ section ∷ later
  pub homes : section.homes ≡ true
  pub start : section.section.start ≡ h.start
  pub base : turn_tick known h.start ≡ base_of clocks section.section

-- the homing section that is under way, if one is, is among the sections of a board
abbrev pub IsOneOf : Option Homing → Clocks → Clocks → List RunSection → Type 0
IsOneOf None known clocks ss = Unit {0}
IsOneOf (Some h) known clocks ss = IsUnderWay h known clocks ss
