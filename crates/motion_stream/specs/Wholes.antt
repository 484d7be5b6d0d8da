-- Whole sections that the text of a machine may still have.
use Rattle.std.specs.Prelude.{◌≡◌, ℕ, ◌+◌, ◌^◌, ◌<◌, ◌≤◌, All, List, [], ◌∷◌, ◌++◌, length, slice_index_or, Option, Some, None}
use Rattle.gcode_program.specs.Programs.{program_sections}
use Rattle.plan_types.specs.declared.machine.Machine.{Machine}
use Rattle.plan_types.specs.declared.plan.Section.{Section}
use Rattle.plan_types.specs.declared.plan.SectionKind.TheVariants.{Home}
use Rattle.section_units.specs.Plans.{AreSentToOn}
use Rattle.motion_work.specs.Homes.{no_end}
use Rattle.motion_work.specs.Puts.{ArePut, Put}
use Rattle.motion_work.specs.Seen.{AreBoardClocks, AreSentBy, AreStarted, IsPlanned, Started, planning_lines, ready_after}
use Rattle.motion_work.specs.Told.{Told}
use Rattle.motion_stream.specs.Seen.{Going, MayBe, Seen, sections_in}

-- a section has no answer, where it homes
abbrev pub HasNoAnswer : Started → Type 0
HasNoAnswer s = (axis : ℕ) → s.section.kind ≡ Home axis → s.end ≡ no_end

-- The last of some sections, which has all units of its plan on each board, such as that is sent before the
-- next turn. Where it homes it has no end.
pub record IsWholeLast (m : Machine) (seen : Seen) (all : List Started) : Type 0 where
  pub past : List Started
  pub s : Started
  pub are : all ≡ past ++ s ∷ []
  pub t : Told
  pub told_is : seen.told ≡ Some t
  pub planned : IsPlanned s.section.kind m t.clocks s
  pub unanswered : HasNoAnswer s
  pub sent : (b : ℕ) → b < length m.boards →
      AreSentToOn m (planning_lines s.section.kind s.end t.clocks) s.section.moves s.start b seen.next
      (slice_index_or s.boards b [])

-- whole sections that what was seen may become, which are the first ones of a whole text; where one goes on,
-- it has all its units
pub record AreOf (m : Machine) (seen : Seen) (whole : List ℕ) (all : List Started) : Type 0 where
  pub may : MayBe m seen whole all
  pub others : List Section
  pub sections : program_sections m whole ≡ sections_in all ++ others
  pub last : (g : Going) → seen.going ≡ Some g → IsWholeLast m seen all

-- Started sections by what is known of connecting. Where it ended, they start one behind the other by these
-- clock lines, from the first turn in which one may; else there is none.
abbrev pub IsToldOf : Machine → Option Told → List Started → Type 0
IsToldOf m None all = all ≡ []
IsToldOf m (Some t) all = AreStarted m t.clocks t.first all × AreBoardClocks m t.clocks t.first × (1_260 ≤ t.first)

-- Where connecting ended, what some sections release before a turn is such as their boards are sent.
abbrev pub AreSentIn : Machine → Option Told → ℕ → List Started → Type 0
AreSentIn m None next all = Unit {0}
AreSentIn m (Some t) next all = AreSentBy m t.clocks next all

-- What a machine has put is told by whole sections, the first ones of a text, that are planned and start one
-- behind the other: all that start in its turns so far or in the 260 behind them, those whose end is known
-- first, as what was seen may become them. There is none before connecting ended. What was put of them is
-- such as the boards are sent: in order, with triples that cover as many steps as one can.
pub record ArePlanned (m : Machine) (seen : Seen) (whole : List ℕ) (ps : List Put) (all : List Started) : Type 0 where
  pub may : MayBe m seen whole all
  pub others : List Section
  pub sections : program_sections m whole ≡ sections_in all ++ others
  pub put : ArePut m whole all 0 ps
  pub count : length ps ≡ seen.next
  pub small : seen.next ≤ 2 ^ 42
  pub started : All (λ s. s.start < seen.next + 260) all
  pub told : IsToldOf m seen.told all
  pub sent : AreSentIn m seen.told seen.next all
  pub due : (t : Told) (s : Section) (rest : List Section) → seen.told ≡ Some t → others ≡ s ∷ rest →
      seen.next + 260 ≤ ready_after t.first all + s.dwell
  pub more : List Started
  pub begun : all ≡ seen.begun ++ more
  pub unanswered : All HasNoAnswer more
