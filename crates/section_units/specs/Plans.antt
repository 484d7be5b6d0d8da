-- The plan of a section, board by board.
use Rattle.std.specs.Prelude.{◌≡◌, ℕ, ◌+◌, ◌<◌, ◌==◌, Bool, false, List, [], ◌∷◌, All, length, slice_index_or, if◌then◌else◌}
use Rattle.plan_types.specs.declared.machine.Machine.{Machine}
use Rattle.plan_types.specs.declared.machine.StepperDef.{StepperDef}
use Rattle.plan_types.specs.declared.plan.Move.{Move}
use Rattle.plan_types.specs.declared.plan.Planned.{Planned}
use Rattle.plan_types.specs.Lines.{Clocks}
use Rattle.plan_types.specs.Clock.{tick_limit}
use Rattle.plan_types.specs.Machines.{board_at}
use Rattle.plan_types.specs.Plan.{AreSpaced}
use Rattle.plan_types.specs.Sections.{base_tick, clocks_at, section_end, section_plans, stepper_plan}
use Rattle.step_feed.specs.Pacing.{Release}
use Rattle.section_units.specs.Fronts.{IsFrontBy}
use Rattle.section_units.specs.Merged.{section_of}
use Rattle.section_units.specs.Sections.{BoardSection, IsWholeBy}
use Rattle.section_units.specs.Sent.{AreSent, AreSentTo}
use Rattle.section_units.specs.Units.{as_sent}

-- The plans of a board's steppers among those of all steppers, in the directions that are sent: that of
-- object id i stands at place i.
abbrev pub board_plans : ℕ → List StepperDef → List (List Planned) → List (List Planned)
board_plans b [] plans = []
board_plans b (s ∷ steppers) [] = []
board_plans b (s ∷ steppers) (p ∷ plans) =
    if s.board == b then as_sent s.inverted p ∷ board_plans b steppers plans else board_plans b steppers plans

-- the plan of one of them, where it is a stepper of the board
abbrev pub one_plan : ℕ → StepperDef → List Planned → List (List Planned)
one_plan b s p = if s.board == b then as_sent s.inverted p ∷ [] else []

-- the plans of a board in a section of some moves that starts in a turn
abbrev pub plans_on : Machine → List Clocks → List Move → ℕ → ℕ → List (List Planned)
plans_on m clocks moves start b = board_plans b m.steppers (section_plans m clocks moves start)

-- the section on a board, with its units
abbrev pub section_on : Machine → List Clocks → List Move → ℕ → ℕ → List Release → BoardSection
section_on m clocks moves start b releases =
    section_of start (section_end m clocks moves start) (plans_on m clocks moves start b) releases

-- these releases are those of the section on a board, which homes or not
abbrev pub IsOnBoardBy : Bool → Machine → List Clocks → List Move → ℕ → ℕ → List Release → Type 0
IsOnBoardBy homing m clocks moves start b rs =
    IsWholeBy homing (clocks_at clocks b) (board_at m b).freq (board_at m b).slots
    (section_on m clocks moves start b rs)

-- and of one that does not home
abbrev pub IsOnBoard : Machine → List Clocks → List Move → ℕ → ℕ → List Release → Type 0
IsOnBoard m clocks moves start b rs = IsOnBoardBy false m clocks moves start b rs

-- these releases on a board are such as it is sent of the section, and those before a turn are
abbrev pub AreSentOn : Machine → List Clocks → List Move → ℕ → ℕ → List Release → Type 0
AreSentOn m clocks moves start b rs =
    AreSent (clocks_at clocks b) (board_at m b).freq (section_on m clocks moves start b rs)

-- the releases on a board before a turn are such as it is sent of the section
abbrev pub AreSentToOn : Machine → List Clocks → List Move → ℕ → ℕ → ℕ → List Release → Type 0
AreSentToOn m clocks moves start b turn rs =
    AreSentTo (clocks_at clocks b) (board_at m b).freq turn (section_on m clocks moves start b rs)

-- these are the releases of the section on all boards, which homes or not
pub record AreOnBoardsBy (homing : Bool) (m : Machine) (clocks : List Clocks) (moves : List Move) (start : ℕ)
    (boards : List (List Release)) : Type 0 where
  pub count : length boards ≡ length m.boards
  pub each : (b : ℕ) → b < length m.boards → IsOnBoardBy homing m clocks moves start b (slice_index_or boards b [])

-- and of one that does not home
abbrev pub AreOnBoards : Machine → List Clocks → List Move → ℕ → List (List Release) → Type 0
AreOnBoards m clocks moves start boards = AreOnBoardsBy false m clocks moves start boards

-- these releases are the first ones of the section on a board, which homes or not, of which more may follow
abbrev pub IsFrontOnBy : Bool → Machine → List Clocks → List Move → ℕ → ℕ → List Release → Type 0
IsFrontOnBy homing m clocks moves start b rs =
    IsFrontBy homing (clocks_at clocks b) (board_at m b).freq (board_at m b).slots
    (section_on m clocks moves start b rs)

-- and of one that does not home
abbrev pub IsFrontOn : Machine → List Clocks → List Move → ℕ → ℕ → List Release → Type 0
IsFrontOn m clocks moves start b rs = IsFrontOnBy false m clocks moves start b rs

-- the steppers' plans are spaced and stay within the limits
pub record ArePlansOf (m : Machine) (clocks : List Clocks) (moves : List Move) (start : ℕ) : Type 0 where
  pub spaced : (s : ℕ) → s < length m.steppers →
      AreSpaced (base_tick m clocks start s) (stepper_plan m clocks moves start s)
  pub small : (s : ℕ) → s < length m.steppers → All (λ q. q.tick + 1 < tick_limit) (stepper_plan m clocks moves start s)
