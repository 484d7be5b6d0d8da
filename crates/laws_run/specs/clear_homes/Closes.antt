-- When the switches of homing sections close, by the scene, in a whole run.
use Rattle.std.specs.Prelude.{◌≡◌, ◌<◌, ◌≤◌, ◌+◌, ◌*◌, ℕ, List, [], ◌∷◌, ◌++◌, Some, length}
use Rattle.plan_types.specs.declared.machine.Machine.{Machine}
use Rattle.plan_types.specs.declared.plan.SectionKind.TheVariants.{Home}
use Rattle.plan_types.specs.Clock.{turn_ns}
use Rattle.plan_types.specs.Lines.{Clocks, lines_tick}
use Rattle.plan_types.specs.Machines.{axis_at, board_at}
use Rattle.plan_types.specs.Sections.{clocks_at}
use Rattle.wire_scene.specs.declared.scene.Scene.{Scene}
use Rattle.link_work.specs.Switches.{pins_of}
use Rattle.motion_work.specs.Seen.{Started}
use Rattle.motion_work.specs.Told.{Told}
use Rattle.session_work.specs.declared.table.MotionTurn.{MotionTurn}
use Rattle.session_work.specs.declared.table.ReactorTurn.{ReactorTurn}
use Rattle.session_run.specs.Boards.{came_in}
use Rattle.host_reactor.specs.Runs.{Came}
use Rattle.laws_board.specs.plans.Planned.{Plans, PlannerInput}
use Rattle.laws_homing.specs.missed_groups.Ticks.{IsSwitchTick}
use Rattle.laws_run.specs.home_headline.Cuts.{TellsAnswer}

-- a turn's tick by the clock lines of an axis's board, of those that the planner heard
abbrev pub tick_in : Machine → List Clocks → ℕ → ℕ → ℕ
tick_in m clocks axis turn = lines_tick (clocks_at clocks (axis_at m axis).board) (turn * turn_ns)

-- The tick at which the switch of a homing section's axis closes, by the levels of its pin in the scene: the
-- section reads it from the tick of its start on, and this is the first one at which four readings in a row
-- show it pressed.
abbrev pub ClosesAt : Machine → Scene → List Clocks → Started → ℕ → ℕ → Type 0
ClosesAt m s clocks x axis tick =
    let b = (axis_at m axis).board in
    IsSwitchTick m (pins_of (board_at m b) b s.switches) b (axis_at m axis) (tick_in m clocks axis x.start) tick

-- Each homing section of a text that the planner begun has its switch close before the tick of the turn
-- behind its last planned step.
abbrev pub AllClose : Machine → Scene → List ℕ → List MotionTurn → Type 0
AllClose m s text planned =
    (p : Plans m (length m.boards) planned) (t : Told) → p.seen.text ≡ text → p.seen.told ≡ Some t →
    (past : List Started) (x : Started) (later : List Started) (axis : ℕ) → p.seen.begun ≡ past ++ x ∷ later →
    x.section.kind ≡ Home axis →
    (tick : ℕ) × ClosesAt m s t.clocks x axis tick × (tick < tick_in m t.clocks axis (x.last + 1))

-- The section with this number, of those that were begun, homes, and its switch closes at no tick before that.
pub record MissesSwitch (m : Machine) (s : Scene) (seen : PlannerInput) (section : ℕ) : Type 0 where
  pub told : Told
  pub told_is : seen.told ≡ Some told
  pub past : List Started
  pub x : Started
  pub later : List Started
  pub axis : ℕ
  pub cut : seen.begun ≡ past ++ x ∷ later
  pub number : section ≡ length past
  pub home : x.section.kind ≡ Home axis
  pub late : (tick : ℕ) → ClosesAt m s told.clocks x axis tick → tick_in m told.clocks axis (x.last + 1) ≤ tick

-- The section with this number homes, and its switch closes at this tick.
pub record ClosesFirst (m : Machine) (s : Scene) (seen : PlannerInput) (section tick : ℕ) : Type 0 where
  pub told : Told
  pub told_is : seen.told ≡ Some told
  pub past : List Started
  pub x : Started
  pub later : List Started
  pub axis : ℕ
  pub cut : seen.begun ≡ past ++ x ∷ later
  pub number : section ≡ length past
  pub home : x.section.kind ≡ Home axis
  pub closes : ClosesAt m s told.clocks x axis tick

-- Each of some turns of the reactor, behind what came to it before, that tells that the switch of a homing
-- section closed, tells of the tick at which it closes.
abbrev pub TellFirst : Machine → Scene → PlannerInput → List Came → List ReactorTurn → Type 0
TellFirst m s seen before [] = Unit {0}
TellFirst m s seen before (t ∷ ts) =
    ((x : TellsAnswer m s.switches (came_in t) before t.lines) → ClosesFirst m s seen x.homing.section x.tick)
    × TellFirst m s seen (came_in t ∷ before) ts
