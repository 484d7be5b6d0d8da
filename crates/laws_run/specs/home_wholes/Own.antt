-- The answer of a homing section is its trigger tick, in a whole run in which axes home.
use Rattle.std.specs.Prelude.{◌≡◌, ◌≢◌, ◌<◌, ℕ, List, [], ◌∷◌, ◌++◌, length}
use Rattle.plan_types.specs.declared.machine.Machine.{Machine}
use Rattle.plan_types.specs.declared.plan.SectionKind.TheVariants.{Home}
use Rattle.plan_types.specs.Clock.{clock_of}
use Rattle.plan_types.specs.Machines.{axis_at, board_at}
use Rattle.wire_scene.specs.declared.scene.Scene.{Scene}
use Rattle.link_work.specs.Switches.{pins_of}
use Rattle.host_reactor.specs.Runs.{Came}
use Rattle.laws_board.specs.turns.Turns.{BoardTurn}
use Rattle.motion_work.specs.Seen.{Started}
use Rattle.session_work.specs.declared.table.MotionTurn.{MotionTurn}
use Rattle.session_work.specs.declared.table.ReactorTurn.{ReactorTurn}
use Rattle.session_run.specs.Boards.{came_in}
use Rattle.laws_board.specs.plans.Planned.{Plans, PlannerInput}
use Rattle.laws_run.specs.lanes.Boards.{IsInWhole, turns_behind}
use Rattle.laws_run.specs.lanes.Turns.{came_before}
use Rattle.laws_run.specs.run_headline.Timely.{link_of}
use Rattle.laws_homing.specs.fired_runs.Since.{AllRead, ReadsSwitchTrue}
use Rattle.laws_homing.specs.switch_runs.Taken.{IsTriggerOf}
use Rattle.laws_homing.specs.home_parts.Answers.{TakeSetUps}
use Rattle.laws_run.specs.clear_homes.Closes.{ClosesFirst}
use Rattle.laws_run.specs.home_headline.Cuts.{TellsAnswer}

-- Of each board of a whole run, of which the planner made some turns and the reactor these, each report that readings
-- triggered its trigger, which counts for a homing section with its endstop, is read true: as a tick since which the
-- trigger can't trigger, for that reason.
abbrev pub AllSwitchesReadTrue : Machine → Scene → List MotionTurn → List ReactorTurn → Type 0
AllSwitchesReadTrue m s planned [] = Unit {0}
AllSwitchesReadTrue m s planned (first ∷ rest) =
    (b : ℕ) → b < length m.boards →
    (w : IsInWhole m s.switches b (clock_of (board_at m b)) (link_of m s b) planned first rest) →
    AllRead (ReadsSwitchTrue m s.switches b) (came_before [] (first ∷ rest)) (turns_behind [] w.made)

-- The tick is the trigger tick of the homing section with this number, of those that were begun, in a whole run: by
-- what came to the reactor before a turn, and the turns of its axis's board by then. Where the board took the
-- section's command before its start, it is the first tick, from the start on, at which four readings in a row show
-- the switch pressed.
pub record IsTriggerIn (m : Machine) (s : Scene) (seen : PlannerInput) (planned : List MotionTurn) (first : ReactorTurn)
    (rest : List ReactorTurn) (section : ℕ) (before : List Came) (tick : ℕ) : Type 0 where
  pub past : List Started
  pub x : Started
  pub later : List Started
  pub axis : ℕ
  pub cut : seen.begun ≡ past ++ x ∷ later
  pub number : section ≡ length past
  pub home : x.section.kind ≡ Home axis
  pub board : ℕ
  pub board_is : board ≡ (axis_at m axis).board
  pub there : board < length m.boards
  pub w : IsInWhole m s.switches board (clock_of (board_at m board)) (link_of m s board) planned first rest
  -- the board's turns, behind that turn and before it
  pub others : List BoardTurn
  pub turns : List BoardTurn
  pub are : turns_behind [] w.made ≡ others ++ turns
  pub long : length turns ≡ length before
  pub is : IsTriggerOf m s.switches (pins_of (board_at m board) board s.switches) s.entries board x.start axis before
      turns tick
  pub exact : is.turn < x.start → ClosesFirst m s seen section tick

-- Each of some turns of the reactor, behind what came to it before, that tells that the switch of a homing section
-- closed, tells of the section's trigger tick.
abbrev pub TellTriggersBehind : Machine → Scene → PlannerInput → List MotionTurn → ReactorTurn →
    List ReactorTurn → List Came
    → List ReactorTurn → Type 0
TellTriggersBehind m s seen planned first rest before [] = Unit {0}
TellTriggersBehind m s seen planned first rest before (t ∷ ts) =
    ((x : TellsAnswer m s.switches (came_in t) before t.lines) →
    IsTriggerIn m s seen planned first rest x.homing.section before x.tick)
    × TellTriggersBehind m s seen planned first rest (came_in t ∷ before) ts

-- so in a whole run, by what was begun, the planner's turns, the reactor's turns before its last one, and this one
abbrev pub TellTriggers : Machine → Scene → PlannerInput → List MotionTurn → List ReactorTurn → ReactorTurn → Type 0
TellTriggers m s seen planned [] last = Unit {0}
TellTriggers m s seen planned (first ∷ rest) last =
    TellTriggersBehind m s seen planned first (rest ++ last ∷ []) [] (first ∷ rest)

-- Each board of a whole run of a text takes the set-up of each homing section that was begun in time.
abbrev pub AllTakeInTime : Machine → Scene → List ℕ → List MotionTurn → List ReactorTurn → Type 0
AllTakeInTime m s text planned [] = Unit {0}
AllTakeInTime m s text planned (first ∷ rest) =
    (p : Plans m (length m.boards) planned) (b : ℕ) → p.seen.text ≡ text → p.seen.begun ≢ [] → b < length m.boards →
    (w : IsInWhole m s.switches b (clock_of (board_at m b)) (link_of m s b) planned first rest) →
    TakeSetUps m (pins_of (board_at m b) b s.switches) s.entries b p.seen.begun (turns_behind [] w.made)
