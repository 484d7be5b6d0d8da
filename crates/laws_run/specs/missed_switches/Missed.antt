-- A run that ends as no switch closed: its homing section misses its switch, in any scene.
use Rattle.std.specs.Prelude.{◌≡◌, ◌<◌, ◌≤◌, ◌+◌, ℕ, List, [], ◌∷◌, ◌++◌, None, Some, length}
use Rattle.plan_types.specs.declared.machine.Machine.{Machine}
use Rattle.plan_types.specs.declared.plan.SectionKind.TheVariants.{Home}
use Rattle.plan_types.specs.Clock.{clock_of}
use Rattle.plan_types.specs.Machines.{axis_at, board_at}
use Rattle.msg_code.specs.declared.talk.State.{State}
use Rattle.wire_scene.specs.declared.scene.Scene.{Scene}
use Rattle.link_work.specs.Switches.{pins_of}
use Rattle.motion_work.specs.Seen.{Started}
use Rattle.motion_work.specs.Told.{Told}
use Rattle.session_work.specs.Rows.{item}
use Rattle.session_work.specs.declared.table.MotionTurn.{MotionTurn}
use Rattle.session_work.specs.declared.table.ReactorTurn.{ReactorTurn}
use Rattle.session_run.specs.Boards.{came_from}
use Rattle.laws_board.specs.plans.Planned.{PlannerInput}
use Rattle.laws_homing.specs.missed_runs.Missed.{IsMissedOf}
use Rattle.laws_homing.specs.switch_runs.Taken.{TookHome}
use Rattle.laws_run.specs.clear_homes.Closes.{MissesSwitch, tick_in}
use Rattle.laws_run.specs.lanes.Boards.{IsInWhole, turns_behind}
use Rattle.laws_run.specs.run_headline.Timely.{link_of}

-- no state of a board that comes in a turn tells of a shutdown
abbrev pub NoneShut : Machine → ReactorTurn → Type 0
NoneShut m turn =
    (b : ℕ) (state : State) → b < length m.boards → item b turn.states ≡ state ∷ [] → state.shut ≡ None

-- The homing section with this number, of those that were begun, misses its switch in a whole run: up to a tick that
-- isn't before the tick of the turn behind its last planned step, by the clock lines that the planner was told
-- (`IsMissedOf`). Where its axis's board took the section's command before its start, the switch closes at no tick,
-- from the start on, before that of this turn (`MissesSwitch`).
pub record IsMissedIn (m : Machine) (s : Scene) (seen : PlannerInput) (planned : List MotionTurn) (first : ReactorTurn)
    (rest : List ReactorTurn) (last : ReactorTurn) (section : ℕ) : Type 0 where
  pub told : Told
  pub told_is : seen.told ≡ Some told
  pub past : List Started
  pub x : Started
  pub later : List Started
  pub axis : ℕ
  pub cut : seen.begun ≡ past ++ x ∷ later
  pub number : section ≡ length past
  pub home : x.section.kind ≡ Home axis
  pub board : ℕ
  pub board_is : board ≡ (axis_at m axis).board
  pub there : board < length m.boards
  pub w : IsInWhole m s.switches board (clock_of (board_at m board)) (link_of m s board) planned first
      (rest ++ last ∷ [])
  pub until : ℕ
  pub is : IsMissedOf m s.switches (pins_of (board_at m board) board s.switches) s.entries board x.start axis
      (came_from [] (first ∷ rest)) (turns_behind [] w.made) until
  pub late : tick_in m told.clocks axis (x.last + 1) ≤ until
  pub exact : (turn : ℕ) → TookHome (link_of m s board) x.start (turns_behind [] w.made) turn → turn < x.start →
      MissesSwitch m s seen section

-- so in a whole run, by what was begun, the planner's turns, the reactor's turns before its last one, and this one
abbrev pub Misses : Machine → Scene → PlannerInput → List MotionTurn → List ReactorTurn → ReactorTurn → ℕ → Type 0
Misses m s seen planned [] last section = ⊥
Misses m s seen planned (first ∷ rest) last section = IsMissedIn m s seen planned first rest last section
