-- A run that ends as a board expired, and the links of the boards of its homing section, in any scene.
use Rattle.std.specs.Prelude.{◌≡◌, ◌<◌, ◌≤◌, ◌+◌, ◌-◌, ℕ, List, [], ◌∷◌, ◌++◌, Some, length}
use Rattle.plan_types.specs.declared.machine.Machine.{Machine}
use Rattle.plan_types.specs.Clock.{clock_of}
use Rattle.plan_types.specs.Machines.{board_at}
use Rattle.wire_scene.specs.declared.scene.Scene.{Scene}
use Rattle.board_asking.specs.Machine.{trigger_of}
use Rattle.laws_board.specs.turns.Turns.{BoardTurn}
use Rattle.axis_homing.specs.declared.homing.Homing.{Homing}
use Rattle.axis_homing.specs.Rising.{members_of}
use Rattle.host_reactor.specs.Notes.{noted}
use Rattle.host_reactor.specs.Runs.{known_by}
use Rattle.session_work.specs.declared.table.MotionTurn.{MotionTurn}
use Rattle.session_work.specs.declared.table.ReactorTurn.{ReactorTurn}
use Rattle.session_run.specs.Boards.{came_from, came_in}
use Rattle.laws_homing.specs.home_runs.Guards.{HasFired}
use Rattle.laws_homing.specs.home_runs.Sections.{TakesSetUp}
use Rattle.laws_homing.specs.home_runs.Told.{IsMember}
use Rattle.laws_homing.specs.switch_runs.Reports.{WasReported}
use Rattle.laws_homing.specs.fired_runs.Since.{IsFiredAt, WasFiredAt}
use Rattle.laws_homing.specs.hindered.Hindered.{HeardByNow, HinderedIn, StoodAt}
use Rattle.laws_run.specs.lanes.Boards.{IsInWhole, turns_behind}
use Rattle.laws_run.specs.run_headline.Timely.{link_of}

-- The link of a board of a homing section was hindered in a whole run, in a turn from a number on and up to another
-- one: the turn wasn't quiet, or commands waited as it ended.
pub record HasHindered (m : Machine) (s : Scene) (planned : List MotionTurn) (first : ReactorTurn)
    (rest : List ReactorTurn) (last : ReactorTurn) (h : Homing) (from to : ℕ) : Type 0 where
  pub board : ℕ
  pub member : IsMember board (members_of h.group)
  pub there : board < length m.boards
  pub w : IsInWhole m s.switches board (clock_of (board_at m board)) (link_of m s board) planned first
      (rest ++ last ∷ [])
  pub hindered : HinderedIn from to (turns_behind [] w.made)

-- the board of each member of a homing section took the section's set-up in time
abbrev pub AllTookSetUp : Machine → Scene → List MotionTurn → ReactorTurn → List ReactorTurn → ReactorTurn → Homing →
    Type 0
AllTookSetUp m s planned first rest last h =
    (b : ℕ) → IsMember b (members_of h.group) →
    (w : IsInWhole m s.switches b (clock_of (board_at m b)) (link_of m s b) planned first (rest ++ last ∷ [])) →
    TakesSetUp (link_of m s b) h.start (turns_behind [] w.made)

-- A run ends as a board expired in a turn: the board told so in the homing section that is under way, of a tick since
-- which its trigger stood expired (2) as some of its turns ended; and by the first of these, as by each, the link of a
-- board of the section was hindered, from 252 turns before its start on. It was so in such a turn or in one of the 37
-- before it, where that is 41 turns behind the start or later and at most four behind the section's last one; where the
-- section's boards took its set-up in time; where 12 turns before it the board's own trigger could still trigger; and
-- where the group heard of the board as able to trigger in no turn to come.
pub record IsHinderedIn (m : Machine) (s : Scene) (planned : List MotionTurn) (first : ReactorTurn)
    (rest : List ReactorTurn) (last : ReactorTurn) (board turn : ℕ) : Type 0 where
  pub homing : Homing
  pub known : (noted m last.note (known_by m s.switches (came_from [] (first ∷ rest)))).homing ≡ Some homing
  pub tick : ℕ
  pub told : WasReported m s.switches board homing.start (record { reason = 2; tick = tick; turn = turn })
      (came_in last ∷ came_from [] (first ∷ rest))
  pub there : board < length m.boards
  pub w : IsInWhole m s.switches board (clock_of (board_at m board)) (link_of m s board) planned first
      (rest ++ last ∷ [])
  pub expired : WasFiredAt (trigger_of m board) 2 tick (turns_behind [] w.made)
  pub hindered : (later : List BoardTurn) (t : BoardTurn) (past : List BoardTurn) →
      turns_behind [] w.made ≡ later ++ t ∷ past → IsFiredAt (trigger_of m board) 2 tick t.after.core.board →
      HasHindered m s planned first rest last homing (homing.start - 252) (length past)
  pub lately : (later : List BoardTurn) (t : BoardTurn) (past : List BoardTurn) →
      turns_behind [] w.made ≡ later ++ t ∷ past → IsFiredAt (trigger_of m board) 2 tick t.after.core.board →
      homing.start + 41 ≤ length past → length past ≤ homing.group.last + 4 →
      HeardByNow m s.switches board homing.start (came_in last ∷ came_from [] (first ∷ rest)) →
      AllTookSetUp m s planned first rest last homing →
      StoodAt (λ r. HasFired (trigger_of m board) r → ⊥) (length past - 12) (turns_behind [] w.made) →
      HasHindered m s planned first rest last homing (length past - 37) (length past)

-- so in a run, by the planner's turns, the reactor's turns before its last one, and this one
abbrev pub HasHinderedLink : Machine → Scene → ℕ → ℕ → List MotionTurn → List ReactorTurn → ReactorTurn → Type 0
HasHinderedLink m s board turn planned [] last = ⊥
HasHinderedLink m s board turn planned (first ∷ rest) last = IsHinderedIn m s planned first rest last board turn
