-- What is asked of a whole run: what its boards took while they ran, and what the host heard of their triggers.
use Rattle.std.specs.Prelude.{◌≡◌, ◌≢◌, ◌⊎◌, ℕ, ◌+◌, ◌<◌, List, [], ◌∷◌, ◌++◌, length}
use Rattle.plan_types.specs.declared.machine.Machine.{Machine}
use Rattle.plan_types.specs.Clock.{clock_of}
use Rattle.plan_types.specs.Machines.{board_at}
use Rattle.wire_scene.specs.declared.scene.Scene.{Scene}
use Rattle.link_work.specs.Switches.{pins_of}
use Rattle.motion_work.specs.Seen.{Started}
use Rattle.session_work.specs.declared.table.MotionTurn.{MotionTurn}
use Rattle.session_work.specs.declared.table.ReactorTurn.{ReactorTurn}
use Rattle.session_run.specs.Boards.{came_from, came_in}
use Rattle.laws_board.specs.plans.Planned.{Plans}
use Rattle.laws_run.specs.lanes.Boards.{IsInWhole, turns_behind}
use Rattle.laws_run.specs.lanes.Turns.{came_before}
use Rattle.laws_run.specs.run_headline.Timely.{IsTimelyIn, link_of}
use Rattle.laws_homing.specs.fired_runs.Since.{AllReadTrue, AreSoInTurns, ReadsAsTold}
use Rattle.laws_homing.specs.home_parts.Answers.{TakeSetUps}

-- A board in a whole run takes all near: while it runs it takes no unit half a round of its 32-bit clock,
-- 2^31 ticks, or more after the unit's first tick; and what it reports of its trigger is read as what it
-- told: each report that counts for a homing section as a tick since which the trigger can't trigger.
pub record TakesNear (m : Machine) (s : Scene) (b : ℕ) (planned : List MotionTurn) (first : ReactorTurn)
    (rest : List ReactorTurn)
    (w : IsInWhole m s.switches b (clock_of (board_at m b)) (link_of m s b) planned first rest) : Type 0 where
  pub timely : IsTimelyIn m s b planned first rest w
  pub reads : AllReadTrue m s.switches b (came_before [] (first ∷ rest)) (turns_behind [] w.made)

-- so each board of a whole run of a text in which a section was begun, by the turns of the planner and of the reactor
abbrev pub AllTakeNear : Machine → Scene → List ℕ → List MotionTurn → List ReactorTurn → Type 0
AllTakeNear m s text planned [] = Unit {0}
AllTakeNear m s text planned (first ∷ rest) =
    (p : Plans m (length m.boards) planned) (b : ℕ) → p.seen.text ≡ text → p.seen.begun ≢ [] → b < length m.boards →
    (w : IsInWhole m s.switches b (clock_of (board_at m b)) (link_of m s b) planned first rest) →
    TakesNear m s b planned first rest w

-- So each board of a run that ended for want of memory, in the turns before the last one, which has no lines: by what
-- the planner made up to then.
abbrev pub ShownTakeNear : Machine → Scene → List ℕ → List MotionTurn → List ReactorTurn → Type 0
ShownTakeNear m s text planned turns =
    (front later : List MotionTurn) → planned ≡ front ++ later → length front + 1 ≡ length turns →
    AllTakeNear m s text front turns

-- What each board of a whole run, of the planner's turns and the reactor's, reports of its trigger is read true.
abbrev pub AllReportsReadTrue : Machine → Scene → List MotionTurn → List ReactorTurn → Type 0
AllReportsReadTrue m s planned [] = Unit {0}
AllReportsReadTrue m s planned (first ∷ rest) =
    (b : ℕ) → b < length m.boards →
    (w : IsInWhole m s.switches b (clock_of (board_at m b)) (link_of m s b) planned first rest) →
    AllReadTrue m s.switches b (came_before [] (first ∷ rest)) (turns_behind [] w.made)

-- Of each board of a whole run, by the planner's turns, the reactor's turns before its last one, and this
-- one, each report that its trigger has triggered, which counts for a homing section, is read as what it told
-- (`ReadsAsTold`).
abbrev pub AllReadAsTold : Machine → Scene → List MotionTurn → List ReactorTurn → ReactorTurn → Type 0
AllReadAsTold m s planned [] last = Unit {0}
AllReadAsTold m s planned (first ∷ rest) last =
    (b : ℕ) → b < length m.boards →
    (w : IsInWhole m s.switches b (clock_of (board_at m b)) (link_of m s b) planned first (rest ++ last ∷ [])) →
    AreSoInTurns (ReadsAsTold m s.switches b) (came_in last ∷ came_from [] (first ∷ rest)) (turns_behind [] w.made)

-- A board in a whole run takes the set-up of each homing section in time, or its reports are read true.
abbrev pub SetsUp : (m : Machine) (s : Scene) (b : ℕ) (planned : List MotionTurn) (first : ReactorTurn)
    (rest : List ReactorTurn) (begun : List Started)
    (w : IsInWhole m s.switches b (clock_of (board_at m b)) (link_of m s b) planned first rest) → Type 0
SetsUp m s b planned first rest begun w =
    TakeSetUps m (pins_of (board_at m b) b s.switches) s.entries b begun (turns_behind [] w.made)
    ⊎ AllReadTrue m s.switches b (came_before [] (first ∷ rest)) (turns_behind [] w.made)

-- A board in a whole run keeps up, which is less than to take all near: it is timely, and it takes the set-up of each
-- homing section in time, or its reports are read true.
pub record KeepsUp (m : Machine) (s : Scene) (b : ℕ) (planned : List MotionTurn) (first : ReactorTurn)
    (rest : List ReactorTurn) (begun : List Started)
    (w : IsInWhole m s.switches b (clock_of (board_at m b)) (link_of m s b) planned first rest) : Type 0 where
  pub timely : IsTimelyIn m s b planned first rest w
  pub sets_up : SetsUp m s b planned first rest begun w

-- so each board of a whole run of a text in which a section was begun
abbrev pub AllKeepUp : Machine → Scene → List ℕ → List MotionTurn → List ReactorTurn → Type 0
AllKeepUp m s text planned [] = Unit {0}
AllKeepUp m s text planned (first ∷ rest) =
    (p : Plans m (length m.boards) planned) (b : ℕ) → p.seen.text ≡ text → p.seen.begun ≢ [] → b < length m.boards →
    (w : IsInWhole m s.switches b (clock_of (board_at m b)) (link_of m s b) planned first rest) →
    KeepsUp m s b planned first rest p.seen.begun w

-- So each board of a run that ended for want of memory, in the turns before the last one, which has no lines.
abbrev pub ShownKeepUp : Machine → Scene → List ℕ → List MotionTurn → List ReactorTurn → Type 0
ShownKeepUp m s text planned turns =
    (front later : List MotionTurn) → planned ≡ front ++ later → length front + 1 ≡ length turns →
    AllKeepUp m s text front turns
