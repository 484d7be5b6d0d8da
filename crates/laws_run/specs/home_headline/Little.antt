-- Limits under which the boards of a whole run keep up, in which axes home.
use Rattle.std.specs.Prelude.{◌≡◌, ◌≢◌, ◌⊎◌, ◌-◌, ◌<◌, ◌≤◌, ℕ, List, [], ◌∷◌, Some, length, take}
use Rattle.plan_types.specs.declared.machine.Machine.{Machine}
use Rattle.plan_types.specs.Clock.{clock_of}
use Rattle.plan_types.specs.Machines.{board_at}
use Rattle.wire_scene.specs.declared.scene.Scene.{Scene}
use Rattle.link_work.specs.Ends.{spoiled}
use Rattle.laws_board.specs.turns.Turns.{stands_after}
use Rattle.motion_work.specs.Boards.{parts_on}
use Rattle.motion_work.specs.Seen.{Started}
use Rattle.motion_work.specs.Told.{Told}
use Rattle.session_work.specs.declared.table.MotionTurn.{MotionTurn}
use Rattle.session_work.specs.declared.table.ReactorTurn.{ReactorTurn}
use Rattle.laws_board.specs.sections.Homes.{AreOut}
use Rattle.laws_board.specs.sections.Links.{ends_of, turns_told}
use Rattle.laws_board.specs.sections.Runs.{AreSpilled}
use Rattle.laws_board.specs.plans.Homed.{runs_on}
use Rattle.laws_board.specs.plans.Planned.{Plans}
use Rattle.laws_run.specs.lanes.Boards.{IsInWhole, turns_behind, orders_of, states_of}
use Rattle.laws_run.specs.run_headline.Timely.{link_of}
use Rattle.laws_run.specs.home_headline.Near.{SetsUp}

-- A board in a whole run in which axes home holds little: of the units that are due in the planner's turns
-- none is sent more than so many turns behind the turn in which it is due, 10,700 at most; the scene has no
-- entries, or no busy stretch of the board's link has more spoiled turns than are left of 10,700; and it
-- takes the set-up of each homing section in time, or its reports are read true.
pub record HomesLittle (m : Machine) (s : Scene) (b : ℕ) (planned : List MotionTurn) (first : ReactorTurn)
    (rest : List ReactorTurn) (turns : ℕ) (t : Told) (begun : List Started)
    (w : IsInWhole m s.switches b (clock_of (board_at m b)) (link_of m s b) planned first rest) : Type 0 where
  pub late : ℕ
  pub most : late ≤ 10_700
  pub spilled : AreSpilled turns late (parts_on m t.clocks begun b)
  pub few : (s.entries ≡ [])
      ⊎ ((k : ℕ) → spoiled (take k (ends_of (clock_of (board_at m b)) 0 (orders_of w.made) (link_of m s b)
      (stands_after (link_of m s b) (turns_behind [] w.made))
      (turns_told (clock_of (board_at m b)) 0 (orders_of w.made) (states_of w.made) (link_of m s b)
      (stands_after (link_of m s b) (turns_behind [] w.made)) w.told))) ≤ 10_700 - late)
  pub sets_up : SetsUp m s b planned first rest begun w

-- so each board of a whole run of a text in which a section was begun, by the turns of the planner and of the reactor
abbrev pub AllHomeLittle : Machine → Scene → List ℕ → List MotionTurn → List ReactorTurn → Type 0
AllHomeLittle m s text planned [] = Unit {0}
AllHomeLittle m s text planned (first ∷ rest) =
    (p : Plans m (length m.boards) planned) (t : Told) (b : ℕ) → p.seen.text ≡ text → p.seen.told ≡ Some t →
    p.seen.begun ≢ [] → b < length m.boards →
    (w : IsInWhole m s.switches b (clock_of (board_at m b)) (link_of m s b) planned first rest) →
    HomesLittle m s b planned first rest (length p.made) t p.seen.begun w

-- The planner of a run of a text sends those units of a section of moves that are sent behind the turn in which they
-- are due by four turns behind the section's end, to every board, of those that are due in its turns.
abbrev pub SendsOut : Machine → List ℕ → List MotionTurn → Type 0
SendsOut m text planned =
    (p : Plans m (length m.boards) planned) (t : Told) (b : ℕ) → p.seen.text ≡ text → p.seen.told ≡ Some t →
    b < length m.boards → AreOut (length p.made) (runs_on m t.clocks p.seen.begun b)

-- The planner of a run of a text sends its units in time to every board: of those that are due in its turns
-- none behind the turn in which it is due.
abbrev pub SendsAllInTime : Machine → List ℕ → List MotionTurn → Type 0
SendsAllInTime m text planned =
    (p : Plans m (length m.boards) planned) (t : Told) (b : ℕ) → p.seen.text ≡ text → p.seen.told ≡ Some t →
    b < length m.boards → AreSpilled (length p.made) 0 (parts_on m t.clocks p.seen.begun b)

-- So much suffices in a scene without entries: of those that are due in the planner's turns no unit is sent more than
-- 10,700 turns behind the turn in which it is due.
abbrev pub SendsNear : Machine → List ℕ → List MotionTurn → Type 0
SendsNear m text planned =
    (p : Plans m (length m.boards) planned) (t : Told) (b : ℕ) → p.seen.text ≡ text → p.seen.told ≡ Some t →
    b < length m.boards → AreSpilled (length p.made) 10_700 (parts_on m t.clocks p.seen.begun b)
