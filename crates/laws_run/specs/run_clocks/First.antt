-- When the first clock line of a board in a whole run is exact.
use Rattle.std.specs.Prelude.{◌≡◌, ℕ, ◌<◌, ◌++◌, true, List, [], ◌∷◌, length}
use Rattle.plan_types.specs.declared.clock.BoardClock.{BoardClock}
use Rattle.plan_types.specs.declared.machine.Machine.{Machine}
use Rattle.plan_types.specs.declared.plan.Line.{Line}
use Rattle.plan_types.specs.Clock.{clock_of}
use Rattle.plan_types.specs.Lines.{Clocks}
use Rattle.plan_types.specs.Machines.{board_at}
use Rattle.plan_types.specs.Sections.{clocks_at}
use Rattle.wire_scene.specs.declared.scene.Scene.{Scene}
use Rattle.wire_scene.specs.declared.scene.Way.TheVariants.{Down, Up}
use Rattle.wire_scene.specs.Wire.{entries_of}
use Rattle.laws_board.specs.turns.Turns.{stands_after}
use Rattle.laws_board.specs.clocks.Near.{IsUndisturbed}
use Rattle.laws_board.specs.causes.Causes.{before_turn}
use Rattle.session_work.specs.declared.table.MotionTurn.{MotionTurn}
use Rattle.session_work.specs.declared.table.ReactorTurn.{ReactorTurn}
use Rattle.laws_run.specs.lanes.Boards.{IsInWhole, turns_behind}
use Rattle.laws_run.specs.run_headline.Near.{FollowsClock}
use Rattle.laws_run.specs.run_headline.Timely.{link_of}
use Rattle.laws_run.specs.run_turns.Starts.{EndsConnecting}

-- on a board's link in a whole run no entry of the scene was used before a turn
abbrev pub IsUndisturbedBefore : Machine → Scene → ℕ → ℕ → List MotionTurn → List ReactorTurn → Type 0
IsUndisturbedBefore m s b k planned [] = Unit {0}
IsUndisturbedBefore m s b k planned (first ∷ rest) =
    (w : IsInWhole m s.switches b (clock_of (board_at m b)) (link_of m s b) planned first rest) →
    IsUndisturbed (stands_after (link_of m s b) (before_turn k (turns_behind [] w.made)))

-- a clock line of a board follows its clock, of a sample that was got in the turn in which it was sent
abbrev pub IsTakenAtOnce : BoardClock → Line → Type 0
IsTakenAtOnce clock line = (x : FollowsClock clock line) × (x.got ≡ x.sent)

-- The boards' first clock lines in a whole run, by the turns of the planner, those of the reactor before its
-- last one, and this one: where no entry of the scene was used on a board's link before the turn in which
-- connecting ended, as where the scene has none of the link's lines for the time while connecting, the
-- board's line is taken at once. So the tick in it is the board's own of the turn with which it begins; and
-- where the board's clock is exact, so is the line from that turn on.
pub record AreFirstTaken (m : Machine) (s : Scene) (planned : List MotionTurn) (turns : List ReactorTurn)
    (last : ReactorTurn) (clocks : List Clocks) : Type 0 where
  pub connected : ℕ
  pub ends : EndsConnecting m s.switches turns connected
  pub unused : (b : ℕ) → b < length m.boards → entries_of b Down true s.entries ≡ [] →
      entries_of b Up true s.entries ≡ [] → IsUndisturbedBefore m s b connected planned (turns ++ last ∷ [])
  pub taken : (b : ℕ) → b < length m.boards → IsUndisturbedBefore m s b connected planned (turns ++ last ∷ []) →
      IsTakenAtOnce (clock_of (board_at m b)) (clocks_at clocks b).first
