-- Why a whole run ends for a board that gives no answer, or whose clock line is too old.
use Rattle.std.specs.Prelude.{◌<◌, ◌≤◌, ℕ, List, [], ◌∷◌, ◌++◌, All, length}
use Rattle.plan_types.specs.declared.machine.Machine.{Machine}
use Rattle.plan_types.specs.Clock.{clock_of}
use Rattle.plan_types.specs.Machines.{board_at}
use Rattle.wire_scene.specs.declared.scene.Scene.{Scene}
use Rattle.board_asking.specs.Machine.{configuration}
use Rattle.board_asking.specs.Turns.{AreUnanswered}
use Rattle.host_reactor.specs.Runs.{told_by}
use Rattle.laws_board.specs.clocks.Runs.{UnitsFit}
use Rattle.laws_board.specs.causes.Causes.{AllUnanswered, AreAskedAndHindered, AreHindered, AreInRow, AsksNoneBetween, IsDisturbedAround}
use Rattle.session_work.specs.declared.table.MotionTurn.{MotionTurn}
use Rattle.session_work.specs.declared.table.ReactorTurn.{ReactorTurn}
use Rattle.session_run.specs.Boards.{came_from, came_in}
use Rattle.laws_run.specs.lanes.Boards.{IsInWhole, turns_behind}
use Rattle.laws_run.specs.run_headline.Timely.{link_of}

-- In a whole run, by the planner's turns, the reactor's turns before its last one, and this one, a board gave
-- no answer while it was connected: of its turns with its link, eight askings in a row or more, four turns
-- apart, from a turn on and up to the last turn, are unanswered, and each of them was hindered on the board's
-- link.
abbrev pub GaveNoAnswer : Machine → Scene → ℕ → ℕ → List MotionTurn → List ReactorTurn → ReactorTurn → Type 0
GaveNoAnswer m s board turn planned [] last = ⊥
GaveNoAnswer m s board turn planned (first ∷ rest) last =
    (board < length m.boards)
    × (w : IsInWhole m s.switches board (clock_of (board_at m board)) (link_of m s board) planned first
    (rest ++ last ∷ [])) × (count : ℕ) × (8 ≤ count)
    × AreUnanswered (configuration m board) (told_by board (came_in last ∷ came_from [] (first ∷ rest))) turn count
    × AreHindered (link_of m s board) (turns_behind [] w.made) turn count

-- So of a board whose clock line is too old: it was asked for its clock 200 times in a row or more, from a
-- turn on, which is 1000 or later, each asking four turns or more behind the one before it, with none
-- between. Each of them is unanswered, and was hindered; so its link was disturbed in the four turns of the
-- asking or the four before them, or something waited at the end of the turn before it. It is asked that the
-- units of each turn have at most 210 bytes.
abbrev pub IsStaleSince : Machine → Scene → ℕ → ℕ → List MotionTurn → List ReactorTurn → ReactorTurn → Type 0
IsStaleSince m s board turn planned [] last = ⊥
IsStaleSince m s board turn planned (first ∷ rest) last =
    (board < length m.boards)
    × (w : IsInWhole m s.switches board (clock_of (board_at m board)) (link_of m s board) planned first
    (rest ++ last ∷ []))
    × (UnitsFit (turns_behind [] w.made) →
    (1_000 ≤ turn) × (asked : List ℕ) × (200 ≤ length asked) × AreInRow turn (length (turns_behind [] w.made)) asked
    × AsksNoneBetween (turns_behind [] w.made) (length (turns_behind [] w.made)) asked
    × AllUnanswered m s.switches board (came_in last ∷ came_from [] (first ∷ rest)) asked
    × AreAskedAndHindered (link_of m s board) (turns_behind [] w.made) asked
    × All (λ k. IsDisturbedAround (link_of m s board) (turns_behind [] w.made) k) asked)
