-- What the `board` lines of a report say.
use Rattle.std.specs.Prelude.{◌≡◌, ℕ, ◌+◌, ◌<◌, List, length, max}
use Rattle.plan_types.specs.declared.machine.Machine.{Machine}
use Rattle.plan_types.specs.Clock.{clock_of}
use Rattle.plan_types.specs.Lines.{Clocks}
use Rattle.plan_types.specs.Machines.{board_at}
use Rattle.plan_types.specs.Sections.{clocks_at}
use Rattle.wire_scene.specs.declared.scene.Switch.{Switch}
use Rattle.report_text.specs.declared.line.ReportLine.{ReportLine}
use Rattle.session_work.specs.declared.table.ReactorTurn.{ReactorTurn}
use Rattle.laws_run.specs.run_ends.Boards.{boards_of, lines_at}
use Rattle.laws_run.specs.run_headline.Near.{FollowsClock}
use Rattle.laws_run.specs.run_turns.Starts.{EndsConnecting}

-- The `board` lines of a report are those of the boards' clock lines that are known as connecting ends in a
-- turn, one for each board. Each follows its board's clock, and the line tells at which tick the turn begins
-- by it from which on the first section may start: 1,260, or 260 turns behind that one.
pub record TellKnownLines (m : Machine) (switches : List Switch) (turns : List ReactorTurn) (lines : List ReportLine)
    : Type 0 where
  pub connected : ℕ
  pub ends : EndsConnecting m switches turns connected
  pub clocks : List Clocks
  pub count : length clocks ≡ length m.boards
  pub follow : (b : ℕ) → b < length m.boards → FollowsClock (clock_of (board_at m b)) (clocks_at clocks b).first
  pub told : boards_of lines ≡ lines_at (max 1_260 (connected + 260)) 0 clocks
