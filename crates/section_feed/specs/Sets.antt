-- What stays the same of the boards of a section.
use Rattle.std.specs.Prelude.{ℕ, ◌-◌, Bool, List, length}
use Rattle.plan_types.specs.declared.machine.Machine.{Machine}
use Rattle.plan_types.specs.Lines.{Clocks}
use Rattle.plan_types.specs.Machines.{board_at}
use Rattle.plan_types.specs.Sections.{clocks_at}
use Rattle.section_feed.specs.declared.board.BoardStream.{BoardStream}
use Rattle.section_feed.specs.Feeding.{count_of, first_of, lines_of_board, slots_in}
use Rattle.section_feed.specs.Kinds.{steppers_on}

-- the clock lines of a board, the turn from which on its units may be released, the slots of its queues, and
-- how many steppers it has
pub record BoardSet : Type 0 where
  pub clocks : Clocks
  pub first : ℕ
  pub slots : ℕ
  pub count : ℕ

-- what stays the same of a board's stream, with its clock lines
abbrev pub set_of : BoardStream → BoardSet
set_of b = record { clocks = lines_of_board b; first = first_of b; slots = slots_in b; count = count_of b }

-- that of a board of a machine with these clock lines, in a section that begins with a turn
abbrev pub set_from : Machine → Clocks → ℕ → ℕ → BoardSet
set_from m clocks turn b =
    record {
      clocks = clocks;
      first = turn - 250;
      slots = (board_at m b).slots;
      count = length (steppers_on b m.steppers);
    }

-- that of a board in a section that begins with a turn, by the clock lines of all boards
abbrev pub start_set : Machine → List Clocks → ℕ → ℕ → BoardSet
start_set m clocks turn b = set_from m (clocks_at clocks b) turn b

-- whether more moves may come for a board
abbrev pub goes_of : BoardStream → Bool
goes_of b = b.goes
