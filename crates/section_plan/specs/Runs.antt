-- What the plan of a section counts on, between its functions.
use Rattle.std.specs.Prelude.{◌≡◌, ℕ, ◌+◌, ◌-◌, ◌*◌, ◌<◌, ◌≤◌, ◌^◌, All, List, [], length, slice_index, slice_index_or}
use Rattle.plan_types.specs.declared.machine.Machine.{Machine}
use Rattle.plan_types.specs.declared.plan.Line.{Line}
use Rattle.plan_types.specs.declared.plan.Move.{Move}
use Rattle.plan_types.specs.declared.plan.Part.{Part}
use Rattle.plan_types.specs.declared.plan.Planned.{Planned}
use Rattle.plan_types.specs.declared.plan.Segment.{Segment}
use Rattle.plan_types.specs.Clock.{tick, turn_ns, tick_limit}
use Rattle.plan_types.specs.Lines.{Clocks, last_from, lines_tick, lines_turn}
use Rattle.plan_types.specs.Machines.{IsValidMachine, board_at, no_move}
use Rattle.plan_types.specs.Numbers.{gap}
use Rattle.plan_types.specs.Sections.{TimedPart, clocks_at, turns_of_move}
use Rattle.plan_types.specs.Speeds.{speed_change}
use Rattle.plan_types.specs.Valid.{IsValidLine, IsValidMove, IsValidSegment}
use Rattle.clock_line.specs.Kept.{AreKept}

-- the longest time of a move, in ns
abbrev pub move_ns : ℕ
move_ns = 17_421_000_000_000

-- how many raw steps a stepper may make in a move
abbrev pub steps_of_move : ℕ
steps_of_move = 3_072_000_003

-- a valid move of at most 1.74 m
pub record IsShortMove (m : Move) : Type 0 where
  pub valid : IsValidMove m
  pub short : m.d ≤ 1_740_000_000

-- a move can begin and end with these squared speeds
pub record IsJoined (m : Move) (g h : ℕ) : Type 0 where
  pub start_below : g ≤ m.v * m.v
  pub end_below : h ≤ m.v * m.v
  pub apart : gap g h ≤ speed_change m

-- moves of a section that begins at a time in ns, with the squared speeds at their junctions
pub record IsRun (cruise : ℕ) (moves : List Move) (speeds : List ℕ) (begin : ℕ) : Type 0 where
  pub moves_short : All IsShortMove moves
  pub count : length speeds ≡ length moves + 1
  pub joined : (i : ℕ) → i < length moves →
      IsJoined (slice_index_or moves i no_move) (slice_index speeds i) (slice_index speeds (i + 1))
  pub share : cruise < 1_000_000
  pub few : length moves ≤ 2_000_000
  pub begin_small : begin < 2 ^ 90

-- a line that has ticks for so many moves from a time on
pub record HasTicksFor (line : Line) (moves begin : ℕ) : Type 0 where
  pub valid : IsValidLine line
  pub before : line.at ≤ begin
  pub room : tick line (begin + moves * move_ns) < tick_limit

-- A board whose lines have ticks for so many moves from a turn on: plan ticks by its first line, and its own
-- ones, also where each step is pushed on by 4 ticks since it follows too closely.
pub record IsReadyBoard (clocks : Clocks) (turn moves : ℕ) : Type 0 where
  pub kept : AreKept clocks
  pub before : clocks.first.at ≤ turn * turn_ns
  pub soon : last_from clocks.first.at clocks.held < 2 ^ 62 * turn_ns
  pub planned : tick clocks.first ((turn + moves * turns_of_move) * turn_ns) < tick_limit - 2 ^ 32
  pub room : lines_tick clocks (turn * turn_ns + moves * move_ns + turn_ns) + 4 * (moves * steps_of_move) + 1
      < tick_limit

-- the board of a number is ready for so many moves from a turn on
pub record IsReadyAt (m : Machine) (clocks : List Clocks) (turn moves b : ℕ) : Type 0 where
  pub freq : (clocks_at clocks b).first.freq ≡ (board_at m b).freq
  pub board : IsReadyBoard (clocks_at clocks b) turn moves

-- each board has one line for good
abbrev pub HaveOneLine : Machine → List Clocks → Type 0
HaveOneLine m clocks = (b : ℕ) → b < length m.boards → (clocks_at clocks b).held ≡ []

-- a part of a move, how much of the move is before it, and when it begins
abbrev pub part_at : Move → Part → ℕ → ℕ → TimedPart
part_at m p before begin = record { move = m; part = p; before = before; begin = begin }

-- a segment that can be stepped on a line, and ends by a tick
pub record IsGoodSegment (line : Line) (top : ℕ) (s : Segment) : Type 0 where
  pub valid : IsValidSegment s line.freq
  pub after : line.clock ≤ s.start
  pub in_top : s.end ≤ top

-- a step from the first line's own tick on; and by a turn, where the board has one line
pub record IsOnTime (clocks : Clocks) (turn : ℕ) (q : Planned) : Type 0 where
  pub after : clocks.first.clock ≤ q.tick
  pub in_turn : clocks.held ≡ [] → lines_turn clocks q.tick ≤ turn
  pub small : q.tick + 1 < tick_limit

-- the plan of some moves that start in a turn can be made: they are valid, short and few, and no tick of
-- theirs is too great
pub record IsPlannable (m : Machine) (clocks : List Clocks) (moves : List Move) (turn : ℕ) : Type 0 where
  pub machine : IsValidMachine m
  pub boards : length clocks ≡ length m.boards
  pub lines : (b : ℕ) → b < length m.boards → IsReadyAt m clocks turn (length moves) b
  pub short : All IsShortMove moves
  pub few : length moves ≤ 2_000_000
  pub some : 0 < length moves
  pub turn_small : turn < 2 ^ 62
