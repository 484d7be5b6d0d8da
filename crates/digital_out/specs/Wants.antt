-- What is wanted of the part fan of a text: at which ticks of its board it is switched.
use Rattle.std.specs.Prelude.{ℕ, ◌+◌, ◌*◌, ◌==◌, Bool, true, false, List, [], ◌∷◌, ◌++◌, map, not, slice_index_or, if◌then◌else◌}
use Rattle.plan_types.specs.declared.machine.BoardDef.{BoardDef}
use Rattle.plan_types.specs.declared.machine.FanDef.{FanDef}
use Rattle.plan_types.specs.declared.machine.Machine.{Machine}
use Rattle.plan_types.specs.declared.plan.Line.{Line}
use Rattle.plan_types.specs.declared.plan.Section.{Section}
use Rattle.plan_types.specs.Clock.{tick, turn_ns}
use Rattle.plan_types.specs.Lines.{Clocks, one_line}
use Rattle.plan_types.specs.Machines.{board_at}
use Rattle.plan_types.specs.Sections.{section_end, first_turn}
use Rattle.plan_types.specs.Speeds.{greatest_speeds}
use Rattle.gcode_program.specs.Programs.{program_sections}
use Rattle.section_plan.specs.Ends.{move_ends}
use Rattle.digital_out.specs.declared.want.Want.{Want}
use Rattle.digital_out.specs.declared.word.FanWord.{FanWord}
use Rattle.digital_out.specs.Words.{fan_words_in}

-- a board's own clock line
abbrev pub own_line : BoardDef → Line
own_line b = record { at = 0; clock = b.start; freq = b.freq }

-- the clock lines of all boards
abbrev pub own_clocks : Machine → List Clocks
own_clocks m = map (λ b. one_line (own_line b)) m.boards

-- when each move ends of sections that run one behind the other, the first from a turn on
abbrev pub section_ends : Machine → List Clocks → ℕ → List Section → List ℕ
section_ends m clocks ready [] = []
section_ends m clocks ready (s ∷ sections) =
    move_ends m.cruise s.moves (greatest_speeds s.moves m.scv) ((ready + s.dwell) * turn_ns)
    ++ section_ends m clocks (section_end m clocks s.moves (ready + s.dwell) + 260) sections

-- the times at which a line may switch the fan: behind no move at the beginning of the first turn, and behind
-- each move at its end
abbrev pub switch_times : Machine → List Section → List ℕ
switch_times m sections = first_turn * turn_ns ∷ section_ends m (own_clocks m) first_turn sections

-- what a line wants: its level, from the end of the last move before it on
abbrev pub want_at : Line → List ℕ → FanWord → Want
want_at line times w = record { tick = tick line (slice_index_or times w.moves 0); on = w.on }

-- a want is the last one at its tick
abbrev pub is_last : Want → List Want → Bool
is_last w [] = true
is_last w (v ∷ ws) = not (w.tick == v.tick)

-- of wants at one tick the last one holds
abbrev pub last_ones : List Want → List Want
last_ones [] = []
last_ones (w ∷ ws) = if is_last w ws then w ∷ last_ones ws else last_ones ws

-- a want that doesn't change the level is left out
abbrev pub changes : Bool → List Want → List Want
changes level [] = []
changes true (w ∷ ws) = if w.on then changes true ws else w ∷ changes false ws
changes false (w ∷ ws) = if w.on then w ∷ changes true ws else changes false ws

-- what all lines want of a fan
abbrev pub all_wants : Machine → FanDef → List ℕ → List Want
all_wants m f text =
    map (want_at (own_line (board_at m f.board)) (switch_times m (program_sections m text)))
    (fan_words_in m text)

-- The wants of a text on a machine with a fan, in order of their ticks. The level is off at first.
unfoldable pub wants : Machine → FanDef → List ℕ → List Want
wants m f text = changes false (last_ones (all_wants m f text))
