-- What stands behind some lines of a log. The lines are listed from the last one back to the first.
use Rattle.std.specs.Prelude.{ℕ, suc, ◌*◌, ◌==◌, Bool, true, false, List, [], ◌∷◌, ◌++◌, set, if◌then◌else◌, Option, Some, None, Ok}
use Rattle.log_text.specs.declared.line.LogLine.{LogLine}
use Rattle.log_text.specs.declared.line.LogLine.TheVariants as line
use Rattle.log_text.specs.Said.{Said, line_said}
use Rattle.text_core.specs.Bytes.{Text}
use Rattle.plan_types.specs.declared.machine.Machine.{Machine}
use Rattle.plan_types.specs.declared.plan.Line.{Line}
use Rattle.plan_types.specs.declared.plan.Pulse.{Pulse}
use Rattle.plan_types.specs.Clock.{turn_ns}
use Rattle.plan_types.specs.Lines.{Clocks, one_line}
use Rattle.plan_types.specs.Machines.{board_at}
use Rattle.plan_types.specs.Sections.{clocks_at}
use Rattle.clock_line.specs.Fits.{added_where}
use Rattle.log_check.specs.declared.further.Further.{Further}

-- how many sections began
abbrev pub begun : List LogLine → ℕ
begun [] = 0
begun (line.Section i turn kind ∷ lines) = suc (begun lines)
begun (_ ∷ lines) = begun lines

-- the turn in which the present section started
abbrev pub section_start : List LogLine → ℕ
section_start [] = 0
section_start (line.Section i turn kind ∷ lines) = turn
section_start (_ ∷ lines) = section_start lines

-- whether a cut of the present section was told
abbrev pub is_cut : List LogLine → Bool
is_cut [] = false
is_cut (line.Section i turn kind ∷ lines) = false
is_cut (line.Cut i ∷ lines) = true
is_cut (_ ∷ lines) = is_cut lines

-- whether the end was told
abbrev pub is_ended : List LogLine → Bool
is_ended [] = false
is_ended (line.End ∷ lines) = true
is_ended (_ ∷ lines) = is_ended lines

-- the clock line of a board that told its tick at the beginning of a turn
abbrev pub told_line : Machine → ℕ → ℕ → ℕ → Line
told_line m b turn tick = record { at = turn * turn_ns; clock = tick; freq = (board_at m b).freq }

-- the further clock line that a line says, where it is one
abbrev pub further_of : Said → Option Further
further_of (Ok (line.Line b turn tick from)) = Some (record { board = b; turn = turn; tick = tick; from = from })
further_of _ = None

-- a further clock line before others, where there is one
abbrev pub with_one : Option Further → List Further → List Further
with_one None further = further
with_one (Some f) further = f ∷ further

-- the further clock lines that the lines of a log with words say, in order
abbrev pub further_said : Machine → List (ℕ × List Text) → List Further
further_said m [] = []
further_said m (w ∷ words) = with_one (further_of (line_said m w.1)) (further_said m words)

-- the clock lines of a board, with further ones behind them: each of its own where it may hold behind those before it
abbrev pub with_further : Machine → ℕ → List Further → Clocks → Clocks
with_further m b [] clocks = clocks
with_further m b (f ∷ further) clocks =
    let more = added_where clocks f.from (told_line m b f.turn f.tick) in
    with_further m b further (if f.board == b then more else clocks)

-- The clock lines of the boards that told one, in order: each board's own, and behind it those of the log's
-- further ones that are the board's.
abbrev pub clocks : Machine → List Further → List LogLine → List Clocks
clocks m further [] = []
clocks m further (line.Board b turn tick ∷ lines) =
    clocks m further lines ++ with_further m b further (one_line (told_line m b turn tick)) ∷ []
clocks m further (_ ∷ lines) = clocks m further lines

-- those of them that were told so far
abbrev pub told_clocks : Machine → List LogLine → List Clocks
told_clocks m [] = []
told_clocks m (line.Board b turn tick ∷ lines) = told_clocks m lines ++ one_line (told_line m b turn tick) ∷ []
told_clocks m (line.Line b turn tick from ∷ lines) =
    set (told_clocks m lines) b (added_where (clocks_at (told_clocks m lines) b) from (told_line m b turn tick))
told_clocks m (_ ∷ lines) = told_clocks m lines

-- the pulses of a stepper in the present section, the last one first
abbrev pub pulses : ℕ → List LogLine → List Pulse
pulses s [] = []
pulses s (line.Section i turn kind ∷ lines) = []
pulses s (line.Pulse t tick up ∷ lines) =
    let here : Pulse = record { tick = tick; stepper = t; up = up } in
    (if t == s then here ∷ pulses s lines else pulses s lines)
pulses s (_ ∷ lines) = pulses s lines
