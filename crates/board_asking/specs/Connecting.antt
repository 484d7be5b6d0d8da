-- Connecting: every board is asked until its configuration is complete.
use Rattle.std.specs.Prelude.{ℕ, ◌+◌, ◌*◌, ◌-◌, ◌^◌, ◌&&◌, Bool, true, false, List, [], ◌∷◌, min, Option, Some, None, if◌then◌else◌}
use Rattle.plan_types.specs.Sections.{first_start}
use Rattle.plan_types.specs.declared.machine.Machine.{Machine}
use Rattle.plan_types.specs.declared.cause.Cause.{Cause}
use Rattle.plan_types.specs.declared.cause.Cause.TheVariants as cause
use Rattle.plan_types.specs.declared.plan.Line.{Line}
use Rattle.plan_types.specs.Clock.{tick, turn_ns}
use Rattle.plan_types.specs.Lines.{Clocks, one_line}
use Rattle.plan_types.specs.Machines.{board_at}
use Rattle.clock_line.specs.declared.sample.Sample.{Sample}
use Rattle.clock_line.specs.Samples.{sampled}
use Rattle.msg_code.specs.declared.cmd.Cmd.{Cmd}
use Rattle.msg_code.specs.declared.unit.Control.{Control}
use Rattle.msg_code.specs.declared.talk.State.{State}
use Rattle.report_text.specs.declared.line.ReportLine.{ReportLine}
use Rattle.report_text.specs.declared.line.ReportLine.TheVariants as report
use Rattle.board_asking.specs.declared.asking.Asking.{Asking}
use Rattle.board_asking.specs.Machine.{configuration}
use Rattle.board_asking.specs.Asking.{listens, ready, asks, after_asks, gives_up, is_connected}

-- the boards' states come; in the first turn there are none
abbrev pub listen_all : List Asking → List State → List Asking
listen_all [] states = []
listen_all (a ∷ askings) [] = a ∷ listen_all askings []
listen_all (a ∷ askings) (s ∷ states) = listens a s ∷ listen_all askings states

-- the boards' askings as a turn begins, from a board on
abbrev pub ready_all : Machine → ℕ → List Asking → List Asking
ready_all m b [] = []
ready_all m b (a ∷ askings) = ready (configuration m b) a ∷ ready_all m (b + 1) askings

-- the least board whose eighth asking in a row is unanswered
abbrev pub giving_up : ℕ → ℕ → List Asking → Option Cause
giving_up k b [] = None
giving_up k b (a ∷ askings) = if gives_up k a then Some (cause.Connect b a.first) else giving_up k (b + 1) askings

-- every board is connected
abbrev pub all_connected : List Asking → Bool
all_connected [] = true
all_connected (a ∷ askings) = is_connected a.stage && all_connected askings

-- the control of turn k with these commands: whether connecting has ended, and whether nothing follows
abbrev pub control : ℕ → List Cmd → Bool → Bool → Control
control k commands connected end = record { turn = k; commands = commands; connected = connected; end = end }

-- the controls of a turn of connecting, from a board on: each board's question, or a part of its
-- configuration
abbrev pub asking_controls : Machine → ℕ → ℕ → List Asking → List Control
asking_controls m k b [] = []
asking_controls m k b (a ∷ askings) =
    control k (asks (configuration m b) k a a.stage) false false ∷ asking_controls m k (b + 1) askings

-- the askings behind them
abbrev pub ask_all : Machine → ℕ → ℕ → List Asking → List Asking
ask_all m k b [] = []
ask_all m k b (a ∷ askings) = after_asks (configuration m b) k a a.stage ∷ ask_all m k (b + 1) askings

-- the best sample of a board; where there is none, one of zeros
abbrev pub sample_or_none : Option Sample → Sample
sample_or_none None = record { sent = 0; got = 0; clock = 0 }
sample_or_none (Some s) = s

-- the clock line of a board is that of its best sample
abbrev pub board_line : Machine → ℕ → Asking → Line
board_line m b a = sampled (sample_or_none a.best) (board_at m b).freq

-- the clock lines of the boards, from a board on
abbrev pub board_lines : Machine → ℕ → List Asking → List Line
board_lines m b [] = []
board_lines m b (a ∷ askings) = board_line m b a ∷ board_lines m (b + 1) askings

-- the clock lines of boards that told one each
abbrev pub one_line_clocks : List Line → List Clocks
one_line_clocks [] = []
one_line_clocks (l ∷ lines) = one_line l ∷ one_line_clocks lines

-- the tick at which a turn begins, as far as 64 bits go
abbrev pub turn_tick : Line → ℕ → ℕ
turn_tick line turn = min (tick line (turn * turn_ns)) (2 ^ 64 - 1)

-- the boards stand in the report in the turn in which connecting ends
abbrev pub connected_lines : ℕ → ℕ → List Line → List ReportLine
connected_lines k b [] = []
connected_lines k b (l ∷ lines) =
    report.Board b l.freq (first_start k) (turn_tick l (first_start k)) ∷ connected_lines k (b + 1) lines
