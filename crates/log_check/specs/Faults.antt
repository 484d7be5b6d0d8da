-- Why a line of a log doesn't fit, at the point at which it stands.
use Rattle.std.specs.Prelude.{ℕ, zero, suc, ◌+◌, ◌-◌, ◌*◌, ◌&&◌, ◌||◌, ◌==◌, Bool, true, false, List, [], ◌∷◌, length, nat_le, nat_lt, not, slice_index_or, if◌then◌else◌, Option, Some, None}
use Rattle.log_text.specs.declared.line.LogLine.{LogLine}
use Rattle.log_text.specs.declared.line.LogLine.TheVariants as line
use Rattle.plan_types.specs.declared.cause.MisfitKind.{MisfitKind}
use Rattle.plan_types.specs.declared.cause.MisfitKind.TheVariants as misfit
use Rattle.plan_types.specs.declared.machine.Machine.{Machine}
use Rattle.plan_types.specs.declared.plan.Line.{Line}
use Rattle.plan_types.specs.declared.plan.Planned.{Planned}
use Rattle.plan_types.specs.declared.plan.Section.{Section}
use Rattle.plan_types.specs.declared.plan.SectionKind.{SectionKind}
use Rattle.plan_types.specs.declared.plan.SectionKind.TheVariants.{Moves, Home}
use Rattle.plan_types.specs.Clock.{tick, turn_ns}
use Rattle.plan_types.specs.declared.plan.Held.{Held}
use Rattle.plan_types.specs.Lines.{Clocks, lines_tick}
use Rattle.clock_line.specs.Fits.{may_hold}
use Rattle.plan_types.specs.Machines.{stepper_at}
use Rattle.plan_types.specs.Sections.{clocks_at, turns_of_move, is_home, first_turn}
use Rattle.section_plan.specs.Runs.{move_ns, steps_of_move}
use Rattle.log_check.specs.Behind.{told_line}
use Rattle.log_check.specs.declared.tally.Tally.{Tally}
use Rattle.log_check.specs.Points.{Point, section_at}
use Rattle.log_check.specs.Pulses.{pulse_fault}

-- no pulses yet
abbrev pub no_tally : Tally
no_tally = record { made = 0; early = 0; late = 0 }

-- some stepper has fewer pulses than planned steps
abbrev pub lacks : List (List Planned) → List Tally → Bool
lacks [] tallies = false
lacks (plan ∷ plans) [] = false
lacks (plan ∷ plans) (t ∷ tallies) = nat_lt t.made (length plan) || lacks plans tallies

-- the present section has fewer pulses than planned, and wasn't cut
abbrev pub is_short : Bool → List (List Planned) → List Tally → Bool
is_short true plans tallies = false
is_short false plans tallies = lacks plans tallies

-- two sections do the same
abbrev pub same_kind : SectionKind → SectionKind → Bool
same_kind Moves Moves = true
same_kind Moves (Home a) = false
same_kind (Home a) Moves = false
same_kind (Home a) (Home b) = a == b

-- a board's first clock line holds from before a turn on, and has ticks for so many moves behind it
abbrev pub has_room : Line → ℕ → ℕ → Bool
has_room l moves turn =
    nat_le l.at (turn * turn_ns)
    && nat_lt (tick l ((turn + moves * turns_of_move) * turn_ns)) 12_999_999_995_705_032_704

-- a board's own ticks are few enough for so many moves from a turn on, with 4 more for each step that follows
-- too closely
abbrev pub are_few : Clocks → ℕ → ℕ → Bool
are_few c moves turn =
    not (nat_lt (12_999_999_999_999_999_998 - 4 * (moves * steps_of_move))
    (lines_tick c (turn * turn_ns + moves * move_ns + turn_ns)))

-- so they are where it has further lines; with one line they are where that has room
abbrev pub has_own_room : Clocks → List Held → ℕ → ℕ → Bool
has_own_room c [] moves turn = true
has_own_room c (h ∷ held) moves turn = are_few c moves turn

-- a board has ticks for so many moves from a turn on
abbrev pub is_roomy : Clocks → ℕ → ℕ → Bool
is_roomy c moves turn = has_room c.first moves turn && has_own_room c c.held moves turn

-- all boards have
abbrev pub have_room : List Clocks → ℕ → ℕ → Bool
have_room [] moves turn = true
have_room (c ∷ clocks) moves turn = is_roomy c moves turn && have_room clocks moves turn

-- The turn from which on the next section may start, without its dwells: the first one, or 260 turns behind
-- that in which the plan of the present section ends; behind a section that was cut, 260 turns behind that in
-- which it started.
abbrev pub ready : Bool → ℕ → ℕ → ℕ → ℕ
ready cut zero start end = first_turn
ready true (suc i) start end = start + 260
ready false (suc i) start end = end + 260

-- A section of this number and kind may start in this turn: it is the next one of the text, not before its
-- turn, and the boards told their clocks, which have ticks for it.
abbrev pub may_start : Machine → List Section → Point → ℕ → ℕ → SectionKind → Bool
may_start m sections p i turn kind =
    (i == p.begun)
    && (nat_lt p.begun (length sections)
    && (same_kind kind (section_at sections p.begun).kind
    && ((length p.clocks == length m.boards)
    && (nat_le (ready p.cut p.begun p.start p.end + (section_at sections p.begun).dwell) turn
    && have_room p.clocks (length (section_at sections p.begun).moves) turn))))

-- the present section is this one, and it homes
abbrev pub may_cut : List Section → ℕ → ℕ → Bool
may_cut sections zero i = false
may_cut sections (suc now) i = (i == now) && is_home (section_at sections now).kind

-- a fault of this kind, where it is one
abbrev pub fault_if : MisfitKind → Bool → Option MisfitKind
fault_if kind true = Some kind
fault_if kind false = None

-- a section that begins ends the one before it
abbrev pub section_fault : Bool → Bool → Option MisfitKind
section_fault true may = Some misfit.Missing
section_fault false true = None
section_fault false false = Some misfit.Section

-- a further clock line of a board may hold behind those that the board told
abbrev pub may_follow : Machine → List Clocks → ℕ → ℕ → ℕ → ℕ → Bool
may_follow m told b turn tick from =
    nat_lt b (length told) && may_hold (clocks_at told b) from (told_line m b turn tick)

-- why a line doesn't fit where no end was told
abbrev pub open_fault : Machine → List Section → Point → LogLine → Option MisfitKind
open_fault m sections p line.Note = None
open_fault m sections p (line.Board b turn tick) =
    if (p.begun == 0) && (b == length p.clocks) then None else Some misfit.BadLine
open_fault m sections p (line.Line b turn tick from) =
    if may_follow m p.told b turn tick from then None else Some misfit.BadLine
open_fault m sections p (line.Section i turn kind) =
    section_fault (is_short p.cut p.plans p.tallies) (may_start m sections p i turn kind)
open_fault m sections p (line.Pulse s tick up) =
    pulse_fault (clocks_at p.clocks (stepper_at m s).board).first.freq (slice_index_or p.bases s 0)
    (slice_index_or p.plans s []) (slice_index_or p.tallies s no_tally).made tick up
open_fault m sections p (line.Cut i) = if may_cut sections p.begun i then None else Some misfit.Section
open_fault m sections p line.End = fault_if misfit.Missing (is_short p.cut p.plans p.tallies)

-- why a line doesn't fit; nothing may stand behind the end
abbrev pub fault_at : Machine → List Section → Point → LogLine → Option MisfitKind
fault_at m sections p l = if p.ended then Some misfit.BadLine else open_fault m sections p l
