-- The further clock lines of a report, as a log tells them.
use Rattle.std.proofs.Common.{◌≡◌, ◌∙◌, ℕ, ◌-◌, ◌/◌, ◌^◌, ◌<◌, ◌≤◌, Bool, true, false, List, [], ◌∷◌, ◌++◌, length, map, ap, sym, refl, subst, arith, inl, inr}
use Rattle.std.specs.Prelude.{◌==◌, min, if◌then◌else◌}
use Rattle.laws_board.proofs.Names.{eqb_tells, Machine, Held, turn_ns, ReportLine}
use Rattle.report_text.specs.declared.line.ReportLine.TheVariants as report
use Rattle.host_reactor.specs.Report.{turn_at}
use Rattle.log_check.specs.declared.further.Further.{Further}
use Rattle.laws_report.specs.reports.Further.{further_told}
use Rattle.laws_report.specs.reports.Logged.{IsLong, logged}
use Rattle.laws_report.proofs.reports.Telling.{AreAmong, BoardsBefore, NoneBoards, held_told, of_board}
use Rattle.laws_board.specs.plans.Lines.{drifts_of, held_lines}
use Rattle.laws_run.specs.run_ends.Boards.{boards_of}
use Rattle.laws_run.specs.run_headline.Further.{AreNamed, BoardsFirst}
use Rattle.laws_run.specs.run_limits.Limits.{AreLow, greatest_tick}

-- those of one board
board_drift : (t : Bool) (l : ReportLine) (f : Further) (fs : List Further) (lines : List ReportLine) → further_told (map logged (l ∷ [])) ≡ f ∷ [] → further_told (map logged (l ∷ lines)) ≡ f ∷ further_told (map logged lines) → fs ≡ further_told (map logged lines)
    → (if t then f ∷ fs else fs) ≡ further_told (map logged ((if t then l ∷ [] else []) ++ lines))
board_drift true l f fs lines one all e = ap (λ (x : List Further). f ∷ x) e ∙ sym all
board_drift false l f fs lines one all e = e

board_furthers : (b : ℕ) (lines : List ReportLine) → of_board b (further_told (map logged lines)) ≡ further_told (map logged (drifts_of b lines))
board_furthers b [] = refl
board_furthers b (report.Drift board sent clock from ∷ lines) =
    board_drift (board == b) (report.Drift board sent clock from) (record { board = board; turn = sent; tick = clock; from = from }) (of_board b (further_told (map logged lines))) (drifts_of b lines) refl refl (board_furthers b lines)
board_furthers b (report.Machine corexy boards steppers ∷ lines) = board_furthers b lines
board_furthers b (report.Board board freq turn tick ∷ lines) = board_furthers b lines
board_furthers b (report.Section i turn kind ∷ lines) = board_furthers b lines
board_furthers b (report.Pulse board stepper tick up ∷ lines) = board_furthers b lines
board_furthers b (report.Cut i board pin tick from ∷ lines) = board_furthers b lines
board_furthers b (report.Lines accepted passed ∷ lines) = board_furthers b lines
board_furthers b (report.Out board pin tick on ∷ lines) = board_furthers b lines
board_furthers b (report.Made seed moves ∷ lines) = board_furthers b lines
board_furthers b (report.Count stepper pulses ∷ lines) = board_furthers b lines
board_furthers b (report.Fit section stepper pulses planned early late ∷ lines) = board_furthers b lines
board_furthers b (report.End c ∷ lines) = board_furthers b lines

-- lines that hold in turns of 64 bits
abbrev pub HaveTurns : List Held → Type 0
HaveTurns [] = Unit {0}
HaveTurns (h ∷ held) = (h.line.at / turn_ns < 2 ^ 64) × HaveTurns held

pub least : (n : ℕ) → n < 2 ^ 64 → min n (2 ^ 64 - 1) ≡ n
least n low = omega (arith, low)

held_furthers : (b : ℕ) (held : List Held) → HaveTurns held → further_told (map logged (held_lines b held)) ≡ held_told b held
held_furthers b [] turns = refl
held_furthers b (h ∷ held) turns =
    let By : ℕ → Further = λ n. record { board = b; turn = n; tick = h.line.clock; from = h.from } in
    let same : turn_at h.line.at ≡ h.line.at / turn_ns = least (h.line.at / turn_ns) turns.0 in
    ap (λ n. By n ∷ further_told (map logged (held_lines b held))) same ∙ ap (λ (x : List Further). By (h.line.at / turn_ns) ∷ x) (held_furthers b held turns.1)

pub told_furthers : (b : ℕ) (held : List Held) (lines : List ReportLine) → HaveTurns held → drifts_of b lines ≡ held_lines b held → of_board b (further_told (map logged lines)) ≡ held_told b held
told_furthers b held lines turns e = board_furthers b lines ∙ ap (λ (x : List ReportLine). further_told (map logged x)) e ∙ held_furthers b held turns

-- each names a board that is there
pub named : (m : Machine) (lines : List ReportLine) → AreNamed m lines → AreAmong (length m.boards) (further_told (map logged lines))
named m [] names = tt
named m (report.Drift board sent clock from ∷ lines) names = (names.0, named m lines names.1)
named m (report.Machine corexy boards steppers ∷ lines) names = named m lines names
named m (report.Board board freq turn tick ∷ lines) names = named m lines names
named m (report.Section i turn kind ∷ lines) names = named m lines names
named m (report.Pulse board stepper tick up ∷ lines) names = named m lines names
named m (report.Cut i board pin tick from ∷ lines) names = named m lines names
named m (report.Lines accepted passed ∷ lines) names = named m lines names
named m (report.Out board pin tick on ∷ lines) names = named m lines names
named m (report.Made seed moves ∷ lines) names = named m lines names
named m (report.Count stepper pulses ∷ lines) names = named m lines names
named m (report.Fit section stepper pulses planned early late ∷ lines) names = named m lines names
named m (report.End c ∷ lines) names = named m lines names

-- no board's line is among some
pub none_boards : (lines : List ReportLine) → boards_of lines ≡ [] → NoneBoards (map logged lines)
none_boards [] none = tt
none_boards (report.Board board freq turn tick ∷ lines) none = absurd (let e : report.Board board freq turn tick ∷ boards_of lines ≡ [] = none in cc)
none_boards (report.Drift board sent clock from ∷ lines) none = none_boards lines none
none_boards (report.Machine corexy boards steppers ∷ lines) none = none_boards lines none
none_boards (report.Section i turn kind ∷ lines) none = none_boards lines none
none_boards (report.Pulse board stepper tick up ∷ lines) none = none_boards lines none
none_boards (report.Cut i board pin tick from ∷ lines) none = none_boards lines none
none_boards (report.Lines accepted passed ∷ lines) none = none_boards lines none
none_boards (report.Out board pin tick on ∷ lines) none = none_boards lines none
none_boards (report.Made seed moves ∷ lines) none = none_boards lines none
none_boards (report.Count stepper pulses ∷ lines) none = none_boards lines none
none_boards (report.Fit section stepper pulses planned early late ∷ lines) none = none_boards lines none
none_boards (report.End c ∷ lines) none = none_boards lines none

pub boards_before : (lines : List ReportLine) → BoardsFirst lines → BoardsBefore (map logged lines)
boards_before [] first = tt
boards_before (report.Drift board sent clock from ∷ lines) first = none_boards lines first.0
boards_before (report.Board board freq turn tick ∷ lines) first = boards_before lines first
boards_before (report.Machine corexy boards steppers ∷ lines) first = boards_before lines first
boards_before (report.Section i turn kind ∷ lines) first = boards_before lines first
boards_before (report.Pulse board stepper tick up ∷ lines) first = boards_before lines first
boards_before (report.Cut i board pin tick from ∷ lines) first = boards_before lines first
boards_before (report.Lines accepted passed ∷ lines) first = boards_before lines first
boards_before (report.Out board pin tick on ∷ lines) first = boards_before lines first
boards_before (report.Made seed moves ∷ lines) first = boards_before lines first
boards_before (report.Count stepper pulses ∷ lines) first = boards_before lines first
boards_before (report.Fit section stepper pulses planned early late ∷ lines) first = boards_before lines first
boards_before (report.End c ∷ lines) first = boards_before lines first

-- what holds of each board's further clock lines holds of all
abbrev pub EachFurther : (Further → Type 0) → List Further → Type 0
EachFurther P [] = Unit {0}
EachFurther P (f ∷ fs) = P f × EachFurther P fs

rest_of : (P : Further → Type 0) (t : Bool) (f : Further) (fs : List Further) → EachFurther P (if t then f ∷ fs else fs) → EachFurther P fs
rest_of P true f fs each = each.1
rest_of P false f fs each = each

pub all_furthers : (P : Further → Type 0) (n : ℕ) (fs : List Further) → ((b : ℕ) → b < n → EachFurther P (of_board b fs)) → AreAmong n fs → EachFurther P fs
all_furthers P n [] each among = tt
all_furthers P n (f ∷ fs) each among =
    let self : (f.board == f.board) ≡ true = elim (eqb_tells f.board f.board) [ inl p ↦ p.0 | inr p ↦ absurd (p.1 refl) ] in
    let own : EachFurther P (f ∷ of_board f.board fs) = subst (λ (t : Bool). EachFurther P (if t then f ∷ of_board f.board fs else of_board f.board fs)) self (each f.board among.0) in
    (own.0, all_furthers P n fs (λ b low. rest_of P (f.board == b) f (of_board b fs) (each b low)) among.1)

-- and what holds of all, of each board's
pub own_furthers : (P : Further → Type 0) (b : ℕ) (fs : List Further) → EachFurther P fs → EachFurther P (of_board b fs)
own_furthers P b [] each = tt
own_furthers P b (f ∷ fs) each = by (f.board == b) (own_furthers P b fs each.1)
  where
    by : (t : Bool) → EachFurther P (of_board b fs) → EachFurther P (if t then f ∷ of_board b fs else of_board b fs)
    by true h = (each.0, h)
    by false h = h

-- their clocks are low
abbrev pub IsLowFurther : Further → Type 0
IsLowFurther f = f.tick ≤ greatest_tick f.turn

pub low_furthers : (lines : List ReportLine) → AreLow lines → EachFurther IsLowFurther (further_told (map logged lines))
low_furthers [] low = tt
low_furthers (report.Drift board sent clock from ∷ lines) low = (low.0, low_furthers lines low.1)
low_furthers (report.Machine corexy boards steppers ∷ lines) low = low_furthers lines low.1
low_furthers (report.Board board freq turn tick ∷ lines) low = low_furthers lines low.1
low_furthers (report.Section i turn kind ∷ lines) low = low_furthers lines low.1
low_furthers (report.Pulse board stepper tick up ∷ lines) low = low_furthers lines low.1
low_furthers (report.Cut i board pin tick from ∷ lines) low = low_furthers lines low.1
low_furthers (report.Lines accepted passed ∷ lines) low = low_furthers lines low.1
low_furthers (report.Out board pin tick on ∷ lines) low = low_furthers lines low.1
low_furthers (report.Made seed moves ∷ lines) low = low_furthers lines low.1
low_furthers (report.Count stepper pulses ∷ lines) low = low_furthers lines low.1
low_furthers (report.Fit section stepper pulses planned early late ∷ lines) low = low_furthers lines low.1
low_furthers (report.End c ∷ lines) low = low_furthers lines low.1

-- or long
abbrev pub IsLongFurther : Further → Type 0
IsLongFurther f = IsLong f.turn × IsLong f.tick × IsLong f.from
