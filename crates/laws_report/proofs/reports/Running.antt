-- A report that goes through checks.
use Rattle.std.proofs.Common.{◌≡◌, ◌∙◌, ℕ, suc, ◌+◌, ◌<◌, ◌≤◌, Bool, true, false, List, [], ◌∷◌, ◌++◌, length, map, ap, sym, refl, subst, arith, inl, inr, None, Some, append-nil, append_assoc, length-append, rules}
use Rattle.std.specs.Prelude.{◌==◌, ◌&&◌, slice_index_or, Ok, if◌then◌else◌}
use Rattle.laws_board.proofs.Names.{eqb_tells, nat_tests, Cause, Machine, Move, Planned, Pulse, Section, Clocks, one_line, IsValidMachine, stepper_at, Fits, clocks_at, stepper_plan, ReportLine}
use Rattle.std.proofs.lemmas.List.FromFn.{get_or-map-range_with_len}
use Rattle.std.proofs.Math.Seq.{get_or-append_seam}
use Rattle.plan_types.specs.declared.cause.Cause.TheVariants as cause
use Rattle.plan_types.specs.declared.cause.MisfitKind.TheVariants as misfit
use Rattle.plan_types.specs.Sections.{base_tick, section_end, section_plans, is_home, first_turn, no_section}
use Rattle.report_text.specs.declared.line.ReportLine.TheVariants as report
use Rattle.log_text.specs.declared.line.LogLine.{LogLine}
use Rattle.log_text.specs.declared.line.LogLine.TheVariants as line
use Rattle.text_core.specs.Bytes.{Text}
use Rattle.log_check.specs.declared.further.Further.{Further}
use Rattle.log_check.specs.Behind.{begun, clocks, further_of, further_said, is_cut, is_ended, pulses, section_start, told_clocks as told_so, told_line, with_further, with_one}
use Rattle.log_check.specs.Faults.{fault_at, fault_if, have_room, is_short, may_cut, may_follow, may_start, ready}
use Rattle.log_check.specs.Points.{end_by, plans, plans_by, point, section_at}
use Rattle.log_check.specs.Verdicts.{verdict}
use Rattle.laws_report.specs.logs.Follows.{FitsHere, IsNextSection, IsWholeHere, base_at, freq_at, in_order, plan_at}
use Rattle.laws_report.proofs.logs.Fitting.{length-in_order}
use Rattle.laws_report.proofs.logs.Following.{Fine, listed, no-plan, said-listed}
use Rattle.laws_report.proofs.logs.Standing.{all-done, may-start, never-short, none-board, onto, open-only, pulse-none, section-none, whole-lacks, none-if, none-line}
use Rattle.laws_report.specs.reports.Further.{AllMayStand, MayStand, further_told}
use Rattle.laws_report.specs.reports.Logged.{AreOfRun, IsCauseOn, IsOfRun, logged}
use Rattle.laws_report.specs.reports.Names.{HasNames}
use Rattle.laws_report.specs.reports.Spelled.{numbered}
use Rattle.laws_report.specs.reports.Through.{AreHeads, AreNotes, ArePulses, GoThrough, TellSections, told_pulses}
use Rattle.laws_report.specs.reports.Within.{AreInSection, GoWithin, TellAllWithin, has_cut, ready_behind}
use Rattle.laws_report.proofs.reports.Reading.{lines-read, words-said}
use Rattle.report_text.specs.Text.{report_text}
use Rattle.text_core.specs.Lines.{lines_of}
use Rattle.text_core.specs.Words.{worded_lines}

-- lists of lines, and the pulses that they tell

in-order-append : {A : Type 0} (xs ys : List A) → in_order (xs ++ ys) ≡ in_order ys ++ in_order xs
in-order-append [] ys = sym (append-nil (in_order ys))
in-order-append (x ∷ xs) ys = ap (λ (l : List _). l ++ x ∷ []) (in-order-append xs ys) ∙ append_assoc (in_order ys) (in_order xs) (x ∷ [])

pub onto-append : (xs ys before : List LogLine) → onto (xs ++ ys) before ≡ onto ys (onto xs before)
onto-append [] ys before = refl
onto-append (x ∷ xs) ys before = onto-append xs ys (x ∷ before)

pub onto-in-order : (xs before : List LogLine) → onto xs before ≡ in_order xs ++ before
onto-in-order [] before = refl
onto-in-order (x ∷ xs) before = onto-in-order xs (x ∷ before) ∙ sym (append_assoc (in_order xs) (x ∷ []) before)

pub map-append : (xs ys : List ReportLine) → map logged (xs ++ ys) ≡ map logged xs ++ map logged ys
map-append [] ys = refl
map-append (x ∷ xs) ys = ap (λ (l : List LogLine). logged x ∷ l) (map-append xs ys)

-- lines of which none begins a section
abbrev Unbegun : List LogLine → Type 0
Unbegun [] = Unit {0}
Unbegun (line.Section i turn kind ∷ lines) = ⊥
Unbegun (line.Note ∷ lines) = Unbegun lines
Unbegun (line.Board b turn tick ∷ lines) = Unbegun lines
Unbegun (line.Line b turn tick from ∷ lines) = Unbegun lines
Unbegun (line.Pulse s tick up ∷ lines) = Unbegun lines
Unbegun (line.Cut i ∷ lines) = Unbegun lines
Unbegun (line.End ∷ lines) = Unbegun lines

one-or-none : (b : Bool) (p : Pulse) (xs ys all : List Pulse) → all ≡ xs ++ ys → (if b then p ∷ all else all) ≡ (if b then p ∷ xs else xs) ++ ys
one-or-none true p xs ys all e = ap (λ (l : List Pulse). p ∷ l) e
one-or-none false p xs ys all e = e

pulses-append : (s : ℕ) (xs ys : List LogLine) → Unbegun xs → pulses s (xs ++ ys) ≡ pulses s xs ++ pulses s ys
pulses-append s [] ys un = refl
pulses-append s (line.Section i turn kind ∷ xs) ys un = absurd un
pulses-append s (line.Note ∷ xs) ys un = pulses-append s xs ys un
pulses-append s (line.Board b turn tick ∷ xs) ys un = pulses-append s xs ys un
pulses-append s (line.Line b turn tick from ∷ xs) ys un = pulses-append s xs ys un
pulses-append s (line.Pulse t tick up ∷ xs) ys un = one-or-none (t == s) (record { tick = tick; stepper = t; up = up }) (pulses s xs) (pulses s ys) (pulses s (xs ++ ys)) (pulses-append s xs ys un)
pulses-append s (line.Cut i ∷ xs) ys un = pulses-append s xs ys un
pulses-append s (line.End ∷ xs) ys un = pulses-append s xs ys un

-- a pulse, a cut of the section of a number, a further clock line, or what changes nothing
abbrev IsInner : ℕ → LogLine → Type 0
IsInner i line.Note = Unit {0}
IsInner i (line.Pulse s tick up) = Unit {0}
IsInner i (line.Cut j) = j ≡ i
IsInner i (line.Line b turn tick from) = Unit {0}
IsInner i _ = ⊥

inner-unbegun : (i : ℕ) (l : LogLine) (before : List LogLine) → IsInner i l → Unbegun before → Unbegun (l ∷ before)
inner-unbegun i (line.Section j turn kind) before inner un = absurd inner
inner-unbegun i (line.Board b turn tick) before inner un = absurd inner
inner-unbegun i line.End before inner un = absurd inner
inner-unbegun i c before inner un = un

unbegun-append : (xs ys : List LogLine) → Unbegun xs → Unbegun ys → Unbegun (xs ++ ys)
unbegun-append [] ys un and = and
unbegun-append (line.Section i turn kind ∷ xs) ys un and = absurd un
unbegun-append (line.Note ∷ xs) ys un and = unbegun-append xs ys un and
unbegun-append (line.Board b turn tick ∷ xs) ys un and = unbegun-append xs ys un and
unbegun-append (line.Line b turn tick from ∷ xs) ys un and = unbegun-append xs ys un and
unbegun-append (line.Pulse t tick up ∷ xs) ys un and = unbegun-append xs ys un and
unbegun-append (line.Cut i ∷ xs) ys un and = unbegun-append xs ys un and
unbegun-append (line.End ∷ xs) ys un and = unbegun-append xs ys un and

-- the first line of those behind a section's, and the others
first-inner : (i : ℕ) (l : ReportLine) (lines : List ReportLine) → AreInSection i (l ∷ lines) → IsInner i (logged l) × AreInSection i lines
first-inner i (report.Machine corexy boards steppers) lines are = (tt, are)
first-inner i (report.Pulse board stepper tick up) lines are = (tt, are)
first-inner i (report.Cut j board pin tick from) lines are = are
first-inner i (report.Drift board sent clock from) lines are = (tt, are)
first-inner i (report.Lines accepted passed) lines are = (tt, are)
first-inner i c lines are = absurd are

pulses-unbegun : (i : ℕ) (lines : List ReportLine) → AreInSection i lines → Unbegun (in_order (map logged lines))
pulses-unbegun i [] are = tt
pulses-unbegun i (l ∷ lines) are = (let h = first-inner i l lines are in unbegun-append (in_order (map logged lines)) (logged l ∷ []) (pulses-unbegun i lines h.1) (inner-unbegun i (logged l) [] h.0 tt))

-- a line before the others
pub told-more : (s i : ℕ) (l : ReportLine) (lines : List ReportLine) → AreInSection i (l ∷ lines) → told_pulses s (l ∷ lines) ≡ in_order (pulses s (logged l ∷ [])) ++ told_pulses s lines
told-more s i l lines are = search (rules, first-inner, pulses-append, pulses-unbegun, in-order-append)

-- a line more, of one before another
step-pulses : (s i : ℕ) (l : ReportLine) (lines : List ReportLine) (before : List LogLine) → AreInSection i (l ∷ lines) → in_order (pulses s (logged l ∷ before)) ++ told_pulses s lines ≡ in_order (pulses s before) ++ told_pulses s (l ∷ lines)
step-pulses s i l lines before are = search (rules, first-inner, inner-unbegun, pulses-append, in-order-append, told-more, append_assoc)

-- whether one of the lines is a cut line, one line more
step-cut : (l : ReportLine) (lines : List ReportLine) (before : List LogLine) (i : ℕ) → AreInSection i (l ∷ lines) → (if has_cut lines then true else is_cut (logged l ∷ before)) ≡ (if has_cut (l ∷ lines) then true else is_cut before)
step-cut (report.Machine corexy boards steppers) lines before i are = refl
step-cut (report.Pulse board stepper tick up) lines before i are = refl
step-cut (report.Cut j board pin tick from) lines before i are = by (has_cut lines)
  where
    by : (b : Bool) → (if b then true else true) ≡ true
    by true = refl
    by false = refl
step-cut (report.Drift board sent clock from) lines before i are = refl
step-cut (report.Lines accepted passed) lines before i are = refl
step-cut c lines before i are = absurd are

cut-later : (l : ReportLine) (lines : List ReportLine) → has_cut lines ≡ true → has_cut (l ∷ lines) ≡ true
cut-later (report.Cut i board pin tick from) lines e = refl
cut-later c lines e = e

-- the first of some pulses that fit
fits-front : (freq before : ℕ) (xs ys : List Pulse) (plan : List Planned) → Fits freq before (xs ++ ys) plan → Fits freq before xs plan
fits-front freq before [] ys plan fits = tt
fits-front freq before (x ∷ xs) ys [] fits = absurd fits
fits-front freq before (x ∷ xs) ys (q ∷ plan) fits = (fits.0, fits-front freq q.tick xs ys plan fits.1)

-- a section that is open behind some lines
record IsOpen (m : Machine) (sections : List Section) (fs : List Further) (lines : List Clocks) (i turn : ℕ) (moves : List Move) (before : List LogLine) : Type 0 where
  going : is_ended before ≡ false
  begun_is : begun before ≡ suc i
  start_is : section_start before ≡ turn
  lines_are : clocks m fs before ≡ lines
  moves_are : (section_at sections i).moves ≡ moves

open-more : (m : Machine) (sections : List Section) (fs : List Further) (lines : List Clocks) (i turn : ℕ) (moves : List Move) (before : List LogLine) (l : LogLine) → IsInner i l → IsOpen m sections fs lines i turn moves before → IsOpen m sections fs lines i turn moves (l ∷ before)
open-more m sections fs lines i turn moves before (line.Section j t kind) inner o = absurd inner
open-more m sections fs lines i turn moves before (line.Board b t tick) inner o = absurd inner
open-more m sections fs lines i turn moves before line.End inner o = absurd inner
open-more m sections fs lines i turn moves before c inner o = record { going = o.going; begun_is = o.begun_is; start_is = o.start_is; lines_are = o.lines_are; moves_are = o.moves_are }

-- its plan
plan-open : (m : Machine) (sections : List Section) (fs : List Further) (lines : List Clocks) (i turn : ℕ) (moves : List Move) (before : List LogLine) (s : ℕ) → IsOpen m sections fs lines i turn moves before → s < length m.steppers → plan_at m sections fs before s ≡ stepper_plan m lines moves turn s
plan-open m sections fs lines i turn moves before s o inside = search (rules, slice_index_or, get_or-map-range_with_len, stepper_plan)

fits-open : (m : Machine) (sections : List Section) (fs : List Further) (lines : List Clocks) (i turn : ℕ) (moves : List Move) (before : List LogLine) (s : ℕ) → IsOpen m sections fs lines i turn moves before → s < length m.steppers
    → Fits (clocks_at lines (stepper_at m s).board).first.freq (base_tick m lines turn s) (in_order (pulses s before)) (stepper_plan m lines moves turn s) → FitsHere m sections fs before s
fits-open m sections fs lines i turn moves before s o inside fits = search (rules, stepper_plan, stepper_at, clocks_at, plan-open)

-- the steppers of pulses are there
abbrev HasStepper : Machine → LogLine → Type 0
HasStepper m (line.Pulse s tick up) = s < length m.steppers
HasStepper m _ = Unit {0}

has-stepper : (m : Machine) (l : ReportLine) → IsOfRun m l → HasStepper m (logged l)
has-stepper m (report.Pulse board stepper tick up) of = of.0
has-stepper m c of = tt

-- a cut line of the section that is open fits where this homes
may-be-cut : (sections : List Section) (now i j : ℕ) → now ≡ suc i → j ≡ i → is_home (section_at sections i).kind ≡ true → may_cut sections now j ≡ true
may-be-cut sections now i j begins same homes = search (rules, eqb_tells)

-- whether a line cuts
abbrev cuts : LogLine → Bool
cuts (line.Cut j) = true
cuts _ = false

-- a further clock line that may stand
further-none : (m : Machine) (sections : List Section) (fs : List Further) (before : List LogLine) (b turn tick from : ℕ) → is_ended before ≡ false → MayStand m before (line.Line b turn tick from) → fault_at m sections (point m sections fs before) (line.Line b turn tick from) ≡ None
further-none m sections fs before b turn tick from going stand = open-only m sections fs before (line.Line b turn tick from) going (none-line (may_follow m (told_so m before) b turn tick from) stand)

inner-none : (m : Machine) (sections : List Section) (fs : List Further) (i : ℕ) (before : List LogLine) (l : LogLine) → MayStand m before l → IsInner i l → is_ended before ≡ false → begun before ≡ suc i → (cuts l ≡ true → is_home (section_at sections i).kind ≡ true) → HasStepper m l
    → ((s : ℕ) → s < length m.steppers → FitsHere m sections fs (l ∷ before) s) → fault_at m sections (point m sections fs before) l ≡ None
inner-none m sections fs i before line.Note stand inner going begins homes there fits = open-only m sections fs before line.Note going refl
inner-none m sections fs i before (line.Pulse s tick up) stand inner going begins homes there fits = open-only m sections fs before (line.Pulse s tick up) going (pulse-none m sections fs before s tick up there (fits s there))
inner-none m sections fs i before (line.Line b turn tick from) stand inner going begins homes there fits = further-none m sections fs before b turn tick from going stand
inner-none m sections fs i before (line.Cut j) stand inner going begins homes there fits =
    open-only m sections fs before (line.Cut j) going (none-if (may_cut sections (begun before) j) (may-be-cut sections (begun before) i j begins inner (homes refl)))
inner-none m sections fs i before c stand inner going begins homes there fits = absurd inner

line-cuts : (l : ReportLine) (lines : List ReportLine) → cuts (logged l) ≡ true → has_cut (l ∷ lines) ≡ true
line-cuts (report.Cut i board pin tick from) lines e = refl
line-cuts c lines e = cc

-- behind the lines of a section: each fits, the section is open, and these are its pulses
record AreTold (m : Machine) (sections : List Section) (fs : List Further) (lines : List Clocks) (i turn : ℕ) (moves : List Move) (before behind : List LogLine) (block : List ReportLine) : Type 0 where
  fine : Fine m sections fs behind
  open_is : IsOpen m sections fs lines i turn moves behind
  cut_is : is_cut behind ≡ (if has_cut block then true else is_cut before)
  pulses_are : (s : ℕ) → in_order (pulses s behind) ≡ in_order (pulses s before) ++ told_pulses s block

section-told : (m : Machine) (sections : List Section) (fs : List Further) (lines : List Clocks) (i turn : ℕ) (moves : List Move) (block : List ReportLine) (before : List LogLine) → IsOpen m sections fs lines i turn moves before → Fine m sections fs before → AllMayStand m before (map logged block) → AreInSection i block → AreOfRun m block
    → (has_cut block ≡ true → is_home (section_at sections i).kind ≡ true)
    → ((s : ℕ) → s < length m.steppers → Fits (clocks_at lines (stepper_at m s).board).first.freq (base_tick m lines turn s) (in_order (pulses s before) ++ told_pulses s block) (stepper_plan m lines moves turn s))
    → AreTold m sections fs lines i turn moves before (onto (map logged block) before) block
section-told m sections fs lines i turn moves [] before o fine stand are of homes fits = record { fine = fine; open_is = o; cut_is = refl; pulses_are = λ s. sym (append-nil (in_order (pulses s before))) }
section-told m sections fs lines i turn moves (l ∷ block) before o fine stand are of homes fits =
    let h = first-inner i l block are in
    let next = open-more m sections fs lines i turn moves before (logged l) h.0 o in
    let P : ℕ → List Pulse → Type 0 = λ s ps. Fits (clocks_at lines (stepper_at m s).board).first.freq (base_tick m lines turn s) ps (stepper_plan m lines moves turn s) in
    let fits' : (s : ℕ) → s < length m.steppers → P s (in_order (pulses s (logged l ∷ before)) ++ told_pulses s block) = λ s inside. subst (P s) (sym (step-pulses s i l block before are)) (fits s inside) in
    let here = λ (s : ℕ) (inside : s < length m.steppers). fits-open m sections fs lines i turn moves (logged l ∷ before) s next inside (fits-front _ _ (in_order (pulses s (logged l ∷ before))) (told_pulses s block) _ (fits' s inside)) in
    let none = inner-none m sections fs i before (logged l) stand.0 h.0 o.going o.begun_is (λ e. homes (line-cuts l block e)) (has-stepper m l of.0) here in
    let later = section-told m sections fs lines i turn moves block (logged l ∷ before) next (none, fine) stand.1 h.1 of.1 (λ e. homes (cut-later l block e)) fits' in
    record { fine = later.fine; open_is = later.open_is; cut_is = later.cut_is ∙ step-cut l block before i are; pulses_are = λ s. later.pulses_are s ∙ step-pulses s i l block before are }

-- all pulses of a section are told
whole-told : (m : Machine) (sections : List Section) (fs : List Further) (lines : List Clocks) (i turn : ℕ) (moves : List Move) (before behind : List LogLine) (block : List ReportLine) (s : ℕ) → AreTold m sections fs lines i turn moves before behind block → s < length m.steppers → pulses s before ≡ [] → length (told_pulses s block) ≡ length (stepper_plan m lines moves turn s)
    → IsWholeHere m sections fs behind s
whole-told m sections fs lines i turn moves before behind block s are inside none whole = search (rules, length-in_order, plan-open)

-- behind some sections: the next one may start when this is told
record MayGoOn (m : Machine) (sections : List Section) (fs : List Further) (lines : List Clocks) (i soon : ℕ) (before : List LogLine) : Type 0 where
  fine : Fine m sections fs before
  going : is_ended before ≡ false
  begun_is : begun before ≡ i
  lines_are : clocks m fs before ≡ lines
  whole : is_cut before ≡ false → (s : ℕ) → s < length m.steppers → IsWholeHere m sections fs before s
  due : ready (is_cut before) (begun before) (section_start before) (end_by m sections (clocks m fs before) (begun before) (section_start before)) ≤ soon

-- a section begins
section-begins : (m : Machine) (sections : List Section) (fs : List Further) (past secs : List Section) (s : Section) (lines : List Clocks) (i soon turn : ℕ) (before : List LogLine) → sections ≡ past ++ s ∷ secs → i ≡ length past → length lines ≡ length m.boards → have_room lines (length s.moves) turn ≡ true → soon + s.dwell ≤ turn
    → MayGoOn m sections fs lines i soon before → Fine m sections fs (line.Section i turn s.kind ∷ before) × IsOpen m sections fs lines i turn s.moves (line.Section i turn s.kind ∷ before)
section-begins m sections fs past secs s lines i soon turn before are at boards room late may =
    let is : section_at sections i ≡ s = ap (λ (ss : List Section). slice_index_or ss i no_section) are ∙ (ap (λ (n : ℕ). slice_index_or (past ++ s ∷ secs) n no_section) at ∙ get_or-append_seam past s secs no_section) in
    let count = ap length are in
    let long = length-append past (s ∷ secs) in
    let inside : i < length sections = omega (arith, at, count, long) in
    let due = may.due in
    let dwell : (section_at sections i).dwell ≡ s.dwell = ap (λ (x : Section). x.dwell) is in
    let next : IsNextSection m sections fs before i turn s.kind = record { number = sym may.begun_is; there = inside; same = sym (ap (λ (x : Section). x.kind) is); due = omega (arith, due, dwell, late) } in
    let have : have_room (clocks m fs before) (length (section_at sections i).moves) turn ≡ true = ap (λ (c : List Clocks). have_room c (length (section_at sections i).moves) turn) may.lines_are ∙ (ap (λ (x : Section). have_room lines (length x.moves) turn) is ∙ room) in
    let told_boards : length (clocks m fs before) ≡ length m.boards = ap length may.lines_are ∙ boards in
    let short = never-short (is_cut before) (plans m sections fs before) (point m sections fs before).tallies (λ cut. whole-lacks m sections fs before (may.whole cut)) in
    let none = section-none (is_short (is_cut before) (plans m sections fs before) (point m sections fs before).tallies) (may_start m sections (point m sections fs before) i turn s.kind) short (may-start m sections fs before i turn s.kind next told_boards have) in
    ((open-only m sections fs before (line.Section i turn s.kind) may.going none, may.fine), record { going = may.going; begun_is = ap suc may.begun_is; start_is = refl; lines_are = may.lines_are; moves_are = ap (λ (x : Section). x.moves) is })

-- behind it the next one may start when its plan has ended, or where it was cut, behind its start
section-over : (m : Machine) (sections : List Section) (fs : List Further) (lines : List Clocks) (i turn : ℕ) (moves : List Move) (before behind : List LogLine) (block : List ReportLine) → AreTold m sections fs lines i turn moves before behind block → is_cut before ≡ false
    → (has_cut block ≡ false → (s : ℕ) → s < length m.steppers → IsWholeHere m sections fs behind s) → MayGoOn m sections fs lines (i + 1) (ready_behind (has_cut block) turn (section_end m lines moves turn)) behind
section-over m sections fs lines i turn moves before behind block are uncut whole =
    let o = are.open_is in
    let one : begun behind ≡ i + 1 = o.begun_is ∙ omega arith in
    let cut : is_cut behind ≡ has_cut block = are.cut_is ∙ ap (λ (b : Bool). if has_cut block then true else b) uncut ∙ itself (has_cut block) in
    let end : ready (is_cut behind) (begun behind) (section_start behind) (end_by m sections (clocks m fs behind) (begun behind) (section_start behind)) ≡ ready_behind (has_cut block) turn (section_end m lines moves turn) =
    ap (λ (c : Bool). ready c (begun behind) (section_start behind) (end_by m sections (clocks m fs behind) (begun behind) (section_start behind))) cut
    ∙ (ap (λ (n : ℕ). ready (has_cut block) n (section_start behind) (end_by m sections (clocks m fs behind) n (section_start behind))) o.begun_is
    ∙ (by-cut (has_cut block) (section_start behind) (section_end m (clocks m fs behind) (section_at sections i).moves (section_start behind))
    ∙ (ap (λ (c : List Clocks). ready_behind (has_cut block) (section_start behind) (section_end m c (section_at sections i).moves (section_start behind))) o.lines_are
    ∙ (ap (λ (ms : List Move). ready_behind (has_cut block) (section_start behind) (section_end m lines ms (section_start behind))) o.moves_are
    ∙ ap (λ (t : ℕ). ready_behind (has_cut block) t (section_end m lines moves t)) o.start_is)))) in
    record { fine = are.fine; going = o.going; begun_is = one; lines_are = o.lines_are; whole = λ e. whole (sym cut ∙ e); due = omega (arith, end) }
  where
    itself : (b : Bool) → (if b then true else false) ≡ b
    itself true = refl
    itself false = refl

    by-cut : (b : Bool) (begin end : ℕ) → ready b (suc i) begin end ≡ ready_behind b begin end
    by-cut true begin end = refl
    by-cut false begin end = refl

of-first : (m : Machine) (xs ys : List ReportLine) → AreOfRun m (xs ++ ys) → AreOfRun m xs × AreOfRun m ys
of-first m [] ys of = (tt, of)
of-first m (x ∷ xs) ys of = (let h = of-first m xs ys of.1 in ((of.0, h.0), h.1))

-- behind all lines: each fits, and nothing is missing
pub record AreOver (m : Machine) (sections : List Section) (fs : List Further) (before : List LogLine) : Type 0 where
  pub fine : Fine m sections fs before
  pub going : is_ended before ≡ false
  pub whole : is_cut before ≡ false → (s : ℕ) → s < length m.steppers → IsWholeHere m sections fs before s

note-over : (m : Machine) (sections : List Section) (fs : List Further) (before : List LogLine) → AreOver m sections fs before → AreOver m sections fs (line.Note ∷ before)
note-over m sections fs before over = record { fine = (open-only m sections fs before line.Note over.going refl, over.fine); going = over.going; whole = over.whole }

further-over : (m : Machine) (sections : List Section) (fs : List Further) (before : List LogLine) (b turn tick from : ℕ) → MayStand m before (line.Line b turn tick from) → AreOver m sections fs before → AreOver m sections fs (line.Line b turn tick from ∷ before)
further-over m sections fs before b turn tick from stand over = record { fine = (further-none m sections fs before b turn tick from over.going stand, over.fine); going = over.going; whole = over.whole }

notes-over : (m : Machine) (sections : List Section) (fs : List Further) (lines : List ReportLine) (before : List LogLine) → AllMayStand m before (map logged lines) → AreNotes lines → AreOver m sections fs before → AreOver m sections fs (onto (map logged lines) before)
notes-over m sections fs [] before stand are over = over
notes-over m sections fs (report.Machine corexy boards steppers ∷ lines) before stand are over = notes-over m sections fs lines (line.Note ∷ before) stand.1 are (note-over m sections fs before over)
notes-over m sections fs (report.Drift board sent clock from ∷ lines) before stand are over =
    notes-over m sections fs lines (line.Line board sent clock from ∷ before) stand.1 are (further-over m sections fs before board sent clock from stand.0 over)
notes-over m sections fs (report.Lines accepted passed ∷ lines) before stand are over = notes-over m sections fs lines (line.Note ∷ before) stand.1 are (note-over m sections fs before over)
notes-over m sections fs (report.Board board freq turn tick ∷ lines) before stand are over = absurd are
notes-over m sections fs (report.Section i turn kind ∷ lines) before stand are over = absurd are
notes-over m sections fs (report.Pulse board stepper tick up ∷ lines) before stand are over = absurd are
notes-over m sections fs (report.Cut i board pin tick from ∷ lines) before stand are over = absurd are
notes-over m sections fs (report.Out board pin tick on ∷ lines) before stand are over = absurd are
notes-over m sections fs (report.Made seed moves ∷ lines) before stand are over = absurd are
notes-over m sections fs (report.Count stepper pulses ∷ lines) before stand are over = absurd are
notes-over m sections fs (report.Fit section stepper pulses planned early late ∷ lines) before stand are over = absurd are
notes-over m sections fs (report.End c ∷ lines) before stand are over = absurd are

pub stand-first : (m : Machine) (before xs ys : List LogLine) → AllMayStand m before (xs ++ ys) → AllMayStand m before xs × AllMayStand m (onto xs before) ys
stand-first m before [] ys stand = (tt, stand)
stand-first m before (x ∷ xs) ys stand = (let rest = stand-first m (x ∷ before) xs ys stand.1 in ((stand.0, rest.0), rest.1))

sections-over : (m : Machine) (sections : List Section) (fs : List Further) (past secs : List Section) (lines : List Clocks) (i soon : ℕ) (before : List LogLine) (said : List ReportLine) → sections ≡ past ++ secs → i ≡ length past → (0 < length secs → length lines ≡ length m.boards) → MayGoOn m sections fs lines i soon before → AreOfRun m said → AllMayStand m before (map logged said)
    → TellAllWithin m lines i soon secs said → AreOver m sections fs (onto (map logged said) before)
sections-over m sections fs past [] lines i soon before said are at boards may of stand tells = notes-over m sections fs said before stand tells (record { fine = may.fine; going = may.going; whole = may.whole })
sections-over m sections fs past (s ∷ secs) lines i soon before said are at boards may of stand tells =
    let turn = tells.0 in
    let behind = tells.1 in
    let rest = tells.2 in
    let tell = tells.5 in
    let first = line.Section i turn s.kind in
    let Of : List ReportLine → Type 0 = λ l. AreOfRun m l in
    let of' = subst Of tells.3 of in
    let parts = of-first m behind rest of'.1 in
    let Stand : List ReportLine → Type 0 = λ l. AllMayStand m before (map logged l) in
    let stand' : AllMayStand m (first ∷ before) (map logged (behind ++ rest)) = (subst Stand tells.3 stand).1 in
    let plains = stand-first m (first ∷ before) (map logged behind) (map logged rest) (subst (λ (l : List LogLine). AllMayStand m (first ∷ before) l) (map-append behind rest) stand') in
    let begins = section-begins m sections fs past secs s lines i soon turn before are at (boards (omega arith)) tell.room tells.4 may in
    let here : section_at sections i ≡ s = ap (λ (ss : List Section). slice_index_or ss i no_section) are ∙ (ap (λ (n : ℕ). slice_index_or (past ++ s ∷ secs) n no_section) at ∙ get_or-append_seam past s secs no_section) in
    let homes : has_cut behind ≡ true → is_home (section_at sections i).kind ≡ true = λ e. (let h = tell.homes e in ap (λ (x : Section). is_home x.kind) here ∙ ap is_home h.1) in
    let all = section-told m sections fs lines i turn s.moves behind (first ∷ before) begins.1 begins.0 plains.0 tell.are parts.0 homes tell.fits in
    let over = section-over m sections fs lines i turn s.moves (first ∷ before) (onto (map logged behind) (first ∷ before)) behind all refl (λ uncut q inside. whole-told m sections fs lines i turn s.moves (first ∷ before) _ behind q all inside refl (tell.whole uncut q inside)) in
    let long = length-append past (s ∷ []) in
    let later = sections-over m sections fs (past ++ s ∷ []) secs lines (i + 1) (ready_behind (has_cut behind) turn (section_end m lines s.moves turn)) (onto (map logged behind) (first ∷ before)) rest (are ∙ sym (append_assoc past (s ∷ []) secs)) (omega (arith, at, long)) (λ some. boards (omega arith)) over parts.1 plains.1
    tells.6 in
    let whole : onto (map logged said) before ≡ onto (map logged rest) (onto (map logged behind) (first ∷ before)) =
    ap (λ (l : List ReportLine). onto (map logged l) before) tells.3 ∙ (ap (λ (l : List LogLine). onto l (first ∷ before)) (map-append behind rest) ∙ onto-append (map logged behind) (map logged rest) (first ∷ before)) in
    subst (λ (l : List LogLine). AreOver m sections fs l) (sym whole) later

-- before the first section
record IsBefore (m : Machine) (sections : List Section) (fs : List Further) (b : ℕ) (before : List LogLine) : Type 0 where
  fine : Fine m sections fs before
  going : is_ended before ≡ false
  none : begun before ≡ 0
  boards : length (clocks m fs before) ≡ b
  silent : (s : ℕ) → pulses s before ≡ []

before-note : (m : Machine) (sections : List Section) (fs : List Further) (b : ℕ) (before : List LogLine) → IsBefore m sections fs b before → IsBefore m sections fs b (line.Note ∷ before)
before-note m sections fs b before h = record { fine = (open-only m sections fs before line.Note h.going refl, h.fine); going = h.going; none = h.none; boards = h.boards; silent = h.silent }

before-board : (m : Machine) (sections : List Section) (fs : List Further) (b turn tick : ℕ) (before : List LogLine) → IsBefore m sections fs b before → IsBefore m sections fs (b + 1) (line.Board b turn tick ∷ before)
before-board m sections fs b turn tick before h = search (rules, none-board, nat_tests, open-only, length-append, one_line)

before-further : (m : Machine) (sections : List Section) (fs : List Further) (b : ℕ) (before : List LogLine) (board turn tick from : ℕ) → MayStand m before (line.Line board turn tick from) → IsBefore m sections fs b before → IsBefore m sections fs b (line.Line board turn tick from ∷ before)
before-further m sections fs b before board turn tick from stand h = record { fine = (further-none m sections fs before board turn tick from h.going stand, h.fine); going = h.going; none = h.none; boards = h.boards; silent = h.silent }

heads-before : (m : Machine) (sections : List Section) (fs : List Further) (b : ℕ) (lines : List ReportLine) (before : List LogLine) → AllMayStand m before (map logged lines) → AreHeads b lines → IsBefore m sections fs b before → (n : ℕ) × IsBefore m sections fs n (onto (map logged lines) before)
heads-before m sections fs b [] before stand are h = (b, h)
heads-before m sections fs b (report.Board board freq turn tick ∷ lines) before stand are h =
    heads-before m sections fs (b + 1) lines (line.Board board turn tick ∷ before) stand.1 are.1 (subst (λ (k : ℕ). IsBefore m sections fs (b + 1) (line.Board k turn tick ∷ before)) (sym are.0) (before-board m sections fs b turn tick before h))
heads-before m sections fs b (report.Machine corexy boards steppers ∷ lines) before stand are h = heads-before m sections fs b lines (line.Note ∷ before) stand.1 are (before-note m sections fs b before h)
heads-before m sections fs b (report.Drift board sent clock from ∷ lines) before stand are h =
    heads-before m sections fs b lines (line.Line board sent clock from ∷ before) stand.1 are (before-further m sections fs b before board sent clock from stand.0 h)
heads-before m sections fs b (report.Lines accepted passed ∷ lines) before stand are h = heads-before m sections fs b lines (line.Note ∷ before) stand.1 are (before-note m sections fs b before h)
heads-before m sections fs b (report.Section i turn kind ∷ lines) before stand are h = absurd are
heads-before m sections fs b (report.Pulse board stepper tick up ∷ lines) before stand are h = absurd are
heads-before m sections fs b (report.Cut i board pin tick from ∷ lines) before stand are h = absurd are
heads-before m sections fs b (report.Out board pin tick on ∷ lines) before stand are h = absurd are
heads-before m sections fs b (report.Made seed moves ∷ lines) before stand are h = absurd are
heads-before m sections fs b (report.Count stepper pulses ∷ lines) before stand are h = absurd are
heads-before m sections fs b (report.Fit section stepper pulses planned early late ∷ lines) before stand are h = absurd are
heads-before m sections fs b (report.End c ∷ lines) before stand are h = absurd are

-- the first section may start from the first turn on
may-begin : (m : Machine) (sections : List Section) (fs : List Further) (lines : List Clocks) (soon n : ℕ) (before : List LogLine) → IsBefore m sections fs n before → clocks m fs before ≡ lines → first_turn ≤ soon → MayGoOn m sections fs lines 0 soon before
may-begin m sections fs lines soon n before h are low = search (rules, no-plan)

through-over : (m : Machine) (sections : List Section) (lines : List Clocks) (soon : ℕ) (said : List ReportLine) → GoWithin m sections lines soon said → AreOver m sections (further_told (map logged said)) (onto (map logged said) [])
through-over m sections lines soon said go =
    let fs = further_told (map logged said) in
    let empty : IsBefore m sections fs 0 [] = record { fine = tt; going = refl; none = refl; boards = refl; silent = λ s. refl } in
    let parted : map logged said ≡ map logged go.head ++ map logged go.body = ap (map logged) go.are ∙ map-append go.head go.body in
    let stands = stand-first m [] (map logged go.head) (map logged go.body) (subst (λ (l : List LogLine). AllMayStand m [] l) parted go.may) in
    let found = heads-before m sections fs 0 go.head [] stands.0 go.heads empty in
    let before = onto (map logged go.head) [] in
    let is : before ≡ in_order (map logged go.head) = onto-in-order (map logged go.head) [] ∙ append-nil (in_order (map logged go.head)) in
    let told_lines = ap (clocks m fs) is ∙ go.lines_told in
    let may = may-begin m sections fs lines soon found.0 before found.1 told_lines go.soonest in
    let Of : List ReportLine → Type 0 = λ l. AreOfRun m l in
    let parts = of-first m go.head go.body (subst Of go.are go.of_run) in
    let over = sections-over m sections fs [] sections lines 0 soon before go.body refl refl go.all may parts.1 stands.1 go.told_all in
    let whole : onto (map logged said) [] ≡ onto (map logged go.body) before = ap (λ (l : List LogLine). onto l []) parted ∙ onto-append (map logged go.head) (map logged go.body) [] in
    subst (λ (l : List LogLine). AreOver m sections fs l) (sym whole) over

-- with the end line behind them
end-over : (m : Machine) (sections : List Section) (fs : List Further) (before : List LogLine) → AreOver m sections fs before → Fine m sections fs (line.End ∷ before)
end-over m sections fs before over = search (rules, never-short, whole-lacks, open-only)

pub of-more : (m : Machine) (xs ys : List ReportLine) → AreOfRun m xs → AreOfRun m ys → AreOfRun m (xs ++ ys)
of-more m [] ys of and = and
of-more m (x ∷ xs) ys of and = (of.0, of-more m xs ys of.1 and)

-- the further clock lines are those that the check finds, with the end line behind them
found-told : (lines : List LogLine) → listed lines ≡ further_told lines
found-told [] = refl
found-told (l ∷ lines) = ap (with_one (further_of (Ok l))) (found-told lines)

end-told : (lines : List ReportLine) (c : Cause) → further_told (map logged (lines ++ report.End c ∷ [])) ≡ further_told (map logged lines)
end-told [] c = refl
end-told (l ∷ lines) c = ap (with_one (further_of (Ok (logged l)))) (end-told lines c)

pub within-checks : (m : Machine) (sections : List Section) (lines : List Clocks) (soon : ℕ) (said : List ReportLine) (c : Cause) → IsValidMachine m → HasNames m → GoWithin m sections lines soon said → IsCauseOn m c
    → (let words = worded_lines 35 1 (lines_of (report_text m (said ++ report.End c ∷ []))) in (verdict m sections (further_said m words) 0 [] words).cause ≡ cause.Done)
within-checks m sections lines soon said c valid names go on =
    let all = said ++ report.End c ∷ [] in
    let of = of-more m said (report.End c ∷ []) go.of_run (on, tt) in
    let before = onto (map logged said) [] in
    let fs = further_told (map logged said) in
    let over = through-over m sections lines soon said go in
    let whole : onto (map logged all) [] ≡ line.End ∷ before = ap (λ (l : List LogLine). onto l []) (map-append said (report.End c ∷ [])) ∙ onto-append (map logged said) (line.End ∷ []) [] in
    let short = never-short (is_cut before) (plans m sections fs before) (point m sections fs before).tallies (λ cut. whole-lacks m sections fs before (over.whole cut)) in
    let Fit : List LogLine → Type 0 = λ x. Fine m sections fs x in
    let Short : List LogLine → Type 0 = λ x. is_short (is_cut x) (plans m sections fs x) (point m sections fs x).tallies ≡ false in
    let read = lines-read m all 1 valid names of in
    let h = all-done m sections fs 0 [] (numbered m 1 all) (map logged all) (words-said m all 1 valid names of) (subst Fit (sym whole) (end-over m sections fs before over)) (subst Short (sym whole) short) in
    let found = said-listed m (numbered m 1 all) (map logged all) (words-said m all 1 valid names of) ∙ found-told (map logged all) ∙ end-told said c in
    ap (λ (ws : List (ℕ × List Text)). (verdict m sections (further_said m ws) 0 [] ws).cause) read ∙ (ap (λ (f : List Further). (verdict m sections f 0 [] (numbered m 1 all)).cause) found ∙ h.0)

-- a report of moves goes through so
pulses-within : (i : ℕ) (lines : List ReportLine) → ArePulses lines → AreInSection i lines × (has_cut lines ≡ false)
pulses-within i [] are = (tt, refl)
pulses-within i (report.Pulse board stepper tick up ∷ lines) are = pulses-within i lines are
pulses-within i (report.Machine corexy boards steppers ∷ lines) are = pulses-within i lines are
pulses-within i (report.Drift board sent clock from ∷ lines) are = pulses-within i lines are
pulses-within i (report.Lines accepted passed ∷ lines) are = pulses-within i lines are
pulses-within i (report.Board board freq turn tick ∷ lines) are = absurd are
pulses-within i (report.Section j turn kind ∷ lines) are = absurd are
pulses-within i (report.Cut j board pin tick from ∷ lines) are = absurd are
pulses-within i (report.Out board pin tick on ∷ lines) are = absurd are
pulses-within i (report.Made seed moves ∷ lines) are = absurd are
pulses-within i (report.Count stepper pulses ∷ lines) are = absurd are
pulses-within i (report.Fit section stepper pulses planned early late ∷ lines) are = absurd are
pulses-within i (report.End c ∷ lines) are = absurd are

all-within : (m : Machine) (lines : List Clocks) (i soon : ℕ) (sections : List Section) (said : List ReportLine) → TellSections m lines i soon sections said → TellAllWithin m lines i soon sections said
all-within m lines i soon [] said tells = tells
all-within m lines i soon (s ∷ sections) said tells =
    let behind = tells.0 in
    let turn = soon + s.dwell in
    let tell = tells.3 in
    let are = pulses-within i behind tell.are in
    let Ready : Bool → Type 0 = λ b. TellAllWithin m lines (i + 1) (ready_behind b turn (section_end m lines s.moves turn)) sections tells.1 in (
      turn,
      behind,
      tells.1,
      tells.2,
      omega arith,
      record {
        are = are.0;
        homes = λ cut. absurd (let f : false ≡ true = sym are.1 ∙ cut in cc);
        fits = tell.fits;
        whole = λ uncut. tell.whole;
        room = tell.room;
      },
      subst Ready (sym are.1) (all-within m lines (i + 1) (section_end m lines s.moves turn + 260) sections tells.1 tells.4),
    )

pub through-checks : (m : Machine) (sections : List Section) (lines : List Clocks) (soon : ℕ) (said : List ReportLine) (c : Cause) → IsValidMachine m → HasNames m → GoThrough m sections lines soon said → IsCauseOn m c
    → (let words = worded_lines 35 1 (lines_of (report_text m (said ++ report.End c ∷ []))) in (verdict m sections (further_said m words) 0 [] words).cause ≡ cause.Done)
through-checks m sections lines soon said c valid names go on =
    let within : GoWithin m sections lines soon said = record {
      head = go.head;
      body = go.body;
      are = go.are;
      of_run = go.of_run;
      may = go.may;
      heads = go.heads;
      lines_told = go.lines_told;
      all = go.all;
      soonest = go.soonest;
      told_all = all-within m lines 0 soon sections go.body go.told_all;
    } in
    within-checks m sections lines soon said c valid names within on
