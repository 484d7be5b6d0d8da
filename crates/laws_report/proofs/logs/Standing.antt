-- A log that follows the plan, and whose lines stand where they may, checks.
use Rattle.std.proofs.Common.{◌≡◌, ◌∙◌, ℕ, zero, suc, ◌+◌, ◌<◌, ◌≤◌, Bool, true, false, List, [], ◌∷◌, ◌++◌, length, get_or, map, ap, sym, refl, subst, arith, Some, None, append_assoc, rules}
use Rattle.std.specs.Prelude.{◌==◌, ◌&&◌, ◌||◌, nat_le, nat_lt, if◌then◌else◌, slice_index_or, Ok}
use Rattle.laws_board.proofs.Names.{nat_tests, Machine, Planned, Pulse, Section, SectionKind, Moves, Home, Fits, and_from}
use Rattle.std.proofs.lemmas.List.FromFn.{length-map-range_with_len}
use Rattle.log_text.specs.declared.line.LogLine.{LogLine}
use Rattle.log_text.specs.declared.line.LogLine.TheVariants as line
use Rattle.log_text.specs.Said.{line_said}
use Rattle.text_core.specs.Bytes.{Text}
use Rattle.log_check.specs.declared.tally.Tally.{Tally}
use Rattle.log_check.specs.declared.further.Further.{Further}
use Rattle.log_check.specs.Behind.{begun, clocks, further_said, is_cut, is_ended, pulses, told_clocks}
use Rattle.log_check.specs.Faults.{fault_at, fault_if, have_room, is_short, lacks, may_cut, may_follow, may_start, no_tally, open_fault, ready, same_kind, section_fault}
use Rattle.log_check.specs.Points.{plans, point, section_at}
use Rattle.log_check.specs.Pulses.{tick_before}
use Rattle.log_check.specs.Verdicts.{Verdict, by_fault, by_line, end_cause, verdict}
use Rattle.laws_report.specs.logs.Follows.{FitsHere, FollowsPlan, IsNextSection, IsWholeHere, StandsWell, all_said, base_at, freq_at, further_among, in_order, ok_line, plan_at}
use Rattle.laws_report.proofs.logs.Fitting.{fits-last, length-in_order, no-pulse-fault}
use Rattle.laws_report.proofs.logs.Following.{Fine, base-is, said-among, tally-made}
use Rattle.plan_types.specs.declared.cause.Cause.TheVariants as cause
use Rattle.plan_types.specs.declared.cause.MisfitKind.TheVariants as misfit
use Rattle.plan_types.specs.Plan.{IsPulseOf, no_step}
use Rattle.std.proofs.lemmas.Bool.{or_from}

-- a line whose end was not told is judged by itself
pub open-only : (m : Machine) (sections : List Section) (further : List Further) (before : List LogLine) (l : LogLine) → is_ended before ≡ false → open_fault m sections (point m sections further before) l ≡ None → fault_at m sections (point m sections further before) l ≡ None
open-only m sections further before l going fits = rw going fits

none-lacks : (plans : List (List Planned)) (tallies : List Tally) → ((s : ℕ) → s < length plans → length (get_or plans s []) ≤ (get_or tallies s no_tally).made) → lacks plans tallies ≡ false
none-lacks [] tallies all = refl
none-lacks (p ∷ plans) [] all = refl
none-lacks (p ∷ plans) (t ∷ tallies) all =
    let here = all 0 (omega arith) in
    let first : nat_lt t.made (length p) ≡ false = grind (arith, nat_tests) in
    or_from (nat_lt t.made (length p)) (lacks plans tallies) first (none-lacks plans tallies (λ s inside. all (suc s) (omega (arith, inside))))

pub whole-lacks : (m : Machine) (sections : List Section) (further : List Further) (before : List LogLine) → ((s : ℕ) → s < length m.steppers → IsWholeHere m sections further before s) → lacks (plans m sections further before) (point m sections further before).tallies ≡ false
whole-lacks m sections further before whole = by (begun before) refl where
  by : (n : ℕ) → begun before ≡ n → lacks (plans m sections further before) (point m sections further before).tallies ≡ false
  by zero first = (let none : plans m sections further before ≡ [] = rw first refl in ap (λ (ps : List (List Planned)). lacks ps (point m sections further before).tallies) none)
  by (suc n) later =
      let count : length (plans m sections further before) ≡ length m.steppers = rw later (length-map-range_with_len _ 0 (length m.steppers)) in
      none-lacks (plans m sections further before) (point m sections further before).tallies (λ s inside. (let in_steppers : s < length m.steppers = omega (arith, inside) in let here = whole s in_steppers in let made = tally-made m sections further before s in_steppers in omega (arith, here, made)))

pub never-short : (cut : Bool) (ps : List (List Planned)) (ts : List Tally) → (cut ≡ false → lacks ps ts ≡ false) → is_short cut ps ts ≡ false
never-short true ps ts h = refl
never-short false ps ts h = h refl

same-itself : (k : SectionKind) → same_kind k k ≡ true
same-itself Moves = refl
same-itself (Home a) = grind (arith, nat_tests)

pub may-start : (m : Machine) (sections : List Section) (further : List Further) (before : List LogLine) (i turn : ℕ) (kind : SectionKind) → IsNextSection m sections further before i turn kind → length (clocks m further before) ≡ length m.boards → have_room (clocks m further before) (length (section_at sections i).moves) turn ≡ true
    → may_start m sections (point m sections further before) i turn kind ≡ true
may-start m sections further before i turn kind next boards room = search (rules, nat_tests, nat_lt, same-itself, nat_le, and_from)

pub pulse-none : (m : Machine) (sections : List Section) (further : List Further) (before : List LogLine) (s tick : ℕ) (up : Bool) → s < length m.steppers → FitsHere m sections further (line.Pulse s tick up ∷ before) s → open_fault m sections (point m sections further before) (line.Pulse s tick up) ≡ None
pulse-none m sections further before s tick up inside fits =
    let q = point m sections further before in
    let plan = plan_at m sections further before s in
    let p : Pulse = record { tick = tick; stepper = s; up = up } in
    let made = (slice_index_or q.tallies s no_tally).made in
    let self : (s == s) ≡ true = grind (arith, nat_tests) in
    let is : pulses s (line.Pulse s tick up ∷ before) ≡ p ∷ pulses s before = rw self refl in
    let G : List Pulse → Type 0 = λ ps. Fits (freq_at m further before s) (base_at m further before s) (in_order ps) plan in
    let at : made ≡ length (in_order (pulses s before)) = tally-made m sections further before s inside ∙ sym (length-in_order (pulses s before)) in
    let shown = fits-last (freq_at m further before s) (base_at m further before s) (in_order (pulses s before)) plan made p at (subst G is fits) in
    let low : made < length plan = shown.0 in
    let base = base-is m sections further before s (begun before) refl inside (omega (arith, low)) in
    let H : ℕ → Type 0 = λ b. IsPulseOf (freq_at m further before s) (tick_before b plan made) (slice_index_or plan made no_step) p in
    no-pulse-fault (freq_at m further before s) (slice_index_or q.bases s 0) plan made p low (subst H (sym base) shown.1)

pub none-if : (a : Bool) → a ≡ true → (if a then None else Some misfit.Section) ≡ None
none-if true e = refl
none-if false e = cc

pub none-board : (a b : Bool) → a ≡ true → b ≡ true → (if a && b then None else Some misfit.BadLine) ≡ None
none-board a b p2 p3 = cc

pub section-none : (short may : Bool) → short ≡ false → may ≡ true → section_fault short may ≡ None
section-none short may e f = rw (e, f) refl

-- each line fits
pub none-line : (a : Bool) → a ≡ true → (if a then None else Some misfit.BadLine) ≡ None
none-line true e = refl
none-line false e = cc

pub fine-from : (m : Machine) (sections : List Section) (lines later before : List LogLine) → FollowsPlan m sections lines → StandsWell m sections lines → lines ≡ later ++ before → Fine m sections (further_among lines) before
fine-from m sections lines later [] follows stands is = tt
fine-from m sections lines later (l ∷ before) follows stands is =
    let on : lines ≡ (later ++ l ∷ []) ++ before = is ∙ sym (append_assoc later (l ∷ []) before) in
    (open-only m sections (further_among lines) before l (stands.ends later before l is) (by l is), fine-from m sections lines (later ++ l ∷ []) before follows stands on) where
      by : (k : LogLine) → lines ≡ later ++ k ∷ before → open_fault m sections (point m sections (further_among lines) before) k ≡ None
      by line.Note e = refl
      by (line.Board b turn tick) e =
          let h = stands.boards later before b turn tick e in
          let first = h.0 in
          let place = h.1 in
          none-board (begun before == 0) (b == length (clocks m (further_among lines) before)) (grind (arith, nat_tests)) (grind (arith, nat_tests))
      by (line.Line b turn tick from) e = none-line (may_follow m (told_clocks m before) b turn tick from) (stands.furthers later before b turn tick from e)
      by (line.Section i turn kind) e =
          let r = stands.rooms later before i turn kind e in
          section-none (is_short (is_cut before) (plans m sections (further_among lines) before) (point m sections (further_among lines) before).tallies) (may_start m sections (point m sections (further_among lines) before) i turn kind)
          (never-short (is_cut before) (plans m sections (further_among lines) before) (point m sections (further_among lines) before).tallies (λ cut. whole-lacks m sections (further_among lines) before (follows.whole later before i turn kind e cut)))
          (may-start m sections (further_among lines) before i turn kind (follows.next later before i turn kind e) r.0 r.1)
      by (line.Pulse s tick up) e =
          let inside = stands.steppers later before s tick up e in
          pulse-none m sections (further_among lines) before s tick up inside (follows.prefix later (line.Pulse s tick up ∷ before) e s inside)
      by (line.Cut i) e = none-if (may_cut sections (begun before) i) (stands.cuts later before i e)
      by line.End e =
          let whole = never-short (is_cut before) (plans m sections (further_among lines) before) (point m sections (further_among lines) before).tallies (λ cut. whole-lacks m sections (further_among lines) before (stands.whole_end later before e cut)) in
          ap (fault_if misfit.Missing) whole

-- the lines of a list put before others, one by one
abbrev pub onto : List LogLine → List LogLine → List LogLine
onto [] before = before
onto (l ∷ rest) before = onto rest (l ∷ before)

onto-more : (xs : List LogLine) (l : LogLine) (before : List LogLine) → onto (xs ++ l ∷ []) before ≡ l ∷ onto xs before
onto-more [] l before = refl
onto-more (x ∷ xs) l before = onto-more xs l (x ∷ before)

pub onto-all : (lines : List LogLine) → onto (in_order lines) [] ≡ lines
onto-all [] = refl
onto-all (l ∷ lines) = onto-more (in_order lines) l [] ∙ ap (λ (x : List LogLine). l ∷ x) (onto-all lines)

fine-onto : (m : Machine) (sections : List Section) (further : List Further) (rest before : List LogLine) → Fine m sections further (onto rest before) → Fine m sections further before
fine-onto m sections further [] before fine = fine
fine-onto m sections further (l ∷ rest) before fine = (fine-onto m sections further rest (l ∷ before) fine).1

-- a verdict on lines that fit
pub all-done : (m : Machine) (sections : List Section) (further : List Further) (last : ℕ) (before : List LogLine) (words : List (ℕ × List Text)) (rest : List LogLine) → all_said m words ≡ map ok_line rest → Fine m sections further (onto rest before)
    → is_short (is_cut (onto rest before)) (plans m sections further (onto rest before)) (point m sections further (onto rest before)).tallies ≡ false → ((verdict m sections further last before words).cause ≡ cause.Done) × ((verdict m sections further last before words).lines ≡ onto rest before)
all-done m sections further last before [] [] said fine short = (ap (end_cause last) short, refl)
all-done m sections further last before [] (l ∷ rest) said fine short = cc
all-done m sections further last before (w ∷ words) [] said fine short = cc
all-done m sections further last before (w ∷ words) (l ∷ rest) said fine short =
    let here : line_said m w.1 ≡ Ok l = cc in
    let others : all_said m words ≡ map ok_line rest = cc in
    let fits = (fine-onto m sections further rest (l ∷ before) fine).0 in
    let step : verdict m sections further last before (w ∷ words) ≡ verdict m sections further w.0 (l ∷ before) words =
    ap (λ s. by_line m sections further w.0 before s (λ k. verdict m sections further w.0 (k ∷ before) words)) here
    ∙ ap (λ f. by_fault w.0 l before f (verdict m sections further w.0 (l ∷ before) words)) fits in
    let later = all-done m sections further w.0 (l ∷ before) words rest others fine short in
    (ap (λ (v : Verdict). v.cause) step ∙ later.0, ap (λ (v : Verdict). v.lines) step ∙ later.1)

pub checks : (m : Machine) (sections : List Section) (words : List (ℕ × List Text)) (lines : List LogLine) → all_said m words ≡ map ok_line (in_order lines) → FollowsPlan m sections lines → StandsWell m sections lines
    → ((verdict m sections (further_said m words) 0 [] words).cause ≡ cause.Done) × ((verdict m sections (further_said m words) 0 [] words).lines ≡ lines)
checks m sections words lines said follows stands =
    let all = onto-all lines in
    let further = further_among lines in
    let fine = fine-from m sections lines [] lines follows stands refl in
    let short = never-short (is_cut lines) (plans m sections further lines) (point m sections further lines).tallies (λ cut. whole-lacks m sections further lines (follows.last_whole cut)) in
    let Fit : List LogLine → Type 0 = λ x. Fine m sections further x in
    let Short : List LogLine → Type 0 = λ x. is_short (is_cut x) (plans m sections further x) (point m sections further x).tallies ≡ false in
    let h = all-done m sections further 0 [] words (in_order lines) said (subst Fit (sym all) fine) (subst Short (sym all) short) in
    let Checks : List Further → Type 0 = λ f. ((verdict m sections f 0 [] words).cause ≡ cause.Done) × ((verdict m sections f 0 [] words).lines ≡ lines) in
    subst Checks (sym (said-among m words lines said)) (h.0, h.1 ∙ all)
