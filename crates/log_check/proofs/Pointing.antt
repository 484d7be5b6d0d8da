-- A line that fits leads to the point behind it.
use Rattle.std.proofs.Common.{◌≡◌, ◌≢◌, ℕ, zero, suc, ◌+◌, ◌<◌, ◌≤◌, Bool, true, false, List, [], ◌∷◌, length, map, set, ap, sym, refl, ◌∙◌, arith, Some, None}
use Rattle.std.specs.Prelude.{◌==◌, ◌&&◌, nat_lt, if◌then◌else◌, slice_index_or}
use Rattle.std.specs.List.{range_with_len}
use Rattle.std.proofs.lemmas.Bool.Decides.{nat_tests}
use Rattle.std.proofs.lemmas.List.FromFn.{get_or-map-range_with_len}
use Rattle.log_text.specs.declared.line.LogLine.{LogLine}
use Rattle.log_text.specs.declared.line.LogLine.TheVariants as line
use Rattle.plan_types.specs.declared.machine.Machine.{Machine}
use Rattle.plan_types.specs.declared.plan.Planned.{Planned}
use Rattle.plan_types.specs.declared.plan.Pulse.{Pulse}
use Rattle.plan_types.specs.declared.plan.Section.{Section}
use Rattle.plan_types.specs.Lines.{one_line}
use Rattle.plan_types.specs.Sections.{clocks_at}
use Rattle.clock_line.specs.Fits.{may_hold}
use Rattle.log_check.specs.declared.tally.Tally.{Tally}
use Rattle.plan_types.specs.declared.cause.MisfitKind.TheVariants as misfit
use Rattle.log_check.specs.declared.further.Further.{Further}
use Rattle.log_check.specs.Behind.{begun, pulses, told_line, with_further}
use Rattle.log_check.specs.Faults.{fault_at, no_tally, open_fault}
use Rattle.log_check.specs.Points.{Point, plans, point}
use Rattle.log_check.specs.Pulses.{tally_of, with_pulse}
use Rattle.log_check.specs.Steps.{with_misfit, next_point, with_clock, with_made}
use Rattle.log_check.specs.Verdicts.{with_pulse_of}
use Rattle.plan_types.proofs.Facts.{is_itself, some_none, first_of_both}

-- a value for each number of some, of which one is set
set-one : {X : Type 0} (f g : ℕ → X) (a n s : ℕ) (x : X) → ((t : ℕ) → t ≢ a + s → g t ≡ f t) → (s < n → x ≡ g (a + s)) → set (map f (range_with_len a n)) s x ≡ map g (range_with_len a n)
set-one f g a zero s x others here = refl
set-one f g a (suc n) zero x others here =
    let at : a + 0 ≡ a = omega arith in
    let first : x ≡ g a = here (omega arith) ∙ ap g at in
    let rest : map f (range_with_len (a + 1) n) ≡ map g (range_with_len (a + 1) n) = same (a + 1) n (λ t low. sym (others t (λ e. absurd (let far = e in omega arith)))) in
    ap (λ h. h ∷ map f (range_with_len (a + 1) n)) first ∙ ap (λ l. g a ∷ l) rest where
      same : (b k : ℕ) → ((t : ℕ) → b ≤ t → f t ≡ g t) → map f (range_with_len b k) ≡ map g (range_with_len b k)
      same b zero h = refl
      same b (suc k) h = ap (λ x. x ∷ map f (range_with_len (b + 1) k)) (h b (omega arith)) ∙ ap (λ l. g b ∷ l) (same (b + 1) k (λ t low. h t (omega (arith, low))))
set-one f g a (suc n) (suc s) x others here =
    let first : f a ≡ g a = sym (others a (λ e. absurd (let far = e in omega arith))) in
    let on : (a + 1) + s ≡ a + suc s = omega arith in
    let rest = set-one f g (a + 1) n s x (λ t far. others t (λ e. far (e ∙ sym on))) (λ inside. here (omega (arith, inside)) ∙ ap g (sym on)) in
    ap (λ h. h ∷ set (map f (range_with_len (a + 1) n)) s x) first ∙ ap (λ l. g a ∷ l) rest

other : (s t : ℕ) → t ≢ s → (s == t) ≡ false
other s t far = grind (arith, nat_tests)

-- one pulse more of a stepper
more-of : (plan : List Planned) (s tick : ℕ) (up : Bool) (lines : List LogLine) → with_pulse plan (tally_of plan (pulses s lines)) tick ≡ tally_of plan (pulses s (line.Pulse s tick up ∷ lines))
more-of plan s tick up lines =
    let p : Pulse = record { tick = tick; stepper = s; up = up } in
    let is : pulses s (line.Pulse s tick up ∷ lines) ≡ p ∷ pulses s lines = rw (is_itself s) refl in
    ap (tally_of plan) (sym is)

none-of : (plan : List Planned) (s t tick : ℕ) (up : Bool) (lines : List LogLine) → t ≢ s → tally_of plan (pulses t (line.Pulse s tick up ∷ lines)) ≡ tally_of plan (pulses t lines)
none-of plan s t tick up lines far =
    let is : pulses t (line.Pulse s tick up ∷ lines) ≡ pulses t lines = rw (other s t far) refl in
    ap (tally_of plan) is

pub made-point : (m : Machine) (sections : List Section) (further : List Further) (lines : List LogLine) (s tick : ℕ) (up : Bool) → with_made (point m sections further lines) s tick ≡ point m sections further (line.Pulse s tick up ∷ lines)
made-point m sections further lines s tick up =
    let all = plans m sections further lines in
    let plan = λ (t : ℕ). slice_index_or all t [] in
    let f = λ (t : ℕ). tally_of (plan t) (pulses t lines) in
    let g = λ (t : ℕ). tally_of (plan t) (pulses t (line.Pulse s tick up ∷ lines)) in
    let p = point m sections further lines in
    let x = with_pulse (plan s) (slice_index_or p.tallies s no_tally) tick in
    let here : s < length m.steppers → x ≡ g (0 + s) = λ inside.
    let at : slice_index_or p.tallies s no_tally ≡ f s = get_or-map-range_with_len f 0 (length m.steppers) s s no_tally inside (omega arith) in
    let zero_on : 0 + s ≡ s = omega arith in
    ap (λ t. with_pulse (plan s) t tick) at ∙ more-of (plan s) s tick up lines ∙ ap g (sym zero_on) in
    let set_is : set p.tallies s x ≡ map g (range_with_len 0 (length m.steppers)) =
    set-one f g 0 (length m.steppers) s x (λ t far. none-of (plan t) s t tick up lines (λ e. far (let on = e in omega arith))) here in
    let with_tallies = λ (ts : List Tally). (let q : Point = record { further = p.further; clocks = p.clocks; told = p.told; begun = p.begun; start = p.start; end = p.end; cut = p.cut; ended = p.ended; plans = p.plans; bases = p.bases; tallies = ts } in q) in
    ap with_tallies set_is

clock-point : (m : Machine) (sections : List Section) (further : List Further) (lines : List LogLine) (b turn tick : ℕ) → begun lines ≡ 0 → with_clock (point m sections further lines) (with_further m b further (one_line (told_line m b turn tick))) (one_line (told_line m b turn tick)) ≡ point m sections further (line.Board b turn tick ∷ lines)
clock-point m sections further lines b turn tick none = rw none refl

-- what a line that fits shows
if-none : (a b : Bool) → (if a && b then None else Some misfit.BadLine) ≡ None → (a && b) ≡ true
if-none true true e = refl
if-none true false e = cc
if-none false b e = cc

pub board-tests : (m : Machine) (sections : List Section) (p : Point) (b turn tick : ℕ) → fault_at m sections p (line.Board b turn tick) ≡ None → ((p.begun == 0) && (b == length p.clocks)) ≡ true
board-tests m sections p b turn tick fits = by p.ended fits where
  by : (ended : Bool) → (if ended then Some misfit.BadLine else open_fault m sections p (line.Board b turn tick)) ≡ None → ((p.begun == 0) && (b == length p.clocks)) ≡ true
  by true e = cc
  by false e = if-none (p.begun == 0) (b == length p.clocks) e

pub board-first : (m : Machine) (sections : List Section) (p : Point) (b turn tick : ℕ) → fault_at m sections p (line.Board b turn tick) ≡ None → p.begun ≡ 0
board-first m sections p b turn tick fits =
    let h : (p.begun == 0) ≡ true = first_of_both (p.begun == 0) (b == length p.clocks) (board-tests m sections p b turn tick fits) in
    grind (arith, nat_tests)

pub line-inside : (m : Machine) (sections : List Section) (p : Point) (b turn tick from : ℕ) → fault_at m sections p (line.Line b turn tick from) ≡ None → b < length p.told
line-inside m sections p b turn tick from fits =
    let h : nat_lt b (length p.told) ≡ true = first_of_both (nat_lt b (length p.told)) (may_hold (clocks_at p.told b) from (told_line m b turn tick)) (by p.ended fits) in
    grind (arith, nat_tests) where
      by : (ended : Bool) → (if ended then Some misfit.BadLine else open_fault m sections p (line.Line b turn tick from)) ≡ None → (nat_lt b (length p.told) && may_hold (clocks_at p.told b) from (told_line m b turn tick)) ≡ true
      by true e = cc
      by false e = if-none (nat_lt b (length p.told)) (may_hold (clocks_at p.told b) from (told_line m b turn tick)) e

-- the point behind a line that fits
pub next-point : (m : Machine) (sections : List Section) (further : List Further) (lines : List LogLine) (l : LogLine) → fault_at m sections (point m sections further lines) l ≡ None → next_point m sections (point m sections further lines) l ≡ point m sections further (l ∷ lines)
next-point m sections further lines line.Note fits = refl
next-point m sections further lines (line.Board b turn tick) fits = clock-point m sections further lines b turn tick (board-first m sections (point m sections further lines) b turn tick fits)
next-point m sections further lines (line.Line b turn tick from) fits = refl
next-point m sections further lines (line.Section i turn kind) fits = refl
next-point m sections further lines (line.Pulse s tick up) fits = made-point m sections further lines s tick up
next-point m sections further lines (line.Cut i) fits = refl
next-point m sections further lines line.End fits = refl

-- the point at a line that doesn't
pub counted-point : (m : Machine) (sections : List Section) (further : List Further) (lines : List LogLine) (l : LogLine) → with_misfit (point m sections further lines) l ≡ point m sections further (with_pulse_of l lines)
counted-point m sections further lines line.Note = refl
counted-point m sections further lines (line.Board b turn tick) = refl
counted-point m sections further lines (line.Line b turn tick from) = refl
counted-point m sections further lines (line.Section i turn kind) = refl
counted-point m sections further lines (line.Pulse s tick up) = made-point m sections further lines s tick up
counted-point m sections further lines (line.Cut i) = refl
counted-point m sections further lines line.End = refl
