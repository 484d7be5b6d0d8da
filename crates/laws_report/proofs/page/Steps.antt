-- A log of moves whose run went through has as many pulses as its sections have planned steps.
use Rattle.std.proofs.Common.{◌≡◌, ◌∙◌, ℕ, zero, suc, ◌+◌, ◌<◌, ◌≤◌, ◌==◌, Bool, true, false, List, [], ◌∷◌, ◌++◌, length, map, ap, sym, refl, arith, append_assoc, inl, if◌then◌else◌, rules}
use Rattle.std.specs.Prelude.{◌&&◌}
use Rattle.std.specs.List.{range_with_len}
use Rattle.laws_board.proofs.Names.{All-head, All-tail, Machine, Planned, Section, Moves, ReportLine}
use Rattle.std.proofs.lemmas.List.Sums.{sum_by-cons}
use Rattle.plan_types.specs.Sections.{is_home}
use Rattle.log_check.specs.Behind.{begun, is_cut, pulses}
use Rattle.log_check.specs.Faults.{may_cut}
use Rattle.log_check.specs.Points.{section_at}
use Rattle.log_text.specs.declared.line.LogLine.{LogLine}
use Rattle.log_text.specs.declared.line.LogLine.TheVariants as line
use Rattle.report_text.specs.declared.line.ReportLine.TheVariants as report
use Rattle.session_run.specs.Counts.{counted, is_pulse_of, pulse_counts, pulses_shown}
use Rattle.laws_run.specs.run_headline.Timely.{AreOfMoves}
use Rattle.laws_report.specs.logs.Follows.{further_among, plan_at}
use Rattle.laws_report.specs.page.Log.{Follows, log_of}
use Rattle.laws_report.specs.page.Steps.{counts_planned, steps_planned}
use Rattle.laws_report.specs.reports.Logged.{logged}
use Rattle.laws_report.proofs.logs.Following.{no-plan}

-- how many pulses of a stepper some lines of a log tell
abbrev told : ℕ → List LogLine → ℕ
told s [] = 0
told s (line.Pulse t tick up ∷ lines) = (if t == s then 1 else 0) + told s lines
told s (_ ∷ lines) = told s lines

told-more : (s : ℕ) (xs : List LogLine) (l : LogLine) → told s (xs ++ l ∷ []) ≡ told s xs + told s (l ∷ [])
told-more s [] l = omega arith
told-more s (line.Pulse t tick up ∷ xs) l = (let more = told-more s xs l in omega (arith, more))
told-more s (line.Note ∷ xs) l = told-more s xs l
told-more s (line.Board b turn tick ∷ xs) l = told-more s xs l
told-more s (line.Line b turn tick from ∷ xs) l = told-more s xs l
told-more s (line.Section i turn kind ∷ xs) l = told-more s xs l
told-more s (line.Cut i ∷ xs) l = told-more s xs l
told-more s (line.End ∷ xs) l = told-more s xs l

told-one : (s : ℕ) (l : ReportLine) → told s (logged l ∷ []) ≡ (if is_pulse_of s l then 1 else 0)
told-one s (report.Pulse board stepper tick up) = omega arith
told-one s c = refl

-- they are those of the report's lines
told-shown : (s : ℕ) (said : List ReportLine) → told s (log_of said) ≡ pulses_shown s said
told-shown s [] = refl
told-shown s (l ∷ said) = (let more = told-more s (log_of said) (logged l) in let before = told-shown s said in let own = told-one s l in let shown : pulses_shown s (l ∷ said) ≡ (if is_pulse_of s l then 1 else 0) + pulses_shown s said = sum_by-cons (λ x. if is_pulse_of s x then 1 else 0) l said in omega (arith, more, before, own, shown))

-- sections of moves are not cut
moves-at : (sections : List Section) (i : ℕ) → AreOfMoves sections → is_home (section_at sections i).kind ≡ false
moves-at [] i all = refl
moves-at (x ∷ sections) zero all = ap is_home (All-head (λ (y : Section). y.kind ≡ Moves) x sections all)
moves-at (x ∷ sections) (suc i) all = moves-at sections i (All-tail (λ (y : Section). y.kind ≡ Moves) x sections all)

never-cut : (sections : List Section) (n i : ℕ) → AreOfMoves sections → may_cut sections n i ≡ true → ⊥
never-cut sections n i p3 p4 = search (rules, moves-at)

module _ (through : Type 0) (m : Machine) (sections : List Section) (log : List LogLine) (f : Follows through m sections log) (all : AreOfMoves sections) (gone : through) where
  one-more : (later lines : List LogLine) (l : LogLine) → log ≡ later ++ l ∷ lines → log ≡ (later ++ l ∷ []) ++ lines
  one-more later lines l e = e ∙ sym (append_assoc later (l ∷ []) lines)

  uncut : (later lines : List LogLine) → log ≡ later ++ lines → is_cut lines ≡ false
  uncut later [] e = refl
  uncut later (line.Section i turn kind ∷ lines) e = refl
  uncut later (line.Cut i ∷ lines) e = absurd (never-cut sections (begun lines) i all (f.front.order later lines (line.Cut i) e).1)
  uncut later (line.Note ∷ lines) e = uncut (later ++ line.Note ∷ []) lines (one-more later lines line.Note e)
  uncut later (line.Board b turn tick ∷ lines) e = uncut (later ++ line.Board b turn tick ∷ []) lines (one-more later lines (line.Board b turn tick) e)
  uncut later (line.Line b turn tick from ∷ lines) e = uncut (later ++ line.Line b turn tick from ∷ []) lines (one-more later lines (line.Line b turn tick from) e)
  uncut later (line.Pulse s tick up ∷ lines) e = uncut (later ++ line.Pulse s tick up ∷ []) lines (one-more later lines (line.Pulse s tick up) e)
  uncut later (line.End ∷ lines) e = uncut (later ++ line.End ∷ []) lines (one-more later lines line.End e)

  abbrev plan : List LogLine → ℕ → List Planned
  plan lines s = plan_at m sections (further_among log) lines s

  abbrev steps : ℕ → List LogLine → ℕ
  steps s lines = steps_planned m sections (further_among log) s lines

  -- what is told and what is still planned in the open section is what was planned and what is told in that
  balanced : (s : ℕ) → s < length m.steppers → (later lines : List LogLine) → log ≡ later ++ lines → told s lines + length (plan lines s) ≡ steps s lines + length (pulses s lines)
  balanced s inside later [] e = refl
  balanced s inside later (line.Note ∷ lines) e = balanced s inside (later ++ line.Note ∷ []) lines (one-more later lines line.Note e)
  balanced s inside later (line.Line b turn tick from ∷ lines) e = balanced s inside (later ++ line.Line b turn tick from ∷ []) lines (one-more later lines (line.Line b turn tick from) e)
  balanced s inside later (line.Cut i ∷ lines) e = balanced s inside (later ++ line.Cut i ∷ []) lines (one-more later lines (line.Cut i) e)
  balanced s inside later (line.End ∷ lines) e = balanced s inside (later ++ line.End ∷ []) lines (one-more later lines line.End e)
  balanced s inside later (line.Board b turn tick ∷ lines) e =
      let before = balanced s inside (later ++ line.Board b turn tick ∷ []) lines (one-more later lines (line.Board b turn tick) e) in
      let first = (f.front.order later lines (line.Board b turn tick) e).1.0 in
      let none = ap length (no-plan m sections (further_among log) lines s first) in
      let still = ap length (no-plan m sections (further_among log) (line.Board b turn tick ∷ lines) s first) in
      omega (arith, before, none, still)
  balanced s inside later (line.Pulse t tick up ∷ lines) e =
      by (t == s) (balanced s inside (later ++ line.Pulse t tick up ∷ []) lines (one-more later lines (line.Pulse t tick up) e))
    where
      by : (b : Bool) → told s lines + length (plan lines s) ≡ steps s lines + length (pulses s lines) → (if b then 1 else 0) + told s lines + length (plan lines s) ≡ steps s lines + length (if b then record { tick = tick; stepper = t; up = up } ∷ pulses s lines else pulses s lines)
      by true h = omega (arith, h)
      by false h = omega (arith, h)
  balanced s inside later (line.Section i turn kind ∷ lines) e =
      let before = balanced s inside (later ++ line.Section i turn kind ∷ []) lines (one-more later lines (line.Section i turn kind) e) in
      let whole = f.whole later lines i turn kind e (uncut (later ++ line.Section i turn kind ∷ []) lines (one-more later lines (line.Section i turn kind) e)) s inside (inl gone) in
      omega (arith, before, whole)

  all-told : (s : ℕ) → s < length m.steppers → told s log ≡ steps s log
  all-told s inside =
      let end = balanced s inside [] log refl in
      let last = f.last gone (uncut [] log refl) s inside in
      omega (arith, end, last)

same-counts : (f g : ℕ → ℕ) (n a : ℕ) → ((s : ℕ) → a ≤ s → s < a + n → f s ≡ g s) → map f (range_with_len a n) ≡ map g (range_with_len a n)
same-counts f g zero a same = refl
same-counts f g (suc n) a same =
    ap (λ (x : ℕ). x ∷ map f (range_with_len (a + 1) n)) (same a (omega arith) (omega arith)) ∙ ap (λ (l : List ℕ). g a ∷ l) (same-counts f g n (a + 1) (λ s low high. same s (omega arith) (omega arith)))

-- the counts of a report whose log follows the plan
pub counts-planned : (through : Type 0) (m : Machine) (sections : List Section) (said : List ReportLine) → Follows through m sections (log_of said) → AreOfMoves sections → through → pulse_counts (length m.steppers) said ≡ counts_planned m sections (log_of said)
counts-planned through m sections said f all gone =
    same-counts (λ s. counted (pulses_shown s said)) (λ s. counted (steps_planned m sections (further_among (log_of said)) s (log_of said))) (length m.steppers) 0
    (λ s low inside. ap counted (sym (told-shown s said) ∙ all-told through m sections (log_of said) f all gone s (omega (arith, inside))))
