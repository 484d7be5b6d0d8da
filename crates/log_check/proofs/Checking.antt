-- A log that is checked line by line.
use Rattle.std.proofs.Common.{◌≡◌, ℕ, List, [], ◌∷◌, ◌++◌, ap, sym, refl, subst, ◌∙◌, append-nil, Option, Some, None}
use Rattle.std.specs.Prelude.{Result, Ok, Err, IfOk}
use Rattle.std.specs.declared.alloc.AllocError.{AllocError}
use Rattle.log_check.specs.declared.check.Checked.{Checked}
use Rattle.log_check.specs.declared.further.Further.{Further}
use Rattle.log_text.specs.declared.line.LogLine.{LogLine}
use Rattle.log_text.specs.declared.line.LogLine.TheVariants as line
use Rattle.log_text.specs.Said.{Said, line_said}
use Rattle.text_core.specs.Bytes.{Text}
use Rattle.plan_types.specs.declared.cause.Cause.{Cause}
use Rattle.plan_types.specs.declared.cause.Cause.TheVariants as cause
use Rattle.plan_types.specs.declared.cause.MisfitKind.{MisfitKind}
use Rattle.plan_types.specs.declared.machine.Machine.{Machine}
use Rattle.plan_types.specs.declared.plan.Section.{Section}
use Rattle.report_text.specs.declared.line.ReportLine.{ReportLine}
use Rattle.report_text.specs.declared.line.ReportLine.TheVariants as report
use Rattle.log_check.specs.Behind.{further_said}
use Rattle.log_check.specs.Faults.{fault_at, is_short}
use Rattle.log_check.specs.Points.{Point, point}
use Rattle.log_check.specs.Steps.{CheckSofar, Took, TookLine, with_misfit, next_point, told_at}
use Rattle.log_check.specs.Verdicts.{Verdict, by_fault, by_line, end_cause, fits_before, log_lines, log_verdict, misfit_at, present_fits, verdict, with_pulse_of, worded}
use Rattle.log_check.proofs.Pointing.{counted-point, next-point}

told-next : (m : Machine) (sections : List Section) (further : List Further) (lines : List LogLine) (l : LogLine) → fits_before m sections further lines ++ told_at (point m sections further lines) l ≡ fits_before m sections further (l ∷ lines)
told-next m sections further lines line.Note = append-nil (fits_before m sections further lines)
told-next m sections further lines (line.Board b turn tick) = append-nil (fits_before m sections further lines)
told-next m sections further lines (line.Line b turn tick from) = append-nil (fits_before m sections further lines)
told-next m sections further lines (line.Section i turn kind) = refl
told-next m sections further lines (line.Pulse s tick up) = append-nil (fits_before m sections further lines)
told-next m sections further lines (line.Cut i) = append-nil (fits_before m sections further lines)
told-next m sections further lines line.End = append-nil (fits_before m sections further lines)

told-same : (m : Machine) (sections : List Section) (further : List Further) (lines : List LogLine) (l : LogLine) → fits_before m sections further (with_pulse_of l lines) ≡ fits_before m sections further lines
told-same m sections further lines line.Note = refl
told-same m sections further lines (line.Board b turn tick) = refl
told-same m sections further lines (line.Line b turn tick from) = refl
told-same m sections further lines (line.Section i turn kind) = refl
told-same m sections further lines (line.Pulse s tick up) = refl
told-same m sections further lines (line.Cut i) = refl
told-same m sections further lines line.End = refl

-- one line more
pub took-more : (m : Machine) (sections : List Section) (further : List Further) (p after : Point) (old new : List ReportLine) (last n : ℕ) (words : List Text) (all left : List (ℕ × List Text)) (wanted : Verdict) (found : Option MisfitKind)
    → CheckSofar m sections further p old last all wanted → all ≡ (n, words) ∷ left → Took m sections p after old new (line_said m words) found → found ≡ None → CheckSofar m sections further after new n left wanted
took-more m sections further p after old new last n words all left wanted found sofar is took none = by (line_said m words) refl took where
  by-fault : (l : LogLine) → line_said m words ≡ Ok l → (fault : Option MisfitKind) → fault_at m sections p l ≡ fault → TookLine m sections p after old new l fault found → CheckSofar m sections further after new n left wanted
  by-fault l said (Some kind) e t = absurd (let f = t.0 in let no : None ≡ Some kind = sym none ∙ f in cc)
  by-fault l said None e t =
      let lines = sofar.lines in
      let at = sofar.at in
      let fits : fault_at m sections (point m sections further lines) l ≡ None = ap (λ q. fault_at m sections q l) (sym at) ∙ e in
      let step : verdict m sections further last lines ((n, words) ∷ left) ≡ verdict m sections further n (l ∷ lines) left =
      ap (λ s. by_line m sections further n lines s (λ k. verdict m sections further n (k ∷ lines) left)) said
      ∙ ap (λ f. by_fault n l lines f (verdict m sections further n (l ∷ lines) left)) fits in
      record {
        lines = l ∷ lines;
        at = t.1 ∙ ap (λ q. next_point m sections q l) at ∙ next-point m sections further lines l fits;
        told_is = t.2 ∙ ap (λ o. o ++ told_at p l) sofar.told_is ∙ ap (λ q. fits_before m sections further lines ++ told_at q l) at ∙ told-next m sections further lines l;
        more = sym step ∙ ap (verdict m sections further last lines) (sym is) ∙ sofar.more;
      }

  by : (said : Said) → line_said m words ≡ said → Took m sections p after old new said found → CheckSofar m sections further after new n left wanted
  by (Err kind) e t = absurd (let f = t.0 in let no : None ≡ Some kind = sym none ∙ f in cc)
  by (Ok l) e t = by-fault l e (fault_at m sections p l) refl t

-- what is told at the end, by a verdict
abbrev pub IsTold : Machine → List Section → List Further → Point → List ReportLine → Cause → Verdict → Type 0
IsTold m sections further p told c v = (c ≡ v.cause) × ((told ++ (present_fits p ++ report.End c ∷ [])) ≡ (fits_before m sections further v.lines ++ (present_fits (point m sections further v.lines) ++ report.End v.cause ∷ [])))

tell : (m : Machine) (sections : List Section) (further : List Further) (p : Point) (told : List ReportLine) (c : Cause) (lines : List LogLine) (v : Verdict) → v ≡ record { cause = c; lines = lines } → p ≡ point m sections further lines → told ≡ fits_before m sections further lines → IsTold m sections further p told c v
tell m sections further p told c lines v is at told_is =
    let G : Verdict → Type 0 = λ w. IsTold m sections further p told c w in
    subst G (sym is) (refl, ap (λ o. o ++ (present_fits p ++ report.End c ∷ [])) told_is ∙ ap (λ q. fits_before m sections further lines ++ (present_fits q ++ report.End c ∷ [])) at)

-- a line that doesn't fit
pub took-misfit : (m : Machine) (sections : List Section) (further : List Further) (p after : Point) (old new : List ReportLine) (last n : ℕ) (words : List Text) (all left : List (ℕ × List Text)) (wanted : Verdict) (found : Option MisfitKind) (kind : MisfitKind)
    → CheckSofar m sections further p old last all wanted → all ≡ (n, words) ∷ left → Took m sections p after old new (line_said m words) found → found ≡ Some kind → IsTold m sections further after new (cause.Misfit n kind) wanted
took-misfit m sections further p after old new last n words all left wanted found kind sofar is took some = by (line_said m words) refl took where
  whole : verdict m sections further last sofar.lines ((n, words) ∷ left) ≡ wanted
  whole = ap (verdict m sections further last sofar.lines) (sym is) ∙ sofar.more

  by-fault : (l : LogLine) → line_said m words ≡ Ok l → (fault : Option MisfitKind) → fault_at m sections p l ≡ fault → TookLine m sections p after old new l fault found → IsTold m sections further after new (cause.Misfit n kind) wanted
  by-fault l said None e t = absurd (let f = t.0 in let no : None ≡ Some kind = sym f ∙ some in cc)
  by-fault l said (Some k) e t =
      let lines = sofar.lines in
      let at = sofar.at in
      let same : Some k ≡ Some kind = sym t.0 ∙ some in
      let fits : fault_at m sections (point m sections further lines) l ≡ Some kind = ap (λ q. fault_at m sections q l) (sym at) ∙ (e ∙ same) in
      let step : verdict m sections further last lines ((n, words) ∷ left) ≡ misfit_at n kind (with_pulse_of l lines) =
      ap (λ s. by_line m sections further n lines s (λ j. verdict m sections further n (j ∷ lines) left)) said
      ∙ ap (λ f. by_fault n l lines f (verdict m sections further n (l ∷ lines) left)) fits in
      tell m sections further after new (cause.Misfit n kind) (with_pulse_of l lines) wanted (sym whole ∙ step)
      (t.1 ∙ ap (λ q. with_misfit q l) at ∙ counted-point m sections further lines l)
      (t.2 ∙ sofar.told_is ∙ sym (told-same m sections further lines l))

  by : (said : Said) → line_said m words ≡ said → Took m sections p after old new said found → IsTold m sections further after new (cause.Misfit n kind) wanted
  by (Err k) e t =
      let lines = sofar.lines in
      let at = sofar.at in
      let same : Err k ≡ Err kind = (let f : Some k ≡ Some kind = sym t.0 ∙ some in cc) in
      let step : verdict m sections further last lines ((n, words) ∷ left) ≡ misfit_at n kind lines = ap (λ s. by_line m sections further n lines s (λ j. verdict m sections further n (j ∷ lines) left)) (e ∙ same) in
      tell m sections further after new (cause.Misfit n kind) lines wanted (sym whole ∙ step) (t.1 ∙ at) (t.2 ∙ sofar.told_is)
  by (Ok l) e t = by-fault l e (fault_at m sections p l) refl t

-- the end of a log
pub took-all : (m : Machine) (sections : List Section) (further : List Further) (p : Point) (old : List ReportLine) (last : ℕ) (all : List (ℕ × List Text)) (wanted : Verdict) (c : Cause)
    → CheckSofar m sections further p old last all wanted → all ≡ [] → c ≡ end_cause last (is_short p.cut p.plans p.tallies) → IsTold m sections further p old c wanted
took-all m sections further p old last all wanted c sofar none is =
    let lines = sofar.lines in
    let q = point m sections further lines in
    let why : end_cause last (is_short q.cut q.plans q.tallies) ≡ c = ap (λ x. end_cause last (is_short x.cut x.plans x.tallies)) (sym sofar.at) ∙ sym is in
    let here : verdict m sections further last lines [] ≡ record { cause = c; lines = lines } = ap (λ x. (let v : Verdict = record { cause = x; lines = lines } in v)) why in
    tell m sections further p old c lines wanted (sym sofar.more ∙ ap (verdict m sections further last lines) none ∙ here) sofar.at sofar.told_is

-- the clauses of what the check answers
pub told-cause : (m : Machine) (sections : List Section) (p : Point) (told : List ReportLine) (c : Cause) (text : Text) (r : Result Checked AllocError) → IfOk r (λ x. x.cause ≡ c) → IsTold m sections (further_said m (worded text)) p told c (log_verdict m sections text)
    → IfOk r (λ x. x.cause ≡ (log_verdict m sections text).cause)
told-cause m sections p told c text (Ok x) h is = h ∙ is.0
told-cause m sections p told c text (Err e) h is = tt

pub told-lines : (m : Machine) (sections : List Section) (p : Point) (told : List ReportLine) (c : Cause) (text : Text) (r : Result Checked AllocError) → IfOk r (λ x. x.lines.items ≡ told ++ (present_fits p ++ report.End c ∷ [])) → IsTold m sections (further_said m (worded text)) p told c (log_verdict m sections text)
    → IfOk r (λ x. x.lines.items ≡ log_lines m sections text)
unfolding log_lines
told-lines m sections p told c text (Ok x) h is = h ∙ is.1
told-lines m sections p told c text (Err e) h is = tt
