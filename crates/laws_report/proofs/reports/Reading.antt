-- The text of a report is read line by line.
use Rattle.std.proofs.Common.{◌≡◌, ◌∙◌, ℕ, ◌+◌, false, List, [], ◌∷◌, ◌++◌, map, ap, refl}
use Rattle.laws_board.proofs.Names.{Machine, IsValidMachine, ReportLine}
use Rattle.report_text.specs.declared.line.ReportLine.TheVariants as report
use Rattle.report_text.specs.Text.{report_text}
use Rattle.text_core.specs.Lines.{lines_of}
use Rattle.text_core.specs.Words.{is_none_left, line_words, worded_lines}
use Rattle.log_text.specs.Said.{Said}
use Rattle.text_core.specs.Bytes.{Text}
use Rattle.laws_report.specs.logs.Follows.{all_said, ok_line}
use Rattle.laws_report.specs.reports.Logged.{AreOfRun, logged}
use Rattle.laws_report.specs.reports.Names.{HasNames}
use Rattle.laws_report.specs.reports.Spelled.{numbered, spaced, words_said}
use Rattle.laws_report.proofs.reports.Saying.{are-words, line-back-said, line-spelled}
use Rattle.laws_report.proofs.reports.Wording.{line-back, lines-back}

-- each line has words
some-words : (m : Machine) (l : ReportLine) → is_none_left (words_said m l) ≡ false
some-words m (report.Machine corexy boards steppers) = refl
some-words m c = refl

-- a line with words before others
with-words : (n : ℕ) (line : Text) (words : List Text) (lines : List Text) → line_words 35 line ≡ words → is_none_left words ≡ false → worded_lines 35 n (line ∷ lines) ≡ (n, words) ∷ worded_lines 35 (n + 1) lines
with-words n line words lines is some = rw (is, some) refl

pub lines-read : (m : Machine) (lines : List ReportLine) (n : ℕ) → IsValidMachine m → HasNames m → AreOfRun m lines → worded_lines 35 n (lines_of (report_text m lines)) ≡ numbered m n lines
lines-read m [] n valid names of = refl
lines-read m (l ∷ lines) n valid names of =
    let are = are-words m l valid names of.0 in
    let words = words_said m l in
    ap (λ (t : Text). worded_lines 35 n (lines_of (t ++ report_text m lines))) (line-spelled m l)
    ∙ (ap (worded_lines 35 n) (lines-back words (report_text m lines) are)
    ∙ (with-words n (spaced words []) words (lines_of (report_text m lines)) (line-back words are) (some-words m l)
    ∙ ap (λ (ws : List (ℕ × List Text)). (n, words) ∷ ws) (lines-read m lines (n + 1) valid names of.1)))

pub words-said : (m : Machine) (lines : List ReportLine) (n : ℕ) → IsValidMachine m → HasNames m → AreOfRun m lines → all_said m (numbered m n lines) ≡ map ok_line (map logged lines)
words-said m [] n valid names of = refl
words-said m (l ∷ lines) n valid names of =
    ap (λ (s : Said). s ∷ all_said m (numbered m (n + 1) lines)) (line-back-said m l valid names of.0)
    ∙ ap (λ (ss : List Said). ok_line (logged l) ∷ ss) (words-said m lines (n + 1) valid names of.1)
