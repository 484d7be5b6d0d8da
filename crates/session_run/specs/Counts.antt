-- How many pulses each stepper made.
use Rattle.std.specs.Prelude.{ℕ, zero, suc, ◌+◌, ◌==◌, Bool, false, List, [], ◌∷◌, map, min, count_by}
use Rattle.std.specs.List.{range_with_len}
use Rattle.report_text.specs.declared.line.ReportLine.{ReportLine}
use Rattle.report_text.specs.declared.line.ReportLine.TheVariants as report

-- a line of a pulse of a stepper
abbrev pub is_pulse_of : ℕ → ReportLine → Bool
is_pulse_of s (report.Pulse board stepper tick up) = stepper == s
is_pulse_of s other = false

-- how many pulses of a stepper some lines show
abbrev pub pulses_shown : ℕ → List ReportLine → ℕ
pulses_shown s lines = count_by (is_pulse_of s) lines

-- a count rises as far as 2^64-1, and stands still there
abbrev pub counted : ℕ → ℕ
counted n = min n 18_446_744_073_709_551_615

-- how many pulses of each of so many steppers some lines show
abbrev pub pulse_counts : ℕ → List ReportLine → List ℕ
pulse_counts steppers lines = map (λ s. counted (pulses_shown s lines)) (range_with_len 0 steppers)

-- counts with one more pulse of a stepper, where it has a count
abbrev pub one_more : ℕ → List ℕ → List ℕ
one_more s [] = []
one_more zero (n ∷ counts) = counted (n + 1) ∷ counts
one_more (suc s) (n ∷ counts) = n ∷ one_more s counts

-- counts with the pulse of a line, where it is one of a pulse
abbrev pub with_pulse : ReportLine → List ℕ → List ℕ
with_pulse (report.Pulse board stepper tick up) counts = one_more stepper counts
with_pulse other counts = counts

-- counts with the pulses of some lines
abbrev pub with_pulses : List ReportLine → List ℕ → List ℕ
with_pulses [] counts = counts
with_pulses (l ∷ lines) counts = with_pulses lines (with_pulse l counts)
