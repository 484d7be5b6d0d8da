-- What a report shows, line by line.
use Rattle.std.specs.Prelude.{ℕ, Bool, false, List, [], ◌∷◌, ◌==◌, if◌then◌else◌, Option, Some, None}
use Rattle.plan_types.specs.declared.plan.Pulse.{Pulse}
use Rattle.report_text.specs.declared.line.ReportLine.{ReportLine}
use Rattle.report_text.specs.declared.line.ReportLine.TheVariants as report

-- the pulses of a stepper up to the next section line
abbrev pub pulses_before : ℕ → List ReportLine → List Pulse
pulses_before s [] = []
pulses_before s (report.Section i turn kind ∷ lines) = []
pulses_before s (report.Pulse board stepper tick up ∷ lines) =
    let here : Pulse = record { tick = tick; stepper = stepper; up = up } in
    let others = pulses_before s lines in
    (if stepper == s then here ∷ others else others)
pulses_before s (_ ∷ lines) = pulses_before s lines

-- the pulses of a stepper between the line of a section and the next section line, or the end
abbrev pub pulses_in : ℕ → ℕ → List ReportLine → List Pulse
pulses_in i s [] = []
pulses_in i s (report.Section j turn kind ∷ lines) =
    let here = pulses_before s lines in
    let later = pulses_in i s lines in
    (if j == i then here else later)
pulses_in i s (_ ∷ lines) = pulses_in i s lines

-- the section lines, in order
abbrev pub sections_shown : List ReportLine → List ReportLine
sections_shown [] = []
sections_shown (report.Section i turn kind ∷ lines) = report.Section i turn kind ∷ sections_shown lines
sections_shown (_ ∷ lines) = sections_shown lines

-- the turn that the line of a section shows
abbrev pub section_turn : ℕ → List ReportLine → Option ℕ
section_turn i [] = None
section_turn i (report.Section j turn kind ∷ lines) =
    let later = section_turn i lines in
    (if j == i then Some turn else later)
section_turn i (_ ∷ lines) = section_turn i lines

-- a line begins the section of a number
abbrev pub begins : ℕ → ReportLine → Bool
begins i (report.Section j turn kind) = j == i
begins i _ = false

-- the lines behind that of a section
abbrev pub lines_behind : ℕ → List ReportLine → List ReportLine
lines_behind i [] = []
lines_behind i (line ∷ lines) = if begins i line then lines else lines_behind i lines
