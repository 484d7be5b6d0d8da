-- What the pulses of a log that checks are: those of the plan, as the headline has them of a run's report.
-- The lines of a log are listed from the last one back, so what stands behind a line in the list are the
-- lines before it.
use Rattle.std.specs.Prelude.{◌≡◌, ℕ, ◌+◌, ◌<◌, ◌≤◌, Bool, true, false, List, [], ◌∷◌, ◌++◌, length, slice_index_or, Ok}
use Rattle.log_text.specs.declared.line.LogLine.{LogLine}
use Rattle.log_text.specs.declared.line.LogLine.TheVariants as line
use Rattle.log_text.specs.Said.{Said, line_said}
use Rattle.text_core.specs.Bytes.{Text}
use Rattle.log_check.specs.declared.further.Further.{Further}
use Rattle.log_check.specs.Behind.{begun, clocks, further_of, is_cut, is_ended, pulses, section_start, told_clocks, with_one}
use Rattle.log_check.specs.Faults.{have_room, may_cut, may_follow, ready}
use Rattle.log_check.specs.Points.{end_by, plans, section_at}
use Rattle.plan_types.specs.declared.machine.Machine.{Machine}
use Rattle.plan_types.specs.declared.plan.Planned.{Planned}
use Rattle.plan_types.specs.declared.plan.Section.{Section}
use Rattle.plan_types.specs.declared.plan.SectionKind.{SectionKind}
use Rattle.plan_types.specs.Machines.{stepper_at}
use Rattle.plan_types.specs.Plan.{Fits}
use Rattle.plan_types.specs.Sections.{base_tick, clocks_at}

-- a list from its end
abbrev pub in_order : {A : Type 0} → List A → List A
in_order [] = []
in_order (x ∷ xs) = in_order xs ++ x ∷ []

-- the further clock lines among some lines, which are listed from the last one back, in order
abbrev pub further_among : List LogLine → List Further
further_among [] = []
further_among (l ∷ lines) = further_among lines ++ with_one (further_of (Ok l)) []

-- the planned steps of a stepper in the section that is open behind some lines, by the further clock lines of
-- the log; none before the first section
abbrev pub plan_at : Machine → List Section → List Further → List LogLine → ℕ → List Planned
plan_at m sections further lines s = slice_index_or (plans m sections further lines) s []

-- the frequency of a stepper's board, in ticks a second, by the clocks that the lines told
abbrev pub freq_at : Machine → List Further → List LogLine → ℕ → ℕ
freq_at m further lines s = (clocks_at (clocks m further lines) (stepper_at m s).board).first.freq

-- the tick of a stepper's board at which the open section begins, by the clocks that the lines told
abbrev pub base_at : Machine → List Further → List LogLine → ℕ → ℕ
base_at m further lines s = base_tick m (clocks m further lines) (section_start lines) s

-- Prefix: the pulses of a stepper in the open section fit its planned steps.
abbrev pub FitsHere : Machine → List Section → List Further → List LogLine → ℕ → Type 0
FitsHere m sections further lines s =
    Fits (freq_at m further lines s) (base_at m further lines s) (in_order (pulses s lines))
    (plan_at m sections further lines s)

-- Whole: there are as many of them as planned steps.
abbrev pub IsWholeHere : Machine → List Section → List Further → List LogLine → ℕ → Type 0
IsWholeHere m sections further lines s = length (pulses s lines) ≡ length (plan_at m sections further lines s)

-- Sections: a section behind some lines is the next one of the text, and starts when it may, or later.
pub record IsNextSection (m : Machine) (sections : List Section) (further : List Further) (lines : List LogLine)
    (i turn : ℕ)
    (kind : SectionKind) : Type 0 where
  pub number : i ≡ begun lines
  pub there : i < length sections
  pub same : kind ≡ (section_at sections i).kind
  pub due : ready (is_cut lines) (begun lines) (section_start lines)
      (end_by m sections (clocks m further lines) (begun lines) (section_start lines))
      + (section_at sections i).dwell ≤ turn

-- The lines of a log follow the plan of a file: behind each line the pulses of every stepper fit, and where a
-- section ends that was not cut, they are as many as planned; each section is the next one.
pub record FollowsPlan (m : Machine) (sections : List Section) (lines : List LogLine) : Type 0 where
  pub prefix : (later before : List LogLine) → lines ≡ later ++ before → (s : ℕ) → s < length m.steppers →
      FitsHere m sections (further_among lines) before s
  pub whole : (later before : List LogLine) (i turn : ℕ) (kind : SectionKind) →
      lines ≡ later ++ line.Section i turn kind ∷ before → is_cut before ≡ false → (s : ℕ) → s < length m.steppers →
      IsWholeHere m sections (further_among lines) before s
  pub last_whole : is_cut lines ≡ false → (s : ℕ) → s < length m.steppers →
      IsWholeHere m sections (further_among lines) lines s
  pub next : (later before : List LogLine) (i turn : ℕ) (kind : SectionKind) →
      lines ≡ later ++ line.Section i turn kind ∷ before →
      IsNextSection m sections (further_among lines) before i turn kind

-- what a line of a log says that is well formed
abbrev pub ok_line : LogLine → Said
ok_line l = Ok l

-- what each line of a log that has words says, in order
abbrev pub all_said : Machine → List (ℕ × List Text) → List Said
all_said m [] = []
all_said m (w ∷ words) = line_said m w.1 ∷ all_said m words

-- The lines of a log that are no pulses stand where they may: each board's line before the first section, in
-- the order of the boards; a further clock line where it may hold behind those that its board told; a section
-- where all boards told clocks that have ticks for it; a cut in the section that it names, which homes;
-- nothing behind the end. And the steppers of pulses are there.
pub record StandsWell (m : Machine) (sections : List Section) (lines : List LogLine) : Type 0 where
  pub boards : (later before : List LogLine) (b turn tick : ℕ) → lines ≡ later ++ line.Board b turn tick ∷ before →
      (begun before ≡ 0) × (b ≡ length (clocks m (further_among lines) before))
  pub furthers : (later before : List LogLine) (b turn tick from : ℕ) →
      lines ≡ later ++ line.Line b turn tick from ∷ before → may_follow m (told_clocks m before) b turn tick from ≡ true
  pub rooms : (later before : List LogLine) (i turn : ℕ) (kind : SectionKind) →
      lines ≡ later ++ line.Section i turn kind ∷ before →
      (length (clocks m (further_among lines) before) ≡ length m.boards)
      × (have_room (clocks m (further_among lines) before) (length (section_at sections i).moves) turn ≡ true)
  pub steppers : (later before : List LogLine) (s tick : ℕ) (up : Bool) →
      lines ≡ later ++ line.Pulse s tick up ∷ before → s < length m.steppers
  pub cuts : (later before : List LogLine) (i : ℕ) → lines ≡ later ++ line.Cut i ∷ before →
      may_cut sections (begun before) i ≡ true
  pub ends : (later before : List LogLine) (l : LogLine) → lines ≡ later ++ l ∷ before → is_ended before ≡ false
  pub whole_end : (later before : List LogLine) → lines ≡ later ++ line.End ∷ before → is_cut before ≡ false → (s : ℕ) →
      s < length m.steppers → IsWholeHere m sections (further_among lines) before s
