-- The lines of a report that tell of switches, section by section.
use Rattle.std.specs.Prelude.{◌≡◌, ◌⊎◌, ℕ, ◌+◌, List, [], ◌∷◌, Some}
use Rattle.plan_types.specs.declared.cause.Cause.{Cause}
use Rattle.plan_types.specs.declared.machine.Machine.{Machine}
use Rattle.plan_types.specs.declared.plan.Section.{Section}
use Rattle.plan_types.specs.declared.plan.SectionKind.TheVariants.{Home, Moves}
use Rattle.plan_types.specs.Machines.{axis_at}
use Rattle.wire_scene.specs.declared.scene.Switch.{Switch}
use Rattle.wire_scene.specs.Scenes.{last_switch, line_of}
use Rattle.report_text.specs.declared.line.ReportLine.{ReportLine}
use Rattle.report_text.specs.declared.line.ReportLine.TheVariants as report
use Rattle.laws_run.specs.run_ends.Ends.{GoesThrough}
use Rattle.laws_run.specs.home_headline.Cuts.{cuts_of}
use Rattle.laws_report.specs.reports.Headline.{section_kind}
use Rattle.laws_report.specs.reports.Shown.{lines_behind, section_turn}

-- the lines up to the next section line, or to the end
abbrev pub lines_before : List ReportLine → List ReportLine
lines_before [] = []
lines_before (report.Section i turn kind ∷ lines) = []
lines_before (line ∷ lines) = line ∷ lines_before lines

-- the cut lines behind the line of a section and before that of the next one
abbrev pub cuts_in : ℕ → List ReportLine → List ReportLine
cuts_in i lines = cuts_of (lines_before (lines_behind i lines))

-- the scene's line that says of an endstop's pin what it is at a tick, 0 where none does
abbrev pub scene_line : Machine → List Switch → ℕ → ℕ → ℕ
scene_line m switches axis tick = line_of (last_switch (axis_at m axis).board (axis_at m axis).pin tick switches)

-- one cut line, of the section of a number, and of the endstop of an axis: at a tick, and with the scene's line for it
abbrev pub IsCutOf : Machine → List Switch → ℕ → ℕ → List ReportLine → Type 0
IsCutOf m switches i axis lines =
    (tick : ℕ)
    × (lines ≡ report.Cut i (axis_at m axis).board (axis_at m axis).pin tick (scene_line m switches axis tick) ∷ [])

-- The cut lines of a report of the sections of a text: there are none before the line of the first section, nor in
-- sections of moves; and in one that homes there is at most one, of its number and its axis's endstop, with a tick and
-- the scene's line that closed the switch by then. Where the next section has its line, or the run went through, there
-- is one.
pub record HaveCuts (m : Machine) (switches : List Switch) (c : Cause) (sections : List Section)
    (said : List ReportLine) : Type 0 where
  pub before : cuts_of (lines_before said) ≡ []
  pub moves : (i : ℕ) → section_kind sections i ≡ Moves → cuts_in i said ≡ []
  pub homes : (i axis : ℕ) → section_kind sections i ≡ Home axis →
      (cuts_in i said ≡ []) ⊎ IsCutOf m switches i axis (cuts_in i said)
  pub ended : (i axis : ℕ) → section_kind sections i ≡ Home axis →
      ((turn : ℕ) × (section_turn (i + 1) said ≡ Some turn)) ⊎ GoesThrough c →
      IsCutOf m switches i axis (cuts_in i said)
