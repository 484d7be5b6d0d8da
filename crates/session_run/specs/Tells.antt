-- What was told of a report.
use Rattle.std.specs.Prelude.{◌≡◌, ℕ, List, [], ◌∷◌, ◌++◌, Bool, true, false, Option, Some, None}
use Rattle.io_core.specs.Faults.{Rose}
use Rattle.plan_types.specs.declared.machine.Machine.{Machine}
use Rattle.report_text.specs.declared.line.ReportLine.{ReportLine}
use Rattle.report_text.specs.declared.line.ReportLine.TheVariants as report
use Rattle.report_text.specs.Text.{report_text}
use Rattle.report_text.specs.declared.write.WriteStop.{WriteStop}
use Rattle.report_text.specs.declared.write.WriteStop.TheVariants as stop
use Rattle.report_text.specs.Written.{WritesAll, WritesFront}
use Rattle.session_run.specs.Counts.{with_pulses}

-- a line of a pulse
abbrev pub is_pulse : ReportLine → Bool
is_pulse (report.Pulse board stepper tick up) = true
is_pulse _ = false

-- a line in front of others, unless it is one of a pulse
abbrev pub unless_pulse : Bool → ReportLine → List ReportLine → List ReportLine
unless_pulse true l lines = lines
unless_pulse false l lines = l ∷ lines

-- the lines that a report keeps: all but those of pulses
abbrev pub without_pulses : List ReportLine → List ReportLine
without_pulses [] = []
without_pulses (l ∷ lines) = unless_pulse (is_pulse l) l (without_pulses lines)

-- why lines did not go out: a fault was counted, or memory was wanted and none was
abbrev pub StopsWriting : WriteStop → ℕ → ℕ → Type 0
StopsWriting stop.Failed before after = Rose before after
StopsWriting stop.Memory before after = after ≡ before

-- Lines were told, the first ones of some, which are all of them where nothing stopped the writing: they are
-- kept but for those of pulses, which are counted, and their text was written, or its front where that was
-- stopped.
pub record WereTold (m : Machine) (lines : List ReportLine) (old new : Option (List ℕ)) (kept : List ReportLine)
    (counts : List ℕ) (after : List ReportLine) (counts' : List ℕ) : Type 0 where
  pub said : List ReportLine
  pub rest : List ReportLine
  pub are : lines ≡ said ++ rest
  pub keeps : after ≡ kept ++ without_pulses said
  pub counted : counts' ≡ with_pulses said counts
  pub writes : WritesFront old new (report_text m said)

-- From what was written, kept and counted before to what is now: by whether the writing was stopped before, or is now.
abbrev pub Tells : Machine → List ReportLine → Option WriteStop → Option (List ℕ) → ℕ → List ReportLine → List ℕ →
    Option WriteStop → Option (List ℕ) → ℕ → List ReportLine → List ℕ → Type 0
Tells m lines (Some s) old before kept counts now new after kept' counts' =
    (now ≡ Some s) × (new ≡ old) × (after ≡ before) × (kept' ≡ kept) × (counts' ≡ counts)
Tells m lines None old before kept counts None new after kept' counts' =
    WritesAll old new (report_text m lines) × (after ≡ before) × (kept' ≡ kept ++ without_pulses lines)
    × (counts' ≡ with_pulses lines counts)
Tells m lines None old before kept counts (Some s) new after kept' counts' =
    WereTold m lines old new kept counts kept' counts' × StopsWriting s before after
