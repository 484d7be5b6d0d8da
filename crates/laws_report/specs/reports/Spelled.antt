-- The words of a report's lines.
use Rattle.std.specs.Prelude.{ℕ, ◌+◌, Bool, true, false, List, [], ◌∷◌, ◌++◌, codes, decimal}
use Rattle.plan_types.specs.declared.cause.Cause.{Cause}
use Rattle.plan_types.specs.declared.cause.Cause.TheVariants as cause
use Rattle.plan_types.specs.declared.machine.Machine.{Machine}
use Rattle.plan_types.specs.declared.plan.SectionKind.{SectionKind}
use Rattle.plan_types.specs.declared.plan.SectionKind.TheVariants.{Moves, Home}
use Rattle.plan_types.specs.Machines.{board_at, stepper_at}
use Rattle.report_text.specs.declared.line.ReportLine.{ReportLine}
use Rattle.report_text.specs.declared.line.ReportLine.TheVariants as report
use Rattle.report_text.specs.Text.{kinematics_word, pin_name}
use Rattle.report_text.specs.Words.{axis_word, cfg_word, line_word, mesh_word, misfit_word, scene_word, trace_word}
use Rattle.text_core.specs.Bytes.{Text}

-- words with a space between any two, and a text behind them
abbrev pub spaced : List Text → Text → Text
spaced [] rest = rest
spaced (w ∷ []) rest = w ++ rest
spaced (w ∷ v ∷ words) rest = w ++ (32 ∷ spaced (v ∷ words) rest)

-- `+` or `-`
abbrev pub sign : Bool → Text
sign true = codes "+"
sign false = codes "-"

-- `1` or `0`
abbrev pub level : Bool → Text
level true = codes "1"
level false = codes "0"

-- the words of the end line of a cause, behind `end`
abbrev pub end_words : Machine → Cause → List Text
end_words m cause.Done = codes "0" ∷ codes "done" ∷ []
end_words m cause.Memory = codes "1" ∷ codes "memory" ∷ []
end_words m cause.Usage = codes "2" ∷ codes "usage" ∷ []
end_words m cause.ReadFault = codes "3" ∷ codes "read" ∷ []
end_words m cause.WriteFault = codes "4" ∷ codes "write" ∷ []
end_words m (cause.Config line kind) = codes "5" ∷ codes "config" ∷ decimal line ∷ cfg_word kind ∷ []
end_words m (cause.Scene line kind) = codes "6" ∷ codes "scene" ∷ decimal line ∷ scene_word kind ∷ []
end_words m (cause.Line line kind) = codes "7" ∷ codes "line" ∷ decimal line ∷ line_word kind ∷ []
end_words m (cause.Late board first arrival spoiled spill) =
    codes "8" ∷ codes "late" ∷ (board_at m board).name ∷ decimal first ∷ decimal arrival ∷ decimal spoiled
    ∷ decimal spill ∷ []
end_words m (cause.Asked line) = codes "8" ∷ codes "asked" ∷ decimal line ∷ []
end_words m (cause.NoSwitch section) = codes "9" ∷ codes "noswitch" ∷ decimal section ∷ []
end_words m (cause.Expired board turn) = codes "9" ∷ codes "expired" ∷ (board_at m board).name ∷ decimal turn ∷ []
end_words m (cause.Connect board turn) = codes "10" ∷ codes "connect" ∷ (board_at m board).name ∷ decimal turn ∷ []
end_words m (cause.Stale board turn) = codes "10" ∷ codes "stale" ∷ (board_at m board).name ∷ decimal turn ∷ []
end_words m (cause.Trace line kind) = codes "11" ∷ codes "trace" ∷ decimal line ∷ trace_word kind ∷ []
end_words m cause.NoBoard = codes "12" ∷ codes "noboard" ∷ []
end_words m (cause.Mesh line kind) = codes "13" ∷ codes "mesh" ∷ decimal line ∷ mesh_word kind ∷ []
end_words m cause.NoFan = codes "14" ∷ codes "nofan" ∷ []
end_words m (cause.Misfit line kind) = codes "15" ∷ codes "misfit" ∷ decimal line ∷ misfit_word kind ∷ []

-- those of a section's line, behind its turn
abbrev pub kind_words : SectionKind → List Text
kind_words Moves = codes "move" ∷ []
kind_words (Home axis) = codes "home" ∷ axis_word axis ∷ []

-- the words of a line
abbrev pub words_said : Machine → ReportLine → List Text
words_said m (report.Machine corexy boards steppers) =
    codes "machine" ∷ kinematics_word corexy ∷ codes "boards" ∷ decimal boards ∷ codes "steppers" ∷ decimal steppers
    ∷ []
words_said m (report.Board board freq turn tick) =
    codes "board" ∷ (board_at m board).name ∷ codes "freq" ∷ decimal freq ∷ codes "turn" ∷ decimal turn ∷ codes "tick"
    ∷ decimal tick ∷ []
words_said m (report.Section i turn kind) = codes "section" ∷ decimal i ∷ codes "turn" ∷ decimal turn ∷ kind_words kind
words_said m (report.Pulse board stepper tick up) =
    codes "pulse" ∷ (board_at m board).name ∷ (stepper_at m stepper).name ∷ decimal tick ∷ sign up ∷ []
words_said m (report.Cut i board pin tick line) =
    codes "cut" ∷ decimal i ∷ (board_at m board).name ∷ pin_name m board pin ∷ decimal tick ∷ decimal line ∷ []
words_said m (report.Drift board sent clock from) =
    codes "line" ∷ (board_at m board).name ∷ codes "turn" ∷ decimal sent ∷ codes "tick" ∷ decimal clock ∷ codes "from"
    ∷ decimal from ∷ []
words_said m (report.Lines lines passed) = codes "lines" ∷ decimal lines ∷ codes "passed" ∷ decimal passed ∷ []
words_said m (report.Out board pin tick on) =
    codes "out" ∷ (board_at m board).name ∷ pin_name m board pin ∷ decimal tick ∷ level on ∷ []
words_said m (report.Made seed moves) = codes "make" ∷ codes "seed" ∷ decimal seed ∷ codes "moves" ∷ decimal moves ∷ []
words_said m (report.Count stepper pulses) = (stepper_at m stepper).name ∷ decimal pulses ∷ []
words_said m (report.Fit section stepper pulses planned early late) =
    codes "section" ∷ decimal section ∷ (stepper_at m stepper).name ∷ decimal pulses ∷ decimal planned ∷ decimal early
    ∷ decimal late ∷ []
words_said m (report.End cause) = codes "end" ∷ end_words m cause

-- the words of some lines, with their numbers, of which this is the first one's
abbrev pub numbered : Machine → ℕ → List ReportLine → List (ℕ × List Text)
numbered m n [] = []
numbered m n (l ∷ lines) = (n, words_said m l) ∷ numbered m (n + 1) lines
