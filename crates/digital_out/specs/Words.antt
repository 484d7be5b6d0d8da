-- The lines of a text that switch the part fan.
use Rattle.std.specs.Prelude.{ℕ, ◌+◌, Bool, List, [], ◌∷◌, ◌++◌, Option, Some, None}
use Rattle.text_core.specs.Lines.{lines_of}
use Rattle.plan_types.specs.declared.machine.Machine.{Machine}
use Rattle.gcode_text.specs.Fans.{fan_of}
use Rattle.gcode_state.specs.declared.state.Action.{Action}
use Rattle.gcode_state.specs.declared.state.Action.TheVariants as actions
use Rattle.gcode_state.specs.States.{axes_in}
use Rattle.gcode_program.specs.Programs.{outcome_of}
use Rattle.gcode_program.specs.Readings.{Deed}
use Rattle.digital_out.specs.declared.word.FanWord.{FanWord}

-- how many moves an action makes: a home one for each of its axes
abbrev pub moves_by : Action → ℕ
moves_by (actions.Move m) = 1
moves_by (actions.Home axes) = axes_in axes
moves_by other = 0

-- a word of the fan behind so many moves, where there is one
abbrev pub word_by : ℕ → Option Bool → List FanWord
word_by count None = []
word_by count (Some level) = record { moves = count; on = level } ∷ []

-- a line that switches the fan behind so many moves, where it does
abbrev pub word_if : ℕ → List ℕ → List FanWord
word_if count line = word_by count (fan_of line)

-- the lines that switch the fan among these, which do these deeds behind so many moves
abbrev pub fan_words : ℕ → List Deed → List (List ℕ) → List FanWord
fan_words count [] lines = []
fan_words count (d ∷ deeds) [] = []
fan_words count (d ∷ deeds) (line ∷ lines) = word_if count line ++ fan_words (count + moves_by d.action) deeds lines

-- the accepted lines of a text that switch the fan
unfoldable pub fan_words_in : Machine → List ℕ → List FanWord
fan_words_in m text = fan_words 0 (outcome_of m text).deeds (lines_of text)
