-- The first lines that are written.
use Rattle.std.proofs.Common.{◌≡◌, ◌∙◌, ℕ, ◌+◌, List, [], ◌∷◌, refl, ap, codes, Ok, Err, true, false}
use Rattle.std.proofs.Common.{sym}
use Rattle.std.specs.Prelude.{Result, MatchResult}
use Rattle.plan_types.specs.declared.cause.LineKind.{LineKind}
use Rattle.text_core.specs.Numbers.{value_of}
use Rattle.gcode_text.specs.Commands.{table_entry, head_of, unnumbered}
use Rattle.gcode_text.specs.Lines.{no_words, reading, given_words}
use Rattle.gcode_text.specs.declared.word.Word.TheVariants as words
use Rattle.gcode_text.specs.declared.word.Command.TheVariants as names
use Rattle.gcode_state.specs.declared.state.State.{State}
use Rattle.gcode_program.specs.Readings.{applied_line, line_result}
use Rattle.bed_mesh.specs.Files.{accepted_state}

pub absolute : reading (codes "G90") ≡ Ok (words.Command names.G90 no_words)
unfolding reading head_of unnumbered table_entry given_words value_of
absolute = refl

pub relative : reading (codes "M83") ≡ Ok (words.Command names.M83 no_words)
unfolding reading head_of unnumbered table_entry given_words value_of
relative = refl

pub after_absolute : (s : State) → accepted_state 0 s (codes "G90" ∷ []) ≡ Ok (record s { relative = false })
unfolding line_result applied_line
after_absolute s = rw absolute refl

pub after_relative : (s : State) → accepted_state 4 s (codes "M83" ∷ []) ≡ Ok (record s { relative_e = true })
unfolding line_result applied_line
after_relative s = rw relative refl

pub settled : {A : Type 0} (r : Result A LineKind) (x : Result State LineKind) (t u : State) → MatchResult r (λ _. x ≡ Ok t) (λ kind. x ≡ Err kind) → x ≡ Ok u → t ≡ u
settled (Ok a) x t u h e = let f = sym h ∙ e in cc
settled (Err kind) x t u h e = let f = sym h ∙ e in absurd cc
