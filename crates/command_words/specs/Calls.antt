-- A subcommand with the operands that it was given.
use Rattle.std.specs.Prelude.{◌||◌, Bool, List, [], ◌∷◌, Option, Some, None, codes, option_map, if◌then◌else◌}
use Rattle.std.specs.Str.{bytes_eq}
use Rattle.std.specs.Borrow.{Bor}
use Rattle.text_core.specs.Bytes.{Text}
use Rattle.command_words.specs.declared.parse.Call.{Call as GivenCall}
use Rattle.command_words.specs.Forms.{Asked, form_of_two, form_of_three}
use Rattle.clap.specs.Words.{Row, first_of}

-- the name of the subcommand, and its first, second and third operand
abbrev pub Call : Type 0
Call = Text × List (Option Text)

-- a name is that of a subcommand with two operands
abbrev pub takes_two : Text → Bool
takes_two w = bytes_eq (codes "run") w || (bytes_eq (codes "make") w || bytes_eq (codes "fan") w)

-- a name is that of a subcommand with three operands
abbrev pub takes_three : Text → Bool
takes_three w =
    bytes_eq (codes "run") w
    || (bytes_eq (codes "check") w
    || (bytes_eq (codes "dump") w || (bytes_eq (codes "replay") w || bytes_eq (codes "mesh") w)))

-- the call of a subcommand by its words, where it takes so many
abbrev pub call_of : List Text → Option Call
call_of (w ∷ a ∷ b ∷ []) = if takes_two w then Some (w, Some a ∷ Some b ∷ None ∷ []) else None
call_of (w ∷ a ∷ b ∷ c ∷ []) = if takes_three w then Some (w, Some a ∷ Some b ∷ Some c ∷ []) else None
call_of other = None

-- the operands that a parse found
abbrev pub operands_in : List Row → List (Option Text)
operands_in rows = first_of (codes "first") rows ∷ first_of (codes "second") rows ∷ first_of (codes "third") rows ∷ []

-- the call that a parse found
abbrev pub call_in : Option (Text × List Row) → Option Call
call_in = option_map (λ p. (p.0, operands_in p.1))

-- the text of an operand, where it is given
abbrev pub operand_text : Option (Bor Text) → Option Text
operand_text = option_map (λ s. s.now)

-- a call as contracts see it
abbrev pub view_call : GivenCall → Call
view_call c = (c.name.now, operand_text c.first ∷ operand_text c.second ∷ operand_text c.third ∷ [])

-- what a subcommand with its operands asks for
abbrev pub called_form : Call → Option Asked
called_form (n, Some a ∷ Some b ∷ None ∷ []) = form_of_two n a b
called_form (n, Some a ∷ Some b ∷ Some c ∷ []) = form_of_three n a b c
called_form other = None
