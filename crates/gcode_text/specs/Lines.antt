-- The reading of a line.
use Rattle.std.specs.Prelude.{◌≡◌, ℕ, ◌-◌, ℤ, Bool, true, false, List, [], ◌∷◌, ◌&&◌, ◌||◌, length, nat_lt, nat_le, if◌then◌else◌, Option, Some, None, Result, Ok, Err, slice_set, slice_index_or, replicate, is_none}
use Rattle.gcode_text.specs.declared.word.Command.{Command}
use Rattle.gcode_text.specs.declared.word.Command.TheVariants.{G28, M204}
use Rattle.gcode_text.specs.declared.word.Given.{Given}
use Rattle.gcode_text.specs.declared.word.Given.TheVariants.{Bare, Number}
use Rattle.gcode_text.specs.declared.word.Word.{Word}
use Rattle.gcode_text.specs.declared.word.Word.TheVariants as words
use Rattle.gcode_text.specs.declared.fault.FaultKind.{FaultKind}
use Rattle.gcode_text.specs.declared.fault.FaultKind.TheVariants as kinds
use Rattle.gcode_text.specs.declared.fault.LineFault.{LineFault}
use Rattle.gcode_text.specs.declared.table.Entry.{Entry}
use Rattle.gcode_text.specs.declared.table.Entry.TheVariants as entries
use Rattle.text_core.specs.Bytes.{is_digit, is_letter, is_sign, is_point, capital, behind, before, begins, ends_or_begins}
use Rattle.text_core.specs.Numbers.{number_at}
use Rattle.gcode_text.specs.Blanks.{is_blank}
use Rattle.gcode_text.specs.Commands.{Head, head_of, unnumbered, table_entry}

-- what is given behind a letter, if behind it and blanks a word begins or the text ends
abbrev pub if_word_next : {X : Type 0} → List ℕ → X → Result X FaultKind
if_word_next rest x = if ends_or_begins is_letter (behind is_blank rest) then Ok x else Err kinds.BadLetter

-- a number is given, if it is readable
abbrev pub number_given : Option (ℤ × List ℕ) → Result Given FaultKind
number_given None = Err kinds.BadNumber
number_given (Some found) = if_word_next found.1 (Number found.0)

-- a number may stand here: a digit, a sign or a point does
abbrev pub begins_number : List ℕ → Bool
begins_number text = begins (λ b. is_digit b || (is_sign b || is_point b)) text

-- what is given behind a letter; with bare, a letter may stand without a number
unfoldable pub given_at : Bool → List ℕ → Result Given FaultKind
given_at bare text =
    if bare && (if begins_number text then false else true) then if_word_next text Bare
    else number_given (number_at 9 text)

-- the first fault is the answer
infixl 10 ◌>>=◌
abbrev pub ◌>>=◌ : {A B : Type 0} → Result A FaultKind → (A → Result B FaultKind) → Result B FaultKind
(Ok x) >>= f = f x
(Err e) >>= f = Err e

-- the words of a text, each begun by a letter; from the left, so that of equal letters the last one holds, and the
-- first fault is the answer
abbrev pub row : Bool → List (Option Given) → List ℕ → Result (List (Option Given)) FaultKind
row bare slots [] = Ok slots
row bare slots (b ∷ bs) =
    if is_letter b then (given_at bare bs >>= λ given. row bare (slice_set slots (capital b - 65) (Some given)) bs)
    else row bare slots bs

-- no letter has anything
abbrev pub no_words : List (Option Given)
no_words = replicate 26 None

-- the text has the words of the rest, whatever was read before
abbrev pub HasWordsOf : List ℕ → List ℕ → Type 0
HasWordsOf text rest = (bare : Bool) (slots : List (Option Given)) → row bare slots rest ≡ row bare slots text

-- the words of a text, all of it
unfoldable pub given_words : Bool → List ℕ → Result (List (Option Given)) FaultKind
given_words bare text = if_word_next text no_words >>= λ slots. row bare slots text

-- in G28 a letter may stand bare
abbrev pub takes_bare : Command → Bool
takes_bare G28 = true
takes_bare other = false

-- what is given behind this capital letter
abbrev pub given_of : List (Option Given) → ℕ → Option Given
given_of letters letter =
    if nat_le 65 letter && nat_le letter 90 then slice_index_or letters (letter - 65) None else None

-- a command with its words; M204 without S is passed over
abbrev pub word_with : Command → List (Option Given) → Word
word_with M204 letters = if is_none (given_of letters 83) then words.Passed else words.Command M204 letters
word_with name letters = words.Command name letters

-- what stands behind a command is read as words where the table has the command
abbrev pub reading_behind : Entry → List ℕ → Result Word FaultKind
reading_behind (entries.Known name) rest = given_words (takes_bare name) rest >>= λ slots. Ok (word_with name slots)
reading_behind entries.Unsupported rest = Err kinds.Unsupported
reading_behind entries.Unknown rest = Ok words.Passed

-- the reading of a line by its command; a line that begins otherwise is passed over
abbrev pub reading_of_head : Option Head → Result Word FaultKind
reading_of_head None = Ok words.Passed
reading_of_head (Some head) = reading_behind (table_entry head.letter head.number) head.rest

-- the reading of a line without its comment; a line of blanks is blank
abbrev pub reading_of_text : List ℕ → Result Word FaultKind
reading_of_text [] = Ok words.Blank
reading_of_text (b ∷ bs) = reading_of_head (head_of (unnumbered (b ∷ bs)))

-- a line cut at its first ; and then at its first *
abbrev pub text_of : List ℕ → List ℕ
text_of line = before 42 (before 59 line)

-- The reading of a line, which is its bytes without the end. A line of more than 1,024 bytes is too long,
-- whatever it says.
unfoldable pub reading : List ℕ → Result Word FaultKind
reading line =
    if nat_lt 1024 (length line) then Err kinds.TooLongLine else reading_of_text (behind is_blank (text_of line))

-- a reading whose fault stands at the line's number
abbrev pub at_line : ℕ → Result Word FaultKind → Result Word LineFault
at_line number (Ok word) = Ok word
at_line number (Err kind) = Err (record { line = number; kind = kind })
