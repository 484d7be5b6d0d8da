-- The words of a line.
use Rattle.std.specs.Prelude.{ℕ, ◌+◌, Bool, true, false, List, [], ◌∷◌, if◌then◌else◌}
use Rattle.text_core.specs.Bytes.{is_blank, before, begins}
use Rattle.text_core.specs.Lines.{with_first}
use Rattle.text_core.specs.Trims.{without_return}

-- a byte of a word: no blank
abbrev pub is_inside : ℕ → Bool
is_inside b = if is_blank b then false else true

-- The words of a text, its longest runs of bytes that are no blanks: such a byte belongs to the word that
-- begins behind it at once, or is a word by itself.
abbrev pub words_of : List ℕ → List (List ℕ)
words_of [] = []
words_of (b ∷ bs) =
    let words = words_of bs in
    if is_blank b then words else (if begins is_inside bs then with_first b words else (b ∷ []) ∷ words)

-- no word is left
abbrev pub is_none_left : List (List ℕ) → Bool
is_none_left [] = true
is_none_left (word ∷ words) = false

-- the words of a line without a CR at its end and without what stands from the first of these bytes on
abbrev pub line_words : ℕ → List ℕ → List (List ℕ)
line_words comment line = words_of (before comment (without_return line))

-- the lines that have words, with their numbers, where the first line has this one
abbrev pub worded_lines : ℕ → ℕ → List (List ℕ) → List (ℕ × List (List ℕ))
worded_lines comment number [] = []
worded_lines comment number (line ∷ lines) =
    let words = line_words comment line in
    let later = worded_lines comment (number + 1) lines in
    (if is_none_left words then later else (number, words) ∷ later)
