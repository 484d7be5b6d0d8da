-- Words with spaces between them are read back, and so are the lines that they make.
use Rattle.std.proofs.Common.{◌≡◌, ◌∙◌, ℕ, ◌<◌, Bool, true, false, List, [], ◌∷◌, ◌++◌, length, ap, sym, refl, arith, append_assoc, rules}
use Rattle.std.specs.Prelude.{◌&&◌, ◌||◌, ◌==◌, nat_lt}
use Rattle.std.specs.List.{list_all}
use Rattle.laws_board.proofs.Names.{nat_tests, both_parts, and_from}
use Rattle.text_core.specs.Bytes.{before, begins, is_blank, Text}
use Rattle.text_core.specs.Lines.{lines_of}
use Rattle.text_core.specs.Trims.{without_return}
use Rattle.text_core.specs.Words.{is_inside, line_words, words_of}
use Rattle.laws_report.specs.reports.Names.{is_plain, is_word}
use Rattle.laws_report.specs.reports.Spelled.{spaced}

-- each of some texts is a word
abbrev pub AreWords : List Text → Type 0
AreWords [] = Unit {0}
AreWords (w ∷ words) = (is_word w ≡ true) × AreWords words

word-parts : (w : Text) → is_word w ≡ true → (0 < length w) × (list_all is_plain w ≡ true)
word-parts w is = (let h = both_parts (nat_lt 0 (length w)) (list_all is_plain w) is in let some = h.0 in (grind (arith, nat_tests), h.1))

plain-blank : (b : ℕ) → is_plain b ≡ true → is_blank b ≡ false
plain-blank b h = grind (arith, nat_tests)

-- the first of some words
words-first : (w rest : Text) → 0 < length w → list_all is_plain w ≡ true → begins is_inside rest ≡ false → words_of (w ++ rest) ≡ w ∷ words_of rest
words-first [] rest some plain apart = absurd (omega arith)
words-first (b ∷ []) rest some plain apart =
    let h = both_parts (is_plain b) true plain in
    let inside = plain-blank b h.0 in
    rw (inside, apart) refl
words-first (b ∷ c ∷ cs) rest some plain apart =
    let h = both_parts (is_plain b) (list_all is_plain (c ∷ cs)) plain in
    let next = both_parts (is_plain c) (list_all is_plain cs) h.1 in
    let inside = plain-blank b h.0 in
    let more = plain-blank c next.0 in
    let later = words-first (c ∷ cs) rest (omega arith) h.1 apart in
    with-first b (c ∷ (cs ++ rest)) (c ∷ cs) (words_of rest) inside (rw more refl) later where
      with-first : (b : ℕ) (bs first : Text) (others : List Text) → is_blank b ≡ false → begins is_inside bs ≡ true → words_of bs ≡ first ∷ others → words_of (b ∷ bs) ≡ (b ∷ first) ∷ others
      with-first b bs first others inside begun is = rw (inside, begun, is) refl

-- words are read back
pub words-back : (words : List Text) → AreWords words → words_of (spaced words []) ≡ words
words-back [] are = refl
words-back (w ∷ []) are = (let h = word-parts w are.0 in words-first w [] h.0 h.1 refl)
words-back (w ∷ v ∷ words) are =
    let h = word-parts w are.0 in
    words-first w (32 ∷ spaced (v ∷ words) []) h.0 h.1 refl ∙ ap (λ (ws : List Text). w ∷ ws) (words-back (v ∷ words) are.1)

-- what stands behind some words
pub spaced-behind : (words : List Text) (rest : Text) → spaced words rest ≡ spaced words [] ++ rest
spaced-behind [] rest = refl
spaced-behind (w ∷ []) rest = sym (append_assoc w [] rest)
spaced-behind (w ∷ v ∷ words) rest = ap (λ (t : Text). w ++ (32 ∷ t)) (spaced-behind (v ∷ words) rest) ∙ sym (append_assoc w (32 ∷ spaced (v ∷ words) []) rest)

-- a byte of words or a space
abbrev is_printed : ℕ → Bool
is_printed b = is_plain b || (b == 32)

printed-plain : (b : ℕ) → is_plain b ≡ true → is_printed b ≡ true
printed-plain b h = grind (arith, nat_tests)

all-printed : (w rest : Text) → list_all is_plain w ≡ true → list_all is_printed rest ≡ true → list_all is_printed (w ++ rest) ≡ true
all-printed [] rest plain printed = printed
all-printed (b ∷ bs) rest plain printed =
    let h = both_parts (is_plain b) (list_all is_plain bs) plain in
    and_from (is_printed b) (list_all is_printed (bs ++ rest)) (printed-plain b h.0) (all-printed bs rest h.1 printed)

printed-words : (words : List Text) → AreWords words → list_all is_printed (spaced words []) ≡ true
printed-words [] are = refl
printed-words (w ∷ []) are = all-printed w [] (word-parts w are.0).1 refl
printed-words (w ∷ v ∷ words) are = all-printed w (32 ∷ spaced (v ∷ words) []) (word-parts w are.0).1 (printed-words (v ∷ words) are.1)

not-end : (b : ℕ) → is_printed b ≡ true → (b == 10) ≡ false
not-end b h = grind (arith, nat_tests)

not-comment : (b : ℕ) → is_printed b ≡ true → (b == 35) ≡ false
not-comment b h = grind (arith, nat_tests)

not-return : (b : ℕ) → is_printed b ≡ true → (b == 13) ≡ false
not-return b h = grind (arith, nat_tests)

-- a line that ends before the others
line-first : (line rest : Text) → list_all is_printed line ≡ true → lines_of (line ++ (10 ∷ rest)) ≡ line ∷ lines_of rest
line-first [] rest printed = refl
line-first (b ∷ bs) rest printed =
    let h = both_parts (is_printed b) (list_all is_printed bs) printed in
    let inside = not-end b h.0 in
    let later = line-first bs rest h.1 in
    rw (inside, later) refl

no-comment : (line : Text) → list_all is_printed line ≡ true → before 35 line ≡ line
no-comment [] printed = refl
no-comment (b ∷ bs) printed =
    let h = both_parts (is_printed b) (list_all is_printed bs) printed in
    let inside = not-comment b h.0 in
    let later = no-comment bs h.1 in
    rw (inside, later) refl

no-return : (line : Text) → list_all is_printed line ≡ true → without_return line ≡ line
no-return [] printed = refl
no-return (b ∷ []) printed =
    let h = both_parts (is_printed b) true printed in
    let inside = not-return b h.0 in
    rw inside refl
no-return (b ∷ c ∷ cs) printed =
    let h = both_parts (is_printed b) (list_all is_printed (c ∷ cs)) printed in
    ap (λ (t : Text). b ∷ t) (no-return (c ∷ cs) h.1)

-- the words of a line, as a log takes it
pub line-back : (words : List Text) → AreWords words → line_words 35 (spaced words []) ≡ words
line-back words are = search (rules, printed-words, no-return, no-comment, words-back)

-- the first line of a text, and those behind it
pub lines-back : (words : List Text) (rest : Text) → AreWords words → lines_of (spaced words (10 ∷ []) ++ rest) ≡ spaced words [] ∷ lines_of rest
lines-back words rest are = search (rules, spaced-behind, append_assoc, line-first, printed-words)
