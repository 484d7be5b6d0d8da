-- What each written line is read as.
use Rattle.std.proofs.Common.{◌≡◌, ◌∙◌, ℕ, ◌*◌, ◌≤◌, Bool, true, false, codes, List, [], ◌∷◌, ◌++◌, length, refl, ap, sym, subst, arith, append-nil, inl, inr, ◌⊎◌, Ok, Err, rules}
use Rattle.std.specs.Prelude.{decimal, ℤ, pos, Option, Some, None, Result, nat_lt, slice_set}
use Rattle.laws_board.proofs.Names.{nat_tests}
use Rattle.text_core.specs.Bytes.{behind}
use Rattle.text_core.specs.Numbers.{number_at, value_of}
use Rattle.gcode_text.specs.Blanks.{is_blank}
use Rattle.gcode_text.specs.Commands.{table_entry, head_of, unnumbered}
use Rattle.gcode_text.specs.Lines.{◌>>=◌, given_at, no_words, word_with, reading, reading_of_text, row, given_words}
use Rattle.gcode_text.specs.declared.fault.FaultKind.{FaultKind}
use Rattle.gcode_text.specs.declared.word.Given.{Given}
use Rattle.gcode_text.specs.declared.word.Given.TheVariants.{Bare, Number}
use Rattle.gcode_text.specs.declared.word.Word.{Word}
use Rattle.gcode_text.specs.declared.word.Word.TheVariants as words
use Rattle.gcode_text.specs.declared.word.Command.{Command}
use Rattle.gcode_text.specs.declared.word.Command.TheVariants as names
use Rattle.bed_mesh.specs.BentLines.{home_line, letter_if}
use Rattle.bed_mesh.specs.Numbers.{millionths, word}
use Rattle.gcode_text.proofs.Rows.{row-number}
use Rattle.laws_report.proofs.meshes.Digits.{decimal_digits, whole_back, whole_behind}
use Rattle.laws_report.proofs.meshes.Spelling.{ArePlain, bound, is_plain, number_read, plain_both, plain_digits, plain_number, plain_reading}

pub plain_word : (letter : List ℕ) (z : ℤ) → ArePlain letter → ArePlain (word letter z)
unfolding word
plain_word letter z h = plain_both letter (millionths z) h (plain_number z)

-- the last number of a row of words
last_read : (z : ℤ) (slots w : List (Option Given)) (place : ℕ)
    → (given_at false (millionths z) >>= λ given. row false (slice_set slots place (Some given)) (millionths z)) ≡ Ok w
    → slice_set slots place (Some (Number z)) ≡ w
last_read z slots w place h =
    let e = sym (append-nil (millionths z)) in
    let k = subst (λ (t : List ℕ). (given_at false t >>= λ given. row false (slice_set slots place (Some given)) t) ≡ Ok w) e h in
    let r : Ok (slice_set slots place (Some (Number z))) ≡ Ok w = number_read z [] slots w place (tt, refl) k in cc

named_by : (name : Command) (r : Result (List (Option Given)) FaultKind) (w : Word) → (r >>= λ slots. Ok (words.Command name slots)) ≡ Ok w → (slots : List (Option Given)) × (r ≡ Ok slots) × (w ≡ words.Command name slots)
named_by name (Ok slots) w h = (slots, refl, let e : words.Command name slots ≡ w = cc in sym e)
named_by name (Err kind) w h = absurd cc

abbrev pub move_text : ℤ → ℤ → ℤ → ℤ → ℤ → List ℕ
move_text x y z e f = word (codes "G1 X") x ++ (word (codes " Y") y ++ (word (codes " Z") z ++ (word (codes " E") e ++ word (codes " F") f)))

abbrev pub move_words : ℤ → ℤ → ℤ → ℤ → ℤ → List (Option Given)
move_words x y z e f = slice_set (slice_set (slice_set (slice_set (slice_set no_words 23 (Some (Number x))) 24 (Some (Number y))) 25 (Some (Number z))) 4 (Some (Number e))) 5 (Some (Number f))

pub plain_move : (x y z e f : ℤ) → ArePlain (move_text x y z e f)
plain_move x y z e f = search (rules, plain_both, plain_word)

move_row : (x y z e f : ℤ) (w : Word) → reading_of_text (behind is_blank (move_text x y z e f)) ≡ Ok w
    → ((given_at false (millionths x ++ (word (codes " Y") y ++ (word (codes " Z") z ++ (word (codes " E") e ++ word (codes " F") f)))) >>= λ given. row false (slice_set no_words 23 (Some given)) (millionths x ++ (word (codes " Y") y ++ (word (codes " Z") z ++ (word (codes " E") e ++ word (codes " F") f))))) >>= λ slots. Ok (words.Command names.G1 slots)) ≡ Ok w
unfolding word head_of unnumbered table_entry given_words value_of
move_row x y z e f w h = h

move_slots : (x y z e f : ℤ) (w : List (Option Given)) → (given_at false (millionths x ++ (word (codes " Y") y ++ (word (codes " Z") z ++ (word (codes " E") e ++ word (codes " F") f)))) >>= λ given. row false (slice_set no_words 23 (Some given)) (millionths x ++ (word (codes " Y") y ++ (word (codes " Z") z ++ (word (codes " E") e ++ word (codes " F") f))))) ≡ Ok w
    → move_words x y z e f ≡ w
unfolding word
move_slots x y z e f w h =
    let s1 = slice_set no_words 23 (Some (Number x)) in
    let s2 = slice_set s1 24 (Some (Number y)) in
    let s3 = slice_set s2 25 (Some (Number z)) in
    let s4 = slice_set s3 4 (Some (Number e)) in
    let a = number_read x (word (codes " Y") y ++ (word (codes " Z") z ++ (word (codes " E") e ++ word (codes " F") f))) no_words w 23 ((refl, refl), refl) h in
    let b = number_read y (word (codes " Z") z ++ (word (codes " E") e ++ word (codes " F") f)) s1 w 24 ((refl, refl), refl) a in
    let c = number_read z (word (codes " E") e ++ word (codes " F") f) s2 w 25 ((refl, refl), refl) b in
    let d = number_read e (word (codes " F") f) s3 w 4 ((refl, refl), refl) c in
    last_read f s4 w 5 d

pub move_read : (x y z e f : ℤ) (w : Word) → reading (move_text x y z e f) ≡ Ok w → w ≡ words.Command names.G1 (move_words x y z e f)
move_read x y z e f w h =
    let k = move_row x y z e f w (plain_reading (move_text x y z e f) w (plain_move x y z e f) h) in
    let n = named_by names.G1 _ w k in
    n.2 ∙ ap (λ (s : List (Option Given)). words.Command names.G1 s) (sym (move_slots x y z e f n.0 n.1))

-- M204
abbrev pub acceleration_text : ℤ → List ℕ
acceleration_text a = word (codes "M204 S") a

abbrev pub one_word : ℕ → ℤ → List (Option Given)
one_word place z = slice_set no_words place (Some (Number z))

pub plain_acceleration : (a : ℤ) → ArePlain (acceleration_text a)
plain_acceleration a = plain_word (codes "M204 S") a (refl, (refl, (refl, (refl, (refl, (refl, tt))))))

acceleration_row : (a : ℤ) (w : Word) → reading_of_text (behind is_blank (acceleration_text a)) ≡ Ok w
    → ((given_at false (millionths a) >>= λ given. row false (slice_set no_words 18 (Some given)) (millionths a)) >>= λ slots. Ok (word_with names.M204 slots)) ≡ Ok w
unfolding word head_of unnumbered table_entry given_words value_of
acceleration_row a w h = h

word_by : (name : Command) (r : Result (List (Option Given)) FaultKind) (w : Word) → (r >>= λ slots. Ok (word_with name slots)) ≡ Ok w → (slots : List (Option Given)) × (r ≡ Ok slots) × (w ≡ word_with name slots)
word_by name (Ok slots) w h = (slots, refl, let e : word_with name slots ≡ w = cc in sym e)
word_by name (Err kind) w h = absurd cc

pub acceleration_read : (a : ℤ) (w : Word) → reading (acceleration_text a) ≡ Ok w → w ≡ words.Command names.M204 (one_word 18 a)
acceleration_read a w h =
    let k = acceleration_row a w (plain_reading (acceleration_text a) w (plain_acceleration a) h) in
    let n = word_by names.M204 _ w k in
    n.2 ∙ ap (λ (s : List (Option Given)). word_with names.M204 s) (sym (last_read a no_words n.0 18 n.1))

-- G4
abbrev pub dwell_text : ℕ → List ℕ
dwell_text ms = 71 ∷ 52 ∷ 32 ∷ 80 ∷ (decimal ms ++ [])

pub plain_dwell : (ms : ℕ) → ArePlain (dwell_text ms)
plain_dwell ms = (refl, (refl, (refl, (refl, plain_both (decimal ms) [] (plain_digits (decimal ms) (decimal_digits ms)) tt))))

dwell_row : (ms : ℕ) (w : Word) → reading_of_text (behind is_blank (dwell_text ms)) ≡ Ok w
    → ((given_at false (decimal ms ++ []) >>= λ given. row false (slice_set no_words 15 (Some given)) (decimal ms ++ [])) >>= λ slots. Ok (words.Command names.G4 slots)) ≡ Ok w
unfolding head_of unnumbered table_entry given_words value_of
dwell_row ms w h = h

whole_given : (ms : ℕ) (g : Given) → given_at false (decimal ms ++ []) ≡ Ok g → g ≡ Number (pos (ms * 1_000_000))
unfolding given_at
whole_given ms g h = by (whole_back ms) where
  by : (number_at 9 (decimal ms ++ []) ≡ Some (pos (ms * 1_000_000), [])) ⊎ (number_at 9 (decimal ms ++ []) ≡ None) → g ≡ Number (pos (ms * 1_000_000))
  by (inl some) = (let e = rw some at h in cc)
  by (inr none) = (let e = rw none at h in absurd cc)

pub dwell_read : (ms : ℕ) (w : Word) → reading (dwell_text ms) ≡ Ok w → w ≡ words.Command names.G4 (one_word 15 (pos (ms * 1_000_000)))
dwell_read ms w h =
    let k = dwell_row ms w (plain_reading (dwell_text ms) w (plain_dwell ms) h) in
    let n = named_by names.G4 _ w k in
    let b = bound (given_at false (decimal ms ++ [])) (λ given. row false (slice_set no_words 15 (Some given)) (decimal ms ++ [])) n.0 n.1 in
    let g = whole_given ms b.0 b.1 in
    let r = row-number (decimal ms ++ []) false (slice_set no_words 15 (Some b.0)) in
    let e : Ok (slice_set no_words 15 (Some b.0)) ≡ Ok n.0 = (ap (λ (t : List ℕ). row false (slice_set no_words 15 (Some b.0)) t) (sym (whole_behind ms))) ∙ r ∙ b.2 in
    let f : slice_set no_words 15 (Some b.0) ≡ n.0 = cc in
    n.2 ∙ ap (λ (s : List (Option Given)). words.Command names.G4 s) (sym f) ∙ ap (λ (y : Given). words.Command names.G4 (slice_set no_words 15 (Some y))) g

-- M400, M112 and comments
pub wait_read : reading (codes "M400") ≡ Ok (words.Command names.M400 no_words)
unfolding reading head_of unnumbered table_entry given_words value_of
wait_read = refl

pub stop_read : reading (codes "M112") ≡ Ok (words.Command names.M112 no_words)
unfolding reading head_of unnumbered table_entry given_words value_of
stop_read = refl

pub comment_read : (said : List ℕ) → length said ≤ 1023 → reading (59 ∷ said) ≡ Ok words.Blank
unfolding reading
comment_read said few = let e : nat_lt 1024 (length {A = ℕ} (59 ∷ said)) ≡ false = (let h : length {A = ℕ} (59 ∷ said) ≤ 1024 = omega arith in grind (arith, nat_tests)) in rw e refl

-- G28
abbrev pub bare_if : Bool → ℕ → List (Option Given) → List (Option Given)
bare_if true place letters = slice_set letters place (Some Bare)
bare_if false place letters = letters

abbrev pub home_words : Bool → Bool → Bool → List (Option Given)
home_words x y z = bare_if z 25 (bare_if y 24 (bare_if x 23 no_words))

abbrev pub home_text : Bool → Bool → Bool → List ℕ
home_text x y z = home_line (x ∷ y ∷ z ∷ [])

pub home_read : (x y z : Bool) → reading (home_text x y z) ≡ Ok (words.Command names.G28 (home_words x y z))
unfolding reading head_of unnumbered table_entry given_words value_of given_at
home_read true true true = refl
home_read true true false = refl
home_read true false true = refl
home_read true false false = refl
home_read false true true = refl
home_read false true false = refl
home_read false false true = refl
home_read false false false = refl

pub plain_home : (x y z : Bool) → ArePlain (home_text x y z)
plain_home x y z = search (rules, plain_both)
