-- The end lines of files are comments.
use Rattle.std.proofs.Common.{◌≡◌, ℕ, ◌≤◌, true, false, codes, List, [], ◌∷◌, ◌++◌, length, length-append, refl, sym, ap, arith, append_assoc, inr, lit≤, Bool}
use Rattle.std.specs.Prelude.{decimal, ◌&&◌}
use Rattle.std.specs.List.{list_all}
use Rattle.plan_types.specs.declared.cause.Cause.TheVariants as cause
use Rattle.plan_types.specs.declared.cause.LineKind.{LineKind}
use Rattle.plan_types.specs.declared.cause.LineKind.TheVariants as kinds
use Rattle.laws_board.proofs.Names.{Machine, both_parts}
use Rattle.report_text.specs.Text.{end_text}
use Rattle.report_text.specs.Words.{line_word}
use Rattle.laws_report.specs.meshes.Written.{IsEnding}
use Rattle.laws_report.proofs.meshes.Digits.{decimal_digits, decimal_few}
use Rattle.laws_report.proofs.meshes.Spelling.{ArePlain, is_plain, plain_both, plain_digits}
use Rattle.laws_report.proofs.meshes.Telling.{no_ends}

plain_by : (bs : List ℕ) → list_all is_plain bs ≡ true → ArePlain bs
plain_by [] h = tt
plain_by (b ∷ bs) h = let e = both_parts (is_plain b) (list_all is_plain bs) h in (e.0, plain_by bs e.1)

comment : (said text : List ℕ) → text ≡ 59 ∷ (said ++ 10 ∷ []) → ArePlain said → length said ≤ 1023 → IsEnding text
comment said text is plain short = inr (record { said = said; is = is; one = no_ends said plain; short = short })

pub done_marked : (names : Machine) → IsEnding (codes "; " ++ end_text names cause.Done)
done_marked names = comment (codes " end 0 done") (codes "; " ++ end_text names cause.Done) refl (plain_by (codes " end 0 done") refl) (let n : length (codes " end 0 done") ≡ 11 = refl in omega arith)

pub asked_marked : (names : Machine) (line : ℕ) → IsEnding (codes "; " ++ end_text names (cause.Asked line))
asked_marked names line =
    let front = codes " end 8 asked " in
    comment (front ++ decimal line) (codes "; " ++ end_text names (cause.Asked line)) (ap (λ (l : List ℕ). 59 ∷ l) (sym (append_assoc front (decimal line) (10 ∷ []))))
    (plain_both front (decimal line) (plain_by front refl) (plain_digits (decimal line) (decimal_digits line)))
    (let n : length front ≡ 13 = refl in omega (arith, decimal_few line, length-append front (decimal line)))

-- a word of a kind is short
abbrev IsShort : List ℕ → Type 0
IsShort word = (list_all is_plain word ≡ true) × (length word ≤ 100)

short_kind : (kind : LineKind) → IsShort (line_word kind)
short_kind kinds.BadNumber = (refl, lit≤ tt)
short_kind c = (refl, lit≤ tt)

pub line_marked : (names : Machine) (line : ℕ) (kind : LineKind) → IsEnding (codes "; " ++ end_text names (cause.Line line kind))
line_marked names line kind =
    let front = codes " end 7 line " in
    let word = line_word kind in
    let short = short_kind kind in
    let said = front ++ (decimal line ++ (32 ∷ word)) in
    let is : codes "; " ++ end_text names (cause.Line line kind) ≡ 59 ∷ (said ++ 10 ∷ []) = ap (λ (l : List ℕ). 59 ∷ (front ++ l)) (sym (append_assoc (decimal line) (32 ∷ word) (10 ∷ []))) in
    comment said (codes "; " ++ end_text names (cause.Line line kind)) is
    (plain_both front (decimal line ++ (32 ∷ word)) (plain_by front refl) (plain_both (decimal line) (32 ∷ word) (plain_digits (decimal line) (decimal_digits line)) (refl, plain_by word short.0)))
    (let n : length front ≡ 12 = refl in let few = short.1 in omega (arith, decimal_few line, length-append front (decimal line ++ (32 ∷ word)), length-append (decimal line) (32 ∷ word)))
