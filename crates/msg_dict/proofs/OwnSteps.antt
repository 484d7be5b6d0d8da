-- Lemmas on the loops that write a board's own dictionary.
use Rattle.std.proofs.Common.{◌≡◌, ◌∙◌, ℕ, ◌+◌, ◌<◌, List, [], ◌∷◌, ◌++◌, drop, map, length, get_or, ap, sym, append_assoc}
use Rattle.std.specs.Str.{is_utf8}
use Rattle.std.proofs.lemmas.List.{drop_more}
use Rattle.serde_json.specs.Data.{Data, Members, put}
use Rattle.msg_dict.specs.declared.format.Format.{Format}
use Rattle.msg_dict.specs.declared.row.Row.{Row}
use Rattle.msg_dict.specs.Dictionary.{Named}
use Rattle.msg_dict.specs.Kept.{format_of}
use Rattle.msg_dict.specs.Table.{format_text, own_format, own_id}
use Rattle.msg_dict.specs.Own.{whole, with_rows, with_pin, with_pins}
use Rattle.msg_dict.proofs.ReadSteps.{map_added}

-- one more row is put
pub row_put : (rows : List Row) (i : ℕ) (d : Row) (name : List ℕ) (id : ℕ) (value : Data) (ms made all : Members) → i < length rows → name ≡ format_text (get_or rows i d)
    → id ≡ own_id (get_or rows i d) → value ≡ whole id → made ≡ put name value ms → with_rows (drop i rows) ms ≡ all → with_rows (drop (i + 1) rows) made ≡ all
row_put rows i d name id value ms made all h en ei ev em before =
    let r = get_or rows i d in
    let is : made ≡ put (format_text r) (whole (own_id r)) ms = em ∙ ap (λ n. put n value ms) en ∙ ap (λ v. put (format_text r) v ms) (ev ∙ ap whole ei) in
    ap (λ m. with_rows (drop (i + 1) rows) m) is ∙ ap (λ (xs : List Row). with_rows xs ms) (sym (drop_more rows i d h)) ∙ before

-- one more pin is put
pub pin_put : (names : List (List ℕ)) (i : ℕ) (name bytes : List ℕ) (ms made all : Members) → i < length names → name ≡ get_or names i name → bytes ≡ name
    → made ≡ with_pin (is_utf8 bytes) bytes i ms → with_pins i (drop i names) ms ≡ all → with_pins (i + 1) (drop (i + 1) names) made ≡ all
pin_put names i name bytes ms made all h at eb em before =
    let is : made ≡ with_pin (is_utf8 (get_or names i name)) (get_or names i name) i ms = em ∙ ap (λ (b : List ℕ). with_pin (is_utf8 b) b i ms) (eb ∙ at) in
    ap (λ m. with_pins (i + 1) (drop (i + 1) names) m) is ∙ ap (λ (xs : List (List ℕ)). with_pins i xs ms) (sym (drop_more names i name h)) ∙ before

-- one more format is listed
pub row_listed : (rows : List Row) (i : ℕ) (d : Row) (f : Format) (old new : List Format) → i < length rows → f.text.items ≡ format_text (get_or rows i d) → f.id ≡ own_id (get_or rows i d)
    → new ≡ old ++ f ∷ [] → map format_of old ++ map own_format (drop i rows) ≡ map own_format rows → map format_of new ++ map own_format (drop (i + 1) rows) ≡ map own_format rows
row_listed rows i d f old new h et ei push before =
    let r = get_or rows i d in
    let rest = map own_format (drop (i + 1) rows) in
    let same : format_of f ≡ own_format r = ap (λ (t : List ℕ). record { name = t; number = f.id }) et ∙ ap (λ (k : ℕ). record { name = format_text r; number = k }) ei in
    ap (λ (fs : List Format). map format_of fs ++ rest) push ∙ ap (λ (ns : List Named). ns ++ rest) (map_added old f) ∙ append_assoc (map format_of old) (format_of f ∷ []) rest
    ∙ ap (λ (n : Named). map format_of old ++ n ∷ rest) same ∙ ap (λ (xs : List Row). map format_of old ++ map own_format xs) (sym (drop_more rows i d h)) ∙ before
