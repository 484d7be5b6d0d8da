-- The text of a load, read line by line.
use Rattle.std.proofs.Common.{◌≡◌, ◌∙◌, ℕ, ◌+◌, ◌-◌, ◌<◌, ◌≤◌, ◌⊎◌, List, [], ◌++◌, take, drop, length, min, refl, ap, sym, arith, add-one, append-nil, length-append}
use Rattle.std.proofs.lemmas.List.{take-append-le, length-take-le, length-drop, drop_min, drop-append-le}
use Rattle.std.proofs.Math.Seq.{take-append-add, take-add, take_at}
use mathlib.Core.Logic.{inl, inr}
use borrow.Rule.Slice.PartMut.{mid_of, put_mid, mid_len, same_len_mid}
use Rattle.std.proofs.lemmas.Grind.{common_steps}
use Rattle.generated_load.specs.Text.{load_moves, move_line, next_random, upper}
use Rattle.generated_load.specs.Places.{IsLineAt, IsPieceRead}

drop-more : (n m : ℕ) (xs : List ℕ) → drop (m + n) xs ≡ drop n (drop m xs)
drop-more n m xs = grind (arith, common_steps)

drop-line : (line rest : List ℕ) → drop (length line) (line ++ rest) ≡ rest
drop-line line rest = grind (arith, common_steps)

moves_left : (left fewer x : ℕ) → left ≡ fewer + 1 → load_moves left x ≡ move_line (upper (next_random x)) ++ load_moves fewer (next_random x)
moves_left left fewer x e = rw (e, add-one) refl

-- behind a line begins that of the next move
pub next_line : (text line new : List ℕ) (at left fewer x y : ℕ) → IsLineAt text at line left x → left ≡ fewer + 1 → y ≡ next_random x → new ≡ move_line (upper y) → IsLineAt text (at + length line) new fewer y
next_line text line new at left fewer x y here e is_y is_new =
    drop-more (length line) at text ∙ ap (λ t. drop (length line) t) here ∙ drop-line line (load_moves left x) ∙ moves_left left fewer x e ∙ (rw (is_new, is_y) refl)

-- the front of what the text has from a place on, copied into the front of a piece
read_front : (text rest tail old new : List ℕ) (from count : ℕ) → drop from text ≡ rest ++ tail → count ≡ min (length rest) (length old) → new ≡ take count rest ++ drop count old → IsPieceRead text from old count new
read_front text rest tail old new from count here counted is =
    let few : count ≤ length rest = omega arith in
    let fits : count ≤ length old = omega arith in
    let copied : length (take count rest) ≡ count = length-take-le count rest few in
    let all : length text - from ≡ length rest + length tail = sym (length-drop from text) ∙ ap (λ t. length t) here ∙ length-append rest tail in
    record {
      size = rw (is, length-append, copied, length-drop) (omega arith);
      fits = fits;
      there = omega arith;
      bytes = ap (λ t. take count t) is ∙ take_at (take count rest) (drop count old) count copied ∙ sym (ap (λ t. take count t) here ∙ take-append-le count rest tail few);
    }

-- the bytes of a line from a place on, copied into the front of a piece
pub read_in_line : (text line rest old new : List ℕ) (at left state from skipped count : ℕ) → IsLineAt text at line left state → at ≤ from → (from < at + length line) ⊎ (left ≡ 0) → skipped ≡ min (from - at) (length line) → rest ≡ drop skipped line
    → count ≡ min (length rest) (length old) → new ≡ take count rest ++ drop count old → IsPieceRead text from old count new
read_in_line text line rest old new at left state from skipped count here behind within skips is_rest counted is =
    let place : at + (from - at) ≡ from = omega arith in
    let text_there : drop from text ≡ drop (from - at) (line ++ load_moves left state) = ap (λ n. drop n text) (sym place) ∙ drop-more (from - at) at text ∙ ap (λ t. drop (from - at) t) here in
    let line_there : drop (from - at) line ≡ rest = sym (is_rest ∙ ap (λ n. drop n line) skips ∙ drop_min (from - at) line) in
    elim within [
      | inl early ↦ read_front text rest (load_moves left state) old new from count (text_there ∙ drop-append-le (from - at) line (load_moves left state) (omega arith) ∙ ap (λ t. t ++ load_moves left state) line_there) counted is
      | inr last ↦ read_front text rest [] old new from count (text_there ∙ ap (λ n. drop (from - at) (line ++ load_moves n state)) last ∙ ap (λ t. drop (from - at) t) (append-nil line) ∙ line_there ∙ sym (append-nil rest)) counted is
    ]

-- a read that goes on behind another
pub read_on : (text text_there old piece new : List ℕ) (from place count more : ℕ) → text_there ≡ text → place ≡ from + count → IsPieceRead text from old count piece → IsPieceRead text_there place (mid_of count (length piece - count) piece) more new
    → IsPieceRead text from old (count + more) (put_mid count (length piece - count) piece new)
read_on text text_there old piece new from place count more same on front r =
    let front_size = front.size in
    let fits = front.fits in
    let there = front.there in
    let room : count ≤ length piece = omega arith in
    let part : length (mid_of count (length piece - count) piece) ≡ length piece - count = mid_len count (length piece) piece (omega arith) in
    let size = r.size in
    let more_fits = r.fits in
    let more_there = r.there in
    let long : length text_there ≡ length text = ap (λ t. length t) same in
    let copied : length (take count piece) ≡ count = length-take-le count piece room in
    let behind : List ℕ = drop (length piece - count) (drop count piece) in
    let step : take (count + more) (take count piece ++ (new ++ behind)) ≡ take count piece ++ take more (new ++ behind) = ap (λ n. take (n + more) (take count piece ++ (new ++ behind))) (sym copied) ∙ take-append-add (take count piece) (new ++ behind) more in
    let more_bytes : take more (new ++ behind) ≡ take more (drop count (drop from text)) =
    take-append-le more new behind (omega arith) ∙ r.bytes ∙ ap (λ t. take more (drop place t)) same ∙ ap (λ n. take more (drop n text)) on ∙ ap (λ t. take more t) (drop-more count from text) in
    record {
      size = same_len_mid count (length piece - count) piece new size ∙ front.size;
      fits = omega arith;
      there = omega arith;
      bytes = step ∙ ap (λ t. t ++ take more (new ++ behind)) front.bytes ∙ ap (λ t. take count (drop from text) ++ t) more_bytes ∙ sym (take-add count more (drop from text));
    }
