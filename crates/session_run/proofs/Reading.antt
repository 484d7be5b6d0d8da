-- The bytes of a piece, read part by part.
use Rattle.std.proofs.Common.{◌≡◌, ℕ, ◌+◌, ◌<◌, ◌≤◌, List, ◌++◌, nat_lt, take, drop, length, refl, ap, sym, subst, ◌∙◌, arith, length-append, Some}
use Rattle.std.proofs.lemmas.List.{take_all, length-take-le}
use Rattle.std.proofs.Math.Seq.{take-add}
use Rattle.std.proofs.lemmas.Bool.{cases_lt}
use Rattle.std.proofs.lemmas.Grind.{common_steps}
use mathlib.Core.Logic.{inl, inr}
use Rattle.io_core.specs.declared.traits.Files.{Ghosts as Files}
use Rattle.msg_code.specs.declared.talk.Piece.{Piece}
use Rattle.session_run.specs.Reads.{IsNextPiece}

take-fewer : (n m : ℕ) (xs : List ℕ) → n ≤ m → take n (take m xs) ≡ take n xs
take-fewer n m xs h = grind (arith, common_steps)

drop-more : (n m : ℕ) (xs : List ℕ) → drop n (drop m xs) ≡ drop (m + n) xs
drop-more n m xs = grind (arith, common_steps)

pub piece-more : (text old room new : List ℕ) (at n found count : ℕ) → n ≡ length old → old ≡ take (length old) (drop at text) → take found room ≡ take found (drop (at + n) text) → count ≤ found → count ≤ length room → new ≡ old ++ take count room
    → new ≡ take (length new) (drop at text)
piece-more text old room new at n found count e front same few fits is =
    let part : take count room ≡ take count (drop (length old) (drop at text)) =
    sym (take-fewer count found room few) ∙ ap (λ t. take count t) same ∙ take-fewer count found (drop (at + n) text) few ∙ ap (λ k. take count (drop (at + k) text)) e ∙ ap (λ t. take count t) (sym (drop-more (length old) at text)) in
    let size : length new ≡ length old + count = rw (is, length-append old (take count room), length-take-le count room fits) refl in
    is ∙ ap (λ t. old ++ t) part ∙ ap (λ t. t ++ take count (drop (length old) (drop at text))) front ∙ sym (take-add (length old) count (drop at text)) ∙ ap (λ k. take k (drop at text)) (sym size)

-- the bytes of a piece are all that it has room for, or all that there are
pub piece-whole : (text bytes : List ℕ) (at : ℕ) → length bytes ≤ 4_096 → bytes ≡ take (length bytes) (drop at text) → (length bytes < 4_096 → length (drop at text) ≤ length bytes) → bytes ≡ take 4_096 (drop at text)
piece-whole text bytes at small front ended =
    elim (cases_lt (length bytes) 4_096) [
      | inl few ↦ front ∙ take_all (length bytes) (drop at text) (ended few) ∙ sym (take_all 4_096 (drop at text) (let e = ended few in omega arith))
      | inr many ↦ (let full : length bytes ≡ 4_096 = omega arith in front ∙ ap (λ n. take n (drop at text)) full)
    ]

pub next-piece : {F : Type 0} (f : Files F) (name : List ℕ) (files : F) (at after : ℕ) (p : Piece) (bytes : List ℕ) → p.bytes ≡ bytes → p.end ≡ nat_lt (length bytes) 4_096 → after ≡ at + length bytes → length bytes ≤ 4_096
    → ((text : List ℕ) → f.told files name ≡ Some text → bytes ≡ take (length bytes) (drop at text)) → (length bytes < 4_096 → (text : List ℕ) → f.told files name ≡ Some text → length (drop at text) ≤ length bytes) → IsNextPiece f name files at p after
next-piece f name files at after p bytes is end goes small front ended = (
  goes ∙ ap (λ b. at + length b) (sym is),
  subst (λ b. length b ≤ 4_096) (sym is) small,
  λ text told. record {
    bytes_are = is ∙ piece-whole text bytes at small (front text told) (λ few. ended few text told);
    end_is = end ∙ ap (λ b. nat_lt (length b) 4_096) (sym is);
  },
)
