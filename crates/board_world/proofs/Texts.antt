-- Lemmas on the bytes of blocks under way.
use Rattle.std.proofs.Common.{◌≡◌, ℕ, zero, suc, ◌+◌, ◌<◌, List, [], ◌∷◌, ◌++◌, length, drop, take, get_or, refl, ap, sym, ◌∙◌, arith, append_assoc}
use Rattle.std.proofs.lemmas.List.{take_more}
use Rattle.arrayvec.specs.ArrayVec.{ArrayVec}
use Rattle.board_world.specs.Stands.{texts}

pub length_texts : (bs : List (ArrayVec ℕ)) → length (texts bs) ≡ length bs
length_texts [] = refl
length_texts (b ∷ bs) = ap (λ n. suc n) (length_texts bs)

pub texts_drop : (n : ℕ) (bs : List (ArrayVec ℕ)) → texts (drop n bs) ≡ drop n (texts bs)
texts_drop zero bs = refl
texts_drop (suc n) [] = refl
texts_drop (suc n) (b ∷ bs) = texts_drop n bs

pub texts_push : (bs : List (ArrayVec ℕ)) (b : ArrayVec ℕ) → texts (bs ++ b ∷ []) ≡ texts bs ++ b.items ∷ []
texts_push [] b = refl
texts_push (c ∷ bs) b = ap (λ t. c.items ∷ t) (texts_push bs b)

pub none_left : (bs : List (ArrayVec ℕ)) → length bs ≡ 0 → texts bs ≡ []
none_left [] h = refl
none_left (b ∷ bs) h = absurd (omega arith)

pub head_of : (bs : List (ArrayVec ℕ)) (b : ArrayVec ℕ) → 0 < length bs → b ≡ get_or bs 0 b → texts bs ≡ b.items ∷ texts (drop 1 bs)
head_of [] b h e = absurd (omega arith)
head_of (c ∷ bs) b h e = ap (λ (x : ArrayVec ℕ). x.items ∷ texts bs) (sym e)

pub text_at_place : (bs : List (ArrayVec ℕ)) (i : ℕ) (b : ArrayVec ℕ) → i < length bs → b ≡ get_or bs i b → b.items ≡ get_or (texts bs) i []
text_at_place [] i b h e = absurd (omega arith)
text_at_place (c ∷ bs) zero b h e = ap (λ (x : ArrayVec ℕ). x.items) e
text_at_place (c ∷ bs) (suc i) b h e = text_at_place bs i b (omega arith) e

-- one block more
pub put_more : (bs : List (ArrayVec ℕ)) (i : ℕ) (b : ArrayVec ℕ) (first old new : List (List ℕ)) (text : List ℕ) → i < length bs → b ≡ get_or bs i b
    → old ≡ first ++ texts (take i bs) → text ≡ b.items → new ≡ old ++ text ∷ [] → new ≡ first ++ texts (take (i + 1) bs)
put_more bs i b first old new text h at before same put =
    let more : texts (take (i + 1) bs) ≡ texts (take i bs) ++ b.items ∷ [] =
    ap texts (take_more bs i b h ∙ ap (λ x. take i bs ++ x ∷ []) (sym at)) ∙ texts_push (take i bs) b in
    put ∙ ap (λ x. old ++ x ∷ []) same ∙ ap (λ x. x ++ b.items ∷ []) before ∙ append_assoc first (texts (take i bs)) (b.items ∷ []) ∙ ap (λ x. first ++ x) (sym more)
