-- A stream that comes in any pieces has the blocks that it has as a whole.
use Rattle.std.proofs.Common.{◌≡◌, ℕ, zero, suc, ◌+◌, ◌<◌, Bool, true, false, List, [], ◌∷◌, ◌++◌, length, drop, flat_map, refl, ap, arith, sym, ◌∙◌, append_assoc, append-nil, inl, inr, subst}
use Rattle.std.proofs.lemmas.Bool.{cases_eq}
use Rattle.std.proofs.Math.Seq.{drop-append-le, drop-append-add, drop-length}
use Rattle.block_frame.specs.declared.Found.{Found}
use Rattle.block_frame.specs.declared.Found.TheVariants.{Bad}
use Rattle.block_frame.specs.Scan.{NoEnd}
use Rattle.block_frame.specs.Scanned.{Drops, Scans}
use Rattle.block_frame.specs.Stream.{Reads, ReadsPieces, block_in, blocks_in}
use Rattle.block_frame.proofs.Pieces.{SameRead, DropsIn, reads_once, onward, longer, stays, waits, drops_behind, pieces}

-- in any bytes so many are dropped
drops_some : (b : List ℕ) → (m : ℕ) × (p : Bool) × Drops b m p
drops_some [] = (0, true, (λ k h e. omega (arith, h), refl))
drops_some (x ∷ b) =
    let later = drops_some b in
    elim (cases_eq x 126) [
      | inl ends ↦ (1, false, record { some = omega arith; within = omega arith; ends = ends; first = λ k h e. omega (arith, h) })
      | inr other ↦ (1 + later.0, later.1, drops_behind (x ∷ []) b later.0 later.1 (only x other) later.2)
    ]
  where
    only : (x : ℕ) → (x ≡ 126 → ⊥) → NoEnd (x ∷ [])
    only x other zero h e = other e
    only x other (suc k) h e = absurd (omega (arith, h))

drops_any : (b : List ℕ) (m : ℕ) (p : Bool) → Drops b m p → 0 < length b → 0 < m
drops_any b m true d h = omega (arith, d.1, h)
drops_any b m false d h = d.some

-- all of a is dropped, and what stands behind it is read
behind : (d : Bool) (a b : List ℕ) (fs : List Found) (left : List ℕ) (p : Bool) → 0 < length a → NoEnd a → DropsIn d a → Reads d (a ++ b) fs left p
    → (gs : List Found) × Reads true b gs left p
behind d a [] fs left p some none inside r =
    let here : Scans d (a ++ []) Bad (length a) true = inside [] (length a) true (rw (append-nil a) (none, refl)) in
    let on = onward d (a ++ []) fs left p Bad (length a) true r here some in
    let rest : drop (length a) (a ++ []) ≡ [] = ap (drop (length a)) (append-nil a) ∙ drop-length a in
    (on.0, subst (λ (x : List ℕ). Reads true x on.0 left p) rest on.2)
behind d a (x ∷ b) fs left p some none inside r =
    let end = drops_some (x ∷ b) in
    let any = drops_any (x ∷ b) end.0 end.1 end.2 (omega arith) in
    let here : Scans d (a ++ x ∷ b) Bad (length a + end.0) end.1 = inside (x ∷ b) (length a + end.0) end.1 (drops_behind a (x ∷ b) end.0 end.1 none end.2) in
    let on = onward d (a ++ x ∷ b) fs left p Bad (length a + end.0) end.1 r here (omega (arith, some)) in
    let rest : drop (length a + end.0) (a ++ x ∷ b) ≡ drop end.0 (x ∷ b) = drop-append-add a (x ∷ b) end.0 in
    (Bad ∷ on.0, (end.0, end.1, any, (omega arith, end.2), subst (λ (y : List ℕ). Reads end.1 y on.0 left p) rest on.2))

-- what a piece leaves, with the rest behind it, is read as well
second : (d : Bool) (a b : List ℕ) (fs one : List Found) (left left1 : List ℕ) (p p1 : Bool) → Reads d (a ++ b) fs left p → Reads d a one left1 p1
    → (two : List Found) × Reads p1 (left1 ++ b) two left p
second d a b fs [] left left1 p p1 r s =
    let u = subst (λ (x : Bool). Reads x (a ++ b) fs left p) (sym (stays d a p1 s.0)) r in
    (fs, subst (λ (x : List ℕ). Reads p1 (x ++ b) fs left p) (sym s.1) u)
second d a b fs (f ∷ one) left left1 p p1 r (m, next, some, s, rest) =
    elim (longer d a b f m next s some) [
      | inl kept ↦
          let on = onward d (a ++ b) fs left p f m next r kept.0 some in
          let same : drop m (a ++ b) ≡ drop m a ++ b = drop-append-le m a b kept.1 in
          second next (drop m a) b on.0 one left left1 p p1 (subst (λ (x : List ℕ). Reads next x on.0 left p) same on.2) rest
      | inr all ↦
          let empty : drop m a ≡ [] = ap (λ k. drop k a) all.1 ∙ drop-length a in
          let after = waits one left1 p1 (subst (λ (x : Bool). Reads x [] one left1 p1) all.0 (subst (λ (x : List ℕ). Reads next x one left1 p1) empty rest)) in
          let read = behind d a b fs left p all.2 all.3 all.5 r in
          let u = subst (λ (x : List ℕ). Reads true (x ++ b) read.0 left p) (sym after.1) read.1 in
          (read.0, subst (λ (x : Bool). Reads x (left1 ++ b) read.0 left p) (sym after.2) u)
    ]

-- in what is left nothing is found
left_over : (d : Bool) (bytes : List ℕ) (fs : List Found) (left : List ℕ) (p : Bool) → Reads d bytes fs left p → Reads p left [] left p
left_over d bytes [] left p r =
    let u = subst (λ (x : Bool). Reads x bytes [] bytes p) (sym (stays d bytes p r.0)) (r.0, refl) in
    subst (λ (x : List ℕ). Reads p x [] x p) (sym r.1) u
left_over d bytes (f ∷ fs) left p (m, next, some, s, rest) = left_over next (drop m bytes) fs left p rest

blocks_joined : (fs gs : List Found) → blocks_in (fs ++ gs) ≡ blocks_in fs ++ blocks_in gs
blocks_joined [] gs = refl
blocks_joined (f ∷ fs) gs = ap (λ x. block_in f ++ x) (blocks_joined fs gs) ∙ sym (append_assoc (block_in f) (blocks_in fs) (blocks_in gs))

abbrev joined : List (List ℕ) → List ℕ
joined ps = flat_map (λ piece. piece) ps

many : (d : Bool) (before : List ℕ) (ps : List (List ℕ)) (whole found : List Found) (left left1 : List ℕ) (p p1 : Bool) → Reads d before [] before d
    → Reads d (before ++ joined ps) whole left p → ReadsPieces d before ps found left1 p1 → SameRead whole found left left1 p p1
many d before [] whole found left left1 p p1 o r s =
    let all = reads_once d before whole [] left before p d (subst (λ (x : List ℕ). Reads d x whole left p) (append-nil before) r) o in
    (all.0 ∙ ap blocks_in (sym s.0), all.1 ∙ sym s.1, all.2 ∙ sym s.2)
many d before (a ∷ ps) whole found left left1 p p1 o r (first, rest, kept, next, same, s, more) =
    let w = subst (λ (x : List ℕ). Reads d x whole left p) (sym (append_assoc before a (joined ps))) r in
    let two = second d (before ++ a) (joined ps) whole first left kept p next w s in
    let split = pieces d (before ++ a) (joined ps) whole first two.0 left kept left p next p w s two.1 in
    let later = many next kept ps two.0 rest left left1 p p1 (left_over d (before ++ a) first kept next s) two.1 more in
    (split.0 ∙ ap (λ x. blocks_in first ++ x) later.0 ∙ sym (blocks_joined first rest) ∙ ap blocks_in (sym same), later.1, later.2)

pub all_pieces : (ps : List (List ℕ)) (whole found : List Found) (left left1 : List ℕ) (drops drops1 : Bool) → Reads false (joined ps) whole left drops
    → ReadsPieces false [] ps found left1 drops1 → (blocks_in whole ≡ blocks_in found) × (left ≡ left1) × (drops ≡ drops1)
all_pieces ps whole found left left1 drops drops1 r s = many false [] ps whole found left left1 drops drops1 ((tt, refl, refl), refl) r s
