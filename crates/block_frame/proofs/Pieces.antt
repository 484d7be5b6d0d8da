-- A stream that comes in pieces has the blocks that it has as a whole.
use Rattle.std.proofs.Common.{◌≡◌, ℕ, ◌+◌, ◌-◌, ◌≤◌, ◌<◌, ◌⊎◌, Bool, true, false, List, [], ◌∷◌, ◌++◌, length, take, drop, refl, ap, arith, sym, ◌∙◌, length-append, append_assoc, append-nil, inl, inr, subst}
use Rattle.std.proofs.lemmas.List.{get_or-append-add}
use Rattle.std.proofs.lemmas.Bool.{cases_order, cases_lt}
use Rattle.std.proofs.Math.Seq.{drop-append-le, drop-append-add, get_or-append_right, drop-length, take-append_seam, take-append-le}
use Rattle.std.proofs.Math.ListN.{get_or-append, take-append-drop}
use Rattle.block_frame.specs.declared.Found.{Found}
use Rattle.block_frame.specs.declared.Found.TheVariants.{Block, Skip, NeedMore, Bad}
use Rattle.block_frame.specs.Block.{checksum, covered, ending, block_text}
use Rattle.block_frame.specs.Scan.{IsBlock, HasBlock, IsSkip, IsUndecided, IsBad, ToEnd, NoEnd}
use Rattle.block_frame.specs.Scanned.{Drops, Finds, FindsDropping, Scans}
use Rattle.block_frame.specs.Stream.{Reads, block_in, blocks_in}
use Rattle.block_frame.specs.Spoils.{is_bad}
use Rattle.block_frame.proofs.Whole.{block_reads}

-- a byte that ends a block is found once
drops_once : (bytes : List ℕ) (m n : ℕ) (p q : Bool) → Drops bytes m p → Drops bytes n q → (m ≡ n) × (p ≡ q)
drops_once bytes m n true true s t = (s.1 ∙ sym t.1, refl)
drops_once bytes m n true false s t = absurd (s.0 (n - 1) (omega (arith, t.some, t.within)) t.ends)
drops_once bytes m n false true s t = absurd (t.0 (m - 1) (omega (arith, s.some, s.within)) s.ends)
drops_once bytes m n false false s t =
    elim (cases_order m n) [
      | inl same ↦ (same, refl)
      | inr other ↦
          elim other [
            | inl less ↦ absurd (t.first (m - 1) (omega (arith, s.some, less)) s.ends)
            | inr more ↦ absurd (s.first (n - 1) (omega (arith, t.some, more)) t.ends)
          ]
    ]

same_block : (m n : ℕ) (c d x y : List ℕ) → block_text m c ++ x ≡ block_text n d ++ y → (m ≡ n) × (c ≡ d)
same_block m n c d x y e =
    let one : length c + 5 ≡ length d + 5 = cc in
    let two : 16 + m ≡ 16 + n = cc in
    let tail : (c ++ ending (checksum (covered m c))) ++ x ≡ (d ++ ending (checksum (covered n d))) ++ y = cc in
    let left = block_reads c ((c ++ ending (checksum (covered m c))) ++ x) x (checksum (covered m c)) refl in
    let right = block_reads d ((c ++ ending (checksum (covered m c))) ++ x) y (checksum (covered n d)) tail in
    let size : length c ≡ length d = omega arith in
    (omega arith, sym left.0 ∙ ap (λ k. take k ((c ++ ending (checksum (covered m c))) ++ x)) size ∙ right.0)

block_once : (bytes : List ℕ) (m n : ℕ) (c d : List ℕ) → IsBlock m c bytes → IsBlock n d bytes → (m ≡ n) × (c ≡ d)
block_once bytes m n c d s t = same_block m n c d s.after.0 t.after.0 (sym s.after.1 ∙ t.after.1)

pub no_skip_there : (bytes : List ℕ) (n : ℕ) (c : List ℕ) → IsBlock n c bytes → IsSkip bytes → ⊥
no_skip_there [] n c b s = s
no_skip_there (l ∷ bytes) n c b s = let e = b.after.1 in let first : l ≡ length c + 5 = cc in omega (arith, b.fits, first)

pub block_length : (bytes : List ℕ) (n : ℕ) (c : List ℕ) → IsBlock n c bytes → length c + 5 ≤ length bytes
block_length bytes n c b =
    let e = simp length-append at (ap length b.after.1) in
    omega (arith, e)

pub decided_there : (bytes : List ℕ) (n : ℕ) (c : List ℕ) → IsBlock n c bytes → IsUndecided bytes → ⊥
decided_there [] n c b u = let e = b.after.1 in cc
decided_there (l ∷ []) n c b u = let size = block_length (l ∷ []) n c b in omega arith
decided_there (l ∷ s ∷ bytes) n c b u =
    let e = b.after.1 in
    let first : l ≡ length c + 5 = cc in
    let size = block_length (l ∷ s ∷ bytes) n c b in
    omega (arith, first, size, u.3)

pub skip_decides : (bytes : List ℕ) → IsSkip bytes → IsUndecided bytes → ⊥
skip_decides [] s u = s
skip_decides (l ∷ []) s u = omega (arith, s, u.1)
skip_decides (l ∷ b ∷ bytes) s u = omega (arith, s, u.1)

abbrev pub SameThing : Found → Found → ℕ → ℕ → Bool → Bool → Type 0
SameThing f g m n p q = (block_in f ≡ block_in g) × (m ≡ n) × (p ≡ q) × (is_bad f ≡ is_bad g)

finds_once : (bytes : List ℕ) (f g : Found) (m n : ℕ) (p q : Bool) → Finds bytes f m p → Finds bytes g n q → SameThing f g m n p q
finds_once bytes (Block k c) (Block l d) m n p q s t =
    let e = block_once bytes k l c.items d.items s.0 t.0 in
    let size : length c.items ≡ length d.items = ap length e.1 in
    (ap (λ (i : ℕ). (i, c.items) ∷ []) e.0 ∙ ap (λ (x : List ℕ). (l, x) ∷ []) e.1, omega (arith, s.1, t.1, size), s.2 ∙ sym t.2, refl)
finds_once bytes (Block k c) Skip m n p q s t = absurd (no_skip_there bytes k c.items s.0 t.0)
finds_once bytes (Block k c) NeedMore m n p q s t = absurd (decided_there bytes k c.items s.0 t.0)
finds_once bytes (Block k c) Bad m n p q s t = absurd (t.0.no_block (k, c.items, s.0))
finds_once bytes Skip (Block l d) m n p q s t = absurd (no_skip_there bytes l d.items t.0 s.0)
finds_once bytes Skip Skip m n p q s t = (refl, s.1 ∙ sym t.1, s.2 ∙ sym t.2, refl)
finds_once bytes Skip NeedMore m n p q s t = absurd (skip_decides bytes s.0 t.0)
finds_once bytes Skip Bad m n p q s t = absurd (t.0.no_skip s.0)
finds_once bytes NeedMore (Block l d) m n p q s t = absurd (decided_there bytes l d.items t.0 s.0)
finds_once bytes NeedMore Skip m n p q s t = absurd (skip_decides bytes t.0 s.0)
finds_once bytes NeedMore NeedMore m n p q s t = (refl, s.1 ∙ sym t.1, s.2 ∙ sym t.2, refl)
finds_once bytes NeedMore Bad m n p q s t = absurd (t.0.decided s.0)
finds_once bytes Bad (Block l d) m n p q s t = absurd (s.0.no_block (l, d.items, t.0))
finds_once bytes Bad Skip m n p q s t = absurd (s.0.no_skip t.0)
finds_once bytes Bad NeedMore m n p q s t = absurd (s.0.decided t.0)
finds_once bytes Bad Bad m n p q s t = let e = drops_once bytes m n p q s.1 t.1 in (refl, e.0, e.1, refl)

pub none_in : (bytes : List ℕ) → bytes ≡ [] → 0 < length bytes → ⊥
none_in bytes e h = let none : length bytes ≡ 0 = ap length e in omega arith

dropping_once : (bytes : List ℕ) (f g : Found) (m n : ℕ) (p q : Bool) → FindsDropping bytes f m p → FindsDropping bytes g n q → SameThing f g m n p q
dropping_once bytes (Block k c) g m n p q s t = absurd s
dropping_once bytes Skip g m n p q s t = absurd s
dropping_once bytes NeedMore (Block l d) m n p q s t = absurd t
dropping_once bytes NeedMore Skip m n p q s t = absurd t
dropping_once bytes NeedMore NeedMore m n p q s t = (refl, s.1 ∙ sym t.1, s.2 ∙ sym t.2, refl)
dropping_once bytes NeedMore Bad m n p q s t = absurd (none_in bytes s.0 t.0)
dropping_once bytes Bad (Block l d) m n p q s t = absurd t
dropping_once bytes Bad Skip m n p q s t = absurd t
dropping_once bytes Bad NeedMore m n p q s t = absurd (none_in bytes t.0 s.0)
dropping_once bytes Bad Bad m n p q s t = let e = drops_once bytes m n p q s.1 t.1 in (refl, e.0, e.1, refl)

-- what stands first is one thing
pub scan_once : (d : Bool) (bytes : List ℕ) (f g : Found) (m n : ℕ) (p q : Bool) → Scans d bytes f m p → Scans d bytes g n q → SameThing f g m n p q
scan_once false bytes f g m n p q s t = finds_once bytes f g m n p q s t
scan_once true bytes f g m n p q s t = dropping_once bytes f g m n p q s t

abbrev pub SameRead : List Found → List Found → List ℕ → List ℕ → Bool → Bool → Type 0
SameRead fs gs l k p q = (blocks_in fs ≡ blocks_in gs) × (l ≡ k) × (p ≡ q)

-- the same bytes and the same state lead on alike
carried : (bytes left : List ℕ) (m n : ℕ) (p q e : Bool) (fs : List Found) → m ≡ n → p ≡ q → Reads p (drop m bytes) fs left e → Reads q (drop n bytes) fs left e
carried bytes left m n p q e fs same alike r =
    let one = subst (λ (k : ℕ). Reads p (drop k bytes) fs left e) same r in
    subst (λ (b : Bool). Reads b (drop n bytes) fs left e) alike one

-- a stream is read in one way
pub reads_once : (d : Bool) (bytes : List ℕ) (fs gs : List Found) (l k : List ℕ) (p q : Bool) → Reads d bytes fs l p → Reads d bytes gs k q → SameRead fs gs l k p q
reads_once d bytes [] [] l k p q r s = let e = scan_once d bytes NeedMore NeedMore 0 0 p q r.0 s.0 in (refl, r.1 ∙ sym s.1, e.2)
reads_once d bytes [] (g ∷ gs) l k p q r (n, v, some, s, rest) =
    let e = scan_once d bytes NeedMore g 0 n p v r.0 s in absurd (omega (arith, e.1, some))
reads_once d bytes (f ∷ fs) [] l k p q (m, u, some, s, rest) r =
    let e = scan_once d bytes NeedMore f 0 m q u r.0 s in absurd (omega (arith, e.1, some))
reads_once d bytes (f ∷ fs) (g ∷ gs) l k p q (m, u, some, s, more) (n, v, any, t, rest) =
    let e = scan_once d bytes f g m n u v s t in
    let r = reads_once v (drop n bytes) fs gs l k p q (carried bytes l m n u v p fs e.1 e.2 more) rest in
    (ap (λ x. x ++ blocks_in fs) e.0 ∙ ap (λ x. block_in g ++ x) r.0, r.1, r.2)

-- behind what stands first the rest is read
abbrev pub Onward : Bool → List ℕ → Found → ℕ → List Found → List ℕ → Bool → Type 0
Onward next bytes f m fs left drops = (gs : List Found) × (blocks_in fs ≡ block_in f ++ blocks_in gs) × Reads next (drop m bytes) gs left drops

pub onward : (d : Bool) (bytes : List ℕ) (fs : List Found) (left : List ℕ) (drops : Bool) (f : Found) (m : ℕ) (next : Bool) → Reads d bytes fs left drops
    → Scans d bytes f m next → 0 < m → Onward next bytes f m fs left drops
onward d bytes [] left drops f m next r s some =
    let e = scan_once d bytes NeedMore f 0 m drops next r.0 s in absurd (omega (arith, e.1, some))
onward d bytes (g ∷ gs) left drops f m next (n, v, any, t, rest) s some =
    let e = scan_once d bytes g f n m v next t s in
    (gs, ap (λ x. x ++ blocks_in gs) e.0, carried bytes left n m v next drops gs e.1 e.2 rest)

-- more bytes behind these
longer_block : (a b : List ℕ) (n : ℕ) (c : List ℕ) → IsBlock n c a → IsBlock n c (a ++ b)
longer_block a b n c s = record {
  small = s.small;
  fits = s.fits;
  after = (s.after.0 ++ b, ap (λ x. x ++ b) s.after.1 ∙ append_assoc (block_text n c) s.after.0 b);
}

longer_skip : (a b : List ℕ) → IsSkip a → IsSkip (a ++ b)
longer_skip [] b s = absurd s
longer_skip (x ∷ a) b s = s

skip_before : (a b : List ℕ) → 0 < length a → IsSkip (a ++ b) → IsSkip a
skip_before [] b h s = absurd (omega arith)
skip_before (x ∷ a) b h s = s

undecided_before : (a b : List ℕ) → IsUndecided (a ++ b) → IsUndecided a
undecided_before [] b u = tt
undecided_before (x ∷ []) [] u = u
undecided_before (x ∷ []) (y ∷ b) u = (u.0, u.1)
undecided_before (x ∷ y ∷ a) b u = (u.0, u.1, u.2, omega (arith, u.3, length-append a b))

-- a beginning of a block is undecided, or has the whole block
block_before : (a b : List ℕ) (n : ℕ) (c : List ℕ) → IsBlock n c (a ++ b) → HasBlock a ⊎ IsUndecided a
block_before [] b n c s = inr tt
block_before (x ∷ []) b n c s =
    let e = s.after.1 in let first : x ≡ length c + 5 = cc in inr (omega (arith, first), omega (arith, first, s.fits))
block_before (x ∷ y ∷ a) b n c s =
    let e = s.after.1 in
    let first : x ≡ length c + 5 = cc in
    let second : y ≡ 16 + n = cc in
    elim (cases_lt (length a + 2) x) [
      | inl short ↦ inr (omega (arith, first), omega (arith, first, s.fits), omega (arith, second, s.small), omega (arith, short))
      | inr long ↦ inl (n, c, cut_block (x ∷ y ∷ a) b n c s (omega (arith, long, first)))
    ]
  where
    cut_block : (a b : List ℕ) (n : ℕ) (c : List ℕ) → IsBlock n c (a ++ b) → length c + 5 ≤ length a → IsBlock n c a
    cut_block a b n c s h =
        let size : length (block_text n c) ≡ length c + 5 = simp length-append (omega arith) in
        let e : a ++ b ≡ block_text n c ++ s.after.0 = s.after.1 in
        let fits : length (block_text n c) ≤ length a = omega arith in
        let whole : block_text n c ≡ take (length (block_text n c)) a =
        sym (take-append_seam (block_text n c) s.after.0) ∙ ap (take (length (block_text n c))) (sym e) ∙ take-append-le (length (block_text n c)) a b fits in
        record { small = s.small; fits = s.fits; after = (drop (length (block_text n c)) a, sym (take-append-drop (length (block_text n c)) a) ∙ ap (λ x. x ++ drop (length (block_text n c)) a) (sym whole)) }

longer_bad : (a b : List ℕ) → IsBad a → 0 < length a → IsBad (a ++ b)
longer_bad a b s h = record {
  no_block = λ (n, c, t). elim (block_before a b n c t) [ inl has ↦ s.no_block has | inr few ↦ s.decided few ];
  no_skip = λ t. s.no_skip (skip_before a b h t);
  decided = λ u. s.decided (undecided_before a b u);
}

pub bad_some : (a : List ℕ) → IsBad a → 0 < length a
bad_some [] s = absurd (s.decided tt)
bad_some (x ∷ a) s = omega arith

longer_end : (a b : List ℕ) (m : ℕ) → ToEnd a m → ToEnd (a ++ b) m
longer_end a b m s = record {
  some = s.some;
  within = omega (arith, s.within, length-append a b);
  ends = get_or-append a b 0 (m - 1) (omega (arith, s.some, s.within)) ∙ s.ends;
  first = λ k h e. s.first k h (sym (get_or-append a b 0 k (omega (arith, h, s.within))) ∙ e);
}

no_end_both : (a b : List ℕ) → NoEnd a → NoEnd b → NoEnd (a ++ b)
no_end_both a b s t k h e =
    elim (cases_lt k (length a)) [
      | inl low ↦ s k low (sym (get_or-append a b 0 k low) ∙ e)
      | inr high ↦ t (k - length a) (omega (arith, h, high, length-append a b)) (sym (get_or-append_right a b k 0 high) ∙ e)
    ]

end_behind : (a b : List ℕ) (m : ℕ) → NoEnd a → ToEnd b m → ToEnd (a ++ b) (length a + m)
end_behind a b m s t =
    let place : length a + m - 1 ≡ length a + (m - 1) = omega (arith, t.some) in
    record {
      some = omega (arith, t.some);
      within = omega (arith, t.within, length-append a b);
      ends = rw place (get_or-append-add a b (m - 1) 0) ∙ t.ends;
      first =
          λ k h e.
          elim (cases_lt k (length a)) [
            | inl low ↦ s k low (sym (get_or-append a b 0 k low) ∙ e)
            | inr high ↦ t.first (k - length a) (omega (arith, h, high)) (sym (get_or-append_right a b k 0 high) ∙ e)
          ];
    }

pub drops_behind : (a b : List ℕ) (m : ℕ) (p : Bool) → NoEnd a → Drops b m p → Drops (a ++ b) (length a + m) p
drops_behind a b m true s t = (no_end_both a b s t.0, omega (arith, t.1, length-append a b))
drops_behind a b m false s t = end_behind a b m s t

-- a scanner that is in the bytes a, of which none ends a block, and drops: what it finds with b behind
abbrev pub DropsIn : Bool → List ℕ → Type 0
DropsIn d a = (b : List ℕ) (m : ℕ) (p : Bool) → Drops (a ++ b) m p → Scans d (a ++ b) Bad m p

-- behind what stands first, b changes nothing; or all of a is dropped, and the scanner goes on dropping
abbrev pub Kept : Bool → List ℕ → List ℕ → Found → ℕ → Bool → Type 0
Kept d a b f m next = (Scans d (a ++ b) f m next × (m ≤ length a)) ⊎ ((next ≡ true) × (m ≡ length a) × (0 < length a) × NoEnd a × (block_in f ≡ []) × DropsIn d a)

bad_drops_in : (a : List ℕ) → IsBad a → DropsIn false a
bad_drops_in a s b m p t = (longer_bad a b s (bad_some a s), t)

dropping_in : (a : List ℕ) → 0 < length a → DropsIn true a
dropping_in a h b m p t = (omega (arith, h, length-append a b), t)

pub longer : (d : Bool) (a b : List ℕ) (f : Found) (m : ℕ) (next : Bool) → Scans d a f m next → 0 < m → Kept d a b f m next
longer false a b (Block n c) m next s some =
    inl ((longer_block a b n c.items s.0, s.1, s.2), omega (arith, s.1, block_length a n c.items s.0))
longer false [] b Skip m next s some = absurd s.0
longer false (x ∷ a) b Skip m next s some = inl ((s.0, s.1, s.2), omega (arith, s.1))
longer false a b NeedMore m next s some = absurd (omega (arith, s.1))
longer false a b Bad m true s some = inr (refl, s.1.1, bad_some a s.0, s.1.0, refl, bad_drops_in a s.0)
longer false a b Bad m false s some = inl ((longer_bad a b s.0 (bad_some a s.0), longer_end a b m s.1), s.1.within)
longer true a b (Block n c) m next s some = absurd s
longer true a b Skip m next s some = absurd s
longer true a b NeedMore m next s some = absurd (omega (arith, s.1))
longer true a b Bad m true s some = inr (refl, s.1.1, s.0, s.1.0, refl, dropping_in a s.0)
longer true a b Bad m false s some = inl ((omega (arith, s.0, length-append a b), longer_end a b m s.1), s.1.within)

pub stays : (d : Bool) (bytes : List ℕ) (drops : Bool) → Scans d bytes NeedMore 0 drops → drops ≡ d
stays false bytes drops s = s.2
stays true bytes drops s = s.2

-- with no byte a scanner that drops waits
pub waits : (fs : List Found) (left : List ℕ) (drops : Bool) → Reads true [] fs left drops → (blocks_in fs ≡ []) × (left ≡ []) × (drops ≡ true)
waits [] left drops r = (refl, r.1, r.0.2)
waits (Block n c ∷ fs) left drops (m, u, some, s, rest) = absurd s
waits (Skip ∷ fs) left drops (m, u, some, s, rest) = absurd s
waits (NeedMore ∷ fs) left drops (m, u, some, s, rest) = absurd (omega (arith, s.1))
waits (Bad ∷ fs) left drops (m, u, some, s, rest) = absurd (omega (arith, s.0))

-- all of a is dropped, and then b is read
dropped_all : (d : Bool) (a b : List ℕ) (fs gs : List Found) (left k : List ℕ) (p q : Bool) → 0 < length a → NoEnd a → DropsIn d a
    → Reads d (a ++ b) fs left p → Reads true b gs k q → SameRead fs gs left k p q
dropped_all d a b fs [] left k p q some none inside r s =
    let empty : b ≡ [] = s.0.0 in
    let whole : a ++ b ≡ a = ap (λ x. a ++ x) empty ∙ append-nil a in
    let all : length a ≡ length (a ++ b) = sym (ap length whole) in
    let here : Scans d (a ++ b) Bad (length a) true = inside b (length a) true (rw whole (none, refl)) in
    let on = onward d (a ++ b) fs left p Bad (length a) true r here some in
    let rest : drop (length a) (a ++ b) ≡ [] = ap (drop (length a)) whole ∙ drop-length a in
    let end = waits on.0 left p (subst (λ (x : List ℕ). Reads true x on.0 left p) rest on.2) in
    (on.1 ∙ end.0, end.1 ∙ sym (s.1 ∙ empty), end.2 ∙ sym s.0.2)
dropped_all d a b fs (Block n c ∷ gs) left k p q some none inside r (m, u, any, s, rest) = absurd s
dropped_all d a b fs (Skip ∷ gs) left k p q some none inside r (m, u, any, s, rest) = absurd s
dropped_all d a b fs (NeedMore ∷ gs) left k p q some none inside r (m, u, any, s, rest) = absurd (omega (arith, s.1, any))
dropped_all d a b fs (Bad ∷ gs) left k p q some none inside r (m, u, any, s, rest) =
    let here : Scans d (a ++ b) Bad (length a + m) u = inside b (length a + m) u (drops_behind a b m u none s.1) in
    let on = onward d (a ++ b) fs left p Bad (length a + m) u r here (omega (arith, some)) in
    let same : drop (length a + m) (a ++ b) ≡ drop m b = drop-append-add a b m in
    let end = reads_once u (drop m b) on.0 gs left k p q (subst (λ (x : List ℕ). Reads u x on.0 left p) same on.2) rest in
    (on.1 ∙ end.0, end.1, end.2)

-- a stream whole, and its two pieces, of which the second comes behind what the first one left
pub pieces : (d : Bool) (a b : List ℕ) (fs one two : List Found) (left left1 left2 : List ℕ) (p p1 p2 : Bool) → Reads d (a ++ b) fs left p → Reads d a one left1 p1
    → Reads p1 (left1 ++ b) two left2 p2 → (blocks_in fs ≡ blocks_in one ++ blocks_in two) × (left ≡ left2) × (p ≡ p2)
pieces d a b fs [] two left left1 left2 p p1 p2 r s t =
    let same : p1 ≡ d = stays d a p1 s.0 in
    let u = subst (λ (x : Bool). Reads x (left1 ++ b) two left2 p2) same t in
    let v = subst (λ (x : List ℕ). Reads d (x ++ b) two left2 p2) s.1 u in
    reads_once d (a ++ b) fs two left left2 p p2 r v
pieces d a b fs (f ∷ one) two left left1 left2 p p1 p2 r (m, next, some, s, rest) t =
    elim (longer d a b f m next s some) [
      | inl kept ↦
          let on = onward d (a ++ b) fs left p f m next r kept.0 some in
          let same : drop m (a ++ b) ≡ drop m a ++ b = drop-append-le m a b kept.1 in
          let end = pieces next (drop m a) b on.0 one two left left1 left2 p p1 p2 (subst (λ (x : List ℕ). Reads next x on.0 left p) same on.2) rest t in
          (on.1 ∙ ap (λ x. block_in f ++ x) end.0 ∙ sym (append_assoc (block_in f) (blocks_in one) (blocks_in two)), end.1, end.2)
      | inr all ↦
          let empty : drop m a ≡ [] = ap (λ k. drop k a) all.1 ∙ drop-length a in
          let after = waits one left1 p1 (subst (λ (x : Bool). Reads x [] one left1 p1) all.0 (subst (λ (x : List ℕ). Reads next x one left1 p1) empty rest)) in
          let u = subst (λ (x : Bool). Reads x (left1 ++ b) two left2 p2) after.2 t in
          let v = subst (λ (x : List ℕ). Reads true (x ++ b) two left2 p2) after.1 u in
          let end = dropped_all d a b fs two left left2 p p2 all.2 all.3 all.5 r v in
          (end.0 ∙ ap (λ x. x ++ blocks_in two) (sym after.0) ∙ ap (λ x. (x ++ blocks_in one) ++ blocks_in two) (sym all.4), end.1, end.2)
    ]
