-- What only bad bytes are, thing by thing.
use Rattle.std.proofs.Common.{◌≡◌, ℕ, ◌-◌, ◌≤◌, ◌<◌, take, Bool, true, false, ◌||◌, ◌↔◌, IsTrue, List, [], ◌∷◌, ◌++◌, length, drop, refl, ap, arith, sym, ◌∙◌, subst}
use Rattle.std.proofs.Common.{length-drop}
use Rattle.std.proofs.Math.Seq.{take-length}
use Rattle.arrayvec.specs.ArrayVec.{ArrayVec}
use Rattle.block_frame.specs.declared.Found.{Found}
use Rattle.block_frame.specs.declared.Found.TheVariants.{Block, Skip, NeedMore, Bad}
use Rattle.block_frame.specs.Scan.{IsSkip}
use Rattle.block_frame.specs.Scanned.{Drops, Scans}
use Rattle.block_frame.specs.Stream.{Reads, block_in, blocks_in}
use Rattle.block_frame.specs.Spoils.{IsOnlyBad, is_bad, some_bad}
use Rattle.block_frame.proofs.Pieces.{scan_once}

nothing_joined : {A : Type 0} (xs ys : List A) → xs ++ ys ≡ [] → (xs ≡ []) × (ys ≡ [])
nothing_joined [] ys e = (refl, e)
nothing_joined (x ∷ xs) ys e = cc

or_joined : (a b c : Bool) → (a || (b || c)) ≡ true → ((a || b) || c) ≡ true
or_joined true b c e = refl
or_joined false b c e = e

or_split : (a b c : Bool) → ((a || b) || c) ≡ true → (a || (b || c)) ≡ true
or_split true b c e = refl
or_split false b c e = e

or_false : (a : Bool) → (a || false) ≡ true → a ≡ true
or_false true e = refl
or_false false e = e

pub needs_none : (d : Bool) (bytes : List ℕ) (m : ℕ) (next : Bool) → Scans d bytes NeedMore m next → m ≡ 0
needs_none true bytes m next s = s.1
needs_none false bytes m next s = s.1

-- something that is skipped or bad has bytes
pub drops_some : (bytes : List ℕ) (m : ℕ) (next : Bool) → 0 < length bytes → Drops bytes m next → (0 < m) × (m ≤ length bytes)
drops_some bytes m true some (none, all) = (omega (arith, all, some), omega (arith, all))
drops_some bytes m false some end = (end.some, end.within)

skip_some : (bytes : List ℕ) → IsSkip bytes → 1 ≤ length bytes
skip_some [] s = absurd s
skip_some (b ∷ bytes) s = omega arith

pub skip_takes : (d : Bool) (bytes : List ℕ) (m : ℕ) (next : Bool) → Scans d bytes Skip m next → (0 < m) × (m ≤ length bytes)
skip_takes true bytes m next s = absurd s
skip_takes false bytes m next (skip, one, same) = let some = skip_some bytes skip in (omega (arith, one), omega (arith, one, some))

pub bad_takes : (d : Bool) (bytes : List ℕ) (m : ℕ) (next : Bool) → Scans d bytes Bad m next → (0 < m) × (m ≤ length bytes)
bad_takes true bytes m next (some, dropped) = drops_some bytes m next some dropped
bad_takes false [] m next (bad, dropped) = absurd (bad.decided tt)
bad_takes false (b ∷ bytes) m next (bad, dropped) = drops_some (b ∷ bytes) m next (omega arith) dropped

-- where something stands first that takes bytes, only bad bytes go on behind it
later : (d : Bool) (bytes : List ℕ) (before : Bool) (f : Found) (m : ℕ) (next : Bool) (found : List Found) (left : List ℕ) (drops : Bool) → Scans d bytes f m next → 0 < m
    → Reads d bytes found left drops → blocks_in found ≡ [] → (before || some_bad found) ≡ true → (block_in f ≡ []) × IsOnlyBad next (drop m bytes) (before || is_bad f)
later d bytes before f m next [] left drops s some r none bad =
    let e = scan_once d bytes NeedMore f 0 m drops next r.0 s in absurd (omega (arith, e.1, some))
later d bytes before f m next (g ∷ gs) left drops s some (n, v, any, t, rest) none bad =
    let e = scan_once d bytes g f n m v next t s in
    let parts = nothing_joined (block_in g) (blocks_in gs) none in
    let one = subst (λ (k : ℕ). Reads v (drop k bytes) gs left drops) e.1 rest in
    let is : (before || (is_bad f || some_bad gs)) ≡ true = ap (λ b. before || (b || some_bad gs)) (sym e.3) ∙ bad in (
      sym e.0 ∙ parts.0,
      record {
        found = gs;
        left = left;
        drops = drops;
        reads = subst (λ (b : Bool). Reads b (drop m bytes) gs left drops) e.2 one;
        no_block = parts.1;
        is_bad = or_joined before (is_bad f) (some_bad gs) is;
      },
    )

pub only_later : (d : Bool) (bytes : List ℕ) (before : Bool) (f : Found) (m : ℕ) (next : Bool) → Scans d bytes f m next → 0 < m → IsOnlyBad d bytes before
    → (block_in f ≡ []) × IsOnlyBad next (drop m bytes) (before || is_bad f)
only_later d bytes before f m next s some o = later d bytes before f m next o.found o.left o.drops s some o.reads o.no_block o.is_bad

pub only_before : (d : Bool) (bytes : List ℕ) (before : Bool) (f : Found) (m : ℕ) (next : Bool) → Scans d bytes f m next → 0 < m → block_in f ≡ []
    → IsOnlyBad next (drop m bytes) (before || is_bad f) → IsOnlyBad d bytes before
only_before d bytes before f m next s some none o = record {
  found = f ∷ o.found;
  left = o.left;
  drops = o.drops;
  reads = (m, next, some, s, o.reads);
  no_block = ap (λ x. x ++ blocks_in o.found) none ∙ o.no_block;
  is_bad = or_split before (is_bad f) (some_bad o.found) o.is_bad;
}

waited : (d : Bool) (bytes : List ℕ) (before : Bool) (m : ℕ) (next : Bool) (found : List Found) (left : List ℕ) (drops : Bool) → Scans d bytes NeedMore m next
    → Reads d bytes found left drops → (before || some_bad found) ≡ true → before ≡ true
waited d bytes before m next [] left drops s r bad = or_false before bad
waited d bytes before m next (g ∷ gs) left drops s (n, v, any, t, rest) bad =
    let e = scan_once d bytes g NeedMore n m v next t s in absurd (omega (arith, e.1, any, needs_none d bytes m next s))

pub only_waits : (d : Bool) (bytes : List ℕ) (before : Bool) (m : ℕ) (next : Bool) → Scans d bytes NeedMore m next → IsOnlyBad d bytes before → before ≡ true
only_waits d bytes before m next s o = waited d bytes before m next o.found o.left o.drops s o.reads o.is_bad

pub waits_only : (d : Bool) (bytes : List ℕ) (before : Bool) (m : ℕ) (next : Bool) → Scans d bytes NeedMore m next → before ≡ true → IsOnlyBad d bytes before
waits_only d bytes true m next s e = record {
  found = [];
  left = bytes;
  drops = next;
  reads = (subst (λ (k : ℕ). Scans d bytes NeedMore k next) (needs_none d bytes m next s) s, refl);
  no_block = refl;
  is_bad = refl;
}
waits_only d bytes false m next s e = cc

-- what is told of the bytes, by what stands first in them
abbrev pub Told : Bool → Bool → List ℕ → Bool → Type 0
Told told d bytes before = IsTrue told ↔ IsOnlyBad d bytes before

or_none : (a : Bool) → (a || false) ≡ a
or_none true = refl
or_none false = refl

or_some : (a : Bool) → (a || true) ≡ true
or_some true = refl
or_some false = refl

block_takes : (d : Bool) (bytes : List ℕ) (number : ℕ) (content : ArrayVec ℕ) (m : ℕ) (next : Bool) → Scans d bytes (Block number content) m next → 0 < m
block_takes true bytes number content m next s = absurd s
block_takes false bytes number content m next (is, size, same) = omega (arith, size)

pub at_block : (d : Bool) (bytes : List ℕ) (before : Bool) (number : ℕ) (content : ArrayVec ℕ) (m : ℕ) (next : Bool) → Scans d bytes (Block number content) m next → Told false d bytes before
at_block d bytes before number content m next s =
    (λ h. cc, λ o. let e = (only_later d bytes before (Block number content) m next s (block_takes d bytes number content m next s) o).0 in cc)

pub at_end : (d : Bool) (bytes : List ℕ) (before : Bool) (m : ℕ) (next : Bool) → Scans d bytes NeedMore m next → Told before d bytes before
at_end d bytes before m next s = (λ h. waits_only d bytes before m next s h, λ o. only_waits d bytes before m next s o)

at_other : (d : Bool) (bytes : List ℕ) (before after : Bool) (f : Found) (m : ℕ) (next told : Bool) → Scans d bytes f m next → 0 < m → block_in f ≡ [] → (before || is_bad f) ≡ after
    → Told told next (drop m bytes) after → Told told d bytes before
at_other d bytes before after f m next told s some none same t =
    let P : Bool → Type 0 = λ (b : Bool). IsOnlyBad next (drop m bytes) b in
    (λ h. only_before d bytes before f m next s some none (subst P (sym same) (t.0 h)), λ o. t.1 (subst P same (only_later d bytes before f m next s some o).1))

-- the bytes behind so many
abbrev behind : ℕ → List ℕ → List ℕ
behind m bytes = take (length bytes - m) (drop m bytes)

all_behind : (m : ℕ) (bytes : List ℕ) → behind m bytes ≡ drop m bytes
all_behind m bytes = ap (λ k. take k (drop m bytes)) (sym (length-drop m bytes)) ∙ take-length (drop m bytes)

pub at_skip : (d : Bool) (bytes : List ℕ) (before : Bool) (m : ℕ) (next told : Bool) → Scans d bytes Skip m next → Told told next (drop m bytes) before → Told told d bytes before
at_skip d bytes before m next told s t = at_other d bytes before before Skip m next told s (skip_takes d bytes m next s).0 refl (or_none before) t

pub at_bad : (d : Bool) (bytes : List ℕ) (before : Bool) (m : ℕ) (next told : Bool) → Scans d bytes Bad m next → Told told next (drop m bytes) true → Told told d bytes before
at_bad d bytes before m next told s t = at_other d bytes before true Bad m next told s (bad_takes d bytes m next s).0 refl (or_some before) t

pub behind_skip : (d : Bool) (bytes : List ℕ) (before : Bool) (m : ℕ) (next told : Bool) → Scans d bytes Skip m next → Told told next (behind m bytes) before → Told told d bytes before
behind_skip d bytes before m next told s t = at_skip d bytes before m next told s (subst (λ (x : List ℕ). Told told next x before) (all_behind m bytes) t)

pub behind_bad : (d : Bool) (bytes : List ℕ) (before : Bool) (m : ℕ) (next told : Bool) → Scans d bytes Bad m next → Told told next (behind m bytes) true → Told told d bytes before
behind_bad d bytes before m next told s t = at_bad d bytes before m next told s (subst (λ (x : List ℕ). Told told next x true) (all_behind m bytes) t)
