-- Behind enough bytes that end a block a scanner stands where a block begins.
use Rattle.std.proofs.Common.{◌≡◌, ℕ, zero, suc, ◌+◌, ◌-◌, ◌≤◌, ◌<◌, ◌⊎◌, Bool, true, false, List, [], ◌∷◌, ◌++◌, length, drop, get_or, refl, ap, arith, sym, ◌∙◌, subst, inl, inr, length-append, replicate}
use Rattle.std.proofs.lemmas.List.{length-replicate, get_or-replicate, get_or-append-add}
use Rattle.std.proofs.lemmas.Bool.{cases_lt}
use Rattle.std.proofs.Math.Seq.{drop-append-le, drop-append-add}
use Rattle.block_frame.specs.declared.Found.{Found}
use Rattle.block_frame.specs.declared.Found.TheVariants.{Block, Skip, NeedMore, Bad}
use Rattle.block_frame.specs.Scan.{IsUndecided}
use Rattle.block_frame.specs.Scanned.{Drops, Finds, Scans}
use Rattle.block_frame.specs.Stream.{Reads}
use Rattle.block_frame.specs.Spoils.{AreEnds, ending_bytes}

pub ends_length : length ending_bytes ≡ 64
unfolding ending_bytes
ends_length = length-replicate {A = ℕ} 64 126

are_ends : (n : ℕ) → AreEnds (replicate n 126)
are_ends zero = tt
are_ends (suc n) = (refl, are_ends n)

end_at : (k : ℕ) → k < 64 → get_or ending_bytes k 0 ≡ 126
unfolding ending_bytes
end_at k h = get_or-replicate 64 k 126 0 h

all_ends : AreEnds ending_bytes
unfolding ending_bytes
all_ends = are_ends 64

dropped_ends : (m : ℕ) (bytes : List ℕ) → AreEnds bytes → AreEnds (drop m bytes)
dropped_ends zero bytes all = all
dropped_ends (suc m) [] all = all
dropped_ends (suc m) (b ∷ bytes) all = dropped_ends m bytes all.1

-- where a scanner stands: at bytes that all end a block, and it drops none, or in front of all 64 of them
abbrev Stands : Bool → List ℕ → Type 0
Stands d bytes = ((d ≡ false) × AreEnds bytes) ⊎ ((x : List ℕ) × (bytes ≡ x ++ ending_bytes))

-- some bytes are taken, and none but those that end a block where they reach so far
taken : (x : List ℕ) (m : ℕ) (next : Bool) → (length x < m → next ≡ false) → Stands next (drop m (x ++ ending_bytes))
taken x m next free =
    elim (cases_lt (length x) m) [
      | inl far ↦
          let at : m ≡ length x + (m - length x) = omega arith in
          let same : drop m (x ++ ending_bytes) ≡ drop (m - length x) ending_bytes = ap (λ k. drop k (x ++ ending_bytes)) at ∙ drop-append-add x ending_bytes (m - length x) in
          inl (free far, subst AreEnds (sym same) (dropped_ends (m - length x) ending_bytes all_ends))
      | inr near ↦ inr (drop m x, drop-append-le m x ending_bytes near)
    ]

not_undecided : (x : List ℕ) → IsUndecided (x ++ ending_bytes) → ⊥
not_undecided x u = few (x ++ ending_bytes) (omega (arith, length-append x ending_bytes, ends_length)) u
  where
    few : (bytes : List ℕ) → 64 ≤ length bytes → IsUndecided bytes → ⊥
    few [] long u = omega arith
    few (b ∷ []) long u = omega arith
    few (b ∷ c ∷ bytes) long u = omega (arith, u.3, u.1)

end_there : (x : List ℕ) → get_or (x ++ ending_bytes) (length x) 0 ≡ 126
end_there x = let at : length x ≡ length x + 0 = omega arith in ap (λ k. get_or (x ++ ending_bytes) k 0) at ∙ get_or-append-add x ending_bytes 0 0 ∙ end_at 0 (omega arith)

-- bytes that are dropped reach at most to the first of the ends
dropping : (x : List ℕ) (m : ℕ) (next : Bool) → Drops (x ++ ending_bytes) m next → Stands next (drop m (x ++ ending_bytes))
dropping x m true (none, all) = absurd (none (length x) (omega (arith, length-append x ending_bytes, ends_length)) (end_there x))
dropping x m false end = taken x m false (λ h. refl)

-- what stands first in front of the ends, and among them
next_stands : (x : List ℕ) (f : Found) (m : ℕ) (d next : Bool) → Scans d (x ++ ending_bytes) f m next → 0 < m → Stands next (drop m (x ++ ending_bytes))
next_stands x (Block number content) m false next (is, size, same) some = taken x m next (λ h. same)
next_stands x Skip m false next (is, one, same) some = taken x m next (λ h. same)
next_stands x NeedMore m false next (u, none, same) some = absurd (omega (arith, none, some))
next_stands x Bad m false next (bad, dropped) some = dropping x m next dropped
next_stands x (Block number content) m true next s some = absurd s
next_stands x Skip m true next s some = absurd s
next_stands x NeedMore m true next (e, none, same) some = absurd (omega (arith, none, some))
next_stands x Bad m true next (any, dropped) some = dropping x m next dropped

next_ends : (bytes : List ℕ) (f : Found) (m : ℕ) (next : Bool) → AreEnds bytes → Finds bytes f m next → 0 < m → (next ≡ false) × AreEnds (drop m bytes)
next_ends bytes (Block number content) m next all (is, size, same) some = (same, dropped_ends m bytes all)
next_ends bytes Skip m next all (is, one, same) some = (same, dropped_ends m bytes all)
next_ends bytes NeedMore m next all (u, none, same) some = absurd (omega (arith, none, some))
next_ends [] Bad m next all (bad, dropped) some = absurd (bad.decided tt)
next_ends (b ∷ bytes) Bad m next all (bad, dropped) some = absurd (bad.no_skip all.0)

-- nothing more is found
rests : (d : Bool) (bytes : List ℕ) (drops : Bool) → Stands d bytes → Scans d bytes NeedMore 0 drops → (bytes ≡ []) × (drops ≡ false)
rests true bytes drops (inl (same, all)) s = cc
rests false [] drops (inl (same, all)) s = (refl, s.2)
rests false (b ∷ []) drops (inl (same, all)) s = absurd (omega (arith, all.0, s.0.1))
rests false (b ∷ c ∷ bytes) drops (inl (same, all)) s = absurd (omega (arith, all.0, s.0.1))
rests false bytes drops (inr (x, is)) s = absurd (not_undecided x (subst IsUndecided is s.0))
rests true bytes drops (inr (x, is)) s =
    let none : length (x ++ ending_bytes) ≡ 0 = ap length (sym is ∙ s.0) in absurd (omega (arith, none, length-append x ending_bytes, ends_length))

onward_ends : (bytes : List ℕ) (f : Found) (m : ℕ) (d next : Bool) → (d ≡ false) × AreEnds bytes → Scans d bytes f m next → 0 < m → Stands next (drop m bytes)
onward_ends bytes f m true next (same, all) s some = cc
onward_ends bytes f m false next (same, all) s some = inl (next_ends bytes f m next all s some)

pub begins : (d : Bool) (bytes : List ℕ) (found : List Found) (left : List ℕ) (drops : Bool) → Stands d bytes → Reads d bytes found left drops → (left ≡ []) × (drops ≡ false)
begins d bytes [] left drops stands r = let rest = rests d bytes drops stands r.0 in (r.1 ∙ rest.0, rest.1)
begins d bytes (f ∷ fs) left drops (inl all) (m, next, some, s, rest) = begins next (drop m bytes) fs left drops (onward_ends bytes f m d next all s some) rest
begins d bytes (f ∷ fs) left drops (inr (x, is)) (m, next, some, s, rest) =
    let t : Scans d (x ++ ending_bytes) f m next = subst (λ (b : List ℕ). Scans d b f m next) is s in
    let r : Reads next (drop m (x ++ ending_bytes)) fs left drops = subst (λ (b : List ℕ). Reads next (drop m b) fs left drops) is rest in
    begins next (drop m (x ++ ending_bytes)) fs left drops (next_stands x f m d next t some) r

pub begin_behind_ends : (d drops : Bool) (bytes left : List ℕ) (found : List Found) → Reads d (bytes ++ ending_bytes) found left drops → (left ≡ []) × (drops ≡ false)
begin_behind_ends d drops bytes left found r = begins d (bytes ++ ending_bytes) found left drops (inr (bytes, refl)) r
