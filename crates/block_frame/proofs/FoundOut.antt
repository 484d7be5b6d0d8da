-- The test of changed blocks tells what a scanner finds.
use Rattle.std.proofs.Common.{◌≡◌, ◌≢◌, ◌↔◌, IsTrue, ℕ, zero, suc, ◌+◌, ◌-◌, ◌/◌, ◌≤◌, ◌<◌, ◌⊎◌, Bool, true, false, cond, ◌&&◌, List, [], ◌∷◌, ◌++◌, length, take, drop, refl, ap, arith, sym, ◌∙◌, subst, inl, inr, length-append, length-drop, append_assoc}
use Rattle.std.specs.Prelude.{nat_le, nat_lt, ◌==◌}
use Rattle.std.specs.Bool.{Decides}
use Rattle.std.specs.Str.{bytes_eq}
use Rattle.std.proofs.lemmas.Bool.{and_parts, eqb-true}
use Rattle.std.proofs.lemmas.Bool.Decides.{nat_tests, leb_tells, eqb_tells, same_from_decides}
use Rattle.std.proofs.lemmas.Slice.Eq.{bytes_eq-Decides}
use Rattle.std.proofs.lemmas.List.{length-take-le, length-replicate}
use Rattle.std.proofs.Math.Seq.{take-append_seam}
use Rattle.std.proofs.Math.ListN.{take-append-drop}
use Rattle.block_frame.specs.declared.Found.{Found}
use Rattle.block_frame.specs.declared.Found.TheVariants.{Block, Skip, NeedMore, Bad}
use Rattle.block_frame.specs.Block.{block_text, checksum, covered, ending}
use Rattle.block_frame.specs.Scan.{IsBlock, HasBlock, IsSkip, IsUndecided, IsBad, ToEnd, NoEnd}
use Rattle.block_frame.specs.Scanned.{Drops, Finds, Scans}
use Rattle.block_frame.specs.Stream.{Reads, blocks_in}
use Rattle.block_frame.specs.Spoils.{IsOnlyBad, Spoils, are_few, are_only_bad, begins_block, begins_end, ending_bytes, is_found_out, to_end}
use Rattle.block_frame.proofs.Pieces.{no_skip_there, decided_there, drops_behind}
use Rattle.block_frame.proofs.Only.{Told, at_skip, at_bad, at_end, bad_takes, skip_takes}
use Rattle.block_frame.proofs.Begin.{ends_length}

-- the block that the first two bytes say
said_is : (len s : ℕ) (bytes : List ℕ) → s < 32 → len ≤ 64 → take len (len ∷ s ∷ bytes) ≡ block_text (s - 16) (take (len - 5) bytes) → HasBlock (len ∷ s ∷ bytes)
said_is len s bytes small most e =
    let fits : length (take (len - 5) bytes) ≤ 59 = omega (arith, length-take-least (len - 5) bytes) in (
      s - 16,
      take (len - 5) bytes,
      record {
        small = omega arith;
        fits = fits;
        after = (drop len (len ∷ s ∷ bytes), sym (take-append-drop len (len ∷ s ∷ bytes)) ∙ ap (λ x. x ++ drop len (len ∷ s ∷ bytes)) e);
      },
    )
  where
    length-take-least : (n : ℕ) (xs : List ℕ) → length (take n xs) ≤ n
    length-take-least zero xs = omega arith
    length-take-least (suc n) [] = omega arith
    length-take-least (suc n) (x ∷ xs) = omega (arith, length-take-least n xs)

is_said : (len s : ℕ) (bytes : List ℕ) (n : ℕ) (c : List ℕ) → IsBlock n c (len ∷ s ∷ bytes) → (s < 32) × (len ≤ 64) × (take len (len ∷ s ∷ bytes) ≡ block_text (s - 16) (take (len - 5) bytes))
is_said len s bytes n c b =
    let e : len ∷ s ∷ bytes ≡ block_text n c ++ b.after.0 = b.after.1 in
    let first : len ≡ length c + 5 = cc in
    let second : s ≡ 16 + n = cc in
    let tail : bytes ≡ (c ++ ending (checksum (covered n c))) ++ b.after.0 = cc in
    let content : take (len - 5) bytes ≡ c = rest_is c (ending (checksum (covered n c))) b.after.0 (len - 5) bytes tail (omega arith) in
    let number : s - 16 ≡ n = omega arith in
    let size : length (block_text n c) ≡ len = text_size n c ∙ sym first in
    let front : take len (len ∷ s ∷ bytes) ≡ block_text n c = ap (take len) e ∙ ap (λ k. take k (block_text n c ++ b.after.0)) (sym size) ∙ take-append_seam (block_text n c) b.after.0 in
    (omega (arith, second, b.small), omega (arith, first, b.fits), front ∙ ap (λ k. block_text k c) (sym number) ∙ ap (block_text (s - 16)) (sym content))
  where
    rest_is : (c end more : List ℕ) (k : ℕ) (bytes : List ℕ) → bytes ≡ (c ++ end) ++ more → k ≡ length c → take k bytes ≡ c
    rest_is c end more k bytes e h = ap (take k) (e ∙ append_assoc c end more) ∙ ap (λ j. take j (c ++ (end ++ more))) h ∙ take-append_seam c (end ++ more)

    text_size : (n : ℕ) (c : List ℕ) → length (block_text n c) ≡ length c + 5
    text_size n c = let size = length-append c (ending (checksum (covered n c))) in omega (arith, size)

-- three tests joined
three : (a b c : Bool) (P Q R : Type 0) → Decides a P → Decides b Q → Decides c R → Decides (a && b && c) (P × Q × R)
three true true true P Q R p q r = (λ e. (p.0 refl, q.0 refl, r.0 refl), λ h. refl)
three true true false P Q R p q r = (λ e. cc, λ h. r.1 h.2)
three true false c P Q R p q r = (λ e. cc, λ h. absurd (let z : false ≡ true = q.1 h.1 in cc))
three false b c P Q R p q r = (λ e. cc, λ h. absurd (let z : false ≡ true = p.1 h.0 in cc))

below : (a b : ℕ) → Decides (nat_lt a b) (a < b)
below a b = (λ e. grind (arith, nat_tests), λ h. grind (arith, nat_tests))

at_most : (a b : ℕ) → Decides (nat_le a b) (a ≤ b)
at_most a b = (λ e. grind (arith, nat_tests), λ h. grind (arith, nat_tests))

block_told : (bytes : List ℕ) → Decides (begins_block bytes) (HasBlock bytes)
block_told [] = (λ e. cc, λ (n, c, b). let e = b.after.1 in cc)
block_told (len ∷ []) = (λ e. cc, λ (n, c, b). let e = b.after.1 in cc)
block_told (len ∷ s ∷ bytes) =
    let said = block_text (s - 16) (take (len - 5) bytes) in
    let t = three (nat_lt s 32) (nat_le len 64) (bytes_eq (take len (len ∷ s ∷ bytes)) said) (s < 32) (len ≤ 64) (take len (len ∷ s ∷ bytes) ≡ said) (below s 32) (at_most len 64) (bytes_eq-Decides (take len (len ∷ s ∷ bytes)) said) in
    (λ e. let p = t.0 e in said_is len s bytes p.0 p.1 p.2, λ (n, c, b). t.1 (is_said len s bytes n c b))

end_told : (bytes : List ℕ) → Decides (begins_end bytes) (IsSkip bytes)
end_told [] = (λ e. cc, λ s. absurd s)
end_told (b ∷ bytes) = (λ e. eqb-true b 126 e, λ s. grind (arith, nat_tests))

few_told : (bytes : List ℕ) → Decides (are_few bytes) (IsUndecided bytes)
few_told [] = (λ e. tt, λ u. refl)
few_told (len ∷ []) = (λ e. (grind (arith, nat_tests), grind (arith, nat_tests)), λ u. grind (arith, nat_tests))
few_told (len ∷ s ∷ bytes) = (λ e. (grind (arith, nat_tests), grind (arith, nat_tests), grind (arith, nat_tests), grind (arith, nat_tests)), λ u. grind (arith, nat_tests))

-- a byte that is none of the ends in front of others
one_behind : (b : ℕ) (bytes : List ℕ) (m : ℕ) (p : Bool) → b ≢ 126 → Drops bytes m p → Drops (b ∷ bytes) (m + 1) p
one_behind b bytes m p other d =
    let same : suc zero + m ≡ m + 1 = omega arith in
    subst (λ (k : ℕ). Drops (b ∷ bytes) k p) same (drops_behind (b ∷ []) bytes m p none d)
  where
    none : NoEnd (b ∷ [])
    none zero h e = other e
    none (suc k) h e = absurd (omega (arith, h))

abbrev at_first : Bool → ℕ × Bool → ℕ × Bool
at_first t r = cond {A = ℕ × Bool} t (1, false) (r.0 + 1, r.1)

end_told_at : (b : ℕ) (bytes : List ℕ) (t : Bool) → (b == 126) ≡ t → Drops bytes (to_end bytes).0 (to_end bytes).1
    → Drops (b ∷ bytes) (at_first t (to_end bytes)).0 (at_first t (to_end bytes)).1
end_told_at b bytes true e d = record { some = omega arith; within = omega arith; ends = eqb-true b 126 e; first = λ k h x. omega (arith, h) }
end_told_at b bytes false e d = one_behind b bytes (to_end bytes).0 (to_end bytes).1 (λ x. let y : (b == 126) ≡ true = grind (arith, nat_tests) in cc) d

dropped : (bytes : List ℕ) → Drops bytes (to_end bytes).0 (to_end bytes).1
dropped [] = (λ k h e. omega (arith, h), refl)
dropped (b ∷ bytes) = end_told_at b bytes (b == 126) refl (dropped bytes)

-- where a block begins there is something else
not_only : (bytes : List ℕ) (found : List Found) (left : List ℕ) (drops : Bool) → HasBlock bytes → Reads false bytes found left drops → blocks_in found ≡ [] → ⊥
not_only bytes [] left drops (n, c, b) r none = decided_there bytes n c b r.0.0
not_only bytes (Block k d ∷ fs) left drops has r none = cc
not_only bytes (Skip ∷ fs) left drops (n, c, b) (m, next, some, s, rest) none = no_skip_there bytes n c b s.0
not_only bytes (NeedMore ∷ fs) left drops has (m, next, some, s, rest) none = omega (arith, s.1, some)
not_only bytes (Bad ∷ fs) left drops has (m, next, some, s, rest) none = s.0.no_block has

pick : (P : Bool → Type 0) (c x y : Bool) → (c ≡ true → P x) → (c ≡ false → P y) → P (cond c x y)
pick P true x y f g = f refl
pick P false x y f g = g refl

not_so : (t : Bool) (P : Type 0) → Decides t P → t ≡ false → P → ⊥
not_so t P d e p = let y : t ≡ true = d.1 p in cc

few_bytes : (n m : ℕ) (bytes : List ℕ) → length bytes < suc n → 0 < m → m ≤ length bytes → length (drop m bytes) < n
few_bytes n m bytes h some most = omega (arith, length-drop m bytes)

told : (n : ℕ) (d : Bool) (bytes : List ℕ) (before : Bool) → length bytes < n → Told (are_only_bad n d bytes before) d bytes before
told zero d bytes before h = absurd (omega (arith, h))
told (suc n) true [] before h = at_end true [] before 0 true (refl, refl, refl)
told (suc n) true (b ∷ bytes) before h =
    let m = (to_end (b ∷ bytes)).0 in
    let p = (to_end (b ∷ bytes)).1 in
    let s : Scans true (b ∷ bytes) Bad (to_end (b ∷ bytes)).0 (to_end (b ∷ bytes)).1 = (omega arith, dropped (b ∷ bytes)) in
    let takes = bad_takes true (b ∷ bytes) m p s in
    at_bad true (b ∷ bytes) before m p (are_only_bad n p (drop m (b ∷ bytes)) true) s (told n p (drop m (b ∷ bytes)) true (few_bytes n m (b ∷ bytes) h takes.0 takes.1))
told (suc n) false bytes before h =
    let m = (to_end bytes).0 in
    let p = (to_end bytes).1 in
    let behind_end = are_only_bad n false (drop 1 bytes) before in
    let behind_bad = are_only_bad n p (drop m bytes) true in
    let P : Bool → Type 0 = λ t. Told t false bytes before in
    pick P (begins_block bytes) false (cond (begins_end bytes) behind_end (cond (are_few bytes) before behind_bad))
    (λ e. (λ z. cc, λ o. absurd (not_only bytes o.found o.left o.drops ((block_told bytes).0 e) o.reads o.no_block)))
    (λ no_block. pick P (begins_end bytes) behind_end (cond (are_few bytes) before behind_bad)
    (λ e.
    let s : Scans false bytes Skip 1 false = ((end_told bytes).0 e, refl, refl) in
    let takes = skip_takes false bytes 1 false s in
    at_skip false bytes before 1 false behind_end s (told n false (drop 1 bytes) before (few_bytes n 1 bytes h takes.0 takes.1)))
    (λ no_end. pick P (are_few bytes) before behind_bad
    (λ e. at_end false bytes before 0 false ((few_told bytes).0 e, refl, refl))
    (λ enough.
    let bad : IsBad bytes = record {
      no_block = not_so (begins_block bytes) (HasBlock bytes) (block_told bytes) no_block;
      no_skip = not_so (begins_end bytes) (IsSkip bytes) (end_told bytes) no_end;
      decided = not_so (are_few bytes) (IsUndecided bytes) (few_told bytes) enough;
    } in
    let s : Scans false bytes Bad (to_end bytes).0 (to_end bytes).1 = (bad, dropped bytes) in
    let takes = bad_takes false bytes m p s in
    at_bad false bytes before m p behind_bad s (told n p (drop m bytes) true (few_bytes n m bytes h takes.0 takes.1)))))

-- the test is right
pub found_out : (bytes : List ℕ) → Decides (is_found_out bytes) (Spoils bytes)
unfolding is_found_out
found_out bytes = told (length bytes + 65) false (bytes ++ ending_bytes) false (omega (arith, length-append bytes ending_bytes, ends_length))

pub same_test : (bytes line : List ℕ) (d t : Bool) → d ≡ false → line ≡ bytes ++ ending_bytes → IsTrue t ↔ IsOnlyBad d line false → t ≡ is_found_out bytes
same_test bytes line d t e f told =
    let one = subst (λ (x : Bool). IsTrue t ↔ IsOnlyBad x line false) e told in
    let two = subst (λ (x : List ℕ). IsTrue t ↔ IsOnlyBad false x false) f one in
    same_from_decides t (is_found_out bytes) (two.0, two.1) (found_out bytes)
