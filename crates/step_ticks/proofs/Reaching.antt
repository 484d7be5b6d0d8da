-- When a segment has reached a distance.
use Rattle.std.proofs.Common.{◌≡◌, ◌⊎◌, ℕ, zero, suc, ◌+◌, ◌-◌, ◌*◌, ◌≤◌, arith, ap, sym, ◌∙◌, inl, inr, Bool, true, false, ◌||◌, ◌&&◌, cond, add-zero}
use Rattle.std.specs.Prelude.{nat_le, IsTrue}
use Rattle.std.proofs.Math.Nat.{mul-le-mul, mul-le-mul_left, mul-le-mul_right}
use Rattle.std.proofs.lemmas.Bool.{cases_lt, false≢true}
use Rattle.std.proofs.lemmas.Bool.Decides.{nat_tests}
use Rattle.num_core.specs.Least.{IsLeast, StaysTrue}
use Rattle.plan_types.specs.declared.plan.Segment.{Segment}
use Rattle.plan_types.specs.Numbers.{first_from}
use Rattle.plan_types.specs.Steps.{reached}
use Rattle.plan_types.specs.Valid.{IsValidSegment}

-- the comparison, from its parts
pub same_test : (d f x v0 v1 m scale far w0 w1 a b p q : ℕ) → scale ≡ 4 * d * f → far ≡ x * f → w0 ≡ v0 * m → w1 ≡ v1 * m → a ≡ scale * far → b ≡ w0 * w0 → p ≡ scale * w0 → q ≡ w1 * w1 → nat_le (a + b) (p + q) ≡ nat_le (4 * d * x * f * f + v0 * v0 * m * m) (4 * d * v0 * m * f + v1 * v1 * m * m)
same_test d f x v0 v1 m scale far w0 w1 a b p q hs hf h0 h1 ha hb hp hq =
    let left : a + b ≡ 4 * d * x * f * f + v0 * v0 * m * m = rw (ha, hb, hs, hf, h0) (omega arith) in
    let right : p + q ≡ 4 * d * v0 * m * f + v1 * v1 * m * m = rw (hp, hq, hs, h0, h1) (omega arith) in
    ap (λ y. nat_le y (p + q)) left ∙ ap (nat_le (4 * d * x * f * f + v0 * v0 * m * m)) right

-- the way does not fall from one tick to the next, while the greater one is not past the end
rises_slower : (v1 e m k : ℕ) → (m + 1) * (v1 + e + v1) ≤ k → (v1 + e) * (v1 + e) * (2 * m + 1) ≤ 2 * k * (v1 + e) + v1 * v1 * (2 * m + 1)
rises_slower v1 e m k h = let times = mul-le-mul_left e h in omega arith

rises : (v0 v1 m k : ℕ) → (m + 1) * (v0 + v1) ≤ k → v0 * v0 * (2 * m + 1) ≤ 2 * k * v0 + v1 * v1 * (2 * m + 1)
rises v0 v1 m k h = elim (cases_lt v1 v0) [
  | inl slower ↦ (let s : v0 ≡ v1 + (v0 - v1) = omega arith in let r = rises_slower v1 (v0 - v1) m k (rw (← s) h) in rw s r)
  | inr faster ↦ (let sq = mul-le-mul_right (2 * m + 1) (mul-le-mul faster faster) in omega arith)
]

-- so what is reached stays reached at the next tick
pub past-next : (d f x v0 v1 m : ℕ) → (m + 1) * (v0 + v1) ≤ 2 * d * f → 4 * d * x * f * f + v0 * v0 * m * m ≤ 4 * d * v0 * m * f + v1 * v1 * m * m → 4 * d * x * f * f + v0 * v0 * (m + 1) * (m + 1) ≤ 4 * d * v0 * (m + 1) * f + v1 * v1 * (m + 1) * (m + 1)
past-next d f x v0 v1 m h so_far = let r = rises v0 v1 m (2 * d * f) h in omega arith

-- the test of a segment, opened and closed
test_in : (e n a m u l r : ℕ) → IsTrue (nat_le e n || (nat_le a n && nat_le m u && nat_le l r)) → (e ≤ n) ⊎ (l ≤ r)
test_in e n a m u l r h = elim (cases_lt n e) [ inl before ↦ inr (grind (arith, nat_tests)) | inr over ↦ inl over ]

test_end : (e n a m u l r : ℕ) → e ≤ n → IsTrue (nat_le e n || (nat_le a n && nat_le m u && nat_le l r))
test_end e n a m u l r h = grind (arith, nat_tests)

test_past : (e n a m u l r : ℕ) → a ≤ n → m ≤ u → l ≤ r → IsTrue (nat_le e n || (nat_le a n && nat_le m u && nat_le l r))
test_past e n a m u l r h k t = grind (arith, nat_tests)

reached-next : (s : Segment) (f x n : ℕ) → IsValidSegment s f → s.start ≤ n → n + 1 ≤ s.end → IsTrue (reached s f x n) → IsTrue (reached s f x (n + 1))
reached-next s f x n valid from to h = elim (cases_lt (n + 1) s.end) [
  | inl before ↦ (
      let dur = valid.dur_is in
      let m : n + 1 - s.start ≡ n - s.start + 1 = omega arith in
      let slow = mul-le-mul_right (s.v0 + s.v1) (let l : n - s.start + 1 ≤ s.dur - 1 = omega arith in l) in
      let time = valid.in_time in
      let so_far = elim (test_in s.end n s.start (n - s.start) s.dur (4 * s.d * x * f * f + s.v0 * s.v0 * (n - s.start) * (n - s.start)) (4 * s.d * s.v0 * (n - s.start) * f + s.v1 * s.v1 * (n - s.start) * (n - s.start)) h) as (λ _. 4 * s.d * x * f * f + s.v0 * s.v0 * (n - s.start) * (n - s.start) ≤ 4 * s.d * s.v0 * (n - s.start) * f + s.v1 * s.v1 * (n - s.start) * (n - s.start)) [ inl over ↦ absurd (omega arith) | inr past ↦ past ] in
      let next = past-next s.d f x s.v0 s.v1 (n - s.start) (omega arith) so_far in
      test_past s.end (n + 1) s.start (n + 1 - s.start) s.dur _ _ (omega arith) (omega arith) (rw m next))
  | inr over ↦ test_end s.end (n + 1) s.start (n + 1 - s.start) s.dur _ _ over
]

reached-later : (s : Segment) (f x m k : ℕ) → IsValidSegment s f → s.start ≤ m → m + k ≤ s.end → IsTrue (reached s f x m) → IsTrue (reached s f x (m + k))
reached-later s f x m zero valid from to h = rw add-zero h
reached-later s f x m (suc k) valid from to h =
    let e : m + suc k ≡ m + k + 1 = omega arith in
    rw e (reached-next s f x (m + k) valid (omega arith) (omega arith) (reached-later s f x m k valid from (omega arith) h))

pub reached-stays : (s : Segment) (f x : ℕ) → IsValidSegment s f → StaysTrue (reached s f x) s.start s.end
reached-stays s f x valid m n from order to h =
    let e : m + (n - m) ≡ n = omega arith in
    rw e at (reached-later s f x m (n - m) valid from (omega arith) h)

pub reached-end : (s : Segment) (f x : ℕ) → IsTrue (reached s f x s.end)
reached-end s f x = test_end s.end s.end s.start (s.end - s.start) s.dur _ _ (omega arith)
