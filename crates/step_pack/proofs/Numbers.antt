-- Lemmas on numbers.
use Rattle.std.proofs.Common.{◌≡◌, ℕ, zero, suc, ◌+◌, ◌-◌, ◌*◌, ◌/◌, ◌%◌, ◌<◌, ◌≤◌, arith, refl, ap, inl, inr}
use Rattle.std.proofs.Math.Nat.{mul-le-mul_left, mul-le-mul_right, div-mul-le_self, lt-div-mul-add}
use Rattle.std.proofs.lemmas.Bool.{cases_lt}
use Rattle.step_pack.specs.Bounds.{triangle}

pub triangle-next : (k : ℕ) → triangle (k + 1) ≡ triangle k + (k + 1)
triangle-next k = omega arith

-- twice the triangle
pub two-triangle : (k : ℕ) → 2 * triangle k ≡ k * (k + 1)
two-triangle zero = refl
two-triangle (suc k) = let before = two-triangle k in let next = triangle-next k in let e : suc k ≡ k + 1 = omega arith in rw e (omega (arith, before, next))

-- the add counts more in later steps
slopes_apart : (p d k : ℕ) → k ≡ p + d → (p + 1) * (k * (k + 1)) ≡ (k + 1) * (p * (p + 1)) + (p + 1) * (k + 1) * d
slopes_apart p d k e = rw e (omega arith)

-- by how much more
pub slopes : (p k : ℕ) → p ≤ k → 2 * ((p + 1) * triangle k) ≡ 2 * ((k + 1) * triangle p) + (p + 1) * (k + 1) * (k - p)
slopes p k order =
    let apart = slopes_apart p (k - p) k (omega arith) in
    let left : 2 * ((p + 1) * triangle k) ≡ (p + 1) * (2 * triangle k) = omega arith in
    let right : 2 * ((k + 1) * triangle p) ≡ (k + 1) * (2 * triangle p) = omega arith in
    rw (left, right, two-triangle p, two-triangle k) apart

-- a greater add is too great as well, and so are some smaller ones
pub cross_great : (l k b o less interval low_at high_at tl tk s : ℕ) → b ≤ o + less → 2 * ((l + 1) * tk) ≡ 2 * ((k + 1) * tl) + s → low_at + b * tl ≤ (l + 1) * interval + o * tl
    → (k + 1) * interval + o * tk ≤ high_at + b * tk → high_at * (l + 1) < low_at * (k + 1) → less * s < 2 * (low_at * (k + 1) - high_at * (l + 1)) → ⊥
cross_great l k b o less interval low_at high_at tl tk s order slope low high strict far = elim (cases_lt o b) [
  | inl under ↦
      let e : b ≡ o + (b - o) = omega arith in
      let low2 : low_at + (b - o) * tl ≤ (l + 1) * interval = (let f = rw e at low in omega (arith, f)) in
      let high2 : (k + 1) * interval ≤ high_at + (b - o) * tk = (let f = rw e at high in omega (arith, f)) in
      let one = mul-le-mul_left (k + 1) low2 in
      let two = mul-le-mul_left (l + 1) high2 in
      let three : (b - o) * (2 * ((l + 1) * tk)) ≡ (b - o) * (2 * ((k + 1) * tl) + s) = ap (λ x. (b - o) * x) slope in
      let four : (b - o) * s ≤ less * s = mul-le-mul_right s (let f : b - o ≤ less = omega (arith, order) in f) in
      omega (arith, one, two, three, four, strict, far)
  | inr over ↦
      let e : o ≡ b + (o - b) = omega arith in
      let low2 : low_at ≤ (l + 1) * interval + (o - b) * tl = (let f = rw e at low in omega (arith, f)) in
      let high2 : (k + 1) * interval + (o - b) * tk ≤ high_at = (let f = rw e at high in omega (arith, f)) in
      let one = mul-le-mul_left (k + 1) low2 in
      let two = mul-le-mul_left (l + 1) high2 in
      let three : (o - b) * (2 * ((l + 1) * tk)) ≡ (o - b) * (2 * ((k + 1) * tl) + s) = ap (λ x. (o - b) * x) slope in
      omega (arith, one, two, three, strict)
]

-- a smaller add is too small as well, and so are some greater ones
pub cross_small : (p k b o more interval low_at high_at tp tk s : ℕ) → o ≤ b + more → 2 * ((p + 1) * tk) ≡ 2 * ((k + 1) * tp) + s → (p + 1) * interval + o * tp ≤ high_at + b * tp
    → low_at + b * tk ≤ (k + 1) * interval + o * tk → high_at * (k + 1) < low_at * (p + 1) → more * s < 2 * (low_at * (p + 1) - high_at * (k + 1)) → ⊥
cross_small p k b o more interval low_at high_at tp tk s order slope high low strict far = elim (cases_lt b o) [
  | inl over ↦
      let e : o ≡ b + (o - b) = omega arith in
      let high2 : (p + 1) * interval + (o - b) * tp ≤ high_at = (let f = rw e at high in omega (arith, f)) in
      let low2 : low_at ≤ (k + 1) * interval + (o - b) * tk = (let f = rw e at low in omega (arith, f)) in
      let one = mul-le-mul_left (k + 1) high2 in
      let two = mul-le-mul_left (p + 1) low2 in
      let three : (o - b) * (2 * ((p + 1) * tk)) ≡ (o - b) * (2 * ((k + 1) * tp) + s) = ap (λ x. (o - b) * x) slope in
      let four : (o - b) * s ≤ more * s = mul-le-mul_right s (let f : o - b ≤ more = omega (arith, order) in f) in
      omega (arith, one, two, three, four, strict, far)
  | inr under ↦
      let e : b ≡ o + (b - o) = omega arith in
      let high2 : (p + 1) * interval ≤ high_at + (b - o) * tp = (let f = rw e at high in omega (arith, f)) in
      let low2 : low_at + (b - o) * tk ≤ (k + 1) * interval = (let f = rw e at low in omega (arith, f)) in
      let one = mul-le-mul_left (k + 1) high2 in
      let two = mul-le-mul_left (p + 1) low2 in
      let three : (b - o) * (2 * ((p + 1) * tk)) ≡ (b - o) * (2 * ((k + 1) * tp) + s) = ap (λ x. (b - o) * x) slope in
      omega (arith, one, two, three, strict)
]

-- a quotient that is rounded up
pub up_least : (x m i : ℕ) → x ≤ (m + 1) * i → (x + m) / (m + 1) ≤ i
up_least x m i h = elim (cases_lt i ((x + m) / (m + 1))) [
  | inl more ↦ absurd (let below = div-mul-le_self (x + m) (m + 1) in let times : (i + 1) * (m + 1) ≤ (x + m) / (m + 1) * (m + 1) = mul-le-mul_right (m + 1) (let s : i + 1 ≤ (x + m) / (m + 1) = omega arith in s) in omega (arith, below, times))
  | inr fine ↦ fine
]

pub up_enough : (x m i : ℕ) → (x + m) / (m + 1) ≤ i → x ≤ (m + 1) * i
up_enough x m i h =
    let above : x + m < (x + m) / (m + 1) * (m + 1) + (m + 1) = lt-div-mul-add (omega arith) in
    let times = mul-le-mul_right (m + 1) h in
    omega (arith, above, times)

-- a quotient that is rounded down
pub down_greatest : (x m i : ℕ) → (m + 1) * i ≤ x → i ≤ x / (m + 1)
down_greatest x m i h = elim (cases_lt (x / (m + 1)) i) [
  | inl less ↦ absurd (let above : x < x / (m + 1) * (m + 1) + (m + 1) = lt-div-mul-add (omega arith) in let times : (x / (m + 1) + 1) * (m + 1) ≤ i * (m + 1) = mul-le-mul_right (m + 1) (let s : x / (m + 1) + 1 ≤ i = omega arith in s) in omega (arith, above, times))
  | inr fine ↦ fine
]

pub down_within : (x m i : ℕ) → i ≤ x / (m + 1) → (m + 1) * i ≤ x
down_within x m i h =
    let below = div-mul-le_self x (m + 1) in
    let times = mul-le-mul_right (m + 1) h in
    omega (arith, below, times)

-- no number between two is a multiple where none is just below the greater one
pub no_multiple : (u y z low high : ℕ) → 0 < u → low + u * z ≤ u * y → u * y ≤ high + u * z → high / u * u < low → ⊥
no_multiple zero y z low high some above below none = omega (arith, some)
no_multiple (suc m) y z low high some above below none = elim (cases_lt y z) [
  | inl less ↦
      let times : (suc m) * (y + 1) ≤ (suc m) * z = mul-le-mul_left (suc m) (let s : y + 1 ≤ z = omega arith in s) in
      omega (arith, times, above, none)
  | inr fine ↦
      let e : y ≡ z + (y - z) = omega (arith, fine) in
      let low2 : low ≤ (suc m) * (y - z) = (let f = rw e at above in omega (arith, f)) in
      let high2 : (m + 1) * (y - z) ≤ high = (let f = rw e at below in omega (arith, f)) in
      let most = down_greatest high m (y - z) high2 in
      let times : (y - z) * (m + 1) ≤ high / (m + 1) * (m + 1) = mul-le-mul_right (m + 1) most in
      let same : suc m ≡ m + 1 = omega arith in
      let none2 : high / (m + 1) * (m + 1) < low = (let f = rw same at none in f) in
      omega (arith, times, low2, none2)
]

-- so no triple has a tick in a window without a multiple of the step's unit; `times` is how often the add counts in the step
pub misses : (k u t n i o times behind low high : ℕ) → 0 < u → k + 1 ≡ u * n → times ≡ u * t → behind ≤ low → low + 1024 * times ≤ behind + (k + 1) * i + o * times
    → behind + (k + 1) * i + o * times ≤ high + 1024 * times → (high - behind) / u * u < low - behind → ⊥
misses k u t n i o times behind low high some number are order early late none =
    let early2 = rw (number, are) at early in
    let late2 = rw (number, are) at late in
    no_multiple u (n * i + o * t) (1024 * t) (low - behind) (high - behind) some (omega (arith, order, early2)) (omega (arith, order, late2)) none

-- the half of a product
halved : (t k n h : ℕ) → 2 * t ≡ k * n → n ≡ h * 2 → t ≡ h * k
halved t k n h twice e = let f = rw e at twice in omega (arith, f)

-- the number of a step in units, and how often the add counts there
pub even_unit : (k : ℕ) → (k + 1) % 2 ≡ 0 → (0 < (k + 1) / 2) × ((k + 1 ≡ (k + 1) / 2 * 2) × (triangle k ≡ (k + 1) / 2 * k))
even_unit k even =
    let number : k + 1 ≡ (k + 1) / 2 * 2 = omega (arith, even) in
    (omega (arith, number), (number, halved (triangle k) k (k + 1) ((k + 1) / 2) (two-triangle k) number))

pub odd_unit : (k : ℕ) → ((k + 1) % 2 ≡ 0 → ⊥) → triangle k ≡ (k + 1) * (k / 2)
odd_unit k odd =
    let half : k ≡ k / 2 * 2 = omega (arith, odd) in
    let twice : 2 * triangle k ≡ (k + 1) * k = (let two = two-triangle k in omega (arith, two)) in
    let found = halved (triangle k) (k + 1) k (k / 2) twice half in
    omega (arith, found)
