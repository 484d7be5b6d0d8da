-- How long a move can take.
use Rattle.std.proofs.Common.{◌≡◌, ℕ, ◌+◌, ◌-◌, ◌*◌, ◌/◌, ◌<◌, ◌≤◌, ◌⊎◌, max, refl, ap, ◌∙◌, arith, inl, inr, add_comm}
use Rattle.std.proofs.Math.Nat.{mul-le-mul, mul-le-mul_left, mul-le-mul_right, div-le_of_le-mul, mul-div-le}
use Rattle.std.proofs.lemmas.Bool.{cases_lt}
use Rattle.std.proofs.lemmas.Grind.{div_ceil_times}
use Rattle.std.specs.Int.{div_ceil}
use Rattle.plan_types.specs.declared.plan.Move.{Move}
use Rattle.plan_types.specs.Numbers.{square_root}
use Rattle.plan_types.specs.Parts.{changing, top_speed, parts}
use Rattle.plan_types.specs.Sections.{duration}
use Rattle.plan_types.specs.Valid.{IsValidMove}
use Rattle.plan_types.proofs.MoveBounds.{root_below}
use Rattle.plan_types.proofs.Roots.{square_root-is, square_root-unique}

-- a number whose square is not above n is not above the root
pub root-above : (n k : ℕ) → k * k ≤ n → k ≤ square_root n
root-above n k h =
    let r = square_root-is n in
    let next = r.next_square in
    elim (cases_lt (square_root n) k) [
      | inl less ↦ (let m = mul-le-mul less less in absurd (omega arith))
      | inr more ↦ more
    ]

-- the root of a square
pub root-square : (v : ℕ) → square_root (v * v) ≡ v
root-square v = square_root-unique (v * v) v (omega arith) (omega arith)

-- a quotient by more than one summand
below-sum : (x y z k : ℕ) → x ≤ k * y → x / (y + z) ≤ k
below-sum x y z k h =
    let m : k * y ≤ (y + z) * k = let p = mul-le-mul_left {m = y} {n = y + z} k (omega arith) in omega arith in
    div-le_of_le-mul (y + z) (omega arith)

-- a part that gains or loses speed takes about 10 seconds at most
changing-time : (a top g v0 d : ℕ) → 100_000_000 ≤ a → top ≤ 1_000_000_000_000_000_000 → d ≡ (top - g) / (2 * a) → 2 * d * 1_000_000_000 / (square_root top + v0) ≤ 10_000_000_020
changing-time a top g v0 d strong small is =
    let r = square_root-is top in
    let v1 = square_root top in
    let next = r.next_square in
    let square = r.square in
    let near = root_below top 1_000_000_001 (omega arith) in
    let whole = mul-div-le (top - g) (2 * a) in
    let one : 2 * a * d ≤ v1 * v1 + 2 * v1 = rw is (omega arith) in
    let two : 200_000_000 * d ≤ 2 * a * d = mul-le-mul_right {m = 200_000_000} {n = 2 * a} d (omega arith) in
    let three : v1 * v1 ≤ 1_000_000_000 * v1 = mul-le-mul_right v1 (omega arith) in
    below-sum (2 * d * 1_000_000_000) v1 v0 10_000_000_020 (omega arith)

-- how far a move that is limited by its acceleration can be for its speed
strong-enough : (top q d : ℕ) → 1 ≤ q → q ≤ 1_740 → 100_000_000 * q ≤ top → d ≤ 2_000_000 * q → d ≤ 17_400 * square_root top
strong-enough top q d some few fast near =
    let r = square_root-is top in
    let next = r.next_square in
    elim (cases_lt (square_root top) (118 * q)) [
      | inl less ↦ (
          let up : square_root top + 1 ≤ 118 * q = omega arith in
          let m = mul-le-mul up up in
          let n : q * q ≤ 1_740 * q = mul-le-mul_right q few in
          absurd (omega arith))
      | inr more ↦ omega arith
    ]

-- of a move's distance at least a millionth may be used to change the speed
changing-some : (m : Move) (cruise : ℕ) → cruise < 1_000_000 → m.d / 1_000_000 ≤ changing m cruise
changing-some m cruise share =
    let t = div_ceil_times (cruise * m.d) 1_000_000 (omega arith) in
    let most : cruise * m.d ≤ 999_999 * m.d = mul-le-mul_right m.d (omega arith) in
    let above = t.1 in
    let c = div_ceil (cruise * m.d) 1_000_000 in
    let within : c + m.d / 1_000_000 ≤ m.d = omega arith in
    omega arith

-- the speed that a move reaches is the commanded one, or what its acceleration allows
reached-speed : (m : Move) (g h cruise : ℕ) → (top_speed m g h cruise ≡ m.v * m.v) ⊎ (m.a * changing m cruise ≤ top_speed m g h cruise)
reached-speed m g h cruise =
    elim (cases_lt (m.v * m.v) (max (max g h) ((g + h + 2 * m.a * changing m cruise) / 2))) [
      | inl less ↦ inl (omega arith)
      | inr more ↦ inr (omega arith)
    ]

-- a whole move at its greatest speed
cruise-time : (m : Move) (g h cruise : ℕ) → IsValidMove m → m.d ≤ 1_740_000_000 → cruise < 1_000_000 → m.d ≤ 17_400 * square_root (top_speed m g h cruise)
cruise-time m g h cruise valid short share =
    let top = top_speed m g h cruise in
    let low = valid.speed_low in
    let strong = valid.acceleration_low in
    elim (reached-speed m g h cruise) [
      | inl same ↦ (let s : square_root top ≡ m.v = ap square_root same ∙ root-square m.v in omega arith)
      | inr more ↦ (
          let q = max 1 (m.d / 1_000_000) in
          let some = changing-some m cruise share in
          let w = changing m cruise in
          let one : q ≤ w = omega arith in
          let two : 100_000_000 * q ≤ m.a * w = mul-le-mul strong one in
          strong-enough top q m.d (omega arith) (omega arith) (omega arith) (omega arith))
    ]

-- what cruises of a move
along-time : (d x y v : ℕ) → d ≤ 17_400 * v → 2 * (d - x - y) * 1_000_000_000 / (v + v) ≤ 17_400_000_000_000
along-time d x y v fast = div-le_of_le-mul (v + v) (omega arith)

sum-of-three : (a b c : ℕ) → a ≤ 10_000_000_020 → b ≤ 17_400_000_000_000 → c ≤ 10_000_000_020 → a + (b + (c + 0)) ≤ 17_421_000_000_000
sum-of-three a b c one two three = omega arith

-- a move of at most 1.74 m takes at most 17,421 seconds
pub duration-small : (m : Move) (g h cruise : ℕ) → IsValidMove m → m.d ≤ 1_740_000_000 → cruise < 1_000_000 → duration (parts m g h cruise) ≤ 17_421_000_000_000
duration-small m g h cruise valid short share =
    let top = top_speed m g h cruise in
    let strong = valid.acceleration_low in
    let high = valid.speed_high in
    let square : m.v * m.v ≤ 1_000_000_000_000_000_000 = mul-le-mul high high in
    let small : top ≤ 1_000_000_000_000_000_000 = omega arith in
    let rising = (top - g) / (2 * m.a) in
    let falling = (top - h) / (2 * m.a) in
    let first : 2 * rising * 1_000_000_000 / (square_root g + square_root top) ≤ 10_000_000_020 =
    rw (add_comm (square_root g) (square_root top)) (changing-time m.a top g (square_root g) rising strong small refl) in
    let second = along-time m.d rising falling (square_root top) (cruise-time m g h cruise valid short share) in
    let third = changing-time m.a top h (square_root h) falling strong small refl in
    sum-of-three _ _ _ first second third
