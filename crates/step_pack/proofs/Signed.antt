-- Bends and adds.
use Rattle.std.proofs.Common.{◌≡◌, ℕ, zero, suc, ℤ, pos, negsuc, ◌+◌, ◌-◌, ◌*◌, ◌/◌, ◌^◌, ◌<◌, ◌≤◌, List, arith, refl, ap, sym}
use Rattle.std.specs.Prelude.{◌+ℤ◌}
use Rattle.std.proofs.lemmas.Int.{ints}
use Rattle.plan_types.specs.declared.plan.Window.{Window}
use Rattle.plan_types.specs.Packing.{window_at, tick_at, Covers, IsCompared, IsLongest, RunOn}
use Rattle.plan_types.specs.Board.{IsSum}
use Rattle.step_pack.proofs.Rows.{run_after, run_next}
use Rattle.step_pack.specs.Bounds.{triangle, IsReach, IsMostWithin, AreAfter}
use Rattle.step_pack.proofs.Numbers.{triangle-next}

-- the bend is 1024 more than the add
abbrev pub IsBend : ℤ → ℕ → Type 0
IsBend (pos a) bend = bend ≡ a + 1024
IsBend (negsuc a) bend = bend + (a + 1) ≡ 1024

pub is_bend : (add : ℤ) (bend : ℕ) → add +ℤ pos 1024 ≡ pos bend → IsBend add bend
is_bend (pos a) bend h = omega (arith, ints, h)
is_bend (negsuc a) bend h = omega (arith, ints, h)

-- where the sum by the bend is enough, it is the tick
bend_tick : (first interval k bend : ℕ) (add : ℤ) → IsBend add bend → 1024 * triangle k ≤ first + k * interval + bend * triangle k
    → tick_at first interval add k + 1024 * triangle k ≡ first + k * interval + bend * triangle k
bend_tick first interval k bend (pos a) is enough =
    let times : bend * triangle k ≡ (a + 1024) * triangle k = ap (λ b. b * triangle k) is in
    omega (arith, times)
bend_tick first interval k bend (negsuc a) is enough =
    let times : (bend + (a + 1)) * triangle k ≡ 1024 * triangle k = ap (λ b. b * triangle k) is in
    omega (arith, times, enough)

-- and so it is where there is a tick
tick_bend : (first interval k bend : ℕ) (add : ℤ) → IsBend add bend → 0 < tick_at first interval add k
    → tick_at first interval add k + 1024 * triangle k ≡ first + k * interval + bend * triangle k
tick_bend first interval k bend (pos a) is some = bend_tick first interval k bend (pos a) is (let times : bend * triangle k ≡ (a + 1024) * triangle k = ap (λ b. b * triangle k) is in omega (arith, times))
tick_bend first interval k bend (negsuc a) is some = bend_tick first interval k bend (negsuc a) is (let times : (bend + (a + 1)) * triangle k ≡ 1024 * triangle k = ap (λ b. b * triangle k) is in omega (arith, times, some))

-- the tick of a step that is reached
reached_tick : (behind : ℕ) (ws : List Window) (bend interval count : ℕ) (add : ℤ) → IsBend add bend → IsReach behind ws bend interval count → (k : ℕ) → k < count
    → tick_at (behind + interval) interval add k + 1024 * triangle k ≡ behind + interval + k * interval + bend * triangle k
reached_tick behind ws bend interval count add bends is k below =
    bend_tick (behind + interval) interval k bend add bends (let early = is.meets.not_early k below in omega (arith, early))

pub reach_covers : (behind : ℕ) (ws : List Window) (bend interval count : ℕ) (add : ℤ) → IsBend add bend → 0 < count → IsReach behind ws bend interval count
    → Covers behind (behind + interval) interval count add ws
reach_covers behind ws bend interval count add bends some is = record {
  some = some;
  within = is.within;
  after = let positive = is.meets.some in omega (arith, positive);
  continues = refl;
  not_early = λ k below. let tick = reached_tick behind ws bend interval count add bends is k below in let early = is.meets.not_early k below in omega (arith, tick, early);
  not_late = λ k below. let tick = reached_tick behind ws bend interval count add bends is k below in let late = is.meets.not_late k below in omega (arith, tick, late);
  one_way = is.one_way;
  near = λ k below.
      let here = reached_tick behind ws bend interval count add bends is k (omega arith) in
      let next = reached_tick behind ws bend interval count add bends is (k + 1) below in
      let near = is.meets.near (k + 1) below in
      let more = triangle-next k in
      let times : bend * triangle (k + 1) ≡ bend * (triangle k + (k + 1)) = ap (λ x. bend * x) more in
      omega (arith, here, next, near, more, times);
}

near_at : (behind interval count bend : ℕ) (add : ℤ) (ws : List Window) → AreAfter behind ws → IsBend add bend → IsCompared behind interval count add ws
    → (k : ℕ) → k < count → interval + bend * k < 2 ^ 32 + 1024 * k
near_at behind interval count bend add ws after bends is zero below = let small = is.interval_small in omega (arith, small)
near_at behind interval count bend add ws after bends is (suc k) below =
    let covers = is.covers in
    let within = covers.within in
    let e : suc k ≡ k + 1 = omega arith in
    let one = tick_bend (behind + interval) interval k bend add bends (let early = covers.not_early k (omega arith) in let low = after.after k (omega arith) in omega (arith, early, low)) in
    let two = tick_bend (behind + interval) interval (k + 1) bend add bends (let early = covers.not_early (k + 1) (omega arith) in let low = after.after (k + 1) (omega arith) in omega (arith, early, low)) in
    let near = covers.near k (omega arith) in
    let more = triangle-next k in
    let times : bend * triangle (k + 1) ≡ bend * (triangle k + (k + 1)) = ap (λ x. bend * x) more in
    rw e (omega (arith, one, two, near, more, times))

pub compared_reach : (behind interval count bend : ℕ) (add : ℤ) (ws : List Window) → AreAfter behind ws → IsBend add bend → IsCompared behind interval count add ws
    → IsReach behind ws bend interval count
compared_reach behind interval count bend add ws after bends is =
    let covers = is.covers in
    let within = covers.within in
    let tick : (k : ℕ) → k < count → tick_at (behind + interval) interval add k + 1024 * triangle k ≡ behind + interval + k * interval + bend * triangle k =
    λ k below. tick_bend (behind + interval) interval k bend add bends (let early = covers.not_early k below in let low = after.after k (omega arith) in omega (arith, early, low)) in
    record {
      within = within;
      count_small = is.count_small;
      meets = record {
        some = let positive = covers.after in omega (arith, positive);
        small = is.interval_small;
        not_early = λ k below. let t = tick k below in let early = covers.not_early k below in omega (arith, t, early);
        not_late = λ k below. let t = tick k below in let late = covers.not_late k below in omega (arith, t, late);
        near = near_at behind interval count bend add ws after bends is;
      };
      one_way = covers.one_way;
    }

pub most_longest : (behind : ℕ) (ws : List Window) (most : ℕ) → AreAfter behind ws → IsMostWithin behind ws 0 2048 most → IsLongest behind ws most
most_longest behind ws most after is interval other (pos a) compared =
    let bends : IsBend (pos a) (a + 1024) = refl in
    let high = compared.greatest_add in
    is (a + 1024) interval other (omega arith) (omega (arith, ints, high)) (compared_reach behind interval other (a + 1024) (pos a) ws after bends compared)
most_longest behind ws most after is interval other (negsuc a) compared =
    let low = compared.least_add in
    let small : a ≤ 1023 = omega (arith, ints, low) in
    let bends : IsBend (negsuc a) (1024 - (a + 1)) = omega arith in
    is (1024 - (a + 1)) interval other (omega arith) (omega arith) (compared_reach behind interval other (1024 - (a + 1)) (negsuc a) ws after bends compared)

-- the last tick of a triple, as the code counts it
triangle_before : (n p : ℕ) → n ≡ p + 1 → n * (n - 1) / 2 ≡ triangle p
triangle_before n p e =
    let f : n - 1 ≡ p = omega arith in
    let times : n * (n - 1) ≡ p * (p + 1) = rw (f, e) (omega arith) in
    ap (λ x. x / 2) times

last_sum : (behind : ℕ) (ws : List Window) (bend interval n p : ℕ) (add : ℤ) → n ≡ p + 1 → IsBend add bend → IsReach behind ws bend interval n
    → tick_at (behind + interval) interval add p + 1024 * (n * (n - 1) / 2) ≡ behind + n * interval + bend * (n * (n - 1) / 2)
last_sum behind ws bend interval n p add e bends is =
    let times = triangle_before n p e in
    let tick = reached_tick behind ws bend interval n add bends is p (omega arith) in
    rw (times, e) (omega (arith, tick))

pub last_enough : (behind : ℕ) (ws : List Window) (bend interval n : ℕ) → 0 < n → AreAfter behind ws → IsReach behind ws bend interval n → 1024 * (n * (n - 1) / 2) ≤ n * interval + bend * (n * (n - 1) / 2)
last_enough behind ws bend interval n some after is =
    let e : n ≡ n - 1 + 1 = omega arith in
    let times = triangle_before n (n - 1) e in
    let within = is.within in
    let low = after.after (n - 1) (omega arith) in
    let early = is.meets.not_early (n - 1) (omega arith) in
    let one : (n - 1 + 1) * interval ≡ n * interval = ap (λ x. x * interval) (sym e) in
    rw times (omega (arith, early, low, one))

pub last_tick : (behind : ℕ) (ws : List Window) (bend interval n : ℕ) (add : ℤ) → 0 < n → IsBend add bend → AreAfter behind ws → IsReach behind ws bend interval n
    → behind + (n * interval + bend * (n * (n - 1) / 2) - 1024 * (n * (n - 1) / 2)) ≡ tick_at (behind + interval) interval add (n - 1)
last_tick behind ws bend interval n add some bends after is =
    let sum = last_sum behind ws bend interval n (n - 1) add (omega arith) bends is in
    let enough = last_enough behind ws bend interval n some after is in
    omega (arith, sum, enough)

pub last_within : (behind : ℕ) (ws : List Window) (bend interval n : ℕ) → 0 < n → AreAfter behind ws → IsReach behind ws bend interval n
    → behind + (n * interval + bend * (n * (n - 1) / 2) - 1024 * (n * (n - 1) / 2)) ≤ (window_at ws (n - 1)).high
last_within behind ws bend interval n some after is =
    let e : n ≡ n - 1 + 1 = omega arith in
    let times = triangle_before n (n - 1) e in
    let enough = last_enough behind ws bend interval n some after is in
    let late = is.meets.not_late (n - 1) (omega arith) in
    let one : (n - 1 + 1) * interval ≡ n * interval = ap (λ x. x * interval) (sym e) in
    let fine : 1024 * triangle (n - 1) ≤ n * interval + bend * triangle (n - 1) = rw times at enough in
    rw times (omega (arith, late, one, fine))

pub first_within : (behind : ℕ) (ws : List Window) (bend interval n : ℕ) → 0 < n → IsReach behind ws bend interval n → behind + interval ≤ (window_at ws 0).high
first_within behind ws bend interval n some is = let late = is.meets.not_late 0 some in omega (arith, late)

some_sum : (first interval i : ℕ) (add : ℤ) → 0 < tick_at first interval add i → IsSum (tick_at first interval add i) (first + i * interval) add (i * (i + 1) / 2)
some_sum first interval i (pos a) some = refl
some_sum first interval i (negsuc a) some = omega (arith, some)

pub covered_rise : (behind first interval count : ℕ) (add : ℤ) (windows : List Window) → RunOn behind windows → Covers behind first interval count add windows → (i : ℕ) → i < count
    → IsSum (tick_at first interval add i) (first + i * interval) add (i * (i + 1) / 2) × (i + 1 < count → tick_at first interval add i < tick_at first interval add (i + 1))
covered_rise behind first interval count add windows run covers i below =
    let within = covers.within in
    let after = run_after behind windows run in
    let low = after.after i (omega arith) in
    let early = covers.not_early i below in (
      some_sum first interval i add (omega (arith, low, early)),
      λ more. let late = covers.not_late i below in let next = covers.not_early (i + 1) more in let between = run_next behind windows i run (omega arith) in omega (arith, late, next, between),
    )
