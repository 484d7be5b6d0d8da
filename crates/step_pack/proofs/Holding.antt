-- Bounds that hold on.
use Rattle.std.proofs.Common.{◌≡◌, ℕ, ◌+◌, ◌-◌, ◌*◌, ◌/◌, ◌^◌, ◌<◌, ◌≤◌, List, arith, below_more, inl, inr}
use Rattle.std.proofs.Math.Nat.{mul-le-mul_left, mul-le-mul_right}
use Rattle.std.proofs.lemmas.Bool.{cases_lt}
use Rattle.plan_types.specs.declared.plan.Window.{Window}
use Rattle.step_pack.specs.declared.Bounds.{Bounds}
use Rattle.step_pack.specs.declared.Verdict.{Verdict}
use Rattle.step_pack.specs.declared.Verdict.TheVariants.{TooGreat, TooSmall, Own}
use Rattle.plan_types.specs.Packing.{window_at}
use Rattle.step_pack.specs.Bounds.{triangle, Meets, AreBounds, NoneMeets}
use Rattle.step_pack.proofs.Numbers.{slopes, cross_great, cross_small, up_least, up_enough, down_greatest, down_within}

pub less_low : {behind : ℕ} {ws : List Window} {l h n o i : ℕ} → Meets behind ws (l + 1) h n o i → Meets behind ws l h n o i
less_low m = record { some = m.some; small = m.small; not_early = λ k below. m.not_early k (omega arith); not_late = m.not_late; near = m.near }

pub less_high : {behind : ℕ} {ws : List Window} {l h n o i : ℕ} → Meets behind ws l (h + 1) n o i → Meets behind ws l h n o i
less_high m = record { some = m.some; small = m.small; not_early = m.not_early; not_late = λ k below. m.not_late k (omega arith); near = m.near }

pub less_near : {behind : ℕ} {ws : List Window} {l h n o i : ℕ} → Meets behind ws l h (n + 1) o i → Meets behind ws l h n o i
less_near m = record { some = m.some; small = m.small; not_early = m.not_early; not_late = m.not_late; near = λ k below. m.near k (omega arith) }

-- the first tick of the step bounds nothing more
pub low_same : (behind : ℕ) (ws : List Window) (k bend t low : ℕ) (b : Bounds) → t ≡ triangle k → low + behind ≡ (window_at ws k).low + 1024 * t
    → low ≤ (k + 1) * b.least + bend * t → AreBounds behind ws k k k bend b → AreBounds behind ws (k + 1) k k bend b
low_same behind ws k bend t low b te lowe fine is = record {
  some = is.some;
  order = is.order;
  small = is.small;
  least = λ i m. is.least i (less_low m);
  greatest = λ i m. is.greatest i (less_low m);
  all = λ i from to. let m = is.all i from to in record {
    some = m.some;
    small = m.small;
    not_early = below_more _ _ m.not_early (let more = mul-le-mul_left (k + 1) from in rw (← te) (omega (arith, more, lowe, fine)));
    not_late = m.not_late;
    near = m.near;
  };
  low_place = let p = is.low_place in omega arith;
  low_line = λ o i m. is.low_line o i (less_low m);
  high_place = let p = is.high_place in omega arith;
  high_line = λ o i m. is.high_line o i (less_low m);
}

-- what a step that is not early says of the interval
low_fact : (behind : ℕ) (ws : List Window) (k bend o i t low low_at : ℕ) → t ≡ triangle k → low + behind ≡ (window_at ws k).low + 1024 * t → low_at + bend * t ≡ low
    → Meets behind ws (k + 1) k k o i → low_at + bend * triangle k ≤ (k + 1) * i + o * triangle k
low_fact behind ws k bend o i t low low_at te lowe ate m =
    let fact = m.not_early k (omega arith) in
    let same : (window_at ws k).low + 1024 * t ≤ behind + (k + 1) * i + o * t = rw te fact in
    rw (← te) (omega (arith, same, lowe, ate))

pub low_more : (behind : ℕ) (ws : List Window) (k bend t low low_at : ℕ) (b : Bounds) → t ≡ triangle k → low + behind ≡ (window_at ws k).low + 1024 * t → low_at + bend * t ≡ low
    → (k + 1) * b.least + bend * t < low → (low_at + k) / (k + 1) ≤ b.greatest → AreBounds behind ws k k k bend b
    → AreBounds behind ws (k + 1) k k bend (record { least = (low_at + k) / (k + 1); greatest = b.greatest; low_place = k; low_at = low_at; high_place = b.high_place; high_at = b.high_at })
low_more behind ws k bend t low low_at b te lowe ate over order is =
    let least = (low_at + k) / (k + 1) in
    let enough : low_at ≤ (k + 1) * least = up_enough low_at k least (omega arith) in
    let more : b.least < least = elim (cases_lt b.least least) [ inl fine ↦ fine | inr not ↦ absurd (let times = mul-le-mul_left (k + 1) not in omega (arith, times, enough, ate, over)) ] in
    let least_is : (i : ℕ) → Meets behind ws (k + 1) k k bend i → least ≤ i = λ i m. up_least low_at k i (let fact = low_fact behind ws k bend bend i t low low_at te lowe ate m in omega (arith, fact)) in
    record {
      some = omega arith;
      order = order;
      small = is.small;
      least = least_is;
      greatest = λ i m. is.greatest i (less_low m);
      all = λ i from to. let m = is.all i (omega arith) to in record {
        some = m.some;
        small = m.small;
        not_early = below_more _ _ m.not_early (let times = mul-le-mul_left (k + 1) from in rw (← te) (omega (arith, times, enough, lowe, ate)));
        not_late = m.not_late;
        near = m.near;
      };
      low_place = omega arith;
      low_line = λ o i m. low_fact behind ws k bend o i t low low_at te lowe ate m;
      high_place = is.high_place;
      high_line = λ o i m. is.high_line o i (less_low m);
    }

pub low_stops_own : (behind : ℕ) (ws : List Window) (k bend t low low_at : ℕ) (b : Bounds) → t ≡ triangle k → low + behind ≡ (window_at ws k).low + 1024 * t → low_at + bend * t ≡ low
    → b.greatest < (low_at + k) / (k + 1) → AreBounds behind ws k k k bend b → NoneMeets behind ws (k + 1) k k bend Own
low_stops_own behind ws k bend t low low_at b te lowe ate over is o i e m =
    let m2 : Meets behind ws (k + 1) k k bend i = rw (← e) m in
    let fact = low_fact behind ws k bend bend i t low low_at te lowe ate m2 in
    let least = up_least low_at k i (omega (arith, fact)) in
    let greatest = is.greatest i (less_low m2) in
    omega (arith, least, greatest, over)

pub low_stops_small : (behind : ℕ) (ws : List Window) (k bend t low low_at more : ℕ) (b : Bounds) → t ≡ triangle k → low + behind ≡ (window_at ws k).low + 1024 * t → low_at + bend * t ≡ low
    → b.high_at * (k + 1) < low_at * (b.high_place + 1) → more * ((b.high_place + 1) * (k + 1) * (k - b.high_place)) < 2 * (low_at * (b.high_place + 1) - b.high_at * (k + 1))
    → AreBounds behind ws k k k bend b → NoneMeets behind ws (k + 1) k k bend (TooSmall more)
low_stops_small behind ws k bend t low low_at more b te lowe ate strict far is o i order m =
    cross_small b.high_place k bend o more i low_at b.high_at (triangle b.high_place) (triangle k) ((b.high_place + 1) * (k + 1) * (k - b.high_place)) order (slopes b.high_place k (let p = is.high_place in omega arith))
    (is.high_line o i (less_low m)) (low_fact behind ws k bend o i t low low_at te lowe ate m) strict far

-- the last tick of the step bounds nothing more
pub high_same : (behind : ℕ) (ws : List Window) (k bend t high : ℕ) (b : Bounds) → t ≡ triangle k → high + behind ≡ (window_at ws k).high + 1024 * t
    → (k + 1) * b.greatest + bend * t ≤ high → AreBounds behind ws (k + 1) k k bend b → AreBounds behind ws (k + 1) (k + 1) k bend b
high_same behind ws k bend t high b te highe fine is = record {
  some = is.some;
  order = is.order;
  small = is.small;
  least = λ i m. is.least i (less_high m);
  greatest = λ i m. is.greatest i (less_high m);
  all = λ i from to. let m = is.all i from to in record {
    some = m.some;
    small = m.small;
    not_early = m.not_early;
    not_late = below_more _ _ m.not_late (let less = mul-le-mul_left (k + 1) to in rw (← te) (omega (arith, less, highe, fine)));
    near = m.near;
  };
  low_place = let p = is.low_place in omega arith;
  low_line = λ o i m. is.low_line o i (less_high m);
  high_place = let p = is.high_place in omega arith;
  high_line = λ o i m. is.high_line o i (less_high m);
}

-- what a step that is not late says of the interval
high_fact : (behind : ℕ) (ws : List Window) (k o i t high : ℕ) → t ≡ triangle k → high + behind ≡ (window_at ws k).high + 1024 * t
    → Meets behind ws (k + 1) (k + 1) k o i → (k + 1) * i + o * t ≤ high
high_fact behind ws k o i t high te highe m =
    let fact = m.not_late k (omega arith) in
    let same : behind + (k + 1) * i + o * t ≤ (window_at ws k).high + 1024 * t = rw te fact in
    omega (arith, same, highe)

high_line : (behind : ℕ) (ws : List Window) (k bend o i t high high_at : ℕ) → t ≡ triangle k → high + behind ≡ (window_at ws k).high + 1024 * t → high_at + bend * t ≡ high
    → Meets behind ws (k + 1) (k + 1) k o i → (k + 1) * i + o * triangle k ≤ high_at + bend * triangle k
high_line behind ws k bend o i t high high_at te highe ate m =
    let fact = high_fact behind ws k o i t high te highe m in
    rw (← te) (omega (arith, fact, ate))

pub high_more : (behind : ℕ) (ws : List Window) (k bend t high high_at : ℕ) (b : Bounds) → t ≡ triangle k → high + behind ≡ (window_at ws k).high + 1024 * t → high_at + bend * t ≡ high
    → high < (k + 1) * b.greatest + bend * t → b.least ≤ high_at / (k + 1) → AreBounds behind ws (k + 1) k k bend b
    → AreBounds behind ws (k + 1) (k + 1) k bend (record { least = b.least; greatest = high_at / (k + 1); low_place = b.low_place; low_at = b.low_at; high_place = k; high_at = high_at })
high_more behind ws k bend t high high_at b te highe ate over order is =
    let greatest = high_at / (k + 1) in
    let within : (k + 1) * greatest ≤ high_at = down_within high_at k greatest (omega arith) in
    let less : greatest < b.greatest = elim (cases_lt greatest b.greatest) [ inl fine ↦ fine | inr not ↦ absurd (let times = mul-le-mul_left (k + 1) not in omega (arith, times, within, ate, over)) ] in
    let greatest_is : (i : ℕ) → Meets behind ws (k + 1) (k + 1) k bend i → i ≤ greatest = λ i m. down_greatest high_at k i (let fact = high_fact behind ws k bend i t high te highe m in omega (arith, fact, ate)) in
    let small = is.small in
    record {
      some = is.some;
      order = order;
      small = omega arith;
      least = λ i m. is.least i (less_high m);
      greatest = greatest_is;
      all = λ i from to. let m = is.all i from (omega arith) in record {
        some = m.some;
        small = m.small;
        not_early = m.not_early;
        not_late = below_more _ _ m.not_late (let times = mul-le-mul_left (k + 1) to in rw (← te) (omega (arith, times, within, highe, ate)));
        near = m.near;
      };
      low_place = let p = is.low_place in omega arith;
      low_line = λ o i m. is.low_line o i (less_high m);
      high_place = omega arith;
      high_line = λ o i m. high_line behind ws k bend o i t high high_at te highe ate m;
    }

pub high_stops_own : (behind : ℕ) (ws : List Window) (k bend t high high_at : ℕ) (b : Bounds) → t ≡ triangle k → high + behind ≡ (window_at ws k).high + 1024 * t → high_at + bend * t ≡ high
    → high_at / (k + 1) < b.least → AreBounds behind ws (k + 1) k k bend b → NoneMeets behind ws (k + 1) (k + 1) k bend Own
high_stops_own behind ws k bend t high high_at b te highe ate over is o i e m =
    let m2 : Meets behind ws (k + 1) (k + 1) k bend i = rw (← e) m in
    let fact = high_fact behind ws k bend i t high te highe m2 in
    let greatest = down_greatest high_at k i (omega (arith, fact, ate)) in
    let least = is.least i (less_high m2) in
    omega (arith, least, greatest, over)

pub high_stops_great : (behind : ℕ) (ws : List Window) (k bend t high high_at less : ℕ) (b : Bounds) → t ≡ triangle k → high + behind ≡ (window_at ws k).high + 1024 * t → high_at + bend * t ≡ high
    → high_at * (b.low_place + 1) < b.low_at * (k + 1) → less * ((b.low_place + 1) * (k + 1) * (k - b.low_place)) < 2 * (b.low_at * (k + 1) - high_at * (b.low_place + 1))
    → AreBounds behind ws (k + 1) k k bend b → NoneMeets behind ws (k + 1) (k + 1) k bend (TooGreat less)
high_stops_great behind ws k bend t high high_at less b te highe ate strict far is o i order m =
    cross_great b.low_place k bend o less i b.low_at high_at (triangle b.low_place) (triangle k) ((b.low_place + 1) * (k + 1) * (k - b.low_place)) order (slopes b.low_place k (let p = is.low_place in omega arith))
    (is.low_line o i (less_high m)) (high_line behind ws k bend o i t high high_at te highe ate m) strict far

-- the add alone is too great
pub high_below : (behind : ℕ) (ws : List Window) (k bend t high : ℕ) → t ≡ triangle k → high + behind ≡ (window_at ws k).high + 1024 * t
    → high < bend * t → NoneMeets behind ws (k + 1) (k + 1) k bend (TooGreat 0)
high_below behind ws k bend t high te highe over o i order m =
    let fact = high_fact behind ws k o i t high te highe m in
    let times = mul-le-mul_right t (let f : bend ≤ o = omega (arith, order) in f) in
    omega (arith, fact, times, over)

-- the distance from the step before bounds nothing more
pub near_same : (behind : ℕ) (ws : List Window) (k bend : ℕ) (b : Bounds) → b.greatest + bend * k < 2 ^ 32 + 1024 * k
    → AreBounds behind ws (k + 1) (k + 1) k bend b → AreBounds behind ws (k + 1) (k + 1) (k + 1) bend b
near_same behind ws k bend b fine is = record {
  some = is.some;
  order = is.order;
  small = is.small;
  least = λ i m. is.least i (less_near m);
  greatest = λ i m. is.greatest i (less_near m);
  all = λ i from to. let m = is.all i from to in record {
    some = m.some;
    small = m.small;
    not_early = m.not_early;
    not_late = m.not_late;
    near = below_more _ _ m.near (omega arith);
  };
  low_place = let p = is.low_place in omega arith;
  low_line = λ o i m. is.low_line o i (less_near m);
  high_place = let p = is.high_place in omega arith;
  high_line = λ o i m. is.high_line o i (less_near m);
}

pub near_more : (behind : ℕ) (ws : List Window) (k bend greatest : ℕ) (b : Bounds) → greatest + bend * k + 1 ≡ 2 ^ 32 + 1024 * k → b.least ≤ greatest → greatest ≤ b.greatest
    → AreBounds behind ws (k + 1) (k + 1) k bend b
    → AreBounds behind ws (k + 1) (k + 1) (k + 1) bend (record { least = b.least; greatest = greatest; low_place = b.low_place; low_at = b.low_at; high_place = 0; high_at = 4_294_967_295 })
near_more behind ws k bend greatest b e order less is =
    let small = is.small in
    record {
      some = is.some;
      order = order;
      small = omega arith;
      least = λ i m. is.least i (less_near m);
      greatest = λ i m. let fact = m.near k (omega arith) in omega (arith, fact, e);
      all = λ i from to. let m = is.all i from (omega arith) in record {
        some = m.some;
        small = m.small;
        not_early = m.not_early;
        not_late = m.not_late;
        near = below_more _ _ m.near (omega arith);
      };
      low_place = let p = is.low_place in omega arith;
      low_line = λ o i m. is.low_line o i (less_near m);
      high_place = omega arith;
      high_line = λ o i m. let small = m.small in omega (arith, small);
    }

pub near_stops : (behind : ℕ) (ws : List Window) (k bend : ℕ) (b : Bounds) → 2 ^ 32 + 1024 * k ≤ b.least + bend * k
    → AreBounds behind ws (k + 1) (k + 1) k bend b → NoneMeets behind ws (k + 1) (k + 1) (k + 1) bend Own
near_stops behind ws k bend b over is o i e m =
    let m2 : Meets behind ws (k + 1) (k + 1) (k + 1) bend i = rw (← e) m in
    let fact = m2.near k (omega arith) in
    let least = is.least i (less_near m2) in
    omega (arith, fact, least, over)

-- a window that ends far away bounds nothing
pub high_far : (behind : ℕ) (ws : List Window) (k bend t : ℕ) (b : Bounds) → t ≡ triangle k → t < 2 ^ 31 → k < 65_535 → bend < 2048 → behind + 2 ^ 62 ≤ (window_at ws k).high
    → AreBounds behind ws (k + 1) k k bend b → AreBounds behind ws (k + 1) (k + 1) k bend b
high_far behind ws k bend t b te small place bends far is =
    let greatest = is.small in
    let one : (k + 1) * b.greatest ≤ 65_535 * b.greatest = mul-le-mul_right b.greatest (let s : k + 1 ≤ 65_535 = omega arith in s) in
    let two : bend * t ≤ 2048 * t = mul-le-mul_right t (let s : bend ≤ 2048 = omega arith in s) in
    high_same behind ws k bend t ((window_at ws k).high - behind + 1024 * t) b te (omega arith) (omega (arith, one, two, greatest, small, far)) is

pub none_high : (behind : ℕ) (ws : List Window) (l h n bend : ℕ) (v : Verdict) → NoneMeets behind ws l h n bend v → NoneMeets behind ws l (h + 1) n bend v
none_high behind ws l h n bend v none o i rules m = none o i rules (less_high m)

pub none_near : (behind : ℕ) (ws : List Window) (l h n bend : ℕ) (v : Verdict) → NoneMeets behind ws l h n bend v → NoneMeets behind ws l h (n + 1) bend v
none_near behind ws l h n bend v none o i rules m = none o i rules (less_near m)
