-- How many raw steps a stepper makes in a move.
use Rattle.std.proofs.Common.{◌≡◌, ℕ, ℤ, pos, negsuc, ◌+◌, ◌-◌, ◌*◌, ◌/◌, ◌%◌, ◌<◌, ◌≤◌, Bool, true, false, cond, eqb, List, [], ◌∷◌, ◌++◌, length, map, sum_by, refl, ap, ◌∙◌, arith, inl, inr, append_assoc, length-append}
use Rattle.std.specs.Prelude.{unsigned_abs, ◌≤ℤ◌, ◌<ℤ◌, ◌⊎◌, ◌*ℤ◌, ◌+ℤ◌}
use Rattle.std.specs.Int.{int_rem_euclid}
use Rattle.std.proofs.Math.Nat.{mul-le-mul, mul-le-mul_right, div-mul-le_self, le_of_mul-le-mul_left, le_of_mul-le-mul_right}
use Rattle.std.proofs.lemmas.Int.{ints}
use Rattle.std.proofs.lemmas.Nat.{mod_below}
use Rattle.std.proofs.lemmas.List.FromFn.{length-map-range_with_len}
use Rattle.std.proofs.lemmas.List.Sums.{sum_by-cons}
use Rattle.plan_types.specs.declared.plan.Gear.{Gear}
use Rattle.plan_types.specs.declared.plan.Line.{Line}
use Rattle.plan_types.specs.declared.plan.Move.{Move}
use Rattle.plan_types.specs.declared.plan.Part.{Part}
use Rattle.plan_types.specs.declared.plan.Segment.{Segment}
use Rattle.plan_types.specs.Sections.{TimedPart, segment_of, timed}
use Rattle.plan_types.specs.Steps.{place, counts_passed, raw_step, raw_steps, segment_steps}
use Rattle.plan_types.specs.Valid.{IsValidGear, IsValidMove}
use Rattle.step_ticks.proofs.Marks.{passed-up, passed-down}
use Rattle.section_plan.proofs.Places.{change-small}
use Rattle.section_plan.specs.Runs.{part_at, steps_of_move}
use Rattle.lookahead.proofs.Vectors.{some_product}

-- what is left of a number in a division that rounds down
pub record HasRest (z : ℤ) (d : ℕ) : Type 0 where
  pub rest : ℕ
  pub is : pos rest ≡ int_rem_euclid z (pos d)
  pub below : rest < d

rest-is : (z : ℤ) (d : ℕ) → 0 < d → HasRest z d
rest-is (pos a) d h = record { rest = a % d; is = omega (arith, ints); below = mod_below a d h }
rest-is (negsuc a) d h = let m = mod_below a d h in record { rest = d - 1 - a % d; is = omega (arith, ints); below = omega arith }

up-or-down : (z : ℤ) → (pos 0 ≤ℤ z) ⊎ (z <ℤ pos 0)
up-or-down (pos a) = inl (omega (arith, ints))
up-or-down (negsuc a) = inr (omega (arith, ints))

-- a quotient, times the divisor
quotient-small : (c a p y d : ℕ) → c ≡ (a + p * y) / d → a < d → c * d ≤ d + p * y
quotient-small c a p y d is below = let q = div-mul-le_self (a + p * y) d in let e : c * d ≡ (a + p * y) / d * d = ap (λ x. x * d) is in omega arith

count-quotient : (g : Gear) (s : Segment) (y d p : ℕ) → 0 < d → d ≡ 2 * g.distance * s.len → p ≡ unsigned_abs s.dp * (2 * g.steps) → counts_passed g s s.before (s.before + y) * d ≤ d + p * y
count-quotient g s y d p above each per =
    let r = rest-is (place s s.before *ℤ pos (2 * g.steps) +ℤ pos (g.distance * s.len)) d above in
    let below = r.below in
    elim (up-or-down s.dp) [
      | inl up ↦ quotient-small (counts_passed g s s.before (s.before + y)) r.rest p y d (passed-up g s r.rest p d y above each per up r.is) below
      | inr down ↦ quotient-small (counts_passed g s s.before (s.before + y)) (d - 1 - r.rest) p y d (passed-down g s r.rest p d y above below each per down r.is) (omega arith)
    ]

-- steps a millimetre are few, so the counts of a distance are
slope-small : (dp steps distance y : ℕ) → dp ≤ 3_000_000_000 → steps ≤ 102_400 → 100_000 ≤ distance → dp * (2 * steps) * y ≤ 2 * distance * (3_072_000_000 * y)
slope-small dp steps distance y h k l =
    let one = mul-le-mul h k in
    let two : dp * (2 * steps) ≤ 6_144_000_000 * distance = omega arith in
    let three = mul-le-mul_right y two in
    omega arith

cancelled : (k c n y : ℕ) → 0 < k → c * (k * n) ≤ k * n + k * y → c * n ≤ y + n
cancelled k c n y above h = let times : k * (c * n) ≤ k * (y + n) = omega arith in le_of_mul-le-mul_left times above

pub count-small : (g : Gear) (s : Segment) (y : ℕ) → IsValidGear g → 0 < s.len → unsigned_abs s.dp ≤ 3_000_000_000 → counts_passed g s s.before (s.before + y) * s.len ≤ 3_072_000_000 * y + s.len
count-small g s y gear some small =
    let k = 2 * g.distance in
    let low = gear.distance_low in
    let above : 0 < k = omega arith in
    let whole = some_product k s.len above some in
    let q = count-quotient g s y (2 * g.distance * s.len) (unsigned_abs s.dp * (2 * g.steps)) whole refl refl in
    let slope = slope-small (unsigned_abs s.dp) g.steps g.distance y small gear.steps_high low in
    cancelled k (counts_passed g s s.before (s.before + y)) s.len (3_072_000_000 * y) above (omega arith)

pub raw_steps-append : (g : Gear) (f : ℕ) (xs ys : List Segment) → raw_steps g f (xs ++ ys) ≡ raw_steps g f xs ++ raw_steps g f ys
raw_steps-append g f [] ys = refl
raw_steps-append g f (x ∷ xs) ys = rw append_assoc (ap (λ zs. segment_steps g f x ++ zs) (raw_steps-append g f xs ys))

-- what a list of parts that exist is, by the test of the first one
chosen : (P : List TimedPart → Type 0) (b : Bool) (xs ys : List TimedPart) → P xs → P ys → P (cond b xs ys)
chosen P true xs ys h k = h
chosen P false xs ys h k = k

-- the steps of some parts, times a length
abbrev steps_times : Gear → ℕ → Bool → ℕ → Line → ℕ → List TimedPart → ℕ
steps_times g f corexy drive line len ts = length (raw_steps g f (map (segment_of corexy drive line) ts)) * len

pub record HasFew (g : Gear) (f : ℕ) (corexy : Bool) (drive : ℕ) (line : Line) (len most : ℕ) (ts : List TimedPart) : Type 0 where
  pub few : steps_times g f corexy drive line len ts ≤ most

more-steps : (a b len x y z : ℕ) → a * len ≤ x + len → b * len ≤ y + z → (a + b) * len ≤ (x + y) + (len + z)
more-steps a b len x y z h k = omega arith

few-parts : (g : Gear) (f : ℕ) (corexy : Bool) (drive : ℕ) (line : Line) (m : Move) (before begin : ℕ) (ps : List Part) → IsValidGear g → IsValidMove m → drive < 4 → HasFew g f corexy drive line m.d (3_072_000_000 * sum_by (λ p. p.d) ps + length ps * m.d) (timed m before begin ps)
few-parts g f corexy drive line m before begin [] gear valid four = record { few = omega arith }
few-parts g f corexy drive line m before begin (p ∷ ps) gear valid four =
    let others = timed m (before + p.d) (begin + p.ns) ps in
    let here = part_at m p before begin in
    let segment = segment_of corexy drive line here in
    let later = few-parts g f corexy drive line m (before + p.d) (begin + p.ns) ps gear valid four in
    let small = later.few in
    let both : sum_by (λ (q : Part). q.d) (p ∷ ps) ≡ p.d + sum_by (λ (q : Part). q.d) ps = sum_by-cons (λ (q : Part). q.d) p ps in
    let count = counts_passed g segment before (before + p.d) in
    let own : count * m.d ≤ 3_072_000_000 * p.d + m.d = count-small g segment p.d gear valid.moves (change-small corexy drive m valid four) in
    let made : length (segment_steps g f segment) ≡ count = length-map-range_with_len (raw_step g f segment) 1 count in
    let all : length (raw_steps g f (map (segment_of corexy drive line) (here ∷ others))) ≡ count + length (raw_steps g f (map (segment_of corexy drive line) others)) = length-append (segment_steps g f segment) (raw_steps g f (map (segment_of corexy drive line) others)) ∙ ap (λ n. n + length (raw_steps g f (map (segment_of corexy drive line) others))) made in
    let sum = more-steps count (length (raw_steps g f (map (segment_of corexy drive line) others))) m.d (3_072_000_000 * p.d) (3_072_000_000 * sum_by (λ q. q.d) ps) (length ps * m.d) own small in
    let kept : steps_times g f corexy drive line m.d (here ∷ others) ≤ 3_072_000_000 * sum_by (λ q. q.d) (p ∷ ps) + length (p ∷ ps) * m.d = rw all (omega arith) in
    chosen (HasFew g f corexy drive line m.d (3_072_000_000 * sum_by (λ q. q.d) (p ∷ ps) + length (p ∷ ps) * m.d)) (eqb p.d 0) others (here ∷ others) (record { few = omega arith }) (record { few = kept })

pub few-steps : (g : Gear) (f : ℕ) (corexy : Bool) (drive : ℕ) (line : Line) (m : Move) (begin : ℕ) (ps : List Part) → IsValidGear g → IsValidMove m → drive < 4 → length ps ≡ 3 → sum_by (λ p. p.d) ps ≡ m.d → length (raw_steps g f (map (segment_of corexy drive line) (timed m 0 begin ps))) ≤ steps_of_move
few-steps g f corexy drive line m begin ps gear valid four three whole =
    let few = (few-parts g f corexy drive line m 0 begin ps gear valid four).few in
    let some = valid.moves in
    let n = length (raw_steps g f (map (segment_of corexy drive line) (timed m 0 begin ps))) in
    let e : length ps * m.d ≡ 3 * m.d = ap (λ x. x * m.d) three in
    let times : n * m.d ≤ 3_072_000_003 * m.d = omega arith in
    le_of_mul-le-mul_right times some

-- the steps of more segments
pub steps-more : (g : Gear) (f i : ℕ) (made here new : List Segment) → new ≡ made ++ here → length (raw_steps g f made) ≤ i * steps_of_move → length (raw_steps g f here) ≤ steps_of_move → length (raw_steps g f new) ≤ (i + 1) * steps_of_move
steps-more g f i made here new is before few =
    let both : length (raw_steps g f (made ++ here)) ≡ length (raw_steps g f made) + length (raw_steps g f here) = ap length (raw_steps-append g f made here) ∙ length-append (raw_steps g f made) (raw_steps g f here) in
    rw is (omega arith)
