-- The counts of a segment as marks on a line of whole numbers.
use Rattle.std.proofs.Common.{◌≡◌, ◌⊎◌, inl, inr, ℕ, suc, ◌+◌, ◌-◌, ◌*◌, ◌/◌, ◌%◌, ◌<◌, ◌≤◌, arith, refl, sym, ◌∙◌, ap, ℤ, pos, negsuc, ◌+ℤ◌, ◌-ℤ◌, ◌*ℤ◌, ◌≤ℤ◌, ◌<ℤ◌, unsigned_abs}
use Rattle.std.specs.Prelude.{nat_le, IsTrue, Bool, false, int_le}
use Rattle.std.specs.Int.{int_div_euclid, int_rem_euclid}
use Rattle.std.proofs.Math.Nat.{mul-le-mul_left, mul-le-mul_right, div-add-mod}
use Rattle.std.proofs.lemmas.Nat.{le-div, div-mul-add, div_below, mod_below}
use Rattle.std.proofs.lemmas.Int.{ints}
use Rattle.plan_types.specs.declared.plan.Segment.{Segment}
use Rattle.plan_types.specs.declared.plan.Gear.{Gear}
use Rattle.plan_types.specs.Steps.{place, counts_passed, distance_of, raw_step, reached}
use Rattle.plan_types.specs.Numbers.{first_from}
use Rattle.clock_line.proofs.Firsts.{first_from-least}
use Rattle.std.proofs.lemmas.Bool.{cases_lt}
use Rattle.std.proofs.lemmas.Bool.Decides.{nat_tests}

-- a number is its quotient times the divisor and the remainder
pub quotient-remainder : (z : ℤ) (d : ℕ) → 0 < d → (r : ℕ) → pos r ≡ int_rem_euclid z (pos d) → z ≡ int_div_euclid z (pos d) *ℤ pos d +ℤ pos r
quotient-remainder (pos a) d h r e = let q = div-add-mod a d in let s : r ≡ a % d = omega (arith, ints) in omega (arith, ints)
quotient-remainder (negsuc a) d h r e = let q = div-add-mod a d in let m = mod_below a d h in let s : r ≡ d - 1 - a % d = omega (arith, ints) in omega (arith, ints)

-- the quotient of a number in that form
pub quotient-at : (q : ℤ) (d u : ℕ) → u < d → int_div_euclid (q *ℤ pos d +ℤ pos u) (pos d) ≡ q
quotient-at (pos a) d u h = ap pos (div-mul-add a d u h)
quotient-at (negsuc a) d u h =
    let below : d - u - 1 < d = omega arith in
    let e : (negsuc a *ℤ pos d +ℤ pos u) ≡ negsuc (a * d + (d - u - 1)) = omega (arith, ints) in
    rw e (ap negsuc (div-mul-add a d (d - u - 1) below))

-- a sum times a number
times-by : (q z : ℤ) (t d : ℕ) → z ≡ q +ℤ pos t → z *ℤ pos d ≡ q *ℤ pos d +ℤ pos (t * d)
times-by (pos a) (pos e) t d h = let s : e ≡ a + t = omega (arith, ints) in rw s (omega (arith, ints))
times-by (pos a) (negsuc e) t d h = absurd (omega (arith, ints))
times-by (negsuc a) (pos e) t d h = let s : t ≡ suc a + e = omega (arith, ints) in rw s (omega (arith, ints))
times-by (negsuc a) (negsuc e) t d h = let s : a ≡ e + t = omega (arith, ints) in rw s (omega (arith, ints))

-- the quotients of a number and of a greater one
grows-whole : (q : ℤ) (d r p t u : ℕ) → d * t + u ≡ r + p → (q *ℤ pos d +ℤ pos r) +ℤ pos p ≡ (q +ℤ pos t) *ℤ pos d +ℤ pos u
grows-whole q d r p t u h = let m = times-by q (q +ℤ pos t) t d refl in omega (arith, ints)

falls-whole : (q : ℤ) (d r p t u : ℕ) → u < d → r < d → d * t + u ≡ d - 1 - r + p → (q *ℤ pos d +ℤ pos r) -ℤ pos p ≡ (q -ℤ pos t) *ℤ pos d +ℤ pos (d - 1 - u)
falls-whole q d r p t u low below h = let m = times-by (q -ℤ pos t) q t d (omega (arith, ints)) in omega (arith, ints)

gap-up : (q : ℤ) (t : ℕ) → unsigned_abs ((q +ℤ pos t) -ℤ q) ≡ t
gap-up q t = omega (arith, ints)

gap-down : (q : ℤ) (t : ℕ) → unsigned_abs ((q -ℤ pos t) -ℤ q) ≡ t
gap-down q t = omega (arith, ints)

pub grows : (z w : ℤ) (d r p : ℕ) → 0 < d → pos r ≡ int_rem_euclid z (pos d) → w ≡ z +ℤ pos p → unsigned_abs (int_div_euclid w (pos d) -ℤ int_div_euclid z (pos d)) ≡ (r + p) / d
grows z w d r p above e more =
    let q = int_div_euclid z (pos d) in
    let start = quotient-remainder z d above r e in
    let same : w ≡ (q +ℤ pos ((r + p) / d)) *ℤ pos d +ℤ pos ((r + p) % d) = more ∙ ap (λ y. y +ℤ pos p) start ∙ grows-whole q d r p ((r + p) / d) ((r + p) % d) (div-add-mod (r + p) d) in
    let found : int_div_euclid w (pos d) ≡ q +ℤ pos ((r + p) / d) = ap (λ y. int_div_euclid y (pos d)) same ∙ quotient-at (q +ℤ pos ((r + p) / d)) d ((r + p) % d) (mod_below (r + p) d above) in
    ap (λ y. unsigned_abs (y -ℤ q)) found ∙ gap-up q ((r + p) / d)

pub falls : (z w : ℤ) (d r p : ℕ) → 0 < d → r < d → pos r ≡ int_rem_euclid z (pos d) → w ≡ z -ℤ pos p → unsigned_abs (int_div_euclid w (pos d) -ℤ int_div_euclid z (pos d)) ≡ (d - 1 - r + p) / d
falls z w d r p above small e less =
    let q = int_div_euclid z (pos d) in
    let n = d - 1 - r + p in
    let start = quotient-remainder z d above r e in
    let same : w ≡ (q -ℤ pos (n / d)) *ℤ pos d +ℤ pos (d - 1 - n % d) = less ∙ ap (λ y. y -ℤ pos p) start ∙ falls-whole q d r p (n / d) (n % d) (mod_below n d above) small (div-add-mod n d) in
    let found : int_div_euclid w (pos d) ≡ q -ℤ pos (n / d) = ap (λ y. int_div_euclid y (pos d)) same ∙ quotient-at (q -ℤ pos (n / d)) d (d - 1 - n % d) (let m = mod_below n d above in omega arith) in
    ap (λ y. unsigned_abs (y -ℤ q)) found ∙ gap-down q (n / d)

-- the count at a place that is some way further, up or down
pub moves-up : (a z : ℤ) (dp : ℕ) (c h x y : ℕ) → ((a +ℤ pos dp *ℤ pos (x + y)) *ℤ pos c +ℤ pos h) ≡ ((a +ℤ pos dp *ℤ pos x) *ℤ pos c +ℤ pos h) +ℤ pos (dp * c * y)
moves-up a z dp c h x y = let m = times-by (a +ℤ pos dp *ℤ pos x) (a +ℤ pos dp *ℤ pos (x + y)) (dp * y) c (omega (arith, ints)) in omega (arith, ints)

pub moves-down : (a z : ℤ) (dp : ℕ) (c h x y : ℕ) → ((a +ℤ negsuc dp *ℤ pos (x + y)) *ℤ pos c +ℤ pos h) ≡ ((a +ℤ negsuc dp *ℤ pos x) *ℤ pos c +ℤ pos h) -ℤ pos (suc dp * c * y)
moves-down a z dp c h x y = let m = times-by (a +ℤ negsuc dp *ℤ pos (x + y)) (a +ℤ negsuc dp *ℤ pos x) (suc dp * y) c (omega (arith, ints)) in omega (arith, ints)

-- once a mark is the first at or above the k-th count, its distance is the least at which k counts have come
pub mark-passes : (ahead per each k y over : ℕ) → 0 < each → ahead + per * y ≡ k * each + over → IsTrue (nat_le k ((ahead + per * y) / each))
mark-passes ahead per each k y over above at = let q = le-div k (ahead + per * y) each above (omega arith) in grind (arith, nat_tests)

pub mark-before : (ahead per each k y over m : ℕ) → 0 < each → ahead + per * y ≡ k * each + over → over < per → m < y → nat_le k ((ahead + per * m) / each) ≡ false
mark-before ahead per each k y over m above at small less =
    let l : m + 1 ≤ y = omega arith in
    let p = mul-le-mul_left per l in
    let q = div_below (ahead + per * m) each k above (omega arith) in
    grind (arith, nat_tests)

outside : (per y d : ℕ) → per * y < per * (d + 1) → y ≤ d
outside per y d h = elim (cases_lt d y) [ inl less ↦ (let l : d + 1 ≤ y = omega arith in let p = mul-le-mul_left per l in absurd (omega arith)) | inr fine ↦ fine ]

pub mark-inside : (ahead per each count k y over d : ℕ) → 0 < each → count ≡ (ahead + per * d) / each → k < count → ahead + per * y ≡ (k + 1) * each + over → over < per → y ≤ d
mark-inside ahead per each count k y over d above is before at small =
    let whole : each * count + (ahead + per * d) % each ≡ ahead + per * d = rw is (div-add-mod (ahead + per * d) each) in
    let l : k + 1 ≤ count = omega arith in
    let p = mul-le-mul_left each l in
    let inside : per * y < per * (d + 1) = omega arith in
    outside per y d inside

further-up : (a dp : ℤ) (c h x y p : ℕ) → pos 0 ≤ℤ dp → p ≡ unsigned_abs dp * c → ((a +ℤ dp *ℤ pos (x + y)) *ℤ pos c +ℤ pos h) ≡ ((a +ℤ dp *ℤ pos x) *ℤ pos c +ℤ pos h) +ℤ pos (p * y)
further-up a (pos n) c h x y p up e = rw e (moves-up a a n c h x y)
further-up a (negsuc n) c h x y p up e = absurd (omega (arith, ints))

further-down : (a dp : ℤ) (c h x y p : ℕ) → dp <ℤ pos 0 → p ≡ unsigned_abs dp * c → ((a +ℤ dp *ℤ pos (x + y)) *ℤ pos c +ℤ pos h) ≡ ((a +ℤ dp *ℤ pos x) *ℤ pos c +ℤ pos h) -ℤ pos (p * y)
further-down a (pos n) c h x y p down e = absurd (omega (arith, ints))
further-down a (negsuc n) c h x y p down e = rw e (moves-down a a n c h x y)

-- the counts that a segment passes, up or down
pub passed-up : (g : Gear) (s : Segment) (r p d y : ℕ) → 0 < d → d ≡ 2 * g.distance * s.len → p ≡ unsigned_abs s.dp * (2 * g.steps) → pos 0 ≤ℤ s.dp → pos r ≡ int_rem_euclid (place s s.before *ℤ pos (2 * g.steps) +ℤ pos (g.distance * s.len)) (pos d) → counts_passed g s s.before (s.before + y) ≡ (r + p * y) / d
passed-up g s r p d y above each per up rest =
    let c = 2 * g.steps in
    let h = g.distance * s.len in
    let more = further-up (s.p0 *ℤ pos s.len) s.dp c h s.before y p up per in
    rw (← each) (grows (place s s.before *ℤ pos c +ℤ pos h) (place s (s.before + y) *ℤ pos c +ℤ pos h) d r (p * y) above rest more)

pub passed-down : (g : Gear) (s : Segment) (r p d y : ℕ) → 0 < d → r < d → d ≡ 2 * g.distance * s.len → p ≡ unsigned_abs s.dp * (2 * g.steps) → s.dp <ℤ pos 0 → pos r ≡ int_rem_euclid (place s s.before *ℤ pos (2 * g.steps) +ℤ pos (g.distance * s.len)) (pos d) → counts_passed g s s.before (s.before + y) ≡ (d - 1 - r + p * y) / d
passed-down g s r p d y above below each per down rest =
    let c = 2 * g.steps in
    let h = g.distance * s.len in
    let less = further-down (s.p0 *ℤ pos s.len) s.dp c h s.before y p down per in
    rw (← each) (falls (place s s.before *ℤ pos c +ℤ pos h) (place s (s.before + y) *ℤ pos c +ℤ pos h) d r (p * y) above below rest less)

-- the distance of a count, from its mark
pub distance-is : (g : Gear) (s : Segment) (ahead per each k at over : ℕ) → 0 < each → ((y : ℕ) → counts_passed g s s.before (s.before + y) ≡ (ahead + per * y) / each) → ahead + per * at ≡ k * each + over → over < per → at ≤ s.d → distance_of g s k ≡ s.before + at
distance-is g s ahead per each k at over above passed is small inside =
    let p = λ (x : ℕ). nat_le k (counts_passed g s s.before x) in
    first_from-least p s.d s.before (s.before + at) (record {
      from = omega arith;
      passes = (rw (passed at) (mark-passes ahead per each k at over above is));
      before = λ m h less. (
          let e : m ≡ s.before + (m - s.before) = omega arith in
          let count : counts_passed g s s.before m ≡ (ahead + per * (m - s.before)) / each = ap (counts_passed g s s.before) e ∙ passed (m - s.before) in
          ap (nat_le k) count ∙ mark-before ahead per each k at over (m - s.before) above is small (omega arith));
    }) (omega arith)

pub step-is : (g : Gear) (f : ℕ) (s : Segment) (ahead per each k at over : ℕ) → 0 < each → ((y : ℕ) → counts_passed g s s.before (s.before + y) ≡ (ahead + per * y) / each) → ahead + per * at ≡ k * each + over → over < per → at ≤ s.d → raw_step g f s k ≡ record { tick = first_from (reached s f at) s.start s.dur; up = int_le (pos 0) s.dp }
step-is g f s ahead per each k at over above passed is small inside =
    let e : distance_of g s k - s.before ≡ at = ap (λ x. x - s.before) (distance-is g s ahead per each k at over above passed is small inside) ∙ omega arith in
    ap (λ x. record { tick = first_from (reached s f x) s.start s.dur; up = int_le (pos 0) s.dp }) e

-- a stepper that does not move has no counts
pub none-passed : (g : Gear) (s : Segment) (ahead per each : ℕ) → ahead < each → per ≡ 0 → ((y : ℕ) → counts_passed g s s.before (s.before + y) ≡ (ahead + per * y) / each) → counts_passed g s s.before (s.before + s.d) ≡ 0
none-passed g s ahead per each small none passed =
    let below : (ahead + per * s.d) / each < 1 = div_below (ahead + per * s.d) each 1 (omega arith) (rw none (omega arith)) in
    passed s.d ∙ omega arith
