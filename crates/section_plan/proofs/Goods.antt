-- The segments of the parts of a move can be stepped, and have few steps.
use Rattle.std.proofs.Common.{◌≡◌, ℕ, suc, ◌+◌, ◌-◌, ◌*◌, ◌/◌, ◌<◌, ◌≤◌, ◌^◌, Bool, true, false, cond, eqb, List, [], ◌∷◌, map, All, sum_by, refl, arith}
use Rattle.std.proofs.Math.Nat.{mul-le-mul_right}
use Rattle.std.proofs.lemmas.Bool.Decides.{nat_tests}
use Rattle.std.proofs.lemmas.List.Elements.{All-cons, All-nil}
use Rattle.std.proofs.lemmas.List.Sums.{sum_by-cons}
use Rattle.plan_types.specs.declared.plan.Line.{Line}
use Rattle.plan_types.specs.declared.plan.Move.{Move}
use Rattle.plan_types.specs.declared.plan.Part.{Part}
use Rattle.plan_types.specs.Clock.{tick, tick_limit}
use Rattle.plan_types.specs.Sections.{TimedPart, duration, segment_of, timed}
use Rattle.plan_types.specs.Valid.{IsValidLine}
use Rattle.clock_line.proofs.Holding.{tick-mono}
use Rattle.trapezoid.specs.Timing.{IsTimed}
use Rattle.section_plan.proofs.Places.{coordinate-small, change-small}
use Rattle.section_plan.specs.Runs.{IsShortMove, IsGoodSegment, part_at}

-- how many whole units lie between two numbers
units-between : (x y : ℕ) → ((x + y) / 1_000_000_000 - x / 1_000_000_000 - 1) * 1_000_000_000 ≤ y
units-between x y = omega arith

-- a time that is short enough for its distance takes few enough ticks
few-ticks : (k ns v d f : ℕ) → k * 1_000_000_000 ≤ ns * f → ns * v ≤ 2 * d * 1_000_000_000 → k * v ≤ 2 * d * f
few-ticks k ns v d f h timed =
    let one = mul-le-mul_right v h in
    let two = mul-le-mul_right f timed in
    omega arith

ticks-between : (line : Line) (begin ns : ℕ) → line.at ≤ begin → (tick line (begin + ns) - tick line begin - 1) * 1_000_000_000 ≤ ns * line.freq
ticks-between line begin ns h =
    let u = units-between ((begin - line.at) * line.freq) (ns * line.freq) in
    let e : (begin + ns - line.at) * line.freq ≡ (begin - line.at) * line.freq + ns * line.freq = (let s : begin + ns - line.at ≡ (begin - line.at) + ns = omega arith in rw s (omega arith)) in
    let w : ((begin + ns - line.at) * line.freq / 1_000_000_000 - (begin - line.at) * line.freq / 1_000_000_000 - 1) * 1_000_000_000 ≤ ns * line.freq = rw e u in
    omega arith

pub good-segment : (corexy : Bool) (drive : ℕ) (line : Line) (m : Move) (p : Part) (before begin top : ℕ) → drive < 4 → IsValidLine line → IsShortMove m → IsTimed p → 0 < p.d → before + p.d ≤ m.d → line.at ≤ begin → tick line (begin + p.ns) ≤ top → top < tick_limit → IsGoodSegment line top (segment_of corexy drive line (part_at m p before begin))
good-segment corexy drive line m p before begin top few line_valid short timed some inside begun by small =
    let mono = tick-mono line begin (begin + p.ns) (omega arith) in
    let length_small = short.short in
    let pace = few-ticks (tick line (begin + p.ns) - tick line begin - 1) p.ns (p.v0 + p.v1) p.d line.freq (ticks-between line begin p.ns begun) timed.in_time in
    record {
      valid = record {
        freq_low = line_valid.freq_low;
        freq_high = line_valid.freq_high;
        dur_is = omega arith;
        end_small = omega arith;
        inside = inside;
        len_small = omega arith;
        moves = some;
        runs = timed.runs;
        v0_small = timed.v0_small;
        v1_small = timed.v1_small;
        in_time = pace;
        p0_small = (let c = coordinate-small corexy drive (2 ^ 60) m.from few short.valid.from_near in omega arith);
        dp_small = change-small corexy drive m short.valid few;
      };
      after = omega arith;
      in_top = by;
    }

-- what a list of parts that exist has, by the test of the first one
chosen-All : (P : TimedPart → Type 0) (b : Bool) (xs ys : List TimedPart) → (b ≡ true → All P xs) → (b ≡ false → All P ys) → All P (cond b xs ys)
chosen-All P true xs ys h k = h refl
chosen-All P false xs ys h k = k refl

-- the head and the rest of what holds of all
head-of : {X : Type 0} (P : X → Type 0) (x : X) (xs : List X) → All P (x ∷ xs) → P x
head-of P x xs h = h 0 x (omega arith)

rest-of : {X : Type 0} (P : X → Type 0) (x : X) (xs : List X) → All P (x ∷ xs) → All P xs
rest-of P x xs h = λ k d l. h (suc k) d (omega arith)

above-zero : (n : ℕ) → eqb n 0 ≡ false → 0 < n
above-zero n h = grind (arith, nat_tests)

-- what is good of a timed part
pub record IsGoodPart (corexy : Bool) (drive : ℕ) (line : Line) (top : ℕ) (t : TimedPart) : Type 0 where
  pub good : IsGoodSegment line top (segment_of corexy drive line t)

good-parts : (corexy : Bool) (drive : ℕ) (line : Line) (m : Move) (before begin top : ℕ) (ps : List Part) → drive < 4 → IsValidLine line → IsShortMove m → All IsTimed ps → before + sum_by (λ p. p.d) ps ≤ m.d → line.at ≤ begin → tick line (begin + duration ps) ≤ top → top < tick_limit → All (IsGoodPart corexy drive line top) (timed m before begin ps)
good-parts corexy drive line m before begin top [] few valid short times inside begun by small = All-nil (IsGoodPart corexy drive line top)
good-parts corexy drive line m before begin top (p ∷ ps) few valid short times inside begun by small =
    let later_time : begin + p.ns + duration ps ≡ begin + duration (p ∷ ps) = omega arith in
    let both : sum_by (λ (q : Part). q.d) (p ∷ ps) ≡ p.d + sum_by (λ (q : Part). q.d) ps = sum_by-cons (λ (q : Part). q.d) p ps in
    let later = good-parts corexy drive line m (before + p.d) (begin + p.ns) top ps few valid short (rest-of IsTimed p ps times) (omega arith) (omega arith) (rw later_time by) small in
    let mono = tick-mono line (begin + p.ns) (begin + duration (p ∷ ps)) (omega arith) in
    chosen-All (IsGoodPart corexy drive line top) (eqb p.d 0) (timed m (before + p.d) (begin + p.ns) ps) (part_at m p before begin ∷ timed m (before + p.d) (begin + p.ns) ps)
    (λ e. later)
    (λ e. All-cons (IsGoodPart corexy drive line top) (part_at m p before begin) (timed m (before + p.d) (begin + p.ns) ps)
    (record { good = good-segment corexy drive line m p before begin top few valid short (head-of IsTimed p ps times) (above-zero p.d e) (omega arith) begun (omega arith) small })
    later)

good-map : (corexy : Bool) (drive : ℕ) (line : Line) (top : ℕ) (ts : List TimedPart) → All (IsGoodPart corexy drive line top) ts → All (IsGoodSegment line top) (map (segment_of corexy drive line) ts)
good-map corexy drive line top [] h = All-nil (IsGoodSegment line top)
good-map corexy drive line top (t ∷ ts) h = All-cons (IsGoodSegment line top) (segment_of corexy drive line t) (map (segment_of corexy drive line) ts) ((head-of (IsGoodPart corexy drive line top) t ts h).good) (good-map corexy drive line top ts (rest-of (IsGoodPart corexy drive line top) t ts h))

pub good-move : (corexy : Bool) (drive : ℕ) (line : Line) (m : Move) (begin top : ℕ) (ps : List Part) → drive < 4 → IsValidLine line → IsShortMove m → All IsTimed ps → sum_by (λ p. p.d) ps ≡ m.d → line.at ≤ begin → tick line (begin + duration ps) ≤ top → top < tick_limit → All (IsGoodSegment line top) (map (segment_of corexy drive line) (timed m 0 begin ps))
good-move corexy drive line m begin top ps few valid short times whole begun by small =
    good-map corexy drive line top (timed m 0 begin ps) (good-parts corexy drive line m 0 begin top ps few valid short times (omega arith) begun by small)
