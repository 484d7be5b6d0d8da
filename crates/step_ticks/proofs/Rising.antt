-- Raw steps do not fall, and a segment is pushed.
use Rattle.std.proofs.Common.{◌≡◌, ℕ, zero, suc, ◌+◌, ◌-◌, ◌*◌, ◌<◌, ◌≤◌, ◌^◌, List, [], ◌∷◌, ◌++◌, All, arith, refl, ap, sym, ◌∙◌, append_assoc, Bool, true, false, cond, ◌&&◌, ◌||◌, map, drop, length, get_or, inl, inr}
use Rattle.plan_types.specs.Clock.{tick_limit}
use Rattle.std.specs.Prelude.{nat_le, IsTrue}
use Rattle.std.specs.List.{range_with_len}
use Rattle.std.proofs.Math.Nat.{mul-le-mul_left, mul-le-mul_right}
use Rattle.std.proofs.lemmas.List.{append-nil}
use Rattle.std.proofs.lemmas.List.Elements.{All-append, All-cons}
use Rattle.std.proofs.lemmas.Bool.{cases_Bool, leb-true, le-leb}
use Rattle.std.proofs.lemmas.Bool.Decides.{nat_tests}
use Rattle.plan_types.specs.declared.plan.Planned.{Planned}
use Rattle.plan_types.specs.declared.plan.Segment.{Segment}
use Rattle.plan_types.specs.declared.plan.Gear.{Gear}
use Rattle.plan_types.specs.Lines.{Clocks, lines_board}
use Rattle.plan_types.specs.Steps.{segment_steps, raw_steps, raw_step, reached, distance_of, counts_passed}
use Rattle.plan_types.specs.Numbers.{first_from}
use Rattle.clock_line.proofs.Firsts.{first_from-step}
use Rattle.clock_line.proofs.Boards.{board-mono}
use Rattle.step_ticks.specs.Due.{is_due}
use Rattle.step_ticks.specs.Ticks.{IsBetween, IsOnBoard}
use Rattle.step_ticks.specs.Streaming.{AreRising, AreSteps, IsKeptOf}
use Rattle.step_ticks.proofs.Within.{first_from-within, IsWithin, step-within, steps-within}
use Rattle.step_ticks.proofs.Giving.{kept-more, due-later}

first_from-mono : (p q : ℕ → Bool) → ((m : ℕ) → IsTrue (q m) → IsTrue (p m)) → (n count : ℕ) → first_from p n count ≤ first_from q n count
unfolding first_from
first_from-mono p q sooner n zero = omega arith
first_from-mono p q sooner n (suc count) = elim (cases_Bool (q n)) [
  | inl there ↦ (
      let a = first_from-step q n count true there in
      let b = first_from-step p n count true (sooner n there) in
      omega arith)
  | inr not_there ↦ (
      let a : first_from q n (suc count) ≡ first_from q (n + 1) count = first_from-step q n count false not_there in
      let later = (first_from-within q (n + 1) count).0 in
      elim (cases_Bool (p n)) [
        | inl here ↦ (let b : first_from p n (suc count) ≡ n = first_from-step p n count true here in omega arith)
        | inr not_here ↦ (
            let b : first_from p n (suc count) ≡ first_from p (n + 1) count = first_from-step p n count false not_here in
            let i = first_from-mono p q sooner (n + 1) count in
            omega arith)
      ])
]

less-test : (e n a m u l l' r : ℕ) → l ≤ l' → IsTrue (nat_le e n || (nat_le a n && nat_le m u && nat_le l' r)) → IsTrue (nat_le e n || (nat_le a n && nat_le m u && nat_le l r))
less-test e n a m u l l' r h t = grind (arith, nat_tests)

reached-nearer : (s : Segment) (f x x' n : ℕ) → x ≤ x' → IsTrue (reached s f x' n) → IsTrue (reached s f x n)
reached-nearer s f x x' n order there =
    let one = mul-le-mul_left (4 * s.d) order in
    let two = mul-le-mul_right f (mul-le-mul_right f one) in
    let m = n - s.start in
    less-test s.end n s.start m s.dur (4 * s.d * x * f * f + s.v0 * s.v0 * m * m) (4 * s.d * x' * f * f + s.v0 * s.v0 * m * m) (4 * s.d * s.v0 * m * f + s.v1 * s.v1 * m * m) (omega arith) there

distance-mono : (g : Gear) (s : Segment) (k k' : ℕ) → k ≤ k' → distance_of g s k ≤ distance_of g s k'
distance-mono g s k k' order = first_from-mono (λ x. nat_le k (counts_passed g s s.before x)) (λ x. nat_le k' (counts_passed g s s.before x)) (λ x h. (let l = leb-true k' (counts_passed g s s.before x) h in le-leb k (counts_passed g s s.before x) (omega arith))) s.before s.d

step-mono : (g : Gear) (f : ℕ) (s : Segment) (k k' : ℕ) → k ≤ k' → (raw_step g f s k).tick ≤ (raw_step g f s k').tick
step-mono g f s k k' order =
    let near = distance-mono g s k k' order in
    first_from-mono (reached s f (distance_of g s k - s.before)) (reached s f (distance_of g s k' - s.before)) (λ n h. reached-nearer s f (distance_of g s k - s.before) (distance_of g s k' - s.before) n (omega arith) h) s.start s.dur

segment-rising : (g : Gear) (f : ℕ) (s : Segment) (a n from : ℕ) → from ≤ (raw_step g f s a).tick → AreRising from (map (raw_step g f s) (range_with_len a n))
segment-rising g f s a zero from low = tt
segment-rising g f s a (suc n) from low = (low, segment-rising g f s (a + 1) n (raw_step g f s a).tick (step-mono g f s a (a + 1) (omega arith)))

lower : (from e : ℕ) (ys : List Planned) → from ≤ e → AreRising e ys → AreRising from ys
lower from e [] h r = tt
lower from e (y ∷ ys) h r = (let l = r.0 in omega arith, r.1)

rising-append : (from e : ℕ) (xs ys : List Planned) → AreRising from xs → All (λ k. k.tick ≤ e) xs → from ≤ e → AreRising e ys → AreRising from (xs ++ ys)
rising-append from e [] ys r h up s = lower from e ys up s
rising-append from e (x ∷ xs) ys r h up s = (r.0, rising-append x.tick e xs ys r.1 (λ k d l. h (suc k) d (omega arith)) (h 0 x (omega arith)) s)

pub drop-more : (n : ℕ) (xs ys : List Planned) → n ≤ length xs → drop n (xs ++ ys) ≡ drop n xs ++ ys
drop-more zero xs ys h = refl
drop-more (suc n) [] ys h = absurd (omega arith)
drop-more (suc n) (x ∷ xs) ys h = drop-more n xs ys (omega arith)

raw_steps-more : (g : Gear) (f : ℕ) (segments : List Segment) (s : Segment) → raw_steps g f (segments ++ s ∷ []) ≡ raw_steps g f segments ++ segment_steps g f s
raw_steps-more g f [] s = append-nil (segment_steps g f s)
raw_steps-more g f (t ∷ segments) s = ap (λ xs. segment_steps g f t ++ xs) (raw_steps-more g f segments s) ∙ sym (append_assoc (segment_steps g f t) (raw_steps g f segments) (segment_steps g f s))

pub pushed : (g : Gear) (clocks : Clocks) (s : Segment) (reach end last_end last next : ℕ) (old new : List Planned) (base : ℕ) (segments : List Segment) (asked : ℕ) (out : List Planned) → AreSteps g clocks reach end last_end last (drop next old) base segments asked out → end ≤ s.start → s.start + s.dur ≡ s.end → next ≤ length old → new ≡ old ++ segment_steps g clocks.first.freq s → AreSteps g clocks reach s.end s.end last (drop next new) base (segments ++ s ∷ []) asked out
pushed g clocks s reach end last_end last next old new base segments asked out it order dur within is =
    let f = clocks.first.freq in
    let steps = segment_steps g f s in
    let count = counts_passed g s s.before (s.before + s.d) in
    let inside = steps-within g f s (range_with_len 1 count) in
    let from = it.end_from in
    let after : All (λ q. end ≤ q.tick) steps = λ k d l. (let a = (inside k d l).after in omega arith) in
    let not_after : All (λ q. q.tick ≤ s.end) steps = λ k d l. (let a = (inside k d l).before in omega arith) in
    let first = (step-within g f s 1).after in
    let waiting : drop next new ≡ drop next old ++ steps = ap (drop next) is ∙ drop-more next old steps within in
    rw waiting (record {
      kept = it.kept;
      reach_is = it.reach_is;
      kept_is = rw (raw_steps-more g f segments s) (kept-more reach end s.end (raw_steps g f segments) it.kept (drop next old) steps it.kept_is after (omega arith));
      out_is = it.out_is;
      last_is = it.last_is;
      due = λ k d h. due-later reach asked asked end s.end (get_or it.kept k d) (omega arith) (omega arith) (it.due k d h);
      rising = rising-append 0 last_end (drop next old) steps it.rising it.before (omega arith) (segment-rising g f s 1 count last_end (omega arith));
      before = All-append (λ k. k.tick ≤ s.end) (drop next old) steps (λ k d l. (let b = it.before k d l in omega arith)) not_after;
      end_from = omega arith;
    })

-- one more segment's steps are behind what is known
pub past-pushed : (g : Gear) (f : ℕ) (s : Segment) (end t next : ℕ) (old new : List Planned) → end ≤ s.start → next ≤ length old → new ≡ old ++ segment_steps g f s → t ≤ end → All (λ q. t ≤ q.tick) (drop next old) → All (λ q. t ≤ q.tick) (drop next new)
past-pushed g f s end t next old new order within is low waits =
    let steps = segment_steps g f s in
    let inside = steps-within g f s (range_with_len 1 (counts_passed g s s.before (s.before + s.d))) in
    let after : All (λ q. t ≤ q.tick) steps = λ k d l. (let a = (inside k d l).after in omega arith) in
    let waiting : drop next new ≡ drop next old ++ steps = ap (drop next) is ∙ drop-more next old steps within in
    rw waiting (All-append (λ (q : Planned). t ≤ q.tick) (drop next old) steps waits after)

-- all raw steps of a stream stand between the first line's clock and the last segment's end
pub between-more : (g : Gear) (clocks : Clocks) (s : Segment) (last_end : ℕ) (old : List Planned) → All (IsBetween clocks last_end) old → last_end ≤ s.end → s.start + s.dur ≡ s.end → clocks.first.clock ≤ s.start → All (IsBetween clocks s.end) (old ++ segment_steps g clocks.first.freq s)
between-more g clocks s last_end old each order dur clock =
    let inside = steps-within g clocks.first.freq s (range_with_len 1 (counts_passed g s s.before (s.before + s.d))) in
    All-append (IsBetween clocks s.end) old (segment_steps g clocks.first.freq s)
    (λ k d l. (let b = each k d l in let a = b.after in let e = b.before in record { after = a; before = omega arith }))
    (λ k d l. (let w = inside k d l in let a = w.after in let b = w.before in record { after = omega arith; before = omega arith }))

pub on-board-between : (clocks : Clocks) (end : ℕ) (q : Planned) → IsBetween clocks end q → lines_board clocks end < tick_limit → lines_board clocks q.tick < tick_limit
on-board-between clocks end q b small = let m = board-mono clocks q.tick end b.before in omega arith
