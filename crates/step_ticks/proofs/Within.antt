-- Raw steps stand between the start and the end of their segment.
use Rattle.std.proofs.Common.{◌≡◌, ℕ, zero, suc, ◌+◌, ◌-◌, ◌<◌, ◌≤◌, ◌^◌, List, [], ◌∷◌, ◌++◌, All, map, length, get_or, arith, Bool, true, false, cond}
use Rattle.plan_types.specs.Clock.{tick_limit}
use Rattle.std.specs.List.{range_with_len}
use Rattle.std.proofs.lemmas.List.Elements.{All-append, All-cons}
use Rattle.plan_types.specs.declared.plan.Planned.{Planned}
use Rattle.plan_types.specs.declared.plan.Segment.{Segment}
use Rattle.plan_types.specs.declared.plan.Gear.{Gear}
use Rattle.plan_types.specs.Numbers.{first_from}
use Rattle.plan_types.specs.Lines.{Clocks, lines_board}
use Rattle.plan_types.specs.Steps.{raw_step, raw_steps, segment_steps, reached, distance_of, counts_passed}
use Rattle.plan_types.specs.Valid.{IsValidSegment}
use Rattle.clock_line.proofs.Boards.{board-mono}
use Rattle.step_ticks.specs.Ticks.{IsOnBoard}

either : (b : Bool) (x y lo hi : ℕ) → lo ≤ x → x ≤ hi → lo ≤ y → y ≤ hi → (lo ≤ cond b x y) × (cond b x y ≤ hi)
either true x y lo hi a b c d = (a, b)
either false x y lo hi a b c d = (c, d)

pub first_from-within : (p : ℕ → Bool) (n count : ℕ) → (n ≤ first_from p n count) × (first_from p n count ≤ n + count)
unfolding first_from
first_from-within p n zero = (omega arith, omega arith)
first_from-within p n (suc count) =
    let later = first_from-within p (n + 1) count in
    let from = later.0 in
    let to = later.1 in
    either (p n) n (first_from p (n + 1) count) n (n + suc count) (omega arith) (omega arith) (omega arith) (omega arith)

pub record IsWithin (from to : ℕ) (q : Planned) : Type 0 where
  pub after : from ≤ q.tick
  pub before : q.tick ≤ to

pub step-within : (g : Gear) (f : ℕ) (s : Segment) (k : ℕ) → IsWithin s.start (s.start + s.dur) (raw_step g f s k)
step-within g f s k = let w = first_from-within (reached s f (distance_of g s k - s.before)) s.start s.dur in record { after = w.0; before = w.1 }

pub steps-within : (g : Gear) (f : ℕ) (s : Segment) (ks : List ℕ) → All (IsWithin s.start (s.start + s.dur)) (map (raw_step g f s) ks)
steps-within g f s [] = λ k d h. absurd (omega arith)
steps-within g f s (n ∷ ks) = All-cons (IsWithin s.start (s.start + s.dur)) (raw_step g f s n) (map (raw_step g f s) ks) (step-within g f s n) (steps-within g f s ks)

segment-on-board : (clocks : Clocks) (g : Gear) (f : ℕ) (s : Segment) → IsValidSegment s f → clocks.first.clock ≤ s.start → lines_board clocks s.end < tick_limit → All (IsOnBoard clocks) (segment_steps g f s)
segment-on-board clocks g f s valid after small = λ k d h. (
    let w = steps-within g f s (range_with_len 1 (counts_passed g s s.before (s.before + s.d))) k d h in
    let from = w.after in
    let to = w.before in
    let dur = valid.dur_is in
    let up = board-mono clocks (get_or (segment_steps g f s) k d).tick s.end (omega arith) in
    record { after = omega arith; small = omega arith })

pub raw-on-board : (clocks : Clocks) (g : Gear) (f : ℕ) (segments : List Segment) → All (λ s. IsValidSegment s f) segments → All (λ s. clocks.first.clock ≤ s.start) segments → All (λ s. lines_board clocks s.end < tick_limit) segments → All (IsOnBoard clocks) (raw_steps g f segments)
raw-on-board clocks g f [] valid after small = λ k d h. absurd (omega arith)
raw-on-board clocks g f (s ∷ segments) valid after small =
    All-append (IsOnBoard clocks) (segment_steps g f s) (raw_steps g f segments)
    (segment-on-board clocks g f s (valid 0 s (omega arith)) (after 0 s (omega arith)) (small 0 s (omega arith)))
    (raw-on-board clocks g f segments (λ k d h. valid (suc k) d (omega arith)) (λ k d h. after (suc k) d (omega arith)) (λ k d h. small (suc k) d (omega arith)))
