-- What is left to plan stays behind a plan tick.
use Rattle.std.proofs.Common.{◌≡◌, ℕ, ◌+◌, ◌≤◌, List, [], ◌∷◌, ◌++◌, All, length, map, max, arith, refl, ap, sym, ◌∙◌, append_assoc, subst}
use Rattle.std.proofs.lemmas.List.{append-nil, length-map}
use Rattle.std.proofs.lemmas.List.Elements.{All-append, All-nil}
use Rattle.plan_types.specs.declared.plan.Gear.{Gear}
use Rattle.plan_types.specs.declared.plan.Line.{Line}
use Rattle.plan_types.specs.declared.plan.Planned.{Planned}
use Rattle.plan_types.specs.declared.plan.Segment.{Segment}
use Rattle.plan_types.specs.Plan.{cancel_reach, filtered, on_board, spaced}
use Rattle.plan_types.specs.Steps.{raw_steps}
use Rattle.step_ticks.specs.declared.stream.StepStream.{StepStream}
use Rattle.step_ticks.specs.Streaming.{IsPast, IsStepsOf, known_end, reach_of, waiting_steps}
use Rattle.step_ticks.proofs.Lists.{filtered-All}
use Rattle.section_stream.specs.Stepping.{IsLeftFrom}
use Rattle.section_stream.proofs.Staying.{raw-after}
use Rattle.section_plan.proofs.Counts.{raw_steps-append}

-- what is past a tick is left from it on
pub past-left : (t : ℕ) (s : StepStream) → IsPast t s → IsLeftFrom t s
past-left t s h = record {
  left = λ more late. (
      let P : Planned → Type 0 = λ q. t ≤ q.tick in
      let known = h.known in
      filtered-All P (reach_of s) (waiting_steps s ++ more) (All-append P (waiting_steps s) more h.waits (λ k d l. (let a = late k d l in omega arith))));
}

pub left-sooner : (t later : ℕ) (s : StepStream) → t ≤ later → IsLeftFrom later s → IsLeftFrom t s
left-sooner t later s order h = record { left = λ more late k d l. (let a = h.left more late k d l in omega arith) }

-- lists that go on alike behind fronts of one length
pub behind-alike : (xs ys us vs : List Planned) → length xs ≡ length ys → xs ++ us ≡ ys ++ vs → us ≡ vs
behind-alike [] [] us vs n e = e
behind-alike [] (y ∷ ys) us vs n e = absurd (omega arith)
behind-alike (x ∷ xs) [] us vs n e = absurd (omega arith)
behind-alike (x ∷ xs) (y ∷ ys) us vs n e = behind-alike xs ys us vs (omega arith) (tails e)
  where
    tails : {x y : Planned} {xs ys : List Planned} → x ∷ xs ≡ y ∷ ys → xs ≡ ys
    tails e = cc

spaced-length : (b : ℕ) (xs : List Planned) → length (spaced b xs) ≡ length xs
spaced-length b [] = refl
spaced-length b (x ∷ xs) = let r = spaced-length (max x.tick (b + 4)) xs in omega arith

-- Where the same steps were given of more segments, what is left is the same, with what came: so it stays behind a tick. It does
-- not matter by which lines they were placed, as long as the first one stays.
pub left-on : (old new : StepStream) (base : ℕ) (segments later : List Segment) (asked asked' : ℕ) (out : List Planned) (t : ℕ) → IsStepsOf old base segments asked out → IsStepsOf new base (segments ++ later) asked' out
    → new.gear ≡ old.gear → new.lines.first ≡ old.lines.first → All (λ s. known_end old ≤ s.start) later → known_end old ≤ known_end new → IsLeftFrom t old → IsLeftFrom t new
left-on old new base segments later asked asked' out t was is gear first after grows h = record {
  left = λ more late. (
      let g = old.gear in
      let f = old.lines.first.freq in
      let raw = raw_steps g f segments in
      let here = raw_steps g f later in
      let P : Planned → Type 0 = λ q. known_end old ≤ q.tick in
      let late' : All P (here ++ more) = All-append P here more (raw-after g f (known_end old) later after) (λ k d l. (let a = late k d l in omega arith)) in
      let one = was.kept_is.whole (here ++ more) late' in
      let two = is.kept_is.whole more late in
      let reach : reach_of new ≡ reach_of old = is.reach_is ∙ ap (λ (l : Line). cancel_reach l.freq) first ∙ sym was.reach_is in
      let steps : raw_steps new.gear new.lines.first.freq (segments ++ later) ++ more ≡ raw ++ (here ++ more) =
      ap (λ (x : Gear). raw_steps x new.lines.first.freq (segments ++ later) ++ more) gear ∙ ap (λ (l : Line). raw_steps g l.freq (segments ++ later) ++ more) first ∙ ap (λ (xs : List Planned). xs ++ more) (raw_steps-append g f segments later) ∙ append_assoc raw here more in
      let both : is.kept ++ filtered (reach_of new) (waiting_steps new ++ more) ≡ was.kept ++ filtered (reach_of old) (waiting_steps old ++ (here ++ more)) =
      sym two ∙ ap (λ r. filtered r (raw_steps new.gear new.lines.first.freq (segments ++ later) ++ more)) reach ∙ ap (filtered (reach_of old)) steps ∙ one in
      let n1 : length out ≡ length was.kept = ap (λ (xs : List Planned). length xs) was.out_is ∙ spaced-length base (map (on_board old.lines) was.kept) ∙ length-map was.kept (on_board old.lines) in
      let n2 : length out ≡ length is.kept = ap (λ (xs : List Planned). length xs) is.out_is ∙ spaced-length base (map (on_board new.lines) is.kept) ∙ length-map is.kept (on_board new.lines) in
      let same = behind-alike is.kept was.kept (filtered (reach_of new) (waiting_steps new ++ more)) (filtered (reach_of old) (waiting_steps old ++ (here ++ more))) (sym n2 ∙ n1) both in
      subst (λ (xs : List Planned). All (λ (q : Planned). t ≤ q.tick) xs) (sym same) (h.left (here ++ more) late'));
}

pub left-same : (old new : StepStream) (base : ℕ) (segments : List Segment) (asked asked' : ℕ) (out : List Planned) (t : ℕ) → IsStepsOf old base segments asked out → IsStepsOf new base segments asked' out
    → new.gear ≡ old.gear → new.lines.first ≡ old.lines.first → known_end old ≤ known_end new → IsLeftFrom t old → IsLeftFrom t new
left-same old new base segments asked asked' out t was is gear first grows h =
    left-on old new base segments [] asked asked' out t was (subst (λ (ss : List Segment). IsStepsOf new base ss asked' out) (sym (append-nil segments)) is) gear first (All-nil (λ (s : Segment). known_end old ≤ s.start)) grows h
