-- What a planner put in the turns of a run is told by the first sections of a whole text.
use Rattle.std.proofs.Common.{◌≡◌, ℕ, zero, suc, ◌+◌, ◌<◌, ◌^◌, ◌⊎◌, List, [], ◌++◌, length, Option, None, Some, All, refl, sym, subst, arith, inl, inr}
use Rattle.std.proofs.lemmas.Grind.{merely}
use Rattle.laws_board.proofs.Names.{∥∥₁_map, Machine, Started, clocks_at, AreKept, leb_tells, Told, MotionTurn}
use Rattle.std.proofs.Math.Logic.{∥∥₁_elim, ∥∥₁_prop}
use Rattle.motion_work.specs.Puts.{Put}
use Rattle.motion_work.specs.Seen.{AreBoardClocks}
use Rattle.motion_stream.specs.Motions.{IsPlannerOf, Planner}
use Rattle.motion_stream.specs.Puts.{ArePutBy}
use Rattle.motion_stream.specs.Seen as stream
use Rattle.motion_stream.specs.Texts.{MayBecome}
use Rattle.motion_stream.specs.Wholes.{ArePlanned, IsToldOf, AreSentIn}
use Rattle.motion_stream.proofs.Planning.{are_planned}
use Rattle.laws_board.specs.plans.Answers.{TookNoneAhead}
use Rattle.laws_board.proofs.plans.Answering.{HaveHeard, Homing, all_end, all_homing}
use Rattle.laws_board.specs.plans.Planned.{AllInRange, AreBare, AreKnown, AreReadInOrder, AreToldBy, LastHomes, Plans, StopsAt, TakeUpLines, ReadText, TookInTime, nothing_read, puts_of, read_by, told_of, words_in}

-- Turns of a planner from turn k on, behind these turns, these that were put, this text, this that was told and so many words.
pub record Ran (m : Machine) (n k : ℕ) (done : List MotionTurn) (before : List Put) (text : ReadText) (told : Option Told) (taken : ℕ) (ts : List MotionTurn) : Type 0 where
  pub planner : Planner
  pub seen : stream.Seen
  pub made : List MotionTurn
  pub bare : List MotionTurn
  pub last : List MotionTurn
  pub are : ts ≡ made ++ bare
  pub machine_is : planner.machine ≡ m
  pub is : IsPlannerOf planner seen
  pub put : ArePutBy m seen (before ++ puts_of made)
  pub text_is : seen.text ≡ (read_by text made).bytes
  pub ended_is : seen.ended ≡ (read_by text made).ended
  pub told_is : seen.told ≡ told_of m k made told
  pub lines : TakeUpLines m k made told
  pub in_time : TookInTime m k taken made told
  pub in_range : AllInRange m k made told
  pub ahead : TookNoneAhead k taken made
  pub answers : HaveHeard (k + length (made ++ last)) (done ++ (made ++ last)) [] seen.begun seen.going
  pub are_bare : AreBare n (k + length made) bare
  pub stops : (begun : List Started) → (Homing (k + length made) seen.begun seen.going → LastHomes (k + length made) begun) → StopsAt (k + length made) (taken + length (words_in made)) seen.told begun bare last

told_by : (m : Machine) (o : Option Told) (all : List Started) → IsToldOf m o all → AreToldBy m o all
told_by m None all h = h
told_by m (Some t) all h = h.0

-- what is so of each of some numbers, all at once
all_at : (n : ℕ) (A : ℕ → Type 0) → ((b : ℕ) → b < n → ∥ A b ∥₁) → ∥ ((b : ℕ) → b < n → A b) ∥₁
all_at zero A h = merely (λ b low. absurd (omega (arith, low)))
all_at (suc n) A h =
    ∥∥₁_elim (h n (omega arith)) ∥∥₁_prop (λ last. ∥∥₁_map (all_at n A (λ b low. h b (omega (arith, low)))) (λ all b low. by all last b (low_or b n low)))
  where
    low_or : (b n : ℕ) → b < suc n → (b < n) ⊎ (n ≡ b)
    low_or b n low = elim (leb_tells (suc b) n) [ inl p ↦ inl p.1 | inr p ↦ inr (let far = p.1 in omega (arith, far, low)) ]

    by : ((b : ℕ) → b < n → A b) → A n → (b : ℕ) → (b < n) ⊎ (n ≡ b) → A b
    by all last b (inl low) = all b low
    by all last b (inr same) = subst A same last

kept_at : (m : Machine) (t : Told) (b : ℕ) → AreBoardClocks m t.clocks t.first → b < length m.boards → ∥ ((clocks_at t.clocks b).first.clock < 2 ^ 62 → AreKept (clocks_at t.clocks b)) ∥₁
kept_at m t b are inside = elim (leb_tells (suc (clocks_at t.clocks b).first.clock) (2 ^ 62)) [
  | inl p ↦ ∥∥₁_map (are.lasting b inside p.1).kept (λ kept early. kept)
  | inr p ↦ merely (λ early. absurd (let far = p.1 in omega (arith, early, far)))
]

known_by : (m : Machine) (o : Option Told) (all : List Started) → IsToldOf m o all → ∥ AreKnown m o ∥₁
known_by m None all h = merely tt
known_by m (Some t) all h =
    ∥∥₁_map (all_at (length m.boards) (λ b. (clocks_at t.clocks b).first.clock < 2 ^ 62 → AreKept (clocks_at t.clocks b)) (λ b inside. kept_at m t b h.1 inside)) (λ kept. (h.1, kept, h.2))

pub whole_plans : (m : Machine) (n : ℕ) (ts : List MotionTurn) (text : List ℕ) (r : Ran m n 0 [] [] nothing_read None 0 ts) → AreReadInOrder nothing_read ts text → ∥ ((made : Plans m n ts) × (made.seen.text ≡ text)) ∥₁
whole_plans m n ts text r read =
    let read_text = read_by nothing_read r.made in
    let here = read r.made r.bare r.are in
    let may : MayBecome r.seen.ended r.seen.text text = subst (λ b. MayBecome b r.seen.text text) (sym r.ended_is) (subst (λ (x : List ℕ). MayBecome read_text.ended x text) (sym r.text_is) here) in
    let OfPut : Machine → Type 0 = λ x. ArePutBy x r.seen (puts_of r.made) in
    let all = are_planned r.planner r.seen (puts_of r.made) text r.is (subst OfPut (sym r.machine_is) r.put) may in
    let small = r.is.small in
    let next = r.is.next in
    ∥∥₁_elim all ∥∥₁_prop (λ w. ∥∥₁_map (known_by m r.seen.told w.0 (let Of : Machine → Type 0 = λ x. ArePlanned x r.seen text (puts_of r.made) w.0 in (subst Of r.machine_is w.1).told)) (λ known.
    let Of : Machine → Type 0 = λ x. ArePlanned x r.seen text (puts_of r.made) w.0 in
    let a = subst Of r.machine_is w.1 in
    let count = a.count in (
      record {
        seen = record { text = text; told = r.seen.told; begun = w.0 };
        made = r.made;
        bare = r.bare;
        last = r.last;
        are = r.are;
        goes_on = here;
        of_text = (a.others, a.sections);
        sections = told_by m r.seen.told w.0 a.told;
        known = known;
        put = a.put;
        sent = subst (λ i. AreSentIn m r.seen.told i w.0) (sym count) a.sent;
        lines = r.lines;
        started = subst (λ i. All (λ (s : Started). s.start < i + 260) w.0) (sym count) a.started;
        small = omega (arith, count, next, small);
        told_is = r.told_is;
        in_time = r.in_time;
        in_range = r.in_range;
        ahead = r.ahead;
        answers = all_end m r.seen.told r.seen.next (0 + length (r.made ++ r.last)) (r.made ++ r.last) r.seen.begun w.0 a.more r.seen.going r.answers a.may.sections a.begun a.unanswered;
        are_bare = r.are_bare;
        stops = r.stops w.0 (all_homing m r.seen.told r.seen.next (0 + length r.made) r.seen.begun w.0 r.seen.going a.may.sections);
      },
      refl,
    )))
