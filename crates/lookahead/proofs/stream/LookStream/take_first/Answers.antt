use Rattle.std.proofs.Common.{◌≡◌, ◌⊎◌, inl, inr, ℕ, zero, suc, [], ◌∷◌, refl, ◌+◌, ◌-◌, ◌<◌, ◌≤◌, List, length, map, drop, get_or, arith, sym, ap, ◌∙◌, add-one}
use Rattle.std.proofs.lemmas.List.{get_or-map, get_or-drop, length-map}
use Rattle.std.proofs.lemmas.List.Elements.{All-drop}
use Rattle.plan_types.specs.declared.plan.Move.{Move}
use Rattle.plan_types.specs.Speeds.{speed_change, places}
use Rattle.plan_types.proofs.Places.{places-next}
use Rattle.plan_types.specs.Valid.{IsValidMove}
use Rattle.lookahead.specs.Lows.{no_low}
use Rattle.lookahead.specs.Stream.{IsStreamOf, AreLows, height, junction_place, speed_by}
use Rattle.lookahead.specs.declared.lows.Low.{Low}
use Rattle.lookahead.proofs.Streams.{place-mono}
use Rattle.std.proofs.lemmas.Bool.{cases_lt}
use Rattle.lookahead.proofs.Fronts.{front-speed, front-none, front-inside, front-stays, front-goes}
use Rattle.lookahead.proofs.stream.LookStream.take_first.Goals as goal

pub invariant_of-self-2-clause-valid : goal.invariant_of-self-2-clause-valid
invariant_of-self-2-clause-valid c = rw c.pop_front.ensures.rest (All-drop IsValidMove 1 c.args.self.now.moves.items c.args.self.now.valid)

pub returns-then-low-self-clause-speeds : goal.returns-then-low-self-clause-speeds
returns-then-low-self-clause-speeds c = λ moves scv caps is. (
    let ch = map speed_change moves in
    let count : length caps ≤ length ch + 1 = rw length-map is.caps_count in
    let low = c.in_ok-low.ensures in
    let speed = front-speed ch caps (c.args.self.now.taken + 1) c.args.self.now.lows.items is.lows low.0 count in
    let high : c.in_ok-low.low.height ≡ (get_or c.args.self.now.lows.items 0 no_low).height = ap (λ l. l.height) low.1 in
    let reach = is.reach_is in
    let end : junction_place ch c.args.self.now.pushed ≡ junction_place ch (length moves) = ap (junction_place ch) is.pushed_is in
    (inr (omega arith), refl, is))

-- the next move, in the list of all
next_is : (moves waiting : List Move) (t : ℕ) (one : Move) → waiting ≡ drop t moves → one ≡ get_or waiting 0 one → one ≡ get_or moves t one
next_is moves waiting t one e h =
    let at = get_or-drop t moves 0 one in
    let z : t + 0 ≡ t = omega arith in
    h ∙ ap (λ xs. get_or xs 0 one) e ∙ at ∙ ap (λ i. get_or moves i one) z

rest_is : (moves waiting : List Move) (t : ℕ) → waiting ≡ drop t moves → drop 1 waiting ≡ drop (t + 1) moves
rest_is moves waiting t e = ap (drop 1) e ∙ drop_again t moves
  where
    drop_again : (t : ℕ) (xs : List Move) → drop 1 (drop t xs) ≡ drop (t + 1) xs
    drop_again zero xs = refl
    drop_again (suc t) [] = rw add-one refl
    drop_again (suc t) (x ∷ xs) = let r = drop_again t xs in let e : suc t + 1 ≡ suc (t + 1) = omega arith in rw e r

next_lows : (changes caps : List ℕ) (k : ℕ) (lows new : List Low) → AreLows (height changes caps) (length caps) k lows → 0 < length lows → ((get_or lows 0 no_low).at ≤ k → new ≡ drop 1 lows) → (k < (get_or lows 0 no_low).at → new ≡ lows) → AreLows (height changes caps) (length caps) (k + 1) new
next_lows changes caps k lows new are some gone stays =
    let from = are.each_from 0 some in
    elim (cases_lt k (get_or lows 0 no_low).at) [
      | inl later ↦ rw (stays later) (front-stays changes caps k lows are (omega arith) some)
      | inr here ↦ rw (gone here) (front-goes changes caps k lows are (omega arith))
    ]

pub returns-clause-speeds : goal.returns-clause-speeds
returns-clause-speeds c = λ moves scv caps is. (
    let ch = map speed_change moves in
    let t = c.args.self.now.taken in
    let lows = c.args.self.now.lows.items in
    let n : length ch ≡ length moves = length-map moves speed_change in
    let count : length caps ≤ length ch + 1 = rw length-map is.caps_count in
    let low = c.in_ok-low.ensures in
    let speed = front-speed ch caps (t + 1) lows is.lows low.0 count in
    let inside = front-inside ch caps (t + 1) lows is.lows low.0 in
    let high : c.in_ok-low.low.height ≡ (get_or lows 0 no_low).height = ap (λ l. l.height) low.1 in
    let within : t < length moves = (let k = is.caps_count in omega arith) in
    let one : c.in_ok-one.one ≡ get_or moves t c.in_ok-one.one = next_is moves c.args.self.now.moves.items t c.in_ok-one.one is.waiting c.in_ok-one.ensures.lookup in
    let change : c.change.result ≡ get_or ch t 0 = c.change.ensures.value ∙ ap speed_change one ∙ sym (get_or-map speed_change moves t c.in_ok-one.one 0 within) in
    let next : junction_place ch (t + 1) ≡ junction_place ch t + get_or ch t 0 = places-next 0 ch t (omega arith) in
    let up = place-mono ch caps (t + 1) (length moves) (omega arith) (omega arith) in
    let end : junction_place ch c.args.self.now.pushed ≡ junction_place ch (length moves) = ap (junction_place ch) is.pushed_is in
    let reach = is.reach_is in
    let passed_is = is.passed_is in
    let small = is.reach_small in
    let few = is.few in
    let pushed = is.pushed_is in
    let add = c.saturating_add-self.ensures in
    let sub = c.saturating_sub-self.ensures in
    let add2 = c.saturating_add-self-2.ensures in
    let passed : c.saturating_add-self.result ≡ junction_place ch (t + 1) = omega arith in
    let taken : c.saturating_add-self-2.result ≡ t + 1 = omega arith in
    let start : c.saturating_sub-self.result ≡ speed_by ch caps (t + 1) = omega arith in
    let final : speed_by ch caps (t + 1) + junction_place ch (t + 1) ≤ junction_place ch (length moves) = omega arith in (
      one,
      is.start_is,
      start,
      final,
      inside,
      taken,
      record {
        scv_is = is.scv_is;
        waiting = c.pop_front.ensures.rest ∙ rest_is moves c.args.self.now.moves.items t is.waiting ∙ ap (λ i. drop i moves) (sym taken);
        pushed_is = is.pushed_is;
        caps_count = is.caps_count;
        taken_inside = omega arith;
        taken_within = omega arith;
        passed_is = passed ∙ ap (junction_place ch) (sym taken);
        reach_is = is.reach_is;
        start_is = start ∙ ap (speed_by ch caps) (sym taken);
        reach_small = is.reach_small;
        few = is.few;
        start_final = omega arith;
        lows = rw taken (next_lows ch caps (t + 1) lows c.leave.new.lows.items is.lows low.0 (λ h. c.leave.ensures.gone (omega arith)) (λ h. c.leave.ensures.stays (omega arith)));
      },
    ))
