-- A section that is open on a board can be completed.
use Rattle.std.proofs.Common.{◌≡◌, ℕ, ◌+◌, ◌-◌, ◌*◌, ◌<◌, ◌≤◌, Bool, false, List, [], ◌∷◌, ◌++◌, length, get_or, drop, arith, ap, sym, ◌∙◌, refl, subst, All, inl, inr}
use Rattle.std.proofs.Math.Logic.{∥∥₁_map, ∥∥₁_elim, ∥∥₁_prop}
use Rattle.std.proofs.lemmas.Bool.Decides.{leb_tells}
use Rattle.std.proofs.lemmas.List.{drop_all}
use Rattle.std.proofs.lemmas.List.Elements.{All-nil}
use Rattle.std.proofs.lemmas.List.FromFn.{length-map-range_with_len}
use Rattle.plan_types.specs.declared.machine.Machine.{Machine}
use Rattle.plan_types.specs.declared.plan.Move.{Move}
use Rattle.plan_types.specs.declared.plan.Planned.{Planned}
use Rattle.plan_types.specs.Clock.{turn_ns}
use Rattle.plan_types.specs.Lines.{Clocks, lines_tick, lines_turn}
use Rattle.plan_types.specs.Machines.{IsValidMachine, board_at, no_board, stepper_at}
use Rattle.plan_types.specs.Plan.{AreSpaced, Fits}
use Rattle.plan_types.specs.Sections.{TimedPart, clocks_at, last_turn, section_end, section_parts, section_plans, stepper_plan}
use Rattle.clock_line.specs.Kept.{AreKept}
use Rattle.clock_line.proofs.Turns.{turn-after}
use Rattle.step_feed.specs.declared.stream.FeedStream.{FeedStream}
use Rattle.step_feed.specs.Pacing.{Release, lead}
use Rattle.step_feed.specs.Streams.{stream_start, next_turn, slots_of}
use Rattle.step_feed.specs.Units.{StepUnit}
use Rattle.section_units.specs.Completed.{IsOpenFrontBy, pushed_of}
use Rattle.section_units.specs.Fronts.{AreFirstOfBy}
use Rattle.section_units.specs.Merged.{plan_at}
use Rattle.section_units.specs.Plans.{AreSentOn, plans_on, section_on}
use Rattle.section_units.specs.Sections.{AreBegunBy, IsWholeBy, of_stepper, steps_said}
use Rattle.section_units.specs.Units.{as_sent}
use Rattle.section_units.proofs.Completing.{completed}
use Rattle.section_stream.specs.declared.stepper.StepperStream.{StepperStream}
use Rattle.section_stream.specs.Looking.{IsFuture}
use Rattle.step_ticks.specs.Streaming.{last_step_tick}
use Rattle.section_stream.proofs.Stretches.{spaced-above}
use Rattle.section_feed.specs.declared.board.BoardStream.{BoardStream}
use Rattle.section_feed.specs.declared.section.SectionStream.{SectionStream}
use Rattle.section_feed.specs.Boards.{AreUpTo, IsLasting}
use Rattle.section_feed.specs.Feeding.{AreFeeding, IsBoardOf, count_of, first_of, lines_of_board, slots_in, fed_time, turn_of}
use Rattle.section_feed.specs.Kinds.{steppers_on}
use Rattle.section_feed.specs.On.{CanComplete, IsSectionOn}
use Rattle.section_feed.specs.Queues.{is_taking}
use Rattle.section_feed.specs.Released.{steppers_in}
use Rattle.section_feed.specs.Rests.{AreAllRested, AreRested}
use Rattle.section_feed.specs.Sections.{boards_in, boards_of, next_of, queue_of}
use Rattle.section_feed.specs.Sets.{BoardSet, goes_of, set_of, start_set}
use Rattle.section_feed.specs.Wholes.{IsSetTo, sent_plan}
use Rattle.section_feed.proofs.Lasts.{kept-lasting}
use Rattle.section_feed.proofs.Ending.{spaced-last}
use Rattle.section_feed.proofs.Ends.{end-most, has-number, last-some, plan-is, section-parts, set-of}
use Rattle.section_feed.proofs.Following.{base-on, kinds-on, one-plan, other-plan, plan-on, plan-spaced, set-to, section-sent}
use Rattle.section_feed.proofs.Fronting.{one-pushed, one-rested, queue-left}
use Rattle.section_units.proofs.Lateness.{turn_from}

-- the steps of a plan that ends in a turn
pub sent-turn : (clocks : Clocks) (inverted : Bool) (steps : List Planned) → last_turn clocks (as_sent inverted steps) ≡ last_turn clocks steps
sent-turn clocks inverted [] = refl
sent-turn clocks inverted (s ∷ []) = refl
sent-turn clocks inverted (s ∷ t ∷ steps) = sent-turn clocks inverted (t ∷ steps)

pub steps-within : (clocks : Clocks) (base end : ℕ) (steps : List Planned) → AreKept clocks → AreSpaced base steps → last_turn clocks steps ≤ end → All (λ q. q.tick < lines_tick clocks ((end + 1) * turn_ns)) steps
steps-within clocks base end [] kept spaced h = All-nil (λ (q : Planned). q.tick < lines_tick clocks ((end + 1) * turn_ns))
steps-within clocks base end (s ∷ steps) kept spaced h =
    let last = last_step_tick base (s ∷ steps) in
    let e = last-some clocks base s steps in
    let after = turn-after clocks last end kept (omega arith) in
    let at = spaced-last base (s ∷ steps) spaced in
    λ k d l. (let a = at k d l in omega arith)

plan-within : (m : Machine) (clocks : List Clocks) (all : List Move) (turn b oid : ℕ) → AreKept (clocks_at clocks b) → oid < length (steppers_on b m.steppers) → All (λ q. q.tick < lines_tick (clocks_at clocks b) ((section_end m clocks all turn + 1) * turn_ns)) (plan-on m clocks all turn b oid)
plan-within m clocks all turn b oid kept h =
    let own = clocks_at clocks b in
    let n = has-number b m.steppers (section_plans m clocks all turn) oid (length-map-range_with_len (stepper_plan m clocks all turn) 0 (length m.steppers)) h in
    let plan = stepper_plan m clocks all turn n.number in
    let is = plan-is m clocks all turn b oid n.number false n.same n.board in
    let most = end-most m clocks all turn n.number n.inside in
    let board : (stepper_at m n.number).board ≡ b = n.board in
    let end : last_turn own plan ≤ section_end m clocks all turn = (let e = ap (λ k. last_turn (clocks_at clocks k) plan) board in omega arith) in
    let sent = sent-turn own (stepper_at m n.number).inverted plan in
    let spaced = subst (AreSpaced (base-on clocks turn b)) is (plan-spaced m clocks all turn b oid) in
    subst (All (λ (q : Planned). q.tick < lines_tick own ((section_end m clocks all turn + 1) * turn_ns))) (sym is) (steps-within own (base-on clocks turn b) (section_end m clocks all turn) (as_sent (stepper_at m n.number).inverted plan) kept spaced (omega arith))

-- what holds of the plan of an object id, whether or not there is a stepper of it
pub by-place : (m : Machine) (clocks : List Clocks) (all : List Move) (turn b oid : ℕ) (P : List Planned → Type 0) → (length (steppers_on b m.steppers) ≤ oid → P []) → (oid < length (steppers_on b m.steppers) → P (plan-on m clocks all turn b oid)) → P (plan_at (plans_on m clocks all turn b) oid)
by-place m clocks all turn b oid P none some =
    let count = length (steppers_on b m.steppers) in
    elim (leb_tells count oid) as (λ _. P (plan_at (plans_on m clocks all turn b) oid)) [
      | inl p ↦ subst P (sym (other-plan m clocks all turn b oid p.1)) (none p.1)
      | inr p ↦ let h = p.1 in let lt : oid < count = omega (arith, h) in subst P (sym (one-plan m clocks all turn b oid lt)) (some lt)
    ]

-- a board of a section as an open front
open-front : (homing : Bool) (m : Machine) (clocks : List Clocks) (all : List Move) (turn b : ℕ) (goes : Bool) (time packed : ℕ) (steppers : List StepperStream) (feeds : FeedStream) (order : ℕ) (parts more : List TimedPart) (released : List Release) → 250 ≤ turn → 1 ≤ slots_of feeds → stream_start feeds ≡ turn - 250 → length steppers ≡ length (steppers_on b m.steppers) → parts ++ more ≡ section_parts m all turn
    → IsLasting (clocks_at clocks b) → AreUpTo (clocks_at clocks b) goes time packed steppers → (goes ≡ false → more ≡ []) → All (λ t. time ≤ t.begin) more → ((k : ℕ) → k < length steppers → IsSetTo homing (board_at m b).freq (base-on clocks turn b) (kinds-on homing m clocks turn b k)) → AreRested (next_turn feeds + 250) steppers
    → AreFeeding steppers feeds (clocks_at clocks b) order (kinds-on homing m clocks turn b) (base-on clocks turn b) parts released
    → IsOpenFrontBy homing (clocks_at clocks b) (board_at m b).freq (slots_of feeds) turn (section_end m clocks all turn) (next_turn feeds) (length (steppers_on b m.steppers)) (plan_at (plans_on m clocks all turn b)) released feeds.waiting.items
open-front homing m clocks all turn b goes time packed steppers feeds order parts more released late slots first count whole lasting up none after set rested f =
    let own = clocks_at clocks b in
    let base = base-on clocks turn b in
    let freq = (board_at m b).freq in
    let n = length (steppers_on b m.steppers) in
    let kinds = kinds-on homing m clocks turn b in
    let kept = kept-lasting own lasting in
    let low = next_turn feeds + 250 in
    let pushed : (oid : ℕ) → pushed_of oid released feeds.waiting.items ≡ of_stepper oid f.units = λ oid. ap (of_stepper oid) (sym f.fed.pushed_is) in
    let others : (oid : ℕ) → n ≤ oid → pushed_of oid released feeds.waiting.items ≡ [] = λ oid h. pushed oid ∙ f.given.others oid (omega arith) in
    let plan : (oid : ℕ) → sent_plan (kinds oid) own base (parts ++ more) ≡ plan-on m clocks all turn b oid = λ oid. ap (sent_plan (kinds oid) own base) whole in
    let given : (oid : ℕ) → oid < n → AreFirstOfBy homing own freq oid base (plan-on m clocks all turn b oid) (pushed_of oid released feeds.waiting.items) = λ oid h.
    subst (λ us. AreFirstOfBy homing own freq oid base (plan-on m clocks all turn b oid) us) (sym (pushed oid)) (subst (λ p. AreFirstOfBy homing own freq oid base p (of_stepper oid f.units)) (plan oid) (first-of steppers oid (omega arith) refl)) in
    let rest : (oid : ℕ) → oid < n → All (λ q. low ≤ lines_turn own q.tick) (drop (length (steps_said oid false (pushed_of oid released feeds.waiting.items))) (plan-on m clocks all turn b oid)) = λ oid h.
    subst (λ us. All (λ (q : Planned). low ≤ lines_turn own q.tick) (drop (length (steps_said oid false us)) (plan-on m clocks all turn b oid))) (sym (pushed oid)) (subst (λ p. All (λ (q : Planned). low ≤ lines_turn own q.tick) (drop (length (steps_said oid false (of_stepper oid f.units))) p)) (plan oid) (rest-of steppers oid (omega arith) refl)) in
    record {
      slots_some = slots;
      none = other-plan m clocks all turn b;
      spaced = λ oid. by-place m clocks all turn b oid (AreSpaced base) (λ h. tt) (λ h. plan-spaced m clocks all turn b oid);
      within = λ oid. by-place m clocks all turn b oid (All (λ (q : Planned). q.tick < lines_tick own ((section_end m clocks all turn + 1) * turn_ns))) (λ h. All-nil (λ (q : Planned). q.tick < lines_tick own ((section_end m clocks all turn + 1) * turn_ns))) (plan-within m clocks all turn b oid kept);
      begun = λ oid. elim (leb_tells n oid) as (λ _. AreBegunBy homing own base (pushed_of oid released feeds.waiting.items)) [
        | inl p ↦ subst (AreBegunBy homing own base) (sym (others oid p.1)) tt
        | inr p ↦ let h = p.1 in (given oid (omega (arith, h))).begun
      ];
      fits = λ oid. by-place m clocks all turn b oid (Fits freq base (steps_said oid false (pushed_of oid released feeds.waiting.items))) (λ h. subst (λ us. Fits freq base (steps_said oid false us) []) (sym (others oid h)) tt) (λ h. (given oid h).fits);
      later = λ oid. by-place m clocks all turn b oid (λ p. All (λ (q : Planned). next_turn feeds + lead ≤ lines_turn own q.tick) (drop (length (steps_said oid false (pushed_of oid released feeds.waiting.items))) p)) (λ h. none-left (length (steps_said oid false (pushed_of oid released feeds.waiting.items)))) (rest oid);
      from = stream_start feeds;
      exact = omega arith;
      paced = f.fed.paced;
      no_room = f.fed.no_sooner;
    }
  where
    none-left : (k : ℕ) → All (λ (q : Planned). next_turn feeds + lead ≤ lines_turn (clocks_at clocks b) q.tick) (drop k [])
    none-left k = subst (All (λ (q : Planned). next_turn feeds + lead ≤ lines_turn (clocks_at clocks b) q.tick)) (sym (drop_all k [] (omega arith))) (All-nil (λ (q : Planned). next_turn feeds + lead ≤ lines_turn (clocks_at clocks b) q.tick))

    first-of : (ss : List StepperStream) (oid : ℕ) → oid < length ss → ss ≡ steppers → AreFirstOfBy homing (clocks_at clocks b) (board_at m b).freq oid (base-on clocks turn b) (sent_plan (kinds-on homing m clocks turn b oid) (clocks_at clocks b) (base-on clocks turn b) (parts ++ more)) (of_stepper oid f.units)
    first-of [] oid h is = absurd (omega arith)
    first-of (s ∷ ss) oid h is = one-pushed homing (clocks_at clocks b) goes time packed steppers feeds order (board_at m b).freq (kinds-on homing m clocks turn b) (base-on clocks turn b) parts more released s oid (subst (λ (xs : List StepperStream). oid < length xs) is h) up none after set f

    rest-of : (ss : List StepperStream) (oid : ℕ) → oid < length ss → ss ≡ steppers → All (λ q. next_turn feeds + 250 ≤ lines_turn (clocks_at clocks b) q.tick) (drop (length (steps_said oid false (of_stepper oid f.units))) (sent_plan (kinds-on homing m clocks turn b oid) (clocks_at clocks b) (base-on clocks turn b) (parts ++ more)))
    rest-of [] oid h is = absurd (omega arith)
    rest-of (s ∷ ss) oid h is = one-rested homing (clocks_at clocks b) goes time packed steppers feeds order (board_at m b).freq (next_turn feeds + 250) (kinds-on homing m clocks turn b) (base-on clocks turn b) parts more released s oid (subst (λ (xs : List StepperStream). oid < length xs) is h) up none after set (kept-lasting (clocks_at clocks b) lasting) rested f

-- the releases that a front is completed by, on a board of a machine
can-complete : (homing : Bool) (m : Machine) (clocks : List Clocks) (all : List Move) (turn b slots next next' count : ℕ) (rs : List Release) (waiting : List StepUnit) → slots ≡ (board_at m b).slots → next ≡ next' → IsOpenFrontBy homing (clocks_at clocks b) (board_at m b).freq slots turn (section_end m clocks all turn) next count (plan_at (plans_on m clocks all turn b)) rs waiting → AreSentOn m clocks all turn b rs → CanComplete homing m clocks all turn b next' rs
can-complete homing m clocks all turn b slots next next' count rs waiting is same front sent =
    let r = completed homing (clocks_at clocks b) (board_at m b).freq slots turn (section_end m clocks all turn) next count (plan_at (plans_on m clocks all turn b)) rs waiting front in
    record {
      more = r.0;
      whole = subst (λ n. IsWholeBy homing (clocks_at clocks b) (board_at m b).freq n (section_on m clocks all turn b (rs ++ r.0))) is r.1.whole;
      later = subst (λ n. All (λ (x : Release). n ≤ x.turn) r.0) same r.1.later;
      sent = sent;
    }

board-open : (homing : Bool) (m : Machine) (clocks : List Clocks) (all : List Move) (turn b next : ℕ) (board : BoardStream) (parts more : List TimedPart) (released : List Release) → 250 ≤ turn → 1 ≤ (board_at m b).slots → set_of board ≡ start_set m clocks turn b → parts ++ more ≡ section_parts m all turn → turn_of board ≡ next → IsLasting (clocks_at clocks b)
    → (goes_of board ≡ false → more ≡ []) → All (λ t. fed_time board ≤ t.begin) more → ((k : ℕ) → k < count_of board → IsSetTo homing (board_at m b).freq (base-on clocks turn b) (kinds-on homing m clocks turn b k)) → ∥ AreRested (next + 250) (steppers_in board) ∥₁ → IsBoardOf board (kinds-on homing m clocks turn b) (base-on clocks turn b) parts released → ∥ AreSentOn m clocks all turn b released ∥₁ → ∥ CanComplete homing m clocks all turn b next released ∥₁
board-open homing m clocks all turn b next board parts more released late slots set whole same lasting none after sets rested was sent =
    let own = clocks_at clocks b in
    let lines : lines_of_board board ≡ own = ap (λ (x : BoardSet). x.clocks) set in
    let count : count_of board ≡ length (steppers_on b m.steppers) = ap (λ (x : BoardSet). x.count) set in
    let first : first_of board ≡ turn - 250 = ap (λ (x : BoardSet). x.first) set in
    let slots_are : slots_in board ≡ (board_at m b).slots = ap (λ (x : BoardSet). x.slots) set in
    ∥∥₁_elim sent ∥∥₁_prop (λ own_sent. ∥∥₁_elim rested ∥∥₁_prop (λ own_rest. ∥∥₁_elim board.up_to ∥∥₁_prop (λ up. ∥∥₁_map was (λ f. can-complete homing m clocks all turn b (slots_in board) (turn_of board) next (length (steppers_on b m.steppers)) released board.feed.waiting.items slots_are same
    (open-front homing m clocks all turn b board.goes board.time board.turn board.steppers.items board.feed board.order parts more released late (omega arith) first count whole lasting
    (subst (λ (k : Clocks). AreUpTo k board.goes board.time board.turn board.steppers.items) lines up) none after sets (subst (λ n. AreRested (n + 250) (steppers_in board)) (sym same) own_rest)
    (subst (λ (k : Clocks). AreFeeding board.steppers.items board.feed k board.order (kinds-on homing m clocks turn b) (base-on clocks turn b) parts released) lines f)) own_sent))))

pub section-open : (m : Machine) (clocks : List Clocks) (turn : ℕ) (homing : Bool) (s : SectionStream) (moves all : List Move) (released : ℕ → List Release) (b : ℕ) → IsSectionOn m clocks turn homing s moves released → IsFuture (is_taking (queue_of s)) moves all → AreAllRested (next_of s + 250) (boards_in s) → b < length m.boards → ∥ CanComplete homing m clocks all turn b (next_of s) (released b) ∥₁
section-open m clocks turn homing s moves all released b on future rested h = go s.boards.items refl
  where
    go : (boards : List BoardStream) → boards ≡ s.boards.items → ∥ CanComplete homing m clocks all turn b (next_of s) (released b) ∥₁
    go [] is = absurd (let l = ap (λ (bs : List BoardStream). length bs) is in let n = on.boards in omega arith)
    go (x ∷ xs) is =
        let l = on.boards in
        let inside : b < boards_of s = omega arith in
        let one = get_or s.boards.items b x in
        let left = queue-left s.queue m.scv moves all on.section.parts on.section.queue future in
        let own = left.1 in
        let set = set-of m clocks turn homing s moves released b x on inside in
        let time = on.section.boards.times b x inside in
        let slots = (on.machine.boards b no_board h).slots_low in
        board-open homing m clocks all turn b (next_of s) one on.section.parts left.0 (released b) on.lead (omega arith) set (sym own.whole ∙ section-parts m clocks turn homing s moves all released on) (s.turns b x inside).next (on.may_start b h).lasting
        (λ over. own.none (s.ended.each b x inside over)) (subst (λ (t : ℕ). All (λ p. t ≤ p.begin) left.0) (sym time) own.after) (λ k lt. set-to m clocks turn homing s moves released b k on h) (rested.each b x inside) (on.section.boards.each b x inside) (section-sent m clocks turn homing s moves all released b on future h)

-- a section of which nothing was released yet
pub section-begun : (homing : Bool) (m : Machine) (clocks : List Clocks) (all : List Move) (turn b : ℕ) → IsValidMachine m → 250 ≤ turn → IsLasting (clocks_at clocks b) → b < length m.boards → CanComplete homing m clocks all turn b (turn - 250) []
section-begun homing m clocks all turn b valid late lasting h =
    let own = clocks_at clocks b in
    let base = base-on clocks turn b in
    let kept = kept-lasting own lasting in
    let slots = (valid.boards b no_board h).slots_low in
    let due : (oid : ℕ) → All (λ (q : Planned). turn - 250 + lead ≤ lines_turn own q.tick) (plan-on m clocks all turn b oid) = λ oid k d l. (
    let above = spaced-above base base (plan-on m clocks all turn b oid) (omega arith) (plan-spaced m clocks all turn b oid) k d l in
    let from = turn_from own turn _ kept above in
    omega (arith, from)) in
    can-complete homing m clocks all turn b (board_at m b).slots (turn - 250) (turn - 250) (length (steppers_on b m.steppers)) [] [] refl refl (record {
      slots_some = omega arith;
      none = other-plan m clocks all turn b;
      spaced = λ oid. by-place m clocks all turn b oid (AreSpaced base) (λ n. tt) (λ n. plan-spaced m clocks all turn b oid);
      within = λ oid. by-place m clocks all turn b oid (All (λ (q : Planned). q.tick < lines_tick own ((section_end m clocks all turn + 1) * turn_ns))) (λ n. All-nil (λ (q : Planned). q.tick < lines_tick own ((section_end m clocks all turn + 1) * turn_ns))) (plan-within m clocks all turn b oid kept);
      begun = λ oid. tt;
      fits = λ oid. tt;
      later = λ oid. by-place m clocks all turn b oid (All (λ (q : Planned). turn - 250 + lead ≤ lines_turn own q.tick)) (λ n. All-nil (λ (q : Planned). turn - 250 + lead ≤ lines_turn own q.tick)) (λ n. due oid);
      from = turn - 250;
      exact = omega arith;
      paced = tt;
      no_room = tt;
    }) (record { in_order = tt; longest = λ oid. tt })
