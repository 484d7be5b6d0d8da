-- What a section has released on a board of a machine is the first of its plan there.
use Rattle.std.proofs.Common.{◌≡◌, ℕ, ◌+◌, ◌-◌, ◌*◌, ◌/◌, ◌<◌, ◌≤◌, Bool, false, max, List, [], ◌∷◌, length, get_or, arith, ap, sym, ◌∙◌, refl, subst, All, inl, inr}
use Rattle.std.proofs.Math.Logic.{∥∥₁_map, ∥∥₁_elim, ∥∥₁_prop}
use Rattle.std.proofs.lemmas.Bool.Decides.{eqb_tells, leb_tells}
use Rattle.std.proofs.lemmas.Bool.{cases_lt}
use Rattle.std.proofs.lemmas.List.Elements.{All-cons, All-head, All-nil, All-tail}
use Rattle.std.proofs.lemmas.List.FromFn.{get_or-map-range_with_len, length-map-range_with_len}
use Rattle.plan_types.specs.declared.machine.Machine.{Machine}
use Rattle.plan_types.specs.declared.plan.Move.{Move}
use Rattle.plan_types.specs.declared.plan.Planned.{Planned}
use Rattle.plan_types.specs.Clock.{turn_ns}
use Rattle.plan_types.specs.Lines.{Clocks, lines_tick}
use Rattle.plan_types.specs.Machines.{board_at, stepper_at}
use Rattle.plan_types.specs.Plan.{AreSpaced, Fits, max_error}
use Rattle.plan_types.specs.Sections.{clocks_at, section_end, section_parts, section_plans, stepper_plan}
use Rattle.step_feed.specs.Pacing.{Release, units_of}
use Rattle.step_feed.specs.Units.{StepUnit}
use Rattle.step_ticks.proofs.Lists.{spaced-AreSpaced}
use Rattle.section_units.specs.Merged.{AreBehind, AreInOrder, Precedes, plan_at}
use Rattle.plan_types.specs.declared.machine.StepperDef.{StepperDef}
use Rattle.section_units.specs.Sent.{AreLongestOf}
use Rattle.section_units.specs.Plans.{AreSentOn, IsFrontOnBy, IsOnBoardBy, plans_on, section_on}
use Rattle.section_units.specs.Sections.{AreBegunBy, of_stepper, steps_said}
use Rattle.section_units.proofs.Boarding.{no_plan}
use Rattle.section_units.proofs.Fronting.{section_ended}
use Rattle.section_stream.specs.Looking.{IsFuture}
use Rattle.section_stream.proofs.Fronts.{future-here}
use Rattle.section_stream.proofs.Stretches.{spaced-sent}
use Rattle.section_feed.specs.declared.section.SectionStream.{SectionStream}
use Rattle.section_feed.specs.AllBoards.{ArePast, AreReleased, latest_packed}
use Rattle.section_feed.specs.Fronts.{IsBoardFront, front_parts}
use Rattle.section_feed.specs.Kinds.{board_kinds, steppers_on}
use Rattle.section_feed.specs.On.{IsSectionOn}
use Rattle.section_feed.specs.Ordering as feed
use Rattle.section_feed.specs.Queues.{IsDrawn, drawn_to, is_taking}
use Rattle.section_feed.specs.Sections.{boards_in, queue_of, sets_of}
use Rattle.section_feed.specs.Sets.{BoardSet, start_set}
use Rattle.section_feed.specs.Wholes.{IsReleased, IsSetTo, sent_plan}
use Rattle.section_feed.proofs.Ends.{has-number, plan-is, plans-many, section-ends, section-parts}
use Rattle.section_feed.proofs.Fronting.{section-front, section-past, section-released}
use Rattle.section_feed.proofs.Setting.{set_with}

-- what the stepper of an object id is in a section, which homes or not
abbrev pub kinds-on : Bool → Machine → List Clocks → ℕ → ℕ → ℕ → Rattle.section_stream.specs.Steppers.StepperKind
kinds-on homing m clocks turn b = board_kinds m (clocks_at clocks b) b turn homing

abbrev pub base-on : List Clocks → ℕ → ℕ → ℕ
base-on clocks turn b = lines_tick (clocks_at clocks b) (turn * turn_ns)

-- the plan of its steps, in a section of either kind
abbrev pub plan-on : Machine → List Clocks → List Move → ℕ → ℕ → ℕ → List Planned
plan-on m clocks all turn b oid = sent_plan (kinds-on false m clocks turn b oid) (clocks_at clocks b) (base-on clocks turn b) (section_parts m all turn)

-- the plan of a board's stepper
pub one-plan : (m : Machine) (clocks : List Clocks) (all : List Move) (turn b oid : ℕ) → oid < length (steppers_on b m.steppers) → plan_at (plans_on m clocks all turn b) oid ≡ plan-on m clocks all turn b oid
one-plan m clocks all turn b oid h =
    let plans = section_plans m clocks all turn in
    let n = has-number b m.steppers plans oid (length-map-range_with_len (stepper_plan m clocks all turn) 0 (length m.steppers)) h in
    let at : get_or plans n.number [] ≡ stepper_plan m clocks all turn n.number = get_or-map-range_with_len (stepper_plan m clocks all turn) 0 (length m.steppers) n.number n.number [] n.inside (omega arith) in
    n.plan ∙ ap (λ p. Rattle.section_units.specs.Units.as_sent (stepper_at m n.number).inverted p) at ∙ sym (plan-is m clocks all turn b oid n.number false n.same n.board)

pub other-plan : (m : Machine) (clocks : List Clocks) (all : List Move) (turn b oid : ℕ) → length (steppers_on b m.steppers) ≤ oid → plan_at (plans_on m clocks all turn b) oid ≡ []
other-plan m clocks all turn b oid h =
    let many = plans-many b m.steppers (section_plans m clocks all turn) (length-map-range_with_len (stepper_plan m clocks all turn) 0 (length m.steppers)) in
    no_plan (plans_on m clocks all turn b) oid (omega arith)

pub plan-spaced : (m : Machine) (clocks : List Clocks) (all : List Move) (turn b oid : ℕ) → AreSpaced (base-on clocks turn b) (plan-on m clocks all turn b oid)
plan-spaced m clocks all turn b oid = spaced-sent (kinds-on false m clocks turn b oid).inverted (base-on clocks turn b) _ (spaced-AreSpaced (base-on clocks turn b) _)

-- what a board has released, as a front of its section
front-on : (homing : Bool) (m : Machine) (clocks : List Clocks) (all : List Move) (turn b : ℕ) (rs : List Release) → 250 ≤ turn → IsBoardFront homing (clocks_at clocks b) (board_at m b).freq (board_at m b).slots (turn - 250) (base-on clocks turn b) (kinds-on homing m clocks turn b) (length (steppers_on b m.steppers)) (section_parts m all turn) rs → IsFrontOnBy homing m clocks all turn b rs
front-on homing m clocks all turn b rs late f =
    let own = clocks_at clocks b in
    let base = base-on clocks turn b in
    let freq = (board_at m b).freq in
    let plans = plans_on m clocks all turn b in
    let count = length (steppers_on b m.steppers) in
    let none : (oid : ℕ) → count ≤ oid → of_stepper oid (units_of rs) ≡ [] = f.others in
    record {
      spaced = λ oid. elim (leb_tells count oid) as (λ _. AreSpaced base (plan_at plans oid)) [
        | inl p ↦ subst (AreSpaced base) (sym (other-plan m clocks all turn b oid p.1)) tt
        | inr p ↦ let h = p.1 in subst (AreSpaced base) (sym (one-plan m clocks all turn b oid (omega (arith, h)))) (plan-spaced m clocks all turn b oid)
      ];
      begun = λ oid. elim (leb_tells count oid) as (λ _. AreBegunBy homing own base (of_stepper oid (units_of rs))) [
        | inl p ↦ subst (AreBegunBy homing own base) (sym (none oid p.1)) tt
        | inr p ↦ let h = p.1 in (f.units oid (omega (arith, h))).begun
      ];
      fits = λ oid. elim (leb_tells count oid) as (λ _. Fits freq base (steps_said oid false (of_stepper oid (units_of rs))) (plan_at plans oid)) [
        | inl p ↦ subst (λ us. Fits freq base (steps_said oid false us) (plan_at plans oid)) (sym (none oid p.1)) tt
        | inr p ↦ let h = p.1 in subst (Fits freq base (steps_said oid false (of_stepper oid (units_of rs)))) (sym (one-plan m clocks all turn b oid (omega (arith, h)))) (f.units oid (omega (arith, h))).fits
      ];
      from = turn - 250;
      exact = omega arith;
      paced = f.paced;
    }

-- units of steppers with numbers below a bound, which stand in their order
own-below : (count : ℕ) (us : List StepUnit) → ((oid : ℕ) → count ≤ oid → of_stepper oid us ≡ []) → All (λ (u : StepUnit). u.stepper < count) us
own-below count [] none = All-nil (λ (u : StepUnit). u.stepper < count)
own-below count (u ∷ us) none =
    All-cons (λ (v : StepUnit). v.stepper < count) u us
    (elim (leb_tells count u.stepper) as (λ _. u.stepper < count) [ inl p ↦ absurd (some u.stepper refl (none u.stepper p.1)) | inr p ↦ (let h = p.1 in omega (arith, h)) ])
    (own-below count us (λ oid h. elim (eqb_tells u.stepper oid) as (λ _. of_stepper oid us ≡ []) [ inl p ↦ absurd (some oid p.1 (none oid h)) | inr p ↦ sym (feed-other oid p.1) ∙ none oid h ]))
  where
    clash : {xs : List StepUnit} → u ∷ xs ≡ [] → ⊥
    clash e = cc

    some : (oid : ℕ) → u.stepper ≡ oid → of_stepper oid (u ∷ us) ≡ [] → ⊥
    some oid same e = elim (eqb_tells u.stepper oid) [ inl p ↦ clash (rw p.0 at e) | inr p ↦ p.1 same ]

    feed-other : (oid : ℕ) → (u.stepper ≡ oid → ⊥) → of_stepper oid (u ∷ us) ≡ of_stepper oid us
    feed-other oid other = elim (eqb_tells u.stepper oid) [ inl p ↦ absurd (other p.1) | inr p ↦ rw p.0 refl ]

behind-order : (u : StepUnit) (low : ℕ) (us : List StepUnit) → feed.order_of u ≤ low → u.stepper < 256 → All (λ (v : StepUnit). v.stepper < 256) us → feed.AreInOrderFrom low us → AreBehind u us
behind-order u low [] h byte all order = tt
behind-order u low (v ∷ vs) h byte all order =
    let P : StepUnit → Type 0 = λ w. w.stepper < 256 in
    let own = All-head P v vs all in
    let up = order.0 in
    let here : Precedes u v = elim (cases_lt u.first v.first) as (λ _. Precedes u v) [ inl less ↦ inl less | inr over ↦ inr (omega (arith, h, byte, own, up, over), omega (arith, h, byte, own, up, over)) ] in
    (here, behind-order u (feed.order_of v) vs (omega (arith, h, up)) byte (All-tail P v vs all) order.1)

pub order-pairs : (low : ℕ) (us : List StepUnit) → All (λ (v : StepUnit). v.stepper < 256) us → feed.AreInOrderFrom low us → AreInOrder us
order-pairs low [] all order = tt
order-pairs low (u ∷ us) all order =
    let P : StepUnit → Type 0 = λ w. w.stepper < 256 in
    (behind-order u (feed.order_of u) us (omega arith) (All-head P u us all) (All-tail P u us all) order.1, order-pairs (feed.order_of u) us (All-tail P u us all) order.1)

few-on : (b : ℕ) (ss : List StepperDef) → length (steppers_on b ss) ≤ length ss
few-on b [] = omega arith
few-on b (s ∷ ss) = let l = few-on b ss in elim (eqb_tells s.board b) [ inl p ↦ rw p.0 (omega (arith, l)) | inr p ↦ rw p.0 (omega (arith, l)) ]

-- what a board has released, as what it is sent
sent-on : (homing : Bool) (m : Machine) (clocks : List Clocks) (all : List Move) (turn b : ℕ) (rs : List Release) → length m.steppers ≤ 16 → IsBoardFront homing (clocks_at clocks b) (board_at m b).freq (board_at m b).slots (turn - 250) (base-on clocks turn b) (kinds-on homing m clocks turn b) (length (steppers_on b m.steppers)) (section_parts m all turn) rs → AreSentOn m clocks all turn b rs
sent-on homing m clocks all turn b rs small f =
    let own = clocks_at clocks b in
    let base = base-on clocks turn b in
    let freq = (board_at m b).freq in
    let plans = plans_on m clocks all turn b in
    let count = length (steppers_on b m.steppers) in
    let few = few-on b m.steppers in
    let below = own-below count (units_of rs) f.others in
    record {
      in_order = order-pairs 0 (units_of rs) (λ k d l. (let h = below k d l in omega (arith, h, few, small))) f.in_order;
      longest = λ oid. elim (leb_tells count oid) as (λ _. AreLongestOf own freq base (plan_at plans oid) (of_stepper oid (units_of rs))) [
        | inl p ↦ subst (λ us. AreLongestOf own freq base (plan_at plans oid) us) (sym (f.others oid p.1)) tt
        | inr p ↦ let h = p.1 in subst (λ ps. AreLongestOf own freq base ps (of_stepper oid (units_of rs))) (sym (one-plan m clocks all turn b oid (omega (arith, h)))) (f.longest oid (omega (arith, h)))
      ];
    }

-- what stays the same of a board
no-set : BoardSet
no-set = set_with (Rattle.plan_types.specs.Lines.one_line (record { at = 0; clock = 0; freq = 0 })) 0 0 0

set-here : (m : Machine) (clocks : List Clocks) (turn : ℕ) (homing : Bool) (s : SectionStream) (moves : List Move) (released : ℕ → List Release) (b : ℕ) → IsSectionOn m clocks turn homing s moves released → b < length m.boards → get_or (sets_of s) b no-set ≡ start_set m clocks turn b
set-here m clocks turn homing s moves released b on h = on.sets b no-set h

-- the clocks of the steppers are set to the section's first tick, or in a section that homes are not set
pub set-to : (m : Machine) (clocks : List Clocks) (turn : ℕ) (homing : Bool) (s : SectionStream) (moves : List Move) (released : ℕ → List Release) (b k : ℕ) → IsSectionOn m clocks turn homing s moves released → b < length m.boards → IsSetTo homing (board_at m b).freq (base-on clocks turn b) (kinds-on homing m clocks turn b k)
set-to m clocks turn homing s moves released b k on h = record { reset = refl; early = ap max_error (on.freq b h) }

board-follows : (m : Machine) (clocks : List Clocks) (turn : ℕ) (homing : Bool) (s : SectionStream) (moves all : List Move) (released : ℕ → List Release) (b : ℕ) → IsSectionOn m clocks turn homing s moves released → IsFuture (is_taking (queue_of s)) moves all → b < length m.boards
    → ∥ IsBoardFront homing (clocks_at clocks b) (board_at m b).freq (board_at m b).slots (turn - 250) (base-on clocks turn b) (kinds-on homing m clocks turn b) (length (steppers_on b m.steppers)) (section_parts m all turn) (released b) ∥₁
board-follows m clocks turn homing s moves all released b on future h =
    let l = on.boards in
    let kinds = λ (n : ℕ). kinds-on homing m clocks turn n in
    let base = λ (n : ℕ). base-on clocks turn n in
    let r = section-front homing s m.scv moves all kinds base released b (board_at m b).freq no-set on.section future (omega arith) (λ k lt. set-to m clocks turn homing s moves released b k on h) in
    let at = subst (λ (st : BoardSet). ∥ IsBoardFront homing st.clocks (board_at m b).freq st.slots st.first (base b) (kinds b) st.count (front_parts s m.scv all) (released b) ∥₁) (set-here m clocks turn homing s moves released b on h) r in
    subst (λ ps. ∥ IsBoardFront homing (clocks_at clocks b) (board_at m b).freq (board_at m b).slots (turn - 250) (base b) (kinds b) (length (steppers_on b m.steppers)) ps (released b) ∥₁) (section-parts m clocks turn homing s moves all released on) at

pub section-sent : (m : Machine) (clocks : List Clocks) (turn : ℕ) (homing : Bool) (s : SectionStream) (moves all : List Move) (released : ℕ → List Release) (b : ℕ) → IsSectionOn m clocks turn homing s moves released → IsFuture (is_taking (queue_of s)) moves all → b < length m.boards → ∥ AreSentOn m clocks all turn b (released b) ∥₁
section-sent m clocks turn homing s moves all released b on future h = ∥∥₁_map (board-follows m clocks turn homing s moves all released b on future h) (sent-on homing m clocks all turn b (released b) on.machine.steppers_few)

pub section-follows : (m : Machine) (clocks : List Clocks) (turn : ℕ) (homing : Bool) (s : SectionStream) (moves all : List Move) (released : ℕ → List Release) (b : ℕ) → IsSectionOn m clocks turn homing s moves released → IsFuture (is_taking (queue_of s)) moves all → b < length m.boards → ∥ IsFrontOnBy homing m clocks all turn b (released b) ∥₁
section-follows m clocks turn homing s moves all released b on future h = ∥∥₁_map (board-follows m clocks turn homing s moves all released b on future h) (front-on homing m clocks all turn b (released b) on.lead)

pub section-on : (m : Machine) (clocks : List Clocks) (turn : ℕ) (homing : Bool) (s : SectionStream) (moves : List Move) (released : ℕ → List Release) (e b : ℕ) → IsSectionOn m clocks turn homing s moves released → IsDrawn (queue_of s) → AreReleased (boards_in s) → ArePast e (boards_in s) → e ≡ max (drawn_to (queue_of s) / turn_ns) (latest_packed (boards_in s)) → b < length m.boards → ∥ IsOnBoardBy homing m clocks moves turn b (released b) ∥₁
section-on m clocks turn homing s moves released e b on drawn all past is h =
    let own = clocks_at clocks b in
    let l = on.boards in
    let end = section-ends m clocks turn homing s moves released e on drawn past is in
    let plans = plans_on m clocks moves turn b in
    let count = length (steppers_on b m.steppers) in
    let units = units_of (released b) in
    let kinds = λ (n : ℕ). kinds-on homing m clocks turn n in
    let base = λ (n : ℕ). base-on clocks turn n in
    let set = set-here m clocks turn homing s moves released b on h in
    let parts = section-parts m clocks turn homing s moves moves released on in
    let Within : ℕ → List Planned → Type 0 = λ oid steps. All (λ (p : Planned). p.tick < lines_tick own ((section_end m clocks moves turn + 1) * turn_ns)) steps in
    let within : (oid : ℕ) → Within oid (plan_at plans oid) = λ oid. elim (leb_tells count oid) as (λ _. Within oid (plan_at plans oid)) [
      | inl p ↦ subst (Within oid) (sym (other-plan m clocks moves turn b oid p.1)) (All-nil (λ (p : Planned). p.tick < lines_tick own ((section_end m clocks moves turn + 1) * turn_ns)))
      | inr p ↦ (
          let lt = p.1 in
          let inside : oid < count = omega (arith, lt) in
          let r = section-past s m.scv moves kinds base released b e oid (section_end m clocks moves turn + 1) no-set on.section drawn past (omega arith) (subst (λ (st : BoardSet). oid < st.count) (sym set) inside) (omega arith) in
          let at = subst (λ (st : BoardSet). All (λ (q : Planned). q.tick < lines_tick st.clocks ((section_end m clocks moves turn + 1) * turn_ns)) (sent_plan (kinds b oid) st.clocks (base b) (front_parts s m.scv moves))) set r in
          let here = subst (λ ps. Within oid (sent_plan (kinds b oid) own (base b) ps)) parts at in
          subst (Within oid) (sym (one-plan m clocks moves turn b oid inside)) here)
    ] in
    let front = section-follows m clocks turn homing s moves moves released b on (future-here (is_taking (queue_of s)) moves) h in
    let r = section-released homing s m.scv moves kinds base released b (board_at m b).freq no-set on.section drawn all (omega arith) (λ k lt. set-to m clocks turn homing s moves released b k on h) in
    let at = subst (λ (st : BoardSet). ∥ IsReleased homing st.clocks (board_at m b).freq st.slots st.first (base b) (kinds b) st.count (front_parts s m.scv moves) (released b) ∥₁) set r in
    let here = subst (λ ps. ∥ IsReleased homing own (board_at m b).freq (board_at m b).slots (turn - 250) (base b) (kinds b) count ps (released b) ∥₁) parts at in
    ∥∥₁_elim front ∥∥₁_prop (λ f. ∥∥₁_map here (λ w. section_ended homing own (board_at m b).freq (board_at m b).slots (section_on m clocks moves turn b (released b)) f within (λ oid. elim (leb_tells count oid) as (λ _. length (steps_said oid false (of_stepper oid units)) ≡ length (plan_at plans oid)) [
      | inl p ↦ (
          let none : of_stepper oid units ≡ [] = w.others oid p.1 in
          ap (λ us. length (steps_said oid false us)) none ∙ sym (ap (λ (ps : List Planned). length ps) (other-plan m clocks moves turn b oid p.1)))
      | inr p ↦ (
          let lt = p.1 in
          let inside : oid < count = omega (arith, lt) in
          (w.packed oid inside).whole ∙ sym (ap (λ (ps : List Planned). length ps) (one-plan m clocks moves turn b oid inside)))
    ])))
