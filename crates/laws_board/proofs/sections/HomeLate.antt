-- A unit of a section of moves that is left five turns behind its end: for a stepper it is good, and comes too late.
use Rattle.std.proofs.Common.{◌≡◌, ◌≢◌, ℕ, Bool, false, ◌+◌, ◌-◌, ◌*◌, ◌<◌, ◌≤◌, List, [], ◌∷◌, ◌++◌, Option, None, Some, refl, ap, sym, ◌∙◌, subst, arith, inl, inr}
use Rattle.laws_board.proofs.Names.{eqb_tells, turn_ns, lines_tick, step_command, unit_orders, StepUnit, Release, units_of, BoardSection, of_stepper, cons_same}
use Rattle.std.specs.Prelude.{slice_index}
use Rattle.plan_types.specs.Board.{last_of}
use Rattle.step_feed.specs.Pacing.{pending}
use Rattle.step_feed.specs.Rings.{count_from}
use Rattle.section_units.specs.Sections.{ticks_meant}
use Rattle.laws_board.specs.sections.Known.{Sent, sent_at, AreBelow}
use Rattle.laws_board.specs.sections.Courses.{Course, IsSince, course_from, AreGoodOn}
use Rattle.laws_board.proofs.sections.Clocks.{bound_made}
use Rattle.laws_board.proofs.sections.Stepping.{course_append, good_behind, good_front}
use Rattle.laws_board.proofs.sections.Units.{ahead_of_step, step_sent, unit_is}
use Rattle.laws_board.proofs.sections.Waiting.{Frame, IsInside, AreInside, few_pend, lasts}
use Rattle.laws_board.proofs.sections.HomeUnits.{other_unit}
use Rattle.laws_board.proofs.sections.HomeTurns.{StageWith, IsEarly, next_unit}
use Rattle.laws_board.proofs.sections.HomeSections.{IsBegunOn, LostOn}
use Rattle.laws_board.proofs.sections.Spreading.{lasts_below}

step_ends : (oid turn : ℕ) (c : Course) (u : StepUnit) → u.stepper ≡ oid → (course_from oid c (step_sent turn u ∷ [])).known.ends ≡ last_of 0 (ticks_meant u) ∷ c.known.ends
step_ends oid turn c u e = elim (eqb_tells u.stepper oid) [ inl p ↦ rw p.0 refl | inr p ↦ absurd (p.1 e) ]

stage_first : (f : Frame) (stops : ℕ → Option ℕ) (oid : ℕ) (homes : Bool) (s : BoardSection) (c0 : Course) (Q : List StepUnit → Type 0) (c : Course) (ls : List ℕ) (u : StepUnit) (us : List StepUnit)
    → StageWith f stops oid homes s c0 Q c ls (u ∷ us) → u.first ≡ slice_index (ticks_meant u) 0
stage_first f stops oid homes s c0 Q c ls u us (inl n) = n.0.units.2.first
stage_first f stops oid homes s c0 Q c ls u us (inr g) = g.goes.chain.1.first

-- what is queued ahead of the unit's triple is good, and it is so too, but for its being late; and its part was begun in the section's turns
abbrev pub LateOn : Frame → (ℕ → Option ℕ) → ℕ → Bool → BoardSection → Course → (List StepUnit → Type 0) → ℕ → Course → Release → Type 0
LateOn f stops oid homes s c0 Q turn d r =
    AreGoodOn f.own stops f.slots oid d (ahead_of_step turn r.unit) × LostOn f.own stops f.slots oid (course_from oid d (ahead_of_step turn r.unit)) (step_sent turn r.unit ∷ [])
    × (homes ≡ false → IsBegunOn oid (f.start - 250) (course_from oid d (ahead_of_step turn r.unit)).since (step_command r.unit))
    × ((ls : List ℕ) × (us : List StepUnit) × StageWith f stops oid homes s c0 Q (course_from oid (course_from oid d (ahead_of_step turn r.unit)) (step_sent turn r.unit ∷ [])) ls us)

-- what is queued up to it, and what is known behind it
unit_parts : (oid turn : ℕ) (d : Course) (u : StepUnit) → course_from oid d (sent_at turn (unit_orders u)) ≡ course_from oid (course_from oid d (ahead_of_step turn u)) (step_sent turn u ∷ [])
unit_parts oid turn d u = ap (course_from oid d) (unit_is turn u) ∙ course_append oid d (ahead_of_step turn u) (step_sent turn u ∷ [])

late_own : (f : Frame) (stops : ℕ → Option ℕ) (oid : ℕ) (homes : Bool) (s : BoardSection) (c0 : Course) (Q : List StepUnit → Type 0) (turn : ℕ) (d : Course) (before : List Release) (r : Release) (us : List StepUnit) → IsEarly f homes turn Q
    → r.unit.stepper ≡ oid → StageWith f stops oid homes s c0 Q d (lasts oid before) (r.unit ∷ us) → AreInside f before → IsInside f r.unit → f.start ≤ turn + 250 → r.unit.due ≤ turn + 250 → pending f.clocks r.unit.stepper turn before < f.slots
    → homes ≡ false → (f.start ≤ turn + 250 → stops turn ≡ None) → f.end + 5 ≤ turn → LateOn f stops oid homes s c0 Q turn d r
late_own f stops oid homes s c0 Q turn d before r us early own st behind i soon due room moves goes_on over =
    let u = r.unit in
    let a = ahead_of_step turn u in
    let t = step_sent turn u in
    let e = course_from oid d a in
    let few : count_from (f.own turn) (lasts oid before) < f.slots = omega (arith, few_pend f turn oid before behind, ap (λ y. pending f.clocks y turn before) own, room) in
    let one = next_unit f stops oid homes s c0 Q turn d (lasts oid before) u us early own st i soon due few (λ _. goes_on) in
    let Good : List Sent → Type 0 = λ x. AreGoodOn f.own stops f.slots oid d x in
    let both : AreGoodOn f.own stops f.slots oid d (a ++ t ∷ []) = subst Good (unit_is turn u) one.0 in
    let after = unit_parts oid turn d u in
    let told : last_of 0 (ticks_meant u) ∷ e.known.ends ≡ u.last ∷ lasts oid before = sym (step_ends oid turn e u own) ∙ ap (λ (x : Course). x.known.ends) (sym after) ∙ one.1.goes.ends in
    let Below : List ℕ → Type 0 = λ x. AreBelow (f.own turn) x in
    let below = subst Below (sym (cons_same (last_of 0 (ticks_meant u)) u.last e.known.ends (lasts oid before) told).1) (lasts_below f turn oid before behind over) in
    let first = stage_first f stops oid homes s c0 Q d (lasts oid before) u us st in
    let low : u.first < lines_tick f.clocks ((f.end + 1) * turn_ns) = omega (arith, i.up, i.high) in
    let past = bound_made f.own f.clocks f.ready f.end turn u.first f.ticks f.tracked (omega (arith, f.after, f.order)) f.limit low over in
    let Stage : Course → Type 0 = λ x. StageWith f stops oid homes s c0 Q x (u.last ∷ lasts oid before) us in (
      good_front f.own stops f.slots oid d a (t ∷ []) both,
      ((good_behind f.own stops f.slots oid d a (t ∷ []) both).0, λ _. (omega (arith, past, first), below)),
      λ _ _.
          let Since : Option ℕ → Type 0 = λ x. IsSince (f.start - 250) x in
          let begun = one.1.soon moves in
          let at : e.since ≡ Some one.1.turn = sym (ap (λ (x : Course). x.since) after) ∙ one.1.since in
          subst Since (sym at) (omega (arith, begun)),
      (u.last ∷ lasts oid before, us, subst Stage after (inr one.1)),
    )

late_other : (f : Frame) (stops : ℕ → Option ℕ) (oid : ℕ) (homes : Bool) (s : BoardSection) (c0 : Course) (Q : List StepUnit → Type 0) (turn : ℕ) (d : Course) (r : Release) (ls : List ℕ) (us : List StepUnit)
    → r.unit.stepper ≢ oid → StageWith f stops oid homes s c0 Q d ls us → LateOn f stops oid homes s c0 Q turn d r
late_other f stops oid homes s c0 Q turn d r ls us ne st =
    let u = r.unit in
    let a = ahead_of_step turn u in
    let t = step_sent turn u in
    let other = other_unit f.own stops f.slots turn oid d u ne in
    let Good : List Sent → Type 0 = λ x. AreGoodOn f.own stops f.slots oid d x in
    let both : AreGoodOn f.own stops f.slots oid d (a ++ t ∷ []) = subst Good (unit_is turn u) other.0 in
    let Stage : Course → Type 0 = λ x. StageWith f stops oid homes s c0 Q x ls us in (
      good_front f.own stops f.slots oid d a (t ∷ []) both,
      ((good_behind f.own stops f.slots oid d a (t ∷ []) both).0, λ e. absurd (ne e)),
      λ _ e. absurd (ne e),
      (ls, us, subst Stage (sym other.1 ∙ unit_parts oid turn d u) st),
    )

pub late_unit : (f : Frame) (stops : ℕ → Option ℕ) (oid : ℕ) (homes : Bool) (s : BoardSection) (c0 : Course) (Q : List StepUnit → Type 0) (turn : ℕ) (d : Course) (before : List Release) (r : Release) (rs : List Release) → IsEarly f homes turn Q
    → StageWith f stops oid homes s c0 Q d (lasts oid before) (of_stepper oid (units_of (r ∷ rs))) → AreInside f before → IsInside f r.unit → f.start ≤ turn + 250 → r.unit.due ≤ turn + 250 → pending f.clocks r.unit.stepper turn before < f.slots
    → homes ≡ false → (f.start ≤ turn + 250 → stops turn ≡ None) → f.end + 5 ≤ turn → LateOn f stops oid homes s c0 Q turn d r
late_unit f stops oid homes s c0 Q turn d before r rs early st behind i soon due room moves goes_on over =
    elim (eqb_tells r.unit.stepper oid) [
      | inl x ↦ late_own f stops oid homes s c0 Q turn d before r (of_stepper oid (units_of rs)) early x.1 (rw x.0 at st) behind i soon due room moves goes_on over
      | inr x ↦ late_other f stops oid homes s c0 Q turn d r (lasts oid before) (of_stepper oid (units_of rs)) x.1 (rw x.0 at st)
    ]
