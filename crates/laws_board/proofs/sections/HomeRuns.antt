-- A stepper over the sections of a run, of moves or homing.
use Rattle.std.proofs.Common.{◌≡◌, ℕ, Bool, true, false, ◌+◌, ◌-◌, ◌≤◌, ◌⊎◌, List, [], ◌∷◌, ◌++◌, All, map, Option, Some, None, refl, ap, sym, ◌∙◌, subst, arith, inl, inr, append_assoc, append-nil, suc, ◌<◌, drop}
use Rattle.laws_board.proofs.Names.{eqb_tells, leb_tells, flat_map, step_command, Cmd, plain, units_orders, StepUnit, Release, batch_at, units_of, AreBefore, BoardSection, of_stepper, Orders, Pulse, queued_in}
use Rattle.msg_code.specs.declared.cmd.Cmd.TheVariants as cmd
use Rattle.step_feed.specs.Pacing.{ArePaced, pending}
use Rattle.laws_board.specs.sections.Known.{Sent, sent_at, sent_in, AreBelow}
use Rattle.laws_board.specs.sections.Courses.{Course, course_of, course_behind, course_from, IsFrom, IsStopped, AreGoodOn, AreMadeFor, course_parts}
use Rattle.laws_board.specs.sections.Courses as course
use Rattle.laws_board.specs.sections.Events.{AreTicks}
use Rattle.laws_board.specs.sections.Homes.{RunSection, AreBeforeFirst, AreFrontsIn, AreInTurn, IsControlIn, AreSet, SetsAny, HasUnits, SomeSets}
use Rattle.laws_board.proofs.sections.Clocks.{ticks_rise}
use Rattle.laws_board.proofs.sections.Controlling.{one_made}
use Rattle.laws_board.proofs.sections.Stepping.{course_append}
use Rattle.laws_board.proofs.sections.Waiting.{Frame, AreInside, lasts}
use Rattle.laws_board.proofs.sections.Releasing.{AreFrom, after_turn, pushed, after_from, paced_from, paced_on, from_down, inside_on, same_batch, before_up, pushed_before}
use Rattle.laws_board.proofs.sections.HomeUnits.{good_on_append}
use Rattle.laws_board.proofs.sections.HomeTurns.{Begun, StageWith, IsEarly, turn_on}
use Rattle.laws_board.proofs.sections.HomeControls.{now_of, controls_went, begun_all}
use Rattle.laws_board.proofs.sections.HomeSections.{Sound, OrdersOn, bare, cur, ahead_sound, orders_as, orders_later, sets_late, set_next, none_later, pushed_none, Promise, GoesBehind, no_fronts, EndsBy, stage_fronts, Split, all_of, ahead, split_over, split_on, IsBegunOn, IsLeftOn, LeftOn, LostOn}
use Rattle.laws_board.proofs.sections.Spreading.{lasts_below, first_part, late_released}
use Rattle.laws_board.proofs.sections.Sectioning.{before_back, before_down}
use Rattle.laws_board.proofs.sections.Lists.{sent_append}
use Rattle.laws_board.proofs.sections.Units.{ahead_of_step, step_sent, unit_is}
use Rattle.laws_board.proofs.sections.HomeLate.{late_unit}
use Rattle.laws_board.proofs.sections.Halted.{all_grow_on}
use Rattle.plan_types.proofs.Facts.{true_or_false}

-- what is known of a section and those behind it
pub record Ground (f : Frame) (stops : ℕ → Option ℕ) (oid : ℕ) (homes : Bool) (s : BoardSection) (nx : ℕ → List Orders → Split) (later : List RunSection) : Type 0 where
  pub start_is : s.start ≡ f.start
  pub end_is : homes ≡ false → f.end ≡ s.end
  pub order : s.start ≤ s.end
  pub row : AreInTurn s.end later
  pub goes_on : homes ≡ false → (turn : ℕ) → s.start ≤ turn + 254 → turn ≤ s.end + 5 → stops turn ≡ None
  pub stop : homes ≡ true → (turn : ℕ) → s.start ≤ turn + 254 → turn + 252 ≤ s.start → stops turn ≡ Some s.end
  pub ends : EndsBy f.own stops oid homes s
  pub laters : All (λ (x : RunSection). AreFrom (x.section.start - 250) x.section.releases) later
  pub next : GoesBehind f.own f.clocks stops f.slots oid s.end nx later

-- what was made stays made
made_behind : (oid turn : ℕ) (c : Course) (m : Cmd) (ticks : List ℕ) → c.known.made ≡ true → (course_of oid turn c m ticks).known.made ≡ true
made_behind oid turn c (cmd.ResetStepClock other clock) ticks e = elim (eqb_tells other oid) [ inl p ↦ rw p.0 e | inr p ↦ rw p.0 e ]
made_behind oid turn c m ticks e = one_made oid c.known m ticks e

pub course_made : (oid : ℕ) (c : Course) (ss : List Sent) → c.known.made ≡ true → (course_from oid c ss).known.made ≡ true
course_made oid c [] e = e
course_made oid c (s ∷ ss) e = course_made oid (course_behind oid c s) ss (made_behind oid s.turn c s.order.command s.order.ticks e)

begun_over : (f : Frame) (stops : ℕ → Option ℕ) (oid n : ℕ) (homes : Bool) (s : BoardSection) (c0 c : Course) (before : List Release) (us : List StepUnit) → (homes ≡ false → f.end ≡ s.end) → AreInside f before → s.end + 6 ≤ n
    → Begun f stops oid homes s c0 c (lasts oid before) us → IsStopped stops n c.since ⊎ AreBelow (f.own n) c.known.ends
begun_over f stops oid n true s c0 c before us end inside h g =
    let At : Option ℕ → Type 0 = λ x. IsStopped stops n x in
    let On : Option ℕ → Type 0 = λ x. IsFrom n x in
    inl (subst At (sym g.since) (subst On (sym g.stop) (omega (arith, h))))
begun_over f stops oid n false s c0 c before us end inside h g =
    let At : List ℕ → Type 0 = λ x. AreBelow (f.own n) x in
    inr (subst At (sym g.goes.ends) (lasts_below f n oid before inside (omega (arith, end refl, h))))

stage_over : (f : Frame) (stops : ℕ → Option ℕ) (oid n : ℕ) (homes : Bool) (s : BoardSection) (c0 c : Course) (before : List Release) (us : List StepUnit) (Q : List StepUnit → Type 0) → (homes ≡ false → f.end ≡ s.end) → s.start ≡ f.start → s.start ≤ s.end
    → AreInside f before → s.end + 6 ≤ n → StageWith f stops oid homes s c0 Q c (lasts oid before) us → IsStopped stops n c.since ⊎ AreBelow (f.own n) c.known.ends
stage_over f stops oid n homes s c0 c before us Q end start order inside h (inl x) = x.0.idle n (omega (arith, start, order, h))
stage_over f stops oid n homes s c0 c before us Q end start order inside h (inr g) = begun_over f stops oid n homes s c0 c before us end inside h g

-- what is left of later sections
left_later : (s : RunSection) (later : List RunSection) (oid : ℕ) (since : Option ℕ) (tail : List Sent) → (s.homes ≡ false → AreBefore (s.section.end + 5) s.section.releases) → LeftOn later oid since tail → LeftOn (s ∷ later) oid since tail
left_later s later oid since [] out x = tt
left_later s later oid since (t ∷ tail) out x = inr (out, x)

-- and comes behind an earlier section
left_behind : (e oid turn : ℕ) (ss : List RunSection) (since : Option ℕ) (c : Cmd) → AreInTurn e ss → IsLeftOn ss oid since turn c → e + 5 ≤ turn
left_behind e oid turn [] since c row x = absurd x
left_behind e oid turn (s ∷ ss) since c row (inl x) = omega (arith, x.1, row.0, row.1)
left_behind e oid turn (s ∷ ss) since c row (inr x) = omega (arith, left_behind s.section.end oid turn ss since c row.2 x.1, row.0, row.1)

before_both : (x y : ℕ) (ps qs : List Pulse) → x ≤ y → course.AreBefore x ps → course.AreBefore y qs → course.AreBefore y (ps ++ qs)
before_both x y [] qs h a b = b
before_both x y (p ∷ ps) qs h a b = (omega (arith, a.0, h), before_both x y ps qs h a.1 b)

before_first : (own : ℕ → ℕ) (e oid : ℕ) (ss : List RunSection) (since : Option ℕ) (tail : List Sent) (ps qs : List Pulse) → AreTicks own → AreInTurn e ss → LeftOn ss oid since tail → course.AreBefore (own (e + 5)) ps → AreBeforeFirst own tail qs
    → AreBeforeFirst own tail (ps ++ qs)
before_first own e oid ss since [] ps qs ticks row left a b = tt
before_first own e oid ss since (t ∷ tail) ps qs ticks row left a b =
    before_both (own (e + 5)) (own t.turn) ps qs (ticks_rise own ticks (e + 5) t.turn (left_behind e oid t.turn ss since t.order.command row left)) a b

-- the section that is over, and those behind it
hands_over : (f : Frame) (stops : ℕ → Option ℕ) (oid : ℕ) (homes : Bool) (s : BoardSection) (later : List RunSection) (c0 c : Course) (sent : List Sent) (z : Split) (ls : List ℕ) (us : List StepUnit) (Q : List StepUnit → Type 0) → EndsBy f.own stops oid homes s
    → StageWith f stops oid homes s c0 Q c ls us → (homes ≡ false → AreBefore (s.end + 5) s.releases) → AreInTurn s.end later → Sound f.own stops f.slots oid c c sent z later → Sound f.own stops f.slots oid c0 c sent z (now_of homes s ∷ later)
hands_over f stops oid homes s later c0 c sent z ls us Q ends st out row x = record {
  are = x.are;
  good = x.good;
  lost = x.lost;
  begun = left_later (now_of homes s) later oid (course_from oid c z.front).since z.tail out x.begun;
  fronts = λ ps k.
      let (early, late, is, old, rest, soon) = x.fronts ps k in
      let (first, second, are, older, mine) = stage_fronts f stops oid homes s later c0 c ls us Q ends st early old in
      let (own, same, begins, before) = mine in
      let whole : ps ≡ first ++ (own ++ late) = is ∙ ap (λ y. y ++ late) (are ∙ ap (λ y. first ++ y) (same ∙ append-nil own)) ∙ append_assoc first own late in
      (first, own ++ late, whole, older, (own, late, refl, begins, before, rest), before_first f.own s.end oid later (course_from oid c z.front).since z.tail own late f.ticks row x.begun before soon);
  whole = λ w. x.whole w.1;
}

-- the last section so far
last_fronts : (f : Frame) (stops : ℕ → Option ℕ) (oid : ℕ) (homes : Bool) (s : BoardSection) (later : List RunSection) (c0 c : Course) (ls : List ℕ) (us : List StepUnit) (Q : List StepUnit → Type 0) → EndsBy f.own stops oid homes s
    → StageWith f stops oid homes s c0 Q c ls us → (ps : List Pulse) → AreMadeFor f.own stops (course_parts c) ps
    → (early : List Pulse) × (late : List Pulse) × (ps ≡ early ++ late) × AreMadeFor f.own stops (course_parts c0) early × AreFrontsIn f.own oid (now_of homes s ∷ later) late × course.AreBefore (f.own (s.end + 5)) late
last_fronts f stops oid homes s later c0 c ls us Q ends st ps k =
    let (first, second, are, older, mine) = stage_fronts f stops oid homes s later c0 c ls us Q ends st ps k in
    let (own, same, begins, before) = mine in
    let Before : List Pulse → Type 0 = λ x. course.AreBefore (f.own (s.end + 5)) x in
    (first, second, are, older, (own, [], same, begins, before, no_fronts f.own oid later), subst Before (sym (same ∙ append-nil own)) before)

-- nothing is queued any more
ends_here : (f : Frame) (stops : ℕ → Option ℕ) (oid : ℕ) (homes : Bool) (s : BoardSection) (later : List RunSection) (c0 c : Course) (ls : List ℕ) (us : List StepUnit) (Q : List StepUnit → Type 0) → EndsBy f.own stops oid homes s
    → StageWith f stops oid homes s c0 Q c ls us → Sound f.own stops f.slots oid c0 c [] (all_of []) (now_of homes s ∷ later)
ends_here f stops oid homes s later c0 c ls us Q ends st = record {
  are = refl;
  good = tt;
  lost = tt;
  begun = tt;
  fronts = λ ps k.
      let (first, second, are, older, mine, soon) = last_fronts f stops oid homes s later c0 c ls us Q ends st ps k in
      (first, second, are, older, mine, tt);
  whole = λ w. refl;
}

-- behind the controls of a turn
abbrev AfterControls : Frame → (ℕ → Option ℕ) → ℕ → Bool → BoardSection → Course → Course → ℕ → Orders → List Orders → List ℕ → List StepUnit → Type 0
AfterControls f stops oid homes s c0 c turn o os ls us =
    let sent = sent_at turn (map plain o.control.commands) in
    AreGoodOn f.own stops f.slots oid c sent × StageWith f stops oid homes s c0 (Promise oid homes s (turn + 1) os) (course_from oid c sent) ls us

keeps_promise : (oid turn : ℕ) (homes : Bool) (s : BoardSection) (o : Orders) (os : List Orders) (us : List StepUnit) → Promise oid homes s turn (o ∷ os) us → (SomeSets oid o.control.commands → ⊥) → Promise oid homes s (turn + 1) os us
keeps_promise oid turn homes s o os us q unset = λ h some long. elim (q h some (omega (arith, long))) [ inl x ↦ absurd (unset x.2) | inr x ↦ x ]

controls_on : (f : Frame) (stops : ℕ → Option ℕ) (oid : ℕ) (homes : Bool) (s : BoardSection) (nx : ℕ → List Orders → Split) (later : List RunSection) (g : Ground f stops oid homes s nx later) (c0 c : Course) (turn : ℕ) (o : Orders) (os : List Orders) (ls : List ℕ) (vs : List StepUnit)
    → StageWith f stops oid homes s c0 (Promise oid homes s turn (o ∷ os)) c ls vs → All (IsControlIn f.clocks (now_of homes s ∷ later) turn) o.control.commands → turn ≤ s.end + 5 → (turn + 252 ≤ f.start → ls ≡ [])
    → (SomeSets oid o.control.commands → c.known.made ≡ true) → AfterControls f stops oid homes s c0 c turn o os ls vs
controls_on f stops oid homes s nx later g c0 c turn o os ls vs (inl n) i h fresh made =
    let (good, went) = controls_went f stops oid turn homes s later c0 o.control.commands c ls vs (inl n.0) i g.start_is g.row h fresh made (λ e. g.stop e turn) in
    (good, elim went [ inl w ↦ inl (w.0, keeps_promise oid turn homes s o os vs n.1 w.1) | inr w ↦ inr w ])
controls_on f stops oid homes s nx later g c0 c turn o os ls vs (inr b) i h fresh made =
    let (good, went) = begun_all f stops oid turn homes s later c0 o.control.commands c ls vs b i g.start_is g.row h fresh made (λ e. g.stop e turn) in
    (good, inr went)

-- where the clock of a homing section's stepper is still to be set, its units are far
early_by : (f : Frame) (oid turn : ℕ) (homes : Bool) (s : BoardSection) (os : List Orders) → s.start ≡ f.start → IsEarly f homes turn (Promise oid homes s (turn + 1) os)
early_by f oid turn homes s os start us q h some =
    elim (leb_tells (turn + 252) f.start) [
      | inl p ↦ p.1
      | inr p ↦ absurd (omega (arith, p.1, start, sets_late oid s (turn + 1) os (q h some (omega (arith, p.1, start)))))
    ]

pub before_least : (j k : ℕ) (rs : List Release) → j ≤ k → AreBefore j rs → AreBefore k rs
before_least j k [] h a = tt
before_least j k (r ∷ rs) h a = (omega (arith, a.0, h), before_least j k rs h a.1)

over_on : (f : Frame) (stops : ℕ → Option ℕ) (oid : ℕ) (homes : Bool) (s : BoardSection) (nx : ℕ → List Orders → Split) (later : List RunSection) (g : Ground f stops oid homes s nx later) (o : Orders) (os : List Orders) (turn from : ℕ) (c0 c : Course) (before rs : List Release)
    → f.start ≤ from + 250 → StageWith f stops oid homes s c0 (Promise oid homes s turn (o ∷ os)) c (lasts oid before) (of_stepper oid (units_of rs)) → ArePaced f.clocks f.slots from before rs → AreInside f before → AreInside f rs → AreFrom turn rs
    → (turn + 250 ≤ f.start → before ≡ []) → (homes ≡ true → AreBefore s.end rs) → AreBefore turn before → (from ≤ f.end) ⊎ (from < turn) → s.end + 5 ≤ turn → turn ≤ s.end + 5 → (HasUnits oid later ⊎ SetsAny oid (o ∷ os) → c.known.made ≡ true)
    → OrdersOn f.clocks (now_of homes s ∷ later) (cur rs ∷ bare later) turn (o ∷ os) → AreSet oid later turn (o ∷ os) → (AreBefore (s.end + 5) s.releases → AreBefore (s.end + 5) rs)
    → (AreBefore (s.end + 5) rs → AreBefore (s.end + 5) s.releases) → Sound f.own stops f.slots oid c0 c (sent_in turn (o ∷ os)) (split_over nx rs turn o os) (now_of homes s ∷ later)
over_on f stops oid homes s nx later g o os turn from c0 c before [] soon st paced behind inside far young home earlier early over now made orders set part back =
    let left = orders_as f.clocks (now_of homes s ∷ later) (cur [] ∷ bare later) (bare later) turn (o ∷ os) (λ k le. refl) orders in
    let behind_it = orders_later f.clocks (now_of homes s) later (bare later) turn (o ∷ os) g.order (omega (arith, over)) left in
    hands_over f stops oid homes s later c0 c (sent_in turn (o ∷ os)) (nx turn (o ∷ os)) (lasts oid before) [] (Promise oid homes s turn (o ∷ os)) g.ends st (λ _. back tt) g.row
    (g.next (o ∷ os) turn c (omega (arith, now))
    (λ n h. stage_over f stops oid n homes s c0 c before [] (Promise oid homes s turn (o ∷ os)) g.end_is g.start_is g.order behind h st) made behind_it set)
over_on f stops oid homes s nx later g o os turn from c0 c before (r ∷ rs) soon st paced behind inside far young home earlier early over now made orders set part back =
    elim (true_or_false homes) [
      | inl e ↦ absurd (omega (arith, (home e).0, far.0, over))
      | inr e ↦
          let over_f : f.end + 5 ≤ turn = omega (arith, g.end_is e, over) in
          let here = late_released f turn from before r rs paced behind inside.0 earlier early far.0 over_f in
          let u = r.unit in
          let cs = sent_at turn (map plain o.control.commands) in
          let a = ahead_of_step turn u in
          let t = step_sent turn u in
          let d = course_from oid c cs in
          let (good, stage) = controls_on f stops oid homes s nx later g c0 c turn o os (lasts oid before) (of_stepper oid (units_of (r ∷ rs))) st orders.0 now (λ h. ap (lasts oid) (young (omega (arith, h)))) (λ x. made (inr (inl x))) in
          let At_turn : ℕ → Type 0 = λ x. pending f.clocks u.stepper x before < f.slots in
          let (fine, lost, from_here, stood) = late_unit f stops oid homes s c0 (Promise oid homes s (turn + 1) os) turn d before r rs (early_by f oid turn homes s os g.start_is) stage behind inside.0 (omega (arith, soon, paced.0.after, here)) (omega (arith, paced.0.room.due, here))
          (subst At_turn here paced.0.room.steps) e (λ h. g.goes_on e turn (omega (arith, g.start_is, h)) now) over_f in
          let (ls, us, last) = stood in
          let e_is = course_from oid d a in
          let same : course_from oid c (cs ++ a) ≡ e_is = course_append oid c cs a in
          let one : batch_at turn (r ∷ rs) ≡ u ∷ batch_at turn rs = elim (eqb_tells r.turn turn) [ inl p ↦ rw p.0 refl | inr p ↦ absurd (p.1 here) ] in
          let more = batch_at turn rs in
          let units : o.batch.units ≡ u ∷ more = orders.1 ∙ ap (λ x. batch_at turn (r ∷ rs) ++ x) (none_later turn s.end later g.row now g.laters) ∙ append-nil (batch_at turn (r ∷ rs)) ∙ one in
          let rear = λ (x : List StepUnit). sent_at turn (units_orders (drop 1 x)) ++ sent_in (turn + 1) os in
          let behind_it = sent_at turn (units_orders more) ++ sent_in (turn + 1) os in
          let Lost : Course → Type 0 = λ x. LostOn f.own stops f.slots oid x (t ∷ []) in
          let Made : Course → List Pulse → Type 0 = λ x ps. AreMadeFor f.own stops (course_parts x) ps in
          record {
            are = append_assoc cs a (t ∷ rear o.batch.units) ∙ ap (λ x. cs ++ (a ++ t ∷ rear x)) units ∙ ap (λ x. cs ++ x) (sym (append_assoc a (t ∷ []) behind_it) ∙ ap (λ x. x ++ behind_it) (sym (unit_is turn u)))
                ∙ sym (first_part turn o u more (sent_in (turn + 1) os) units);
            good = good_on_append f.own stops f.slots oid c cs a good fine;
            lost = subst Lost (sym same) lost;
            begun = inl (e, omega (arith, over, now), subst (λ (x : Course). IsBegunOn oid (s.start - 250) x.since (step_command u)) (sym same) (subst (λ (n : ℕ). IsBegunOn oid (n - 250) e_is.since (step_command u)) (sym g.start_is) (from_here e)));
            fronts = λ ps k.
                let At : Course → Type 0 = λ x. Made x ps in
                let (first, second, are, older, mine, soon_over) = last_fronts f stops oid homes s later c0 (course_from oid e_is (t ∷ [])) ls us (Promise oid homes s (turn + 1) os) g.ends last ps (all_grow_on f.own stops oid e_is (t ∷ []) ps (subst At same k)) in
                let at : s.end + 5 ≡ turn = omega (arith, over, now) in
                (first, second, are, older, mine, subst (λ (n : ℕ). course.AreBefore (f.own n) second) at soon_over);
            whole = λ w. absurd (omega (arith, (part (w.0 e)).0, far.0, over));
          }
    ]

-- a section, turn by turn
pub section_on : (f : Frame) (stops : ℕ → Option ℕ) (oid : ℕ) (homes : Bool) (s : BoardSection) (nx : ℕ → List Orders → Split) (later : List RunSection) (g : Ground f stops oid homes s nx later) (os : List Orders) (turn from : ℕ) (c0 c : Course) (before rs : List Release)
    → f.start ≤ from + 250 → StageWith f stops oid homes s c0 (Promise oid homes s turn os) c (lasts oid before) (of_stepper oid (units_of rs)) → ArePaced f.clocks f.slots from before rs → AreInside f before → AreInside f rs → AreFrom turn rs
    → (turn + 250 ≤ f.start → before ≡ []) → (homes ≡ true → AreBefore s.end rs) → AreBefore turn before → (from ≤ f.end) ⊎ (from < turn) → turn ≤ s.end + 5 → (HasUnits oid later ⊎ SetsAny oid os → c.known.made ≡ true)
    → OrdersOn f.clocks (now_of homes s ∷ later) (cur rs ∷ bare later) turn os → AreSet oid later turn os → (AreBefore (s.end + 5) s.releases → AreBefore (s.end + 5) rs)
    → (AreBefore (s.end + 5) rs → AreBefore (s.end + 5) s.releases) → Sound f.own stops f.slots oid c0 c (sent_in turn os) (split_on nx s.end rs turn os) (now_of homes s ∷ later)
section_on f stops oid homes s nx later g [] turn from c0 c before rs soon st paced behind inside far young home earlier early within made orders set part back =
    ends_here f stops oid homes s later c0 c (lasts oid before) (of_stepper oid (units_of rs)) (Promise oid homes s turn []) g.ends st
section_on f stops oid homes s nx later g (o ∷ os) turn from c0 c before rs soon st paced behind inside far young home earlier early within made orders set part back =
    elim (leb_tells (suc (s.end + 4)) turn) [
      | inl p ↦ rw p.0 (over_on f stops oid homes s nx later g o os turn from c0 c before rs soon st paced behind inside far young home earlier early (omega (arith, p.1)) within made orders set part back)
      | inr p ↦
          let now : turn ≤ s.end + 5 = omega (arith, p.1) in
          let cs = sent_at turn (map plain o.control.commands) in
          let us = sent_at turn (units_orders (batch_at turn rs)) in
          let d = course_from oid c cs in
          let (good, stage) = controls_on f stops oid homes s nx later g c0 c turn o os (lasts oid before) (of_stepper oid (units_of rs)) st orders.0 now (λ h. ap (lasts oid) (young (omega (arith, h)))) (λ e. made (inr (inl e))) in
          let (fine, after) = turn_on f stops oid homes s c0 (Promise oid homes s (turn + 1) os) turn from d before rs (early_by f oid turn homes s os g.start_is) soon stage paced behind inside far
          (λ e h. g.goes_on e turn (omega (arith, g.start_is, h)) now) in
          let left = after_turn turn rs in
          let on = paced_on f.clocks f.slots from turn before rs paced in
          let inner = inside_on f turn before rs behind inside in
          let units : o.batch.units ≡ batch_at turn rs = orders.1 ∙ ap (λ x. batch_at turn rs ++ x) (none_later turn s.end later g.row now g.laters) ∙ append-nil (batch_at turn rs) in
          let others = orders_as f.clocks (now_of homes s ∷ later) (cur rs ∷ bare later) (cur left ∷ bare later) (turn + 1) os
          (λ k le. ap (λ x. x ++ flat_map (λ (y : BoardSection). batch_at k y.releases) (bare later)) (same_batch k turn rs (λ e. absurd (omega (arith, e, le))))) orders.2 in
          let e = course_from oid d us in
          let rest = section_on f stops oid homes s nx later g os (turn + 1) on.0 c0 e (pushed turn before rs) left
          (elim on.2 [ inl x ↦ omega (arith, soon, x) | inr x ↦ omega (arith, soon, x.0, x.1) ]) after on.1 inner.0 inner.1 (after_from f.clocks f.slots from turn before rs paced far)
          (λ h. pushed_none turn before rs (from_down (turn + 1) from rs (omega (arith, soon, h)) (paced_from f.clocks f.slots from before rs paced)) ∙ young (omega (arith, h))) (λ h. before_down s.end turn rs (home h))
          (pushed_before turn before rs (before_up turn before earlier))
          (elim on.2 [ inl x ↦ elim early [ inl y ↦ inl (omega (arith, y, x)) | inr y ↦ inr (omega (arith, y, x)) ] | inr x ↦ inr (omega (arith, x.0)) ]) (omega (arith, p.1))
          (λ w. course_made oid d us (course_made oid c cs (made (elim w [ inl x ↦ inl x | inr x ↦ inr (inr x) ])))) others (set_next oid s.end turn later o os g.row now set) (λ w. before_down (s.end + 5) turn rs (part w))
          (λ w. back (before_back (s.end + 5) turn rs (omega (arith, p.1)) w)) in
          let now_sent : sent_at turn (queued_in o) ≡ cs ++ us = sent_append turn (map plain o.control.commands) (units_orders o.batch.units) ∙ ap (λ x. cs ++ sent_at turn (units_orders x)) units in
          let z = split_on nx s.end left (turn + 1) os in
          let At : List Sent → Type 0 = λ x. Sound f.own stops f.slots oid c0 c (x ++ sent_in (turn + 1) os) (ahead x z) (now_of homes s ∷ later) in
          rw p.0 (subst At (sym now_sent)
          (ahead_sound f.own stops f.slots oid c0 c e (cs ++ us) (sent_in (turn + 1) os) (now_of homes s ∷ later) (good_on_append f.own stops f.slots oid c cs us good fine) (course_append oid c cs us) z rest))
    ]
