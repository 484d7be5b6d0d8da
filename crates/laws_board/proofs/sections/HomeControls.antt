-- The control commands of a turn, for a stepper in a section.
use Rattle.std.proofs.Common.{◌≡◌, ℕ, Bool, true, false, ◌+◌, ◌*◌, ◌%◌, ◌^◌, ◌≤◌, ◌⊎◌, List, [], ◌∷◌, All, map, Option, Some, refl, ap, sym, ◌∙◌, subst, arith, inl, inr}
use Rattle.laws_board.proofs.Names.{eqb_tells, All-head, All-tail, Pulse, turn_ns, Clocks, lines_tick, Cmd, plain, StepUnit, BoardSection}
use Rattle.msg_code.specs.declared.cmd.Cmd.TheVariants as cmd
use Rattle.laws_board.specs.sections.Known.{sent_at, AreBelow}
use Rattle.laws_board.specs.sections.Courses.{Part, Course, course_parts, next_part, course_of, course_from, AreMadeFor, MaySetClock, IsGoodOn, AreGoodOn}
use Rattle.laws_board.specs.sections.Homes.{RunSection, AreInTurn, SetsClock, IsControlIn, IsSetting, SomeSets}
use Rattle.laws_board.proofs.sections.Controlling.{one_made}
use Rattle.laws_board.proofs.sections.Waiting.{Frame, base}
use Rattle.laws_board.proofs.sections.HomeTurns.{NotYet, Begun, Stage, begins_apart, empty_part}

-- of later sections none sets clocks yet
pub none_sets : (clocks : Clocks) (end turn clock : ℕ) (ss : List RunSection) → AreInTurn end ss → turn ≤ end + 5 → SetsClock clocks ss turn clock → ⊥
none_sets clocks end turn clock [] row h x = x
none_sets clocks end turn clock (s ∷ ss) row h (inl x) = omega (arith, row.0, h, x.1)
none_sets clocks end turn clock (s ∷ ss) row h (inr x) = none_sets clocks s.section.end turn clock ss row.2 (omega (arith, row.0, row.1, h)) x

begun_made : (f : Frame) (stops : ℕ → Option ℕ) (oid : ℕ) (homes : Bool) (s : BoardSection) (c0 c : Course) (ls : List ℕ) (us : List StepUnit) → Begun f stops oid homes s c0 c ls us
    → Begun f stops oid homes s c0 (record c { known = record c.known { made = true } }) ls us
begun_made f stops oid homes s c0 c ls us g = record {
  goes = record { made = λ _. refl; chain = g.goes.chain; ends = g.goes.ends; said = g.goes.said };
  turn = g.turn;
  since = g.since;
  soon = g.soon;
  stop = g.stop;
  past = g.past;
  again = g.again;
}

-- what the commands for other steppers, or of triggers, leave as it is
with_made : (f : Frame) (stops : ℕ → Option ℕ) (oid : ℕ) (homes : Bool) (s : BoardSection) (c0 c : Course) (ls : List ℕ) (us : List StepUnit) → Stage f stops oid homes s c0 c ls us
    → Stage f stops oid homes s c0 (record c { known = record c.known { made = true } }) ls us
with_made f stops oid homes s c0 c ls us (inl n) = inl (record { none = n.none; units = n.units; all = n.all; idle = n.idle; same = n.same; made = λ _. refl })
with_made f stops oid homes s c0 c ls us (inr g) = inr (begun_made f stops oid homes s c0 c ls us g)

-- a homing section sets the clock
sets_for : (f : Frame) (stops : ℕ → Option ℕ) (oid turn clock : ℕ) (homes : Bool) (s : BoardSection) (c0 c : Course) (ls : List ℕ) (us : List StepUnit) → Stage f stops oid homes s c0 c ls us → homes ≡ true → ls ≡ []
    → f.start ≤ turn + 254 → clock ≡ base f % 2 ^ 32 → c.known.made ≡ true → stops turn ≡ Some s.end
    → MaySetClock f.own stops turn c × Begun f stops oid homes s c0 (next_part turn clock c) ls us
sets_for f stops oid turn clock false s c0 c ls us st h none soon is made stop = absurd (clash h) where
  clash : false ≡ true → ⊥
  clash e = cc
sets_for f stops oid turn clock true s c0 c ls us (inl n) h none soon is made stop =
    let Same : List Part → Type 0 = λ x. (ps : List Pulse) → AreMadeFor f.own stops (course_parts c) ps → AreMadeFor f.own stops x ps in
    let At : ℕ → Type 0 = λ x. Begun f stops oid true s c0 (next_part turn x c) [] us in
    let On : List ℕ → Type 0 = λ x. Begun f stops oid true s c0 (next_part turn clock c) x us in (
      record { made = made; over = n.idle turn soon },
      subst On (sym none) (subst At (sym is) (begins_apart f stops oid s c0 c us turn n.units n.all (λ _. made) stop (subst Same n.same (λ ps k. k)))),
    )
sets_for f stops oid turn clock true s c0 c ls us (inr g) h none soon is made stop =
    let (units, all, nothing) = g.again none refl in
    let At : ℕ → Type 0 = λ x. Begun f stops oid true s c0 (next_part turn x c) [] us in
    let On : List ℕ → Type 0 = λ x. Begun f stops oid true s c0 (next_part turn clock c) x us in
    let Ends : List ℕ → Type 0 = λ x. AreBelow (f.own turn) x in (
      record { made = made; over = inr (subst Ends (sym (g.goes.ends ∙ none)) tt) },
      subst On (sym none) (subst At (sym is)
          (begins_apart f stops oid s c0 c us turn units all (λ _. made) stop (λ ps k. g.past ps (empty_part f.own stops c.since c.known.steps c.past ps nothing k)))),
    )

-- where the part has not begun, none of the commands has set the clock
abbrev pub Went : Frame → (ℕ → Option ℕ) → ℕ → Bool → BoardSection → Course → Course → List ℕ → List StepUnit → Type 0 → Type 0
Went f stops oid homes s c0 c ls us S = (NotYet f stops oid homes s c0 c ls us × (S → ⊥)) ⊎ Begun f stops oid homes s c0 c ls us

abbrev OneWent : Frame → (ℕ → Option ℕ) → ℕ → ℕ → Bool → BoardSection → Course → Course → Cmd → List ℕ → List StepUnit → Type 0
OneWent f stops oid turn homes s c0 c m ls us = IsGoodOn f.own stops f.slots oid turn c m [] × Went f stops oid homes s c0 (course_of oid turn c m []) ls us (IsSetting oid m)

went_on : (f : Frame) (stops : ℕ → Option ℕ) (oid : ℕ) (homes : Bool) (s : BoardSection) (c0 c : Course) (ls : List ℕ) (us : List StepUnit) (S : Type 0) → (S → ⊥) → Stage f stops oid homes s c0 c ls us → Went f stops oid homes s c0 c ls us S
went_on f stops oid homes s c0 c ls us S unset (inl n) = inl (n, unset)
went_on f stops oid homes s c0 c ls us S unset (inr g) = inr g

-- the section that is under way, as its releases go
abbrev pub now_of : Bool → BoardSection → RunSection
now_of homes s = record { section = s; homes = homes }

one_went : (f : Frame) (stops : ℕ → Option ℕ) (oid turn : ℕ) (homes : Bool) (s : BoardSection) (later : List RunSection) (c0 c : Course) (m : Cmd) (ls : List ℕ) (us : List StepUnit) → Stage f stops oid homes s c0 c ls us
    → IsControlIn f.clocks (now_of homes s ∷ later) turn m → s.start ≡ f.start → AreInTurn s.end later → turn ≤ s.end + 5 → (turn + 252 ≤ f.start → ls ≡ []) → (IsSetting oid m → c.known.made ≡ true)
    → (homes ≡ true → s.start ≤ turn + 254 → turn + 252 ≤ s.start → stops turn ≡ Some s.end) → OneWent f stops oid turn homes s c0 c m ls us
one_went f stops oid turn homes s later c0 c (cmd.QueueStep other interval count add) ls us st i start row h fresh made stop = absurd i
one_went f stops oid turn homes s later c0 c (cmd.SetNextStepDir other dir) ls us st i start row h fresh made stop = absurd i
one_went f stops oid turn homes s later c0 c (cmd.ResetStepClock other clock) ls us st (inr i) start row h fresh made stop = absurd (none_sets f.clocks s.end turn clock later row h i)
one_went f stops oid turn homes s later c0 c (cmd.ResetStepClock other clock) ls us st (inl i) start row h fresh made stop =
    let (is_home, from, until, is) = i in
    elim (eqb_tells other oid) [
      | inl p ↦
          let base_is : clock ≡ base f % 2 ^ 32 = is ∙ ap (λ n. lines_tick f.clocks (n * turn_ns) % 2 ^ 32) start in
          let soon : f.start ≤ turn + 254 = omega (arith, start, from) in
          let one = sets_for f stops oid turn clock homes s c0 c ls us st is_home (fresh (omega (arith, start, until))) soon base_is (made p.1) (stop is_home from until) in
          rw p.0 ((λ _. one.0), inr one.1)
      | inr p ↦ rw p.0 ((λ e. absurd (p.1 e)), went_on f stops oid homes s c0 c ls us (other ≡ oid) p.1 st)
    ]
one_went f stops oid turn homes s later c0 c (cmd.ConfigStepper other step dir invert width) ls us st i start row h fresh made stop =
    elim (eqb_tells other oid) [
      | inl p ↦ rw p.0 (i, went_on f stops oid homes s c0 (record c { known = record c.known { made = true } }) ls us ⊥ (λ e. e) (with_made f stops oid homes s c0 c ls us st))
      | inr p ↦ rw p.0 (i, went_on f stops oid homes s c0 c ls us ⊥ (λ e. e) st)
    ]
one_went f stops oid turn homes s later c0 c m ls us st i start row h fresh made stop = (tt, went_on f stops oid homes s c0 c ls us ⊥ (λ e. e) st)

-- what was made stays made
pub made_on : (oid turn : ℕ) (c : Course) (m : Cmd) → c.known.made ≡ true → (course_of oid turn c m []).known.made ≡ true
made_on oid turn c (cmd.ResetStepClock other clock) e = elim (eqb_tells other oid) [ inl p ↦ rw p.0 e | inr p ↦ rw p.0 e ]
made_on oid turn c m e = one_made oid c.known m [] e

-- the part began with one of the commands, and goes on behind it
abbrev pub AllWent : Frame → (ℕ → Option ℕ) → ℕ → ℕ → Bool → BoardSection → Course → Course → List Cmd → List ℕ → List StepUnit → Type 0
AllWent f stops oid turn homes s c0 c cs ls us =
    AreGoodOn f.own stops f.slots oid c (sent_at turn (map plain cs)) × Went f stops oid homes s c0 (course_from oid c (sent_at turn (map plain cs))) ls us (SomeSets oid cs)

-- a part that has begun stays so
begun_one : (f : Frame) (stops : ℕ → Option ℕ) (oid turn : ℕ) (homes : Bool) (s : BoardSection) (later : List RunSection) (c0 c : Course) (m : Cmd) (ls : List ℕ) (us : List StepUnit) → Begun f stops oid homes s c0 c ls us
    → IsControlIn f.clocks (now_of homes s ∷ later) turn m → s.start ≡ f.start → AreInTurn s.end later → turn ≤ s.end + 5 → (turn + 252 ≤ f.start → ls ≡ []) → (IsSetting oid m → c.known.made ≡ true)
    → (homes ≡ true → s.start ≤ turn + 254 → turn + 252 ≤ s.start → stops turn ≡ Some s.end)
    → IsGoodOn f.own stops f.slots oid turn c m [] × Begun f stops oid homes s c0 (course_of oid turn c m []) ls us
begun_one f stops oid turn homes s later c0 c (cmd.QueueStep other interval count add) ls us g i start row h fresh made stop = absurd i
begun_one f stops oid turn homes s later c0 c (cmd.SetNextStepDir other dir) ls us g i start row h fresh made stop = absurd i
begun_one f stops oid turn homes s later c0 c (cmd.ResetStepClock other clock) ls us g (inr i) start row h fresh made stop = absurd (none_sets f.clocks s.end turn clock later row h i)
begun_one f stops oid turn homes s later c0 c (cmd.ResetStepClock other clock) ls us g (inl i) start row h fresh made stop =
    let (is_home, from, until, is) = i in
    elim (eqb_tells other oid) [
      | inl p ↦
          let base_is : clock ≡ base f % 2 ^ 32 = is ∙ ap (λ n. lines_tick f.clocks (n * turn_ns) % 2 ^ 32) start in
          let soon : f.start ≤ turn + 254 = omega (arith, start, from) in
          let one = sets_for f stops oid turn clock homes s c0 c ls us (inr g) is_home (fresh (omega (arith, start, until))) soon base_is (made p.1) (stop is_home from until) in
          rw p.0 ((λ _. one.0), one.1)
      | inr p ↦ rw p.0 ((λ e. absurd (p.1 e)), g)
    ]
begun_one f stops oid turn homes s later c0 c (cmd.ConfigStepper other step dir invert width) ls us g i start row h fresh made stop =
    elim (eqb_tells other oid) [
      | inl p ↦ rw p.0 (i, begun_made f stops oid homes s c0 c ls us g)
      | inr p ↦ rw p.0 (i, g)
    ]
begun_one f stops oid turn homes s later c0 c m ls us g i start row h fresh made stop = (tt, g)

pub begun_all : (f : Frame) (stops : ℕ → Option ℕ) (oid turn : ℕ) (homes : Bool) (s : BoardSection) (later : List RunSection) (c0 : Course) (cs : List Cmd) (c : Course) (ls : List ℕ) (us : List StepUnit) → Begun f stops oid homes s c0 c ls us
    → All (IsControlIn f.clocks (now_of homes s ∷ later) turn) cs → s.start ≡ f.start → AreInTurn s.end later → turn ≤ s.end + 5 → (turn + 252 ≤ f.start → ls ≡ [])
    → (SomeSets oid cs → c.known.made ≡ true) → (homes ≡ true → s.start ≤ turn + 254 → turn + 252 ≤ s.start → stops turn ≡ Some s.end)
    → AreGoodOn f.own stops f.slots oid c (sent_at turn (map plain cs)) × Begun f stops oid homes s c0 (course_from oid c (sent_at turn (map plain cs))) ls us
begun_all f stops oid turn homes s later c0 [] c ls us g i start row h fresh made stop = (tt, g)
begun_all f stops oid turn homes s later c0 (m ∷ cs) c ls us g i start row h fresh made stop =
    let P : Cmd → Type 0 = λ x. IsControlIn f.clocks (now_of homes s ∷ later) turn x in
    let one = begun_one f stops oid turn homes s later c0 c m ls us g (All-head P m cs i) start row h fresh (λ e. made (inl e)) stop in
    let rest = begun_all f stops oid turn homes s later c0 cs (course_of oid turn c m []) ls us one.1 (All-tail P m cs i) start row h fresh (λ e. made_on oid turn c m (made (inr e))) stop in
    ((one.0, rest.0), rest.1)

pub controls_went : (f : Frame) (stops : ℕ → Option ℕ) (oid turn : ℕ) (homes : Bool) (s : BoardSection) (later : List RunSection) (c0 : Course) (cs : List Cmd) (c : Course) (ls : List ℕ) (us : List StepUnit)
    → Stage f stops oid homes s c0 c ls us → All (IsControlIn f.clocks (now_of homes s ∷ later) turn) cs → s.start ≡ f.start → AreInTurn s.end later → turn ≤ s.end + 5 → (turn + 252 ≤ f.start → ls ≡ [])
    → (SomeSets oid cs → c.known.made ≡ true) → (homes ≡ true → s.start ≤ turn + 254 → turn + 252 ≤ s.start → stops turn ≡ Some s.end) → AllWent f stops oid turn homes s c0 c cs ls us
controls_went f stops oid turn homes s later c0 [] c ls us st i start row h fresh made stop = (tt, went_on f stops oid homes s c0 c ls us ⊥ (λ e. e) st)
controls_went f stops oid turn homes s later c0 (m ∷ cs) c ls us st i start row h fresh made stop =
    let P : Cmd → Type 0 = λ x. IsControlIn f.clocks (now_of homes s ∷ later) turn x in
    let one = one_went f stops oid turn homes s later c0 c m ls us st (All-head P m cs i) start row h fresh (λ e. made (inl e)) stop in
    let next = course_of oid turn c m [] in
    let rest = λ (x : Stage f stops oid homes s c0 next ls us). controls_went f stops oid turn homes s later c0 cs next ls us x (All-tail P m cs i) start row h fresh (λ e. made_on oid turn c m (made (inr e))) stop in
    elim one.1 [
      | inl n ↦
          let (good, went) = rest (inl n.0) in
          ((one.0, good), elim went [ inl w ↦ inl (w.0, λ e. elim e [ inl a ↦ n.1 a | inr b ↦ w.1 b ]) | inr g ↦ inr g ])
      | inr g ↦
          let (good, went) = begun_all f stops oid turn homes s later c0 cs next ls us g (All-tail P m cs i) start row h fresh (λ e. made_on oid turn c m (made (inr e))) stop in
          ((one.0, good), inr went)
    ]
