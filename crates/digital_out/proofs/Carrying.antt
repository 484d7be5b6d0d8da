-- Commands that are carried out.
use Rattle.std.proofs.Common.{◌≡◌, ℕ, ◌+◌, ◌<◌, ◌≤◌, Bool, true, false, cond, List, [], ◌∷◌, ◌++◌, All, Option, Some, None, length, refl, sym, ap, subst, ◌∙◌, arith, append_assoc, true≢false}
use Rattle.std.specs.Prelude.{nat_lt}
use Rattle.std.proofs.lemmas.Bool.Decides.{nat_tests}
use Rattle.std.proofs.lemmas.List.Elements.{All-cons, All-nil}
use Rattle.digital_out.specs.declared.want.Want.{Want}
use Rattle.digital_out.specs.declared.queue.OutEvent.{OutEvent}
use Rattle.digital_out.specs.declared.queue.OutWhat.TheVariants.{On, Off, Missed}
use Rattle.digital_out.specs.Carried.{AreFrom, AreInTime, BeginsFrom, InTime}
use Rattle.digital_out.specs.Outputs.{Output, Turn, output_behind, comes_late, event_next, event_of, miss_turn, missed_of, turn_by, output_turn, want_turn, with_time}
use Rattle.digital_out.specs.Rising.{WantsRiseFrom}

-- what a queue carried out so far, and what it keeps, where it is not missed before a tick
pub record CarriedSofar (old q : Output) (until : ℕ) (made done : List Want) : Type 0 where
  pub all : done ++ q.pending ≡ made ++ old.pending
  pub time : q.time ≤ until
  pub well : q.missed ≡ false
  pub slots : q.slots ≡ old.slots
  pub longest : q.max ≡ old.max
  pub safe : (more : List Want) × AreInTime old.max q.level q.last (q.pending ++ more) × BeginsFrom until more
  pub rise : (low : ℕ) → WantsRiseFrom low old.pending → WantsRiseFrom low q.pending
  pub in_time : (more : List Want) → AreInTime old.max old.level old.last (old.pending ++ more) → AreInTime old.max q.level q.last (q.pending ++ more)

not_late : (longest : ℕ) (level : Bool) (last tick : ℕ) → InTime longest level last tick → comes_late (missed_of longest level last) tick ≡ false
not_late longest false last tick h = refl
not_late longest true last tick h = grind (arith, nat_tests)

-- the first command that pends comes in time
turn_is : (until : ℕ) (q : Output) (w : Want) (ws : List Want) → q.missed ≡ false → q.pending ≡ w ∷ ws → InTime q.max q.level q.last w.tick → output_turn until q ≡ want_turn until q w ws
turn_is until q w ws well is h = rw (well, is, not_late q.max q.level q.last w.tick h) refl

miss_none : (until at : ℕ) (q : Output) → until ≤ at → (miss_turn until q (Some at)).event ≡ None
miss_none until at q h = let e : nat_lt at until ≡ false = grind (arith, nat_tests) in rw e refl

-- where none pends, nothing happens before the next command comes
no_miss : (until longest last : ℕ) (q : Output) (level : Bool) (more : List Want) → AreInTime longest level last more → BeginsFrom until more → (miss_turn until q (missed_of longest level last)).event ≡ None
no_miss until longest last q false more steady begins = refl
no_miss until longest last q true [] steady begins = absurd (true≢false steady)
no_miss until longest last q true (w ∷ more) steady begins = let time = steady.0 in miss_none until (last + longest) q (omega (arith, time, begins))

turn_none : (until : ℕ) (q : Output) (more : List Want) → q.missed ≡ false → q.pending ≡ [] → AreInTime q.max q.level q.last more → BeginsFrom until more → event_next until q ≡ None
turn_none until q more well is steady begins =
    let miss = missed_of q.max q.level q.last in
    let now = with_time q until in
    let same : Turn = record { event = None; left = now } in
    ap (λ (b : Bool). (cond b same (turn_by until now miss q.pending)).event) well ∙ ap (λ (ps : List Want). (turn_by until now miss ps).event) is ∙ no_miss until q.max q.last now q.level more steady begins

before_or_not : (until : ℕ) (q : Output) (w : Want) (ws : List Want) (e : OutEvent) (b : Bool) → nat_lt w.tick until ≡ b → (want_turn until q w ws).event ≡ Some e → b ≡ true
before_or_not until q w ws e true is h = refl
before_or_not until q w ws e false is h = absurd (let x = rw is at h in cc)

-- a command is carried out
pub record Carries (old q : Output) (until : ℕ) (made done : List Want) (e : OutEvent) : Type 0 where
  pub want : Want
  pub is : e ≡ event_of want
  pub less : length (output_behind until q).pending < length q.pending
  pub sofar : CarriedSofar old (output_behind until q) until made (done ++ want ∷ [])

lower_all : (low a : ℕ) (ws : List Want) → low ≤ a → WantsRiseFrom (a + 1) ws → WantsRiseFrom low ws
lower_all low a [] le h = tt
lower_all low a (w ∷ ws) le h = let first = h.0 in (omega (arith, le, first), h.1)

-- the queue behind a command that is carried out
behind_is : (until : ℕ) (q : Output) (w : Want) (ws : List Want) → q.missed ≡ false → q.pending ≡ w ∷ ws → InTime q.max q.level q.last w.tick → nat_lt w.tick until ≡ true
    → output_behind until q ≡ record (with_time q until) { pending = ws; level = w.on; last = w.tick }
behind_is until q w ws well is h soon = ap (λ (t : Turn). t.left) (turn_is until (with_time q until) w ws well is h) ∙ rw soon refl

carries_one : (old q : Output) (until : ℕ) (made done : List Want) (e : OutEvent) (w : Want) (ws : List Want) → q.pending ≡ w ∷ ws → CarriedSofar old q until made done → event_next until q ≡ Some e → Carries old q until made done e
carries_one old q until made done e w ws is so happens =
    let safe = so.safe in
    let steady : AreInTime old.max q.level q.last (w ∷ ws ++ safe.0) = subst (λ (ps : List Want). AreInTime old.max q.level q.last (ps ++ safe.0)) is safe.1 in
    let time : InTime q.max q.level q.last w.tick = subst (λ (n : ℕ). InTime n q.level q.last w.tick) (sym so.longest) steady.0 in
    let now = with_time q until in
    let turn = turn_is until now w ws so.well is time in
    let here : (want_turn until now w ws).event ≡ Some e = ap (λ (t : Turn). t.event) (sym turn) ∙ happens in
    let soon : nat_lt w.tick until ≡ true = before_or_not until now w ws e (nat_lt w.tick until) refl here in
    let left = behind_is until q w ws so.well is time soon in
    let same : Some (event_of w) ≡ Some e = rw soon at here in
    record {
      want = w;
      is = (let x = sym same in cc);
      less = rw (left, is) (omega arith);
      sofar = rw left (record {
        all = append_assoc done (w ∷ []) ws ∙ rw is at so.all;
        time = omega arith;
        well = so.well;
        slots = so.slots;
        longest = so.longest;
        safe = (safe.0, steady.1, safe.2);
        rise = λ low r. let h : WantsRiseFrom low (w ∷ ws) = subst (λ (ps : List Want). WantsRiseFrom low ps) is (so.rise low r) in lower_all low w.tick ws h.0 h.1;
        in_time = λ more i. (let h : AreInTime old.max q.level q.last (w ∷ ws ++ more) = subst (λ (ps : List Want). AreInTime old.max q.level q.last (ps ++ more)) is (so.in_time more i) in h.1);
      });
    }

carries_of : (old q : Output) (until : ℕ) (made done : List Want) (e : OutEvent) (pending : List Want) → q.pending ≡ pending → CarriedSofar old q until made done → event_next until q ≡ Some e → Carries old q until made done e
carries_of old q until made done e [] is so happens =
    let safe = so.safe in
    let steady : AreInTime q.max q.level q.last safe.0 = subst (λ (n : ℕ). AreInTime n q.level q.last safe.0) (sym so.longest) (subst (λ (ps : List Want). AreInTime old.max q.level q.last (ps ++ safe.0)) is safe.1) in
    absurd (let x = sym (turn_none until q safe.0 so.well is steady safe.2) ∙ happens in cc)
carries_of old q until made done e (w ∷ ws) is so happens = carries_one old q until made done e w ws is so happens

pub carries : (old q : Output) (until : ℕ) (made done : List Want) (e : OutEvent) → CarriedSofar old q until made done → event_next until q ≡ Some e → Carries old q until made done e
carries old q until made done e so happens = carries_of old q until made done e q.pending refl so happens

on_of : (w : Want) (b : Bool) → (cond b On Off) ≡ On → b ≡ true
on_of w true h = refl
on_of w false h = absurd cc

off_of : (w : Want) (b : Bool) → (cond b On Off) ≡ Off → b ≡ false
off_of w true h = absurd cc
off_of w false h = refl

same_want : (w : Want) (at : ℕ) (b : Bool) → at ≡ w.tick → w.on ≡ b → record { tick = at; on = b } ≡ w
same_want w at b t on = rw (t, ← on) refl

-- a command that switches the output on, or off, is put behind those that are carried out
pub carried_on : (old q : Output) (until : ℕ) (made done new : List Want) (e : OutEvent) → CarriedSofar old q until made done → event_next until q ≡ Some e → e.what ≡ On → new ≡ done ++ record { tick = e.tick; on = true } ∷ [] → CarriedSofar old (output_behind until q) until made new
carried_on old q until made done new e so happens what is =
    let c = carries old q until made done e so happens in
    let on = on_of c.want c.want.on (ap (λ (x : OutEvent). x.what) (sym c.is) ∙ what) in
    let tick : e.tick ≡ c.want.tick = ap (λ (x : OutEvent). x.tick) c.is in
    subst (λ (ds : List Want). CarriedSofar old (output_behind until q) until made ds) (sym (is ∙ ap (λ (v : Want). done ++ v ∷ []) (same_want c.want e.tick true tick on))) c.sofar

pub carried_off : (old q : Output) (until : ℕ) (made done new : List Want) (e : OutEvent) → CarriedSofar old q until made done → event_next until q ≡ Some e → e.what ≡ Off → new ≡ done ++ record { tick = e.tick; on = false } ∷ [] → CarriedSofar old (output_behind until q) until made new
carried_off old q until made done new e so happens what is =
    let c = carries old q until made done e so happens in
    let off = off_of c.want c.want.on (ap (λ (x : OutEvent). x.what) (sym c.is) ∙ what) in
    let tick : e.tick ≡ c.want.tick = ap (λ (x : OutEvent). x.tick) c.is in
    subst (λ (ds : List Want). CarriedSofar old (output_behind until q) until made ds) (sym (is ∙ ap (λ (v : Want). done ++ v ∷ []) (same_want c.want e.tick false tick off))) c.sofar

pub less_pend : (old q : Output) (until : ℕ) (made done : List Want) (e : OutEvent) → CarriedSofar old q until made done → event_next until q ≡ Some e → length (output_behind until q).pending < length q.pending
less_pend old q until made done e so happens = (carries old q until made done e so happens).less

pub never_missed : {A : Type 0} → (old q : Output) (until : ℕ) (made done : List Want) (e : OutEvent) → CarriedSofar old q until made done → event_next until q ≡ Some e → e.what ≡ Missed → A
never_missed old q until made done e so happens what =
    let c = carries old q until made done e so happens in
    no c.want.on (ap (λ (x : OutEvent). x.what) (sym c.is) ∙ what)
  where
    no : {A : Type 0} → (b : Bool) → cond b On Off ≡ Missed → A
    no true h = absurd cc
    no false h = absurd cc

rise_all : (low : ℕ) (ws : List Want) → WantsRiseFrom low ws → All (λ w. low ≤ w.tick) ws
rise_all low [] h = All-nil (λ (w : Want). low ≤ w.tick)
rise_all low (w ∷ ws) h =
    let later = rise_all (w.tick + 1) ws h.1 in
    let first = h.0 in
    All-cons (λ (v : Want). low ≤ v.tick) w ws first (λ k d lt. let x = later k d lt in omega (arith, x, first))

pub stays_by : (until : ℕ) (q : Output) (w : Want) (ws : List Want) (b : Bool) → nat_lt w.tick until ≡ b → (want_turn until q w ws).event ≡ None → until ≤ w.tick
stays_by until q w ws false is h = grind (arith, nat_tests)
stays_by until q w ws true is h = absurd (let x = rw is at h in cc)

-- where nothing more happens before a tick, all commands that pend come from it on
quiet : (old q : Output) (until : ℕ) (made done pending : List Want) → q.pending ≡ pending → CarriedSofar old q until made done → event_next until q ≡ None → WantsRiseFrom 0 old.pending → AreFrom until pending
quiet old q until made done [] is so none rise = All-nil (λ (w : Want). until ≤ w.tick)
quiet old q until made done (w ∷ ws) is so none rise =
    let safe = so.safe in
    let steady : AreInTime old.max q.level q.last (w ∷ ws ++ safe.0) = subst (λ (ps : List Want). AreInTime old.max q.level q.last (ps ++ safe.0)) is safe.1 in
    let time : InTime q.max q.level q.last w.tick = subst (λ (n : ℕ). InTime n q.level q.last w.tick) (sym so.longest) steady.0 in
    let now = with_time q until in
    let first = stays_by until now w ws (nat_lt w.tick until) refl (ap (λ (t : Turn). t.event) (sym (turn_is until now w ws so.well is time)) ∙ none) in
    let r : WantsRiseFrom 0 (w ∷ ws) = subst (λ (ps : List Want). WantsRiseFrom 0 ps) is (so.rise 0 rise) in
    rise_all until (w ∷ ws) (first, r.1)

miss_by : (until at : ℕ) (q : Output) (b : Bool) → nat_lt at until ≡ b → (miss_turn until q (Some at)).event ≡ None → (miss_turn until q (Some at)).left ≡ q
miss_by until at q true is h = absurd (let x = rw is at h in cc)
miss_by until at q false is h = rw is refl

miss_left : (until : ℕ) (q : Output) (miss : Option ℕ) → (miss_turn until q miss).event ≡ None → (miss_turn until q miss).left ≡ q
miss_left until q None h = refl
miss_left until q (Some at) h = miss_by until at q (nat_lt at until) refl h

want_left : (until : ℕ) (q : Output) (w : Want) (ws : List Want) (b : Bool) → nat_lt w.tick until ≡ b → (want_turn until q w ws).event ≡ None → (want_turn until q w ws).left ≡ q
want_left until q w ws true is h = absurd (let x = rw is at h in cc)
want_left until q w ws false is h = rw is refl

late_left : (until : ℕ) (q : Output) (miss : Option ℕ) (w : Want) (ws : List Want) (b : Bool) → comes_late miss w.tick ≡ b → (turn_by until q miss (w ∷ ws)).event ≡ None → (turn_by until q miss (w ∷ ws)).left ≡ q
late_left until q miss w ws true is h = rw is (miss_left until q miss (rw is at h))
late_left until q miss w ws false is h = rw is (want_left until q w ws (nat_lt w.tick until) refl (rw is at h))

turn_left : (until : ℕ) (q : Output) (miss : Option ℕ) (pending : List Want) → (turn_by until q miss pending).event ≡ None → (turn_by until q miss pending).left ≡ q
turn_left until q miss [] h = miss_left until q miss h
turn_left until q miss (w ∷ ws) h = late_left until q miss w ws (comes_late miss w.tick) refl h

left_by : (until : ℕ) (q : Output) (b : Bool) → q.missed ≡ b → (output_turn until q).event ≡ None → (output_turn until q).left ≡ q
left_by until q true is h = ap (λ (b : Bool). (cond b (record { event = None; left = q }) (turn_by until q (missed_of q.max q.level q.last) q.pending)).left) is
left_by until q false is h =
    let same : Turn = record { event = None; left = q } in
    let other = turn_by until q (missed_of q.max q.level q.last) q.pending in
    ap (λ (b : Bool). (cond b same other).left) is ∙ turn_left until q (missed_of q.max q.level q.last) q.pending (ap (λ (b : Bool). (cond b same other).event) (sym is) ∙ h)

-- where nothing happens, nothing changes but the time
pub nothing_left : (until : ℕ) (q : Output) → event_next until q ≡ None → output_behind until q ≡ with_time q until
nothing_left until q h = left_by until (with_time q until) q.missed refl h

pub all_from : (old q new : Output) (until : ℕ) (made done : List Want) → new ≡ output_behind until q → CarriedSofar old q until made done → event_next until q ≡ None → WantsRiseFrom 0 old.pending → AreFrom until new.pending
all_from old q new until made done is so none rise = rw (is, nothing_left until q none) (quiet old q until made done q.pending refl so none rise)
