-- What a board tells of triggers that can trigger is of moments at which they could.
use Rattle.std.proofs.Common.{◌≡◌, ℕ, zero, suc, ◌+◌, ◌-◌, ◌*◌, ◌/◌, ◌%◌, ◌^◌, ◌<◌, ◌≤◌, ◌==◌, Bool, true, false, List, [], ◌∷◌, get_or, Option, Some, None, refl, ap, sym, ◌∙◌, subst, arith, ◌⊎◌, inl, inr}
use Rattle.std.specs.Prelude.{if◌then◌else◌, slice_index_or}
use Rattle.laws_board.proofs.Names.{get_or-set_same, nat_tests, Level, BoardState, Running, Shut, nearest, Trigger, Happening, Nothing, Expires, Switches, Reports, Cmd, Passed, Rig, Slot, acts_running, all_left, at_of, becomes, earliest_moment, goes_on, happens_to, pass, passes_by, rests_to, runs_to, slot_at, takes, AllSound, one_slot, slot_range}
use Rattle.board_trig.specs.Trigger as trig
use Rattle.board_trig.specs.Kept.{MovesOn}
use Rattle.board_trig.specs.Nexts.{ExpiresAt, IsNextOf, SwitchesAt}
use Rattle.board_trig.proofs.Nexts.{is_next}
use Rattle.msg_code.specs.declared.cmd.Cmd.TheVariants as cmd
use Rattle.msg_code.specs.Units.{bit}
use Rattle.board_sim.specs.Rig.{happens_at, make_trigger, rested, trigger_answers}
use Rattle.board_sim.specs.RigRuns.{IsSoundTrigger}
use Rattle.board_sim.proofs.Bound.{map_at, same_or_not, set_other}
use Rattle.board_sim.proofs.Halting.{quiet_moves, quiet_switch, ceiling}
use Rattle.board_sim.proofs.Passing.{finishes}
use Rattle.board_sim.proofs.RigStates.{all_tick}
use Rattle.board_sim.proofs.Sound.{sound_regular}
use Rattle.laws_board.proofs.clocks.Answers.{Each, each_both}
use Rattle.laws_homing.specs.home_runs.Moments.{CouldAt}
use Rattle.laws_homing.proofs.clear_boards.Held.{at_set, rested_is}
use Rattle.laws_homing.proofs.clear_boards.Reports.{reports_told}
use Rattle.laws_homing.proofs.clear_boards.Slots.{Follows, OfEach, running_beside, running_each}

-- A trigger, while time passes: if it triggers, then at this tick or later; and its next report is at another one or
-- later.
pub record IsLate (x low : ℕ) (pins : List (List Level)) (s : Slot) : Type 0 where
  pub told : s.trigger.untold ≡ None
  pub moves : MovesOn s.trigger.sampling
  pub timeout : (y : ℕ) → ExpiresAt s.trigger y → x ≤ y
  pub switch : (y : ℕ) → SwitchesAt (slice_index_or pins s.pin []) s.trigger y → x ≤ y
  pub fired : s.trigger.can ≡ false → x ≤ s.trigger.tick
  pub due : (y : ℕ) → s.trigger.report ≡ Some y → low ≤ y

-- an answer that tells of a trigger that it can trigger tells of a tick of which this holds
abbrev pub IsMoment : (ℕ → ℕ → Type 0) → Cmd → Type 0
IsMoment P (cmd.TrsyncState oid can reason clock) = (can ≡ 0 → ⊥) → (x : ℕ) × P oid x × (clock ≡ x % 2 ^ 32)
IsMoment P c = Unit {0}

moments_more : (P Q : ℕ → ℕ → Type 0) (cs : List Cmd) → ((o x : ℕ) → P o x → Q o x) → Each (IsMoment P) cs
    → Each (IsMoment Q) cs
moments_more P Q [] f k = tt
moments_more P Q (c ∷ cs) f k = (one c k.0, moments_more P Q cs f k.1)
  where
    one : (c : Cmd) → IsMoment P c → IsMoment Q c
    one (cmd.TrsyncState oid can reason clock) m = λ able. let y = m able in (y.0, f oid y.0 y.1, y.2)
    one c m = tt

abbrev then_of : Slot → List (List Level) → ℕ → Happening → Slot
then_of s pins until e = record s { trigger = (trig.happened (slice_index_or pins s.pin []) until e s.trigger).trigger }

happened_late : (x low until : ℕ) (pins : List (List Level)) (e : Happening) (s : Slot)
    → IsNextOf (slice_index_or pins s.pin []) until s.trigger e
    → IsLate x low pins s → IsLate x low pins (then_of s pins until e)
happened_late x low until pins Nothing s next k = record {
  told = k.told;
  moves = quiet_moves s.trigger.sampling (slice_index_or pins s.pin []) until k.moves;
  timeout = k.timeout;
  switch = λ y (z, can, is, at). let old = quiet_switch s.trigger.sampling (slice_index_or pins s.pin []) until z y is at in k.switch y (old.0, can, old.1, old.2);
  fired = k.fired;
  due = k.due;
}
happened_late x low until pins (Expires at) s next k = record {
  told = k.told;
  moves = tt;
  timeout = λ y e. absurd (cc);
  switch = λ y (z, can, is, there). absurd (cc);
  fired = λ f. k.timeout at next.0;
  due = k.due;
}
happened_late x low until pins (Switches at) s next k = record {
  told = k.told;
  moves = tt;
  timeout = λ y e. absurd (cc);
  switch = λ y (z, can, is, there). absurd (cc);
  fired = λ f. k.switch at next.0;
  due = k.due;
}
happened_late x low until pins (Reports at) s next k = record {
  told = k.told;
  moves = k.moves;
  timeout = k.timeout;
  switch = k.switch;
  fired = k.fired;
  due = λ y e. (let same : at + s.trigger.every ≡ y = cc in let far = k.due at next.0 in omega (arith, same, far));
}

-- what is told then
bit_one : (b : Bool) → (bit b ≡ 0 → ⊥) → b ≡ true
bit_one true n = refl
bit_one false n = absurd (n refl)

clock_there : (can : Bool) (at tick : ℕ) → can ≡ true → (if can then at else tick) % 2 ^ 32 ≡ at % 2 ^ 32
clock_there true at tick e = refl
clock_there false at tick e = cc

abbrev SaidThen : ℕ → ℕ → ℕ → List (List Level) → Slot → (ℕ → ℕ → Type 0)
SaidThen oid low until pins s o x = (o ≡ oid) × (low ≤ x) × (x < until) × IsLate x low pins s

happened_says : (oid low until : ℕ) (pins : List (List Level)) (e : Happening) (s : Slot)
    → IsNextOf (slice_index_or pins s.pin []) until s.trigger e → IsLate 0 low pins s
    → Each (IsMoment (SaidThen oid low until pins (then_of s pins until e)))
    (trigger_answers oid (trig.happened (slice_index_or pins s.pin []) until e s.trigger).event)
happened_says oid low until pins Nothing s next k = tt
happened_says oid low until pins (Reports at) s next k = (
  λ able. (
      let can = bit_one s.trigger.can able in
      let from = k.due at next.0 in
      let now : IsLate at low pins (then_of s pins until (Reports at)) = record {
        told = k.told;
        moves = k.moves;
        timeout = λ y e. (let far = next.2 y e in omega (arith, far));
        switch = λ y e. (let far = next.3 y e in omega (arith, far));
        fired = λ f. absurd (let bad : true ≡ false = sym can ∙ f in cc);
        due = λ y e. (let same : at + s.trigger.every ≡ y = cc in omega (arith, same, from));
      } in (at, (refl, from, next.1, now), clock_there s.trigger.can at s.trigger.tick can)),
  tt,
)
happened_says oid low until pins c s next k = ((λ no. absurd (no refl)), tt)

-- all that is told is told at once
abbrev next_of : Slot → List (List Level) → ℕ → Slot
next_of s pins until = record s { trigger = (trig.advanced (slice_index_or pins s.pin []) until s.trigger).trigger }

told_late : (o : Option ℕ) (x low until : ℕ) (pins : List (List Level)) (s : Slot) → s.trigger.untold ≡ o
    → IsLate x low pins s
    → IsLate x low pins (record s { trigger = (trig.tells o (slice_index_or pins s.pin []) until s.trigger).trigger })
told_late None x low until pins s e k =
    let levels = slice_index_or pins s.pin [] in
    happened_late x low until pins (trig.next_happening levels until s.trigger) s (is_next levels until s.trigger k.moves) k
told_late (Some n) x low until pins s e k = absurd (let bad : None ≡ Some n = sym k.told ∙ e in cc)

told_says : (o : Option ℕ) (oid low until : ℕ) (pins : List (List Level)) (s : Slot) → s.trigger.untold ≡ o
    → IsLate 0 low pins s
    → Each (IsMoment (SaidThen oid low until pins (record s { trigger = (trig.tells o (slice_index_or pins s.pin []) until s.trigger).trigger })))
    (trigger_answers oid (trig.tells o (slice_index_or pins s.pin []) until s.trigger).event)
told_says None oid low until pins s e k =
    let levels = slice_index_or pins s.pin [] in
    happened_says oid low until pins (trig.next_happening levels until s.trigger) s (is_next levels until s.trigger k.moves) k
told_says (Some n) oid low until pins s e k = absurd (let bad : None ≡ Some n = sym k.told ∙ e in cc)

-- the trigger at an id; and all of a board
pub record LateAt (o x low : ℕ) (r : Rig) : Type 0 where
  slot : Slot
  is : slot_at r o ≡ Some slot
  late : IsLate x low r.pins slot

abbrev pub AllLate : ℕ → Rig → Type 0
AllLate low r = (oid : ℕ) (s : Slot) → slot_at r oid ≡ Some s → IsLate 0 low r.pins s

happens_late : (o x low until k : ℕ) (r : Rig) (c : Option Slot) → slot_at r k ≡ c → LateAt o x low r
    → LateAt o x low (happens_to r until k c).rig
happens_late o x low until k r None e h = h
happens_late o x low until k r (Some s) e h =
    let q = becomes r k s (trig.advanced (slice_index_or r.pins s.pin []) until s.trigger).trigger in
    elim (same_or_not k o) [
      | inl same ↦
          let own : h.slot ≡ s = one_slot (slot_at r o) h.slot s h.is (subst (λ (n : ℕ). slot_at r n ≡ Some s) same e) in
          record {
            slot = next_of s r.pins until;
            is = subst (λ (n : ℕ). slot_at q n ≡ Some (next_of s r.pins until)) same (get_or-set_same r.triggers k (Some (next_of s r.pins until)) None (slot_range r.triggers k s e));
            late = told_late s.trigger.untold x low until r.pins s refl (subst (IsLate x low r.pins) own h.late);
          }
      | inr other ↦ record { slot = h.slot; is = set_other r q o k (Some (next_of s r.pins until)) refl other ∙ h.is; late = h.late }
    ]

one_late : (low : ℕ) (pins : List (List Level)) (u s : Slot) (before : Option Slot) → IsLate 0 low pins u
    → (before ≡ Some s → IsLate 0 low pins s) → (s ≡ u) ⊎ (before ≡ Some s) → IsLate 0 low pins s
one_late low pins u s before here others (inl e) = subst (IsLate 0 low pins) (sym e) here
one_late low pins u s before here others (inr e) = others e

happens_all : (low until k : ℕ) (r : Rig) (c : Option Slot) → slot_at r k ≡ c → AllLate low r
    → AllLate low (happens_to r until k c).rig
happens_all low until k r None e all = all
happens_all low until k r (Some s) e all = λ oid u at.
    let next = next_of s r.pins until in
    one_late low r.pins next u (get_or r.triggers oid None) (told_late s.trigger.untold 0 low until r.pins s refl (all k s e)) (all oid u) (at_set r.triggers k oid next u at (same_or_not oid k))

happens_says : (low until k : ℕ) (r : Rig) (c : Option Slot) → slot_at r k ≡ c → AllLate low r
    → Each (IsMoment (λ o x. (low ≤ x) × (x < until) × LateAt o x low (happens_to r until k c).rig))
    (happens_to r until k c).answers
happens_says low until k r None e all = tt
happens_says low until k r (Some s) e all =
    let next = next_of s r.pins until in
    let q = becomes r k s (trig.advanced (slice_index_or r.pins s.pin []) until s.trigger).trigger in
    let Then : ℕ → ℕ → Type 0 = λ o x. (low ≤ x) × (x < until) × LateAt o x low q in
    moments_more (SaidThen k low until r.pins next) Then (trigger_answers k (trig.advanced (slice_index_or r.pins s.pin []) until s.trigger).event)
    (λ o x y. (
      y.1,
      y.2,
      record {
        slot = next;
        is = subst (λ (n : ℕ). slot_at q n ≡ Some next) (sym y.0) (get_or-set_same r.triggers k (Some next) None (slot_range r.triggers k s e));
        late = y.3;
      },
    ))
    (told_says s.trigger.untold k low until r.pins s refl (all k s e))

rests_late : (o x low t : ℕ) (r : Rig) → LateAt o x low r → LateAt o x low (rests_to r t).rig
rests_late o x low t r h = record {
  slot = then_of h.slot r.pins t Nothing;
  is = map_at (rested r.pins t) r.triggers o refl ∙ ap (λ (c : Option Slot). rested r.pins t c) h.is;
  late = quiet_late x low t r.pins h.slot h.late;
}
  where
    quiet_late : (x low t : ℕ) (pins : List (List Level)) (s : Slot) → IsLate x low pins s
        → IsLate x low pins (then_of s pins t Nothing)
    quiet_late x low t pins s k = record {
      told = k.told;
      moves = quiet_moves s.trigger.sampling (slice_index_or pins s.pin []) t k.moves;
      timeout = k.timeout;
      switch = λ y (z, can, is, at). let old = quiet_switch s.trigger.sampling (slice_index_or pins s.pin []) t z y is at in k.switch y (old.0, can, old.1, old.2);
      fired = k.fired;
      due = k.due;
    }

goes_by : (P : Passed → Type 0) (c : Option (ℕ × ℕ)) (x y : Passed) → P x → P y → P (goes_on c x y)
goes_by P None x y k l = k
goes_by P (Some at) x y k l = l

pass_late : (n o x low t : ℕ) (r : Rig) → LateAt o x low r → LateAt o x low (pass n r t).rig
pass_late zero o x low t r h = h
pass_late (suc n) o x low t r h =
    let next = earliest_moment r t 0 r.triggers in
    let ran = (runs_to r ((at_of next).0 / 3)).rig in
    let first = happens_at r t (at_of next) in
    let on : LateAt o x low ran = record { slot = h.slot; is = h.is; late = h.late } in
    goes_by (λ (p : Passed). LateAt o x low p.rig) next (rests_to r t) (passes_by first (pass n first.rig t)) (rests_late o x low t r h)
    (pass_late n o x low t first.rig (happens_late o x low t (at_of next).1 ran (slot_at ran (at_of next).1) refl on))

pub pass_says : (n low t : ℕ) (r : Rig) → AllLate low r
    → Each (IsMoment (λ o x. (low ≤ x) × (x < t) × LateAt o x low (pass n r t).rig)) (pass n r t).answers
pass_says zero low t r all = tt
pass_says (suc n) low t r all =
    let next = earliest_moment r t 0 r.triggers in
    let at = (at_of next).1 in
    let ran = (runs_to r ((at_of next).0 / 3)).rig in
    let first = happens_at r t (at_of next) in
    let rest = pass n first.rig t in
    let Then : Rig → ℕ → ℕ → Type 0 = λ q o x. (low ≤ x) × (x < t) × LateAt o x low q in
    let now = moments_more (Then first.rig) (Then rest.rig) first.answers (λ o x y. (y.0, y.1, pass_late n o x low t first.rig y.2)) (happens_says low t at ran (slot_at ran at) refl all) in
    let more = pass_says n low t first.rig (happens_all low t at ran (slot_at ran at) refl all) in
    goes_by (λ (p : Passed). Each (IsMoment (Then p.rig)) p.answers) next (rests_to r t) (passes_by first rest) tt (each_both (IsMoment (Then rest.rig)) first.answers rest.answers now more)

-- a board at a tick: a trigger that can't trigger can't since another tick or a later one; its next report is not before now
abbrev Since : ℕ → Trigger → Type 0
Since x t = t.can ≡ false → x ≤ t.tick

abbrev DueFrom : ℕ → Trigger → Type 0
DueFrom now t = (y : ℕ) → t.report ≡ Some y → now ≤ y

abbrev pub AllDueNow : Rig → Type 0
AllDueNow r = (oid : ℕ) (s : Slot) → slot_at r oid ≡ Some s → DueFrom r.controller.tick s.trigger

pub report_from : (b : Bool) (now clock every y : ℕ) → (every == 0) ≡ b
    → (if b then None else Some (trig.first_from now (nearest now clock) every)) ≡ Some y → now ≤ y
report_from true now clock every y e is = absurd (cc)
report_from false now clock every y e is =
    let some : 0 < every = grind (arith, nat_tests) in
    let same : trig.first_from now (nearest now clock) every ≡ y = cc in
    let whole = ceiling (now - nearest now clock) every some in
    omega (arith, whole, same)

-- over commands
abbrev Due : ℕ → (List (List Level) → ℕ → Slot → Type 0)
Due now pins oid s = DueFrom now s.trigger

follows_due : (now : ℕ) → Follows (Due now) (λ at c. at ≡ now)
follows_due now = record {
  made = λ pins at oid fit y is. absurd (cc);
  starts = λ pins at oid s clock every reason fit k y is. (let far = report_from (every == 0) at clock every y refl is in omega (arith, far, fit));
  limits = λ pins at oid s clock fit can ahead k. k;
  expires = λ pins at oid s clock fit can past k. k;
  says = λ pins oid s n e k. k;
  fires = λ pins at oid s reason fit can k. k;
  binds = λ pins at oid s i fit k. k;
  homes = λ pins at oid s i pin g fit k. k;
}

pub takes_due : (r : Rig) (c : Cmd) → AllDueNow r → AllDueNow (takes r c).rig
takes_due r c all = λ oid s at y is.
    let now = r.controller.tick in
    let far = running_each (Due now) (λ tick a. tick ≡ now) (follows_due now) r.controller.state r c refl all oid s at y is in
    let t = all_tick r (c ∷ []) in
    omega (arith, far, t)

-- the trigger at this id, by commands that make none there
abbrev CouldThere : ℕ → ℕ → (List (List Level) → ℕ → Slot → Type 0)
CouldThere o x pins oid s = oid ≡ o → Since x s.trigger

abbrev Makes : ℕ → Cmd → Type 0
Makes o (cmd.ConfigTrsync oid) = oid ≡ o
Makes o c = ⊥

follows_could : (o x : ℕ) → Follows (CouldThere o x) (λ now c. (x ≤ now) × (Makes o c → ⊥))
follows_could o x = record {
  made = λ pins now oid fit own. absurd (fit.1 own);
  starts = λ pins now oid s clock every reason fit k own f. absurd (let bad : true ≡ false = f in cc);
  limits = λ pins now oid s clock fit can ahead k. k;
  expires = λ pins now oid s clock fit can past k own f. fit.0;
  says = λ pins oid s n e k. k;
  fires = λ pins now oid s reason fit can k own f. fit.0;
  binds = λ pins now oid s i fit k. k;
  homes = λ pins now oid s i pin g fit k. k;
}

could_by : (o x : ℕ) (r : Rig) (c : Cmd) (state : BoardState) → (Makes o c → ⊥) → (acts_running state r c).rig.controller.tick ≡ r.controller.tick → CouldAt o x r → CouldAt o x (acts_running state r c).rig
could_by o x r c state none t k =
    let u = (running_beside state r c).3 o k.slot k.is in
    let old : OfEach (CouldThere o x) r = λ oid s at own. subst (λ (z : Slot). Since x z.trigger) (one_slot (slot_at r o) k.slot s k.is (subst (λ (n : ℕ). slot_at r n ≡ Some s) own at)) k.fired in
    let all = running_each (CouldThere o x) (λ now a. (x ≤ now) × (Makes o a → ⊥)) (follows_could o x) state r c ((let l = k.came in omega (arith, l)), none) old in
    record { came = (let l = k.came in omega (arith, l, t)); slot = u.0; is = u.1; fired = all o u.0 u.1 refl }

could_made : (o x oid : ℕ) (r : Rig) (state : BoardState) → oid ≡ o → (acts_running state r (cmd.ConfigTrsync oid)).rig.controller.tick ≡ r.controller.tick → CouldAt o x r → CouldAt o x (acts_running state r (cmd.ConfigTrsync oid)).rig
could_made o x oid r Running same t k = subst (λ (p : Option Slot). CouldAt o x (make_trigger r oid p)) (sym (ap (slot_at r) same ∙ k.is)) k
could_made o x oid r (Shut reason tick first) same t k = record { came = (let l = k.came in omega (arith, l, t)); slot = k.slot; is = k.is; fired = k.fired }

pub takes_could : (o x : ℕ) (r : Rig) (c : Cmd) → CouldAt o x r → CouldAt o x (takes r c).rig
takes_could o x r (cmd.ConfigTrsync oid) k =
    let t = all_tick r (cmd.ConfigTrsync oid ∷ []) in
    elim (same_or_not oid o) [ inl same ↦ could_made o x oid r r.controller.state same t k | inr other ↦ could_by o x r (cmd.ConfigTrsync oid) r.controller.state other t k ]
takes_could o x r c k = could_by o x r c r.controller.state (λ m. absurd m) (all_tick r (c ∷ [])) k

-- over time
late_of : (x low now : ℕ) (pins : List (List Level)) (s : Slot) → IsSoundTrigger now pins s → x ≤ now → Since x s.trigger
    → DueFrom low s.trigger → IsLate x low pins s
late_of x low now pins s k l since due = record {
  told = k.told;
  moves = k.moves;
  timeout = λ y e. (let far = k.timeout y e in omega (arith, far, l));
  switch = λ y (z, can, is, at). let far = k.switch z y is at in omega (arith, far, l);
  fired = since;
  due = due;
}

pub pass_could : (n o x t : ℕ) (r : Rig) → AllSound r → r.controller.tick ≤ t → all_left t r.triggers < n
    → CouldAt o x r → CouldAt o x (pass n r t).rig
pass_could n o x t r sound l enough k =
    let h = pass_late n o x 0 t r (record { slot = k.slot; is = k.is; late = late_of x 0 r.controller.tick r.pins k.slot (sound o k.slot k.is) (let c = k.came in omega (arith, c)) k.fired (λ y e. omega arith) }) in
    let tick = finishes n r t (sound_regular r sound) l enough in
    record { came = (let c = k.came in omega (arith, c, l, tick)); slot = h.slot; is = h.is; fired = h.late.fired }

pub pass_tells : (n t : ℕ) (r : Rig) → AllSound r → AllDueNow r → r.controller.tick ≤ t → all_left t r.triggers < n
    → Each (IsMoment (λ o x. (r.controller.tick ≤ x) × CouldAt o x (pass n r t).rig)) (pass n r t).answers
pass_tells n t r sound due l enough =
    let now = r.controller.tick in
    let tick = finishes n r t (sound_regular r sound) l enough in
    moments_more (λ o x. (now ≤ x) × (x < t) × LateAt o x now (pass n r t).rig) (λ o x. (now ≤ x) × CouldAt o x (pass n r t).rig) (pass n r t).answers
    (λ o x y. (y.0, record { came = (let early = y.1 in omega (arith, early, tick)); slot = y.2.slot; is = y.2.is; fired = y.2.late.fired }))
    (pass_says n now t r (λ oid s at. late_of 0 now now r.pins s (sound oid s at) (omega arith) (λ f. omega arith) (due oid s at)))

-- a slot behind a stretch of time stood before it
happens_back : (until k oid : ℕ) (r : Rig) (c : Option Slot) (u : Slot) → slot_at r k ≡ c
    → slot_at (happens_to r until k c).rig oid ≡ Some u → (s : Slot) × (slot_at r oid ≡ Some s)
happens_back until k oid r None u e at = (u, at)
happens_back until k oid r (Some s) u e at = elim (same_or_not oid k) [
  | inl same ↦ (s, subst (λ (n : ℕ). slot_at r n ≡ Some s) (sym same) e)
  | inr other ↦ (u, sym (set_other r (happens_to r until k (Some s)).rig oid k (Some (next_of s r.pins until)) refl (λ same. other (sym same))) ∙ at)
]

pass_back : (n t oid : ℕ) (r : Rig) (u : Slot) → slot_at (pass n r t).rig oid ≡ Some u
    → (s : Slot) × (slot_at r oid ≡ Some s)
pass_back zero t oid r u at = (u, at)
pass_back (suc n) t oid r u at =
    let next = earliest_moment r t 0 r.triggers in
    let ran = (runs_to r ((at_of next).0 / 3)).rig in
    let first = happens_at r t (at_of next) in
    goes_by (λ (p : Passed). slot_at p.rig oid ≡ Some u → (s : Slot) × (slot_at r oid ≡ Some s)) next (rests_to r t) (passes_by first (pass n first.rig t))
    (λ is. let x = rested_is r.pins t (slot_at r oid) u (sym (map_at (rested r.pins t) r.triggers oid refl) ∙ is) in (x.0, x.1))
    (λ is. let x = pass_back n t oid first.rig u is in happens_back t (at_of next).1 oid ran (slot_at ran (at_of next).1) x.0 refl x.1) at

pub pass_due : (n t : ℕ) (r : Rig) → AllSound r → r.controller.tick ≤ t → all_left t r.triggers < n
    → AllDueNow (pass n r t).rig
pass_due n t r sound l enough = λ oid u at.
    let tick = finishes n r t (sound_regular r sound) l enough in
    let old = pass_back n t oid r u at in
    let far = by old.0 (old.0.trigger.report) oid u old.1 refl at in
    λ y e. let d = far y e in omega (arith, d, tick)
  where
    by : (s : Slot) (o : Option ℕ) (oid : ℕ) (u : Slot) → slot_at r oid ≡ Some s → s.trigger.report ≡ o
        → slot_at (pass n r t).rig oid ≡ Some u → DueFrom t u.trigger
    by s None oid u here none at =
        let k = late_of 0 t r.controller.tick r.pins s (sound oid s here) (omega arith) (λ f. omega arith) (λ y e. absurd (let bad : None ≡ Some y = sym none ∙ e in cc)) in
        let h = pass_late n oid 0 t t r (record { slot = s; is = here; late = k }) in
        subst (λ (z : Slot). DueFrom t z.trigger) (one_slot (slot_at (pass n r t).rig oid) h.slot u h.is at) h.late.due
    by s (Some report) oid u here some at =
        let x = reports_told n oid t report r s here (sound_regular r sound) l enough some in
        let same = one_slot (slot_at (pass n r t).rig oid) x.0.slot u x.0.is at in
        λ y e.
        let is : Some x.0.next ≡ Some y = sym x.0.report_is ∙ ap (λ (z : Slot). z.trigger.report) same ∙ e in
        let one : x.0.next ≡ y = cc in
        let far = x.1 in
        omega (arith, one, far)
