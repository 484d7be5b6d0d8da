-- A trigger that triggers while commands come behind a section's set-up, and time passes, tells so, of a tick that isn't before another.
use Rattle.std.proofs.Common.{◌≡◌, ℕ, zero, suc, ◌+◌, ◌/◌, ◌%◌, ◌^◌, ◌<◌, ◌≤◌, Bool, true, false, List, [], ◌∷◌, ◌++◌, get_or, set, Option, Some, None, refl, ap, sym, ◌∙◌, subst, arith, ◌⊎◌, inl, inr, append_assoc, rules}
use Rattle.std.specs.Prelude.{if◌then◌else◌, slice_index_or, nat_le}
use Rattle.laws_board.proofs.Names.{leb_tells, get_or-set_same, Level, BoardState, Running, Shut, nearest, Sampling, Trigger, Happening, Nothing, Expires, Switches, Reports, Cmd, Passed, Rig, Slot, acts, acts_running, all_left, at_of, becomes, earliest_moment, expires_at_once, goes_on, happens_to, pass, passes, passes_by, rests_to, runs_to, set_timeout, slot_at, takes, takes_all, one_slot, slot_range, no_both}
use Rattle.std.proofs.lemmas.List.{get_or-set_other}
use Rattle.board_trig.specs.Trigger as trig
use Rattle.board_trig.specs.Kept.{MovesOn}
use Rattle.board_trig.specs.Nexts.{IsNextOf}
use Rattle.board_trig.specs.Sampling.{IsTriggerTick}
use Rattle.board_trig.proofs.Nexts.{is_next}
use Rattle.msg_code.specs.declared.cmd.Cmd.TheVariants as cmd
use Rattle.board_sim.specs.Rig.{happens_at, levels_of, rested, trigger_answers, trigger}
use Rattle.board_sim.proofs.Bound.{map_at, same_or_not}
use Rattle.board_sim.proofs.Halting.{quiet_moves, quiet_switch}
use Rattle.board_sim.proofs.RigTicks.{takes_rig_tick}
use Rattle.laws_homing.specs.clear_boards.Firing.{TellOff}
use Rattle.laws_homing.specs.clear_boards.Turned.{AreSentBehind, IsSentBehind, Relays, RelaysOne, SetsTimeout, SetsOne}
use Rattle.laws_homing.proofs.clear_boards.Firing.{off_behind, off_front}

-- a trigger that can trigger, at no tick before this one
pub record Keen (low : ℕ) (pins : List (List Level)) (s : Slot) : Type 0 where
  pub can : s.trigger.can ≡ true
  pub told : s.trigger.untold ≡ None
  pub moves : MovesOn s.trigger.sampling
  pub timed : (x : ℕ) → s.trigger.timeout ≡ Some x → low ≤ x
  pub sampled : (y : Sampling) → s.trigger.sampling ≡ Some y → (x : ℕ) → IsTriggerTick (slice_index_or pins s.pin []) y x → low ≤ x

-- one that has triggered, and told so
pub record Gone (oid low until : ℕ) (s : Slot) (answers : List Cmd) : Type 0 where
  pub fired : s.trigger.can ≡ false
  pub told : s.trigger.untold ≡ None
  pub idle : s.trigger.timeout ≡ None
  pub moves : MovesOn s.trigger.sampling
  pub begun : low ≤ s.trigger.tick
  pub early : s.trigger.tick < until
  pub tells : TellOff oid (s.trigger.tick % 2 ^ 32) answers

module _ (oid low until : ℕ) where
  abbrev So : List (List Level) → Slot → List Cmd → Type 0
  So pins s answers = Keen low pins s ⊎ Gone oid low until s answers

  more_so : (pins : List (List Level)) (s : Slot) (xs ys : List Cmd) → So pins s xs → So pins s (xs ++ ys)
  more_so pins s xs ys (inl k) = inl k
  more_so pins s xs ys (inr g) = inr (record { fired = g.fired; told = g.told; idle = g.idle; moves = g.moves; begun = g.begun; early = g.early; tells = off_front oid (s.trigger.tick % 2 ^ 32) xs ys g.tells })

  -- what happens to it
  fires : (s : Slot) (at reason : ℕ) (xs : List Cmd) → low ≤ at → at < until → s.trigger.untold ≡ None
      → Gone oid low until (record s { trigger = trig.fired at reason s.trigger }) (xs ++ trigger_answers oid (trig.state_told at (trig.fired at reason s.trigger)).event)
  fires s at reason xs begun early told_all = search (rules, off_behind)

  quiet_so : (pins : List (List Level)) (s : Slot) (xs : List Cmd) → So pins s xs → So pins (record s { trigger = (trig.happened (slice_index_or pins s.pin []) until Nothing s.trigger).trigger }) (xs ++ [])
  quiet_so pins s xs (inl k) =
      let levels = slice_index_or pins s.pin [] in
      inl (record { can = k.can; told = k.told; moves = quiet_moves s.trigger.sampling levels until k.moves; timed = k.timed; sampled = λ y is t at. (let old = quiet_switch s.trigger.sampling levels until y t is at in k.sampled old.0 old.1 t old.2) })
  quiet_so pins s xs (inr g) =
      let levels = slice_index_or pins s.pin [] in
      inr (record { fired = g.fired; told = g.told; idle = g.idle; moves = quiet_moves s.trigger.sampling levels until g.moves; begun = g.begun; early = g.early; tells = off_front oid (s.trigger.tick % 2 ^ 32) xs [] g.tells })

  happened_so : (pins : List (List Level)) (e : Happening) (s : Slot) (xs : List Cmd) → IsNextOf (slice_index_or pins s.pin []) until s.trigger e → So pins s xs
      → So pins (record s { trigger = (trig.happened (slice_index_or pins s.pin []) until e s.trigger).trigger }) (xs ++ trigger_answers oid (trig.happened (slice_index_or pins s.pin []) until e s.trigger).event)
  happened_so pins Nothing s xs next k = quiet_so pins s xs k
  happened_so pins (Expires at) s xs next (inl k) = inr (fires s at s.trigger.expire xs (k.timed at next.0) next.1 k.told)
  happened_so pins (Expires at) s xs next (inr g) = absurd (let bad : None ≡ Some at = sym g.idle ∙ next.0 in cc)
  happened_so pins (Switches at) s xs next (inl k) = inr (fires s at (trig.reason_of s.trigger.sampling) xs (k.sampled next.0.0 next.0.2 at next.0.3) next.1 k.told)
  happened_so pins (Switches at) s xs next (inr g) = absurd (no_both s.trigger.can next.0.1 g.fired)
  happened_so pins (Reports at) s xs next (inl k) = inl (record { can = k.can; told = k.told; moves = k.moves; timed = k.timed; sampled = k.sampled })
  happened_so pins (Reports at) s xs next (inr g) =
      inr (record { fired = g.fired; told = g.told; idle = g.idle; moves = g.moves; begun = g.begun; early = g.early; tells = off_front oid (s.trigger.tick % 2 ^ 32) xs (trigger_answers oid (trig.happened (slice_index_or pins s.pin []) until (Reports at) s.trigger).event) g.tells })

  moves_of : (pins : List (List Level)) (s : Slot) (xs : List Cmd) → So pins s xs → (s.trigger.untold ≡ None) × MovesOn s.trigger.sampling
  moves_of pins s xs (inl k) = (k.told, k.moves)
  moves_of pins s xs (inr g) = (g.told, g.moves)

  tells_so : (pins : List (List Level)) (o : Option ℕ) (s : Slot) (xs : List Cmd) → s.trigger.untold ≡ o → So pins s xs
      → So pins (record s { trigger = (trig.tells o (slice_index_or pins s.pin []) until s.trigger).trigger }) (xs ++ trigger_answers oid (trig.tells o (slice_index_or pins s.pin []) until s.trigger).event)
  tells_so pins o s xs p4 p5 = search (rules, slice_index_or, happened_so, is_next, moves_of)

  -- so stands a board's trigger
  pub record Stands (r : Rig) (answers : List Cmd) : Type 0 where
    pub slot : Slot
    pub is : slot_at r oid ≡ Some slot
    pub so : So r.pins slot answers

  set_here : (r q : Rig) (s u : Slot) (xs : List Cmd) → slot_at r oid ≡ Some s → q.triggers ≡ set r.triggers oid (Some u) → q.pins ≡ r.pins → So r.pins u xs → Stands q xs
  set_here r q s u xs there e pins k = search (rules, get_or-set_same, slot_range)

  more_stands : (r : Rig) (xs ys : List Cmd) → Stands r xs → Stands r (xs ++ ys)
  more_stands r xs ys d = record { slot = d.slot; is = d.is; so = more_so r.pins d.slot xs ys d.so }

  happens_so : (k : ℕ) (r : Rig) (o : Option Slot) (xs : List Cmd) → slot_at r k ≡ o → Stands r xs → Stands (happens_to r until k o).rig (xs ++ (happens_to r until k o).answers)
  happens_so k r None xs at d = more_stands r xs [] d
  happens_so k r (Some u) xs at d = elim (same_or_not oid k) [
    | inl same ↦
        let a = trig.advanced (levels_of r u.pin) until u.trigger in
        let there : slot_at r oid ≡ Some u = ap (slot_at r) same ∙ at in
        let alike : d.slot ≡ u = one_slot (slot_at r oid) d.slot u d.is there in
        let now : So r.pins u xs = subst (λ (s : Slot). So r.pins s xs) alike d.so in
        let By : ℕ → Type 0 = λ n. Stands (happens_to r until n (Some u)).rig (xs ++ (happens_to r until n (Some u)).answers) in
        subst By same (set_here r (becomes r oid u a.trigger) u (record u { trigger = a.trigger }) (xs ++ trigger_answers oid a.event) there refl refl (tells_so r.pins u.trigger.untold u xs refl now))
    | inr other ↦
        let a = trig.advanced (levels_of r u.pin) until u.trigger in
        let ys = trigger_answers k a.event in
        record { slot = d.slot; is = get_or-set_other r.triggers k oid (Some (record u { trigger = a.trigger })) None other ∙ d.is; so = more_so r.pins d.slot xs ys d.so }
  ]

  rests_so : (r : Rig) (xs : List Cmd) → Stands r xs → Stands (rests_to r until).rig (xs ++ [])
  rests_so r xs d = record {
    slot = record d.slot { trigger = (trig.happened (slice_index_or r.pins d.slot.pin []) until Nothing d.slot.trigger).trigger };
    is = map_at (rested r.pins until) r.triggers oid refl ∙ ap (rested r.pins until) d.is;
    so = quiet_so r.pins d.slot xs d.so;
  }

  goes_so : (o : Option (ℕ × ℕ)) (xs : List Cmd) (x y : Passed) → Stands x.rig (xs ++ x.answers) → Stands y.rig (xs ++ y.answers) → Stands (goes_on o x y).rig (xs ++ (goes_on o x y).answers)
  goes_so None xs x y k l = k
  goes_so (Some at) xs x y k l = l

  pass_so : (n : ℕ) (r : Rig) (xs : List Cmd) → Stands r xs → Stands (pass n r until).rig (xs ++ (pass n r until).answers)
  pass_so zero r xs d = more_stands r xs [] d
  pass_so (suc n) r xs d =
      let next = earliest_moment r until 0 r.triggers in
      let ran = (runs_to r ((at_of next).0 / 3)).rig in
      let first = happens_at r until (at_of next) in
      let rest = pass n first.rig until in
      let on : Stands ran xs = record { slot = d.slot; is = d.is; so = d.so } in
      let one : Stands first.rig (xs ++ first.answers) = happens_so (at_of next).1 ran (slot_at ran (at_of next).1) xs refl on in
      let more : Stands rest.rig ((xs ++ first.answers) ++ rest.answers) = pass_so n first.rig (xs ++ first.answers) one in
      let At : List Cmd → Type 0 = λ cs. Stands rest.rig cs in
      goes_so next xs (rests_to r until) (passes_by first rest) (rests_so r xs d) (subst At (append_assoc xs first.answers rest.answers) more)

  passes_so : (r : Rig) (xs : List Cmd) → Stands r xs → Stands (passes r until).rig (xs ++ (passes r until).answers)
  passes_so r xs d = search (rules, nat_le, pass, all_left, pass_so, more_stands)

  -- commands: an order to trigger, and a timeout that is set, are of ticks that are in time
  module _ (clock now : ℕ) (soon : now < until) where
    abbrev Fits : (Type 0) → (Type 0) → Type 0
    Fits relays sets = (relays → low ≤ now) × (sets → ((now < nearest now clock) × (low ≤ nearest now clock)) ⊎ (low ≤ now))

    -- a timeout
    at_once : (r : Rig) (s : Slot) (t : Trigger) (o : Option ℕ) (xs : List Cmd) → slot_at r oid ≡ Some s → o ≡ None → So r.pins (record s { trigger = t }) xs → Stands (expires_at_once r oid s t o).rig (xs ++ (expires_at_once r oid s t o).answers)
    at_once r s t None xs there e k = more_stands (becomes r oid s t) xs [] (set_here r (becomes r oid s t) s (record s { trigger = t }) xs there refl refl k)
    at_once r s t (Some n) xs there e k = absurd (let bad : Some n ≡ None = e in cc)

    -- one that isn't ahead triggers it at once
    late_so : (r : Rig) (s : Slot) (xs : List Cmd) → slot_at r oid ≡ Some s → low ≤ now
        → let u : Trigger = record (trig.fired now s.trigger.expire s.trigger) { untold = Some now } in
        Stands (expires_at_once r oid s u u.untold).rig (xs ++ (expires_at_once r oid s u u.untold).answers)
    late_so r s xs there begun =
        let u : Trigger = record (trig.fired now s.trigger.expire s.trigger) { untold = Some now } in
        let t : Trigger = record u { untold = None } in
        let ys = (expires_at_once r oid s u u.untold).answers in
        set_here r (becomes r oid s t) s (record s { trigger = t }) (xs ++ ys) there refl refl
        (inr (record { fired = refl; told = refl; idle = refl; moves = tt; begun = begun; early = soon; tells = off_behind oid (now % 2 ^ 32) xs ys (inl (refl, refl, refl)) }))

    limited_so : (r : Rig) (s : Slot) (xs : List Cmd) → slot_at r oid ≡ Some s → r.controller.tick ≡ now → ((now < nearest now clock) × (low ≤ nearest now clock)) ⊎ (low ≤ now) → Keen low r.pins s
        → Stands (expires_at_once r oid s (trig.limited r.controller.tick (nearest r.controller.tick clock) s.trigger) (trig.limited r.controller.tick (nearest r.controller.tick clock) s.trigger).untold).rig
        (xs ++ (expires_at_once r oid s (trig.limited r.controller.tick (nearest r.controller.tick clock) s.trigger) (trig.limited r.controller.tick (nearest r.controller.tick clock) s.trigger).untold).answers)
    limited_so r s xs there at fit k =
        let At : ℕ → Type 0 = λ n. Stands (expires_at_once r oid s (trig.limited n (nearest n clock) s.trigger) (trig.limited n (nearest n clock) s.trigger).untold).rig
        (xs ++ (expires_at_once r oid s (trig.limited n (nearest n clock) s.trigger) (trig.limited n (nearest n clock) s.trigger).untold).answers) in
        let t : Trigger = record s.trigger { timeout = Some (nearest now clock) } in
        let If : Bool → Type 0 = λ b. let u : Trigger = if b then t else record (trig.fired now s.trigger.expire s.trigger) { untold = Some now } in Stands (expires_at_once r oid s u u.untold).rig (xs ++ (expires_at_once r oid s u u.untold).answers) in
        subst At (sym at) (elim (leb_tells (suc now) (nearest now clock)) [
          | inl p ↦
              let later = p.1 in
              let least : low ≤ nearest now clock = elim fit [ inl f ↦ f.1 | inr l ↦ omega (arith, l, later) ] in
              let so : So r.pins (record s { trigger = t }) xs = inl (record { can = k.can; told = k.told; moves = k.moves; timed = λ x e. (let same : nearest now clock ≡ x = (cc) in omega (arith, least, same)); sampled = k.sampled }) in
              subst If (sym p.0) (at_once r s t t.untold xs there k.told so)
          | inr p ↦
              let past = p.1 in
              let begun : low ≤ now = elim fit [ inl f ↦ absurd (let m = f.0 in omega (arith, past, m)) | inr l ↦ l ] in
              subst If (sym p.0) (late_so r s xs there begun)
        ])

    abbrev TimesOut : Rig → Slot → List Cmd → Bool → Type 0
    TimesOut r s xs b = let t : Trigger = if b then trig.limited r.controller.tick (nearest r.controller.tick clock) s.trigger else s.trigger in Stands (expires_at_once r oid s t t.untold).rig (xs ++ (expires_at_once r oid s t t.untold).answers)

    abbrev RelaysOut : Rig → Slot → List Cmd → Bool → Type 0
    RelaysOut r s xs b = let t : Trigger = if b then trig.fired r.controller.tick 3 s.trigger else s.trigger in Stands (becomes r oid s t) (xs ++ trigger_answers oid (trig.state_told r.controller.tick t).event)

    times_so : (r : Rig) (xs : List Cmd) → r.controller.tick ≡ now → ((now < nearest now clock) × (low ≤ nearest now clock)) ⊎ (low ≤ now) → Stands r xs → Stands (acts r (cmd.TrsyncSetTimeout oid clock)).rig (xs ++ (acts r (cmd.TrsyncSetTimeout oid clock)).answers)
    times_so r xs at fit d =
        let By : Option Slot → Type 0 = λ o. Stands (set_timeout r oid o clock).rig (xs ++ (set_timeout r oid o clock).answers) in
        subst By (sym d.is) (by d.so)
      where
        by : So r.pins d.slot xs → TimesOut r d.slot xs d.slot.trigger.can
        by (inl k) = subst (TimesOut r d.slot xs) (sym k.can) (limited_so r d.slot xs d.is at fit k)
        by (inr g) = subst (TimesOut r d.slot xs) (sym g.fired) (at_once r d.slot d.slot.trigger d.slot.trigger.untold xs d.is g.told (inr g))

    -- an order to trigger
    relays_so : (r : Rig) (xs : List Cmd) → r.controller.tick ≡ now → low ≤ now → Stands r xs → Stands (acts r (cmd.TrsyncTrigger oid 3)).rig (xs ++ (acts r (cmd.TrsyncTrigger oid 3)).answers)
    relays_so r xs at begun d =
        let By : Option Slot → Type 0 = λ o. Stands (trigger r oid o 3).rig (xs ++ (trigger r oid o 3).answers) in
        subst By (sym d.is) (by d.so)
      where
        by : So r.pins d.slot xs → RelaysOut r d.slot xs d.slot.trigger.can
        by (inl k) =
            let t = trig.fired r.controller.tick 3 d.slot.trigger in
            let ys = trigger_answers oid (trig.state_told r.controller.tick t).event in
            subst (RelaysOut r d.slot xs) (sym k.can) (set_here r (becomes r oid d.slot t) d.slot (record d.slot { trigger = t }) (xs ++ ys) d.is refl refl (inr (fires d.slot r.controller.tick 3 xs (omega (arith, begun, at)) (omega (arith, soon, at)) k.told)))
        by (inr g) =
            let ys = trigger_answers oid (trig.state_told r.controller.tick d.slot.trigger).event in
            subst (RelaysOut r d.slot xs) (sym g.fired) (set_here r (becomes r oid d.slot d.slot.trigger) d.slot d.slot (xs ++ ys) d.is refl refl (more_so r.pins d.slot xs ys (inr g)))

    acts_so : (r : Rig) (c : Cmd) (xs : List Cmd) → r.controller.tick ≡ now → IsSentBehind oid clock c → Fits (Relays c) (SetsTimeout c) → Stands r xs → Stands (acts r c).rig (xs ++ (acts r c).answers)
    acts_so r (cmd.TrsyncSetTimeout o n) xs at k f d =
        let By : ℕ → ℕ → Type 0 = λ i j. Stands (acts r (cmd.TrsyncSetTimeout i j)).rig (xs ++ (acts r (cmd.TrsyncSetTimeout i j)).answers) in
        subst (λ (i : ℕ). By i n) (sym k.0) (subst (λ (j : ℕ). By oid j) (sym k.1) (times_so r xs at (f.1 tt) d))
    acts_so r (cmd.TrsyncTrigger o reason) xs at k f d =
        let By : ℕ → ℕ → Type 0 = λ i j. Stands (acts r (cmd.TrsyncTrigger i j)).rig (xs ++ (acts r (cmd.TrsyncTrigger i j)).answers) in
        subst (λ (i : ℕ). By i reason) (sym k.0) (subst (λ (j : ℕ). By oid j) (sym k.1) (relays_so r xs at (f.0 tt) d))
    acts_so r (cmd.ConfigTrsync o) xs at k f d = absurd k
    acts_so r (cmd.TrsyncStart o n every reason) xs at k f d = absurd k
    acts_so r (cmd.StepperStopOnTrigger i o) xs at k f d = absurd k
    acts_so r (cmd.ConfigEndstop o pin pull) xs at k f d = absurd k
    acts_so r (cmd.EndstopHome o n sample count rest value t reason) xs at k f d = absurd k
    acts_so r c xs at k f d = record { slot = d.slot; is = d.is; so = more_so r.pins d.slot xs (acts r c).answers d.so }

    takes_so : (r : Rig) (c : Cmd) (xs : List Cmd) → r.controller.tick ≡ now → IsSentBehind oid clock c → Fits (Relays c) (SetsTimeout c) → Stands r xs → Stands (takes r c).rig (xs ++ (takes r c).answers)
    takes_so r c xs at k f d = by r.controller.state
      where
        by : (o : BoardState) → Stands (acts_running o r c).rig (xs ++ (acts_running o r c).answers)
        by Running = acts_so r c xs at k f d
        by (Shut reason tick first) = record { slot = d.slot; is = d.is; so = more_so r.pins d.slot xs (acts_running (Shut reason tick first) r c).answers d.so }

    all_so : (r : Rig) (cs xs : List Cmd) → r.controller.tick ≡ now → AreSentBehind oid clock cs → Fits (RelaysOne cs) (SetsOne cs) → Stands r xs → Stands (takes_all r cs).rig (xs ++ (takes_all r cs).answers)
    all_so r [] xs at k f d = more_stands r xs [] d
    all_so r (c ∷ cs) xs at k f d =
        let one = takes_so r c xs at k.0 ((λ z. f.0 (inl z)), λ z. f.1 (inl z)) d in
        let next = all_so (takes r c).rig cs (xs ++ (takes r c).answers) (takes_rig_tick r c ∙ at) k.1 ((λ z. f.0 (inr z)), λ z. f.1 (inr z)) one in
        let At : List Cmd → Type 0 = λ ys. Stands (takes_all (takes r c).rig cs).rig ys in
        subst At (append_assoc xs (takes r c).answers (takes_all (takes r c).rig cs).answers) next

    -- over a turn
    pub turn_so : (r : Rig) (cs : List Cmd) → r.controller.tick ≡ now → AreSentBehind oid clock cs → Fits (RelaysOne cs) (SetsOne cs) → (s : Slot) → slot_at r oid ≡ Some s → Keen low r.pins s
        → Stands (passes (takes_all r cs).rig until).rig ((takes_all r cs).answers ++ (passes (takes_all r cs).rig until).answers)
    turn_so r cs at k f s there keen = passes_so (takes_all r cs).rig (takes_all r cs).answers (all_so r cs [] at k f (record { slot = s; is = there; so = inl keen }))
