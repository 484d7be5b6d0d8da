-- A trigger that is to read what is complete at a tick can't trigger from behind this tick on.
use Rattle.std.proofs.Common.{◌≡◌, ℕ, suc, ◌+◌, ◌≤◌, Bool, true, false, List, [], ◌∷◌, ◌++◌, length, Option, Some, None, refl, ap, sym, ◌∙◌, subst, arith, append_assoc, ◌⊎◌, inl, inr, rules}
use Rattle.std.specs.Prelude.{slice_index_or}
use Rattle.laws_board.proofs.Names.{append_cancel_left, get_or-set_same, BoardClock, Level, nearest, board_tick, Trigger, Happening, Nothing, Expires, Switches, Reports, Cmd, Meant, commands_of, Rig, Slot, passes, slot_at, takes_all, AllSound, one_slot, slot_range, LinkState, no_both}
use Rattle.board_trig.specs.declared.sampling.Homing.{Homing as Reading}
use Rattle.board_trig.specs.Kept.{MovesOn}
use Rattle.board_trig.specs.Trigger as trig
use Rattle.board_trig.proofs.Nexts.{same_tick}
use Rattle.board_sim.specs.Rig.{home}
use Rattle.board_sim.proofs.Halting.{quiet_moves}
use Rattle.laws_board.specs.turns.Turns.{AreBoardTurns, BoardTurn, stands_after}
use Rattle.laws_homing.specs.clear_groups.Resting.{EachTame, IsTame}
use Rattle.laws_homing.specs.missed_groups.Minds.{Hits}
use Rattle.laws_homing.specs.switch_runs.Reading.{IsComplete}
use Rattle.laws_homing.specs.switch_runs.Taken.{AreBlind, IsBlind}
use Rattle.laws_homing.proofs.home_runs.Staying.{taken_later}
use Rattle.laws_homing.proofs.fired_runs.Blind.{blind_parts}
use Rattle.laws_board.proofs.clocks.Answers.{Each}
use Rattle.laws_homing.proofs.clear_boards.Slots.{Follows, Lasts, Next, OfEach, levels_at, passes_each, takes_each, with_trigger}
use Rattle.laws_homing.proofs.fired_runs.Old.{Old, OldAt, happened_old, tame_parts}
use Rattle.laws_homing.proofs.missed_groups.Minding.{read_hits}
use Rattle.laws_homing.proofs.missed_runs.Boarded.{turned}

module _ (x j : ℕ) where
  -- it can trigger, and what it is to read is complete at the tick
  abbrev Still : List (List Level) → Slot → Type 0
  Still pins s = (s.trigger.can ≡ true) × MovesOn s.trigger.sampling × Hits (slice_index_or pins s.pin []) s.trigger.sampling x

  pub record Waits (r : Rig) : Type 0 where
    pub slot : Slot
    pub is : slot_at r j ≡ Some slot
    pub still : Still r.pins slot

  -- so the trigger with this object id, or it can't trigger since that tick or an earlier one
  abbrev pub Ends : Rig → Type 0
  Ends r = OldAt j (suc x) r ⊎ Waits r

  -- the same of each trigger, of which only this one counts; T is the tick at which it is asked of
  abbrev Each_one : Type 0 → (List (List Level) → ℕ → Slot → Type 0)
  Each_one T pins oid s = oid ≡ j → Old (suc x) s.trigger ⊎ (Still pins s × T)

  each_ends : (T : Type 0) (r : Rig) → (Waits r → T) → Ends r → OfEach (Each_one T) r
  each_ends T r due (inl old) oid s at own = inl (old oid s own at)
  each_ends T r due (inr w) oid s at own =
      let here : slot_at r j ≡ Some s = subst (λ (i : ℕ). slot_at r i ≡ Some s) own at in
      inr (subst (λ (u : Slot). Still r.pins u) (one_slot (slot_at r j) w.slot s w.is here) w.still, due w)

  ends_each : (T : Type 0) (r : Rig) → OfEach (Each_one T) r → Ends r
  ends_each T r all = by (slot_at r j) refl
    where
      by : (o : Option Slot) → slot_at r j ≡ o → Ends r
      by None none = inl (λ oid s own at. absurd (let bad : None ≡ Some s = sym none ∙ ap (slot_at r) (sym own) ∙ at in cc))
      by (Some s) there = elim (all j s there refl) [
        | inl old ↦ inl (λ oid u own at. subst (λ (z : Slot). Old (suc x) z.trigger) (one_slot (slot_at r j) s u there (ap (slot_at r) (sym own) ∙ at)) old)
        | inr still ↦ inr (record { slot = s; is = there; still = still.0 })
      ]

  -- as time passes
  happened_one : (T : Type 0) (pins : List (List Level)) (until : ℕ) (e : Happening) (s : Slot) → Next (levels_at pins s) until s.trigger e → Old (suc x) s.trigger ⊎ (Still pins s × T)
      → let u = with_trigger s (trig.happened (levels_at pins s) until e s.trigger).trigger in Old (suc x) u.trigger ⊎ (Still pins u × T)
  happened_one T pins until e s next (inl old) = inl (happened_old (suc x) (levels_at pins s) until e s.trigger next old)
  happened_one T pins until Nothing s next (inr k) =
      let levels = levels_at pins s in
      let none = (next.whole k.0.1).1 in
      inr ((k.0.0, quiet_moves s.trigger.sampling levels until k.0.1, (read_hits levels until s.trigger.sampling (λ y is z at. none z (y, k.0.0, is, at)) x).1 k.0.2), k.1)
  happened_one T pins until (Expires at) s next (inr k) =
      let low = (next.whole k.0.1).2 x (k.0.2.0, k.0.0, k.0.2.1, k.0.2.2) in
      inl (record { off = refl; idle = refl; before = omega (arith, low) })
  happened_one T pins until (Switches at) s next (inr k) =
      let same = same_tick (levels_at pins s) s.trigger.can s.trigger.sampling at x next.comes.0 (k.0.2.0, k.0.0, k.0.2.1, k.0.2.2) in
      inl (record { off = refl; idle = refl; before = omega (arith, same) })
  happened_one T pins until (Reports at) s next (inr k) = inr ((k.0.0, k.0.1, k.0.2), k.1)

  says_one : (T : Type 0) (pins : List (List Level)) (s : Slot) → Old (suc x) s.trigger ⊎ (Still pins s × T) → let u = with_trigger s (record s.trigger { untold = None }) in Old (suc x) u.trigger ⊎ (Still pins u × T)
  says_one T pins s (inl old) = inl (record { off = old.off; idle = old.idle; before = old.before })
  says_one T pins s (inr k) = inr ((k.0.0, k.0.1, k.0.2), k.1)

  lasts_one : (T : Type 0) (until : ℕ) → Lasts (Each_one T) until
  lasts_one T until = record { comes = λ pins oid s e next k own. happened_one T pins until e s next (k own); says = λ pins oid s n e k own. says_one T pins s (k own) }

  pub time_ends : (until : ℕ) (r : Rig) → Ends r → Ends (passes r until).rig
  time_ends until r k = ends_each (Unit {0}) (passes r until).rig (passes_each (Each_one (Unit {0})) until (lasts_one (Unit {0}) until) r (each_ends (Unit {0}) r (λ w. tt) k))

  -- a command at a tick that begins no readings, and starts no trigger
  abbrev Fits : ℕ → (ℕ → Cmd → Type 0)
  Fits tick now c = IsTame c × IsBlind c × (now ≡ tick)

  ended_one : (T : Type 0) (now tick : ℕ) (pins : List (List Level)) (s : Slot) (u : Trigger) → u.can ≡ false → u.timeout ≡ None → u.tick ≡ now → now ≡ tick → s.trigger.can ≡ true
      → Old (suc x) s.trigger ⊎ (Still pins s × (tick ≤ x)) → Old (suc x) u ⊎ T
  ended_one T now tick pins s u off idle at same can (inl old) = absurd (no_both s.trigger.can can old.off)
  ended_one T now tick pins s u off idle at same can (inr k) = let low = k.1 in inl (record { off = off; idle = idle; before = omega (arith, low, at, same) })

  limited_one : (pins : List (List Level)) (s : Slot) (at tick : ℕ) → s.trigger.can ≡ true → Old (suc x) s.trigger ⊎ (Still pins s × (tick ≤ x))
      → let u = with_trigger s (record s.trigger { timeout = Some at }) in Old (suc x) u.trigger ⊎ (Still pins u × (tick ≤ x))
  limited_one pins s at tick can (inl old) = absurd (no_both s.trigger.can can old.off)
  limited_one pins s at tick can (inr k) = inr ((k.0.0, k.0.1, k.0.2), k.1)

  bound_one : (pins : List (List Level)) (s : Slot) (i tick : ℕ) → Old (suc x) s.trigger ⊎ (Still pins s × (tick ≤ x)) → Old (suc x) s.trigger ⊎ (Still pins (record s { bound = i ∷ s.bound }) × (tick ≤ x))
  bound_one pins s i tick (inl old) = inl old
  bound_one pins s i tick (inr k) = inr ((k.0.0, k.0.1, k.0.2), k.1)

  follows_one : (tick : ℕ) → Follows (Each_one (tick ≤ x)) (Fits tick)
  follows_one tick = search (rules, limited_one, nearest, ended_one, says_one, bound_one)

  fits_each : (tick : ℕ) (ms : List Meant) → EachTame (commands_of ms) → AreBlind ms → Each (Fits tick tick) (commands_of ms)
  fits_each tick [] tame blind = tt
  fits_each tick (m ∷ ms) tame blind = ((tame.0, blind.0, refl), fits_each tick ms tame.1 blind.1)

  pub takes_ends : (r : Rig) (ms : List Meant) → EachTame (commands_of ms) → AreBlind ms → AllSound r → Ends r → Ends (takes_all r (commands_of ms)).rig
  takes_ends r ms tame blind sound k =
      let tick = r.controller.tick in
      let all = each_ends (tick ≤ x) r (λ w. (sound j w.slot w.is).switch w.still.2.0 x w.still.2.1 w.still.2.2) k in
      ends_each (tick ≤ x) (takes_all r (commands_of ms)).rig (takes_each (Each_one (tick ≤ x)) (Fits tick) (follows_one tick) r (commands_of ms) (fits_each tick ms tame blind) all)

  -- the command that begins its readings
  pub home_ends : (r : Rig) (pin : ℕ) (o : Option Slot) (g : Reading) → slot_at r j ≡ o → ((s : Slot) → slot_at r j ≡ Some s → s.trigger.tick ≤ r.controller.tick) → AllSound r → AllSound (home r (Some pin) j o g)
      → IsComplete (slice_index_or r.pins pin []) g r.controller.tick x → Ends (home r (Some pin) j o g)
  home_ends r pin None g at under sound after k = inl (λ oid s own is. absurd (let bad : None ≡ Some s = sym at ∙ ap (slot_at r) (sym own) ∙ is in cc))
  home_ends r pin (Some s) g at under sound after k = by s.trigger.can refl
    where
      new : Slot
      new = record s { trigger = trig.sampling r.controller.tick g s.trigger; pin = pin }

      there : slot_at (home r (Some pin) j (Some s) g) j ≡ Some new
      there = get_or-set_same r.triggers j (Some new) None (slot_range r.triggers j s at)

      by : (b : Bool) → s.trigger.can ≡ b → Ends (home r (Some pin) j (Some s) g)
      by true can = inr (record { slot = new; is = there; still = (can, (after j new there).moves, (k.sampling, k.begun, k.complete)) })
      by false off =
          let low = under s at in
          let late = (after j new there).switch k.sampling x k.begun k.complete in
          inl (λ oid z own is.
          subst (λ (u : Slot). Old (suc x) u.trigger) (one_slot (slot_at (home r (Some pin) j (Some s) g) j) new z there (subst (λ (i : ℕ). slot_at (home r (Some pin) j (Some s) g) i ≡ Some z) own is))
          (record { off = off; idle = (sound j s at).idle off; before = omega (arith, low, late) }))

  -- over turns in which the board takes such commands
  pub turns_ends : (clock : BoardClock) (first : LinkState) (later past : List BoardTurn) (ms : List Meant) → ((z : List BoardTurn) → AreBoardTurns clock first z → AllSound (stands_after first z).core.board) → AreBoardTurns clock first (later ++ past)
      → (stands_after first (later ++ past)).core.taken ≡ (stands_after first past).core.taken ++ ms → EachTame (commands_of ms) → AreBlind ms → Ends (stands_after first past).core.board → Ends (stands_after first (later ++ past)).core.board
  turns_ends clock first [] past ms sound are e tame blind k = k
  turns_ends clock first (t ∷ later) past ms sound are e tame blind k =
      let before = later ++ past in
      let u = turned clock first t before are in
      let h = (stands_after first past).core in
      let rest = taken_later clock first later past are.1 in
      let same : rest.0 ++ u.took ≡ ms =
      append_cancel_left h.taken (rest.0 ++ u.took) ms (sym (append_assoc h.taken rest.0 u.took) ∙ ap (λ (z : List Meant). z ++ u.took) (sym rest.1) ∙ sym u.taken ∙ e) in
      let tames = tame_parts rest.0 u.took (subst (λ (z : List Meant). EachTame (commands_of z)) (sym same) tame) in
      let blinds = blind_parts rest.0 u.took (subst AreBlind (sym same) blind) in
      let was = turns_ends clock first later past rest.0 sound are.1 rest.1 tames.0 blinds.0 k in
      subst (λ (r : Rig). Ends r) (sym u.board) (time_ends (board_tick clock (length before + 1)) _ (takes_ends (stands_after first before).core.board u.took tames.1 blinds.1 (sound before are.1) was))
