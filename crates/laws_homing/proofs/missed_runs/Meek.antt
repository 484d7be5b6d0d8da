-- Why a board's trigger can't trigger in a homing section: its timeout passed, its readings triggered it, or the host told it to.
use Rattle.std.proofs.Common.{◌≡◌, ℕ, ◌+◌, ◌<◌, ◌≤◌, Bool, true, false, List, [], ◌∷◌, ◌++◌, length, Some, None, refl, ap, sym, ◌∙◌, subst, arith, append_assoc, append-nil, length-append, ◌⊎◌, inl, inr}
use Rattle.std.specs.Prelude.{◌==◌}
use Rattle.laws_board.proofs.Names.{append_cancel_left, BoardClock, Level, board_tick, Sampling, Trigger, Happening, Nothing, Expires, Switches, Reports, Cmd, Meant, commands_of, Rig, Slot, passes, slot_at, takes, takes_all, queued_in, orders, LinkState, no_both}
use Rattle.board_trig.specs.Trigger as trig
use Rattle.msg_code.specs.declared.cmd.Cmd.TheVariants as cmd
use Rattle.board_sim.proofs.RigTicks.{takes_rig_tick}
use Rattle.laws_board.specs.turns.Turns.{AreBoardTurns, BoardTurn, stands_after}
use Rattle.laws_board.proofs.sections.Lists.{cuts}
use Rattle.laws_board.proofs.clocks.Answers.{Each}
use Rattle.laws_homing.proofs.clear_boards.Held.{switch_reason}
use Rattle.laws_homing.proofs.clear_boards.Slots.{Follows, Next, levels_at, passes_each, takes_each}
use Rattle.laws_homing.proofs.home_runs.Staging.{commands_both}
use Rattle.laws_homing.proofs.home_runs.Staying.{taken_later}
use Rattle.laws_homing.specs.clear_groups.Resting.{EachTame, IsTame}
use Rattle.laws_homing.specs.switch_runs.Taken.{AreBlind, IsBlind}
use Rattle.laws_homing.proofs.switch_runs.Firing.{begun_reason, read_true}
use Rattle.laws_homing.proofs.fired_runs.Blind.{blind_parts}
use Rattle.laws_homing.proofs.fired_runs.Old.{OldAt, passes_old, takes_old, tame_parts}
use Rattle.laws_homing.proofs.fired_runs.Rested.{queue_later}
use Rattle.laws_homing.proofs.missed_runs.Boarded.{turned}
use Rattle.board_sim.proofs.Heeding.{all_append}

-- It triggered before a tick; or as its timeout passed (2); or by its readings (1), where Z is so; or from another tick on. While it can trigger, its timeout
-- does so for the reason 2, and its readings for the reason 1, where there are any and Z is so.
pub record Meek (Z : Type 0) (n late : ℕ) (t : Trigger) : Type 0 where
  pub fired : t.can ≡ false → (t.tick < n) ⊎ ((t.reason ≡ 2) ⊎ ((Z × (t.reason ≡ 1)) ⊎ (late ≤ t.tick)))
  pub expire : t.can ≡ true → t.expire ≡ 2
  pub reads : (y : Sampling) → t.sampling ≡ Some y → Z × (y.reason ≡ 1)
  pub idle : t.can ≡ false → t.timeout ≡ None

-- a command starts triggers so, begins such readings, and tells a trigger to trigger where R is so
abbrev pub IsOf : Type 0 → Type 0 → Cmd → Type 0
IsOf Z R (cmd.TrsyncStart oid clock every reason) = reason ≡ 2
IsOf Z R (cmd.TrsyncTrigger oid reason) = R
IsOf Z R (cmd.EndstopHome oid clock sample count rest value other reason) = Z × (reason ≡ 1)
IsOf Z R c = Unit {0}

abbrev pub IsMeek : Type 0 → Cmd → Type 0
IsMeek Z c = IsOf Z ⊥ c

abbrev pub IsMild : Type 0 → Cmd → Type 0
IsMild Z c = IsOf Z (Unit {0}) c

abbrev pub AllSo : (Cmd → Type 0) → List Meant → Type 0
AllSo P [] = Unit {0}
AllSo P (m ∷ ms) = P m.command × AllSo P ms

pub so_parts : (P : Cmd → Type 0) (xs ys : List Meant) → AllSo P (xs ++ ys) → AllSo P xs × AllSo P ys
so_parts P [] ys k = (tt, k)
so_parts P (x ∷ xs) ys k = let p = so_parts P xs ys k.1 in ((k.0, p.0), p.1)

pub so_both : (P : Cmd → Type 0) (xs ys : List Meant) → AllSo P xs → AllSo P ys → AllSo P (xs ++ ys)
so_both P [] ys a k = k
so_both P (x ∷ xs) ys a k = (a.0, so_both P xs ys a.1 k)

-- so what is queued in each of some turns, and in each from a number on and before another one
abbrev pub AreSo : (Cmd → Type 0) → List BoardTurn → Type 0
AreSo P [] = Unit {0}
AreSo P (t ∷ before) = AllSo P (queued_in (orders t.control t.batch)) × AreSo P before

abbrev pub SoIn : (Cmd → Type 0) → ℕ → ℕ → List BoardTurn → Type 0
SoIn P from to [] = Unit {0}
SoIn P from to (t ∷ before) = (from ≤ length before → length before < to → AllSo P (queued_in (orders t.control t.batch))) × SoIn P from to before

pub are_part : (P : Cmd → Type 0) (later past : List BoardTurn) → AreSo P (later ++ past) → AreSo P past
are_part P [] past k = k
are_part P (t ∷ later) past k = are_part P later past k.1

pub in_part : (P : Cmd → Type 0) (from to : ℕ) (later past : List BoardTurn) → SoIn P from to (later ++ past) → SoIn P from to past
in_part P from to [] past k = k
in_part P from to (t ∷ later) past k = in_part P from to later past k.1

pub in_are : (P : Cmd → Type 0) (from to : ℕ) (later past : List BoardTurn) → from ≤ length past → length (later ++ past) ≤ to → SoIn P from to (later ++ past) → AreSo P later
in_are P from to [] past low high k = tt
in_are P from to (t ∷ later) past low high k =
    let size = length-append later past in
    (k.0 (omega (arith, low, size)) (omega (arith, high)), in_are P from to later past low (omega (arith, high)) k.1)

pub so_queue : (P : Cmd → Type 0) (later past : List BoardTurn) → AreSo P later → AllSo P (queue_later later past).0
unfolding queue_later
so_queue P [] past k = tt
so_queue P (t ∷ later) past k = so_both P (queue_later later past).0 (queued_in (orders t.control t.batch)) (so_queue P later past k.1) k.0

module _ (Z : Type 0) (n late j : ℕ) (some : 0 < n) where
  abbrev M : Trigger → Type 0
  M t = Meek Z n late t

  -- so the trigger with this object id
  abbrev pub MeekAt : Rig → Type 0
  MeekAt r = (oid : ℕ) (s : Slot) → oid ≡ j → slot_at r oid ≡ Some s → M s.trigger

  -- the same of each trigger, of which only this one counts
  abbrev Own : (Trigger → Type 0) → (List (List Level) → ℕ → Slot → Type 0)
  Own P pins oid s = oid ≡ j → P s.trigger

  -- as time passes
  comes_meek : (levels : List Level) (until : ℕ) (t : Trigger) (e : Happening) → Next levels until t e → M t → M (trig.happened levels until e t).trigger
  comes_meek levels until t Nothing next k = record {
    fired = k.fired;
    expire = k.expire;
    reads = λ y is. (let x = read_true t.sampling levels until y is in let own = k.reads x.0 x.1 in (own.0, x.2 ∙ own.1));
    idle = k.idle;
  }
  comes_meek levels until t (Expires at) next k =
      record { fired = λ off. inr (inl (by t.can refl next.comes.0)); expire = λ can. absurd (cc); reads = λ y is. absurd (cc); idle = λ off. refl }
    where
      by : (b : Bool) → t.can ≡ b → t.timeout ≡ Some at → t.expire ≡ 2
      by true can is = k.expire can
      by false off is = absurd (let bad : None ≡ Some at = sym (k.idle off) ∙ is in cc)
  comes_meek levels until t (Switches at) next k =
      let is = next.comes.0 in
      let why : trig.reason_of t.sampling ≡ is.0.reason = switch_reason t.sampling is.0 is.2 in
      let own = k.reads is.0 is.2 in
      record { fired = λ off. inr (inr (inl (own.0, why ∙ own.1))); expire = λ can. absurd (cc); reads = λ y is_so. absurd (cc); idle = λ off. refl }
  comes_meek levels until t (Reports at) next k = record { fired = k.fired; expire = k.expire; reads = k.reads; idle = k.idle }

  told_meek : (t : Trigger) → M t → M (record t { untold = None })
  told_meek t k = record { fired = k.fired; expire = k.expire; reads = k.reads; idle = k.idle }

  passes_meek : (r : Rig) (t : ℕ) → MeekAt r → MeekAt (passes r t).rig
  passes_meek r t all =
      let behind = passes_each (Own M) t (record {
        comes = λ pins oid s e next k own. comes_meek (levels_at pins s) t s.trigger e next (k own);
        says = λ pins oid s n e k own. told_meek s.trigger (k own);
      }) r (λ oid s at own. all oid s own at) in
      λ oid s own at. behind oid s at own

  -- a command; one that tells a trigger to trigger comes late
  abbrev Fits : ℕ → Cmd → Type 0
  Fits now c = IsOf Z (late ≤ now) c

  new_meek : M trig.new_trigger
  new_meek = record { fired = λ off. inl some; expire = λ can. absurd (cc); reads = λ y is. absurd (cc); idle = λ off. refl }

  follows_meek : Follows (Own M) Fits
  follows_meek = record {
    made = λ pins now oid fit own. new_meek;
    starts = λ pins now oid s clock every reason fit k own. (record { fired = λ off. absurd (cc); expire = λ can. fit; reads = (k own).reads; idle = λ off. absurd (cc) });
    limits = λ pins now oid s clock fit can ahead k own. (let x = k own in record { fired = x.fired; expire = x.expire; reads = x.reads; idle = λ off. absurd (no_both s.trigger.can can off) });
    expires = λ pins now oid s clock fit can past k own. (record { fired = λ off. inr (inl ((k own).expire can)); expire = λ on. absurd (cc); reads = λ y is. absurd (cc); idle = λ off. refl });
    says = λ pins oid s n e k own. told_meek s.trigger (k own);
    fires = λ pins now oid s reason fit can k own. (record { fired = λ off. inr (inr (inr fit)); expire = λ on. absurd (cc); reads = λ y is. absurd (cc); idle = λ off. refl });
    binds = λ pins now oid s i fit k own. k own;
    homes = λ pins now oid s i pin g fit k own. (
        let x = k own in
        record { fired = x.fired; expire = x.expire; reads = λ y is. (fit.0, sym (begun_reason (g.sample_count == 0) now g y is) ∙ fit.1); idle = x.idle }
        );
  }

  fit_of : (R : Type 0) (c : Cmd) → IsMild Z c → R ⊎ IsMeek Z c → IsOf Z R c
  fit_of R (cmd.TrsyncStart oid clock every reason) k to = k
  fit_of R (cmd.TrsyncTrigger oid reason) k to = elim to [ inl l ↦ l | inr none ↦ absurd none ]
  fit_of R (cmd.EndstopHome oid clock sample count rest value other reason) k to = k
  fit_of R c k to = tt

  fits_each : (now : ℕ) (ms : List Meant) → AllSo (IsMild Z) ms → (late ≤ now) ⊎ AllSo (IsMeek Z) ms → Each (Fits now) (commands_of ms)
  fits_each now [] k to = tt
  fits_each now (m ∷ ms) k (inl l) = (fit_of (late ≤ now) m.command k.0 (inl l), fits_each now ms k.1 (inl l))
  fits_each now (m ∷ ms) k (inr x) = (fit_of (late ≤ now) m.command k.0 (inr x.0), fits_each now ms k.1 (inr x.1))

  -- commands that come late or tell none to trigger
  pub takes_meek : (r : Rig) (ms : List Meant) → AllSo (IsMild Z) ms → (late ≤ r.controller.tick) ⊎ AllSo (IsMeek Z) ms → MeekAt r → MeekAt (takes_all r (commands_of ms)).rig
  takes_meek r ms k to all =
      let behind = takes_each (Own M) Fits follows_meek r (commands_of ms) (fits_each r.controller.tick ms k to) (λ oid s at own. all oid s own at) in
      λ oid s own at. behind oid s at own

  -- and those that start none and begin no readings, while it can't trigger
  abbrev Idles : Trigger → Type 0
  Idles t = (t.can ≡ false) × M t

  abbrev Rests : ℕ → Cmd → Type 0
  Rests now c = IsTame c × IsBlind c

  follows_idle : Follows (Own Idles) Rests
  follows_idle = record {
    made = λ pins now oid fit own. (refl, new_meek);
    starts = λ pins now oid s clock every reason fit k. absurd fit.0;
    limits = λ pins now oid s clock fit can ahead k own. absurd (no_both s.trigger.can can (k own).0);
    expires = λ pins now oid s clock fit can past k own. absurd (no_both s.trigger.can can (k own).0);
    says = λ pins oid s n e k own. ((k own).0, told_meek s.trigger (k own).1);
    fires = λ pins now oid s reason fit can k own. absurd (no_both s.trigger.can can (k own).0);
    binds = λ pins now oid s i fit k own. k own;
    homes = λ pins now oid s i pin g fit k. absurd fit.1;
  }

  rests_all : (now : ℕ) (ms : List Meant) → EachTame (commands_of ms) → AreBlind ms → Each (Rests now) (commands_of ms)
  rests_all now [] tame blind = tt
  rests_all now (m ∷ ms) tame blind = ((tame.0, blind.0), rests_all now ms tame.1 blind.1)

  idles_meek : (r : Rig) (ms : List Meant) → EachTame (commands_of ms) → AreBlind ms → OldAt j n r → MeekAt r → MeekAt (takes_all r (commands_of ms)).rig
  idles_meek r ms tame blind old all =
      let behind = takes_each (Own Idles) Rests follows_idle r (commands_of ms) (rests_all r.controller.tick ms tame blind) (λ oid s at own. ((old oid s own at).off, all oid s own at)) in
      λ oid s own at. (behind oid s at own).1

  -- of some commands that are still to come the first ones do so, and the rest are mild; or all are
  pub record Waiting (P : Cmd → Type 0) (ms : List Meant) (r : Rig) : Type 0 where
    pub front : List Meant
    pub begin : Meant
    pub more : List Meant
    pub are : ms ≡ front ++ begin ∷ more
    pub tame : EachTame (commands_of front)
    pub blind : AreBlind front
    pub so : AllSo P (begin ∷ more)
    pub old : OldAt j n r
    pub meek : MeekAt r

  abbrev pub Stage : (Cmd → Type 0) → List Meant → Rig → Type 0
  Stage P ms r = Waiting P ms r ⊎ (AllSo P ms × MeekAt r)

  pub staged_meek : (P : Cmd → Type 0) (ms : List Meant) (r : Rig) → Stage P ms r → MeekAt r
  staged_meek P ms r (inl w) = w.meek
  staged_meek P ms r (inr k) = k.1

  -- commands of this kind are mild, and from a tick on or without an order to trigger
  abbrev Fine : (Cmd → Type 0) → ℕ → Type 0
  Fine P now = (ms : List Meant) → AllSo P ms → AllSo (IsMild Z) ms × ((late ≤ now) ⊎ AllSo (IsMeek Z) ms)

  takes_stage : (P : Cmd → Type 0) (r : Rig) (ms more : List Meant) → Fine P r.controller.tick → Stage P (ms ++ more) r → Stage P more (takes_all r (commands_of ms)).rig
  takes_stage P r ms more fine (inr k) =
      let parts = so_parts P ms more k.0 in
      let own = fine ms parts.0 in
      inr (parts.1, takes_meek r ms own.0 own.1 k.1)
  takes_stage P r ms more fine (inl w) = elim (cuts ms more w.front (w.begin ∷ w.more) w.are) [
    | inl p ↦
        let tame = tame_parts ms p.0 (subst (λ (z : List Meant). EachTame (commands_of z)) p.1 w.tame) in
        let blind = blind_parts ms p.0 (subst AreBlind p.1 w.blind) in
        inl (record {
          front = p.0;
          begin = w.begin;
          more = w.more;
          are = p.2;
          tame = tame.1;
          blind = blind.1;
          so = w.so;
          old = takes_old j n r (commands_of ms) some tame.0 w.old;
          meek = idles_meek r ms tame.0 blind.0 w.old w.meek;
        })
    | inr p ↦
        let tail = p.0 ∷ p.1 in
        let mid = (takes_all r (commands_of w.front)).rig in
        let parts = so_parts P tail more (subst (λ (z : List Meant). AllSo P z) p.3 w.so) in
        let own = fine tail parts.0 in
        let was = idles_meek r w.front w.tame w.blind w.old w.meek in
        let tick = ticks r w.front in
        let now : (late ≤ mid.controller.tick) ⊎ AllSo (IsMeek Z) tail = elim own.1 [ inl l ↦ inl (omega (arith, l, tick)) | inr x ↦ inr x ] in
        let rig : (takes_all r (commands_of ms)).rig ≡ (takes_all mid (commands_of tail)).rig =
        ap (λ (cs : List Cmd). (takes_all r cs).rig) (ap commands_of p.2 ∙ commands_both w.front tail) ∙ all_append r (commands_of w.front) (commands_of tail) in
        inr (parts.1, subst MeekAt (sym rig) (takes_meek mid tail own.0 now was))
  ]
    where
      ticks : (q : Rig) (xs : List Meant) → (takes_all q (commands_of xs)).rig.controller.tick ≡ q.controller.tick
      ticks q [] = refl
      ticks q (x ∷ xs) = ticks (takes q x.command).rig xs ∙ takes_rig_tick q x.command

  time_stage : (P : Cmd → Type 0) (r : Rig) (t : ℕ) (ms : List Meant) → Stage P ms r → Stage P ms (passes r t).rig
  time_stage P r t ms (inr k) = inr (k.0, passes_meek r t k.1)
  time_stage P r t ms (inl w) =
      inl (record { front = w.front; begin = w.begin; more = w.more; are = w.are; tame = w.tame; blind = w.blind; so = w.so; old = passes_old j n r t w.old; meek = passes_meek r t w.meek })

  -- over turns in which the board takes such commands
  pub turns_staged : (P : Cmd → Type 0) (clock : BoardClock) (first : LinkState) (later past : List BoardTurn) (ms more : List Meant)
      → ((z : List BoardTurn) → AreBoardTurns clock first z → (stands_after first z).core.board.controller.tick ≡ board_tick clock (length z)) → AreBoardTurns clock first (later ++ past)
      → ((l : List BoardTurn) (t : BoardTurn) (e : List BoardTurn) → later ≡ l ++ t ∷ e → Fine P (board_tick clock (length (e ++ past)))) → (stands_after first (later ++ past)).core.taken ≡ (stands_after first past).core.taken ++ ms
      → Stage P (ms ++ more) (stands_after first past).core.board → Stage P more (stands_after first (later ++ past)).core.board
  turns_staged P clock first [] past ms more ticks are fine e k =
      let h = (stands_after first past).core in
      let none : [] ≡ ms = append_cancel_left h.taken [] ms (append-nil h.taken ∙ e) in
      subst (λ (x : List Meant). Stage P (x ++ more) h.board) (sym none) k
  turns_staged P clock first (t ∷ later) past ms more ticks are fine e k =
      let before = later ++ past in
      let u = turned clock first t before are in
      let h = (stands_after first past).core in
      let rest = taken_later clock first later past are.1 in
      let same : rest.0 ++ u.took ≡ ms =
      append_cancel_left h.taken (rest.0 ++ u.took) ms (sym (append_assoc h.taken rest.0 u.took) ∙ ap (λ (z : List Meant). z ++ u.took) (sym rest.1) ∙ sym u.taken ∙ e) in
      let here : Stage P (rest.0 ++ (u.took ++ more)) h.board =
      subst (λ (x : List Meant). Stage P x h.board) (ap (λ (x : List Meant). x ++ more) (sym same) ∙ append_assoc rest.0 u.took more) k in
      let was = turns_staged P clock first later past rest.0 (u.took ++ more) ticks are.1 (λ l x y cut. fine (t ∷ l) x y (ap (λ (z : List BoardTurn). t ∷ z) cut)) rest.1 here in
      let r = (stands_after first before).core.board in
      let now : Fine P r.controller.tick = subst (λ (i : ℕ). Fine P i) (sym (ticks before are.1)) (fine [] t later refl) in
      subst (λ (q : Rig). Stage P more q) (sym u.board) (time_stage P (takes_all r (commands_of u.took)).rig (board_tick clock (length before + 1)) more (takes_stage P r u.took more now was))
