-- What a trigger reads over commands of which one at most begins readings.
use Rattle.std.proofs.Common.{◌≡◌, ℕ, ◌+◌, ◌^◌, ◌<◌, Bool, true, false, List, [], ◌∷◌, ◌++◌, length, Option, Some, None, refl, ap, sym, ◌∙◌, subst, arith, append_assoc, append-nil, ◌⊎◌, inl, inr}
use Rattle.std.specs.Prelude.{slice_index_or}
use Rattle.laws_board.proofs.Names.{append_cancel_left, BoardClock, Level, BoardState, Running, Shut, Sampling, Happening, Nothing, Expires, Switches, Reports, Cmd, Meant, commands_of, Rig, Slot, acts_running, passes, slot_at, takes, takes_all, Event, Core, Step, Do, Turn, does, in_turn, run_world, takes_in, board_tick, Down, Up, orders, LinkState, Orders, after_board, after_host, come, run_append}
use Rattle.board_trig.specs.declared.sampling.Homing.{Homing as Reading}
use Rattle.board_trig.specs.Sampling.{IsTriggerTick}
use Rattle.board_trig.specs.Trigger as trig
use Rattle.msg_code.specs.declared.cmd.Cmd.TheVariants as cmd
use Rattle.board_sim.specs.Rig.{home}
use Rattle.board_world.specs.declared.event.Event.TheVariants as event
use Rattle.board_world.specs.World as world
use Rattle.wire_scene.specs.declared.wire.Fate.{Fate}
use Rattle.wire_scene.specs.declared.wire.Fate.TheVariants.{Lost, Last, Stays, Garbled}
use Rattle.board_sim.proofs.RigTicks.{takes_rig_tick}
use Rattle.link_work.specs.Turn.{after_replies, comes, host_steps}
use Rattle.link_work.proofs.Steps.{AllHold, AllOf, Holds, all_append, all_come, come_holds, host_holds, tick_held}
use Rattle.laws_board.specs.turns.Turns.{AreBoardTurns, BoardTurn, stands_after}
use Rattle.laws_homing.proofs.clear_boards.Held.{switch_reason}
use Rattle.laws_homing.proofs.clear_boards.Slots.{Follows, Lasts, Next, OfEach, levels_at, passes_beside, passes_each, running_beside, running_each, set_each, with_trigger}
use Rattle.laws_homing.proofs.home_runs.Staying.{taken_later}
use Rattle.laws_homing.specs.switch_runs.Reading.{AreFit, IsComplete, IsFitReading}
use Rattle.laws_homing.specs.switch_runs.Taken.{AreBlind, IsBlind}
use Rattle.laws_homing.proofs.switch_runs.Firing.{AllTrue, begun_true, read_true, takes_true, time_true}
use Rattle.laws_homing.proofs.switch_runs.Made.{AnyTick}
use Rattle.laws_homing.proofs.switch_runs.Telling.{fit_each, fit_parts}
use Rattle.laws_board.proofs.sections.Naming.{taken_more}

pub blind_parts : (xs ys : List Meant) → AreBlind (xs ++ ys) → AreBlind xs × AreBlind ys
blind_parts [] ys k = (tt, k)
blind_parts (x ∷ xs) ys k = let p = blind_parts xs ys k.1 in ((k.0, p.0), p.1)

-- one of some commands at most begins readings
abbrev pub ReadOnce : List Meant → Type 0
ReadOnce [] = Unit {0}
ReadOnce (m ∷ ms) = AreBlind ms ⊎ (IsBlind m.command × ReadOnce ms)

-- no tick
abbrev pub NoTick : ℕ → Type 0
NoTick tick = ⊥

-- A trigger expires for no reading's reason (1). Where readings triggered it, this was before a tick, or at one in G, and it reads no more; what it reads, where
-- Z is so, is complete at ticks in G alone.
pub record Own (Z : Type 0) (G : ℕ → Type 0) (n : ℕ) (pins : List (List Level)) (s : Slot) : Type 0 where
  pub other : s.trigger.expire ≡ 1 → ⊥
  pub fired : s.trigger.can ≡ false → s.trigger.reason ≡ 1 → (s.trigger.tick < n) ⊎ ((s.trigger.sampling ≡ None) × G s.trigger.tick)
  pub sampled : (y : Sampling) → s.trigger.sampling ≡ Some y → Z × (y.reason ≡ 1 → (x : ℕ) → IsTriggerTick (slice_index_or pins s.pin []) y x → G x)

-- so the trigger with this object id, on a board whose pins have these levels
abbrev pub OwnAt : Type 0 → (ℕ → Type 0) → ℕ → List (List Level) → ℕ → Rig → Type 0
OwnAt Z G n pins j r = (r.pins ≡ pins) × ((oid : ℕ) (s : Slot) → oid ≡ j → slot_at r oid ≡ Some s → Own Z G n pins s)

-- what happens to a trigger
happened_own : (Z : Type 0) (G : ℕ → Type 0) (n : ℕ) (pins : List (List Level)) (until : ℕ) (e : Happening) (s : Slot) → Next (levels_at pins s) until s.trigger e → Own Z G n pins s
    → Own Z G n pins (with_trigger s (trig.happened (levels_at pins s) until e s.trigger).trigger)
happened_own Z G n pins until Nothing s next k = record {
  other = k.other;
  fired = λ off one. elim (k.fired off one) [ inl early ↦ inl early | inr own ↦ inr (ap (trig.read_to (levels_at pins s) until) own.0, own.1) ];
  sampled = λ y is. (
      let x = read_true s.trigger.sampling (levels_at pins s) until y is in
      let old = k.sampled x.0 x.1 in
      (old.0, λ one t at. old.1 (sym x.2 ∙ one) t (x.3 t at)));
}
happened_own Z G n pins until (Expires at) s next k = record { other = k.other; fired = λ off one. absurd (k.other one); sampled = λ y is. absurd (cc) }
happened_own Z G n pins until (Switches at) s next k =
    let is = next.comes.0 in
    let from = k.sampled is.0 is.2 in
    let why : trig.reason_of s.trigger.sampling ≡ is.0.reason = switch_reason s.trigger.sampling is.0 is.2 in
    record { other = k.other; fired = λ off one. inr (refl, from.1 (sym why ∙ one) at is.3); sampled = λ y none. absurd (cc) }
happened_own Z G n pins until (Reports at) s next k = record { other = k.other; fired = k.fired; sampled = k.sampled }

-- all triggers of a board
module _ (Z : Type 0) (G : ℕ → Type 0) (n : ℕ) (pins : List (List Level)) (j : ℕ) where
  abbrev Mine : List (List Level) → ℕ → Slot → Type 0
  Mine ps oid s = oid ≡ j → Own Z G n ps s

  mine_each : (r : Rig) → OwnAt Z G n pins j r → OfEach Mine r
  mine_each r all oid s at own = subst (λ (p : List (List Level)). Own Z G n p s) (sym all.0) (all.1 oid s own at)

  each_mine : (r q : Rig) → q.pins ≡ r.pins → OwnAt Z G n pins j r → OfEach Mine q → OwnAt Z G n pins j q
  each_mine r q levels old all = (levels ∙ old.0, λ oid s own at. subst (λ (p : List (List Level)). Own Z G n p s) (levels ∙ old.0) (all oid s at own))

  lasts_own : (until : ℕ) → Lasts Mine until
  lasts_own until = record { comes = λ ps oid s e next k own. happened_own Z G n ps until e s next (k own); says = λ ps oid s m e k own. record { other = (k own).other; fired = (k own).fired; sampled = (k own).sampled } }

  passes_own : (r : Rig) (t : ℕ) → OwnAt Z G n pins j r → OwnAt Z G n pins j (passes r t).rig
  passes_own r t all = each_mine r (passes r t).rig (passes_beside t r).0 all (passes_each Mine t (lasts_own t) r (mine_each r all))

  -- a command that begins no readings
  follows_own : (E F : ℕ → (ℕ → Type 0)) → Follows Mine (λ now c. IsFitReading E F pins c × IsBlind c)
  follows_own E F = record {
    made = λ ps now oid fit own. record { other = λ one. absurd (omega (arith, one)); fired = λ off one. absurd (omega (arith, one)); sampled = λ y is. absurd (cc) };
    starts = λ ps now oid s clock every reason fit k own. record { other = fit.0.1; fired = λ off. absurd (let bad : true ≡ false = off in cc); sampled = (k own).sampled };
    limits = λ ps now oid s clock fit can ahead k own. record { other = (k own).other; fired = (k own).fired; sampled = (k own).sampled };
    expires = λ ps now oid s clock fit can past k own. record { other = (k own).other; fired = λ off one. absurd ((k own).other one); sampled = λ y is. absurd (cc) };
    says = λ ps oid s m e k own. record { other = (k own).other; fired = (k own).fired; sampled = (k own).sampled };
    fires = λ ps now oid s reason fit can k own. record { other = (k own).other; fired = λ off one. absurd (fit.0.1 one); sampled = λ y is. absurd (cc) };
    binds = λ ps now oid s i fit k own. record { other = (k own).other; fired = (k own).fired; sampled = (k own).sampled };
    homes = λ ps now oid s i pin g fit k. absurd fit.1;
  }

  running_own : (o : BoardState) (E F : ℕ → (ℕ → Type 0)) (r : Rig) (c : Cmd) → IsFitReading E F pins c → IsBlind c → OwnAt Z G n pins j r → OwnAt Z G n pins j (acts_running o r c).rig
  running_own o E F r c fit blind all =
      each_mine r (acts_running o r c).rig (running_beside o r c).0 all (running_each Mine (λ now a. IsFitReading E F pins a × IsBlind a) (follows_own E F) o r c (fit, blind) (mine_each r all))

-- what is fit for some ticks is fit for more, and for any where it begins no readings
one_more : (E F G : ℕ → (ℕ → Type 0)) (pins : List (List Level)) → ((now tick : ℕ) → F now tick → G now tick) → (c : Cmd) → IsFitReading E F pins c → IsFitReading E G pins c
one_more E F G pins more (cmd.EndstopHome oid clock sample count rest value other reason) fit = (fit.0, λ one pin now tick at done. more now tick (fit.1 one pin now tick at done))
one_more E F G pins more c fit = fit

pub fits_more : (E F G : ℕ → (ℕ → Type 0)) (pins : List (List Level)) → ((now tick : ℕ) → F now tick → G now tick) → (ms : List Meant) → AreFit E F pins ms → AreFit E G pins ms
fits_more E F G pins more [] fit = tt
fits_more E F G pins more (m ∷ ms) fit = (one_more E F G pins more m.command fit.0, fits_more E F G pins more ms fit.1)

one_blind : (E F G : ℕ → (ℕ → Type 0)) (pins : List (List Level)) (c : Cmd) → IsBlind c → IsFitReading E F pins c → IsFitReading E G pins c
one_blind E F G pins (cmd.EndstopHome oid clock sample count rest value other reason) blind fit = absurd blind
one_blind E F G pins c blind fit = fit

pub blind_fits : (E F G : ℕ → (ℕ → Type 0)) (pins : List (List Level)) (ms : List Meant) → AreBlind ms → AreFit E F pins ms → AreFit E G pins ms
blind_fits E F G pins [] blind fit = tt
blind_fits E F G pins (m ∷ ms) blind fit = (one_blind E F G pins m.command blind.0 fit.0, blind_fits E F G pins ms blind.1 fit.1)

-- steps that take no command
abbrev TakesNone : Step → Type 0
TakesNone (Do event.Arrive) = ⊥
TakesNone (Do event.Repeat) = ⊥
TakesNone step = Unit {0}

up_takes_none : (fate : Fate) → AllOf TakesNone (comes Up fate)
up_takes_none Last = (tt, (tt, tt))
up_takes_none Stays = (tt, (tt, (tt, tt)))
up_takes_none c = (tt, tt)

-- A board that reads nothing, and one that reads what is complete at ticks in G alone, where a command that it takes at a tick has it read what is complete at
-- ticks in F.
module _ (Z : Type 0) (E F : ℕ → (ℕ → Type 0)) (G : ℕ → Type 0) (n : ℕ) (pins : List (List Level)) (j : ℕ) where
  abbrev pub Dark : Rig → Type 0
  Dark r = OwnAt ⊥ NoTick n pins j r

  abbrev pub Lit : Rig → Type 0
  Lit r = OwnAt Z G n pins j r

  -- what is taken at a tick
  abbrev pub To : ℕ → Type 0
  To now = (x : ℕ) → F now x → G x

  lit_one : (s : Slot) → Own ⊥ NoTick n pins s → Own Z G n pins s
  lit_one s k = record {
    other = k.other;
    fired = λ off one. elim (k.fired off one) [ inl early ↦ inl early | inr none ↦ absurd none.1 ];
    sampled = λ y is. absurd (k.sampled y is).0;
  }

  lit_all : (r : Rig) → Dark r → Lit r
  lit_all r k = (k.0, λ oid s own at. lit_one s (k.1 oid s own at))

  -- the command that begins the readings
  home_lit : Z → (r : Rig) (oid other : ℕ) (p : Option ℕ) (o : Option Slot) (g : Reading) → slice_index_or r.endstops oid None ≡ p → slot_at r other ≡ o → g.reason < 2 ^ 8 → To r.controller.tick
      → (g.reason ≡ 1 → (pin now tick : ℕ) → E oid pin → IsComplete (slice_index_or pins pin []) g now tick → F now tick) → AllTrue E AnyTick AnyTick pins r → Dark r → Lit (home r p other o g)
  home_lit z r oid other None o g at e l to done all k = lit_all r k
  home_lit z r oid other (Some pin) None g at e l to done all k = lit_all r k
  home_lit z r oid other (Some pin) (Some s) g at e l to done all k =
      let now = r.controller.tick in
      let new = begun_true E AnyTick G AnyTick pins oid pin now g s (all.ends oid pin at) l (λ one other_pin tick there is. to tick (done one other_pin now tick there is)) (all.slots other s e) in
      let lit = lit_all r k in
      let u : Slot = record s { trigger = trig.sampling now g s.trigger; pin = pin } in
      let own_one : Mine Z G n pins j r.pins other u = λ own. (
      let dark = k.1 other s own e in
      subst (λ (p : List (List Level)). Own Z G n p u) (sym k.0) (record {
        other = dark.other;
        fired = λ off one. elim (dark.fired off one) [ inl early ↦ inl early | inr none ↦ absurd none.1 ];
        sampled = λ y is. (z, (new.sampled y is).1);
      })) in
      let q = home r (Some pin) other (Some s) g in
      each_mine Z G n pins j r q refl lit (set_each (Mine Z G n pins j) r q other u refl refl (mine_each Z G n pins j r lit) own_one)

  acts_dim : (o : BoardState) (r : Rig) (c : Cmd) → IsBlind c → IsFitReading E F pins c → Dark r → Lit (acts_running o r c).rig
  acts_dim o r c blind fit k = lit_all (acts_running o r c).rig (running_own ⊥ NoTick n pins j o E F r c fit blind k)

  acts_lit : Z → (o : BoardState) (r : Rig) (c : Cmd) → To r.controller.tick → IsFitReading E F pins c → AllTrue E AnyTick AnyTick pins r → Dark r → Lit (acts_running o r c).rig
  acts_lit z Running r (cmd.EndstopHome oid clock sample count rest value other reason) to fit all k =
      home_lit z r oid other (slice_index_or r.endstops oid None) (slot_at r other) (record { clock = clock; sample_ticks = sample; sample_count = count; rest_ticks = rest; pin_value = value; reason = reason }) refl refl fit.0 to fit.1 all k
  acts_lit z (Shut why at first) r (cmd.EndstopHome oid clock sample count rest value other reason) to fit all k =
      lit_all (acts_running (Shut why at first) r (cmd.EndstopHome oid clock sample count rest value other reason)).rig k
  acts_lit z o r c to fit all k = acts_dim o r c tt fit k

  -- while some commands are still to be taken: none of them begins readings; or one at most does, where Z is so, and there are none yet
  abbrev pub Stage : List Meant → Rig → Type 0
  Stage ms r = (AreBlind ms × Lit r) ⊎ (Z × (ReadOnce ms × Dark r))

  one_stage : (r : Rig) (m : Meant) (ms : List Meant) → IsBlind m.command ⊎ To r.controller.tick → IsFitReading E F pins m.command → AllTrue E AnyTick AnyTick pins r → Stage (m ∷ ms) r → Stage ms (takes r m.command).rig
  one_stage r m ms to fit all (inl k) = inl (k.0.1, running_own Z G n pins j r.controller.state E F r m.command fit k.0.0 k.1)
  one_stage r m ms to fit all (inr (z, (inl blind, k))) =
      inl (blind, elim to [ inl none ↦ acts_dim r.controller.state r m.command none fit k | inr at ↦ acts_lit z r.controller.state r m.command at fit all k ])
  one_stage r m ms to fit all (inr (z, (inr once, k))) = inr (z, (once.1, running_own ⊥ NoTick n pins j r.controller.state E F r m.command fit once.0 k))

  takes_stage : (r : Rig) (ms more : List Meant) → AreBlind ms ⊎ To r.controller.tick → AreFit E F pins ms → AllTrue E AnyTick AnyTick pins r → Stage (ms ++ more) r → Stage more (takes_all r (commands_of ms)).rig
  takes_stage r [] more to fit all k = k
  takes_stage r (m ∷ ms) more to fit all k =
      let first : IsBlind m.command ⊎ To r.controller.tick = elim to [ inl blind ↦ inl blind.0 | inr at ↦ inr at ] in
      let rest : AreBlind ms ⊎ To (takes r m.command).rig.controller.tick = elim to [ inl blind ↦ inl blind.1 | inr at ↦ inr (subst To (sym (takes_rig_tick r m.command)) at) ] in
      takes_stage (takes r m.command).rig ms more rest fit.1
      (takes_true E AnyTick AnyTick (λ now. AnyTick) pins r (m.command ∷ []) (λ x any. tt) (one_more E F (λ now. AnyTick) pins (λ now tick any. tt) m.command fit.0, tt) all).0 (one_stage r m (ms ++ more) first fit.0 all k)

  time_stage : (r : Rig) (t : ℕ) (ms : List Meant) → Stage ms r → Stage ms (passes r t).rig
  time_stage r t ms (inl k) = inl (k.0, passes_own Z G n pins j r t k.1)
  time_stage r t ms (inr k) = inr (k.0, (k.1.0, passes_own ⊥ NoTick n pins j r t k.1.1))

  -- over an event
  abbrev pub Stands : List Meant → Rig → Type 0
  Stands more r = AllTrue E AnyTick AnyTick pins r × Stage more r

  took_stage : (r : Rig) (ms more : List Meant) → AreBlind ms ⊎ To r.controller.tick → AreFit E F pins ms → Stands (ms ++ more) r → Stands more (takes_all r (commands_of ms)).rig
  took_stage r ms more to fit k = (
    (takes_true E AnyTick AnyTick (λ now. AnyTick) pins r (commands_of ms) (λ x any. tt) (fit_each E (λ now. AnyTick) pins ms (fits_more E F (λ now. AnyTick) pins (λ now tick any. tt) ms fit)) k.0).0,
    takes_stage r ms more to fit k.0 k.1,
  )

  stage_by : (h : Core) (e : Event) (more : List Meant) → AreBlind (takes_in h e) ⊎ To h.board.controller.tick → AreFit E F pins (takes_in h e) → Stands (takes_in h e ++ more) h.board → Stands more (does h e).board
  stage_by h (event.Pass t) more to fit k = ((time_true E AnyTick AnyTick pins h.board t (λ x early any. tt) k.0).0, time_stage h.board t more k.1)
  stage_by h event.Arrive more to fit k = took_stage h.board (takes_in h event.Arrive) more to fit k
  stage_by h event.Repeat more to fit k = took_stage h.board (takes_in h event.Repeat) more to fit k
  stage_by h c more to fit k = k

  -- over steps: what is taken in each begins no readings, or may be taken at the board's tick
  abbrev Times : Core → List Step → Type 0
  Times h [] = Unit {0}
  Times h (Do v ∷ steps) = (AreBlind (takes_in h v) ⊎ To h.board.controller.tick) × Times (world.after_event h v) steps
  Times h (Turn turn ∷ steps) = Times (in_turn h turn) steps

  steps_stage : (steps : List Step) (h : Core) (ms more : List Meant) → (run_world steps h).taken ≡ h.taken ++ ms → AreBlind ms ⊎ Times h steps → AreFit E F pins ms → Stands (ms ++ more) h.board → Stands more (run_world steps h).board
  steps_stage [] h ms more e times fit k =
      let none : [] ≡ ms = append_cancel_left h.taken [] ms (append-nil h.taken ∙ e) in
      subst (λ (x : List Meant). Stands (x ++ more) h.board) (sym none) k
  steps_stage (Do v ∷ steps) h ms more e times fit k =
      let rest = taken_more steps (world.after_event h v) in
      let same : takes_in h v ++ rest.0 ≡ ms = append_cancel_left h.taken (takes_in h v ++ rest.0) ms (sym (append_assoc h.taken (takes_in h v) rest.0) ∙ sym rest.1 ∙ e) in
      let both = fit_parts E F pins (takes_in h v) rest.0 (subst (λ (x : List Meant). AreFit E F pins x) (sym same) fit) in
      let here : Stands (takes_in h v ++ (rest.0 ++ more)) h.board =
      subst (λ (x : List Meant). Stands x h.board) (ap (λ (x : List Meant). x ++ more) (sym same) ∙ append_assoc (takes_in h v) rest.0 more) k in
      let blind = λ (all : AreBlind ms). blind_parts (takes_in h v) rest.0 (subst AreBlind (sym same) all) in
      let now : AreBlind (takes_in h v) ⊎ To h.board.controller.tick = elim times [ inl all ↦ inl (blind all).0 | inr t ↦ t.0 ] in
      let then_so : AreBlind rest.0 ⊎ Times (world.after_event h v) steps = elim times [ inl all ↦ inl (blind all).1 | inr t ↦ inr t.1 ] in
      steps_stage steps (world.after_event h v) rest.0 more rest.1 then_so both.1 (stage_by h v (rest.0 ++ more) now both.0 here)
  steps_stage (Turn turn ∷ steps) h ms more e times fit k = steps_stage steps (in_turn h turn) ms more e times fit k

  -- in a turn all is taken as it begins
  held_times : (steps rest : List Step) (h : Core) → AllHold steps → To h.board.controller.tick → Times (run_world steps h) rest → Times h (steps ++ rest)
  held_times [] rest h k to t = t
  held_times (Do v ∷ steps) rest h k to t = (inr to, held_times steps rest (world.after_event h v) k.1 (subst To (sym (tick_held (Do v ∷ []) h (k.0, tt))) to) t)
  held_times (Turn turn ∷ steps) rest h k to t = held_times steps rest (in_turn h turn) k.1 to t

  none_times : (steps : List Step) (h : Core) → AllOf TakesNone steps → Times h steps
  none_times [] h k = tt
  none_times (Do event.Arrive ∷ steps) h k = absurd k.0
  none_times (Do event.Repeat ∷ steps) h k = absurd k.0
  none_times (Do v ∷ steps) h k = (inl tt, none_times steps (world.after_event h v) k.1)
  none_times (Turn turn ∷ steps) h k = none_times steps (in_turn h turn) k.1

  turn_times : (clock : BoardClock) (turn : ℕ) (o : Orders) (resent : Bool) (l : LinkState)
      → (steps : List Step) × ((after_replies turn (after_board clock turn (after_host turn o resent l))).core ≡ run_world steps l.core) × (To l.core.board.controller.tick → Times l.core steps)
  turn_times clock turn o resent l =
      let l1 = after_host turn o resent l in
      let l2 = after_board clock turn l1 in
      let host = host_steps turn o resent in
      let down = come Down turn l1.down.copies in
      let rest = Do (event.Pass (board_tick clock (turn + 1))) ∷ come Up turn l2.up.copies in
      let held = all_append Holds host down (host_holds turn o resent) (come_holds Down turn l1.down.copies) in
      let parts = run_append host down l.core in (
        (host ++ down) ++ rest,
        ap (λ (h : Core). run_world (come Up turn l2.up.copies) h) (run_append down (Do (event.Pass (board_tick clock (turn + 1))) ∷ []) l1.core)
            ∙ ap (λ (h : Core). run_world rest h) (sym parts) ∙ sym (run_append (host ++ down) rest l.core),
        λ to. held_times (host ++ down) rest l.core held to (none_times rest (run_world (host ++ down) l.core) (tt, all_come TakesNone Up up_takes_none turn l2.up.copies)),
      )

  -- what a board takes in each of some turns behind others, of these commands, begins no readings, or may be taken at the tick at which the turn begins
  abbrev pub Upon : BoardClock → LinkState → List BoardTurn → List BoardTurn → List Meant → Type 0
  Upon clock first later past ms =
      (l : List BoardTurn) (t : BoardTurn) (e : List BoardTurn) (front took back : List Meant) → later ≡ l ++ t ∷ e → ms ≡ front ++ (took ++ back)
      → (stands_after first (e ++ past)).core.taken ≡ (stands_after first past).core.taken ++ front → t.after.core.taken ≡ (stands_after first (e ++ past)).core.taken ++ took
      → AreBlind took ⊎ To (board_tick clock (length (e ++ past)))

  -- and over turns in which the board takes these commands
  pub turns_stage : (clock : BoardClock) (first : LinkState) (later past : List BoardTurn) (ms more : List Meant)
      → ((turns : List BoardTurn) → AreBoardTurns clock first turns → (stands_after first turns).core.board.controller.tick ≡ board_tick clock (length turns)) → AreBoardTurns clock first (later ++ past)
      → (stands_after first (later ++ past)).core.taken ≡ (stands_after first past).core.taken ++ ms → Upon clock first later past ms → AreFit E F pins ms → Stands (ms ++ more) (stands_after first past).core.board
      → Stands more (stands_after first (later ++ past)).core.board
  turns_stage clock first [] past ms more ticks are e upon fit k =
      let h = (stands_after first past).core in
      let none : [] ≡ ms = append_cancel_left h.taken [] ms (append-nil h.taken ∙ e) in
      subst (λ (x : List Meant). Stands (x ++ more) h.board) (sym none) k
  turns_stage clock first (t ∷ later) past ms more ticks are e upon fit k =
      let before = later ++ past in
      let l = stands_after first before in
      let turn = are.0.0 in
      let steps = turn_times clock (length before) (orders t.control t.batch) turn.resent l in
      let core_is : t.after.core ≡ run_world steps.0 l.core = ap (λ (x : LinkState). x.core) turn.becomes ∙ steps.1 in
      let took = taken_more steps.0 l.core in
      let rest = taken_later clock first later past are.1 in
      let h = (stands_after first past).core in
      let now : t.after.core.taken ≡ l.core.taken ++ took.0 = ap (λ (g : Core). g.taken) core_is ∙ took.1 in
      let whole : h.taken ++ (rest.0 ++ took.0) ≡ h.taken ++ ms = sym (append_assoc h.taken rest.0 took.0) ∙ ap (λ (x : List Meant). x ++ took.0) (sym rest.1) ∙ sym now ∙ e in
      let same : rest.0 ++ took.0 ≡ ms = append_cancel_left h.taken (rest.0 ++ took.0) ms whole in
      let both = fit_parts E F pins rest.0 took.0 (subst (λ (x : List Meant). AreFit E F pins x) (sym same) fit) in
      let here : Stands (rest.0 ++ (took.0 ++ more)) h.board =
      subst (λ (x : List Meant). Stands x h.board) (ap (λ (x : List Meant). x ++ more) (sym same) ∙ append_assoc rest.0 took.0 more) k in
      let earlier : Upon clock first later past rest.0 = λ x u y front taken back cut parts a b.
      upon (t ∷ x) u y front taken (back ++ took.0) (ap (λ (z : List BoardTurn). t ∷ z) cut)
      (sym same ∙ ap (λ (z : List Meant). z ++ took.0) parts ∙ append_assoc front (taken ++ back) took.0 ∙ ap (λ (z : List Meant). front ++ z) (append_assoc taken back took.0)) a b in
      let at : AreBlind took.0 ⊎ Times l.core steps.0 = elim (upon [] t later rest.0 took.0 [] refl (sym same ∙ ap (λ (z : List Meant). rest.0 ++ z) (sym (append-nil took.0))) rest.1 now) [
        | inl blind ↦ inl blind
        | inr to ↦ inr (steps.2 (subst To (sym (ticks before are.1)) to))
      ] in
      let was = turns_stage clock first later past rest.0 (took.0 ++ more) ticks are.1 rest.1 earlier both.0 here in
      subst (λ (g : Core). Stands more g.board) (sym core_is) (steps_stage steps.0 l.core took.0 more took.1 at both.1 was)
