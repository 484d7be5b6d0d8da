-- What a board tells of its triggers: where it tells that readings triggered one, it tells of a tick at which these are complete.
use Rattle.std.proofs.Common.{◌≡◌, ◌≢◌, ℕ, zero, suc, ◌%◌, ◌^◌, ◌<◌, ◌≤◌, ◌==◌, Bool, true, false, List, [], ◌∷◌, length, get_or, set, Option, Some, None, refl, sym, ap, ◌∙◌, subst, arith, ◌⊎◌, inl, inr}
use Rattle.std.specs.Prelude.{if◌then◌else◌, slice_index_or}
use Rattle.laws_board.proofs.Names.{get_or-set_same, Level, BoardDef, BoardState, Running, Shut, nearest, Sampling, Trigger, Happening, Nothing, Expires, Switches, Reports, Cmd, Rig, Slot, acts_running, passes, slot_at, takes, takes_all, says}
use Rattle.std.proofs.lemmas.List.{get_or-set_other}
use Rattle.board_trig.specs.declared.sampling.Homing.{Homing}
use Rattle.board_trig.specs.Sampling.{IsTriggerTick, completes, sampled_to}
use Rattle.board_trig.specs.Trigger as trig
use Rattle.board_trig.proofs.TriggerTicks.{read_on}
use Rattle.msg_code.specs.declared.cmd.Cmd.TheVariants as cmd
use Rattle.board_sim.specs.Board.{takes as board_takes}
use Rattle.board_sim.specs.Rig.{home, make_endstop, new_rig, no_objects, tell}
use Rattle.board_sim.proofs.Bound.{same_or_not}
use Rattle.board_sim.proofs.RigTicks.{takes_rig_tick}
use Rattle.laws_board.proofs.clocks.Answers.{Each, each_both}
use Rattle.laws_homing.proofs.clear_boards.Held.{ended_reason, sampled_reason, switch_reason}
use Rattle.laws_homing.proofs.clear_boards.Slots.{Beside, Follows, Lasts, MakesNone, Next, OfEach, Tells, clock_small, levels_at, running_both, says_both, set_beside, set_each, with_trigger}
use Rattle.laws_homing.specs.switch_runs.Taken.{IsBlind}
use Rattle.laws_homing.specs.switch_runs.Reading.{IsComplete, IsFitReading, TellsOf}
use Rattle.laws_homing.proofs.home_runs.Saying.{IsOther, bit_none, bit_small, board_tells}
use Rattle.plan_types.proofs.Facts.{less_or_from}

-- an answer's numbers fit, and where it tells that readings triggered a trigger it tells of such a tick
abbrev pub Says : (ℕ → Type 0) → Cmd → Type 0
Says F (cmd.TrsyncState oid can reason clock) = (oid < 2 ^ 8) × (can < 2 ^ 8) × (reason < 2 ^ 8) × (clock < 2 ^ 32) × (can ≡ 0 → reason ≡ 1 → TellsOf F clock)
Says F c = Unit {0}

-- A trigger's numbers fit; no timeout triggers it by the reason of readings (1), and none is left where it can't trigger; where readings
-- triggered it, this was at a tick in F, and its readings on are complete at ticks in G alone.
pub record IsTrue (F G : ℕ → Type 0) (pins : List (List Level)) (s : Slot) : Type 0 where
  pub reason : s.trigger.reason < 2 ^ 8
  pub expire : s.trigger.expire < 2 ^ 8
  pub other : s.trigger.expire ≡ 1 → ⊥
  pub fired : s.trigger.can ≡ false → s.trigger.reason ≡ 1 → F s.trigger.tick
  pub sampled : (y : Sampling) → s.trigger.sampling ≡ Some y → (y.reason < 2 ^ 8) × (y.reason ≡ 1 → (x : ℕ) → IsTriggerTick (slice_index_or pins s.pin []) y x → G x)
  pub ended : s.trigger.can ≡ false → s.trigger.timeout ≡ None

-- so are all triggers of a board, whose pins have these levels and whose endstops have these pins
pub record AllTrue (E : ℕ → (ℕ → Type 0)) (F G : ℕ → Type 0) (pins : List (List Level)) (r : Rig) : Type 0 where
  pub pins_are : r.pins ≡ pins
  pub few : length r.triggers ≤ 256
  pub slots : (oid : ℕ) (s : Slot) → slot_at r oid ≡ Some s → IsTrue F G pins s
  pub ends : (oid pin : ℕ) → slice_index_or r.endstops oid None ≡ Some pin → E oid pin

-- answers that tell of no trigger
other_says : (F : ℕ → Type 0) (c : Cmd) → IsOther c → Says F c
other_says F (cmd.TrsyncState oid can reason clock) o = absurd o
other_says F c o = tt

others_say : (F : ℕ → Type 0) (cs : List Cmd) → Each IsOther cs → Each (Says F) cs
others_say F [] k = tt
others_say F (c ∷ cs) k = (other_says F c k.0, others_say F cs k.1)

-- what is told of a trigger
tell_says : (F : ℕ → Type 0) (oid now : ℕ) (t : Trigger) → oid < 2 ^ 8 → t.reason < 2 ^ 8 → (t.can ≡ false → t.reason ≡ 1 → F t.tick) → Says F (tell oid (trig.state_at now t))
tell_says F oid now t id small k = (
  id,
  bit_small t.can,
  small,
  clock_small (if t.can then now else t.tick),
  λ none one. (let stopped = bit_none t.can none in record { tick = t.tick; clock_is = ap (λ (b : Bool). (if b then now else t.tick) % 2 ^ 32) stopped; complete = k stopped one }),
)

-- readings on are complete at the ticks of those before
ended_true : (o : Option ℕ) (levels : List Level) (until : ℕ) (s y : Sampling) (x : ℕ) → trig.ended o (sampled_to levels until s) ≡ Some y → IsTriggerTick levels y x → IsTriggerTick levels s x
ended_true None levels until s y x e at =
    let same : y ≡ sampled_to levels until s = cc in
    read_on until levels until s x (subst (λ (z : Sampling). IsTriggerTick levels z x) same at)
ended_true (Some tick) levels until s y x e at = absurd (cc)

pub read_true : (o : Option Sampling) (levels : List Level) (until : ℕ) (y : Sampling) → trig.read_to levels until o ≡ Some y
    → (s : Sampling) × (o ≡ Some s) × (y.reason ≡ s.reason) × ((x : ℕ) → IsTriggerTick levels y x → IsTriggerTick levels s x)
read_true None levels until y e = absurd (cc)
read_true (Some s) levels until y e =
    (s, refl, ended_reason (completes levels until s) (sampled_to levels until s) y e ∙ sampled_reason until levels until s, λ x at. ended_true (completes levels until s) levels until s y x e at)

-- what happens to a trigger
abbrev True_one : (ℕ → Type 0) → (ℕ → Type 0) → (List (List Level) → ℕ → Slot → Type 0)
True_one F G pins oid s = IsTrue F G pins s

happened_true : (F G : ℕ → Type 0) (pins : List (List Level)) (until : ℕ) (e : Happening) (s : Slot) → ((x : ℕ) → x < until → G x → F x) → Next (levels_at pins s) until s.trigger e → IsTrue F G pins s
    → IsTrue F G pins (with_trigger s (trig.happened (levels_at pins s) until e s.trigger).trigger)
happened_true F G pins until Nothing s soon next k = record {
  reason = k.reason;
  expire = k.expire;
  other = k.other;
  fired = k.fired;
  sampled = λ y is. (
      let x = read_true s.trigger.sampling (levels_at pins s) until y is in
      let old = k.sampled x.0 x.1 in
      let small = old.0 in
      let same = x.2 in
      (omega (arith, small, same), λ one t at. old.1 (sym same ∙ one) t (x.3 t at)));
  ended = k.ended;
}
happened_true F G pins until (Expires at) s soon next k =
    record { reason = k.expire; expire = k.expire; other = k.other; fired = λ e one. absurd (k.other one); sampled = λ y is. absurd (cc); ended = λ e. refl }
happened_true F G pins until (Switches at) s soon next k =
    let is = next.comes.0 in
    let from = k.sampled is.0 is.2 in
    let why : trig.reason_of s.trigger.sampling ≡ is.0.reason = switch_reason s.trigger.sampling is.0 is.2 in
    let low = from.0 in
    record {
      reason = omega (arith, low, why);
      expire = k.expire;
      other = k.other;
      fired = λ e one. soon at next.comes.1 (from.1 (sym why ∙ one) at is.3);
      sampled = λ y none. absurd (cc);
      ended = λ e. refl;
    }
happened_true F G pins until (Reports at) s soon next k = record { reason = k.reason; expire = k.expire; other = k.other; fired = k.fired; sampled = k.sampled; ended = k.ended }

lasts_true : (F G : ℕ → Type 0) (until : ℕ) → ((x : ℕ) → x < until → G x → F x) → Lasts (True_one F G) until
lasts_true F G until soon = record {
  comes = λ pins oid s e next k. happened_true F G pins until e s soon next k;
  says = λ pins oid s n e k. record { reason = k.reason; expire = k.expire; other = k.other; fired = k.fired; sampled = k.sampled; ended = k.ended };
}

-- what a command makes of it, but for those that begin readings
follows_true : (E : ℕ → (ℕ → Type 0)) (F G : ℕ → Type 0) (H : ℕ → (ℕ → Type 0)) (pins : List (List Level)) → Follows (True_one F G) (λ now c. IsFitReading E H pins c × IsBlind c)
follows_true E F G H pins = record {
  made = λ ps now oid fit.
      record { reason = omega arith; expire = omega arith; other = λ one. absurd (omega (arith, one)); fired = λ e one. absurd (omega (arith, one)); sampled = λ y e. absurd (cc); ended = λ e. refl };
  starts = λ ps now oid s clock every reason fit k.
      record { reason = omega arith; expire = fit.0.0; other = fit.0.1; fired = λ f. absurd (let bad : true ≡ false = f in cc); sampled = k.sampled; ended = λ f. refl };
  limits = λ ps now oid s clock fit can ahead k.
      record { reason = k.reason; expire = k.expire; other = k.other; fired = k.fired; sampled = k.sampled; ended = λ none. (let bad : true ≡ false = sym can ∙ none in absurd (cc)) };
  expires = λ ps now oid s clock fit can past k. record { reason = k.expire; expire = k.expire; other = k.other; fired = λ f one. absurd (k.other one); sampled = λ y is. absurd (cc); ended = λ f. refl };
  says = λ ps oid s n e k. record { reason = k.reason; expire = k.expire; other = k.other; fired = k.fired; sampled = k.sampled; ended = k.ended };
  fires = λ ps now oid s reason fit can k. record { reason = fit.0.0; expire = k.expire; other = k.other; fired = λ e one. absurd (fit.0.1 one); sampled = λ y is. absurd (cc); ended = λ e. refl };
  binds = λ ps now oid s i fit k. record { reason = k.reason; expire = k.expire; other = k.other; fired = k.fired; sampled = k.sampled; ended = k.ended };
  homes = λ ps now oid s i pin g fit k. absurd fit.1;
}

tells_true : (F G : ℕ → Type 0) → Tells (True_one F G) 256 (Says F)
tells_true F G = record { own = λ pins oid n s l k. tell_says F oid n s.trigger (omega (arith, l)) k.reason k.fired; other = other_says F }

-- and all of a board
true_each : (E : ℕ → (ℕ → Type 0)) (F G : ℕ → Type 0) (pins : List (List Level)) (r : Rig) → AllTrue E F G pins r → OfEach (True_one F G) r
true_each E F G pins r all oid s at = subst (λ (p : List (List Level)). IsTrue F G p s) (sym all.pins_are) (all.slots oid s at)

each_true : (E : ℕ → (ℕ → Type 0)) (F G : ℕ → Type 0) (pins : List (List Level)) (r q : Rig) → AllTrue E F G pins r → Beside (Unit {0}) r q → OfEach (True_one F G) q → AllTrue E F G pins q
each_true E F G pins r q all beside new = record {
  pins_are = beside.0 ∙ all.pins_are;
  few = let same = beside.1 in let few = all.few in omega (arith, same, few);
  slots = λ oid s at. subst (λ (p : List (List Level)). IsTrue F G p s) (beside.0 ∙ all.pins_are) (new oid s at);
  ends = λ oid pin at. all.ends oid pin (subst (λ (xs : List (Option ℕ)). get_or xs oid None ≡ Some pin) (beside.2 tt) at);
}

-- the readings that a command begins are for its reason
pub begun_reason : (b : Bool) (now : ℕ) (g : Homing) (y : Sampling)
    → (if b then None else Some (record { at = trig.first_from now (nearest now g.clock) (trig.least_rest g); sample = g.sample_ticks; count = g.sample_count; rest = trig.least_rest g; value = g.pin_value == 1; reason = g.reason })) ≡ Some y → g.reason ≡ y.reason
begun_reason true now g y e = absurd (cc)
begun_reason false now g y e = cc

-- the readings that a command begins are in place of those that went on, whatever those were
pub begun_true : (E : ℕ → (ℕ → Type 0)) (F G H : ℕ → Type 0) (pins : List (List Level)) (oid pin now : ℕ) (g : Homing) (s : Slot) → E oid pin → g.reason < 2 ^ 8
    → (g.reason ≡ 1 → (pin tick : ℕ) → E oid pin → IsComplete (slice_index_or pins pin []) g now tick → G tick) → IsTrue F H pins s → IsTrue F G pins (record s { trigger = trig.sampling now g s.trigger; pin = pin })
begun_true E F G H pins oid pin now g s at l n k = record {
  reason = k.reason;
  expire = k.expire;
  other = k.other;
  fired = k.fired;
  sampled = λ y is. (
      let same = begun_reason (g.sample_count == 0) now g y is in
      (omega (arith, l, same), λ one x done. n (same ∙ one) pin x at (record { sampling = y; begun = is; complete = done })));
  ended = k.ended;
}

home_true : (E : ℕ → (ℕ → Type 0)) (F G : ℕ → Type 0) (pins : List (List Level)) (r : Rig) (oid other : ℕ) (p : Option ℕ) (o : Option Slot) (g : Homing) → slice_index_or r.endstops oid None ≡ p → slot_at r other ≡ o → g.reason < 2 ^ 8
    → (g.reason ≡ 1 → (pin tick : ℕ) → E oid pin → IsComplete (slice_index_or pins pin []) g r.controller.tick tick → G tick) → AllTrue E F G pins r → AllTrue E F G pins (home r p other o g)
home_true E F G pins r oid other None o g at e l n all = all
home_true E F G pins r oid other (Some pin) None g at e l n all = all
home_true E F G pins r oid other (Some pin) (Some s) g at e l n all =
    let now = r.controller.tick in
    let q = home r (Some pin) other (Some s) g in
    let u : Slot = record s { trigger = trig.sampling now g s.trigger; pin = pin } in
    let new = subst (λ (p : List (List Level)). IsTrue F G p u) (sym all.pins_are) (begun_true E F G G pins oid pin now g s (all.ends oid pin at) l n (all.slots other s e)) in
    each_true E F G pins r q all (set_beside (Unit {0}) r q other u refl refl refl) (set_each (True_one F G) r q other u refl refl (true_each E F G pins r all) new)

-- an endstop's pin is the one that it was made with
past_made : (xs : List (Option ℕ)) (k pin n : ℕ) → length xs ≤ k → get_or (set xs k (Some pin)) k None ≡ Some n → get_or xs k None ≡ Some n
past_made [] k pin n past e = e
past_made (x ∷ xs) zero pin n past e = absurd (omega (arith, past))
past_made (x ∷ xs) (suc k) pin n past e = past_made xs k pin n (omega (arith, past)) e

here_made : (xs : List (Option ℕ)) (k pin n : ℕ) → get_or (set xs k (Some pin)) k None ≡ Some n → (k < length xs) ⊎ (length xs ≤ k) → (pin ≡ n) ⊎ (get_or xs k None ≡ Some n)
here_made xs k pin n e (inl within) = let f : Some pin ≡ Some n = sym (get_or-set_same xs k (Some pin) None within) ∙ e in inl (cc)
here_made xs k pin n e (inr past) = inr (past_made xs k pin n past e)

one_end : (E : ℕ → (ℕ → Type 0)) (oid pin n : ℕ) (before : Option ℕ) → E oid pin → (before ≡ Some n → E oid n) → (pin ≡ n) ⊎ (before ≡ Some n) → E oid n
one_end E oid pin n before here others (inl e) = subst (λ (x : ℕ). E oid x) e here
one_end E oid pin n before here others (inr e) = others e

end_set : (E : ℕ → (ℕ → Type 0)) (xs : List (Option ℕ)) (k pin oid n : ℕ) → E k pin → ((i j : ℕ) → get_or xs i None ≡ Some j → E i j) → get_or (set xs k (Some pin)) oid None ≡ Some n → (oid ≡ k) ⊎ (oid ≢ k) → E oid n
end_set E xs k pin oid n here all e (inl same) =
    let there : get_or (set xs k (Some pin)) k None ≡ Some n = subst (λ (i : ℕ). get_or (set xs k (Some pin)) i None ≡ Some n) same e in
    subst (λ (i : ℕ). E i n) (sym same) (one_end E k pin n (get_or xs k None) here (all k n) (here_made xs k pin n there (less_or_from k (length xs))))
end_set E xs k pin oid n here all e (inr d) = all oid n (sym (get_or-set_other xs k oid (Some pin) None d) ∙ e)

endstop_true : (E : ℕ → (ℕ → Type 0)) (F G : ℕ → Type 0) (pins : List (List Level)) (r : Rig) (oid pin : ℕ) (o : Option ℕ) → E oid pin → AllTrue E F G pins r → AllTrue E F G pins (make_endstop r oid pin o)
endstop_true E F G pins r oid pin None is all = record {
  pins_are = all.pins_are;
  few = all.few;
  slots = all.slots;
  ends = λ i n at. end_set E r.endstops oid pin i n is all.ends at (same_or_not i oid);
}
endstop_true E F G pins r oid pin (Some p) is all = all

kept_true : (o : BoardState) (E : ℕ → (ℕ → Type 0)) (F G : ℕ → Type 0) (H : ℕ → (ℕ → Type 0)) (pins : List (List Level)) (r : Rig) (c : Cmd) → (Unit {0} → MakesNone c) → IsBlind c → IsFitReading E H pins c → AllTrue E F G pins r → AllTrue E F G pins (acts_running o r c).rig × Each (Says F) (acts_running o r c).answers
kept_true o E F G H pins r c none blind fit all =
    let both = running_both (True_one F G) 256 (Says F) (tells_true F G) (λ now a. IsFitReading E H pins a × IsBlind a) (follows_true E F G H pins) o r c all.few (fit, blind) (true_each E F G pins r all) in
    (each_true E F G pins r (acts_running o r c).rig all (both.1.0, both.1.1, (λ m. both.1.2 (none m)), both.1.3) both.0, both.2)

running_true : (o : BoardState) (E : ℕ → (ℕ → Type 0)) (F G : ℕ → Type 0) (H : ℕ → (ℕ → Type 0)) (pins : List (List Level)) (r : Rig) (c : Cmd) → ((x : ℕ) → H r.controller.tick x → G x) → IsFitReading E H pins c → AllTrue E F G pins r → AllTrue E F G pins (acts_running o r c).rig × Each (Says F) (acts_running o r c).answers
running_true (Shut reason at first) E F G H pins r c to fit all =
    (record { pins_are = all.pins_are; few = all.few; slots = all.slots; ends = all.ends }, others_say F (board_takes r.controller c).answers (board_tells r.controller c))
running_true Running E F G H pins r (cmd.ConfigEndstop oid pin pull) to fit all = (endstop_true E F G pins r oid pin (slice_index_or r.endstops oid None) fit all, tt)
running_true Running E F G H pins r (cmd.EndstopHome oid clock sample count rest value other reason) to fit all = (
  home_true E F G pins r oid other (slice_index_or r.endstops oid None) (slot_at r other) (record { clock = clock; sample_ticks = sample; sample_count = count; rest_ticks = rest; pin_value = value; reason = reason }) refl refl fit.0 (λ one pin tick at k. to tick (fit.1 one pin r.controller.tick tick at k)) all,
  tt,
)
running_true Running E F G H pins r c to fit all = kept_true Running E F G H pins r c (λ m. tt) tt fit all

-- commands that are fit at the board's tick keep it so, and what it answers of its triggers is so
pub takes_true : (E : ℕ → (ℕ → Type 0)) (F G : ℕ → Type 0) (H : ℕ → (ℕ → Type 0)) (pins : List (List Level)) (r : Rig) (cs : List Cmd) → ((x : ℕ) → H r.controller.tick x → G x) → Each (IsFitReading E H pins) cs → AllTrue E F G pins r → AllTrue E F G pins (takes_all r cs).rig × Each (Says F) (takes_all r cs).answers
takes_true E F G H pins r [] to fit all = (all, tt)
takes_true E F G H pins r (c ∷ cs) to fit all =
    let one = running_true r.controller.state E F G H pins r c to fit.0 all in
    let rest = takes_true E F G H pins (takes r c).rig cs (λ x k. to x (subst (λ (n : ℕ). H n x) (takes_rig_tick r c) k)) fit.1 one.0 in
    (rest.0, each_both (Says F) (takes r c).answers (takes_all (takes r c).rig cs).answers one.1 rest.1)

-- so does time, where what readings complete in it is in F
pub time_true : (E : ℕ → (ℕ → Type 0)) (F G : ℕ → Type 0) (pins : List (List Level)) (r : Rig) (t : ℕ) → ((x : ℕ) → x < t → G x → F x) → AllTrue E F G pins r → AllTrue E F G pins (passes r t).rig × Each (Says F) (says r t)
time_true E F G pins r t soon all =
    let both = says_both (True_one F G) 256 (Says F) (tells_true F G) t (lasts_true F G t soon) r all.few (true_each E F G pins r all) in
    (each_true E F G pins r (passes r t).rig all both.1 both.0, both.2)

-- and a board is so at first
none_there : {A : Type 0} → (n oid : ℕ) → get_or (no_objects {A = A} n) oid None ≡ None
none_there zero oid = refl
none_there (suc n) zero = refl
none_there (suc n) (suc oid) = none_there n oid

objects_few : (n : ℕ) → length (no_objects {A = Slot} n) ≡ n
objects_few zero = refl
objects_few (suc n) = let rest = objects_few n in omega (arith, rest)

pub new_true : (E : ℕ → (ℕ → Type 0)) (F G : ℕ → Type 0) (pins : List (List Level)) (b : BoardDef) → AllTrue E F G pins (new_rig b pins)
new_true E F G pins b = record {
  pins_are = refl;
  few = let same = objects_few 256 in omega (arith, same);
  slots = λ oid s at. absurd (let bad : None ≡ Some s = sym (none_there {A = Slot} 256 oid) ∙ at in cc);
  ends = λ oid pin at. absurd (let bad : None ≡ Some pin = sym (none_there {A = ℕ} 256 oid) ∙ at in cc);
}
