-- As a homing group answers each stepper that moves is halted, or its board took no step of it.
use Rattle.std.proofs.Common.{◌≡◌, ℕ, suc, ◌+◌, ◌<◌, ◌≤◌, ◌⊎◌, inl, inr, All, Bool, List, [], ◌∷◌, ◌++◌, length, map, Option, Some, None, refl, ap, sym, ◌∙◌, subst, arith, append_assoc, append-nil, length-append}
use Rattle.laws_board.proofs.Names.{leb_tells, append_cancel_left, All-head, All-tail, Level, Machine, Running, IsValidMachine, board_at, stepper_at, Cmd, Unit as StepUnit, dir_commands, reset_commands, step_command, Entry, Switch, Meant, commands_of, plain, unit_orders, units_orders, Step, queued_in, first_state, orders, LinkState, Member, Homing, hears_all, members_of, trigger_of, Connecting, noted, Came, known_by, state_at, cons_same}
use Rattle.msg_code.specs.declared.cmd.Cmd.TheVariants as cmd
use Rattle.board_sim.specs.Board as board
use Rattle.board_sim.specs.RigRuns.{IsHalted}
use Rattle.board_world.specs.Orders.{unit_ticks}
use Rattle.trigger_group.specs.Kept.{BoardsRise}
use Rattle.axis_homing.specs.Rising.{HomingRises}
use Rattle.laws_board.specs.turns.Turns.{BoardTurn, latest_state, stands_after}
use Rattle.laws_board.specs.clocks.Ordered.{MayOrder, SetsClocks}
use Rattle.laws_board.specs.clocks.Runs.{IsInRun}
use Rattle.laws_board.proofs.clocks.Lines.{as_long, run_before}
use Rattle.laws_board.proofs.clocks.Ordering.{may_order}
use Rattle.laws_board.proofs.sections.Lists.{cuts}
use Rattle.laws_homing.specs.home_runs.Guards.{AreCalm, IsCalm}
use Rattle.laws_homing.specs.home_runs.Sections.{HomesFrom, GroupAnswers, IsMoved, IsOf, Moves, SetNoneFrom, queued_in_turns}
use Rattle.laws_homing.specs.home_runs.Stages.{Stage, no_stage, stage_from}
use Rattle.laws_homing.specs.home_runs.Told.{IsMember}
use Rattle.laws_homing.proofs.home_runs.Controlling.{first_turn, rest_turn, turn_calm}
use Rattle.laws_homing.proofs.home_runs.Firing.{calm_both, calm_each, calm_parts}
use Rattle.laws_homing.proofs.home_runs.Joining.{all_queued, known_rises, noted_rises, past_connecting, small_by, split_at}
use Rattle.laws_homing.proofs.home_runs.Saying.{EachCalm}
use Rattle.laws_homing.proofs.home_runs.Setting.{Binds, which}
use Rattle.laws_homing.proofs.home_runs.Staging.{commands_both, stage_append, staged_after}
use Rattle.laws_homing.proofs.home_runs.Whole.{OneOnly, Only, brings_calm, only_parts, queue_only, ready_on, run_only, run_ready, units_calm, whole_by}
use Rattle.laws_homing.proofs.home_runs.Windows.{ordered_after}
use Rattle.laws_homing.specs.clear_groups.Resting.{EachTame, IsTame}
use Rattle.laws_homing.specs.fired_runs.Since.{AreNotAhead, AreReadTrue, BeginsApart, IsAtRest, IsOff}
use Rattle.laws_board.specs.sections.Finds.{AllSetNot, SetsNot, StepsFindHalted}
use Rattle.laws_homing.specs.fired_runs.Waiting.{AllStepNot, MoveNone, MoveNoneIn, StepsNot, TookNone}
use Rattle.laws_homing.proofs.fired_runs.Old.{tame_parts}
use Rattle.laws_homing.proofs.fired_runs.Rested.{answered_fired, left_of, queue_later}
use Rattle.laws_homing.proofs.fired_runs.Waiting.{Waits, steps_settle}
use Rattle.laws_homing.proofs.home_runs.Staying.{not_parts}
use Rattle.axis_homing.proofs.Room.{on-few}
use Rattle.laws_homing.proofs.home_parts.Known.{answer_late}

-- commands without steps of a stepper
step_both : (i : ℕ) (xs ys : List Meant) → AllStepNot i xs → AllStepNot i ys → AllStepNot i (xs ++ ys)
step_both i [] ys a b = b
step_both i (x ∷ xs) ys a b = (a.0, step_both i xs ys a.1 b)

step_front : (i : ℕ) (xs ys : List Meant) → AllStepNot i (xs ++ ys) → AllStepNot i xs
step_front i [] ys a = tt
step_front i (x ∷ xs) ys a = (a.0, step_front i xs ys a.1)

may_not : (i : ℕ) (o : Option Homing) (k : ℕ) (c : Cmd) → MayOrder o k c → StepsNot i c
may_not i o k (cmd.QueueStep oid interval count add) may = absurd may
may_not i o k c may = tt

controls_not : (i : ℕ) (o : Option Homing) (k : ℕ) (cs : List Cmd) → All (MayOrder o k) cs → AllStepNot i (map plain cs)
controls_not i o k [] all = tt
controls_not i o k (c ∷ cs) all = (may_not i o k c (All-head (MayOrder o k) c cs all), controls_not i o k cs (All-tail (MayOrder o k) c cs all))

unit_not : (i : ℕ) (u : StepUnit) → (u.stepper ≡ i → ⊥) → AllStepNot i (unit_orders u)
unit_not i u other = one u.reset u.up
  where
    one : (r : Option ℕ) (d : Option Bool) → AllStepNot i (map plain (reset_commands u.stepper r) ++ (map plain (dir_commands u.stepper d) ++ record { command = step_command u; ticks = unit_ticks u } ∷ []))
    one None None = (other, tt)
    one None (Some d) = (tt, (other, tt))
    one (Some r) None = (tt, (other, tt))
    one (Some r) (Some d) = (tt, (tt, (other, tt)))

units_not : (i : ℕ) (us : List StepUnit) → MoveNone i us → AllStepNot i (units_orders us)
units_not i [] n = tt
units_not i (u ∷ us) n = step_both i (unit_orders u) (units_orders us) (unit_not i u n.0) (units_not i us n.1)

-- nor sets its clock, from 251 turns before a homing section's start on
set_both : (i : ℕ) (xs ys : List Meant) → AllSetNot i xs → AllSetNot i ys → AllSetNot i (xs ++ ys)
set_both i [] ys a b = b
set_both i (x ∷ xs) ys a b = (a.0, set_both i xs ys a.1 b)

sets_late : (o : Option Homing) (start k : ℕ) (ms : List Member) → IsOf start ms o → start ≤ k + 251 → SetsClocks o k → ⊥
sets_late None start k ms of late sets = sets
sets_late (Some h) start k ms of late sets = (let e = of.1 in let low = sets.0 in omega (arith, e, low, late))

may_set : (i : ℕ) (o : Option Homing) (start k : ℕ) (ms : List Member) (c : Cmd) → IsOf start ms o → start ≤ k + 251 → MayOrder o k c → SetsNot i c
may_set i o start k ms (cmd.ResetStepClock oid clock) of late may = λ same. sets_late o start k ms of late may
may_set i o start k ms c of late may = tt

controls_set : (i : ℕ) (o : Option Homing) (start k : ℕ) (ms : List Member) (cs : List Cmd) → IsOf start ms o → start ≤ k + 251 → All (MayOrder o k) cs → AllSetNot i (map plain cs)
controls_set i o start k ms [] of late all = tt
controls_set i o start k ms (c ∷ cs) of late all = (may_set i o start k ms c of late (All-head (MayOrder o k) c cs all), controls_set i o start k ms cs of late (All-tail (MayOrder o k) c cs all))

calm_set : (i j : ℕ) (c : Cmd) → IsCalm i j c → SetsNot i c
calm_set i j (cmd.ResetStepClock oid clock) calm = calm
calm_set i j c calm = tt

calm_sets : (i j : ℕ) (ms : List Meant) → AreCalm i j ms → AllSetNot i ms
calm_sets i j [] calm = tt
calm_sets i j (m ∷ ms) calm = (calm_set i j m.command calm.0, calm_sets i j ms calm.1)

-- commands that start no trigger, make no other one and set no clock of the stepper are calm
calm_one : (i j : ℕ) (c : Cmd) → IsTame c → OneOnly j c → SetsNot i c → IsCalm i j c
calm_one i j (cmd.TrsyncStart oid clock every reason) tame only sets = absurd tame
calm_one i j (cmd.ResetStepClock oid clock) tame only sets = sets
calm_one i j (cmd.ConfigTrsync oid) tame only sets = only
calm_one i j c tame only sets = tt

calm_by : (i j : ℕ) (ms : List Meant) → EachTame (commands_of ms) → Only j (commands_of ms) → AllSetNot i ms → AreCalm i j ms
calm_by i j [] tame only sets = tt
calm_by i j (m ∷ ms) tame only sets = (calm_one i j m.command tame.0 only.0 sets.0, calm_by i j ms tame.1 only.1 sets.1)

step_behind : (i : ℕ) (xs ys : List Meant) → AllStepNot i (xs ++ ys) → AllStepNot i ys
step_behind i [] ys a = a
step_behind i (x ∷ xs) ys a = step_behind i xs ys a.1

-- where a command binds a stepper
record Bound (i j : ℕ) (cs : List Cmd) : Type 0 where
  front : List Cmd
  back : List Cmd
  are : cs ≡ front ++ cmd.StepperStopOnTrigger i j ∷ back
  calm : EachCalm i j back

bound_at : (i j : ℕ) (cs : List Cmd) → Binds i j cs → Bound i j cs
bound_at i j [] b = absurd b
bound_at i j (c ∷ cs) (inl b) = record { front = []; back = cs; are = ap (λ (x : Cmd). x ∷ cs) b.0; calm = b.1 }
bound_at i j (c ∷ cs) (inr b) = let rest = bound_at i j cs b in record { front = c ∷ rest.front; back = rest.back; are = ap (λ (x : List Cmd). c ∷ x) rest.are; calm = rest.calm }

plain_both : (xs ys : List Cmd) → map plain (xs ++ ys) ≡ map plain xs ++ map plain ys
plain_both [] ys = refl
plain_both (x ∷ xs) ys = ap (λ (l : List Meant). plain x ∷ l) (plain_both xs ys)

each_plain : (i j : ℕ) (cs : List Cmd) → EachCalm i j cs → AreCalm i j (map plain cs)
each_plain i j [] k = tt
each_plain i j (c ∷ cs) k = (k.0, each_plain i j cs k.1)

-- what was queued from a turn on, before a stepper is bound and behind it
record BoundIn (i j : ℕ) (early turns : List BoardTurn) : Type 0 where
  front : List Meant
  back : List Meant
  are : queued_in_turns turns ≡ queued_in_turns early ++ (front ++ plain (cmd.StepperStopOnTrigger i j) ∷ back)
  none : AllStepNot i front
  calm : AreCalm i j back

bound_more : (i j : ℕ) (early turns : List BoardTurn) (t : BoardTurn) → BoundIn i j early turns → AreCalm i j (queued_in (orders t.control t.batch)) → BoundIn i j early (t ∷ turns)
bound_more i j early turns t k calm =
    let new = queued_in (orders t.control t.batch) in
    let stop = plain (cmd.StepperStopOnTrigger i j) in
    record {
      front = k.front;
      back = k.back ++ new;
      are = ap (λ (x : List Meant). x ++ new) k.are ∙ append_assoc (queued_in_turns early) (k.front ++ stop ∷ k.back) new ∙ ap (λ (x : List Meant). queued_in_turns early ++ x) (append_assoc k.front (stop ∷ k.back) new);
      none = k.none;
      calm = calm_both i j k.back new k.calm calm;
    }

bound_now : (i j : ℕ) (early turns : List BoardTurn) (t : BoardTurn) (q : List Meant) → queued_in_turns turns ≡ queued_in_turns early ++ q → AllStepNot i q → AllStepNot i (map plain t.control.commands) → Binds i j t.control.commands → AreCalm i j (units_orders t.batch.units)
    → BoundIn i j early (t ∷ turns)
bound_now i j early turns t q e none controls binds units =
    let b = bound_at i j t.control.commands binds in
    let stop = plain (cmd.StepperStopOnTrigger i j) in
    let us = units_orders t.batch.units in
    let front = map plain b.front in
    let back = map plain b.back ++ us in
    let cut : map plain t.control.commands ≡ front ++ stop ∷ map plain b.back = ap (map plain) b.are ∙ plain_both b.front (cmd.StepperStopOnTrigger i j ∷ b.back) in
    record {
      front = q ++ front;
      back = back;
      are = ap (λ (x : List Meant). x ++ (map plain t.control.commands ++ us)) e ∙ append_assoc (queued_in_turns early) q (map plain t.control.commands ++ us)
          ∙ ap (λ (x : List Meant). queued_in_turns early ++ x)
          (ap (λ (x : List Meant). q ++ (x ++ us)) cut ∙ ap (λ (x : List Meant). q ++ x) (append_assoc front (stop ∷ map plain b.back) us) ∙ sym (append_assoc q front (stop ∷ back)));
      none = step_both i q front none (step_front i front (stop ∷ map plain b.back) (subst (λ (x : List Meant). AllStepNot i x) cut controls));
      calm = calm_both i j (map plain b.back) us (each_plain i j b.back b.calm) units;
    }

module _ (m : Machine) (v : IsValidMachine m) (switches : List Switch) (pins : List (List Level)) (entries : List Entry) (b s from start : ℕ) (ms : List Member) (rise : BoardsRise ms) (moves : Moves b s ms) (begins : from + 254 ≡ start) where
  abbrev I : ℕ
  I = (stepper_at m s).oid

  abbrev J : ℕ
  J = trigger_of m b

  abbrev Run : List Came → List BoardTurn → Type 0
  Run came turns = IsInRun m switches pins entries b came turns

  -- what is queued before the turn in which it is bound
  queue_not : (came : List Came) (recent early : List BoardTurn) → Run came (recent ++ early) → MoveNoneIn I from (from + 4) (recent ++ early) → length early ≡ from → length recent ≤ 4 → (q : List Meant) × (queued_in_turns (recent ++ early) ≡ queued_in_turns early ++ q) × AllStepNot I q
  queue_not came [] early r none long few = ([], sym (append-nil (queued_in_turns early)), tt)
  queue_not [] (t ∷ recent) early r none long few = absurd r.both
  queue_not (c ∷ before) (t ∷ recent) early r none long few =
      let turns = recent ++ early in
      let rest = queue_not before recent early (run_before m switches pins entries b c before t turns r) none.1 long (omega (arith, few)) in
      let n = noted m c.note (known_by m switches before) in
      let new = queued_in (orders t.control t.batch) in
      let size = length-append recent early in
      let here = none.0 (omega (arith, size, long)) (omega (arith, size, long, few)) in
      let controls = controls_not I n.homing (length before) t.control.commands (may_order m switches pins entries b c before t turns r) in (
        rest.0 ++ new,
        ap (λ (x : List Meant). x ++ new) rest.1 ∙ append_assoc (queued_in_turns early) rest.0 new,
        step_both I rest.0 new rest.2 (step_both I (map plain t.control.commands) (units_orders t.batch.units) controls (units_not I t.batch.units here)),
      )

  BindsAt : ℕ → Type 0
  BindsAt q =
      (c : Came) (before : List Came) (t : BoardTurn) (turns : List BoardTurn) → Run (c ∷ before) (t ∷ turns) → ((known_by m switches before).phase ≡ Connecting → ⊥) → IsOf start ms (noted m c.note (known_by m switches before)).homing → length before ≡ q
      → Binds I J t.control.commands

  bound_in : (q : ℕ) → BindsAt q → from + 3 ≤ q → q ≤ from + 4 → (came : List Came) (recent early : List BoardTurn) → Run came (recent ++ early) → HomesFrom m switches from start ms came → SetNoneFrom I from (recent ++ early)
      → MoveNoneIn I from (from + 4) (recent ++ early) → length early ≡ from → q < length (recent ++ early) → BoundIn I J early (recent ++ early)
  unfolding BindsAt
  bound_in q binds soon late came [] early r homes sets none long below = absurd (omega (arith, below, long, soon))
  bound_in q binds soon late [] (t ∷ recent) early r homes sets none long below = absurd r.both
  bound_in q binds soon late (c ∷ before) (t ∷ recent) early r homes sets none long below =
      let turns = recent ++ early in
      let old = run_before m switches pins entries b c before t turns r in
      let same = as_long m switches b before turns r.both.2 in
      let size = length-append recent early in
      let now = homes.0 (omega (arith, same, size, long)) in
      let sets_now = sets.0 (omega (arith, size, long)) in
      elim (leb_tells (suc q) (length turns)) [
        | inl p ↦
            let far = p.1 in
            let calm = turn_calm I J m switches pins entries b c before t turns start ms r now.0 now.1 (omega (arith, far, same, begins, soon)) in
            bound_more I J early turns t (bound_in q binds soon late before recent early old homes.1 sets.1 none.1 long (omega (arith, far))) (brings_calm I J t calm sets_now)
        | inr p ↦
            let near = p.1 in
            let few : length recent ≤ 4 = omega (arith, near, size, long, late) in
            let n = noted m c.note (known_by m switches before) in
            let queue = queue_not before recent early old none.1 long few in
            bound_now I J early turns t queue.0 queue.1 queue.2 (controls_not I n.homing (length before) t.control.commands (may_order m switches pins entries b c before t turns r))
            (binds c before t turns r now.0 now.1 (omega (arith, near, below, same))) (units_calm I J t.batch.units sets_now)
      ]

  bound_all : (came : List Came) (recent early : List BoardTurn) → Run came (recent ++ early) → HomesFrom m switches from start ms came → SetNoneFrom I from (recent ++ early) → MoveNoneIn I from (from + 4) (recent ++ early) → length early ≡ from → from + 5 ≤ length (recent ++ early)
      → BoundIn I J early (recent ++ early)
  unfolding BindsAt
  bound_all came recent early r homes sets none long far = elim (which b s ms moves) [
    | inl first ↦ bound_in (from + 3) (λ c before t others x n of at. first_turn m switches pins entries b s c before t others start ms x n of rise first (omega (arith, begins, at))) (omega arith) (omega arith) came recent early r homes sets none long (omega (arith, far))
    | inr rest ↦ bound_in (from + 4) (λ c before t others x n of at. rest_turn m switches pins entries b s c before t others start ms x n of rise rest (omega (arith, begins, at))) (omega arith) (omega arith) came recent early r homes sets none long (omega (arith, far))
  ]

pub moves_among : (n k : ℕ) (xs : List Member) → Moves n k xs → IsMember n xs
moves_among n k [] q = absurd q
moves_among n k (x ∷ xs) (inl q) = inl q.0
moves_among n k (x ∷ xs) (inr q) = inr (moves_among n k xs q)

-- as a group answers
module _ (m : Machine) (v : IsValidMachine m) (switches : List Switch) (pins : List (List Level)) (entries : List Entry) (b : ℕ) (c : Came) (before : List Came) (turns : List BoardTurn) (h : Homing) (s : ℕ) (r : IsInRun m switches pins entries b before turns)
    (latest : state_at b c.states ≡ latest_state turns) (a : GroupAnswers m switches c before h) (x : IsMoved m b h turns s) (apart : BeginsApart m switches (c ∷ before)) (reads : AreReadTrue m switches b (c ∷ before) turns)
    (behind : AreNotAhead m switches b (c ∷ before)) (none : MoveNoneIn (stepper_at m s).oid a.from (a.from + 4) turns) (runs : (stands_after (first_state (board_at m b) pins b entries) turns).core.board.controller.state ≡ Running) where
  abbrev Oid : ℕ
  Oid = (stepper_at m s).oid

  abbrev Trigger : ℕ
  Trigger = trigger_of m b

  abbrev First : LinkState
  First = first_state (board_at m b) pins b entries

  abbrev Members : List Member
  Members = members_of h.group

  rise : BoardsRise Members
  rise =
      let rises : HomingRises (Some h) = subst HomingRises a.known (noted_rises m c.note (known_by m switches before) (known_rises m switches before r.goes_on)) in
      rises

  abbrev Stop : Meant
  Stop = plain (cmd.StepperStopOnTrigger Oid Trigger)

  binds_of : (front k : List Meant) → AreCalm Oid Trigger k → Binds Oid Trigger (commands_of (front ++ Stop ∷ k))
  binds_of [] k calm = inl (refl, calm_each Oid Trigger k calm)
  binds_of (y ∷ front) k calm = inr (binds_of front k calm)

  -- what is queued from 251 turns before the start on sets no clock of the stepper
  queue_sets : (came : List Came) (recent early : List BoardTurn) → IsInRun m switches pins entries b came (recent ++ early) → HomesFrom m switches a.from h.start Members came → SetNoneFrom Oid a.from (recent ++ early) → a.from + 3 ≤ length early
      → (q : List Meant) × (queued_in_turns (recent ++ early) ≡ queued_in_turns early ++ q) × AllSetNot Oid q
  queue_sets came [] early run homes sets far = ([], sym (append-nil (queued_in_turns early)), tt)
  queue_sets [] (t ∷ recent) early run homes sets far = absurd run.both
  queue_sets (d ∷ past) (t ∷ recent) early run homes sets far =
      let all = recent ++ early in
      let rest = queue_sets past recent early (run_before m switches pins entries b d past t all run) homes.1 sets.1 far in
      let n = noted m d.note (known_by m switches past) in
      let new = queued_in (orders t.control t.batch) in
      let size = length-append recent early in
      let same = as_long m switches b past all run.both.2 in
      let set_up = a.set_up in
      let of = (homes.0 (omega (arith, same, size, far))).1 in
      let controls = controls_set Oid n.homing h.start (length past) Members t.control.commands of (omega (arith, same, size, far, set_up)) (may_order m switches pins entries b d past t all run) in
      let units = calm_sets Oid Trigger (units_orders t.batch.units) (units_calm Oid Trigger t.batch.units (sets.0 (omega (arith, size, far)))) in (
        rest.0 ++ new,
        ap (λ (z : List Meant). z ++ new) rest.1 ∙ append_assoc (queued_in_turns early) rest.0 new,
        set_both Oid rest.0 new rest.2 (set_both Oid (map plain t.control.commands) (units_orders t.batch.units) controls units),
      )

  -- where the command that binds the stepper was taken
  taken_halts : (came : List Came) (early : List BoardTurn) → IsInRun m switches pins entries b came early → ((known_by m switches came).phase ≡ Connecting → ⊥) → Oid < 256 → (front k : List Meant)
      → (stands_after First turns).core.taken ≡ queued_in_turns early ++ (front ++ Stop ∷ k) → AreCalm Oid Trigger k → IsOff Trigger (stands_after First turns).core.board → IsHalted (board.stepper_at (stands_after First turns).core.board.controller Oid)
  taken_halts came early run open_it small front k took calm off =
      let tail = front ++ Stop ∷ k in
      let left = left_of m v switches pins entries b turns r.turns_are in
      let few : Trigger < 256 = let q = v.steppers_few in omega (arith, on-few b m.steppers, q) in
      let ready = run_ready m switches pins entries b came early s v run open_it x.there x.on in
      let all : Only Trigger (commands_of (queued_in_turns turns)) = queue_only Trigger turns (run_only m switches pins entries b before turns v r) in
      let Is : List Meant → Type 0 = λ l. Only Trigger (commands_of l) in
      let own : Only Trigger (commands_of (queued_in_turns early ++ tail)) =
      subst Is took (only_parts Trigger (commands_of (stands_after First turns).core.taken) (commands_of left.0)
      (subst (λ (l : List Cmd). Only Trigger l) (commands_both (stands_after First turns).core.taken left.0) (subst Is (sym left.1) all))).0 in
      let only = (only_parts Trigger (commands_of (queued_in_turns early)) (commands_of tail) (subst (λ (l : List Cmd). Only Trigger l) (commands_both (queued_in_turns early) tail) own)).1 in
      let stage = stage_from Oid Trigger no_stage (commands_of (queued_in_turns early)) in
      let whole = whole_by Oid Trigger stage (commands_of tail) only ready (binds_of front k calm) in
      let same : stage_from Oid Trigger no_stage (commands_of (stands_after First turns).core.taken) ≡ stage_from Oid Trigger stage (commands_of tail) =
      ap (λ (l : List Meant). stage_from Oid Trigger no_stage (commands_of l)) took ∙ ap (stage_from Oid Trigger no_stage) (commands_both (queued_in_turns early) tail) ∙ stage_append Oid Trigger no_stage (commands_of (queued_in_turns early)) (commands_of tail) in
      let staged = (staged_after (board_at m b) pins b entries turns Oid Trigger small few r.turns_are).staged runs in
      let guarded = staged.bound (ap (λ (y : Stage). y.bound) same ∙ whole.bound) in
      guarded.halted (off guarded.slot guarded.is)

  -- where it is left
  left_waits : (came : List Came) (early : List BoardTurn) → IsInRun m switches pins entries b came early → ((known_by m switches came).phase ≡ Connecting → ⊥) → Oid < 256 → (tail front back : List Meant)
      → (stands_after First turns).core.taken ≡ queued_in_turns early ++ tail → (left_of m v switches pins entries b turns r.turns_are).0 ≡ front ++ Stop ∷ back → IsAtRest Trigger First turns → AllStepNot Oid front → AllSetNot Oid front
      → Waits Oid Trigger (left_of m v switches pins entries b turns r.turns_are).0 (stands_after First turns).core.board
  left_waits came early run open_it small tail front back took are rest none sets =
      let core = (stands_after First turns).core in
      let left = left_of m v switches pins entries b turns r.turns_are in
      let few : Trigger < 256 = let q = v.steppers_few in omega (arith, on-few b m.steppers, q) in
      let ready = run_ready m switches pins entries b came early s v run open_it x.there x.on in
      let all : Only Trigger (commands_of (queued_in_turns turns)) = queue_only Trigger turns (run_only m switches pins entries b before turns v r) in
      let Is : List Meant → Type 0 = λ l. Only Trigger (commands_of l) in
      let both = only_parts Trigger (commands_of core.taken) (commands_of left.0) (subst (λ (l : List Cmd). Only Trigger l) (commands_both core.taken left.0) (subst Is (sym left.1) all)) in
      let own : Only Trigger (commands_of (queued_in_turns early ++ tail)) = subst Is took both.0 in
      let only = (only_parts Trigger (commands_of (queued_in_turns early)) (commands_of tail) (subst (λ (l : List Cmd). Only Trigger l) (commands_both (queued_in_turns early) tail) own)).1 in
      let stage = stage_from Oid Trigger no_stage (commands_of (queued_in_turns early)) in
      let now = ready_on Oid Trigger stage (commands_of tail) only ready in
      let same : stage_from Oid Trigger no_stage (commands_of core.taken) ≡ stage_from Oid Trigger stage (commands_of tail) =
      ap (λ (l : List Meant). stage_from Oid Trigger no_stage (commands_of l)) took ∙ ap (stage_from Oid Trigger no_stage) (commands_both (queued_in_turns early) tail) ∙ stage_append Oid Trigger no_stage (commands_of (queued_in_turns early)) (commands_of tail) in
      let staged = (staged_after (board_at m b) pins b entries turns Oid Trigger small few r.turns_are).staged runs in
      let slot = staged.there (ap (λ (y : Stage). y.there) same ∙ now.there) in
      let same_left : rest.left ≡ left.0 = append_cancel_left core.taken rest.left left.0 (rest.rest ∙ all_queued (board_at m b) pins b entries turns r.turns_are ∙ sym left.1) in
      let tame = (tame_parts front (Stop ∷ back) (subst (λ (l : List Meant). EachTame (commands_of l)) (same_left ∙ are) rest.tame)).0 in
      let only_left = (only_parts Trigger (commands_of front) (commands_of (Stop ∷ back)) (subst (λ (l : List Cmd). Only Trigger l) (commands_both front (Stop ∷ back)) (subst Is are both.1))).0 in
      record {
        fired = record { slot = slot.slot; is = slot.is; fired = rest.off slot.slot slot.is };
        there = staged.made (ap (λ (y : Stage). y.made) same ∙ now.made);
        front = front;
        bind = Stop;
        back = back;
        are = are;
        binds = refl;
        calm = calm_by Oid Trigger front tame only_left sets;
        none = none;
      }

  halts_or_waits : IsHalted (board.stepper_at (stands_after First turns).core.board.controller Oid)
      ⊎ (TookNone Oid a.from First turns × Waits Oid Trigger (left_of m v switches pins entries b turns r.turns_are).0 (stands_after First turns).core.board)
  halts_or_waits =
      let set_up = a.set_up in
      let begin = x.begun in
      let from : x.from ≡ a.from = omega (arith, set_up, begin) in
      let sets = subst (λ (n : ℕ). SetNoneFrom Oid n turns) from x.sets_none in
      let late = answer_late (length before) h.start (hears_all (noted m c.note (known_by m switches before)).clocks c.states h).group a.end a.answer in
      let long = as_long m switches b before turns r.both in
      let fired = answered_fired m v switches pins entries b c before turns h a.end r latest apart reads behind a.known a.answer (moves_among b s Members x.moves) in
      let cut = split_at a.from turns (omega (arith, late, long, set_up)) in
      let recent = cut.0 in
      let early = cut.1 in
      let early_long = cut.3 in
      let size : length turns ≡ length (recent ++ early) = ap (λ (l : List BoardTurn). length l) cut.2 in
      let both = length-append recent early in
      let run : IsInRun m switches pins entries b before (recent ++ early) = subst (λ (l : List BoardTurn). IsInRun m switches pins entries b before l) cut.2 r in
      let bound = bound_all m v switches pins entries b s a.from h.start Members rise x.moves set_up before recent early run a.since (subst (λ (l : List BoardTurn). SetNoneFrom Oid a.from l) cut.2 sets)
      (subst (λ (l : List BoardTurn). MoveNoneIn Oid a.from (a.from + 4) l) cut.2 none) early_long (omega (arith, late, long, set_up, size)) in
      let open_at = past_connecting m switches pins entries b a.from h.start Members before recent early run a.since early_long (omega (arith, late, long, set_up, size, both, early_long)) in
      let small = small_by m switches pins entries b before turns s a.from h.start Members v r a.since (omega (arith, late, long, set_up)) x.there x.on in
      let left = left_of m v switches pins entries b turns r.turns_are in
      let at = fired.at in
      let taken = (stands_after First turns).core.taken in
      elim (cuts recent early fired.later fired.early (sym cut.2 ∙ fired.are)) [
        | inl p ↦ (let near = ap (λ (l : List BoardTurn). length l) p.2 in let more = length-append p.0 fired.early in absurd (omega (arith, near, more, at, early_long, set_up)))
        | inr p ↦
            let q = queue_later (p.0 ∷ p.1) early in
            let tail = fired.front ++ fired.begin ∷ fired.more in
            let took : taken ≡ queued_in_turns early ++ (q.0 ++ tail) = fired.took ∙ ap (λ (l : List Meant). l ++ tail) (ap queued_in_turns p.3 ∙ q.1) ∙ append_assoc (queued_in_turns early) q.0 tail in
            let cut_queue : (q.0 ++ tail) ++ left.0 ≡ bound.front ++ Stop ∷ bound.back =
            append_cancel_left (queued_in_turns early) ((q.0 ++ tail) ++ left.0) (bound.front ++ Stop ∷ bound.back)
            (sym (append_assoc (queued_in_turns early) (q.0 ++ tail) left.0) ∙ ap (λ (l : List Meant). l ++ left.0) (sym took) ∙ left.1 ∙ ap queued_in_turns cut.2 ∙ bound.are) in
            elim (cuts (q.0 ++ tail) left.0 bound.front (Stop ∷ bound.back) cut_queue) [
              | inl y ↦
                  let steps = subst (λ (l : List Meant). AllStepNot Oid l) y.1 bound.none in
                  let over : IsInRun m switches pins entries b before (fired.later ++ fired.early) = subst (λ (l : List BoardTurn). IsInRun m switches pins entries b before l) fired.are r in
                  let late_sets = queue_sets before fired.later fired.early over a.since (subst (λ (l : List BoardTurn). SetNoneFrom Oid a.from l) fired.are sets) (omega (arith, at, set_up)) in
                  let queue : tail ++ left.0 ≡ late_sets.0 =
                  append_cancel_left (queued_in_turns fired.early) (tail ++ left.0) late_sets.0
                  (sym (append_assoc (queued_in_turns fired.early) tail left.0) ∙ ap (λ (l : List Meant). l ++ left.0) (sym fired.took) ∙ left.1 ∙ ap queued_in_turns fired.are ∙ late_sets.1) in
                  let set_left = (not_parts Oid tail left.0 (subst (λ (l : List Meant). AllSetNot Oid l) (sym queue) late_sets.2)).1 in
                  let set_front = (not_parts Oid y.0 (Stop ∷ bound.back) (subst (λ (l : List Meant). AllSetNot Oid l) y.2 set_left)).0 in
                  inr (
                    record { later = recent; early = early; are = cut.2; long = early_long; more = q.0 ++ tail; took = took; none = step_front Oid (q.0 ++ tail) y.0 steps },
                    left_waits open_at.0 early open_at.1 open_at.2 small (q.0 ++ tail) y.0 bound.back took y.2 fired.at_rest (step_behind Oid (q.0 ++ tail) y.0 steps) set_front,
                  )
              | inr y ↦
                  let heads = cons_same Stop y.0 bound.back (y.1 ++ left.0) y.3 in
                  let calm = (calm_parts Oid Trigger y.1 left.0 (subst (λ (l : List Meant). AreCalm Oid Trigger l) heads.1 bound.calm)).0 in
                  let whole : taken ≡ queued_in_turns early ++ (bound.front ++ Stop ∷ y.1) = took ∙ ap (λ (l : List Meant). queued_in_turns early ++ l) (y.2 ∙ ap (λ (z : Meant). bound.front ++ z ∷ y.1) (sym heads.0)) in
                  inl (taken_halts open_at.0 early open_at.1 open_at.2 small bound.front y.1 whole calm fired.at_rest.off)
            ]
      ]

  pub halts_or_took_none : IsHalted (board.stepper_at (stands_after First turns).core.board.controller Oid) ⊎ TookNone Oid a.from First turns
  halts_or_took_none = elim halts_or_waits [ inl y ↦ inl y | inr y ↦ inr y.0 ]

  -- whatever happens then, its steps find it halted
  pub steps_find_halted : (steps : List Step) → StepsFindHalted Oid (stands_after First turns).core steps
  steps_find_halted steps =
      let left = left_of m v switches pins entries b turns r.turns_are in
      steps_settle Oid Trigger steps (stands_after First turns).core left.0 (ordered_after (board_at m b) pins b entries turns r.turns_are)
      (left.1 ∙ sym (all_queued (board_at m b) pins b entries turns r.turns_are)) (elim halts_or_waits [ inl y ↦ inr (inl y) | inr y ↦ inr (inr y.1) ])
