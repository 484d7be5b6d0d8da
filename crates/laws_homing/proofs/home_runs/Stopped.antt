-- A stepper that moves in a homing section stops with its board's trigger.
use Rattle.std.proofs.Common.{◌≡◌, ◌⊎◌, inl, inr, ℕ, ◌+◌, ◌<◌, ◌≤◌, ◌==◌, ◌&&◌, Bool, true, false, false, cond, List, [], ◌∷◌, ◌++◌, length, Some, refl, ap, sym, ◌∙◌, subst, arith, append_assoc, length-append, drop}
use Rattle.std.specs.Prelude.{max}
use Rattle.laws_board.proofs.Names.{eq-eqb, eqb_tells, take-append-drop, Level, Machine, BoardClock, board_tick, clock_of, IsValidMachine, board_at, stepper_at, Entry, Switch, Cmd, Meant, commands_of, Rig, Slot, slot_at, takes, takes_all, AllSound, first_state, LinkState, Member, trigger_of, Came}
use Rattle.msg_code.specs.declared.cmd.Cmd.TheVariants as cmd
use Rattle.board_sim.specs.RigRuns.{IsBehindSetUp}
use Rattle.board_sim.proofs.Sound.{takes_sound}
use Rattle.laws_board.specs.turns.Turns.{AreBoardTurns, BoardTurn, stands_after}
use Rattle.laws_board.specs.clocks.Runs.{IsInRun}
use Rattle.laws_board.proofs.clocks.Lines.{as_long, run_before}
use Rattle.laws_homing.specs.home_runs.Sections.{HomesFrom, queued_in_turns}
use Rattle.laws_homing.specs.home_runs.Settled.{SendNoneIn, SetNoClockFrom}
use Rattle.laws_homing.specs.home_runs.SetUps.{AreSetUpInOrder, IsBoundIn, IsInOrder, StopsAt, TookInTurn, far_by}
use Rattle.laws_homing.specs.home_runs.Stages.{no_stage, stage_from}
use Rattle.laws_homing.proofs.clear_boards.Standing.{sound_at}
use Rattle.laws_homing.proofs.home_runs.Joining.{all_queued, small_by}
use Rattle.laws_homing.proofs.home_runs.Ordering.{far_all, order_front, order_rest, taken_in_order}
use Rattle.laws_homing.proofs.home_runs.Staging.{commands_both, stage_append, staged_after, took_in}
use Rattle.laws_homing.proofs.home_runs.Stopping.{EachBehind, HasWhereRuns, behind_parts, stops_in_turns}
use Rattle.laws_homing.proofs.home_runs.Timing.{HasThen, ReadsAtMost, limits_in_turns, sound_along, staged_along_rig}
use Rattle.laws_homing.proofs.home_runs.Whole.{Only, Ready, only_parts, queue_only, ready_on, run_only, run_ready}
use Rattle.laws_homing.proofs.home_runs.Windows.{ordered_after}
use Rattle.axis_homing.proofs.Room.{on-few}
use Rattle.plan_types.proofs.Facts.{not_equal}

-- once the trigger is started nothing sets the clock of the stepper or starts it
max_late : (far : ℕ) → 2 ≤ max far 3
max_late far = grind arith

either_low : (t : Bool) (m n : ℕ) → m ≤ 2 → n ≤ 2 → cond t m n ≤ 2
either_low true m n x y = x
either_low false m n x y = y

either_late : (t : Bool) (m n : ℕ) → 2 ≤ m → 2 ≤ n → 2 ≤ cond t m n
either_late true m n x y = x
either_late false m n x y = y

order_stays : (i j far : ℕ) (c : Cmd) → 2 ≤ far → IsInOrder i j far c → IsBehindSetUp i j c × (2 ≤ far_by i j far c)
order_stays i j far (cmd.ResetStepClock oid clock) late o =
    let other : oid ≡ i → ⊥ = λ e. let l = o e in absurd (omega (arith, l, late)) in
    let same : far_by i j far (cmd.ResetStepClock oid clock) ≡ far = ap (λ (b : Bool). cond b 1 far) (not_equal oid i other) in (other, omega (arith, same, late))
order_stays i j far (cmd.TrsyncStart oid clock every reason) late o =
    let other : oid ≡ j → ⊥ = λ e. let l = o e in absurd (omega (arith, l, late)) in
    let same : far_by i j far (cmd.TrsyncStart oid clock every reason) ≡ far = ap (λ (b : Bool). cond b 2 far) (not_equal oid j other) in (other, omega (arith, same, late))
order_stays i j far (cmd.TrsyncSetTimeout oid clock) late o = (tt, either_late (oid == j) (max far 3) far (max_late far) late)
order_stays i j far (cmd.StepperStopOnTrigger oid other) late o = (tt, either_late ((oid == i) && (other == j)) 4 far (omega arith) late)
order_stays i j far c late o = (tt, late)

pub order_behind : (i j far : ℕ) (ms : List Meant) → 2 ≤ far → AreSetUpInOrder i j far (commands_of ms) → EachBehind i j ms
order_behind i j far [] late o = tt
order_behind i j far (m ∷ ms) late o = let one = order_stays i j far m.command late o.0 in (one.0, order_behind i j (far_by i j far m.command) ms one.1 o.1)

bound_late : (i j far : ℕ) (c : Cmd) → c ≡ cmd.StepperStopOnTrigger i j → 2 ≤ far_by i j far c
bound_late i j far c e =
    let four : far_by i j far c ≡ 4 = ap (far_by i j far) e ∙ ap (λ (b : Bool). cond (b && (j == j)) 4 far) (eq-eqb i i refl) ∙ ap (λ (b : Bool). cond b 4 far) (eq-eqb j j refl) in
    omega (arith, four)

behind_bind : (i j : ℕ) (front : List Meant) (bind : Meant) (behind : List Meant) → bind.command ≡ cmd.StepperStopOnTrigger i j → AreSetUpInOrder i j 0 (commands_of (front ++ bind ∷ behind)) → EachBehind i j behind
behind_bind i j front bind behind is order =
    let rest = order_rest i j 0 (commands_of front) (commands_of (bind ∷ behind)) (subst (AreSetUpInOrder i j 0) (commands_both front (bind ∷ behind)) order) in
    order_behind i j (far_by i j (far_all i j 0 (commands_of front)) bind.command) behind (bound_late i j (far_all i j 0 (commands_of front)) bind.command is) rest.1

-- the board was told of its stepper and its trigger before the section
pub ready_in : (m : Machine) (switches : List Switch) (pins : List (List Level)) (entries : List Entry) (b : ℕ) (came : List Came) (turns early : List BoardTurn) (s from start : ℕ) (ms : List Member) → IsValidMachine m
    → IsInRun m switches pins entries b came (turns ++ early) → HomesFrom m switches from start ms came → length early ≡ from → 0 < length turns → s < length m.steppers → (stepper_at m s).board ≡ b
    → Ready (stage_from (stepper_at m s).oid (trigger_of m b) no_stage (commands_of (queued_in_turns early)))
ready_in m switches pins entries b came [] early s from start ms v r homes long some l e = absurd (omega (arith, some))
ready_in m switches pins entries b [] (t ∷ turns) early s from start ms v r homes long some l e = absurd r.both
ready_in m switches pins entries b (c ∷ before) (t ∷ []) early s from start ms v r homes long some l e =
    let old = run_before m switches pins entries b c before t early r in
    let same = as_long m switches b before early old.both in
    run_ready m switches pins entries b before early s v old (homes.0 (omega (arith, long, same))).0 l e
ready_in m switches pins entries b (c ∷ before) (t ∷ (u ∷ turns)) early s from start ms v r homes long some l e =
    ready_in m switches pins entries b before (u ∷ turns) early s from start ms v (run_before m switches pins entries b c before t ((u ∷ turns) ++ early) r) homes.1 long (omega arith) l e

-- the turns before one
pub turns_before : (clock : BoardClock) (first : LinkState) (later : List BoardTurn) (t : BoardTurn) (past : List BoardTurn) → AreBoardTurns clock first (later ++ t ∷ past) → AreBoardTurns clock first past
turns_before clock first [] t past are = are.1
turns_before clock first (u ∷ later) t past are = turns_before clock first later t past are.1

all_sound : (r : Rig) (cs : List Cmd) → AllSound r → AllSound (takes_all r cs).rig
all_sound r [] k = k
all_sound r (c ∷ cs) k = all_sound (takes r c).rig cs (takes_sound r c k)

pub told_front : (m : Machine) (switches : List Switch) (pins : List (List Level)) (entries : List Entry) (b s : ℕ) (came : List Came) (window early : List BoardTurn) (from start : ℕ) (ms : List Member) (front behind : List Meant) → IsValidMachine m
    → IsInRun m switches pins entries b came (window ++ early) → HomesFrom m switches from start ms came → length early ≡ from → 0 < length window → s < length m.steppers → (stepper_at m s).board ≡ b
    → (stands_after (first_state (board_at m b) pins b entries) (window ++ early)).core.taken ≡ queued_in_turns early ++ (front ++ behind)
    → Ready (stage_from (stepper_at m s).oid (trigger_of m b) (stage_from (stepper_at m s).oid (trigger_of m b) no_stage (commands_of (queued_in_turns early))) (commands_of front))
told_front m switches pins entries b s came window early from start ms front behind v r homes long some small on took =
    let i = (stepper_at m s).oid in
    let j = trigger_of m b in
    let d = board_at m b in
    let turns = window ++ early in
    let own = front ++ behind in
    let h = (stands_after (first_state d pins b entries) turns).core in
    let ready = ready_in m switches pins entries b came window early s from start ms v r homes long some small on in
    let o = ordered_after d pins b entries turns r.turns_are in
    let left = drop (length h.link.taken) h.queued in
    let rest : h.taken ++ left ≡ h.queued = ap (λ (x : List Meant). x ++ left) o.first ∙ take-append-drop (length h.link.taken) h.queued in
    let queue : queued_in_turns turns ≡ (queued_in_turns early ++ own) ++ left = sym (all_queued d pins b entries turns r.turns_are) ∙ sym rest ∙ ap (λ (x : List Meant). x ++ left) took in
    let only : Only j (commands_of (queued_in_turns turns)) = queue_only j turns (run_only m switches pins entries b came turns v r) in
    let only_all : Only j (commands_of (queued_in_turns early ++ own) ++ commands_of left) = subst (Only j) (ap commands_of queue ∙ commands_both (queued_in_turns early ++ own) left) only in
    let only_took : Only j (commands_of (queued_in_turns early) ++ commands_of own) = subst (Only j) (commands_both (queued_in_turns early) own) (only_parts j (commands_of (queued_in_turns early ++ own)) (commands_of left) only_all).0 in
    let only_own : Only j (commands_of front ++ commands_of behind) = subst (Only j) (commands_both front behind) (only_parts j (commands_of (queued_in_turns early)) (commands_of own) only_took).1 in
    ready_on i j (stage_from i j no_stage (commands_of (queued_in_turns early))) (commands_of front) (only_parts j (commands_of front) (commands_of behind) only_own).0 ready

-- the first command that brings a stepper so far sets a timeout
one_timed : (i j far : ℕ) (c : Cmd) → far ≤ 2 → IsInOrder i j far c → (far_by i j far c ≤ 2) ⊎ ((clock : ℕ) × (c ≡ cmd.TrsyncSetTimeout j clock))
one_timed i j far (cmd.ResetStepClock oid clock) low o = inl (either_low (oid == i) 1 far (omega arith) low)
one_timed i j far (cmd.TrsyncStart oid clock every reason) low o = inl (either_low (oid == j) 2 far (omega arith) low)
one_timed i j far (cmd.TrsyncSetTimeout oid clock) low o = elim (eqb_tells oid j) [
  | inl p ↦ inr (clock, ap (λ (n : ℕ). cmd.TrsyncSetTimeout n clock) p.1)
  | inr p ↦ inl (subst (λ (t : Bool). cond t (max far 3) far ≤ 2) (sym p.0) low)
]
one_timed i j far (cmd.StepperStopOnTrigger oid other) low o = elim (eqb_tells oid i) [
  | inl p ↦ absurd (let l = o p.1 in omega (arith, l, low))
  | inr p ↦ inl (subst (λ (t : Bool). cond (t && (other == j)) 4 far ≤ 2) (sym p.0) low)
]
one_timed i j far c low o = inl low

record TimedFront (j : ℕ) (ms : List Meant) : Type 0 where
  front : List Meant
  set : Meant
  middle : List Meant
  clock : ℕ
  are : ms ≡ front ++ set ∷ middle
  is : set.command ≡ cmd.TrsyncSetTimeout j clock

timed_front : (i j far : ℕ) (ms : List Meant) → far ≤ 2 → AreSetUpInOrder i j far (commands_of ms) → 3 ≤ far_all i j far (commands_of ms) → TimedFront j ms
timed_front i j far [] low o so = absurd (omega (arith, low, so))
timed_front i j far (m ∷ ms) low o so = elim (one_timed i j far m.command low o.0) [
  | inl still ↦
      let rest = timed_front i j (far_by i j far m.command) ms still o.1 so in
      record { front = m ∷ rest.front; set = rest.set; middle = rest.middle; clock = rest.clock; are = ap (λ (l : List Meant). m ∷ l) rest.are; is = rest.is }
  | inr now ↦ record { front = []; set = m; middle = ms; clock = now.0; are = refl; is = now.1 }
]

-- a stepper that is bound in a section
module _ (m : Machine) (switches : List Switch) (pins : List (List Level)) (entries : List Entry) (b s : ℕ) (came : List Came) (later : List BoardTurn) (t : BoardTurn) (between early : List BoardTurn) (from start : ℕ) (ms : List Member)
    (v : IsValidMachine m) (x : IsBoundIn m switches pins entries b s came later t between early from start ms) where
  abbrev I : ℕ
  I = (stepper_at m s).oid

  abbrev J : ℕ
  J = trigger_of m b

  abbrev First : LinkState
  First = first_state (board_at m b) pins b entries

  abbrev Past : List BoardTurn
  Past = between ++ early

  abbrev Window : List BoardTurn
  Window = later ++ t ∷ between

  same : Window ++ early ≡ later ++ t ∷ Past
  same = append_assoc later (t ∷ between) early

  run : IsInRun m switches pins entries b came (Window ++ early)
  run = subst (IsInRun m switches pins entries b came) (sym same) x.run_is

  took_run : (stands_after First (Window ++ early)).core.taken ≡ queued_in_turns early ++ (x.front ++ x.bind ∷ x.behind)
  took_run = ap (λ (l : List BoardTurn). (stands_after First l).core.taken) same ∙ x.took

  order : AreSetUpInOrder I J 0 (commands_of (x.front ++ x.bind ∷ x.behind))
  order =
      taken_in_order m switches pins entries b s came Window early from start ms (x.front ++ x.bind ∷ x.behind) run x.homes x.begun x.moves
      (subst (SetNoClockFrom from) (sym same) x.sets_none) (subst (SendNoneIn from (from + 4)) (sym same) x.sends_none) x.long took_run

  some : 0 < length Window
  some = omega (arith, length-append later (t ∷ between))

  oid_few : I < 256
  oid_few = let lengths = length-append Window early in let l = some in small_by m switches pins entries b came (Window ++ early) s from start ms v run x.homes (omega (arith, lengths, l, x.long)) x.there x.on

  few : J < 256
  few = let q = v.steppers_few in omega (arith, on-few b m.steppers, q)

  ready_at : (front behind : List Meant) → x.front ++ x.bind ∷ x.behind ≡ front ++ behind → Ready (stage_from I J no_stage (commands_of (queued_in_turns early ++ front)))
  ready_at front behind e =
      subst Ready (sym (ap (stage_from I J no_stage) (commands_both (queued_in_turns early) front) ∙ stage_append I J no_stage (commands_of (queued_in_turns early)) (commands_of front)))
      (told_front m switches pins entries b s came Window early from start ms front behind v run x.homes x.long some x.there x.on (took_run ∙ ap (λ (l : List Meant). queued_in_turns early ++ l) e))

  pub run_stops : (slot : Slot) → slot_at (stands_after First (later ++ t ∷ Past)).core.board J ≡ Some slot → slot.trigger.can ≡ false → StopsAt m pins entries b s slot.trigger.tick (later ++ t ∷ Past) Past
  run_stops slot there fired =
      let d = board_at m b in
      let before = turns_before (clock_of d) First later t Past x.run_is.turns_are in
      let core = (stands_after First Past).core in
      let has : (f : List Meant) → queued_in_turns early ++ x.front ≡ core.taken ++ f → HasWhereRuns I J (takes_all core.board (commands_of f)).rig =
      λ f e runs.
      let staged = (took_in I J core f oid_few few (staged_after d pins b entries Past I J oid_few few before)).staged runs in
      let now = subst (λ (l : List Meant). Ready (stage_from I J no_stage (commands_of l))) e (ready_at x.front (x.bind ∷ x.behind) refl) in
      let slot_now = staged.there now.there in
      record { sound = all_sound core.board (commands_of f) (sound_at d pins b entries Past before); there = staged.made now.made; slot = slot_now.slot; is = slot_now.is } in
      stops_in_turns (clock_of d) First later t Past I J (queued_in_turns early ++ x.front) x.bind x.behind slot x.run_is.turns_are
      (x.took ∙ sym (append_assoc (queued_in_turns early) x.front (x.bind ∷ x.behind))) x.is x.in_turn (behind_bind I J x.front x.bind x.behind x.is order) has there fired

  pub run_limits : (most : ℕ) → ReadsAtMost (board_tick (clock_of (board_at m b))) J most (length (queued_in_turns early)) First (later ++ t ∷ Past) → StopsAt m pins entries b s most (later ++ t ∷ Past) Past
  run_limits most reads =
      let d = board_at m b in
      let whole = subst (AreSetUpInOrder I J 0) (commands_both x.front (x.bind ∷ x.behind)) order in
      let at_bind = subst (IsInOrder I J (far_all I J 0 (commands_of x.front))) x.is (order_rest I J 0 (commands_of x.front) (commands_of (x.bind ∷ x.behind)) whole).0 in
      let f = timed_front I J 0 x.front (omega arith) (order_front I J 0 (commands_of x.front) (commands_of (x.bind ∷ x.behind)) whole) (at_bind refl) in
      let rest = f.middle ++ x.bind ∷ x.behind in
      let parts : x.front ++ x.bind ∷ x.behind ≡ f.front ++ f.set ∷ rest = ap (λ (l : List Meant). l ++ x.bind ∷ x.behind) f.are ∙ append_assoc f.front (f.set ∷ f.middle) (x.bind ∷ x.behind) in
      let far = far_all I J 0 (commands_of f.front) in
      let tail = order_rest I J 0 (commands_of f.front) (commands_of (f.set ∷ rest)) (subst (AreSetUpInOrder I J 0) (commands_both f.front (f.set ∷ rest)) (subst (λ (l : List Meant). AreSetUpInOrder I J 0 (commands_of l)) parts order)) in
      let set_now : IsInOrder I J far (cmd.TrsyncSetTimeout J f.clock) = subst (IsInOrder I J far) f.is tail.0 in
      let late = order_stays I J far f.set.command (set_now refl) tail.0 in
      let apart = behind_parts I J f.middle (x.bind ∷ x.behind) (order_behind I J (far_by I J far f.set.command) rest late.1 tail.1) in
      let has : HasThen I J (queued_in_turns early ++ f.front) First =
      λ ss w e runs.
      let staged = (staged_along_rig I J ss First.core.board [] oid_few few w (staged_after d pins b entries [] I J oid_few few tt)).staged runs in
      let now = subst (λ (l : List Cmd). Ready (stage_from I J no_stage l)) (sym e) (ready_at f.front (f.set ∷ rest) parts) in
      let slot_now = staged.there now.there in
      record { sound = sound_along ss First.core.board w (sound_at d pins b entries [] tt); there = staged.made now.made; slot = slot_now.slot; is = slot_now.is } in
      let to_set : queued_in_turns early ++ x.front ≡ (queued_in_turns early ++ f.front) ++ f.set ∷ f.middle = ap (λ (l : List Meant). queued_in_turns early ++ l) f.are ∙ sym (append_assoc (queued_in_turns early) f.front (f.set ∷ f.middle)) in
      limits_in_turns d pins b entries later t Past I J most (length (queued_in_turns early)) f.clock (queued_in_turns early ++ f.front) f.set f.middle x.bind x.behind x.run_is.turns_are
      (x.took ∙ sym (append_assoc (queued_in_turns early) x.front (x.bind ∷ x.behind)) ∙ ap (λ (l : List Meant). l ++ x.bind ∷ x.behind) to_set) f.is x.is
      (subst (λ (l : List Meant). TookInTurn First l t Past) to_set x.in_turn) apart.0 apart.1.1 reads (let l = length-append (queued_in_turns early) f.front in omega (arith, l)) has
