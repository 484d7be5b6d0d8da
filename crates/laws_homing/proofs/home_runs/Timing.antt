-- A stepper that is bound behind its trigger's first timeout makes no pulse at or behind the tick up to which the timeouts are read.
use Rattle.std.proofs.Common.{◌≡◌, ℕ, suc, ◌+◌, ◌<◌, ◌≤◌, Bool, true, false, cond, List, [], ◌∷◌, ◌++◌, length, map, refl, ap, sym, ◌∙◌, subst, arith, inl, inr, append_assoc, append-nil, length-append, rules}
use Rattle.std.specs.Prelude.{nat_le}
use Rattle.laws_board.proofs.Names.{leb_tells, Level, BoardDef, Running, Pulse, board_tick, clock_of, Entry, Cmd, Meant, commands_of, Rig, all_left, pass, passes, takes, AllSound, Event, Core, Do, Step, Turn, after_event, in_turn, run_world, takes_in, first_state, orders, LinkState, run_append}
use Rattle.msg_code.specs.declared.cmd.Cmd.TheVariants as cmd
use Rattle.board_sim.specs.RigRuns.{AllBefore, AreBehindSetUp, AreTimely, IsBehindSetUp, IsTimely, Passes, RigStep, Takes, all_made, rig_after, rig_after_all}
use Rattle.board_sim.proofs.RigStates.{all_tick}
use Rattle.board_sim.proofs.Sound.{passes_sound, takes_sound}
use Rattle.board_world.specs.declared.event.Event.TheVariants as event
use Rattle.link_work.proofs.Steps.{AllOf}
use Rattle.laws_board.specs.turns.Turns.{AreBoardTurns, BoardTurn, stands_after}
use Rattle.laws_board.specs.groups.Homing.{HasBoth, timed_and_bound}
use Rattle.laws_board.proofs.groups.Grouped.{after_both, bound_in_time}
use Rattle.laws_board.proofs.groups.Timed.{runs_or_shut, stays_shut}
use Rattle.laws_homing.specs.home_runs.SetUps.{TookInTurn}
use Rattle.laws_homing.proofs.clear_boards.Standing.{tick_is}
use Rattle.laws_homing.proofs.home_runs.Staging.{StagedBy, commands_both, time_staged, took_staged}
use Rattle.laws_homing.proofs.home_runs.Stopping.{EachBehind, TakesNone, TurnParts, event_board, fits, held_steps, made_both, rig_append, rig_in, rig_steps, steps_board, steps_made, takes_both, takes_none, took, took_is, took_none, turn_parts}

-- the commands in what comes to a board
abbrev pub commands_in : List RigStep → List Cmd
commands_in [] = []
commands_in (Takes c ∷ ss) = c ∷ commands_in ss
commands_in (Passes n t ∷ ss) = commands_in ss

in_both : (xs ys : List RigStep) → commands_in (xs ++ ys) ≡ commands_in xs ++ commands_in ys
in_both [] ys = refl
in_both (Takes c ∷ xs) ys = ap (λ (cs : List Cmd). c ∷ cs) (in_both xs ys)
in_both (Passes n t ∷ xs) ys = in_both xs ys

in_takes : (cs : List Cmd) → commands_in (map Takes cs) ≡ cs
in_takes [] = refl
in_takes (c ∷ cs) = ap (λ (x : List Cmd). c ∷ x) (in_takes cs)

in_time : (b : Bool) (n t : ℕ) → commands_in (cond b (Passes n t ∷ []) []) ≡ []
in_time true n t = refl
in_time false n t = refl

in_event : (h : Core) (e : Event) → commands_in (rig_in h e) ≡ commands_of (takes_in h e)
in_event h (event.Pass t) = in_time (nat_le h.board.controller.tick t) (all_left t h.board.triggers + 1) t
in_event h e = in_takes (commands_of (takes_in h e))

in_steps : (steps : List Step) (h : Core) → commands_in (rig_steps steps h) ≡ commands_of (took steps h)
in_steps [] h = refl
in_steps (Do e ∷ steps) h =
    in_both (rig_in h e) (rig_steps steps (after_event h e)) ∙ ap (λ (x : List Cmd). x ++ commands_in (rig_steps steps (after_event h e))) (in_event h e)
    ∙ ap (λ (x : List Cmd). commands_of (takes_in h e) ++ x) (in_steps steps (after_event h e)) ∙ sym (commands_both (takes_in h e) (took steps (after_event h e)))
in_steps (Turn turn ∷ steps) h = in_steps steps (in_turn h turn)

-- what comes, up to a command and behind it
record Split (ss : List RigStep) (front : List Cmd) (c : Cmd) (behind : List Cmd) : Type 0 where
  early : List RigStep
  late : List RigStep
  are : ss ≡ early ++ Takes c ∷ late
  before : commands_in early ≡ front
  after : commands_in late ≡ behind

cons_is : (x y : Cmd) (xs ys : List Cmd) → x ∷ xs ≡ y ∷ ys → (x ≡ y) × (xs ≡ ys)
cons_is x y xs ys e = (cc, cc)

split : (ss : List RigStep) (front : List Cmd) (c : Cmd) (behind : List Cmd) → commands_in ss ≡ front ++ c ∷ behind → Split ss front c behind
split [] [] c behind e = absurd (let l = ap length e in omega (arith, l))
split [] (x ∷ front) c behind e = absurd (let l = ap length e in omega (arith, l))
split (Takes d ∷ ss) [] c behind e =
    let both = cons_is d c (commands_in ss) behind e in
    record { early = []; late = ss; are = ap (λ (x : Cmd). Takes x ∷ ss) both.0; before = refl; after = both.1 }
split (Takes d ∷ ss) (x ∷ front) c behind e =
    let both = cons_is d x (commands_in ss) (front ++ c ∷ behind) e in
    let rest = split ss front c behind both.1 in
    record { early = Takes d ∷ rest.early; late = rest.late; are = ap (λ (y : List RigStep). Takes d ∷ y) rest.are; before = ap (λ (y : List Cmd). d ∷ y) rest.before ∙ ap (λ (y : Cmd). y ∷ front) both.0; after = rest.after }
split (Passes n t ∷ ss) front c behind e =
    let rest = split ss front c behind e in
    record { early = Passes n t ∷ rest.early; late = rest.late; are = ap (λ (y : List RigStep). Passes n t ∷ y) rest.are; before = rest.before; after = rest.after }

-- commands that neither start the trigger nor set the clock
abbrev EachSo : ℕ → ℕ → List Cmd → Type 0
EachSo i j [] = Unit {0}
EachSo i j (c ∷ cs) = IsBehindSetUp i j c × EachSo i j cs

so_each : (i j : ℕ) (ms : List Meant) → EachBehind i j ms → EachSo i j (commands_of ms)
so_each i j [] b = tt
so_each i j (m ∷ ms) b = (b.0, so_each i j ms b.1)

behind_by : (i j : ℕ) (ss : List RigStep) → EachSo i j (commands_in ss) → AreBehindSetUp i j ss
behind_by i j [] b = tt
behind_by i j (Takes c ∷ ss) b = (b.0, behind_by i j ss b.1)
behind_by i j (Passes n t ∷ ss) b = behind_by i j ss b

-- each stretch of time is long enough for all that may happen in it, and goes no further back
abbrev pub AreWhole : Rig → List RigStep → Type 0
AreWhole r [] = Unit {0}
AreWhole r (Takes c ∷ ss) = AreWhole (rig_after r (Takes c)) ss
AreWhole r (Passes n t ∷ ss) = (n ≡ all_left t r.triggers + 1) × (r.controller.tick ≤ t) × AreWhole (rig_after r (Passes n t)) ss

whole_both : (xs ys : List RigStep) (r : Rig) → AreWhole r xs → AreWhole (rig_after_all xs r) ys → AreWhole r (xs ++ ys)
whole_both [] ys r a b = b
whole_both (Takes c ∷ xs) ys r a b = whole_both xs ys (rig_after r (Takes c)) a b
whole_both (Passes n t ∷ xs) ys r a b = (a.0, a.1, whole_both xs ys (rig_after r (Passes n t)) a.2 b)

whole_front : (xs ys : List RigStep) (r : Rig) → AreWhole r (xs ++ ys) → AreWhole r xs
whole_front [] ys r a = tt
whole_front (Takes c ∷ xs) ys r a = whole_front xs ys (rig_after r (Takes c)) a
whole_front (Passes n t ∷ xs) ys r a = (a.0, a.1, whole_front xs ys (rig_after r (Passes n t)) a.2)

takes_whole : (cs : List Cmd) (r : Rig) → AreWhole r (map Takes cs)
takes_whole [] r = tt
takes_whole (c ∷ cs) r = takes_whole cs (rig_after r (Takes c))

event_whole : (h : Core) (e : Event) → AreWhole h.board (rig_in h e)
event_whole h (event.Pass t) = elim (leb_tells h.board.controller.tick t) [ inl p ↦ rw p.0 (refl, p.1, tt) | inr p ↦ rw p.0 tt ]
event_whole h e = takes_whole (commands_of (takes_in h e)) h.board

steps_whole : (steps : List Step) (h : Core) → AreWhole h.board (rig_steps steps h)
steps_whole [] h = tt
steps_whole (Do e ∷ steps) h =
    whole_both (rig_in h e) (rig_steps steps (after_event h e)) h.board (event_whole h e) (subst (λ (r : Rig). AreWhole r (rig_steps steps (after_event h e))) (event_board h e) (steps_whole steps (after_event h e)))
steps_whole (Turn turn ∷ steps) h = steps_whole steps (in_turn h turn)

whole_pass : (n t : ℕ) (r : Rig) → n ≡ all_left t r.triggers + 1 → r.controller.tick ≤ t → (passes r t).rig ≡ (pass n r t).rig
whole_pass n t r e l = elim (leb_tells r.controller.tick t) [ inl p ↦ rw p.0 (ap (λ (k : ℕ). (pass k r t).rig) (sym e)) | inr p ↦ absurd (omega (arith, l, p.1)) ]

pub sound_along : (ss : List RigStep) (r : Rig) → AreWhole r ss → AllSound r → AllSound (rig_after_all ss r)
sound_along [] r w k = k
sound_along (Takes c ∷ ss) r w k = sound_along ss (takes r c).rig w (takes_sound r c k)
sound_along (Passes n t ∷ ss) r w k = sound_along ss (pass n r t).rig w.2 (subst AllSound (whole_pass n t r w.0 w.1) (passes_sound r t k w.1))

pub staged_along_rig : (i j : ℕ) (ss : List RigStep) (r : Rig) (done : List Cmd) → i < 256 → j < 256 → AreWhole r ss → StagedBy i j done r → StagedBy i j (done ++ commands_in ss) (rig_after_all ss r)
staged_along_rig i j [] r done li lj w k = subst (λ (cs : List Cmd). StagedBy i j cs r) (sym (append-nil done)) k
staged_along_rig i j (Takes c ∷ ss) r done li lj w k =
    subst (λ (cs : List Cmd). StagedBy i j cs (rig_after_all ss (takes r c).rig)) (append_assoc done (c ∷ []) (commands_in ss))
    (staged_along_rig i j ss (takes r c).rig (done ++ c ∷ []) li lj w (took_staged i j done r (c ∷ []) li lj k))
staged_along_rig i j (Passes n t ∷ ss) r done li lj w k =
    staged_along_rig i j ss (pass n r t).rig done li lj w.2 (subst (StagedBy i j done) (whole_pass n t r w.0 w.1) (time_staged i j done r t k))

-- each timeout that a board takes for a trigger in some turns, but for its first n commands, it reads as a tick that is
-- at most another: the nearest one with its clock, as it stands at its own tick of the turn
abbrev pub ReadsAtMost : (own : ℕ → ℕ) → ℕ → ℕ → ℕ → LinkState → List BoardTurn → Type 0
ReadsAtMost own trigger most n first [] = Unit {0}
ReadsAtMost own trigger most n first (t ∷ before) =
    ((front : List Meant) (m : Meant) (behind : List Meant) → t.after.core.taken ≡ front ++ m ∷ behind
    → length (stands_after first before).core.taken ≤ length front → n ≤ length front
    → IsTimely (own (length before)) trigger most m.command)
    × ReadsAtMost own trigger most n first before

-- timeouts that are read in time, of commands of which so many were taken before, but for the first n of them
abbrev AreLate : ℕ → ℕ → ℕ → ℕ → Rig → List RigStep → Type 0
AreLate n place j most r [] = Unit {0}
AreLate n place j most r (Takes c ∷ ss) = (n ≤ place → IsTimely r.controller.tick j most c) × AreLate n (place + 1) j most (rig_after r (Takes c)) ss
AreLate n place j most r (Passes u t ∷ ss) = AreLate n place j most (rig_after r (Passes u t)) ss

late_both : (n place k : ℕ) (xs ys : List RigStep) (j most : ℕ) (r : Rig) → place + length (commands_in xs) ≡ k → AreLate n place j most r xs → AreLate n k j most (rig_after_all xs r) ys → AreLate n place j most r (xs ++ ys)
late_both n place k [] ys j most r e a b = let same : k ≡ place = omega (arith, e) in subst (λ (p : ℕ). AreLate n p j most r ys) same b
late_both n place k (Takes c ∷ xs) ys j most r e a b = (a.0, late_both n (place + 1) k xs ys j most (rig_after r (Takes c)) (omega (arith, e)) a.1 b)
late_both n place k (Passes u t ∷ xs) ys j most r e a b = late_both n place k xs ys j most (rig_after r (Passes u t)) e a b

late_parts : (n place : ℕ) (xs ys : List RigStep) (j most : ℕ) (r : Rig) → n ≤ place + length (commands_in xs) → AreLate n place j most r (xs ++ ys) → AreTimely j most (rig_after_all xs r) ys
late_parts n place [] [] j most r l t = tt
late_parts n place [] (Takes c ∷ ys) j most r l t = (t.0 (omega (arith, l)), late_parts n (place + 1) [] ys j most (rig_after r (Takes c)) (omega (arith, l)) t.1)
late_parts n place [] (Passes u v ∷ ys) j most r l t = late_parts n place [] ys j most (rig_after r (Passes u v)) l t
late_parts n place (Takes c ∷ xs) ys j most r l t = late_parts n (place + 1) xs ys j most (rig_after r (Takes c)) (omega (arith, l)) t.1
late_parts n place (Passes u v ∷ xs) ys j most r l t = late_parts n place xs ys j most (rig_after r (Passes u v)) l t

takes_late : (all done ms : List Meant) (low n : ℕ) (r : Rig) (now j most : ℕ) → r.controller.tick ≡ now
    → ((front : List Meant) (m : Meant) (behind : List Meant) → all ≡ front ++ m ∷ behind → low ≤ length front → n ≤ length front → IsTimely now j most m.command)
    → all ≡ done ++ ms → low ≤ length done → AreLate n (length done) j most r (map Takes (commands_of ms))
takes_late all done [] low n r now j most e reads is far = tt
takes_late all done (m ∷ ms) low n r now j most e reads is far =
    let long = length-append done (m ∷ []) in
    let next : length (done ++ m ∷ []) ≡ length done + 1 = omega (arith, long) in (
      λ l. subst (λ (k : ℕ). IsTimely k j most m.command) (sym e) (reads done m ms is far l),
      subst (λ (k : ℕ). AreLate n k j most (takes r m.command).rig (map Takes (commands_of ms))) next
          (takes_late all (done ++ m ∷ []) ms low n (takes r m.command).rig now j most (all_tick r (m.command ∷ []) ∙ e) reads (is ∙ sym (append_assoc done (m ∷ []) ms)) (omega (arith, next, far))),
    )

time_late : (b : Bool) (u t n place j most : ℕ) (r : Rig) → AreLate n place j most r (cond b (Passes u t ∷ []) [])
time_late true u t n place j most r = tt
time_late false u t n place j most r = tt

event_late : (h : Core) (e : Event) (n place j most : ℕ) (r : Rig) → takes_in h e ≡ [] → AreLate n place j most r (rig_in h e)
event_late h (event.Pass t) n place j most r none = time_late (nat_le h.board.controller.tick t) (all_left t h.board.triggers + 1) t n place j most r
event_late h e n place j most r none = subst (λ (ms : List Meant). AreLate n place j most r (map Takes (commands_of ms))) (sym none) tt

none_late : (steps : List Step) (h : Core) (n place j most : ℕ) (r : Rig) → AllOf TakesNone steps → AreLate n place j most r (rig_steps steps h)
none_late [] h n place j most r k = tt
none_late (Do e ∷ steps) h n place j most r k =
    late_both n place (place + length (commands_in (rig_in h e))) (rig_in h e) (rig_steps steps (after_event h e)) j most r refl (event_late h e n place j most r (k.0 h))
    (none_late steps (after_event h e) n (place + length (commands_in (rig_in h e))) j most (rig_after_all (rig_in h e) r) k.1)
none_late (Turn turn ∷ steps) h n place j most r k = none_late steps (in_turn h turn) n place j most r k.1

-- so many commands are taken in some steps
commands_many : (ms : List Meant) → length (commands_of ms) ≡ length ms
commands_many [] = refl
commands_many (m ∷ ms) = ap suc (commands_many ms)

places : (steps : List Step) (h : Core) → length h.taken + length (commands_in (rig_steps steps h)) ≡ length (run_world steps h).taken
places steps h = search (rules, took_is, length-append, in_steps, commands_many)

-- a turn, in which timeouts are read in time
abbrev LateTurn : ℕ → ℕ → ℕ → Core → List Step → Type 0
LateTurn n j most h steps = AreLate n (length h.taken) j most h.board (rig_steps steps h)

one_timely : (b : BoardDef) (pins : List (List Level)) (place : ℕ) (entries : List Entry) (n j most : ℕ) (t : BoardTurn) (before : List BoardTurn) → AreBoardTurns (clock_of b) (first_state b pins place entries) (t ∷ before)
    → ReadsAtMost (board_tick (clock_of b)) j most n (first_state b pins place entries) (t ∷ before)
    → (p : TurnParts (stands_after (first_state b pins place entries) before) t.after) × LateTurn n j most (stands_after (first_state b pins place entries) before).core (p.held ++ p.on)
one_timely b pins place entries n j most t before are reads =
    let first = first_state b pins place entries in
    let clock = clock_of b in
    let l = stands_after first before in
    let p = turn_parts clock (length before) (orders t.control t.batch) l t.after are.0.0 in
    let h = l.core in
    let g = run_world p.held h in
    let new = took p.held h in
    let taken : t.after.core.taken ≡ h.taken ++ new =
    ap (λ (x : Core). x.taken) p.is ∙ took_is p.on g ∙ ap (λ (ms : List Meant). g.taken ++ ms) (took_none p.on g p.none) ∙ append-nil g.taken ∙ took_is p.held h in
    let now = takes_late t.after.core.taken h.taken new (length h.taken) n h.board (board_tick clock (length before)) j most (tick_is b pins place entries before are.1) reads.0 taken (omega arith) in (
      p,
      subst (AreLate n (length h.taken) j most h.board) (sym (rig_append p.held p.on h))
          (late_both n (length h.taken) (length g.taken) (rig_steps p.held h) (rig_steps p.on g) j most h.board (places p.held h)
          (subst (AreLate n (length h.taken) j most h.board) (sym (held_steps p.held h p.holds)) now)
          (none_late p.on g n (length g.taken) j most (rig_after_all (rig_steps p.held h) h.board) p.none)),
    )

steps_late : (n j most : ℕ) (xs ys : List Step) (h : Core) → LateTurn n j most h xs → LateTurn n j most (run_world xs h) ys → LateTurn n j most h (xs ++ ys)
steps_late n j most xs ys h a b = search (rules, run_world, rig_append, late_both, places, steps_board)

-- the steps of some turns behind others
record LaterSteps (first : LinkState) (n j most : ℕ) (later past : List BoardTurn) : Type 0 where
  steps : List Step
  is : (stands_after first (later ++ past)).core ≡ run_world steps (stands_after first past).core
  timely : LateTurn n j most (stands_after first past).core steps

later_timely : (b : BoardDef) (pins : List (List Level)) (place : ℕ) (entries : List Entry) (n j most : ℕ) (later past : List BoardTurn) → AreBoardTurns (clock_of b) (first_state b pins place entries) (later ++ past)
    → ReadsAtMost (board_tick (clock_of b)) j most n (first_state b pins place entries) (later ++ past) → LaterSteps (first_state b pins place entries) n j most later past
later_timely b pins place entries n j most [] past are reads = record { steps = []; is = refl; timely = tt }
later_timely b pins place entries n j most (t ∷ later) past are reads =
    let first = first_state b pins place entries in
    let base = (stands_after first past).core in
    let old = later_timely b pins place entries n j most later past are.1 reads.1 in
    let h = (stands_after first (later ++ past)).core in
    let x = one_timely b pins place entries n j most t (later ++ past) are reads in
    let one = x.0.held ++ x.0.on in
    record {
      steps = old.steps ++ one;
      is = x.0.is ∙ sym (run_append x.0.held x.0.on h) ∙ ap (run_world one) old.is ∙ sym (run_append old.steps one base);
      timely = steps_late n j most old.steps one base old.timely (subst (λ (y : Core). LateTurn n j most y one) old.is x.1);
    }

far_enough : (n : ℕ) (ss : List RigStep) (front : List Meant) → n ≤ length front → commands_in ss ≡ commands_of front → n ≤ 0 + length (commands_in ss)
far_enough n ss front far e = let l = ap length e in let k = commands_many front in omega (arith, far, l, k)

-- what is asked of a board that took its first commands so
abbrev pub HasThen : ℕ → ℕ → List Meant → LinkState → Type 0
HasThen i j front first = (ss : List RigStep) → AreWhole first.core.board ss → commands_in ss ≡ commands_of front → (rig_after_all ss first.core.board).controller.state ≡ Running → HasBoth i j (rig_after_all ss first.core.board)

limits_by : (r : Rig) (between behind : List RigStep) (i j most c : ℕ) → (r.controller.state ≡ Running → HasBoth i j r) → AreBehindSetUp i j (between ++ behind) → AreTimely j most r (timed_and_bound i j c between ++ behind)
    → AllBefore i most (all_made behind (rig_after_all (timed_and_bound i j c between) r))
limits_by r between behind i j most c has apart timely = elim (runs_or_shut r) [
  | inl runs ↦ bound_in_time r between behind i j most c (has runs) apart timely
  | inr shut ↦ subst (AllBefore i most) (sym (stays_shut behind (rig_after_all (timed_and_bound i j c between) r) (stays_shut (timed_and_bound i j c between) r shut).0).1) tt
]

so_parts : (i j : ℕ) (xs ys : List Cmd) → EachSo i j xs → EachSo i j ys → EachSo i j (xs ++ ys)
so_parts i j [] ys a b = b
so_parts i j (x ∷ xs) ys a b = (a.0, so_parts i j xs ys a.1 b)

pub limits_in_turns : (b : BoardDef) (pins : List (List Level)) (place : ℕ) (entries : List Entry) (later : List BoardTurn) (t : BoardTurn) (past : List BoardTurn) (i j most n c : ℕ) (front : List Meant) (set : Meant) (between : List Meant) (bind : Meant) (behind : List Meant)
    → AreBoardTurns (clock_of b) (first_state b pins place entries) (later ++ t ∷ past)
    → (stands_after (first_state b pins place entries) (later ++ t ∷ past)).core.taken ≡ (front ++ set ∷ between) ++ bind ∷ behind → set.command ≡ cmd.TrsyncSetTimeout j c → bind.command ≡ cmd.StepperStopOnTrigger i j
    → TookInTurn (first_state b pins place entries) (front ++ set ∷ between) t past → EachBehind i j between → EachBehind i j behind → ReadsAtMost (board_tick (clock_of b)) j most n (first_state b pins place entries) (later ++ t ∷ past)
    → n ≤ length front → HasThen i j front (first_state b pins place entries)
    → (pulses : List Pulse) × ((stands_after (first_state b pins place entries) past).core.made ++ pulses ≡ (stands_after (first_state b pins place entries) (later ++ t ∷ past)).core.made) × AllBefore i most pulses
limits_in_turns b pins place entries later t past i j most n c front set between bind behind are taken set_is bind_is here apart_between apart_behind reads far has =
    let first = first_state b pins place entries in
    let clock = clock_of b in
    let c0 = first.core in
    let mine = turns_from later are in
    let my_reads = reads_from later reads in
    let old = whole_past past mine.1 my_reads.1 in
    let h = (stands_after first past).core in
    let x = one_timely b pins place entries n j most t past mine my_reads in
    let p = x.0 in
    let g = run_world p.held h in
    let m = t.after.core in
    let rest = later_timely b pins place entries n j most later (t ∷ past) are reads in
    let tail = p.on ++ rest.steps in
    let all = p.held ++ tail in
    let whole_list = front ++ set ∷ between in
    let last : (stands_after first (later ++ t ∷ past)).core ≡ run_world all h =
    rest.is ∙ ap (λ (y : Core). run_world rest.steps y) p.is ∙ sym (run_append p.on rest.steps g) ∙ sym (run_append p.held tail h) in
    let new = took p.held h in
    let new_is : g.taken ≡ h.taken ++ new = took_is p.held h in
    let same : m.taken ≡ g.taken = ap (λ (y : Core). y.taken) p.is ∙ took_is p.on g ∙ ap (λ (ms : List Meant). g.taken ++ ms) (took_none p.on g p.none) ∙ append-nil g.taken in
    let after = took tail g in
    let total : g.taken ++ after ≡ whole_list ++ bind ∷ behind =
    sym (took_is tail g) ∙ ap (λ (y : Core). y.taken) (sym (run_append p.held tail h)) ∙ ap (λ (y : Core). y.taken) (sym last) ∙ taken in
    let one = fits (whole_list ++ bind ∷ []) behind g.taken after (append_assoc whole_list (bind ∷ []) behind ∙ sym total) (omega (arith, here.1, ap length same, length-append whole_list (bind ∷ []))) in
    let more = one.0 in
    let two = fits h.taken new whole_list (bind ∷ more) (sym new_is ∙ one.1 ∙ append_assoc whole_list (bind ∷ []) more) here.0 in
    let f = two.0 in
    let stop = cmd.StepperStopOnTrigger i j in
    let behind_steps = map Takes (commands_of more) ++ rig_steps tail g in
    let rigs : rig_steps all h ≡ map Takes (commands_of f) ++ Takes stop ∷ behind_steps =
    rig_append p.held tail h ∙ ap (λ (y : List RigStep). y ++ rig_steps tail g) (held_steps p.held h p.holds ∙ ap (λ (ms : List Meant). map Takes (commands_of ms)) two.2 ∙ takes_both f (bind ∷ more))
    ∙ append_assoc (map Takes (commands_of f)) (Takes bind.command ∷ map Takes (commands_of more)) (rig_steps tail g) ∙ ap (λ (y : Cmd). map Takes (commands_of f) ++ Takes y ∷ behind_steps) bind_is in
    let past_steps = rig_steps old.0 c0 in
    let early = past_steps ++ map Takes (commands_of f) in
    let board_is : h.board ≡ rig_after_all past_steps c0.board = ap (λ (y : Core). y.board) old.1 ∙ steps_board old.0 c0 in
    let early_commands : commands_in early ≡ commands_of front ++ set.command ∷ commands_of between =
    in_both past_steps (map Takes (commands_of f)) ∙ ap (λ (y : List Cmd). y ++ commands_in (map Takes (commands_of f))) (in_steps old.0 c0) ∙ ap (λ (y : List Cmd). commands_of (took old.0 c0) ++ y) (in_takes (commands_of f))
    ∙ sym (commands_both (took old.0 c0) f) ∙ ap (λ (y : List Meant). commands_of (y ++ f)) (sym (ap (λ (y : Core). y.taken) old.1 ∙ took_is old.0 c0)) ∙ ap commands_of (sym two.1) ∙ commands_both front (set ∷ between) in
    let s = split early (commands_of front) set.command (commands_of between) early_commands in
    let r1 = rig_after_all s.early c0.board in
    let r2 = rig_after_all early c0.board in
    let whole_steps : AreWhole c0.board early =
    whole_both past_steps (map Takes (commands_of f)) c0.board (steps_whole old.0 c0) (takes_whole (commands_of f) (rig_after_all past_steps c0.board)) in
    let r1_has = has s.early (whole_front s.early (Takes set.command ∷ s.late) c0.board (subst (AreWhole c0.board) s.are whole_steps)) s.before in
    let timely_all : AreLate n 0 j most c0.board (early ++ Takes stop ∷ behind_steps) =
    let now = steps_late n j most (p.held ++ p.on) rest.steps h x.1 (subst (λ (y : Core). LateTurn n j most y rest.steps) (p.is ∙ sym (run_append p.held p.on h)) rest.timely) in
    let joined = steps_late n j most old.0 ((p.held ++ p.on) ++ rest.steps) c0 old.2 (subst (λ (y : Core). LateTurn n j most y ((p.held ++ p.on) ++ rest.steps)) old.1 now) in
    subst (AreLate n 0 j most c0.board)
    (rig_append old.0 ((p.held ++ p.on) ++ rest.steps) c0 ∙ ap (λ (y : Core). past_steps ++ rig_steps ((p.held ++ p.on) ++ rest.steps) y) (sym old.1) ∙ ap (λ (y : List Step). past_steps ++ rig_steps y h) (append_assoc p.held p.on rest.steps)
    ∙ ap (λ (y : List RigStep). past_steps ++ y) rigs ∙ sym (append_assoc past_steps (map Takes (commands_of f)) (Takes stop ∷ behind_steps))) joined in
    let parted : early ++ Takes stop ∷ behind_steps ≡ s.early ++ (timed_and_bound i j c s.late ++ behind_steps) =
    ap (λ (y : List RigStep). y ++ Takes stop ∷ behind_steps) s.are ∙ append_assoc s.early (Takes set.command ∷ s.late) (Takes stop ∷ behind_steps)
    ∙ ap (λ (y : Cmd). s.early ++ (Takes y ∷ (s.late ++ Takes stop ∷ behind_steps))) set_is
    ∙ ap (λ (y : List RigStep). s.early ++ (Takes (cmd.TrsyncSetTimeout j c) ∷ y)) (sym (append_assoc s.late (Takes stop ∷ []) behind_steps)) in
    let timely = late_parts n 0 s.early (timed_and_bound i j c s.late ++ behind_steps) j most c0.board ((far_enough n s.early front far s.before)) (subst (AreLate n 0 j most c0.board) parted timely_all) in
    let late_commands : commands_in (s.late ++ behind_steps) ≡ commands_of between ++ commands_of behind =
    in_both s.late behind_steps ∙ ap (λ (y : List Cmd). y ++ commands_in behind_steps) s.after
    ∙ ap (λ (y : List Cmd). commands_of between ++ y) (in_both (map Takes (commands_of more)) (rig_steps tail g) ∙ ap (λ (y : List Cmd). y ++ commands_in (rig_steps tail g)) (in_takes (commands_of more))
    ∙ ap (λ (y : List Cmd). commands_of more ++ y) (in_steps tail g) ∙ sym (commands_both more after) ∙ ap commands_of (sym one.2)) in
    let apart = behind_by i j (s.late ++ behind_steps) (subst (EachSo i j) (sym late_commands) (so_parts i j (commands_of between) (commands_of behind) (so_each i j between apart_between) (so_each i j behind apart_behind))) in
    let limited = limits_by r1 s.late behind_steps i j most c r1_has apart timely in
    let r1_on : rig_after_all (timed_and_bound i j c s.late) r1 ≡ (takes r2 stop).rig =
    after_both (Takes (cmd.TrsyncSetTimeout j c) ∷ s.late) (Takes stop ∷ []) r1
    ∙ ap (λ (r : Rig). (takes r stop).rig) (ap (λ (y : Cmd). rig_after_all (Takes y ∷ s.late) r1) (sym set_is) ∙ sym (after_both s.early (Takes set.command ∷ s.late) c0.board) ∙ ap (λ (y : List RigStep). rig_after_all y c0.board) (sym s.are)) in
    let at_bind : rig_after_all (map Takes (commands_of f)) h.board ≡ r2 = ap (rig_after_all (map Takes (commands_of f))) board_is ∙ sym (after_both past_steps (map Takes (commands_of f)) c0.board) in
    let made : (stands_after first (later ++ t ∷ past)).core.made ≡ h.made ++ all_made (Takes stop ∷ behind_steps) r2 =
    ap (λ (y : Core). y.made) last ∙ steps_made all h ∙ ap (λ (y : List RigStep). h.made ++ all_made y h.board) rigs
    ∙ ap (λ (ps : List Pulse). h.made ++ ps) (made_both (map Takes (commands_of f)) (Takes stop ∷ behind_steps) h.board ∙ ap (λ (ps : List Pulse). ps ++ all_made (Takes stop ∷ behind_steps) (rig_after_all (map Takes (commands_of f)) h.board)) (takes_none h.board (commands_of f))
    ∙ ap (all_made (Takes stop ∷ behind_steps)) at_bind) in
    (all_made (Takes stop ∷ behind_steps) r2, sym made, subst (λ (r : Rig). AllBefore i most (all_made behind_steps r)) r1_on limited)
  where
    turns_from : (later : List BoardTurn) → AreBoardTurns (clock_of b) (first_state b pins place entries) (later ++ t ∷ past) → AreBoardTurns (clock_of b) (first_state b pins place entries) (t ∷ past)
    turns_from [] are = are
    turns_from (u ∷ later) are = turns_from later are.1

    reads_from : (later : List BoardTurn) → ReadsAtMost (board_tick (clock_of b)) j most n (first_state b pins place entries) (later ++ t ∷ past) → ReadsAtMost (board_tick (clock_of b)) j most n (first_state b pins place entries) (t ∷ past)
    reads_from [] reads = reads
    reads_from (u ∷ later) reads = reads_from later reads.1

    whole_past : (past : List BoardTurn) → AreBoardTurns (clock_of b) (first_state b pins place entries) past → ReadsAtMost (board_tick (clock_of b)) j most n (first_state b pins place entries) past
        → (steps : List Step) × ((stands_after (first_state b pins place entries) past).core ≡ run_world steps (first_state b pins place entries).core)
        × LateTurn n j most (first_state b pins place entries).core steps
    whole_past past are reads =
        let first = first_state b pins place entries in
        let none : past ≡ past ++ [] = sym (append-nil past) in
        let x = later_timely b pins place entries n j most past [] (subst (AreBoardTurns (clock_of b) first) none are) (subst (ReadsAtMost (board_tick (clock_of b)) j most n first) none reads) in
        (x.steps, ap (λ (y : List BoardTurn). (stands_after first y).core) none ∙ x.is, x.timely)
