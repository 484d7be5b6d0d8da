-- What a running board makes of some commands that halt no stepper: all their steps.
use Rattle.std.proofs.Common.{◌≡◌, ℕ, ◌<◌, ◌≤◌, ◌⊎◌, List, [], ◌∷◌, ◌++◌, Option, Some, None, refl, ap, sym, ◌∙◌, subst, arith, inl, inr, append_assoc, append-nil}
use Rattle.laws_board.proofs.Names.{eqb_tells, append_cancel_left, BoardState, Running, Shut, Pulse, Cmd, Pending, Controller, is_shut, Meant, commands_of, only, Rig, takes, takes_all}
use Rattle.msg_code.specs.declared.cmd.Cmd.TheVariants as cmd
use Rattle.board_sim.specs.Board.{stepper_at}
use Rattle.board_sim.specs.Fair.{pending_at}
use Rattle.board_sim.proofs.RigShut.{all_left_by}
use Rattle.laws_board.specs.sections.Known.{AreQueued, Sent, orders_sent}
use Rattle.laws_board.specs.sections.Timely.{AreTimely}
use Rattle.laws_board.specs.sections.Courses.{Course, IsSince, IsStopped, course_behind, course_from, course_of, courses, no_course, AreGoodOn, AreInTime, IsMadeBy}
use Rattle.laws_board.proofs.sections.Commanding.{all_stand, finds_on, stands_same}
use Rattle.laws_board.proofs.sections.Entering.{AreEarly, early_behind}
use Rattle.laws_board.proofs.sections.Spans.{AreLate, early_up}
use Rattle.laws_board.proofs.sections.Standing.{BoardStands, SlotStands}
use Rattle.laws_board.proofs.sections.Stepping.{Script, TakesFind, course_append}
use Rattle.laws_run.specs.home_wholes.Still.{IsStill}
use Rattle.laws_homing.specs.clear_boards.Limited.{AllFired}
use Rattle.laws_run.proofs.home_wholes.Still.{IsFree, resets_free, takes_free, takes_off}
use Rattle.laws_board.proofs.sections.Wholes.{no_time, rise_late}
use Rattle.laws_homing.specs.clear_groups.Resting.{EachTame, IsTame}
use Rattle.laws_homing.proofs.clear_groups.Off.{running_off}
use Rattle.laws_homing.proofs.home_runs.Settled.{AllFrom}
use Rattle.board_world.proofs.Causes.{runs_on}

-- the commands of some start no trigger and bind no stepper
abbrev pub AllStill : List Sent → Type 0
AllStill [] = Unit {0}
AllStill (s ∷ ss) = IsStill s.order.command × AllStill ss

-- commands that were queued before a turn
abbrev pub AllBefore : ℕ → List Sent → Type 0
AllBefore turn [] = Unit {0}
AllBefore turn (s ∷ ss) = (s.turn < turn) × AllBefore turn ss

pub before_front : (turn : ℕ) (xs ys : List Sent) → AllBefore turn (xs ++ ys) → AllBefore turn xs
before_front turn [] ys a = tt
before_front turn (x ∷ xs) ys a = (a.0, before_front turn xs ys a.1)

-- no part was begun yet from that turn on
one_since : (oid low turn : ℕ) (c : Course) (m : Cmd) (ticks : List ℕ) → turn < low → (IsSince low c.since → ⊥) → IsSince low (course_of oid turn c m ticks).since → ⊥
one_since oid low turn c (cmd.ResetStepClock other clock) ticks l old since =
    elim (eqb_tells other oid) [ inl p ↦ (let x : low ≤ turn = rw p.0 at since in omega (arith, x, l)) | inr p ↦ old (rw p.0 at since) ]
one_since oid low turn c m ticks l old since = old since

pub none_since : (oid low : ℕ) (c : Course) (ss : List Sent) → AllBefore low ss → (IsSince low c.since → ⊥) → IsSince low (course_from oid c ss).since → ⊥
none_since oid low c [] b old since = old since
none_since oid low c (s ∷ ss) b old since = none_since oid low (course_behind oid c s) ss b.1 (one_since oid low s.turn c s.order.command s.order.ticks b.0 old) since

pub no_since : (low : ℕ) → IsSince low no_course.since → ⊥
no_since low x = x

-- steppers whose part was begun in a turn or later are not halted
abbrev pub AreFree : ℕ → (ℕ → Course) → Controller → Type 0
AreFree low cs b = (oid : ℕ) → IsSince low (cs oid).since → IsFree oid b

-- pulses that hold some, one behind the other
abbrev pub Holds : List Pulse → List Pulse → Type 0
Holds steps ps = (early : List Pulse) × (more : List Pulse) × (ps ≡ early ++ (steps ++ more))

-- Some commands that are queued before a turn, and what they mean for each stepper: these steps, all before the board's tick of another turn, of a part
-- that was begun in a turn or later.
pub record Aim (p : Script) : Type 0 where
  pub low : ℕ
  pub upto : List Sent
  pub rest : List Sent
  pub all_is : upto ++ rest ≡ p.all
  pub next : ℕ
  pub later : AllFrom next rest
  pub steps : ℕ → List Pulse
  pub over : ℕ
  pub soon : over ≤ next
  pub mean : (oid : ℕ) → (steps oid ≡ []) ⊎ (IsSince low (courses upto oid).since × ((courses upto oid).known.steps ≡ steps oid))
  pub early : (oid : ℕ) → AreEarly (p.own over) (steps oid)

-- The commands that are still to come, behind some that were taken, bind no stepper; or those do that were queued before a turn, as were all that were
-- taken; and none starts a trigger.
abbrev pub MayCome : ℕ → List Sent → List Sent → Type 0
MayCome low done to_come =
    AllStill to_come ⊎ ((old : List Sent) × (new : List Sent) × (to_come ≡ old ++ new) × EachTame (commands_of (orders_sent old)) × AllBefore low (done ++ old) × AllStill new)

-- a board that took some commands, behind which others are still to come, while no trigger of it can trigger
abbrev pub StandsFree : ℕ → List Sent → List Sent → Rig → Type 0
StandsFree low done to_come r = MayCome low done to_come × AllFired r × AreFree low (courses done) r.controller

-- or it made all steps
abbrev pub Ahead : (p : Script) → Aim p → List Sent → Rig → Type 0
Ahead p a done r = (to_come : List Sent) × (done ++ to_come ≡ a.upto) × StandsFree a.low done to_come r

abbrev pub AllMade : (p : Script) → Aim p → List Pulse → Type 0
AllMade p a made = (oid : ℕ) → Holds (a.steps oid) (only oid made)

abbrev pub Phase : (p : Script) → Aim p → List Sent → Rig → List Pulse → Type 0
Phase p a done r made = Ahead p a done r ⊎ AllMade p a made

pub stands_late : (slots now oid : ℕ) (o : Option Pending) (c : Course) → SlotStands slots now o c → AreLate now (pending_at oid o)
stands_late slots now oid None c s = tt
stands_late slots now oid (Some q) c s = rise_late now now oid q.groups (omega arith) s.rises

-- once all these commands are taken and the steps are over, all are made
pub finish : (p : Script) (a : Aim p) (by turn : ℕ) (b : Controller) (made : List Pulse) → a.over ≤ turn → ((j k : ℕ) → j ≤ k → p.own j ≤ p.own k) → BoardStands p.own p.stops p.slots by turn (courses a.upto) b
    → ((oid : ℕ) → IsMadeBy p.own p.stops oid (stepper_at b oid) (courses a.upto oid) (only oid made)) → AreFree a.low (courses a.upto) b → AllMade p a made
finish p a by turn b made late up stands is free oid =
    elim (a.mean oid) [
      | inl none ↦ (only oid made, [], sym (append-nil (only oid made)) ∙ ap (λ x. only oid made ++ x) (sym (ap (λ x. x ++ []) none)))
      | inr some ↦
          let k = is oid in
          let pend = pending_at oid (stepper_at b oid) in
          let all : k.late ++ pend ≡ a.steps oid = sym (append-nil (k.late ++ pend)) ∙ ap (λ x. (k.late ++ pend) ++ x) (sym (k.whole (free oid some.0))) ∙ k.steps ∙ some.1 in
          let Early : List Pulse → Type 0 = λ x. AreEarly (p.own a.over) x in
          let soon = early_behind (p.own a.over) k.late pend (subst Early (sym all) (a.early oid)) in
          let none : pend ≡ [] = no_time (p.own turn) pend (early_up (p.own a.over) (p.own turn) pend (up a.over turn late) soon) (stands_late p.slots (p.own turn) oid (stepper_at b oid) (courses a.upto oid) (stands.each oid)) in
          let mine : k.late ≡ a.steps oid = sym (append-nil k.late) ∙ ap (λ x. k.late ++ x) (sym none) ∙ all in
          (k.early, [], k.is ∙ ap (λ x. k.early ++ x) (mine ∙ sym (append-nil (a.steps oid))))
    ]

-- more pulses
pub more_made : (p : Script) (a : Aim p) (made more : List Pulse) → ((oid : ℕ) → only oid (made ++ more) ≡ only oid made ++ only oid more) → AllMade p a made → AllMade p a (made ++ more)
more_made p a made more split m oid =
    let (early, rest, is) = m oid in
    (early, rest ++ only oid more, split oid ∙ ap (λ x. x ++ only oid more) is ∙ append_assoc early (a.steps oid ++ rest) (only oid more) ∙ ap (λ x. early ++ x) (append_assoc (a.steps oid) rest (only oid more)))

-- what a command makes of steppers
next_free : (low oid queued : ℕ) (c : Course) (r : Rig) (m : Cmd) (ticks : List ℕ) → r.controller.state ≡ Running → IsStill m → AllFired r → (takes r m).rig.controller.state ≡ Running → (IsSince low c.since → IsFree oid r.controller)
    → IsSince low (course_of oid queued c m ticks).since → IsFree oid (takes r m).rig.controller
next_free low oid queued c r (cmd.ResetStepClock other clock) ticks runs still off on old since =
    elim (eqb_tells other oid) [
      | inl p ↦ subst (λ (n : ℕ). IsFree n (takes r (cmd.ResetStepClock other clock)).rig.controller) p.1 (resets_free r other clock runs on)
      | inr p ↦ takes_free r oid (cmd.ResetStepClock other clock) still off on (old (rw p.0 at since))
    ]
next_free low oid queued c r m ticks runs still off on old since = takes_free r oid m still off on (old since)

pub cons_same : (s t : Sent) (ss ts : List Sent) → s ∷ ss ≡ t ∷ ts → s ≡ t
cons_same s t ss ts e = cc

one_course : (done : List Sent) (s : Sent) (oid : ℕ) → courses (done ++ s ∷ []) oid ≡ course_behind oid (courses done oid) s
one_course done s oid = course_append oid no_course done (s ∷ [])

-- the next command is taken
pub one_still : (low : ℕ) (done to_come : List Sent) (s : Sent) (r : Rig) → r.controller.state ≡ Running → (takes r s.order.command).rig.controller.state ≡ Running → StandsFree low done (s ∷ to_come) r
    → StandsFree low (done ++ s ∷ []) to_come (takes r s.order.command).rig
one_still low done to_come s r runs on (may, off, free) = elim may [
  | inl fine ↦ still fine
  | inr x ↦ old x.0 x.1 x.2 x.3 x.4 x.5
]
  where
    after : Rig
    after = (takes r s.order.command).rig

    still : AllStill (s ∷ to_come) → StandsFree low (done ++ s ∷ []) to_come (takes r s.order.command).rig
    still fine = (
      inl fine.1,
      takes_off r s.order.command fine.0 off,
      λ oid since. next_free low oid s.turn (courses done oid) r s.order.command s.order.ticks runs fine.0 off on (free oid) (subst (λ (x : Course). IsSince low x.since) (one_course done s oid) since),
    )

    old : (old new : List Sent) → s ∷ to_come ≡ old ++ new → EachTame (commands_of (orders_sent old)) → AllBefore low (done ++ old) → AllStill new → StandsFree low (done ++ s ∷ []) to_come (takes r s.order.command).rig
    old [] new e tame before fine = still (subst AllStill (sym e) fine)
    old (y ∷ ys) new e tame before fine =
        let first : s ≡ y = cons_same s y to_come (ys ++ new) e in
        let rest : to_come ≡ ys ++ new = cc in
        let mine : IsTame s.order.command = subst (λ (x : Sent). IsTame x.order.command) (sym first) tame.0 in
        let moved : AllBefore low ((done ++ s ∷ []) ++ ys) = subst (λ (x : List Sent). AllBefore low x) (ap (λ (x : Sent). done ++ x ∷ ys) (sym first) ∙ sym (append_assoc done (s ∷ []) ys)) before in (
          inr (ys, new, rest, tame.1, moved, fine),
          running_off r.controller.state r s.order.command mine off,
          λ oid since. absurd (none_since oid low no_course (done ++ s ∷ []) (before_front low (done ++ s ∷ []) ys moved) (no_since low) since),
        )

-- a command that is taken
one_ahead : (p : Script) (a : Aim p) (by turn : ℕ) (done others : List Sent) (s : Sent) (r : Rig) (made : List Pulse) → done ++ (s ∷ others) ≡ p.all → ((j k : ℕ) → j ≤ k → p.own j ≤ p.own k) → s.turn ≤ turn
    → BoardStands p.own p.stops p.slots by turn (courses done) r.controller → ((oid : ℕ) → IsMadeBy p.own p.stops oid (stepper_at r.controller oid) (courses done oid) (only oid made))
    → (takes r s.order.command).rig.controller.state ≡ Running → Phase p a done r made → Phase p a (done ++ s ∷ []) (takes r s.order.command).rig made
one_ahead p a by turn done others s r made all up now stands is on (inr f) = inr f
one_ahead p a by turn done others s r made all up now stands is on (inl ([], cut, (still, off, free))) =
    let same : done ≡ a.upto = sym (append-nil done) ∙ cut in
    let rest : s ∷ others ≡ a.rest = append_cancel_left done (s ∷ others) a.rest (all ∙ sym a.all_is ∙ ap (λ x. x ++ a.rest) (sym same)) in
    let From : List Sent → Type 0 = λ x. AllFrom a.next x in
    let from = (subst From (sym rest) a.later).0 in
    let soon = a.soon in
    let Stands : List Sent → Type 0 = λ x. BoardStands p.own p.stops p.slots by turn (courses x) r.controller in
    let Made : List Sent → Type 0 = λ x. (oid : ℕ) → IsMadeBy p.own p.stops oid (stepper_at r.controller oid) (courses x oid) (only oid made) in
    let Free : List Sent → Type 0 = λ x. AreFree a.low (courses x) r.controller in
    inr (finish p a by turn r.controller made (omega (arith, soon, from, now)) up (subst Stands same stands) (subst Made same is) (subst Free same free))
one_ahead p a by turn done others s r made all up now stands is on (inl (t ∷ to_come, cut, free)) =
    let both : s ∷ others ≡ t ∷ (to_come ++ a.rest) =
    append_cancel_left done (s ∷ others) (t ∷ (to_come ++ a.rest)) (all ∙ sym a.all_is ∙ ap (λ x. x ++ a.rest) (sym cut) ∙ append_assoc done (t ∷ to_come) a.rest) in
    let same : s ≡ t = cons_same s t others (to_come ++ a.rest) both in
    let split : (done ++ s ∷ []) ++ to_come ≡ a.upto = append_assoc done (s ∷ []) to_come ∙ ap (λ (x : Sent). done ++ (x ∷ to_come)) same ∙ cut in
    inl (to_come, split, one_still a.low done to_come s r stands.running on (subst (λ (x : Sent). StandsFree a.low done (x ∷ to_come) r) (sym same) free))

pub shut_on : (r : Rig) (ms : List Meant) (reason t first : ℕ) → r.controller.state ≡ Shut reason t first → (takes_all r (commands_of ms)).rig.controller.state ≡ Running → ⊥
shut_on r ms reason t first is on =
    runs_on reason t first (sym on ∙ ap (λ (x : Controller). x.state) (all_left_by r (commands_of ms) (ap is_shut is)) ∙ is)

-- a board that runs behind some commands ran before
pub ran_before : (r : Rig) (ms : List Meant) → (takes_all r (commands_of ms)).rig.controller.state ≡ Running → r.controller.state ≡ Running
ran_before r ms on = by r.controller.state refl
  where
    by : (o : BoardState) → r.controller.state ≡ o → r.controller.state ≡ Running
    by Running e = e
    by (Shut reason t first) e = absurd (shut_on r ms reason t first e on)

-- the next commands are taken
pub take_still : (low : ℕ) (ss done to_come : List Sent) (r : Rig) → StandsFree low done (ss ++ to_come) r → (takes_all r (commands_of (orders_sent ss))).rig.controller.state ≡ Running
    → StandsFree low (done ++ ss) to_come (takes_all r (commands_of (orders_sent ss))).rig
take_still low [] done to_come r free on = subst (λ (x : List Sent). StandsFree low x to_come r) (sym (append-nil done)) free
take_still low (s ∷ ss) done to_come r free on =
    let after = (takes r s.order.command).rig in
    let one = one_still low done (ss ++ to_come) s r (ran_before r (orders_sent (s ∷ ss)) on) (ran_before after (orders_sent ss) on) free in
    subst (λ (x : List Sent). StandsFree low x to_come (takes_all after (commands_of (orders_sent ss))).rig) (append_assoc done (s ∷ []) ss) (take_still low ss (done ++ s ∷ []) to_come after one on)

-- the first commands of those that are left are taken
pub take_ahead : (p : Script) (a : Aim p) (by turn : ℕ) (first done others : List Sent) (r : Rig) (made : List Pulse) → done ++ (first ++ others) ≡ p.all → ((j k : ℕ) → j ≤ k → p.own j ≤ p.own k) → by ≤ turn
    → BoardStands p.own p.stops p.slots by turn (courses done) r.controller → ((oid : ℕ) → IsMadeBy p.own p.stops oid (stepper_at r.controller oid) (courses done oid) (only oid made))
    → AreQueued by first → ((oid : ℕ) → AreGoodOn p.own p.stops p.slots oid (courses done oid) first) → AreTimely (p.own turn) (orders_sent first) → AreInTime p.stops by first
    → TakesFind p by (courses done) r (orders_sent first) → (takes_all r (commands_of (orders_sent first))).rig.controller.state ≡ Running → Phase p a done r made → Phase p a (done ++ first) (takes_all r (commands_of (orders_sent first))).rig made
take_ahead p a by turn [] done others r made all up le stands is old good timely time finds on ph =
    subst (λ (x : List Sent). Phase p a x r made) (sym (append-nil done)) ph
take_ahead p a by turn (s ∷ ss) done others r made all up le stands is old good timely time finds on ph =
    let c = s.order.command in
    let after = (takes r c).rig in
    let one = all_stand p.own up p.stops p.slots by turn (s ∷ []) (courses done) r stands le (old.0, tt) (λ oid. ((good oid).0, tt)) (timely.0, tt) (time.0, tt) (λ oid st. ((finds oid st).0, λ none. tt)) in
    let end = (takes_all after (commands_of (orders_sent ss))).rig in
    let e : (oid : ℕ) → courses (done ++ s ∷ []) oid ≡ course_behind oid (courses done oid) s = one_course done s in
    let cut : (done ++ s ∷ []) ++ (ss ++ others) ≡ p.all = append_assoc done (s ∷ []) (ss ++ others) ∙ all in
    elim one.1 [
      | inl g ↦
          let stand = stands_same p.own p.stops p.slots by turn (λ oid. course_behind oid (courses done oid) s) (courses (done ++ s ∷ [])) after.controller e g.0 in
          let now = one_ahead p a by turn done (ss ++ others) s r made all up (omega (arith, old.0, le)) stands is g.0.running ph in
          let rest = take_ahead p a by turn ss (done ++ s ∷ []) others after made cut up le stand (λ oid. rw (e oid) (g.1 oid (only oid made) (is oid))) old.1
          (λ oid. rw (e oid) (good oid).1) timely.1 time.1
          (λ oid st. finds_on p.stops by s (courses done) r (orders_sent ss) time.0 finds oid (subst (λ (x : Course). IsStopped p.stops by x.since) (e oid) st)) on now in
          subst (λ (x : List Sent). Phase p a x end made) (append_assoc done (s ∷ []) ss) rest
      | inr g ↦
          let (reason, t, first, state, may) = g.0 in
          absurd (shut_on after (orders_sent ss) reason t first state on)
    ]
