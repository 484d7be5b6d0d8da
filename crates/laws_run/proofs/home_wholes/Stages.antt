-- So over the turns of a board and its link.
use Rattle.std.proofs.Common.{◌≡◌, ℕ, ◌+◌, ◌≤◌, List, [], ◌∷◌, ◌++◌, length, drop, map, refl, ap, sym, ◌∙◌, subst, arith, inl, inr, append_assoc, append-nil, length-append, rules}
use Rattle.laws_board.proofs.Names.{append_cancel_left, take-append-drop, Running, Shut, Pulse, is_shut, Meant, commands_of, Rig, takes_all, Event, plain, units_orders, Core, Step, Do, Turn, world_after, does, after_event, run_world, takes_in, Orders, queued_in, run_append}
use Rattle.board_sim.proofs.RigShut.{passes_left}
use Rattle.board_sim.proofs.Steps.{only-append}
use Rattle.board_world.specs.declared.event.Event.TheVariants.{Arrive, Control, Pass, Put, Repeat}
use Rattle.board_world.specs.World.{orders_of}
use Rattle.board_world.proofs.Runs.{ordered_by}
use Rattle.laws_board.specs.sections.Events.{AreQuiet, AreTurnsOf, QueuesNothing, IsTurnOf}
use Rattle.laws_board.specs.sections.Known.{AreQueued, Sent, orders_sent, sent_at, sent_in}
use Rattle.laws_board.specs.sections.Timely.{AllTimely, AreTimely, IsTimelyAt}
use Rattle.laws_board.specs.sections.Courses.{courses, no_course, AllHeed, AreAllGood, AreInTime, AreSettled}
use Rattle.laws_board.proofs.sections.Coursed.{pass_keeps, quiet_keep, settled_finds, settled_first, settles}
use Rattle.laws_board.proofs.sections.Lists.{up_at, up_behind, up_front, cuts, orders_append, own_up, sent_append, orders_long}
use Rattle.laws_board.proofs.sections.Stepping.{Finds, Going, Keeps, Script, TakesFind, finds_first, finds_next, good_behind, good_front, queues_on, quiet_keeps, time_front, heed_front, heed_behind}
use Rattle.laws_board.proofs.sections.Turning.{timely_behind, timely_front}
use Rattle.laws_run.proofs.home_wholes.Phases.{Aim, Phase, more_made, shut_on, take_ahead}
use Rattle.laws_run.proofs.home_wholes.Still.{time_passes}
use Rattle.laws_board.proofs.sections.Running.{left_first}
use Rattle.board_world.proofs.Causes.{runs_on}
use Rattle.plan_types.proofs.Facts.{none_long}

-- how a board stands to an aim, while it runs
abbrev pub Stage : (p : Script) → Aim p → Core → Type 0
Stage p a h = h.board.controller.state ≡ Running → (done left : List Sent) → done ++ left ≡ p.all → orders_sent done ≡ h.taken → Phase p a done h.board h.made

front_same : (xs ys zs ws : List Sent) → xs ++ ys ≡ zs ++ ws → length xs ≡ length zs → xs ≡ zs
front_same xs ys zs ws e same = search (rules, cuts, length-append, none_long, append-nil)

pub done_same : (xs ys zs ws all : List Sent) → xs ++ ys ≡ all → zs ++ ws ≡ all → orders_sent xs ≡ orders_sent zs → xs ≡ zs
done_same xs ys zs ws all e f same = front_same xs ys zs ws (e ∙ sym f) (sym (orders_long xs) ∙ ap length same ∙ orders_long zs)

left_whole : (p : Script) (by turn : ℕ) (sent rest : List Sent) (h : Core) (r : Going p by turn sent h) (first others : List Sent) → sent ++ rest ≡ p.all → r.left ≡ first ++ others → r.done ++ (first ++ (others ++ rest)) ≡ p.all
left_whole p by turn sent rest h r first others all split =
    ap (λ x. r.done ++ x) (sym (append_assoc first others rest)) ∙ sym (append_assoc r.done (first ++ others) rest) ∙ ap (λ x. (r.done ++ x) ++ rest) (sym split) ∙ ap (λ x. x ++ rest) (sym r.sent_is) ∙ all

-- an event that queues nothing and lets no time pass
these_stage : (p : Script) (a : Aim p) (by turn : ℕ) (sent rest : List Sent) (h : Core) (r : Going p by turn sent h) (first others more : List Sent) → sent ++ rest ≡ p.all → by ≤ turn → AreQueued by sent → r.left ≡ first ++ others → r.more ≡ first ++ more
    → AreTimely (p.own turn) (orders_sent first) → TakesFind p by (courses r.done) h.board (orders_sent first) → (takes_all h.board (commands_of (orders_sent first))).rig.controller.state ≡ Running → Stage p a h
    → (done left : List Sent) → done ++ left ≡ p.all → orders_sent done ≡ h.taken ++ orders_sent first → Phase p a done (takes_all h.board (commands_of (orders_sent first))).rig h.made
these_stage p a by turn sent rest h r first others more all le old split ahead timely finds on g done left cut taken =
    let whole : r.done ++ (first ++ (others ++ rest)) ≡ p.all = left_whole p by turn sent rest h r first others all split in
    let before : r.done ++ (r.left ++ rest) ≡ p.all = sym (append_assoc r.done r.left rest) ∙ ap (λ x. x ++ rest) (sym r.sent_is) ∙ all in
    let Good : List Sent → Type 0 = λ x. AreAllGood p.own p.stops p.slots x in
    let good = λ (oid : ℕ). good_front p.own p.stops p.slots oid (courses r.done oid) first more
    (good_behind p.own p.stops p.slots oid no_course r.done (first ++ more) (subst Good (sym r.front_is ∙ ap (λ x. r.done ++ x) ahead) p.good oid)) in
    let Old : List Sent → Type 0 = λ x. AreQueued by x in
    let Time : List Sent → Type 0 = λ x. AreInTime p.stops by x in
    let time = subst Time ahead r.in_time in
    let now = up_front by first others (up_behind by r.done (first ++ others) (subst Old (r.sent_is ∙ ap (λ x. r.done ++ x) split) old)) in
    let was = g r.stands.running r.done (r.left ++ rest) before r.taken in
    let made = take_ahead p a by turn first r.done (others ++ rest) h.board h.made whole (λ j k l. own_up p.own p.up j k l) le r.stands r.made now good timely (time_front p.stops by first more time) finds on was in
    let behind : (r.done ++ first) ++ (others ++ rest) ≡ p.all = append_assoc r.done first (others ++ rest) ∙ whole in
    let same : done ≡ r.done ++ first = done_same done left (r.done ++ first) (others ++ rest) p.all cut behind (taken ∙ ap (λ x. x ++ orders_sent first) (sym r.taken) ∙ sym (orders_append r.done first)) in
    subst (λ (x : List Sent). Phase p a x (takes_all h.board (commands_of (orders_sent first))).rig h.made) (sym same) made

-- what a board takes while it runs on is of the front
taken_ahead : (p : Script) (by turn : ℕ) (sent rest : List Sent) (h g : Core) (r : Going p by turn sent h) (first others : List Sent) → sent ++ rest ≡ p.all → r.left ≡ first ++ others → g.taken ≡ h.taken ++ orders_sent first → (q : Going p by turn sent g)
    → r.more ≡ first ++ q.more
taken_ahead p by turn sent rest h g r first others all split taken q =
    let whole : (r.done ++ first) ++ (others ++ rest) ≡ p.all = append_assoc r.done first (others ++ rest) ∙ left_whole p by turn sent rest h r first others all split in
    let front : q.done ++ (q.more ++ p.tail) ≡ p.all = sym (append_assoc q.done q.more p.tail) ∙ ap (λ x. x ++ p.tail) q.front_is ∙ p.are in
    let same : q.done ≡ r.done ++ first = done_same q.done (q.more ++ p.tail) (r.done ++ first) (others ++ rest) p.all front whole (q.taken ∙ taken ∙ ap (λ x. x ++ orders_sent first) (sym r.taken) ∙ sym (orders_append r.done first)) in
    append_cancel_left r.done r.more (first ++ q.more) (r.front_is ∙ sym q.front_is ∙ ap (λ x. x ++ q.more) same ∙ append_assoc r.done first q.more)

event_stage : (p : Script) (a : Aim p) (by turn : ℕ) (sent : List Sent) (h : Core) (e : Event) → orders_of e ≡ [] → Keeps p by turn sent h → Keeps p by turn sent (after_event h e) → (does h e).board ≡ (takes_all h.board (commands_of (takes_in h e))).rig → (does h e).pulses ≡ []
    → (h.board.controller.state ≡ Running → AreTimely h.board.controller.tick (takes_in h e)) → Finds p by turn sent h (Do e ∷ []) → Stage p a h → Stage p a (after_event h e)
event_stage p a by turn sent h e none k after_it board made timely finds g on done left all taken =
    let ms = takes_in h e in
    let next = after_event h e in
    let o = ordered_by h e k.ordered in
    let n = length next.link.taken in
    let later : (h.taken ++ ms) ++ drop n next.queued ≡ orders_sent sent =
    ap (λ x. x ++ drop n next.queued) o.first ∙ take-append-drop n next.queued ∙ ap (λ x. h.queued ++ x) none ∙ append-nil h.queued ∙ sym k.queued in
    let ran : (takes_all h.board (commands_of ms)).rig.controller.state ≡ Running = ap (λ (r : Rig). r.controller.state) (sym board) ∙ on in
    let Made : List Pulse → Type 0 = λ x. Phase p a done (does h e).board x in
    let same_made : next.made ≡ h.made = ap (λ x. h.made ++ x) made ∙ append-nil h.made in
    subst Made (sym same_made) (subst (λ (r : Rig). Phase p a done r h.made) (sym board) (elim k.state [
      | inl r ↦
          let At : ℕ → Type 0 = λ x. AreTimely x ms in
          let soon = subst At k.tick (timely r.stands.running) in
          let (first, others, split, is) = left_first r.done r.left ms (drop n next.queued) (rw (r.taken, ← r.sent_is) later) in
          let Goes : List Meant → Type 0 = λ x. AreTimely (p.own turn) x → TakesFind p by (courses r.done) h.board x → (takes_all h.board (commands_of x)).rig.controller.state ≡ Running → orders_sent done ≡ h.taken ++ x → Phase p a done (takes_all h.board (commands_of x)).rig h.made in
          elim after_it.state [
            | inl q ↦
                let ahead = taken_ahead p by turn sent k.rest h next r first others k.all_is split (ap (λ x. h.taken ++ x) (sym is)) q in
                let these : Goes (orders_sent first) = λ t f s x. these_stage p a by turn sent k.rest h r first others q.more k.all_is k.order k.turns split ahead t f s g done left all x in
                subst Goes is these soon (λ oid st. (finds r oid st).0) ran taken
            | inr d ↦
                let (reason, t, tick, state, may) = d.shut in
                absurd (runs_on reason t tick (sym on ∙ state))
          ]
      | inr d ↦
          let (reason, t, first, state, may) = d.shut in
          absurd (shut_on h.board ms reason t first state ran)
    ]))

-- what is queued
queued_stage : (p : Script) (a : Aim p) (h : Core) (e : Event) → takes_in h e ≡ [] → (does h e).board ≡ h.board → (does h e).pulses ≡ [] → Stage p a h → Stage p a (after_event h e)
queued_stage p a h e none board made g on done left all taken =
    let ran : h.board.controller.state ≡ Running = ap (λ (r : Rig). r.controller.state) (sym board) ∙ on in
    let took : orders_sent done ≡ h.taken = taken ∙ ap (λ x. h.taken ++ x) none ∙ append-nil h.taken in
    let same_made : (after_event h e).made ≡ h.made = ap (λ x. h.made ++ x) made ∙ append-nil h.made in
    subst (λ (x : List Pulse). Phase p a done (does h e).board x) (sym same_made) (subst (λ (r : Rig). Phase p a done r h.made) (sym board) (g ran done left all took))

quiet_stage : (p : Script) (a : Aim p) (by turn : ℕ) (sent : List Sent) (h : Core) (s : Step) → QueuesNothing s → Keeps p by turn sent h → Keeps p by turn sent (world_after h s) → IsTimelyAt h s → Finds p by turn sent h (s ∷ []) → Stage p a h → Stage p a (world_after h s)
quiet_stage p a by turn sent h (Turn n) q k next timely finds g = g
quiet_stage p a by turn sent h (Do (Put b)) q k next timely finds g = absurd q
quiet_stage p a by turn sent h (Do (Control c)) q k next timely finds g = absurd q
quiet_stage p a by turn sent h (Do (Pass t)) q k next timely finds g = absurd q
quiet_stage p a by turn sent h (Do Arrive) q k next timely finds g = event_stage p a by turn sent h Arrive refl k next refl refl timely finds g
quiet_stage p a by turn sent h (Do Repeat) q k next timely finds g = event_stage p a by turn sent h Repeat refl k next refl refl timely finds g
quiet_stage p a by turn sent h (Do e) q k next timely finds g = event_stage p a by turn sent h e refl k next refl refl timely finds g

quiet_stages : (p : Script) (a : Aim p) (by turn : ℕ) (sent : List Sent) (steps rest : List Step) (h : Core) → AreQuiet steps → Keeps p by turn sent h → AllTimely h steps → AllHeed p.front p.tail h steps → Finds p by turn sent h (steps ++ rest) → Stage p a h → Stage p a (run_world steps h)
quiet_stages p a by turn sent [] rest h q k timely heed finds g = g
quiet_stages p a by turn sent (s ∷ steps) rest h q k timely heed finds g =
    let first = finds_first p by turn sent h s (steps ++ rest) finds in
    let next = finds_next p by turn turn sent sent h s (steps ++ rest) k finds in
    let keeps = (quiet_keeps p by turn sent h s q.0 k timely.0 heed.0 first).1 in
    quiet_stages p a by turn sent steps rest (world_after h s) q.1 keeps timely.1 heed.1 next (quiet_stage p a by turn sent h s q.0 k keeps timely.0 first g)

-- time
pass_stage : (p : Script) (a : Aim p) (by turn t : ℕ) (sent : List Sent) (h : Core) → Keeps p by turn sent h → Stage p a h → Stage p a (after_event h (Pass t))
pass_stage p a by turn t sent h k g on done left all taken =
    let took : orders_sent done ≡ h.taken = taken ∙ append-nil h.taken in
    elim k.state [
      | inl r ↦ elim (g r.stands.running done left all took) [
        | inl x ↦
            let (to_come, cut, (still, off, free)) = x in
            let y = time_passes h.board t off in
            inl (to_come, cut, (still, y.off, λ oid since. y.free oid (free oid since)))
        | inr m ↦ inr (more_made p a h.made (does h (Pass t)).pulses (λ oid. only-append oid h.made (does h (Pass t)).pulses) m)
      ]
      | inr d ↦
          let (reason, tick, first, state, may) = d.shut in
          let stays = passes_left h.board t (ap is_shut state) in
          absurd (runs_on reason tick first (sym on ∙ stays.1 ∙ state))
    ]

-- a turn
abbrev TurnGoes : (p : Script) → Aim p → ℕ → List Sent → Orders → Core → Type 0
TurnGoes p a turn sent o h = Keeps p turn (turn + 1) (sent ++ sent_at turn (queued_in o)) h × Stage p a h

turn_steps_stage : (p : Script) (a : Aim p) (turn : ℕ) (sent rest : List Sent) (o : Orders) (before rear : List Step) (h : Core) → AreQuiet before → AreQuiet rear → Keeps p turn turn sent h
    → (sent ++ sent_at turn (queued_in o)) ++ rest ≡ p.all
    → AllTimely h (Turn turn ∷ Do (Control o.control) ∷ Do (Put o.batch) ∷ before ++ Do (Pass (p.own (turn + 1))) ∷ rear)
    → AllHeed p.front p.tail h (Turn turn ∷ Do (Control o.control) ∷ Do (Put o.batch) ∷ before ++ Do (Pass (p.own (turn + 1))) ∷ rear)
    → Finds p turn turn sent h (Turn turn ∷ Do (Control o.control) ∷ Do (Put o.batch) ∷ before ++ Do (Pass (p.own (turn + 1))) ∷ rear) → Stage p a h
    → TurnGoes p a turn sent o (run_world (Turn turn ∷ Do (Control o.control) ∷ Do (Put o.batch) ∷ before ++ Do (Pass (p.own (turn + 1))) ∷ rear) h)
turn_steps_stage p a turn sent rest o before rear h bq rq k all timely heed finds g =
    let cs = map plain o.control.commands in
    let us = units_orders o.batch.units in
    let pass = Do (Pass (p.own (turn + 1))) in
    let split : sent_at turn (queued_in o) ≡ sent_at turn cs ++ sent_at turn us = sent_append turn cs us in
    let h1 = world_after h (Turn turn) in
    let others = before ++ pass ∷ rear in
    let k1 = (quiet_keeps p turn turn sent h (Turn turn) tt k tt tt (λ r oid st. tt)).1 in
    let f1 = finds_next p turn turn turn sent sent h (Turn turn) (Do (Control o.control) ∷ Do (Put o.batch) ∷ others) k finds in
    let h2 = after_event h1 (Control o.control) in
    let whole : ((sent ++ sent_at turn cs) ++ sent_at turn us) ++ rest ≡ p.all =
    ap (λ x. x ++ rest) (append_assoc sent (sent_at turn cs) (sent_at turn us) ∙ ap (λ x. sent ++ x) (sym split)) ∙ all in
    let k2 : Keeps p turn turn (sent ++ sent_at turn cs) h2 =
    queues_on p turn turn sent (sent_at turn us ++ rest) h1 (Control o.control) k1 (sym (append_assoc (sent ++ sent_at turn cs) (sent_at turn us) rest) ∙ whole) (up_at turn cs) refl refl refl in
    let f2 = finds_next p turn turn turn sent (sent ++ sent_at turn cs) h1 (Do (Control o.control)) (Do (Put o.batch) ∷ others) k1 f1 in
    let g2 = queued_stage p a h1 (Control o.control) refl refl refl g in
    let h3 = after_event h2 (Put o.batch) in
    let k3 : Keeps p turn turn ((sent ++ sent_at turn cs) ++ sent_at turn us) h3 =
    queues_on p turn turn (sent ++ sent_at turn cs) rest h2 (Put o.batch) k2 whole (up_at turn us) refl refl refl in
    let all_sent = (sent ++ sent_at turn cs) ++ sent_at turn us in
    let f3 = finds_next p turn turn turn (sent ++ sent_at turn cs) all_sent h2 (Do (Put o.batch)) others k2 f2 in
    let g3 = queued_stage p a h2 (Put o.batch) refl refl refl g2 in
    let early = timely_front before (pass ∷ rear) h3 timely.1.1.1 in
    let heed_early = heed_front p.front p.tail before (pass ∷ rear) h3 heed.1.1.1 in
    let q = quiet_keep p turn turn ((sent ++ sent_at turn cs) ++ sent_at turn us) before (pass ∷ rear) h3 bq k3 early heed_early f3 in
    let g4 = quiet_stages p a turn turn ((sent ++ sent_at turn cs) ++ sent_at turn us) before (pass ∷ rear) h3 bq k3 early heed_early f3 g3 in
    let h4 = run_world before h3 in
    let k5 = pass_keeps p turn ((sent ++ sent_at turn cs) ++ sent_at turn us) h4 q.1 in
    let g5 = pass_stage p a turn turn (p.own (turn + 1)) ((sent ++ sent_at turn cs) ++ sent_at turn us) h4 q.1 g4 in
    let h5 = world_after h4 pass in
    let late = timely_behind before (pass ∷ rear) h3 timely.1.1.1 in
    let heed_late = heed_behind p.front p.tail before (pass ∷ rear) h3 heed.1.1.1 in
    let found = finds_next p turn turn (turn + 1) all_sent all_sent h4 pass rear q.1 q.2 in
    let Found : List Step → Type 0 = λ x. Finds p turn (turn + 1) all_sent h5 x in
    let f5 = subst Found (sym (append-nil rear)) found in
    let g6 = quiet_stages p a turn (turn + 1) ((sent ++ sent_at turn cs) ++ sent_at turn us) rear [] h5 rq k5.0 late.1 heed_late.1 f5 g5 in
    let r = quiet_keep p turn (turn + 1) ((sent ++ sent_at turn cs) ++ sent_at turn us) rear [] h5 rq k5.0 late.1 heed_late.1 f5 in
    let At : List Sent → Type 0 = λ x. Keeps p turn (turn + 1) x (run_world rear h5) in
    let To : Core → Type 0 = λ x. TurnGoes p a turn sent o x in
    subst To (sym (run_append before (pass ∷ rear) h3)) (subst At (append_assoc sent (sent_at turn cs) (sent_at turn us) ∙ ap (λ x. sent ++ x) (sym split)) r.1, g6)

turn_stage : (p : Script) (a : Aim p) (turn : ℕ) (sent rest : List Sent) (o : Orders) (steps : List Step) (h : Core) → IsTurnOf p.own turn o steps → Keeps p turn turn sent h → (sent ++ sent_at turn (queued_in o)) ++ rest ≡ p.all
    → AllTimely h steps → AllHeed p.front p.tail h steps → Finds p turn turn sent h steps → Stage p a h → TurnGoes p a turn sent o (run_world steps h)
turn_stage p a turn sent rest o steps h t k all timely heed finds g =
    let At : List Step → Type 0 = λ x. TurnGoes p a turn sent o (run_world x h) in
    let Timely : List Step → Type 0 = λ x. AllTimely h x in
    let Heed : List Step → Type 0 = λ x. AllHeed p.front p.tail h x in
    let Found : List Step → Type 0 = λ x. Finds p turn turn sent h x in
    subst At (sym t.are) (turn_steps_stage p a turn sent rest o t.before t.after h t.before_quiet t.after_quiet k all (subst Timely t.are timely) (subst Heed t.are heed) (subst Found t.are finds) g)

-- turns
pub turns_stage : (p : Script) (a : Aim p) (turn : ℕ) (sent rest : List Sent) (os : List Orders) (steps : List Step) (h : Core) (t : AreTurnsOf p.own turn os steps) → Keeps p turn turn sent h
    → (sent ++ sent_in turn os) ++ rest ≡ p.all → AllTimely h steps → AreSettled p.stops p.front p.own turn sent os steps h t → AllHeed p.front p.tail h steps → Stage p a h → Stage p a (run_world steps h)
turns_stage p a turn sent rest [] steps h t k all timely settled heed g = subst (λ (x : List Step). Stage p a (run_world x h)) (sym t) g
turns_stage p a turn sent rest (o ∷ os) steps h t k all timely settled heed g =
    let (first, later, are, one, more) = t in
    let At : List Step → Type 0 = λ x. Stage p a (run_world x h) in
    let Timely : List Step → Type 0 = λ x. AllTimely h x in
    let all_timely : AllTimely h (first ++ later) = subst Timely are timely in
    let Heed : List Step → Type 0 = λ x. AllHeed p.front p.tail h x in
    let heeds = subst Heed are heed in
    let mid = sent ++ sent_at turn (queued_in o) in
    let cut : mid ++ sent_in (turn + 1) os ≡ sent ++ sent_in turn (o ∷ os) = append_assoc sent (sent_at turn (queued_in o)) (sent_in (turn + 1) os) in
    let whole : (mid ++ sent_in (turn + 1) os) ++ rest ≡ p.all = ap (λ x. x ++ rest) cut ∙ all in
    let here : mid ++ (sent_in (turn + 1) os ++ rest) ≡ p.all = sym (append_assoc mid (sent_in (turn + 1) os) rest) ∙ whole in
    let early = timely_front first later h all_timely in
    let g1 = turn_stage p a turn sent (sent_in (turn + 1) os ++ rest) o first h one k here early (heed_front p.front p.tail first later h heeds) (settled_finds p turn sent h first settled.1) g in
    let next = settles p turn mid (run_world first h) g1.0 (settled_first p (turn + 1) mid os later (run_world first h) more settled.2) in
    let g2 = turns_stage p a (turn + 1) mid rest os later (run_world first h) more next whole (timely_behind first later h all_timely) settled.2 (heed_behind p.front p.tail first later h heeds) g1.1 in
    let To : Core → Type 0 = λ x. Stage p a x in
    subst At (sym are) (subst To (sym (run_append first later h)) g2)
