-- Turns keep what steps keep, and the pulses of a turn lie within it.
use Rattle.std.proofs.Common.{◌≡◌, ℕ, ◌+◌, ◌≤◌, ◌⊎◌, List, [], ◌∷◌, ◌++◌, length, map, Option, Some, None, refl, ap, sym, ◌∙◌, subst, arith, inl, inr, append_assoc, append-nil, rules}
use Rattle.laws_board.proofs.Names.{Level, BoardDef, Pulse, Cmd, is_shut, only, plain, units_orders, Core, Step, Do, Turn, does, after_event, world_after, run_world, new_world, Orders, queued_in, run_append}
use Rattle.msg_code.specs.declared.cmd.Cmd.TheVariants as cmd
use Rattle.board_sim.specs.Board.{new_controller, stepper_at}
use Rattle.board_sim.proofs.HaltedTime.{time_keeps, whole_part}
use Rattle.board_sim.proofs.Keeps.{first_kept, none_at}
use Rattle.board_sim.proofs.RigShut.{passes_left}
use Rattle.board_sim.proofs.Steps.{only-append}
use Rattle.board_world.specs.declared.event.Event.TheVariants.{Put, Control, Pass}
use Rattle.board_world.specs.World.{AllFair}
use Rattle.board_world.proofs.Runs.{ordered_by, start_ordered}
use Rattle.link_work.proofs.Steps.{tick_passed}
use Rattle.laws_board.specs.sections.Events.{AreQuiet, IsTurnOf, AreTurnsOf}
use Rattle.laws_board.specs.sections.Known.{Sent, sent_at, sent_in}
use Rattle.laws_board.specs.sections.Timely.{AllTimely}
use Rattle.laws_board.specs.sections.Courses.{courses, IsFrom, IsStopped, IsInTime, AreInTime, IsSettled, AreSettled, FindStopped, AllHeed}
use Rattle.laws_board.proofs.sections.Lists.{up_at, up_later, sent_append, own_up}
use Rattle.laws_board.proofs.sections.Passes.{AreBetween, between_append, between_wide}
use Rattle.laws_board.proofs.sections.Turning.{fair_append, timely_front, timely_behind, places_length}
use Rattle.laws_board.proofs.sections.Windows.{quiet_made, Makes}
use Rattle.laws_board.proofs.sections.Moving.{SlotMoves, BoardMoves}
use Rattle.laws_board.proofs.sections.MovingRigs.{passes_move}
use Rattle.laws_board.proofs.sections.Standing.{slot_moved, held_moved, held_none, slot_between, stop_before, made_moved}
use Rattle.laws_board.proofs.sections.Stepping.{Script, Finds, Going, Gone, Keeps, finds_first, finds_next, quiet_keeps, queues_on, heed_front, heed_behind}

-- what a stepper's place makes of the time of a turn
abbrev PlaceMoves : Script → ℕ → Core → ℕ → Type 0
PlaceMoves p turn h oid =
    let q = after_event h (Pass (p.own (turn + 1))) in
    SlotMoves oid (p.own turn) (p.own (turn + 1)) (stepper_at h.board.controller oid) (stepper_at q.board.controller oid) (only oid (does h (Pass (p.own (turn + 1)))).pulses)

-- time passes on a board that runs
going_moves : (p : Script) (turn : ℕ) (sent : List Sent) (h : Core) → Keeps p turn turn sent h → (r : Going p turn turn sent h) → (after_event h (Pass (p.own (turn + 1)))).board.controller.tick ≡ p.own (turn + 1)
    → BoardMoves h.board.controller (after_event h (Pass (p.own (turn + 1)))).board.controller (does h (Pass (p.own (turn + 1)))).pulses × ((oid : ℕ) → PlaceMoves p turn h oid)
going_moves p turn sent h k r tick = search (rules, passes_move, does, after_event, only)

going_passes : (p : Script) (turn : ℕ) (sent : List Sent) (h : Core) → Keeps p turn turn sent h → Going p turn turn sent h → (after_event h (Pass (p.own (turn + 1)))).board.controller.tick ≡ p.own (turn + 1)
    → Going p turn (turn + 1) sent (after_event h (Pass (p.own (turn + 1)))) × ((oid : ℕ) → AreBetween (p.own turn) (p.own (turn + 1)) (only oid (does h (Pass (p.own (turn + 1)))).pulses))
going_passes p turn sent h k r tick =
    let t = p.own (turn + 1) in
    let q = after_event h (Pass t) in
    let ps = (does h (Pass t)).pulses in
    let (m, each) = going_moves p turn sent h k r tick in
    let between = λ (oid : ℕ).
    slot_between oid p.slots (p.own turn) t (stepper_at h.board.controller oid) (stepper_at q.board.controller oid) (courses r.done oid) (only oid ps) (r.stands.each oid) (each oid) in
    let none = λ (oid : ℕ) (i : IsStopped p.stops turn (courses r.done oid).since).
    held_none oid p.slots (p.own turn) t (stepper_at h.board.controller oid) (stepper_at q.board.controller oid) (courses r.done oid) (only oid ps) (r.stands.each oid) (each oid) (r.stands.stopped oid i) in (
      record {
        done = r.done;
        left = r.left;
        more = r.more;
        sent_is = r.sent_is;
        front_is = r.front_is;
        taken = r.taken ∙ sym (append-nil h.taken);
        stands = record {
          running = m.state ∙ r.stands.running;
          tick = tick;
          slots_are = m.slots ∙ r.stands.slots_are;
          places = m.places ∙ r.stands.places;
          each = λ oid. slot_moved oid p.slots (p.own turn) t (stepper_at h.board.controller oid) (stepper_at q.board.controller oid) (courses r.done oid) (only oid ps) (r.stands.each oid) (each oid);
          stopped = λ oid i. held_moved oid (p.own turn) t (stepper_at h.board.controller oid) (stepper_at q.board.controller oid) (courses r.done oid) (only oid ps) (each oid) (r.stands.stopped oid i);
        };
        in_time = r.in_time;
        made = λ oid. rw (only-append oid h.made ps)
            (made_moved p.own p.stops oid (p.own turn) t (stepper_at h.board.controller oid) (stepper_at q.board.controller oid) (courses r.done oid) (only oid h.made) (only oid ps) (r.made oid) (each oid)
            (stop_before p.own p.up p.stops turn (p.own turn) (courses r.done oid).since (only oid ps) (none oid) (between oid)));
      },
      between,
    )

pub pass_keeps : (p : Script) (turn : ℕ) (sent : List Sent) (h : Core) → Keeps p turn turn sent h
    → Keeps p turn (turn + 1) sent (after_event h (Pass (p.own (turn + 1)))) × ((oid : ℕ) → AreBetween (p.own turn) (p.own (turn + 1)) (only oid (does h (Pass (p.own (turn + 1)))).pulses))
pass_keeps p turn sent h k =
    let t = p.own (turn + 1) in
    let up : p.own turn ≤ t = p.up turn in
    let tick = tick_passed h t k.ordered (rw k.tick up) in
    let q = after_event h (Pass t) in
    let ps = (does h (Pass t)).pulses in
    let Between : List Pulse → Type 0 = λ x. (oid : ℕ) → AreBetween (p.own turn) t (only oid x) in
    let next : (Going p turn (turn + 1) sent q ⊎ Gone p q) × ((oid : ℕ) → AreBetween (p.own turn) t (only oid ps)) = elim k.state [
      | inl r ↦ let g = going_passes p turn sent h k r tick in (inl g.0, g.1)
      | inr d ↦
          let (reason, first_tick, first, state, may) = d.shut in
          let left = passes_left h.board t (ap is_shut state) in (
            inr (record {
              shut = (reason, first_tick, first, left.1 ∙ state, may);
              done = d.done;
              more = d.more;
              front_is = d.front_is;
              made = λ oid. rw (left.0, append-nil h.made) (d.made oid);
            }),
            subst Between (sym left.0) (λ oid. tt),
          )
    ] in (
      record {
        ordered = ordered_by h (Pass t) k.ordered;
        queued = k.queued ∙ sym (append-nil h.queued);
        turns = k.turns;
        order = omega (arith, k.order);
        rest = k.rest;
        all_is = k.all_is;
        tick = tick;
        kept = time_keeps h.board t h.made h.meant k.kept;
        state = next.0;
      },
      next.1,
    )

-- the next turn begins
pub settles : (p : Script) (turn : ℕ) (sent : List Sent) (h : Core) → Keeps p turn (turn + 1) sent h → IsSettled p.stops p.front (turn + 1) sent h → Keeps p (turn + 1) (turn + 1) sent h
settles p turn sent h k settled = record {
  ordered = k.ordered;
  queued = k.queued;
  turns = up_later turn sent k.turns;
  order = omega arith;
  rest = k.rest;
  all_is = k.all_is;
  tick = k.tick;
  kept = k.kept;
  state = elim k.state [
    | inl r ↦
        let s = settled r.stands.running r.done r.left r.more (sym r.sent_is) r.front_is r.taken in
        inl (record {
          done = r.done;
          left = r.left;
          more = r.more;
          sent_is = r.sent_is;
          front_is = r.front_is;
          taken = r.taken;
          stands = record {
            running = r.stands.running;
            tick = r.stands.tick;
            slots_are = r.stands.slots_are;
            places = r.stands.places;
            each = r.stands.each;
            stopped = s.1;
          };
          in_time = s.0;
          made = r.made;
        })
    | inr d ↦ inr d
  ];
}

-- what is found as the next turn begins
pub settled_finds : (p : Script) (turn : ℕ) (sent : List Sent) (h : Core) (steps : List Step) → FindStopped p.stops p.front turn sent h steps → Finds p turn turn sent h steps
settled_finds p turn sent h steps f = λ r oid st. f r.stands.running r.done r.left r.more (sym r.sent_is) r.front_is r.taken oid st

abbrev QuietKeeps : Script → ℕ → ℕ → List Sent → List Step → List Step → Core → Type 0
QuietKeeps p by turn sent steps rest h = AllFair h steps × Keeps p by turn sent (run_world steps h) × Finds p by turn sent (run_world steps h) rest

pub quiet_keep : (p : Script) (by turn : ℕ) (sent : List Sent) (steps rest : List Step) (h : Core) → AreQuiet steps → Keeps p by turn sent h → AllTimely h steps → AllHeed p.front p.tail h steps → Finds p by turn sent h (steps ++ rest)
    → QuietKeeps p by turn sent steps rest h
quiet_keep p by turn sent [] rest h q k timely heed finds = (tt, k, finds)
quiet_keep p by turn sent (s ∷ steps) rest h q k timely heed finds =
    let one = quiet_keeps p by turn sent h s q.0 k timely.0 heed.0 (finds_first p by turn sent h s (steps ++ rest) finds) in
    let next = finds_next p by turn turn sent sent h s (steps ++ rest) k finds in
    let more = quiet_keep p by turn sent steps rest (world_after h s) q.1 one.1 timely.1 heed.1 next in
    ((one.0, more.0), more.1, more.2)

-- before the first turn nothing is too late
from_up : (o : Option ℕ) (turn : ℕ) → IsFrom 0 o → IsFrom turn o
from_up None turn i = i
from_up (Some stop) turn i = omega (arith, i)

time_of : (stops : ℕ → Option ℕ) (turn : ℕ) (c : Cmd) → (IsFrom turn (stops turn) → ⊥) → IsInTime stops 0 turn c
time_of stops turn (cmd.ResetStepClock oid clock) h = λ i. h (from_up (stops turn) turn i)
time_of stops turn _ h = tt

time_first : (stops : ℕ → Option ℕ) (ss : List Sent) → ((turn : ℕ) → IsFrom turn (stops turn) → ⊥) → AreInTime stops 0 ss
time_first stops [] h = tt
time_first stops (s ∷ ss) h = (time_of stops s.turn s.order.command (h s.turn), time_first stops ss h)

abbrev TurnKeeps : Script → ℕ → List Sent → Orders → Core → List Step → Type 0
TurnKeeps p turn sent o h steps =
    AllFair h steps × Keeps p turn (turn + 1) (sent ++ sent_at turn (queued_in o)) (run_world steps h) × Makes (p.own turn) (p.own (turn + 1)) h.made (run_world steps h).made

-- a turn
turn_steps_keep : (p : Script) (turn : ℕ) (sent rest : List Sent) (o : Orders) (before rear : List Step) (h : Core) → AreQuiet before → AreQuiet rear → Keeps p turn turn sent h
    → (sent ++ sent_at turn (queued_in o)) ++ rest ≡ p.all
    → AllTimely h (Turn turn ∷ Do (Control o.control) ∷ Do (Put o.batch) ∷ before ++ Do (Pass (p.own (turn + 1))) ∷ rear)
    → AllHeed p.front p.tail h (Turn turn ∷ Do (Control o.control) ∷ Do (Put o.batch) ∷ before ++ Do (Pass (p.own (turn + 1))) ∷ rear)
    → Finds p turn turn sent h (Turn turn ∷ Do (Control o.control) ∷ Do (Put o.batch) ∷ before ++ Do (Pass (p.own (turn + 1))) ∷ rear)
    → TurnKeeps p turn sent o h (Turn turn ∷ Do (Control o.control) ∷ Do (Put o.batch) ∷ before ++ Do (Pass (p.own (turn + 1))) ∷ rear)
turn_steps_keep p turn sent rest o before rear h bq rq k all timely heed finds =
    let cs = map plain o.control.commands in
    let us = units_orders o.batch.units in
    let pass = Do (Pass (p.own (turn + 1))) in
    let split : sent_at turn (queued_in o) ≡ sent_at turn cs ++ sent_at turn us = sent_append turn cs us in
    let h1 = world_after h (Turn turn) in
    let others = before ++ pass ∷ rear in
    let k1 = (quiet_keeps p turn turn sent h (Turn turn) tt k tt tt (λ r oid st. tt)).1 in
    let f1 = finds_next p turn turn turn sent sent h (Turn turn) (Do (Control o.control) ∷ Do (Put o.batch) ∷ others) k finds in
    let h2 = after_event h1 (Control o.control) in
    let whole : ((sent ++ sent_at turn cs) ++ sent_at turn us) ++ rest ≡ p.all =
    ap (λ x. x ++ rest) (append_assoc sent (sent_at turn cs) (sent_at turn us) ∙ ap (λ x. sent ++ x) (sym split)) ∙ all in
    let k2 : Keeps p turn turn (sent ++ sent_at turn cs) h2 =
    queues_on p turn turn sent (sent_at turn us ++ rest) h1 (Control o.control) k1 (sym (append_assoc (sent ++ sent_at turn cs) (sent_at turn us) rest) ∙ whole) (up_at turn cs) refl refl refl in
    let f2 = finds_next p turn turn turn sent (sent ++ sent_at turn cs) h1 (Do (Control o.control)) (Do (Put o.batch) ∷ others) k1 f1 in
    let h3 = after_event h2 (Put o.batch) in
    let k3 : Keeps p turn turn ((sent ++ sent_at turn cs) ++ sent_at turn us) h3 =
    queues_on p turn turn (sent ++ sent_at turn cs) rest h2 (Put o.batch) k2 whole (up_at turn us) refl refl refl in
    let f3 = finds_next p turn turn turn (sent ++ sent_at turn cs) ((sent ++ sent_at turn cs) ++ sent_at turn us) h2 (Do (Put o.batch)) others k2 f2 in
    let q = quiet_keep p turn turn ((sent ++ sent_at turn cs) ++ sent_at turn us) before (pass ∷ rear) h3 bq k3 (timely_front before (pass ∷ rear) h3 timely.1.1.1) (heed_front p.front p.tail before (pass ∷ rear) h3 heed.1.1.1) f3 in
    let h4 = run_world before h3 in
    let k5 = pass_keeps p turn ((sent ++ sent_at turn cs) ++ sent_at turn us) h4 q.1 in
    let h5 = world_after h4 pass in
    let late = timely_behind before (pass ∷ rear) h3 timely.1.1.1 in
    let behind = heed_behind p.front p.tail before (pass ∷ rear) h3 heed.1.1.1 in
    let all_sent = (sent ++ sent_at turn cs) ++ sent_at turn us in
    let f5 = finds_next p turn turn (turn + 1) all_sent all_sent h4 pass rear q.1 q.2 in
    let Found : List Step → Type 0 = λ x. Finds p turn (turn + 1) all_sent h5 x in
    let r = quiet_keep p turn (turn + 1) ((sent ++ sent_at turn cs) ++ sent_at turn us) rear [] h5 rq k5.0 late.1 behind.1 (subst Found (sym (append-nil rear)) f5) in
    let new = (does h4 (Pass (p.own (turn + 1)))).pulses in
    let At : List Sent → Type 0 = λ x. Keeps p turn (turn + 1) x (run_world rear h5) in
    let To : Core → Type 0 = λ x. Keeps p turn (turn + 1) (sent ++ sent_at turn (queued_in o)) x in (
      (tt, (tt, (tt, fair_append before (pass ∷ rear) h3 q.0 (tt, r.0)))),
      subst To (sym (run_append before (pass ∷ rear) h3)) (subst At (append_assoc sent (sent_at turn cs) (sent_at turn us) ∙ ap (λ x. sent ++ x) (sym split)) r.1),
      (
        new,
        ap (λ (x : Core). x.made) (run_append before (pass ∷ rear) h3) ∙ quiet_made rear h5 rq ∙ ap (λ x. x ++ new) (quiet_made before h3 bq ∙ append-nil (h.made ++ []) ∙ append-nil h.made),
        k5.1,
      ),
    )

pub turn_keeps : (p : Script) (turn : ℕ) (sent rest : List Sent) (o : Orders) (steps : List Step) (h : Core) → IsTurnOf p.own turn o steps → Keeps p turn turn sent h
    → (sent ++ sent_at turn (queued_in o)) ++ rest ≡ p.all → AllTimely h steps → AllHeed p.front p.tail h steps → Finds p turn turn sent h steps → TurnKeeps p turn sent o h steps
turn_keeps p turn sent rest o steps h t k all timely heed finds =
    let At : List Step → Type 0 = λ x. TurnKeeps p turn sent o h x in
    let Timely : List Step → Type 0 = λ x. AllTimely h x in
    let Heed : List Step → Type 0 = λ x. AllHeed p.front p.tail h x in
    let Found : List Step → Type 0 = λ x. Finds p turn turn sent h x in
    subst At (sym t.are) (turn_steps_keep p turn sent rest o t.before t.after h t.before_quiet t.after_quiet k all (subst Timely t.are timely) (subst Heed t.are heed) (subst Found t.are finds))

pub settled_first : (p : Script) (turn : ℕ) (sent : List Sent) (os : List Orders) (steps : List Step) (h : Core) (t : AreTurnsOf p.own turn os steps) → AreSettled p.stops p.front p.own turn sent os steps h t → IsSettled p.stops p.front turn sent h
settled_first p turn sent [] steps h t s = s
settled_first p turn sent (o ∷ os) steps h t s = s.0

abbrev pub TurnsKeep : Script → ℕ → List Sent → List Orders → Core → List Step → Type 0
TurnsKeep p turn sent os h steps =
    AllFair h steps × Keeps p (turn + length os) (turn + length os) (sent ++ sent_in turn os) (run_world steps h) × Makes (p.own turn) (p.own (turn + length os)) h.made (run_world steps h).made

makes_both : (p : Script) (turn mid end : ℕ) (a b c : List Pulse) → turn ≤ mid → mid ≤ end → Makes (p.own turn) (p.own mid) a b → Makes (p.own mid) (p.own end) b c → Makes (p.own turn) (p.own end) a c
makes_both p turn mid end a b c h k x y = (
  x.0 ++ y.0,
  y.1 ∙ ap (λ z. z ++ y.0) x.1 ∙ append_assoc a x.0 y.0,
  λ oid. rw (only-append oid x.0 y.0)
      (between_append (p.own turn) (p.own end) (only oid x.0) (only oid y.0)
      (between_wide (p.own turn) (p.own mid) (p.own turn) (p.own end) (only oid x.0) (omega arith) (own_up p.own p.up mid end k) (x.2 oid))
      (between_wide (p.own mid) (p.own end) (p.own turn) (p.own end) (only oid y.0) (own_up p.own p.up turn mid h) (omega arith) (y.2 oid))),
)

pub turns_keep : (p : Script) (turn : ℕ) (sent rest : List Sent) (os : List Orders) (steps : List Step) (h : Core) (t : AreTurnsOf p.own turn os steps) → Keeps p turn turn sent h
    → (sent ++ sent_in turn os) ++ rest ≡ p.all → AllTimely h steps → AreSettled p.stops p.front p.own turn sent os steps h t → AllHeed p.front p.tail h steps → TurnsKeep p turn sent os h steps
turns_keep p turn sent rest [] steps h t k all timely settled heed =
    let At : List Step → Type 0 = λ x. TurnsKeep p turn sent [] h x in
    let zero_more : turn + 0 ≡ turn = omega arith in
    let Here : ℕ → List Sent → Type 0 = λ n x. Keeps p n n x h in
    let On : ℕ → Type 0 = λ n. Here n (sent ++ []) in
    subst At (sym t) (tt, subst On (sym zero_more) (subst (Here turn) (sym (append-nil sent)) k), ([], sym (append-nil h.made), λ oid. tt))
turns_keep p turn sent rest (o ∷ os) steps h t k all timely settled heed =
    let (first, later, are, one, more) = t in
    let At : List Step → Type 0 = λ x. TurnsKeep p turn sent (o ∷ os) h x in
    let Timely : List Step → Type 0 = λ x. AllTimely h x in
    let Heed : List Step → Type 0 = λ x. AllHeed p.front p.tail h x in
    let all_timely : AllTimely h (first ++ later) = subst Timely are timely in
    let all_heed : AllHeed p.front p.tail h (first ++ later) = subst Heed are heed in
    let mid = sent ++ sent_at turn (queued_in o) in
    let cut : mid ++ sent_in (turn + 1) os ≡ sent ++ sent_in turn (o ∷ os) = append_assoc sent (sent_at turn (queued_in o)) (sent_in (turn + 1) os) in
    let whole : (mid ++ sent_in (turn + 1) os) ++ rest ≡ p.all = ap (λ x. x ++ rest) cut ∙ all in
    let a = turn_keeps p turn sent (sent_in (turn + 1) os ++ rest) o first h one k (sym (append_assoc mid (sent_in (turn + 1) os) rest) ∙ whole) (timely_front first later h all_timely) (heed_front p.front p.tail first later h all_heed)
    (settled_finds p turn sent h first settled.1) in
    let next = settles p turn mid (run_world first h) a.1 (settled_first p (turn + 1) mid os later (run_world first h) more settled.2) in
    let b = turns_keep p (turn + 1) mid rest os later (run_world first h) more next whole (timely_behind first later h all_timely) settled.2 (heed_behind p.front p.tail first later h all_heed) in
    let n : turn + 1 + length os ≡ turn + length (o ∷ os) = omega arith in
    let To : Core → Type 0 = λ x. Keeps p (turn + length (o ∷ os)) (turn + length (o ∷ os)) (sent ++ sent_in turn (o ∷ os)) x in
    let On : ℕ → Type 0 = λ x. Keeps p x x (mid ++ sent_in (turn + 1) os) (run_world later (run_world first h)) in
    let Here : List Sent → Type 0 = λ x. Keeps p (turn + length (o ∷ os)) (turn + length (o ∷ os)) x (run_world later (run_world first h)) in
    let Made : Core → Type 0 = λ x. Makes (p.own turn) (p.own (turn + length (o ∷ os))) h.made x.made in
    let Until : ℕ → Type 0 = λ x. Makes (p.own turn) (p.own x) h.made (run_world later (run_world first h)).made in
    subst At (sym are) (
      fair_append first later h a.0 b.0,
      subst To (sym (run_append first later h)) (subst Here cut (subst On n b.1)),
      subst Made (sym (run_append first later h)) (subst Until n (makes_both p turn (turn + 1) (turn + 1 + length os) h.made (run_world first h).made (run_world later (run_world first h)).made (omega arith) (omega arith) a.2 b.2)),
    )

-- a board to which nothing was told
pub begins : (p : Script) (b : BoardDef) (pins : List (List Level)) → p.own 0 ≡ b.start → p.slots ≡ b.slots → Keeps p 0 0 [] (new_world b pins)
unfolding new_controller
begins p b pins first slots = record {
  ordered = start_ordered b pins;
  queued = refl;
  turns = tt;
  order = omega arith;
  rest = p.all;
  all_is = refl;
  tick = sym first;
  kept = whole_part (new_controller b) [] [] (first_kept b);
  state = inl (record {
    done = [];
    left = [];
    more = p.front;
    sent_is = refl;
    front_is = refl;
    taken = refl;
    stands = record {
      running = refl;
      tick = sym first;
      slots_are = sym slots;
      places = places_length 256;
      each = λ oid. rw (none_at 256 oid) refl;
      stopped = λ oid i. absurd i;
    };
    in_time = time_first p.stops p.front p.ahead;
    made = λ oid. rw (none_at 256 oid) (record { early = []; late = []; is = refl; past = refl; dropped = []; steps = refl; whole = λ _. refl; before = tt });
  });
}
