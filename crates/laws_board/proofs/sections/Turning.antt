-- Turns keep what steps keep.
use Rattle.std.proofs.Common.{◌≡◌, ℕ, zero, suc, ◌+◌, ◌≤◌, List, [], ◌∷◌, ◌++◌, length, map, get_or, Some, None, refl, ap, sym, ◌∙◌, subst, arith, inl, inr, append_assoc, append-nil}
use Rattle.laws_board.proofs.Names.{Level, BoardDef, is_shut, plain, units_orders, Core, Step, Do, Turn, after_event, world_after, run_world, new_world, Orders, queued_in, run_append}
use Rattle.board_sim.specs.Board.{new_controller, places}
use Rattle.board_sim.specs.Rig.{no_objects}
use Rattle.board_sim.proofs.HaltedTime.{time_keeps, whole_part}
use Rattle.board_sim.proofs.Keeps.{first_kept, none_at}
use Rattle.board_sim.proofs.RigShut.{passes_left}
use Rattle.board_sim.proofs.Unbound.{passes_free}
use Rattle.board_world.specs.declared.event.Event.TheVariants.{Put, Control, Pass}
use Rattle.board_world.specs.Units.{AllFind}
use Rattle.board_world.specs.World.{AllFair}
use Rattle.board_world.proofs.Runs.{ordered_by, start_ordered}
use Rattle.link_work.proofs.Steps.{tick_passed}
use Rattle.laws_board.specs.sections.Events.{AreQuiet, IsTurnOf, AreTurnsOf}
use Rattle.laws_board.specs.sections.Known.{Sent, sent_at, sent_in, known_steppers}
use Rattle.laws_board.specs.sections.Timely.{AllTimely}
use Rattle.laws_board.proofs.sections.Fits.{BoardFits}
use Rattle.laws_board.proofs.sections.Passes.{rig_runs}
use Rattle.laws_board.proofs.sections.Lists.{sent_append, up_later}
use Rattle.laws_board.proofs.sections.Taking.{RigFits}
use Rattle.laws_board.proofs.sections.Running.{Plan, RunsOn, Holds, quiet_holds, queues_on}

-- time passes on a board that runs
runs_fit : (p : Plan) (turn t : ℕ) (sent : List Sent) (h : Core) → Holds p turn sent h → (r : RunsOn p turn sent h) → (after_event h (Pass t)).board.controller.tick ≡ t
    → RigFits t p.slots (known_steppers r.done) (after_event h (Pass t)).board
runs_fit p turn t sent h k r tick =
    let At : ℕ → Type 0 = λ n. BoardFits n p.slots (known_steppers r.done) h.board.controller in
    let To : ℕ → Type 0 = λ n. BoardFits n p.slots (known_steppers r.done) (after_event h (Pass t)).board.controller in
    let ran = rig_runs p.slots (known_steppers r.done) h.board t h.made k.kept.kept r.fits.free (subst At (sym k.tick) r.fits.steppers) k.kept.is in
    record { steppers = subst To tick ran.fits; free = λ i. (passes_free h.board t i (r.fits.free i)).0 }

pub pass_holds : (p : Plan) (turn : ℕ) (sent : List Sent) (h : Core) → Holds p turn sent h → Holds p (turn + 1) sent (after_event h (Pass (p.own (turn + 1))))
pass_holds p turn sent h k =
    let t = p.own (turn + 1) in
    let up : p.own turn ≤ t = p.up turn in
    let tick = tick_passed h t k.ordered (rw k.tick up) in
    record {
      ordered = ordered_by h (Pass t) k.ordered;
      queued = k.queued ∙ sym (append-nil h.queued);
      turns = up_later turn sent k.turns;
      rest = k.rest;
      all = k.all;
      tick = tick;
      kept = time_keeps h.board t h.made h.meant k.kept;
      state = elim k.state [
        | inl r ↦ inl (record {
          done = r.done;
          left = r.left;
          more = r.more;
          sent_is = r.sent_is;
          taken = r.taken ∙ sym (append-nil h.taken);
          front_is = r.front_is;
          fits = runs_fit p turn t sent h k r tick;
          meant = r.meant;
        })
        | inr d ↦
            let (reason, first_tick, first, state, may) = d.shut in
            inr (record {
              shut = (reason, first_tick, first, (passes_left h.board t (ap is_shut state)).1 ∙ state, may);
              meant = d.meant;
            })
      ];
    }

-- lists of steps
pub fair_append : (xs ys : List Step) (h : Core) → AllFair h xs → AllFair (run_world xs h) ys → AllFair h (xs ++ ys)
fair_append [] ys h a b = b
fair_append (x ∷ xs) ys h a b = (a.0, fair_append xs ys (world_after h x) a.1 b)

pub find_append : (xs ys : List Step) (h : Core) → AllFind h xs → AllFind (run_world xs h) ys → AllFind h (xs ++ ys)
find_append [] ys h a b = b
find_append (x ∷ xs) ys h a b = (a.0, find_append xs ys (world_after h x) a.1 b)

pub timely_front : (xs ys : List Step) (h : Core) → AllTimely h (xs ++ ys) → AllTimely h xs
timely_front [] ys h a = tt
timely_front (x ∷ xs) ys h a = (a.0, timely_front xs ys (world_after h x) a.1)

pub timely_behind : (xs ys : List Step) (h : Core) → AllTimely h (xs ++ ys) → AllTimely (run_world xs h) ys
timely_behind [] ys h a = a
timely_behind (x ∷ xs) ys h a = timely_behind xs ys (world_after h x) a.1

pub quiet_hold : (p : Plan) (turn : ℕ) (sent : List Sent) (steps : List Step) (h : Core) → AreQuiet steps → Holds p turn sent h → AllTimely h steps
    → AllFair h steps × AllFind h steps × Holds p turn sent (run_world steps h)
quiet_hold p turn sent [] h q k timely = (tt, tt, k)
quiet_hold p turn sent (s ∷ steps) h q k timely =
    let one = quiet_holds p turn sent h s q.0 k timely.0 in
    let rest = quiet_hold p turn sent steps (world_after h s) q.1 one.2 timely.1 in
    ((one.0, rest.0), (one.1, rest.1), rest.2)

abbrev TurnHolds : Plan → ℕ → List Sent → Orders → Core → List Step → Type 0
TurnHolds p turn sent o h steps = AllFair h steps × AllFind h steps × Holds p (turn + 1) (sent ++ sent_at turn (queued_in o)) (run_world steps h)

-- a turn
turn_steps_hold : (p : Plan) (turn : ℕ) (sent rest : List Sent) (o : Orders) (before rear : List Step) (h : Core) → AreQuiet before → AreQuiet rear → Holds p turn sent h
    → (sent ++ sent_at turn (queued_in o)) ++ rest ≡ p.front ++ p.tail
    → AllTimely h (Turn turn ∷ Do (Control o.control) ∷ Do (Put o.batch) ∷ before ++ Do (Pass (p.own (turn + 1))) ∷ rear)
    → TurnHolds p turn sent o h (Turn turn ∷ Do (Control o.control) ∷ Do (Put o.batch) ∷ before ++ Do (Pass (p.own (turn + 1))) ∷ rear)
turn_steps_hold p turn sent rest o before rear h bq rq k all timely =
    let cs = map plain o.control.commands in
    let us = units_orders o.batch.units in
    let pass = Do (Pass (p.own (turn + 1))) in
    let split : sent_at turn (queued_in o) ≡ sent_at turn cs ++ sent_at turn us = sent_append turn cs us in
    let h1 = world_after h (Turn turn) in
    let k1 = (quiet_holds p turn sent h (Turn turn) tt k tt).2 in
    let h2 = after_event h1 (Control o.control) in
    let whole : ((sent ++ sent_at turn cs) ++ sent_at turn us) ++ rest ≡ p.front ++ p.tail =
    ap (λ x. x ++ rest) (append_assoc sent (sent_at turn cs) (sent_at turn us) ∙ ap (λ x. sent ++ x) (sym split)) ∙ all in
    let k2 : Holds p turn (sent ++ sent_at turn cs) h2 =
    queues_on p turn sent (sent_at turn us ++ rest) h1 (Control o.control) k1 (sym (append_assoc (sent ++ sent_at turn cs) (sent_at turn us) rest) ∙ whole) refl refl refl in
    let h3 = after_event h2 (Put o.batch) in
    let k3 : Holds p turn ((sent ++ sent_at turn cs) ++ sent_at turn us) h3 = queues_on p turn (sent ++ sent_at turn cs) rest h2 (Put o.batch) k2 whole refl refl refl in
    let q = quiet_hold p turn ((sent ++ sent_at turn cs) ++ sent_at turn us) before h3 bq k3 (timely_front before (pass ∷ rear) h3 timely.1.1.1) in
    let h4 = run_world before h3 in
    let k5 = pass_holds p turn ((sent ++ sent_at turn cs) ++ sent_at turn us) h4 q.2 in
    let h5 = world_after h4 pass in
    let late = timely_behind before (pass ∷ rear) h3 timely.1.1.1 in
    let r = quiet_hold p (turn + 1) ((sent ++ sent_at turn cs) ++ sent_at turn us) rear h5 rq k5 late.1 in
    let At : List Sent → Type 0 = λ x. Holds p (turn + 1) x (run_world rear h5) in
    let To : Core → Type 0 = λ x. Holds p (turn + 1) (sent ++ sent_at turn (queued_in o)) x in (
      (tt, (tt, (tt, fair_append before (pass ∷ rear) h3 q.0 (tt, r.0)))),
      (tt, (tt, (tt, find_append before (pass ∷ rear) h3 q.1 (tt, r.1)))),
      subst To (sym (run_append before (pass ∷ rear) h3)) (subst At (append_assoc sent (sent_at turn cs) (sent_at turn us) ∙ ap (λ x. sent ++ x) (sym split)) r.2),
    )

pub turn_holds : (p : Plan) (turn : ℕ) (sent rest : List Sent) (o : Orders) (steps : List Step) (h : Core) → IsTurnOf p.own turn o steps → Holds p turn sent h
    → (sent ++ sent_at turn (queued_in o)) ++ rest ≡ p.front ++ p.tail → AllTimely h steps → TurnHolds p turn sent o h steps
turn_holds p turn sent rest o steps h t k all timely =
    let At : List Step → Type 0 = λ x. TurnHolds p turn sent o h x in
    let Timely : List Step → Type 0 = λ x. AllTimely h x in
    subst At (sym t.are) (turn_steps_hold p turn sent rest o t.before t.after h t.before_quiet t.after_quiet k all (subst Timely t.are timely))

abbrev pub TurnsHold : Plan → ℕ → List Sent → List Orders → Core → List Step → Type 0
TurnsHold p turn sent os h steps = AllFair h steps × AllFind h steps × Holds p (turn + length os) (sent ++ sent_in turn os) (run_world steps h)

pub turns_hold : (p : Plan) (turn : ℕ) (sent rest : List Sent) (os : List Orders) (steps : List Step) (h : Core) → AreTurnsOf p.own turn os steps → Holds p turn sent h
    → (sent ++ sent_in turn os) ++ rest ≡ p.front ++ p.tail → AllTimely h steps → TurnsHold p turn sent os h steps
turns_hold p turn sent rest [] steps h t k all timely =
    let At : List Step → Type 0 = λ x. TurnsHold p turn sent [] h x in
    let zero_more : turn + 0 ≡ turn = omega arith in
    let Here : ℕ → List Sent → Type 0 = λ n x. Holds p n x h in
    let On : ℕ → Type 0 = λ n. Here n (sent ++ []) in
    subst At (sym t) (tt, tt, subst On (sym zero_more) (subst (Here turn) (sym (append-nil sent)) k))
turns_hold p turn sent rest (o ∷ os) steps h t k all timely =
    let (first, later, are, one, more) = t in
    let At : List Step → Type 0 = λ x. TurnsHold p turn sent (o ∷ os) h x in
    let Timely : List Step → Type 0 = λ x. AllTimely h x in
    let all_timely : AllTimely h (first ++ later) = subst Timely are timely in
    let mid = sent ++ sent_at turn (queued_in o) in
    let cut : mid ++ sent_in (turn + 1) os ≡ sent ++ sent_in turn (o ∷ os) = append_assoc sent (sent_at turn (queued_in o)) (sent_in (turn + 1) os) in
    let whole : (mid ++ sent_in (turn + 1) os) ++ rest ≡ p.front ++ p.tail = ap (λ x. x ++ rest) cut ∙ all in
    let a = turn_holds p turn sent (sent_in (turn + 1) os ++ rest) o first h one k (sym (append_assoc mid (sent_in (turn + 1) os) rest) ∙ whole) (timely_front first later h all_timely) in
    let b = turns_hold p (turn + 1) mid rest os later (run_world first h) more a.2 whole (timely_behind first later h all_timely) in
    let n : turn + 1 + length os ≡ turn + length (o ∷ os) = omega arith in
    let To : Core → Type 0 = λ x. Holds p (turn + length (o ∷ os)) (sent ++ sent_in turn (o ∷ os)) x in
    let On : ℕ → Type 0 = λ x. Holds p x (mid ++ sent_in (turn + 1) os) (run_world later (run_world first h)) in
    let Here : List Sent → Type 0 = λ x. Holds p (turn + length (o ∷ os)) x (run_world later (run_world first h)) in
    subst At (sym are) (
      fair_append first later h a.0 b.0,
      find_append first later h a.1 b.1,
      subst To (sym (run_append first later h)) (subst Here cut (subst On n b.2)),
    )

pub places_length : (n : ℕ) → length (places n) ≡ n
places_length zero = refl
places_length (suc n) = ap (λ x. suc x) (places_length n)

none_free : {A : Type 0} (n i : ℕ) (x : A) → get_or (no_objects n) i None ≡ Some x → ⊥
none_free zero i x e = cc
none_free (suc n) zero x e = cc
none_free (suc n) (suc i) x e = none_free n i x e

pub starts : (p : Plan) (b : BoardDef) (pins : List (List Level)) → p.own 0 ≡ b.start → p.slots ≡ b.slots → Holds p 0 [] (new_world b pins)
unfolding new_controller
starts p b pins first slots = record {
  ordered = start_ordered b pins;
  queued = refl;
  turns = tt;
  rest = p.front ++ p.tail;
  all = refl;
  tick = sym first;
  kept = whole_part (new_controller b) [] [] (first_kept b);
  state = inl (record {
    done = [];
    left = [];
    more = p.front;
    sent_is = refl;
    taken = refl;
    front_is = refl;
    fits = record {
      steppers = record { running = refl; tick = sym first; slots_are = sym slots; places = places_length 256; each = λ oid. rw (none_at 256 oid) refl };
      free = λ i oid s is. absurd (none_free 256 oid s is);
    };
    meant = λ oid. refl;
  });
}
