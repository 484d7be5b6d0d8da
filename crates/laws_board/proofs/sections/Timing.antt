-- A board that takes soon what is queued takes no unit too late for the 32-bit clock.
use Rattle.std.proofs.Common.{◌≡◌, ℕ, ◌+◌, ◌-◌, ◌≤◌, List, [], ◌∷◌, ◌++◌, length, map, take, drop, refl, ap, sym, ◌∙◌, subst, arith, append_assoc, append-nil, length-append}
use Rattle.laws_board.proofs.Names.{take-append-drop, flat_map-append, flat_map, Level, BoardDef, Meant, plain, units_orders, IsOrdered, Core, Step, Do, Turn, after_event, in_turn, world_after, run_world, new_world, Orders, queued_in, run_append}
use Rattle.std.proofs.lemmas.List.{take-append-le, length-take-le}
use Rattle.board_sim.specs.Board.{new_controller}
use Rattle.board_world.specs.declared.event.Event.TheVariants.{Put, Control, Arrive, Repeat, Pass}
use Rattle.board_world.proofs.Runs.{ordered_by, ordered_turn, start_ordered}
use Rattle.link_work.proofs.Steps.{tick_held, tick_passed}
use Rattle.laws_board.specs.sections.Events.{AreTicks, AreQuiet, AreTurnsOf}
use Rattle.laws_board.specs.sections.Timely.{AreTimely, AllTimely, TakesSoon}
use Rattle.laws_board.proofs.sections.Soon.{IsSoon, quiet_soon}

-- lists of steps
pub timely_join : (xs ys : List Step) (h : Core) → AllTimely h xs → AllTimely (run_world xs h) ys → AllTimely h (xs ++ ys)
timely_join [] ys h a b = b
timely_join (x ∷ xs) ys h a b = (a.0, timely_join xs ys (world_after h x) a.1 b)

-- quiet steps queue nothing and let no time pass
quiet_same : (steps : List Step) (h : Core) → AreQuiet steps → ((run_world steps h).queued ≡ h.queued) × ((run_world steps h).board.controller.tick ≡ h.board.controller.tick)
quiet_same [] h q = (refl, refl)
quiet_same (Turn n ∷ steps) h q = quiet_same steps (in_turn h n) q.1
quiet_same (Do (Put b) ∷ steps) h q = absurd q.0
quiet_same (Do (Control c) ∷ steps) h q = absurd q.0
quiet_same (Do (Pass t) ∷ steps) h q = absurd q.0
quiet_same (Do Arrive ∷ steps) h q =
    let r = quiet_same steps (after_event h Arrive) q.1 in
    (r.0 ∙ append-nil h.queued, r.1 ∙ tick_held (Do Arrive ∷ []) h (tt, tt))
quiet_same (Do Repeat ∷ steps) h q =
    let r = quiet_same steps (after_event h Repeat) q.1 in
    (r.0 ∙ append-nil h.queued, r.1 ∙ tick_held (Do Repeat ∷ []) h (tt, tt))
quiet_same (Do e ∷ steps) h q = let r = quiet_same steps (after_event h e) q.1 in (r.0 ∙ append-nil h.queued, r.1)

-- a board between two turns, with what was queued so far
pub record IsBetween (own : ℕ → ℕ) (turn : ℕ) (sofar : List Orders) (h : Core) : Type 0 where
  pub ordered : IsOrdered h
  pub queued : h.queued ≡ flat_map queued_in sofar
  pub tick : h.board.controller.tick ≡ own turn

pub turn_steps_soon : (own : ℕ → ℕ) (turn : ℕ) (sofar : List Orders) (o : Orders) (before rear : List Step) (h : Core) (first others more : List Meant) → own turn ≤ own (turn + 1) → AreQuiet before → AreQuiet rear
    → IsBetween own turn sofar h → first ++ more ≡ h.taken → flat_map queued_in sofar ++ queued_in o ≡ first ++ others → AreTimely (own (turn + 1)) others
    → AllTimely h (Turn turn ∷ Do (Control o.control) ∷ Do (Put o.batch) ∷ before ++ Do (Pass (own (turn + 1))) ∷ rear)
    × IsBetween own (turn + 1) (sofar ++ o ∷ []) (run_world (Turn turn ∷ Do (Control o.control) ∷ Do (Put o.batch) ∷ before ++ Do (Pass (own (turn + 1))) ∷ rear) h)
turn_steps_soon own turn sofar o before rear h first others more up bq rq k took cut timely =
    let t = own (turn + 1) in
    let cs = map plain o.control.commands in
    let us = units_orders o.batch.units in
    let pass = Do (Pass t) in
    let h1 = in_turn h turn in
    let h2 = after_event h1 (Control o.control) in
    let h3 = after_event h2 (Put o.batch) in
    let o1 = ordered_turn h turn k.ordered in
    let o3 = ordered_by h2 (Put o.batch) (ordered_by h1 (Control o.control) o1) in
    let all = (h.queued ++ cs) ++ us in
    let whole : all ≡ flat_map queued_in sofar ++ queued_in o = append_assoc h.queued cs us ∙ ap (λ x. x ++ queued_in o) k.queued in
    let k3 : IsSoon t first all h3 = record {
      ordered = o3;
      more = more;
      took = append-nil (h.taken ++ []) ∙ append-nil h.taken ∙ sym took;
      rest = [];
      all_is = append-nil all;
      tick = rw k.tick up;
    } in
    let q = quiet_soon t first others all before h3 bq k3 (whole ∙ cut) timely in
    let h4 = run_world before h3 in
    let h5 = after_event h4 (Pass t) in
    let at : h5.board.controller.tick ≡ t = tick_passed h4 t q.1.ordered q.1.tick in
    let k5 : IsSoon t first all h5 = record {
      ordered = ordered_by h4 (Pass t) q.1.ordered;
      more = q.1.more;
      took = append-nil h4.taken ∙ q.1.took;
      rest = q.1.rest;
      all_is = ap (λ x. x ++ q.1.rest) (append-nil h4.queued) ∙ q.1.all_is;
      tick = rw at (omega arith);
    } in
    let r = quiet_soon t first others all rear h5 rq k5 (whole ∙ cut) timely in
    let b = quiet_same before h3 bq in
    let s = quiet_same rear h5 rq in
    let To : Core → Type 0 = λ x. IsBetween own (turn + 1) (sofar ++ o ∷ []) x in
    let one : flat_map queued_in (sofar ++ o ∷ []) ≡ flat_map queued_in sofar ++ queued_in o =
    flat_map-append queued_in sofar (o ∷ []) ∙ ap (λ x. flat_map queued_in sofar ++ x) (append-nil (queued_in o)) in (
      (tt, (λ on. tt, (λ on. tt, timely_join before (pass ∷ rear) h3 q.0 (λ on. tt, r.0)))),
      subst To (sym (run_append before (pass ∷ rear) h3))
          (record { ordered = r.1.ordered; queued = s.0 ∙ append-nil h4.queued ∙ b.0 ∙ whole ∙ sym one; tick = s.1 ∙ at }),
    )

-- what is queued in some turns of all is timely until n turns later
abbrev pub AreLasting : (ℕ → ℕ) → ℕ → List Orders → Type 0
AreLasting own n all = (xs seg os : List Orders) (top : ℕ) → all ≡ xs ++ (seg ++ os) → top ≤ length xs + n → AreTimely (own (top + 1)) (flat_map queued_in seg)

-- what was queued n turns ago or earlier, and the rest
turns_soon : (own : ℕ → ℕ) (n : ℕ) (all : List Orders) → AreTicks own → AreLasting own n all → (os sofar : List Orders) (steps : List Step) (h : Core) (turn : ℕ) (t : AreTurnsOf own turn os steps)
    → turn ≡ length sofar → all ≡ sofar ++ os → IsBetween own turn sofar h → TakesSoon n all own turn os steps h t → AllTimely h steps
turns_soon own n all ticks lasting [] sofar steps h turn t long cut k soon =
    let At : List Step → Type 0 = λ x. AllTimely h x in
    subst At (sym t) tt
turns_soon own n all ticks lasting (o ∷ os) sofar steps h turn t long cut k soon =
    let (one, later, are, is, more) = t in
    let back = turn - n in
    let xs = take back sofar in
    let ys = drop back sofar in
    let short : take back all ≡ xs = ap (take back) cut ∙ take-append-le back sofar (o ∷ os) (omega (arith, long)) in
    let split : flat_map queued_in sofar ≡ flat_map queued_in xs ++ flat_map queued_in ys = ap (flat_map queued_in) (sym (take-append-drop back sofar)) ∙ flat_map-append queued_in xs ys in
    let others = flat_map queued_in ys ++ queued_in o in
    let cut_two : flat_map queued_in sofar ++ queued_in o ≡ flat_map queued_in xs ++ others = ap (λ x. x ++ queued_in o) split ∙ append_assoc (flat_map queued_in xs) (flat_map queued_in ys) (queued_in o) in
    let first : flat_map queued_in xs ++ soon.0.0 ≡ h.taken = ap (λ x. flat_map queued_in x ++ soon.0.0) (sym short) ∙ soon.0.1 in
    let seg = ys ++ o ∷ [] in
    let joined : all ≡ xs ++ (seg ++ os) = cut ∙ ap (λ x. x ++ o ∷ os) (sym (take-append-drop back sofar)) ∙ append_assoc xs ys (o ∷ os) ∙ ap (λ x. xs ++ x) (sym (append_assoc ys (o ∷ []) os)) in
    let far_back : length xs ≡ back = length-take-le back sofar (omega (arith, long)) in
    let timely_seg = lasting xs seg os turn joined (omega (arith, far_back)) in
    let Timely : List Meant → Type 0 = λ x. AreTimely (own (turn + 1)) x in
    let seg_is : flat_map queued_in seg ≡ others = flat_map-append queued_in ys (o ∷ []) ∙ ap (λ x. flat_map queued_in ys ++ x) (append-nil (queued_in o)) in
    let a = turn_steps_soon own turn sofar o is.before is.after h (flat_map queued_in xs) others soon.0.0 (ticks.up turn) is.before_quiet is.after_quiet k first cut_two (subst Timely seg_is timely_seg) in
    let One : List Step → Type 0 = λ x. AllTimely h x in
    let Then : List Step → Type 0 = λ x. IsBetween own (turn + 1) (sofar ++ o ∷ []) (run_world x h) in
    let rest = turns_soon own n all ticks lasting os (sofar ++ o ∷ []) later (run_world one h) (turn + 1) more (omega (arith, long, length-append sofar (o ∷ [])))
    (cut ∙ sym (append_assoc sofar (o ∷ []) os)) (subst Then (sym is.are) a.1) soon.1 in
    subst One (sym are) (timely_join one later h (subst One (sym is.are) a.0) rest)

pub lasting_timely : (b : BoardDef) (pins : List (List Level)) (own : ℕ → ℕ) (n : ℕ) (os : List Orders) (steps : List Step) (t : AreTurnsOf own 0 os steps) → AreTicks own → own 0 ≡ b.start
    → AreLasting own n os → TakesSoon n os own 0 os steps (new_world b pins) t → AllTimely (new_world b pins) steps
unfolding new_controller
lasting_timely b pins own n os steps t ticks first lasting soon =
    turns_soon own n os ticks lasting os [] steps (new_world b pins) 0 t refl refl (record { ordered = start_ordered b pins; queued = refl; tick = sym first }) soon
