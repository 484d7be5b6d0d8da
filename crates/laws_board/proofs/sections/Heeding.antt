-- A board that takes soon what is queued takes all its units in time for the 32-bit clock, as long as it runs.
use Rattle.std.proofs.Common.{◌≡◌, ℕ, ◌+◌, ◌-◌, ◌<◌, ◌≤◌, ◌⊎◌, List, [], ◌∷◌, ◌++◌, length, map, take, drop, refl, ap, sym, ◌∙◌, subst, arith, inl, inr, append_assoc, append-nil, length-append}
use Rattle.laws_board.proofs.Names.{append_cancel_left, take-append-drop, flat_map, Level, BoardDef, BoardState, Running, Shut, Meant, Event, plain, units_orders, Core, Step, Do, Turn, takes_in, after_event, world_after, run_world, new_world, Orders, queued_in, run_append}
use Rattle.std.proofs.lemmas.List.{length-take-le}
use Rattle.board_world.specs.declared.event.Event.TheVariants.{Put, Control, Pass}
use Rattle.board_world.specs.World.{orders_of}
use Rattle.board_world.proofs.Runs.{ordered_by}
use Rattle.laws_board.specs.sections.Events.{AreQuiet, AreTicks, AreTurnsOf, QueuesNothing}
use Rattle.laws_board.specs.sections.Known.{Sent, sent_at, sent_in, orders_sent}
use Rattle.laws_board.specs.sections.Timely.{AllTimely, AreTimely, IsTimelyAt, TakesSoon}
use Rattle.laws_board.proofs.sections.Clocks.{ticks_up}
use Rattle.laws_board.proofs.sections.Latest.{AllLast, BeginPast}
use Rattle.laws_board.proofs.sections.Lists.{cuts, orders_append, own_up, sent_append, orders_long}
use Rattle.laws_board.proofs.sections.Running.{Holds, Plan, left_first, queues_on, quiet_holds}
use Rattle.laws_board.proofs.sections.Shutting.{AreSince, IsTimed, last_behind, last_front, last_timely, since_behind, since_in}
use Rattle.laws_board.proofs.sections.Soon.{all_before, one_before, part_front, timely_append}
use Rattle.laws_board.proofs.sections.Spans.{sent_in_append}
use Rattle.laws_board.proofs.sections.Turning.{pass_holds, starts}
use Rattle.laws_board.proofs.sections.Timing.{timely_join}
use Rattle.laws_board.proofs.sections.Wholes.{sent_orders}

-- what is to be known of a run's commands
pub record IsHeeded (p : Plan) (n : ℕ) : Type 0 where
  pub last : AllLast p.own n p.front
  pub past : BeginPast p.own n p.tail

-- By a turn so many commands were taken: with them all that were sent before a turn, at most n turns ago, or all good ones and the first lost one.
pub record HasEnough (p : Plan) (n turn most : ℕ) : Type 0 where
  pub first : List Sent
  pub others : List Sent
  pub all : first ++ others ≡ p.front ++ p.tail
  pub low : ℕ
  pub since : AreSince low others
  pub taken : length first ≤ most
  pub enough : (turn ≤ low + n) ⊎ (length p.front < length first)

pub shut_runs : (o : BoardState) (reason tick first : ℕ) → o ≡ Running → o ≡ Shut reason tick first → ⊥
shut_runs o reason tick first a b = cc

-- what a board that runs takes next
next_timely : (p : Plan) (n turn most by : ℕ) (sent : List Sent) (h : Core) (e : Event) → IsHeeded p n → HasEnough p n by most → turn ≤ by + 1 → most ≤ length h.taken → Holds p turn sent h → orders_of e ≡ [] → h.board.controller.state ≡ Running
    → AreTimely h.board.controller.tick (takes_in h e)
next_timely p n turn most by sent h e heed has now taken k none running = elim k.state [
  | inr d ↦
      let (reason, tick, first, state, may) = d.shut in
      absurd (shut_runs h.board.controller.state reason tick first running state)
  | inl r ↦
      let g = after_event h e in
      let o = ordered_by h e k.ordered in
      let ms = takes_in h e in
      let c = length g.link.taken in
      let same : g.queued ≡ h.queued = ap (λ x. h.queued ++ x) none ∙ append-nil h.queued in
      let later : (h.taken ++ ms) ++ drop c g.queued ≡ orders_sent sent = ap (λ x. x ++ drop c g.queued) o.first ∙ take-append-drop c g.queued ∙ same ∙ sym k.queued in
      let Left : List Meant → List Sent → Type 0 = λ t s. (t ++ ms) ++ drop c g.queued ≡ orders_sent s in
      let At : List Sent → Type 0 = λ s. Left (orders_sent r.done) s in
      let To : List Meant → Type 0 = λ t. Left t sent in
      let firsts = left_first r.done r.left ms (drop c g.queued) (subst At r.sent_is (subst To (sym r.taken) later)) in
      let (l, others, left, is) = firsts in
      let here : l ++ (others ++ k.rest) ≡ r.more ++ p.tail =
      append_cancel_left r.done (l ++ (others ++ k.rest)) (r.more ++ p.tail)
      (ap (λ x. r.done ++ x) (sym (append_assoc l others k.rest)) ∙ sym (append_assoc r.done (l ++ others) k.rest) ∙ ap (λ x. (r.done ++ x) ++ k.rest) (sym left) ∙ ap (λ x. x ++ k.rest) (sym r.sent_is)
      ∙ k.all ∙ ap (λ x. x ++ p.tail) (sym r.front_is) ∙ append_assoc r.done r.more p.tail) in
      let many : length h.taken ≡ length r.done = ap length (sym r.taken) ∙ orders_long r.done in
      let whole : has.first ++ has.others ≡ r.done ++ (l ++ (others ++ k.rest)) =
      has.all ∙ ap (λ x. x ++ p.tail) (sym r.front_is) ∙ append_assoc r.done r.more p.tail ∙ ap (λ x. r.done ++ x) (sym here) in
      let since : AreSince has.low (l ++ (others ++ k.rest)) = elim (cuts has.first has.others r.done (l ++ (others ++ k.rest)) whole) [
        | inl q ↦
            let Since : List Sent → Type 0 = λ x. AreSince has.low x in
            since_behind has.low q.0 (l ++ (others ++ k.rest)) (subst Since q.2 has.since)
        | inr q ↦
            let long = ap length q.2 in
            let both = length-append r.done (q.0 ∷ q.1) in
            let low = has.taken in
            absurd (omega (arith, long, both, low, taken, many))
      ] in
      let last : AllLast p.own n r.more =
      (let Last : List Sent → Type 0 = λ x. AllLast p.own n x in last_behind p.own n r.done r.more (subst Last (sym r.front_is) heed.last)) in
      let soon : turn ≤ has.low + n + 1 = elim has.enough [
        | inl q ↦ omega (arith, q, now)
        | inr q ↦
            let long = ap length r.front_is in
            let both = length-append r.done r.more in
            let low = has.taken in
            absurd (omega (arith, long, both, low, taken, many, q))
      ] in
      let t = p.own turn in
      let timely : AreTimely t (orders_sent l) = elim (cuts l (others ++ k.rest) r.more p.tail here) [
        | inl q ↦
            let Last : List Sent → Type 0 = λ x. AllLast p.own n x in
            last_timely p.own p.up n has.low turn l (last_front p.own n l q.0 (subst Last q.1 last)) (front_since has.low l (others ++ k.rest) since) soon
        | inr q ↦
            let (s, m, cut, lost) = q in
            let Past : List Sent → Type 0 = λ x. BeginPast p.own n x in
            let past : BeginPast p.own n (s ∷ m ++ (others ++ k.rest)) = subst Past lost heed.past in
            let Since : List Sent → Type 0 = λ x. AreSince has.low x in
            let mine : AreSince has.low (r.more ++ s ∷ m) = subst Since cut (front_since has.low l (others ++ k.rest) since) in
            let at = (since_behind has.low r.more (s ∷ m) mine).0 in
            let up = own_up p.own p.up turn (s.turn + n + 1) (omega (arith, at, soon)) in
            let Timely : List Meant → Type 0 = λ x. AreTimely (p.own (s.turn + n + 1)) x in
            let rear = part_front (p.own (s.turn + n + 1)) (orders_sent m) (orders_sent (others ++ k.rest)) (subst Timely (orders_append m (others ++ k.rest)) past.2) in
            let Here : List Meant → Type 0 = λ x. AreTimely t x in
            subst Here (sym (ap orders_sent cut ∙ orders_append r.more (s ∷ m)))
            (timely_append t (orders_sent r.more) (orders_sent (s ∷ m)) (last_timely p.own p.up n has.low turn r.more last (front_since has.low r.more (s ∷ m) mine) soon)
            (one_before t (p.own (s.turn + n + 1)) s.order.command s.order.ticks up past.1, all_before t (p.own (s.turn + n + 1)) (orders_sent m) up rear))
      ] in
      let Tick : ℕ → Type 0 = λ x. AreTimely x ms in
      let Orders : List Meant → Type 0 = λ x. AreTimely t x in
      subst Tick (sym k.tick) (subst Orders is timely)
]
  where
    front_since : (low : ℕ) (ss ts : List Sent) → AreSince low (ss ++ ts) → AreSince low ss
    front_since low [] ts a = tt
    front_since low (s ∷ ss) ts a = (a.0, front_since low ss ts a.1)

-- steps that queue nothing and let no time pass
step_timely : (p : Plan) (n turn most by : ℕ) (sent : List Sent) (h : Core) (s : Step) → QueuesNothing s → IsHeeded p n → HasEnough p n by most → turn ≤ by + 1 → most ≤ length h.taken → Holds p turn sent h → IsTimelyAt h s
step_timely p n turn most by sent h (Turn k) q heed has now taken holds = tt
step_timely p n turn most by sent h (Do (Put b)) q heed has now taken holds = absurd q
step_timely p n turn most by sent h (Do (Control c)) q heed has now taken holds = absurd q
step_timely p n turn most by sent h (Do (Pass t)) q heed has now taken holds = absurd q
step_timely p n turn most by sent h (Do e) q heed has now taken holds = λ on. next_timely p n turn most by sent h e heed has now taken holds refl on

taken_after : (most : ℕ) (h : Core) (s : Step) → most ≤ length h.taken → most ≤ length (world_after h s).taken
taken_after most h (Turn k) low = low
taken_after most h (Do e) low = omega (arith, low, length-append h.taken (takes_in h e))

quiet_timely : (p : Plan) (n turn most by : ℕ) (sent : List Sent) (steps : List Step) (h : Core) → AreQuiet steps → IsHeeded p n → HasEnough p n by most → turn ≤ by + 1 → most ≤ length h.taken → Holds p turn sent h
    → AllTimely h steps × Holds p turn sent (run_world steps h) × (most ≤ length (run_world steps h).taken)
quiet_timely p n turn most by sent [] h q heed has now taken k = (tt, k, taken)
quiet_timely p n turn most by sent (s ∷ steps) h q heed has now taken k =
    let one = step_timely p n turn most by sent h s q.0 heed has now taken k in
    let rest = quiet_timely p n turn most by sent steps (world_after h s) q.1 heed has now (taken_after most h s taken) (quiet_holds p turn sent h s q.0 k one).2 in
    ((one, rest.0), rest.1, rest.2)

abbrev TurnTimely : Plan → ℕ → List Sent → Orders → Core → List Step → Type 0
TurnTimely p turn sent o h steps = AllTimely h steps × Holds p (turn + 1) (sent ++ sent_at turn (queued_in o)) (run_world steps h)

turn_steps_timely : (p : Plan) (n turn most : ℕ) (sent rest : List Sent) (o : Orders) (before rear : List Step) (h : Core) → AreQuiet before → AreQuiet rear → IsHeeded p n → HasEnough p n turn most → most ≤ length h.taken → Holds p turn sent h
    → (sent ++ sent_at turn (queued_in o)) ++ rest ≡ p.front ++ p.tail
    → TurnTimely p turn sent o h (Turn turn ∷ Do (Control o.control) ∷ Do (Put o.batch) ∷ before ++ Do (Pass (p.own (turn + 1))) ∷ rear)
turn_steps_timely p n turn most sent rest o before rear h bq rq heed has taken k all =
    let cs = map plain o.control.commands in
    let us = units_orders o.batch.units in
    let pass = Do (Pass (p.own (turn + 1))) in
    let split : sent_at turn (queued_in o) ≡ sent_at turn cs ++ sent_at turn us = sent_append turn cs us in
    let h1 = world_after h (Turn turn) in
    let k1 = (quiet_holds p turn sent h (Turn turn) tt k tt).2 in
    let h2 = after_event h1 (Control o.control) in
    let whole : ((sent ++ sent_at turn cs) ++ sent_at turn us) ++ rest ≡ p.front ++ p.tail =
    ap (λ x. x ++ rest) (append_assoc sent (sent_at turn cs) (sent_at turn us) ∙ ap (λ x. sent ++ x) (sym split)) ∙ all in
    let k2 : Holds p turn (sent ++ sent_at turn cs) h2 =
    queues_on p turn sent (sent_at turn us ++ rest) h1 (Control o.control) k1 (sym (append_assoc (sent ++ sent_at turn cs) (sent_at turn us) rest) ∙ whole) refl refl refl in
    let h3 = after_event h2 (Put o.batch) in
    let k3 : Holds p turn ((sent ++ sent_at turn cs) ++ sent_at turn us) h3 = queues_on p turn (sent ++ sent_at turn cs) rest h2 (Put o.batch) k2 whole refl refl refl in
    let t3 = taken_after most h2 (Do (Put o.batch)) (taken_after most h1 (Do (Control o.control)) taken) in
    let q = quiet_timely p n turn most turn ((sent ++ sent_at turn cs) ++ sent_at turn us) before h3 bq heed has (omega arith) t3 k3 in
    let h4 = run_world before h3 in
    let k5 = pass_holds p turn ((sent ++ sent_at turn cs) ++ sent_at turn us) h4 q.1 in
    let h5 = world_after h4 pass in
    let r = quiet_timely p n (turn + 1) most turn ((sent ++ sent_at turn cs) ++ sent_at turn us) rear h5 rq heed has (omega arith) (taken_after most h4 pass q.2) k5 in
    let At : List Sent → Type 0 = λ x. Holds p (turn + 1) x (run_world rear h5) in
    let To : Core → Type 0 = λ x. Holds p (turn + 1) (sent ++ sent_at turn (queued_in o)) x in (
      (tt, (λ on. tt, (λ on. tt, timely_join before (pass ∷ rear) h3 q.0 (λ on. tt, r.0)))),
      subst To (sym (run_append before (pass ∷ rear) h3)) (subst At (append_assoc sent (sent_at turn cs) (sent_at turn us) ∙ ap (λ x. sent ++ x) (sym split)) r.1),
    )

-- As each of some turns begins, a board has taken enough: all that was queued before a turn that is at most n turns ago, or more commands than so many.
abbrev pub TakesEnough : (n size : ℕ) (all : List Orders) (own : ℕ → ℕ) (turn : ℕ) (os : List Orders) (steps : List Step) (h : Core) → AreTurnsOf own turn os steps → Type 0
TakesEnough n size all own turn [] steps h t = Unit {0}
TakesEnough n size all own turn (o ∷ os) steps h t =
    ((low : ℕ) × (low ≤ length all) × (length (flat_map queued_in (take low all)) ≤ length h.taken) × ((turn ≤ low + n) ⊎ (size < length (flat_map queued_in (take low all)))))
    × TakesEnough n size all own (turn + 1) os t.1 (run_world t.0 h) t.4

has_enough : (p : Plan) (n turn low most : ℕ) (all : List Orders) → sent_in 0 all ≡ p.front ++ p.tail → low ≤ length all → length (flat_map queued_in (take low all)) ≤ most
    → (turn ≤ low + n) ⊎ (length p.front < length (flat_map queued_in (take low all))) → HasEnough p n turn most
has_enough p n turn low most all is short taken enough =
    let xs = take low all in
    let ys = drop low all in
    let long : length xs ≡ low = length-take-le low all short in
    let many : length (flat_map queued_in xs) ≡ length (sent_in 0 xs) = ap length (sym (sent_orders 0 xs)) ∙ orders_long (sent_in 0 xs) in
    let Since : ℕ → Type 0 = λ k. AreSince k (sent_in (0 + length xs) ys) in
    record {
      first = sent_in 0 xs;
      others = sent_in (0 + length xs) ys;
      all = sym (sent_in_append 0 xs ys) ∙ ap (sent_in 0) (take-append-drop low all) ∙ is;
      low = low;
      since = subst Since (omega (arith, long)) (since_in (0 + length xs) ys);
      taken = omega (arith, taken, many);
      enough = elim enough [ inl q ↦ inl q | inr q ↦ inr (omega (arith, q, many)) ];
    }

turns_timely : (p : Plan) (n : ℕ) (all : List Orders) → sent_in 0 all ≡ p.front ++ p.tail → IsHeeded p n → (turn : ℕ) (sent rest : List Sent) (os : List Orders) (steps : List Step) (h : Core) (t : AreTurnsOf p.own turn os steps) → Holds p turn sent h
    → (sent ++ sent_in turn os) ++ rest ≡ p.front ++ p.tail → TakesEnough n (length p.front) all p.own turn os steps h t → AllTimely h steps
turns_timely p n all is heed turn sent rest [] steps h t k whole soon = let At : List Step → Type 0 = λ x. AllTimely h x in subst At (sym t) tt
turns_timely p n all is heed turn sent rest (o ∷ os) steps h t k whole soon =
    let (first, later, are, one, more) = t in
    let mid = sent ++ sent_at turn (queued_in o) in
    let cut : mid ++ sent_in (turn + 1) os ≡ sent ++ sent_in turn (o ∷ os) = append_assoc sent (sent_at turn (queued_in o)) (sent_in (turn + 1) os) in
    let on : (mid ++ sent_in (turn + 1) os) ++ rest ≡ p.front ++ p.tail = ap (λ x. x ++ rest) cut ∙ whole in
    let enough = soon.0 in
    let has = has_enough p n turn enough.0 (length h.taken) all is enough.1 enough.2 enough.3 in
    let a = turn_steps_timely p n turn (length h.taken) sent (sent_in (turn + 1) os ++ rest) o one.before one.after h one.before_quiet one.after_quiet heed has (omega arith) k (sym (append_assoc mid (sent_in (turn + 1) os) rest) ∙ on) in
    let At : List Step → Type 0 = λ x. TurnTimely p turn sent o h x in
    let here = subst At (sym one.are) a in
    let b = turns_timely p n all is heed (turn + 1) mid rest os later (run_world first h) more here.1 on soon.1 in
    let To : List Step → Type 0 = λ x. AllTimely h x in
    subst To (sym are) (timely_join first later h here.0 b)

pub timed_timely : (b : BoardDef) (pins : List (List Level)) (own : ℕ → ℕ) (n : ℕ) (os : List Orders) (steps : List Step) (t : AreTurnsOf own 0 os steps) → AreTicks own → own 0 ≡ b.start → (x : IsTimed own b.slots n (sent_in 0 os))
    → TakesEnough n (length x.front) os own 0 os steps (new_world b pins) t → AllTimely (new_world b pins) steps
timed_timely b pins own n os steps t ticks first x soon =
    let p : Plan = record { own = own; slots = b.slots; front = x.front; tail = x.tail; up = ticks_up own ticks; good = x.good; lost = x.lost } in
    turns_timely p n os (sym x.is) (record { last = x.last; past = x.past }) 0 [] [] os steps (new_world b pins) t (starts p b pins first refl) (append-nil (sent_in 0 os) ∙ sym x.is) soon

-- a board that takes soon takes enough
pub soon_enough : (n size : ℕ) (all : List Orders) (own : ℕ → ℕ) (turn : ℕ) (os : List Orders) (steps : List Step) (h : Core) (t : AreTurnsOf own turn os steps) → turn + length os ≤ length all → TakesSoon n all own turn os steps h t
    → TakesEnough n size all own turn os steps h t
soon_enough n size all own turn [] steps h t within soon = tt
soon_enough n size all own turn (o ∷ os) steps h t within soon =
    let most = ap length soon.0.1 in
    let both = length-append (flat_map queued_in (take (turn - n) all)) soon.0.0 in (
      (turn - n, omega (arith, within), omega (arith, most, both), inl (omega arith)),
      soon_enough n size all own (turn + 1) os t.1 (run_world t.0 h) t.4 (omega (arith, within)) soon.1,
    )
