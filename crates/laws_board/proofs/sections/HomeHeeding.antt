-- In a run in which axes home, a board takes all its units in time for the 32-bit clock, as long as it runs, where few turns of each busy
-- stretch are spoiled.
use Rattle.std.proofs.Common.{◌≡◌, ℕ, suc, true, ◌+◌, ◌^◌, ◌<◌, ◌≤◌, ◌⊎◌, List, [], ◌∷◌, ◌++◌, length, map, take, drop, Option, refl, ap, sym, ◌∙◌, subst, arith, inl, inr, append_assoc, append-nil, length-append, rules}
use Rattle.laws_board.proofs.Names.{leb_tells, flat_map-append, append_cancel_left, take-append-drop, flat_map, Level, BoardDef, BoardState, Running, clock_of, Clocks, is_shut, Meant, Core, Step, Do, Turn, world_after, run_world, new_world, Entry, AreTurns, queued_in, first_state, LinkState, Orders}
use Rattle.std.proofs.lemmas.List.{length-take-le}
use Rattle.link_work.specs.Ends.{spoiled}
use Rattle.laws_board.specs.sections.Courses.{AllHeed, AreSettled, courses}
use Rattle.laws_board.specs.sections.Events.{AreOwn, AreTurnsOf, IsTurnOf}
use Rattle.laws_board.specs.sections.Homes.{AreSettledOn, IsHomeRun, IsSplitIn, RunSection, lost_at}
use Rattle.laws_board.specs.sections.Known.{Sent, orders_sent, sent_at, sent_in}
use Rattle.laws_board.specs.sections.Links.{ends_of, steps_of}
use Rattle.laws_board.specs.sections.Runs.{AreSpilled}
use Rattle.laws_board.specs.sections.Timely.{AllTimely, AreTimely, ControlsKeep, IsTimelyAt}
use Rattle.laws_board.proofs.sections.Clocks.{ticks_up}
use Rattle.laws_board.proofs.sections.Coursed.{begins, settled_finds, settled_first, settles, turn_keeps}
use Rattle.laws_board.proofs.sections.HeededLinks.{enough_from, enough_owned, reach_more}
use Rattle.laws_board.proofs.sections.Heeding.{TakesEnough}
use Rattle.laws_board.proofs.sections.HomeBoards.{settled_head, settled_owned}
use Rattle.laws_board.proofs.sections.HomeCut.{split_soon}
use Rattle.laws_board.proofs.sections.HomeLimits.{home_few}
use Rattle.laws_board.proofs.sections.HomeTimes.{home_lasting}
use Rattle.laws_board.proofs.sections.Latest.{AreFew}
use Rattle.laws_board.proofs.sections.Linking.{own_first, turns_are, turns_owned}
use Rattle.laws_board.proofs.sections.Lists.{orders_append, orders_at, orders_long}
use Rattle.laws_board.proofs.sections.Soon.{part_front}
use Rattle.laws_board.proofs.sections.Spoiled as spoiled
use Rattle.laws_board.proofs.sections.Stepping.{Going, Keeps, Script, heed_behind, heed_front, shut_step}
use Rattle.laws_board.proofs.sections.Timing.{AreLasting, timely_join, turn_steps_soon}
use Rattle.laws_board.proofs.sections.Wholes.{sent_orders}

-- a board that is shut down takes none
not_running : (s : BoardState) → is_shut s ≡ true → s ≡ Running → ⊥
not_running s e on = let f = sym (ap is_shut on) ∙ e in cc

shut_timely : (steps : List Step) (h : Core) → is_shut h.board.controller.state ≡ true → AllTimely h steps
shut_timely [] h e = tt
shut_timely (s ∷ steps) h e = (at s, shut_timely steps (world_after h s) (ap is_shut (shut_step h s e) ∙ e))
  where
    at : (s : Step) → IsTimelyAt h s
    at (Do x) = λ on. absurd (not_running h.board.controller.state e on)
    at (Turn turn) = tt

-- as a turn begins a board has taken enough
abbrev Enough : ℕ → ℕ → List Orders → ℕ → Core → Type 0
Enough n size all turn h = (low : ℕ) × (low ≤ length all) × (length (flat_map queued_in (take low all)) ≤ length h.taken) × ((turn ≤ low + n) ⊎ (size < length (flat_map queued_in (take low all))))

-- a turn of a board that runs
going_turn : (p : Script) (n turn low : ℕ) (all sofar os : List Orders) (sent : List Sent) (o : Orders) (steps : List Step) (h : Core) → IsTurnOf p.own turn o steps → sent_in 0 all ≡ p.all → AreLasting p.own n all
    → sent ++ sent_in turn (o ∷ os) ≡ p.all → orders_sent sent ≡ flat_map queued_in sofar → Keeps p turn turn sent h → Going p turn turn sent h → low ≤ length all → length (flat_map queued_in (take low all)) ≤ length h.taken
    → turn ≤ low + n → AllTimely h steps
going_turn p n turn low all sofar os sent o steps h t is lasting whole queue k r short taken soon =
    let xs = take low all in
    let ys = drop low all in
    let first = flat_map queued_in xs in
    let left = orders_sent r.left in
    let new = queued_in o in
    let later = flat_map queued_in os in
    let both : xs ++ ys ≡ all = take-append-drop low all in
    let queued : h.taken ++ left ≡ orders_sent sent = ap (λ x. x ++ left) (sym r.taken) ∙ sym (orders_append r.done r.left) ∙ ap orders_sent (sym r.sent_is) in
    let all_is : orders_sent sent ++ (new ++ later) ≡ first ++ flat_map queued_in ys =
    ap (λ x. orders_sent sent ++ x) (sym (sent_orders turn (o ∷ os))) ∙ sym (orders_append sent (sent_in turn (o ∷ os))) ∙ ap orders_sent (whole ∙ sym is) ∙ sent_orders 0 all ∙ ap (flat_map queued_in) (sym both) ∙ flat_map-append queued_in xs ys in
    let (more, took) = spoiled.begins first (flat_map queued_in ys) h.taken (left ++ (new ++ later)) (sym (append_assoc h.taken left (new ++ later)) ∙ ap (λ x. x ++ (new ++ later)) queued ∙ all_is) taken in
    let others = more ++ (left ++ new) in
    let cut : orders_sent sent ++ new ≡ first ++ others =
    ap (λ x. x ++ new) (sym queued ∙ ap (λ x. x ++ left) (sym took)) ∙ append_assoc (first ++ more) left new ∙ append_assoc first more (left ++ new) in
    let rest : others ++ later ≡ flat_map queued_in ys =
    append_cancel_left first (others ++ later) (flat_map queued_in ys) (sym (append_assoc first others later) ∙ ap (λ x. x ++ later) (sym cut) ∙ append_assoc (orders_sent sent) new later ∙ all_is) in
    let long : length xs ≡ low = length-take-le low all short in
    let lasts = lasting xs ys [] turn (sym both ∙ ap (λ x. xs ++ x) (sym (append-nil ys))) (omega (arith, long, soon)) in
    let Timely : List Meant → Type 0 = λ x. AreTimely (p.own (turn + 1)) x in
    let timely = part_front (p.own (turn + 1)) others later (subst Timely (sym rest) lasts) in
    let At : List Step → Type 0 = λ x. AllTimely h x in
    subst At (sym t.are) (turn_steps_soon p.own turn sofar o t.before t.after h first others more (p.up turn) t.before_quiet t.after_quiet
    (record { ordered = k.ordered; queued = sym k.queued ∙ queue; tick = k.tick }) took (ap (λ x. x ++ new) (sym queue) ∙ cut) timely).0

one_turn : (p : Script) (n turn : ℕ) (all sofar os : List Orders) (sent : List Sent) (o : Orders) (steps : List Step) (h : Core) → IsTurnOf p.own turn o steps → sent_in 0 all ≡ p.all → AreLasting p.own n all
    → sent ++ sent_in turn (o ∷ os) ≡ p.all → orders_sent sent ≡ flat_map queued_in sofar → Keeps p turn turn sent h → Enough n (length p.front) all turn h → AllTimely h steps
one_turn p n turn all sofar os sent o steps h t is lasting whole queue k (low, short, taken, enough) = elim k.state [
  | inl r ↦ elim enough [
    | inl soon ↦ going_turn p n turn low all sofar os sent o steps h t is lasting whole queue k r short taken soon
    | inr many ↦ absurd (omega (arith, many, taken, ap length r.taken, orders_long r.done, ap length r.front_is, length-append r.done r.more))
  ]
  | inr e ↦
      let (reason, tick, first, state, may) = e.shut in
      shut_timely steps h (ap is_shut state)
]

-- turn by turn
turns_timely : (p : Script) (n : ℕ) (all : List Orders) → sent_in 0 all ≡ p.all → AreLasting p.own n all → (turn : ℕ) (sofar os : List Orders) (sent : List Sent) (steps : List Step) (h : Core) (t : AreTurnsOf p.own turn os steps)
    → sent ++ sent_in turn os ≡ p.all → orders_sent sent ≡ flat_map queued_in sofar → Keeps p turn turn sent h → AreSettled p.stops p.front p.own turn sent os steps h t → AllHeed p.front p.tail h steps
    → TakesEnough n (length p.front) all p.own turn os steps h t → AllTimely h steps
turns_timely p n all is lasting turn sofar [] sent steps h t whole queue k settled heed enough = let At : List Step → Type 0 = λ x. AllTimely h x in subst At (sym t) tt
turns_timely p n all is lasting turn sofar (o ∷ os) sent steps h t whole queue k settled heed enough =
    let (first, later, are, one, more) = t in
    let new = sent_at turn (queued_in o) in
    let mid = sent ++ new in
    let Heed : List Step → Type 0 = λ x. AllHeed p.front p.tail h x in
    let heed_all = subst Heed are heed in
    let on : mid ++ sent_in (turn + 1) os ≡ p.all = append_assoc sent new (sent_in (turn + 1) os) ∙ whole in
    let timely = one_turn p n turn all sofar os sent o first h one is lasting whole queue k enough.0 in
    let a = turn_keeps p turn sent (sent_in (turn + 1) os) o first h one k on timely (heed_front p.front p.tail first later h heed_all) (settled_finds p turn sent h first settled.1) in
    let next = settles p turn mid (run_world first h) a.1 (settled_first p (turn + 1) mid os later (run_world first h) more settled.2) in
    let queue_on : orders_sent mid ≡ flat_map queued_in (sofar ++ o ∷ []) =
    orders_append sent new ∙ ap (λ x. orders_sent sent ++ x) (orders_at turn (queued_in o)) ∙ ap (λ x. x ++ queued_in o) queue ∙ ap (λ x. flat_map queued_in sofar ++ x) (sym (append-nil (queued_in o))) ∙ sym (flat_map-append queued_in sofar (o ∷ [])) in
    let rest = turns_timely p n all is lasting (turn + 1) (sofar ++ o ∷ []) os mid later (run_world first h) more on queue_on next settled.2 (heed_behind p.front p.tail first later h heed_all) enough.1 in
    let At : List Step → Type 0 = λ x. AllTimely h x in
    subst At (sym are) (timely_join first later h timely rest)

-- the turns up to that of the first unit that comes too late have few units, and more commands than stand before it
record IsWalked (os : List Orders) (front : List Sent) : Type 0 where
  count : ℕ
  short : count ≤ length os
  few : AreFew (take count os)
  full : count < length os → length front < length (flat_map queued_in (take count os))

walked : (os : List Orders) (front tail : List Sent) → ((k : ℕ) → k ≤ length os → k ≤ lost_at (length os) tail + 1 → AreFew (take k os)) → sent_in 0 os ≡ front ++ tail → IsWalked os front
walked os front tail p3 p4 = search (rules, leb_tells, reach_more)

-- a whole run
pub home_timely : (b : BoardDef) (pins : List (List Level)) (board : ℕ) (entries : List Entry) (own : ℕ → ℕ) (clocks : Clocks) (ready n m turns : ℕ) (stops : ℕ → Option ℕ) (ss : List RunSection) (os : List Orders) (l : LinkState)
    (t : AreTurns (clock_of b) 0 os (first_state b pins board entries) l) → AreOwn b (length os) own → IsHomeRun own clocks b.freq b.slots ready stops ss os → (split : IsSplitIn own stops b.slots ss os)
    → AreSettledOn stops split.front (clock_of b) 0 [] os (first_state b pins board entries) l t → AllHeed split.front split.tail (new_world b pins) (steps_of (clock_of b) 0 os (first_state b pins board entries) l t)
    → AreSpilled turns m (map (λ s. s.section) ss) → length os ≤ turns → ((done : List Orders) (o : Orders) (rest : List Orders) → os ≡ done ++ (o ∷ rest) → ControlsKeep done)
    → ((k : ℕ) → spoiled (take k (ends_of (clock_of b) 0 os (first_state b pins board entries) l t)) ≤ n) → ((k : ℕ) → own (k + (n + m + 2)) < own k + 2 ^ 31)
    → AllTimely (new_world b pins) (steps_of (clock_of b) 0 os (first_state b pins board entries) l t)
home_timely b pins board entries own clocks ready n m turns stops ss os l t o r split settled heed spilled within controls few far =
    let clock = clock_of b in
    let first : LinkState = first_state b pins board entries in
    let last = length os in
    let steps = steps_of clock 0 os first l t in
    let low : 0 + last ≤ last = omega arith in
    let were = (turns_are clock 0 os first l t).1 in
    let taken = turns_owned b own last 0 os steps o low were in
    let p : Script = record {
      own = own;
      stops = stops;
      slots = b.slots;
      all = sent_in 0 os;
      front = split.front;
      tail = split.tail;
      are = split.are;
      up = ticks_up own o.ticks;
      ahead = r.ahead;
      good = split.good;
      lost = split.lost;
    } in
    let Run : List Orders → Type 0 = λ x. IsHomeRun own clocks b.freq b.slots ready stops ss x in
    let units = λ (k : ℕ) (h : k ≤ last) (near : k ≤ lost_at last split.tail + 1).
    home_few own clocks b.freq b.slots ready (lost_at last split.tail) stops ss (take k os) (drop k os) (subst Run (sym (take-append-drop k os)) r)
    (split_soon clocks b.freq b.slots r.tracked.until last ready stops ss (courses split.front) split.tail r.row r.sections split.begun) (omega (arith, length-take-le k os h, near)) in
    let w = walked os split.front split.tail units (sym split.are) in
    let size = length split.front in
    turns_timely p n os refl (home_lasting own clocks b.freq b.slots ready n m turns stops ss os o.ticks r spilled within far) 0 [] os [] steps (new_world b pins) taken refl refl (begins p b pins (own_first b last own o) refl)
    (settled_owned b stops split.front own last 0 [] os steps (new_world b pins) o low were (settled_head stops split.front clock 0 [] os first l t settled)) heed
    (enough_owned b n size os own last 0 os steps (new_world b pins) o low were (enough_from b pins board entries clock n size w.count 0 os [] os first l t [] (new_world b pins) refl refl refl controls w.short w.few w.full refl refl few))
