-- A unit of a section of moves that comes too late finds its stepper free, where the board is still in that section's turns.
use Rattle.std.proofs.Common.{◌≡◌, ℕ, ◌+◌, ◌-◌, ◌≤◌, List, [], ◌∷◌, ◌++◌, length, take, drop, refl, ap, sym, ◌∙◌, subst, arith, inl, inr, append_assoc, append-nil, length-append, rules}
use Rattle.laws_board.proofs.Names.{append_cancel_left, take-append-drop, BoardClock, BoardState, Running, Shut, clock_of, Cmd, Entry, Controller, is_shut, Meant, commands_of, Rig, passes, takes_all, Event, IsOrdered, Core, Step, Do, Turn, world_after, after_event, run_world, new_world, takes_in, BoardSection, AreTurns, first_state, LinkState, Orders, turns_are_steps}
use Rattle.std.proofs.lemmas.List.{length-drop, length-take-le}
use Rattle.msg_code.specs.declared.cmd.Cmd.TheVariants as cmd
use Rattle.board_sim.proofs.RigShut.{passes_left}
use Rattle.board_world.specs.declared.event.Event.TheVariants.{Arrive, Control, Garble, Lose, LoseReply, Pass, Put, Repeat, Reply, Resend, Send}
use Rattle.board_world.proofs.Runs.{all_orders, ordered, start_ordered}
use Rattle.laws_board.specs.sections.Boards.{OnBoard}
use Rattle.laws_board.specs.sections.Courses.{AllHeed, Course, FindsFree, HeedsAt, courses, no_course}
use Rattle.laws_board.specs.sections.Homes.{IsBegunFor}
use Rattle.laws_board.specs.sections.Known.{Sent, orders_sent, sent_in}
use Rattle.laws_board.specs.sections.Links.{steps_of, steps_of_turn}
use Rattle.laws_board.proofs.sections.Linking.{turns_are}
use Rattle.laws_board.proofs.sections.Lists.{cuts, orders_append, sent_front}
use Rattle.laws_board.proofs.sections.Spans.{sent_in_append}
use Rattle.laws_board.proofs.sections.Wholes.{sent_orders}
use Rattle.laws_homing.proofs.home_runs.Settled.{AllFrom, from_in}
use Rattle.laws_run.specs.home_wholes.Still.{BringStill, IsStillIn}
use Rattle.laws_run.proofs.home_wholes.Phases.{AllBefore, AllStill, AreFree, StandsFree, before_front, no_since, none_since, ran_before, take_still, cons_same}
use Rattle.laws_run.proofs.home_wholes.Section.{among_before, among_from, before_in, orders_still}
use Rattle.laws_run.proofs.home_wholes.Stages.{done_same}
use Rattle.laws_run.proofs.home_wholes.Still.{time_passes}
use Rattle.board_world.proofs.Causes.{runs_on}

-- A running board that took some of the first of these commands: no trigger of it can trigger, and steppers whose part
-- was begun in a turn or later aren't halted.
abbrev pub IsFreeAt : ℕ → List Sent → Core → Type 0
IsFreeAt low front h = h.board.controller.state ≡ Running → (done to_come : List Sent) → done ++ to_come ≡ front → orders_sent done ≡ h.taken → StandsFree low done to_come h.board

-- commands that it takes
takes_free : (low : ℕ) (front : List Sent) (h g : Core) (ms : List Meant) → g.taken ≡ h.taken ++ ms → g.board ≡ (takes_all h.board (commands_of ms)).rig → IsFreeAt low front h → IsFreeAt low front g
takes_free low front h g ms taken board free on done to_come cut took =
    let (first, left, are, same) = sent_front h.taken ms done (sym taken ∙ sym took) in
    let last : orders_sent left ≡ ms = append_cancel_left h.taken (orders_sent left) ms (ap (λ x. x ++ orders_sent left) (sym same) ∙ sym (orders_append first left) ∙ ap orders_sent (sym are) ∙ took ∙ taken) in
    let running : (takes_all h.board (commands_of ms)).rig.controller.state ≡ Running = ap (λ (r : Rig). r.controller.state) (sym board) ∙ on in
    let whole : first ++ (left ++ to_come) ≡ front = sym (append_assoc first left to_come) ∙ ap (λ x. x ++ to_come) (sym are) ∙ cut in
    let was = free (ran_before h.board ms running) first (left ++ to_come) whole same in
    let Ends : List Meant → Type 0 = λ x. (takes_all h.board (commands_of x)).rig.controller.state ≡ Running → StandsFree low (first ++ left) to_come (takes_all h.board (commands_of x)).rig in
    let now : Ends ms = subst Ends last (take_still low left first to_come h.board was) in
    subst (λ (r : Rig). StandsFree low done to_come r) (sym board) (subst (λ (x : List Sent). StandsFree low x to_come (takes_all h.board (commands_of ms)).rig) (sym are) (now running))

ran_through : (r : Rig) (t : ℕ) → (passes r t).rig.controller.state ≡ Running → r.controller.state ≡ Running
ran_through r t on = search (rules, runs_on, passes_left, is_shut)

pass_free : (low : ℕ) (front : List Sent) (h : Core) (t : ℕ) → IsFreeAt low front h → IsFreeAt low front (after_event h (Pass t))
pass_free low front h t free on done to_come cut took =
    let (may, off, still) = free (ran_through h.board t on) done to_come cut (took ∙ append-nil h.taken) in
    let y = time_passes h.board t off in
    (may, y.off, λ oid since. y.free oid (still oid since))

event_free : (low : ℕ) (front : List Sent) (h : Core) (e : Event) → IsFreeAt low front h → IsFreeAt low front (after_event h e)
event_free low front h (Pass t) free = pass_free low front h t free
event_free low front h Arrive free = takes_free low front h (after_event h Arrive) (takes_in h Arrive) refl refl free
event_free low front h Repeat free = takes_free low front h (after_event h Repeat) (takes_in h Repeat) refl refl free
event_free low front h c free = takes_free low front h (after_event h c) [] refl refl free

step_free : (low : ℕ) (front : List Sent) (h : Core) (s : Step) → IsFreeAt low front h → IsFreeAt low front (world_after h s)
step_free low front h (Do e) free = event_free low front h e free
step_free low front h (Turn turn) free = free

-- so the first command behind them, a triple of such a part, finds its stepper free
finds_free : (low : ℕ) (cs : ℕ → Course) (b : Controller) (c : Cmd) → IsBegunFor low cs c → AreFree low cs b → FindsFree b c
finds_free low cs b (cmd.QueueStep oid interval count add) since free = free oid since
finds_free low cs b c since free = absurd since

step_heeds : (low : ℕ) (front tail : List Sent) (t : Sent) (h : Core) (s : Step) → IsBegunFor low (courses front) t.order.command → IsFreeAt low front h → HeedsAt front (t ∷ tail) h s
step_heeds low front tail t h (Turn turn) begun free = tt
step_heeds low front tail t h (Do e) begun free = λ first rest is took on.
    let (done, to_come, are, same) = sent_front h.taken first front took in
    let last : orders_sent to_come ≡ first = append_cancel_left h.taken (orders_sent to_come) first (ap (λ x. x ++ orders_sent to_come) (sym same) ∙ sym (orders_append done to_come) ∙ ap orders_sent (sym are) ∙ sym took) in
    let was = free (ran_before h.board first on) done to_come (sym are) same in
    let Ends : List Meant → Type 0 = λ x. (takes_all h.board (commands_of x)).rig.controller.state ≡ Running → StandsFree low (done ++ to_come) [] (takes_all h.board (commands_of x)).rig in
    let now : Ends first = subst Ends last (take_still low to_come done [] h.board (subst (λ (x : List Sent). StandsFree low done x h.board) (sym (append-nil to_come)) was)) in
    let all = subst (λ (x : List Sent). StandsFree low x [] (takes_all h.board (commands_of first)).rig) (sym are) (now on) in
    finds_free low (courses front) (takes_all h.board (commands_of first)).rig.controller t.order.command begun all.2

steps_heed : (low : ℕ) (front tail : List Sent) (t : Sent) (steps : List Step) (h : Core) → IsBegunFor low (courses front) t.order.command → IsFreeAt low front h → AllHeed front (t ∷ tail) h steps
steps_heed low front tail t [] h begun free = tt
steps_heed low front tail t (s ∷ steps) h begun free = (step_heeds low front tail t h s begun free, steps_heed low front tail t steps (world_after h s) begun (step_free low front h s free))

-- Before that, the board has not taken so much.
step_took : (h : Core) (s : Step) → length h.taken ≤ length (world_after h s).taken
step_took h (Do e) = let n = length-append h.taken (takes_in h e) in omega (arith, n)
step_took h (Turn turn) = omega arith

steps_took : (steps : List Step) (h : Core) → length h.taken ≤ length (run_world steps h).taken
steps_took [] h = omega arith
steps_took (s ∷ steps) h = let one = step_took h s in let rest = steps_took steps (world_after h s) in omega (arith, one, rest)

early_one : (front tail : List Sent) (t : Sent) (h : Core) (s : Step) → length (world_after h s).taken ≤ length (orders_sent front) → HeedsAt front (t ∷ tail) h s
early_one front tail t h s p5 = search (rules, length-append, takes_in)

early_heed : (front tail : List Sent) (t : Sent) (steps : List Step) (h : Core) → length (run_world steps h).taken ≤ length (orders_sent front) → AllHeed front (t ∷ tail) h steps
early_heed front tail t [] h few = tt
early_heed front tail t (s ∷ steps) h few =
    let rest = steps_took steps (world_after h s) in
    (early_one front tail t h s (omega (arith, few, rest)), early_heed front tail t steps (world_after h s) few)

heed_both : (front tail : List Sent) (xs ys : List Step) (h : Core) → AllHeed front tail h xs → AllHeed front tail (run_world xs h) ys → AllHeed front tail h (xs ++ ys)
heed_both front tail [] ys h a b = b
heed_both front tail (x ∷ xs) ys h a b = (a.0, heed_both front tail xs ys (world_after h x) a.1 b)

-- the turns of a link before one
record First (clock : BoardClock) (turn : ℕ) (xs ys : List Orders) (l m : LinkState) (t : AreTurns clock turn (xs ++ ys) l m) : Type 0 where
  mid : LinkState
  turns : AreTurns clock turn xs l mid
  rest : List Step
  are : steps_of clock turn (xs ++ ys) l m t ≡ steps_of clock turn xs l mid turns ++ rest

first_turns : (clock : BoardClock) (turn : ℕ) (xs ys : List Orders) (l m : LinkState) (t : AreTurns clock turn (xs ++ ys) l m) → First clock turn xs ys l m t
first_turns clock turn [] ys l m t = record { mid = l; turns = refl; rest = steps_of clock turn ys l m t; are = refl }
first_turns clock turn (x ∷ xs) ys l m t =
    let y = first_turns clock (turn + 1) xs ys t.0 m t.2 in
    let here = steps_of_turn clock turn x t.1.resent l in
    record { mid = y.mid; turns = (t.0, t.1, y.turns); rest = y.rest; are = ap (λ z. here ++ z) y.are ∙ sym (append_assoc here (steps_of clock (turn + 1) xs t.0 y.mid y.turns) y.rest) }

still_first : (xs ys : List Sent) → AllStill (xs ++ ys) → AllStill xs
still_first [] ys a = tt
still_first (x ∷ xs) ys a = (a.0, still_first xs ys a.1)

-- A board that is still in a section's turns, and the first command that was queued of those of a turn at most five
-- turns behind its end.
module _ (place : ℕ) (entries : List Entry) (x : OnBoard) (s : BoardSection) (still : IsStillIn place entries s x) (front tail : List Sent) (t : Sent) (are : front ++ t ∷ tail ≡ sent_in 0 x.orders) (at : t.turn ≡ s.end + 5) (order : s.start ≤ s.end)
    (begun : IsBegunFor (s.start - 250) (courses front) t.order.command) where
  abbrev Low : ℕ
  Low = s.start - 250

  abbrev Before : List Orders
  Before = take Low x.orders

  abbrev Mine : List Orders
  Mine = take (s.end + 6 - Low) (drop Low x.orders)

  abbrev Others : List Orders
  Others = drop (s.end + 6 - Low) (drop Low x.orders)

  long : s.end + 6 ≤ length x.orders
  long =
      let all = before_in 0 (length x.orders) x.orders (omega arith) in
      let here = among_before (length x.orders) front t tail (subst (λ (y : List Sent). AllBefore (length x.orders) y) (sym are) all) in
      omega (arith, here, at)

  low_is : length Before ≡ Low
  low_is = length-take-le Low x.orders (omega (arith, long, order))

  mine_is : length Mine ≡ s.end + 6 - Low
  mine_is = let all = length-drop Low x.orders in let l = long in length-take-le (s.end + 6 - Low) (drop Low x.orders) (omega (arith, all, l, order))

  cut : x.orders ≡ Before ++ (Mine ++ Others)
  cut = sym (take-append-drop Low x.orders) ∙ ap (λ y. Before ++ y) (sym (take-append-drop (s.end + 6 - Low) (drop Low x.orders)))

  -- what is queued before these turns, and in them
  all_is : sent_in 0 x.orders ≡ sent_in 0 Before ++ (sent_in Low Mine ++ sent_in (s.end + 6) Others)
  all_is = search (rules, low_is, mine_is, cut, sent_in_append)

  old : AllBefore Low (sent_in 0 Before)
  old = before_in 0 Low Before (let l = low_is in omega (arith, l))

  brings : BringStill Mine
  brings = still.goes_on (s.end + 6) (omega (arith, order)) (omega arith)

  -- the front holds all that is queued before these turns, and behind that commands that bind no stepper
  record Parts : Type 0 where
    new : List Sent
    front_is : front ≡ sent_in 0 Before ++ new
    fine : AllStill new

  parts : Parts
  parts =
      let pre = sent_in 0 Before in
      let mine = sent_in Low Mine in
      let others = sent_in (s.end + 6) Others in
      elim (cuts front (t ∷ tail) (pre ++ mine) others (are ∙ all_is ∙ sym (append_assoc pre mine others))) [
        | inl p ↦
            let (m, whole, behind) = p in
            elim (cuts pre mine front m (whole ∙ refl)) [
              | inl q ↦
                  let (new, is, rest) = q in
                  record { new = new; front_is = is; fine = still_first new m (subst AllStill rest (orders_still Low Mine brings)) }
              | inr q ↦
                  let (y, more, is, rest) = q in
                  let same : t ≡ y = cons_same t y tail (more ++ (mine ++ others)) (append_cancel_left front (t ∷ tail) (y ∷ more ++ (mine ++ others))
                  (are ∙ all_is ∙ ap (λ z. z ++ (mine ++ others)) is ∙ append_assoc front (y ∷ more) (mine ++ others))) in
                  let early = among_before Low front y more (subst (λ (z : List Sent). AllBefore Low z) is old) in
                  let turn = ap (λ (z : Sent). z.turn) same in
                  absurd (omega (arith, early, turn, at, order))
            ]
        | inr p ↦
            let (y, more, is, rest) = p in
            let late = among_from (s.end + 6) (y ∷ more) t tail (subst (λ (z : List Sent). AllFrom (s.end + 6) z) rest (from_in (s.end + 6) (s.end + 6) Others (omega arith))) in
            absurd (omega (arith, late, at))
      ]

  abbrev Clock : BoardClock
  Clock = clock_of x.board

  abbrev L : LinkState
  L = first_state x.board x.pins place entries

  abbrev H : Core
  H = new_world x.board x.pins

  -- as the first of these turns begins
  begins_free : (mid : LinkState) → AreTurns Clock 0 Before L mid → IsFreeAt Low front mid.core × (length mid.core.taken ≤ length (orders_sent front))
  begins_free mid turns =
      let p = parts in
      let pre = sent_in 0 Before in
      let steps = turns_are_steps Clock 0 Before L mid turns in
      let o : IsOrdered mid.core = subst IsOrdered (sym steps.1) (ordered steps.0 H (start_ordered x.board x.pins)) in
      let queue : mid.core.queued ≡ orders_sent pre = ap (λ (h : Core). h.queued) steps.1 ∙ all_orders steps.0 H ∙ steps.2 ∙ sym (sent_orders 0 Before) in
      let left = drop (length mid.core.link.taken) mid.core.queued in
      let rest : mid.core.taken ++ left ≡ mid.core.queued = ap (λ (y : List Meant). y ++ left) o.first ∙ take-append-drop (length mid.core.link.taken) mid.core.queued in
      let got = sent_front mid.core.taken left pre (rest ∙ queue) in
      let (first, waits, pre_is, same) = got in
      let last : orders_sent waits ≡ left = append_cancel_left mid.core.taken (orders_sent waits) left (ap (λ y. y ++ orders_sent waits) (sym same) ∙ sym (orders_append first waits) ∙ ap orders_sent (sym pre_is) ∙ sym (rest ∙ queue)) in
      let sizes = ap length rest in
      let size = length-append mid.core.taken left in
      let pre_long = ap length queue in
      let front_long = ap length (ap orders_sent p.front_is ∙ orders_append pre p.new) in
      let both = length-append (orders_sent pre) (orders_sent p.new) in (
        λ on done to_come whole took.
            let calm = still.begins mid turns on (orders_sent waits) (ap (λ y. mid.core.taken ++ y) last ∙ rest) in
            let mine : done ≡ first = done_same done to_come first (waits ++ p.new) (first ++ (waits ++ p.new)) (whole ∙ p.front_is ∙ ap (λ y. y ++ p.new) pre_is ∙ append_assoc first waits p.new) refl (took ∙ sym same) in
            let come : to_come ≡ waits ++ p.new = append_cancel_left done to_come (waits ++ p.new) (whole ∙ p.front_is ∙ ap (λ y. y ++ p.new) pre_is ∙ append_assoc first waits p.new ∙ ap (λ y. y ++ (waits ++ p.new)) (sym mine)) in
            let held : AllBefore Low (done ++ waits) = subst (λ (y : List Sent). AllBefore Low y) (pre_is ∙ ap (λ y. y ++ waits) (sym mine)) old in
            let fresh = before_front Low done waits held in
            (inr (waits, p.new, come, calm.1, held, p.fine), calm.0, λ oid since. absurd (none_since oid Low no_course done fresh (no_since Low) since)),
        omega (arith, sizes, size, pre_long, front_long, both),
      )

  heeds_cut : (os : List Orders) → os ≡ Before ++ (Mine ++ Others) → (end : LinkState) (turns : AreTurns Clock 0 os L end) → AllHeed front (t ∷ tail) H (steps_of Clock 0 os L end turns)
  heeds_cut os e end =
      let At : List Orders → Type 0 = λ y. (turns : AreTurns Clock 0 y L end) → AllHeed front (t ∷ tail) H (steps_of Clock 0 y L end turns) in
      subst At (sym e) (λ turns.
      let y = first_turns Clock 0 Before (Mine ++ Others) L end turns in
      let steps = steps_of Clock 0 Before L y.mid y.turns in
      let ran = (turns_are Clock 0 Before L y.mid y.turns).0 in
      let free = begins_free y.mid y.turns in
      let Free : Core → Type 0 = λ h. IsFreeAt Low front h × (length h.taken ≤ length (orders_sent front)) in
      let here = subst Free ran free in
      let Heed : List Step → Type 0 = λ z. AllHeed front (t ∷ tail) H z in
      subst Heed (sym y.are) (heed_both front (t ∷ tail) steps y.rest H (early_heed front tail t steps H here.1) (steps_heed Low front tail t y.rest (run_world steps H) begun here.0)))

  pub still_heeds : (end : LinkState) (turns : AreTurns Clock 0 x.orders L end) → AllHeed front (t ∷ tail) H (steps_of Clock 0 x.orders L end turns)
  still_heeds = heeds_cut x.orders cut
