-- A get_config of a row is answered that it is complete, where its four turns are clear.
use Rattle.std.proofs.Common.{◌≡◌, ℕ, zero, suc, ◌+◌, ◌<◌, ◌≤◌, ◌⊎◌, inl, inr, Bool, true, false, cond, List, [], ◌∷◌, ◌++◌, length, map, take, drop, Some, None, refl, ap, sym, ◌∙◌, subst, arith, append-nil, length-append}
use Rattle.std.specs.Prelude.{◌||◌}
use Rattle.laws_board.proofs.Names.{flat_map, leb_tells, length-map, map-append, BoardClock, Level, BoardDef, Machine, clock_of, IsValidMachine, board_at, Cmd, News, State, Unit as StepUnit, Entry, Switch, Down, Up, Reply, Meant, plain, units_orders, IsOrdered, Core, run_world, new_world, wire_text, first_state, orders, IsTurn, LinkState, Orders, after_board, after_host, come, turns_are_steps, Asking, Stage, Identify, Uptime, Configure, Config, Connected, Setup, is_question_due, configuration, trigger_of}
use Rattle.std.specs.List.{filter}
use Rattle.std.proofs.lemmas.List.{length-take}
use Rattle.msg_code.specs.declared.cmd.Cmd.TheVariants as cmd
use Rattle.wire_scene.specs.Wire.{Copy}
use Rattle.link_core.specs.Core.{Command, sent}
use Rattle.board_sim.specs.Board.{new_controller}
use Rattle.board_world.specs.World.{on_wire}
use Rattle.board_world.proofs.Runs.{all_orders, ordered, wired}
use Rattle.link_work.specs.Answers.{IsAmong, IsCalm, IsClear}
use Rattle.link_work.specs.Limits.{bytes_in, carried}
use Rattle.link_work.specs.Told.{AreNews, IsTold, heard_in}
use Rattle.link_work.specs.Turn.{after_replies, board_steps, host_steps, still}
use Rattle.link_work.proofs.Answered.{Begins, begins, drained_late, replies_queue_none, board_queues_none, many_by}
use Rattle.link_work.proofs.Draining.{IsSound, Parts, parts_of}
use Rattle.link_work.proofs.Blocks.{commands, count_first}
use Rattle.link_work.proofs.Late.{queued_length}
use Rattle.link_work.proofs.Steps.{all_append, all_come}
use Rattle.link_work.proofs.Turns.{QueuesNone, comes_queue_none, none_queued}
use Rattle.board_asking.specs.declared.setup.Setup.TheVariants.{Oids, Stepper, Trsync, Endstop, Finish}
use Rattle.board_asking.specs.Asking.{asks, question}
use Rattle.board_asking.specs.Machine.{control_bytes, endstop_pins, fitting, setup_command, setup_endstops, setup_stepper}
use Rattle.laws_board.specs.turns.Turns.{AreBoardTurns, BoardTurn, latest_state, stands_after}
use Rattle.laws_board.specs.clocks.Ordered.{commands_in, configures}
use Rattle.laws_board.specs.clocks.Runs.{UnitsFit, orders_in}
use Rattle.laws_board.proofs.clocks.Configured.{done}
use Rattle.laws_board.proofs.clocks.Orders.{order_length, turns_in_order}
use Rattle.laws_board.proofs.clocks.Setups.{Conf, conf_heard, conf_ready}
use Rattle.laws_board.specs.causes.Causes.{BringNoSteps, before_turn}
use Rattle.laws_board.proofs.causes.Turns.{are_before, before_all, before_length, before_less, next_turn}
use Rattle.laws_board.proofs.causes.Told.{AllAsk, ConnectsTo, asking_behind, asking_in, asks_before, connecting_so, heard_is}
use Rattle.laws_board.proofs.causes.Four.{NotHindered, all_queued, is_ordered, queued_of}
use Rattle.laws_board.proofs.causes.Made.{AllMay, Ready, either_true, ends_config, or_true, finished, may_both}
use Rattle.laws_board.proofs.causes.Config.{Waits, board_comes, configured, heard_behind, news_hold, ready_along}
use Rattle.laws_board.proofs.causes.Row.{Asks, Out, counts_not, queued_to, turn_told}
use Rattle.laws_board.proofs.causes.Said.{config_text}

-- the news of a turn in which the board took the get_config
abbrev SaysIn : List News → Type 0
SaysIn news = (number moves : ℕ) × IsAmong (record { number = number; answer = configured moves }) news

-- how many commands were taken
taken_many : (h : Core) → IsOrdered h → length h.taken ≡ length (commands (take h.link.accepted h.link.blocks))
taken_many h o = sym (length-map h.taken on_wire) ∙ sym (ap length (wired h o)) ∙ ap length o.in_step.each_once

-- a link as its turn ends, in which the board took the get_config
record Asked (front rest : List Meant) (l m : LinkState) (turn : ℕ) : Type 0 where
  pub calm : IsCalm turn m.up
  pub none : m.up.copies ≡ []
  pub queued : m.core.queued ≡ front ++ plain cmd.GetConfig ∷ rest
  pub done : finished front ≡ true
  pub may : AllMay m.core.queued
  pub ready : Ready l.core.taken l.core.board.controller
  pub low : length l.core.taken ≤ length front
  pub high : length front < length m.core.taken

parts_say : (clock : BoardClock) (turn : ℕ) (o : Orders) (resent : Bool) (l : LinkState) (news : List News) (front rest : List Meant) → IsOrdered l.core
    → Parts turn o resent l (after_host turn o resent l) (after_board clock turn (after_host turn o resent l)) (after_replies turn (after_board clock turn (after_host turn o resent l)))
    → AreNews (heard_in (come Up turn (after_board clock turn (after_host turn o resent l)).up.copies) (after_board clock turn (after_host turn o resent l)).core) news
    → Asked front rest l (after_replies turn (after_board clock turn (after_host turn o resent l))) turn → SaysIn news
parts_say clock turn o resent l news front rest ord parts told a =
    let l1 : LinkState = after_host turn o resent l in
    let l2 : LinkState = after_board clock turn l1 in
    let l3 : LinkState = after_replies turn l2 in
    let ord1 = ordered (host_steps turn o resent) l.core ord in
    let ord2 = ordered (board_steps clock turn l1.down.copies) l1.core ord1 in
    let ord3 = ordered (come Up turn l2.up.copies) l2.core ord2 in
    let same : l3.core.queued ≡ l1.core.queued = replies_queue_none turn l2.up.copies l2.core ∙ board_queues_none clock turn l1.down.copies l1.core in
    let may1 : AllMay l1.core.queued = subst (λ (ms : List Meant). AllMay ms) same a.may in
    let w : Waits front rest l1.core = record { queued = sym same ∙ a.queued; done = a.done; may = may1; ready = ready_along (host_steps turn o resent) l.core may1 a.ready } in
    let c = board_comes clock turn l1.down.copies l1.core front rest ord1 w in
    let same_low : length l1.core.taken ≡ length l.core.taken = many_by l1.core ord1 ∙ ap length parts.host.taken ∙ sym (many_by l.core ord) in
    let same_high : length l3.core.taken ≡ length l2.core.taken =
    taken_many l3.core ord3 ∙ ap (λ n. length (commands (take n l3.core.link.blocks))) parts.heard.accepted
    ∙ ap (λ bs. length (commands (take l2.core.link.accepted bs))) parts.heard.blocks ∙ sym (taken_many l2.core ord2) in
    let low = a.low in
    let high = a.high in
    let said = c.says (omega (arith, same_low)) (omega (arith, same_high)) in
    let put = parts.put2 in
    let many : length c.more ≡ length put.copies =
    omega (arith, ap length c.up, ap length parts.came.did.up, length-append l1.core.link.up c.more, length-append l1.core.link.up parts.came.did.more, put.as_many) in
    let r : Reply = record { number = said.number; answer = wire_text (configured said.moves) } in
    let due : still turn (l1.up.copies ++ put.copies) ≡ [] = sym (ap (still turn) put.behind) ∙ a.none in
    let here = heard_behind turn l1.up.copies put.copies l2.core l1.core.link.up c.more r c.up parts.many1.up many (put.clean a.calm) due said.among in (
      said.number,
      said.moves,
      news_hold (heard_in (come Up turn l2.up.copies) l2.core) news r (configured said.moves) told (subst (λ (cs : List Copy). IsAmong r (heard_in (come Up turn cs) l2.core)) (sym put.behind) here)
          (config_text said.moves),
    )

turn_says : (clock : BoardClock) (turn : ℕ) (o : Orders) (l m : LinkState) (s : State) (front rest : List Meant) → Begins clock turn l → (t : IsTurn clock turn o l m) → IsTold clock turn o l t.resent m.core s
    → Asked front rest l m turn → SaysIn s.news
turn_says clock turn o l m s front rest b t told =
    let At : LinkState → Type 0 = λ x. Asked front rest l x turn → SaysIn s.news in
    subst At (sym t.becomes) (parts_say clock turn o t.resent l s.news front rest b.in_time.0 (parts_of clock turn o t.resent l b.sound.step b.sound.many) told.news)

-- what was sent stays sent
commands_take : (n : ℕ) (bs : List (List Command)) → length (commands (take n bs)) ≤ length (commands bs)
commands_take zero bs = omega arith
commands_take (suc n) [] = omega arith
commands_take (suc n) (b ∷ bs) = let i = commands_take n bs in omega (arith, length-append b (commands (take n bs)), length-append b (commands bs))

take_all : (bs : List (List Command)) → take (length bs) bs ≡ bs
take_all [] = refl
take_all (b ∷ bs) = ap (λ (x : List (List Command)). b ∷ x) (take_all bs)

turn_commands : (clock : BoardClock) (turn : ℕ) (o : Orders) (l m : LinkState) → IsSound l turn → IsTurn clock turn o l m → length (commands l.core.link.blocks) ≤ length (commands m.core.link.blocks)
turn_commands clock turn o l m s t =
    let l1 : LinkState = after_host turn o t.resent l in
    let l2 : LinkState = after_board clock turn l1 in
    let l3 : LinkState = after_replies turn l2 in
    let parts = parts_of clock turn o t.resent l s.step s.many in
    let k = sent l.core.link in
    let g = l1.core.link in
    let was = count_first k l.core.link.blocks (l.core.link.waiting ++ carried o) (omega arith) in
    let now = count_first k g.blocks g.waiting (omega (arith, parts.host.is_sent)) in
    let same = parts.host.counted k in
    let all = ap (λ (bs : List (List Command)). length (commands bs)) (take_all l.core.link.blocks) in
    let few = commands_take k g.blocks in
    subst (λ (x : LinkState). length (commands l.core.link.blocks) ≤ length (commands x.core.link.blocks)) (sym t.becomes)
    (omega (arith, ap (λ (bs : List (List Command)). length (commands bs)) (parts.heard.blocks ∙ parts.came.did.blocks)))

-- over the turns of a run
pub begins_at : (b : BoardDef) (pins : List (List Level)) (board : ℕ) (entries : List Entry) (turns : List BoardTurn) → AreBoardTurns (clock_of b) (first_state b pins board entries) turns
    → Begins (clock_of b) (length turns) (stands_after (first_state b pins board entries) turns)
begins_at b pins board entries turns are =
    let first = first_state b pins board entries in
    subst (λ (n : ℕ). Begins (clock_of b) n (stands_after first turns)) (order_length turns) (begins b pins board entries (orders_in turns) (stands_after first turns) (turns_in_order (clock_of b) first turns are))

start_ready : (b : BoardDef) (pins : List (List Level)) → Ready [] (new_world b pins).board.controller
unfolding new_controller
start_ready b pins = record { running = refl; crc = refl; complete = λ e. cc }

ready_turns : (b : BoardDef) (pins : List (List Level)) (board : ℕ) (entries : List Entry) (turns : List BoardTurn) → AreBoardTurns (clock_of b) (first_state b pins board entries) turns → AllMay (queued_of turns)
    → Ready (stands_after (first_state b pins board entries) turns).core.taken (stands_after (first_state b pins board entries) turns).core.board.controller
ready_turns b pins board entries turns are may =
    let first = first_state b pins board entries in
    let l = stands_after first turns in
    let steps = turns_are_steps (clock_of b) 0 (orders_in turns) first l (turns_in_order (clock_of b) first turns are) in
    let queued = ap (λ (h : Core). h.queued) (sym steps.1) ∙ all_queued b pins board entries turns are in
    subst (λ (h : Core). Ready h.taken h.board.controller) (sym steps.1)
    (ready_along steps.0 first.core (subst (λ (ms : List Meant). AllMay ms) (sym queued) may) (start_ready b pins))

abbrev taken_by : LinkState → List BoardTurn → ℕ
taken_by first turns = length (stands_after first turns).core.taken

-- the turn in which the command at a place is taken
record TakenIn (first : LinkState) (turns : List BoardTurn) (k place : ℕ) : Type 0 where
  pub j : ℕ
  pub few : j ≤ 3
  pub low : taken_by first (before_turn (k + j) turns) ≤ place
  pub high : place < taken_by first (before_turn (k + j + 1) turns)

taken_to : (first : LinkState) (turns : List BoardTurn) (k place n : ℕ) → n ≤ 4 → taken_by first (before_turn k turns) ≤ place
    → TakenIn first turns k place ⊎ (taken_by first (before_turn (k + n) turns) ≤ place)
taken_to first turns k place zero h low = inr (subst (λ (i : ℕ). taken_by first (before_turn i turns) ≤ place) (omega arith) low)
taken_to first turns k place (suc n) h low = elim (taken_to first turns k place n (omega arith) low) [
  | inl t ↦ inl t
  | inr l ↦ elim (leb_tells (place + 1) (taken_by first (before_turn (k + n + 1) turns))) [
    | inl p ↦ let q = p.1 in inl (record { j = n; few = omega arith; low = l; high = omega arith })
    | inr p ↦ let q = p.1 in
        let same : k + n + 1 ≡ k + suc n = omega arith in
        let here : taken_by first (before_turn (k + n + 1) turns) ≤ place = omega arith in
        inr (subst (λ (i : ℕ). taken_by first (before_turn i turns) ≤ place) same here)
  ]
]

-- at the end of the last of four clear turns all is taken that was queued by the end of the first one
sent_by : (b : BoardDef) (pins : List (List Level)) (board : ℕ) (entries : List Entry) (turns : List BoardTurn) (k n : ℕ) → AreBoardTurns (clock_of b) (first_state b pins board entries) turns → k + n ≤ length turns
    → length (commands (stands_after (first_state b pins board entries) (before_turn k turns)).core.link.blocks)
    ≤ length (commands (stands_after (first_state b pins board entries) (before_turn (k + n) turns)).core.link.blocks)
sent_by b pins board entries turns k zero are long =
    let first = first_state b pins board entries in
    let same : before_turn k turns ≡ before_turn (k + 0) turns = ap (λ (i : ℕ). before_turn i turns) (omega arith) in
    omega (arith, ap (λ (l : List BoardTurn). length (commands (stands_after first l).core.link.blocks)) same)
sent_by b pins board entries turns k (suc n) are long =
    let first = first_state b pins board entries in
    let clock = clock_of b in
    let x = next_turn (k + n) turns (omega arith) in
    let before = before_turn (k + n) turns in
    let e : before_turn (k + suc n) turns ≡ x.t ∷ before = ap (λ (i : ℕ). before_turn i turns) (omega arith) ∙ x.is in
    let those = subst (λ (l : List BoardTurn). AreBoardTurns clock first l) e (are_before clock first (k + suc n) turns are) in
    let s = (begins_at b pins board entries before those.1).sound in
    let one = turn_commands clock (length before) (orders x.t.control x.t.batch) (stands_after first before) x.t.after s those.0.0 in
    let rest = sent_by b pins board entries turns k n are (omega arith) in
    omega (arith, ap (λ (l : List BoardTurn). length (commands (stands_after first l).core.link.blocks)) e)

all_taken : (b : BoardDef) (pins : List (List Level)) (board : ℕ) (entries : List Entry) (turns : List BoardTurn) (k : ℕ) → AreBoardTurns (clock_of b) (first_state b pins board entries) turns → k + 4 ≤ length turns
    → NotHindered (first_state b pins board entries) turns k → length (queued_of (before_turn (k + 1) turns)) ≤ taken_by (first_state b pins board entries) (before_turn (k + 4) turns)
all_taken b pins board entries turns k are long clear =
    let first = first_state b pins board entries in
    let clock = clock_of b in
    let x = next_turn (k + 3) turns (omega arith) in
    let before = before_turn (k + 3) turns in
    let e : before_turn (k + 4) turns ≡ x.t ∷ before = ap (λ (i : ℕ). before_turn i turns) (omega arith) ∙ x.is in
    let those = subst (λ (l : List BoardTurn). AreBoardTurns clock first l) e (are_before clock first (k + 4) turns are) in
    let size : length before ≡ k + 3 = before_length (k + 3) turns (omega arith) in
    let l = stands_after first before in
    let o = orders x.t.control x.t.batch in
    let s = subst (λ (n : ℕ). IsSound l n) size (begins_at b pins board entries before those.1).sound in
    let t = subst (λ (n : ℕ). IsTurn clock n o l x.t.after) size those.0.0 in
    let at : IsClear k x.t.after = subst (λ (y : LinkState). IsClear k y) (ap (stands_after first) x.is) (clear.clear 3 (omega arith)) in
    let drained : x.t.after.core.link.accepted ≡ sent x.t.after.core.link = drained_late clock k o l x.t.after s t at in
    let ord : IsOrdered x.t.after.core = is_ordered b pins board entries (x.t ∷ before) those in
    let bs = x.t.after.core.link.blocks in
    let taken : length x.t.after.core.taken ≡ length (commands bs) =
    taken_many x.t.after.core ord ∙ ap (λ (n : ℕ). length (commands (take n bs))) drained ∙ ap (λ (y : List (List Command)). length (commands y)) (take_all bs) in
    let was = before_turn (k + 1) turns in
    let mine = are_before clock first (k + 1) turns are in
    let h = (stands_after first was).core in
    let all = queued_length h (is_ordered b pins board entries was mine) in
    let none = clear.none in
    let grows = sent_by b pins board entries turns (k + 1) 3 are (omega arith) in
    let same : before_turn (k + 1 + 3) turns ≡ x.t ∷ before = ap (λ (i : ℕ). before_turn i turns) (omega arith) ∙ e in
    omega (
      arith,
      ap length (all_queued b pins board entries was mine),
      ap length none,
      ap (λ (y : List BoardTurn). length (commands (stands_after first y).core.link.blocks)) same,
      ap (λ (y : List BoardTurn). taken_by first y) e,
    )

-- what is queued while connecting
may_setups : (ss : List Setup) → AllMay (map plain (map setup_command ss))
may_setups [] = tt
may_setups (Oids count ∷ ss) = (tt, may_setups ss)
may_setups (Stepper oid step dir ∷ ss) = (tt, may_setups ss)
may_setups (Trsync oid ∷ ss) = (tt, may_setups ss)
may_setups (Endstop oid pin ∷ ss) = (tt, may_setups ss)
may_setups (Finish ∷ ss) = (refl, may_setups ss)

may_if : (b : Bool) (cs : List Cmd) → AllMay (map plain cs) → AllMay (map plain (cond b cs []))
may_if true cs k = k
may_if false cs k = tt

may_asks : (setups : List Setup) (k : ℕ) (a : Asking) (stage : Stage) → AllMay (map plain (asks setups k a stage))
may_asks setups k a (Configure n) = may_setups (fitting control_bytes (drop n setups))
may_asks setups k a Connected = may_if (is_question_due k a.since) (question Connected) tt
may_asks setups k a c = may_if (is_question_due k a.since) (question c) (tt, tt)

steps_none : (us : List StepUnit) → us ≡ [] → units_orders us ≡ []
steps_none us e = ap units_orders e

pub may_queued : (setups : List Setup) (turns : List BoardTurn) → AllAsk setups turns → BringNoSteps turns → AllMay (queued_of turns)
may_queued setups [] a n = tt
may_queued setups (t ∷ turns) a n =
    let asking = asking_in setups turns in
    let own : AllMay (map plain t.control.commands) = subst (λ (cs : List Cmd). AllMay (map plain cs)) (sym a.0) (may_asks setups (length turns) asking asking.stage) in
    let none : AllMay (units_orders t.batch.units) = subst (λ (ms : List Meant). AllMay ms) (sym (steps_none t.batch.units n.0)) tt in
    may_both (queued_of turns) (map plain t.control.commands ++ units_orders t.batch.units) (may_queued setups turns a.1 n.1) (may_both (map plain t.control.commands) (units_orders t.batch.units) own none)

queued_commands : (turns : List BoardTurn) → BringNoSteps turns → queued_of turns ≡ map plain (commands_in turns)
queued_commands [] n = refl
queued_commands (t ∷ turns) n =
    let own = map plain t.control.commands in
    ap (λ (ms : List Meant). ms ++ (own ++ units_orders t.batch.units)) (queued_commands turns n.1) ∙ ap (λ (ms : List Meant). map plain (commands_in turns) ++ (own ++ ms)) (steps_none t.batch.units n.0)
    ∙ ap (λ (ms : List Meant). map plain (commands_in turns) ++ ms) (append-nil own) ∙ sym (map-append plain (commands_in turns) t.control.commands)

pub none_before : (k : ℕ) (turns : List BoardTurn) → BringNoSteps turns → BringNoSteps (before_turn k turns)
none_before k [] n = tt
none_before k (t ∷ turns) n = elim (leb_tells k (length turns)) [
  | inl p ↦ subst (λ (l : List BoardTurn). BringNoSteps l) (sym (before_less k t turns p.1)) (none_before k turns n.1)
  | inr p ↦ let q = p.1 in subst (λ (l : List BoardTurn). BringNoSteps l) (sym (before_all k (t ∷ turns) (omega arith))) n
]

-- the end of the configuration is among what configures
abbrev ends_in_it : List Cmd → Bool
ends_in_it cs = finished (map plain cs)

filtered_one : (b : Bool) (x : Cmd) (fs xs : List Cmd) → ends_in_it (cond b (x ∷ fs) fs) ≡ true → (ends_in_it fs ≡ true → ends_in_it xs ≡ true) → ends_in_it (x ∷ xs) ≡ true
filtered_one true x fs xs e f = either_true (ends_config x) (ends_in_it fs) _ e (λ g. ap (λ (b : Bool). b || ends_in_it xs) g) (λ g. ap (λ (b : Bool). ends_config x || b) (f g) ∙ or_true (ends_config x))
filtered_one false x fs xs e f = ap (λ (b : Bool). ends_config x || b) (f e) ∙ or_true (ends_config x)

filtered_ends : (xs : List Cmd) → ends_in_it (filter configures xs) ≡ true → ends_in_it xs ≡ true
filtered_ends [] e = e
filtered_ends (x ∷ xs) e = filtered_one (configures x) x (filter configures xs) xs e (filtered_ends xs)

ends_behind : (xs ys : List Setup) → ends_in_it (map setup_command ys) ≡ true → ends_in_it (map setup_command (xs ++ ys)) ≡ true
ends_behind [] ys e = e
ends_behind (x ∷ xs) ys e = ap (λ (b : Bool). ends_config (setup_command x) || b) (ends_behind xs ys e) ∙ or_true (ends_config (setup_command x))

configuration_ends : (m : Machine) (b : ℕ) → ends_in_it (map setup_command (configuration m b)) ≡ true
unfolding configuration
configuration_ends m b =
    ends_behind (flat_map (setup_stepper b) m.steppers) _ (ends_behind (setup_endstops (trigger_of m b + 1) (endstop_pins m b)) (Finish ∷ []) refl)

pub config_done : (m : Machine) (switches : List Switch) (pins : List (List Level)) (entries : List Entry) (b : ℕ) (before : List BoardTurn) → IsValidMachine m → ConnectsTo m switches pins entries b before
    → BringNoSteps before → (asking_in (configuration m b) before).stage ≡ Config → finished (queued_of before) ≡ true
config_done m switches pins entries b before v to none e =
    let setups = configuration m b in
    let so = connecting_so m switches pins entries b to.came before to.run to.phase in
    let a = asking_behind setups before in
    let ordered_so = filter configures (commands_in before) in
    let d : Conf setups a.stage ordered_so = done m switches pins entries b to.came before v to.run a so.asking in
    let now = conf_ready setups _ ordered_so (conf_heard setups ordered_so a (latest_state before) d) in
    let at : Conf setups Config ordered_so = subst (λ (g : Stage). Conf setups g ordered_so) (ap (λ (x : Asking). x.stage) (heard_is setups before) ∙ e) now in
    ap finished (queued_commands before none) ∙ filtered_ends (commands_in before) (ap ends_in_it at ∙ configuration_ends m b)

-- the asking for the configuration is answered in its four turns
pub config_counts : (m : Machine) (pins : List (List Level)) (entries : List Entry) (b : ℕ) (setups : List Setup) (turns : List BoardTurn) (k : ℕ) → Asks m pins entries b setups turns → Out setups turns k Config
    → BringNoSteps turns → finished (queued_of (before_turn k turns)) ≡ true → NotHindered (first_state (board_at m b) pins b entries) turns k → ⊥
config_counts m pins entries b setups turns k a o none ends clear =
    let board = board_at m b in
    let clock = clock_of board in
    let first = first_state board pins b entries in
    let front = queued_of (before_turn k turns) in
    let place = length front in
    let long = o.long in
    let queued = queued_to setups turns k Config cmd.GetConfig o refl a.all in
    let was = are_before clock first k turns a.are in
    let start = (stands_after first (before_turn k turns)).core in
    let low : taken_by first (before_turn k turns) ≤ place =
    omega (arith, ap length (is_ordered board pins b entries (before_turn k turns) was).first, length-take (length start.link.taken) start.queued, ap length (all_queued board pins b entries (before_turn k turns) was)) in
    let q0 = queued 0 (omega arith) in
    let first_size : length (queued_of (before_turn (k + 1) turns)) ≡ place + length (plain cmd.GetConfig ∷ q0.rest) =
    ap (λ (i : ℕ). length (queued_of (before_turn i turns))) (omega arith) ∙ ap length q0.is ∙ length-append front (plain cmd.GetConfig ∷ q0.rest) in
    let all = all_taken board pins b entries turns k a.are long clear in
    elim (taken_to first turns k place 4 (omega arith) low) [
      | inl t ↦
          let i = k + t.j in
          let few = t.few in
          let n = next_turn i turns (omega arith) in
          let before = before_turn i turns in
          let those = subst (λ (l : List BoardTurn). AreBoardTurns clock first l) n.is (are_before clock first (i + 1) turns a.are) in
          let size : length before ≡ i = before_length i turns (omega arith) in
          let l = stands_after first before in
          let asks = may_queued setups before (asks_before setups i turns a.all) (none_before i turns none) in
          let may : AllMay (queued_of (n.t ∷ before)) = subst (λ (y : List BoardTurn). AllMay (queued_of y)) n.is (may_queued setups (before_turn (i + 1) turns) (asks_before setups (i + 1) turns a.all) (none_before (i + 1) turns none)) in
          let whole = all_queued board pins b entries (n.t ∷ before) those in
          let q = queued t.j t.few in
          let at : IsClear k n.t.after = subst (λ (y : LinkState). IsClear k y) (ap (stands_after first) n.is) (clear.clear t.j t.few) in
          let up = at.up in
          let high = t.high in
          let asked : Asked front q.rest l n.t.after (length before) = record {
            calm = omega arith;
            none = at.none_up;
            queued = whole ∙ ap queued_of (sym n.is) ∙ q.is;
            done = ends;
            may = subst (λ (ms : List Meant). AllMay ms) (sym whole) may;
            ready = ready_turns board pins b entries before those.1 asks;
            low = t.low;
            high = omega (arith, ap (λ (y : List BoardTurn). taken_by first y) n.is);
          } in
          let said = turn_says clock (length before) (orders n.t.control n.t.batch) l n.t.after n.t.state front q.rest (begins_at board pins b entries before those.1) those.0.0 those.0.1 asked in
          counts_not setups turns k t.j Config n (record { number = said.0; answer = configured said.1 }) o t.few (turn_told m pins entries b setups turns i n a (omega arith)) said.2 (λ nothing. some_not _ nothing)
      | inr l ↦ absurd (omega arith)
    ]
  where
    some_not : (a : Asking) → Some a ≡ None → ⊥
    some_not a e = cc

pub no_steps_fit : (turns : List BoardTurn) → BringNoSteps turns → UnitsFit turns
no_steps_fit [] n = tt
no_steps_fit (t ∷ turns) n = let none = ap (λ (us : List StepUnit). bytes_in (map on_wire (units_orders us))) n.0 in (omega arith, no_steps_fit turns n.1)
