-- A stepper that a board bound to its trigger in a turn stops with it, whatever the turns behind bring.
use Rattle.std.proofs.Common.{◌≡◌, ℕ, ◌+◌, ◌≤◌, inl, inr, Bool, true, false, cond, List, [], ◌∷◌, ◌++◌, length, map, Some, refl, ap, sym, ◌∙◌, subst, arith, append_assoc, append-nil, length-append}
use Rattle.std.specs.Prelude.{nat_le}
use Rattle.laws_board.proofs.Names.{map-append, BoardClock, Running, Pulse, board_tick, Down, Up, Cmd, Meant, commands_of, Rig, Slot, all_left, pass, slot_at, takes, takes_all, Event, Core, Do, Step, Turn, does, after_event, in_turn, run_world, takes_in, orders, IsTurn, LinkState, Orders, after_board, after_host, come, run_append, turns_are_steps, cons_same}
use Rattle.wire_scene.specs.declared.wire.Fate.{Fate}
use Rattle.wire_scene.specs.declared.wire.Fate.TheVariants.{Garbled, Last, Lost, Stays}
use Rattle.msg_code.specs.declared.cmd.Cmd.TheVariants as cmd
use Rattle.board_sim.specs.RigRuns.{AllBefore, AreBehindSetUp, IsBehindSetUp, Passes, RigStep, Takes, all_made, rig_after, rig_after_all}
use Rattle.board_world.specs.declared.event.Event.TheVariants as event
use Rattle.link_work.specs.Turn.{after_replies, comes, host_steps}
use Rattle.link_work.proofs.Steps.{AllHold, AllOf, Holds, IsHeld, all_append, all_come, come_holds, host_holds}
use Rattle.laws_board.specs.turns.Turns.{AreBoardTurns, BoardTurn, stands_after}
use Rattle.laws_board.specs.groups.Homing.{HasBoth}
use Rattle.laws_board.proofs.groups.Grouped.{after_both, halts_there}
use Rattle.laws_board.proofs.groups.Timed.{runs_or_shut, stays_shut}
use Rattle.laws_homing.specs.home_runs.SetUps.{TookInTurn}
use Rattle.laws_homing.proofs.home_runs.Staging.{commands_both}
use Rattle.laws_homing.proofs.home_runs.Found.{later_steps}

-- what an event is to the board, and what some steps are
abbrev pub rig_in : Core → Event → List RigStep
rig_in h (event.Pass t) = cond (nat_le h.board.controller.tick t) (Passes (all_left t h.board.triggers + 1) t ∷ []) []
rig_in h e = map Takes (commands_of (takes_in h e))

abbrev pub rig_steps : List Step → Core → List RigStep
rig_steps [] h = []
rig_steps (Do e ∷ steps) h = rig_in h e ++ rig_steps steps (after_event h e)
rig_steps (Turn turn ∷ steps) h = rig_steps steps (in_turn h turn)

abbrev pub took : List Step → Core → List Meant
took [] h = []
took (Do e ∷ steps) h = takes_in h e ++ took steps (after_event h e)
took (Turn turn ∷ steps) h = took steps (in_turn h turn)

pub took_is : (steps : List Step) (h : Core) → (run_world steps h).taken ≡ h.taken ++ took steps h
took_is [] h = sym (append-nil h.taken)
took_is (Do e ∷ steps) h = took_is steps (after_event h e) ∙ append_assoc h.taken (takes_in h e) (took steps (after_event h e))
took_is (Turn turn ∷ steps) h = took_is steps (in_turn h turn)

-- the board behind it, and its pulses
pub takes_rig : (r : Rig) (cs : List Cmd) → rig_after_all (map Takes cs) r ≡ (takes_all r cs).rig
takes_rig r [] = refl
takes_rig r (c ∷ cs) = takes_rig (takes r c).rig cs

pub takes_none : (r : Rig) (cs : List Cmd) → all_made (map Takes cs) r ≡ []
takes_none r [] = refl
takes_none r (c ∷ cs) = takes_none (takes r c).rig cs

time_board : (b : Bool) (n : ℕ) (r : Rig) (t : ℕ) → (cond b (pass n r t) (record { rig = r; pulses = []; answers = [] })).rig ≡ rig_after_all (cond b (Passes n t ∷ []) []) r
time_board true n r t = refl
time_board false n r t = refl

time_made : (b : Bool) (n : ℕ) (r : Rig) (t : ℕ) → (cond b (pass n r t) (record { rig = r; pulses = []; answers = [] })).pulses ≡ all_made (cond b (Passes n t ∷ []) []) r
time_made true n r t = sym (append-nil (pass n r t).pulses)
time_made false n r t = refl

pub event_board : (h : Core) (e : Event) → (does h e).board ≡ rig_after_all (rig_in h e) h.board
event_board h (event.Pass t) = time_board (nat_le h.board.controller.tick t) (all_left t h.board.triggers + 1) h.board t
event_board h e = sym (takes_rig h.board (commands_of (takes_in h e)))

event_made : (h : Core) (e : Event) → (does h e).pulses ≡ all_made (rig_in h e) h.board
event_made h (event.Pass t) = time_made (nat_le h.board.controller.tick t) (all_left t h.board.triggers + 1) h.board t
event_made h e = sym (takes_none h.board (commands_of (takes_in h e)))

pub made_both : (xs ys : List RigStep) (r : Rig) → all_made (xs ++ ys) r ≡ all_made xs r ++ all_made ys (rig_after_all xs r)
made_both [] ys r = refl
made_both (Takes c ∷ xs) ys r = made_both xs ys (rig_after r (Takes c))
made_both (Passes n t ∷ xs) ys r =
    ap (λ (ps : List Pulse). (pass n r t).pulses ++ ps) (made_both xs ys (rig_after r (Passes n t)))
    ∙ sym (append_assoc (pass n r t).pulses (all_made xs (rig_after r (Passes n t))) (all_made ys (rig_after_all xs (rig_after r (Passes n t)))))

pub steps_board : (steps : List Step) (h : Core) → (run_world steps h).board ≡ rig_after_all (rig_steps steps h) h.board
steps_board [] h = refl
steps_board (Do e ∷ steps) h =
    let rest = rig_steps steps (after_event h e) in
    steps_board steps (after_event h e) ∙ ap (rig_after_all rest) (event_board h e) ∙ sym (after_both (rig_in h e) rest h.board)
steps_board (Turn turn ∷ steps) h = steps_board steps (in_turn h turn)

pub steps_made : (steps : List Step) (h : Core) → (run_world steps h).made ≡ h.made ++ all_made (rig_steps steps h) h.board
steps_made [] h = sym (append-nil h.made)
steps_made (Do e ∷ steps) h =
    let g = after_event h e in
    let rest = rig_steps steps g in
    steps_made steps g ∙ append_assoc h.made (does h e).pulses (all_made rest g.board)
    ∙ ap (λ (ps : List Pulse). h.made ++ ps)
    (ap (λ (ps : List Pulse). ps ++ all_made rest g.board) (event_made h e) ∙ ap (λ (r : Rig). all_made (rig_in h e) h.board ++ all_made rest r) (event_board h e) ∙ sym (made_both (rig_in h e) rest h.board))
steps_made (Turn turn ∷ steps) h = steps_made steps (in_turn h turn)

pub rig_append : (xs ys : List Step) (h : Core) → rig_steps (xs ++ ys) h ≡ rig_steps xs h ++ rig_steps ys (run_world xs h)
rig_append [] ys h = refl
rig_append (Do e ∷ xs) ys h =
    ap (λ (l : List RigStep). rig_in h e ++ l) (rig_append xs ys (after_event h e)) ∙ sym (append_assoc (rig_in h e) (rig_steps xs (after_event h e)) (rig_steps ys (run_world xs (after_event h e))))
rig_append (Turn turn ∷ xs) ys h = rig_append xs ys (in_turn h turn)

-- while the board stands it only takes commands
held_in : (h : Core) (e : Event) → IsHeld e → rig_in h e ≡ map Takes (commands_of (takes_in h e))
held_in h (event.Pass t) k = absurd k
held_in h e k = refl

pub takes_both : (xs ys : List Meant) → map Takes (commands_of (xs ++ ys)) ≡ map Takes (commands_of xs) ++ map Takes (commands_of ys)
takes_both xs ys = ap (map Takes) (commands_both xs ys) ∙ map-append Takes (commands_of xs) (commands_of ys)

pub held_steps : (steps : List Step) (h : Core) → AllHold steps → rig_steps steps h ≡ map Takes (commands_of (took steps h))
held_steps [] h k = refl
held_steps (Do e ∷ steps) h k =
    ap (λ (l : List RigStep). l ++ rig_steps steps (after_event h e)) (held_in h e k.0) ∙ ap (λ (l : List RigStep). map Takes (commands_of (takes_in h e)) ++ l) (held_steps steps (after_event h e) k.1)
    ∙ sym (takes_both (takes_in h e) (took steps (after_event h e)))
held_steps (Turn turn ∷ steps) h k = held_steps steps (in_turn h turn) k.1

-- what is taken neither starts the trigger nor sets the clock
abbrev pub EachBehind : ℕ → ℕ → List Meant → Type 0
EachBehind i j [] = Unit {0}
EachBehind i j (m ∷ ms) = IsBehindSetUp i j m.command × EachBehind i j ms

pub behind_parts : (i j : ℕ) (xs ys : List Meant) → EachBehind i j (xs ++ ys) → EachBehind i j xs × EachBehind i j ys
behind_parts i j [] ys b = (tt, b)
behind_parts i j (x ∷ xs) ys b = let parts = behind_parts i j xs ys b.1 in ((b.0, parts.0), parts.1)

pub behind_both : (i j : ℕ) (xs ys : List RigStep) → AreBehindSetUp i j xs → AreBehindSetUp i j ys → AreBehindSetUp i j (xs ++ ys)
behind_both i j [] ys a b = b
behind_both i j (Takes c ∷ xs) ys a b = (a.0, behind_both i j xs ys a.1 b)
behind_both i j (Passes n t ∷ xs) ys a b = behind_both i j xs ys a b

pub takes_behind : (i j : ℕ) (ms : List Meant) → EachBehind i j ms → AreBehindSetUp i j (map Takes (commands_of ms))
takes_behind i j [] b = tt
takes_behind i j (m ∷ ms) b = (b.0, takes_behind i j ms b.1)

time_behind : (i j n t : ℕ) (b : Bool) → AreBehindSetUp i j (cond b (Passes n t ∷ []) [])
time_behind i j n t true = tt
time_behind i j n t false = tt

event_behind : (i j : ℕ) (h : Core) (e : Event) → EachBehind i j (takes_in h e) → AreBehindSetUp i j (rig_in h e)
event_behind i j h (event.Pass t) b = time_behind i j (all_left t h.board.triggers + 1) t (nat_le h.board.controller.tick t)
event_behind i j h e b = takes_behind i j (takes_in h e) b

steps_behind : (i j : ℕ) (steps : List Step) (h : Core) → EachBehind i j (took steps h) → AreBehindSetUp i j (rig_steps steps h)
steps_behind i j [] h b = tt
steps_behind i j (Do e ∷ steps) h b =
    let parts = behind_parts i j (takes_in h e) (took steps (after_event h e)) b in
    behind_both i j (rig_in h e) (rig_steps steps (after_event h e)) (event_behind i j h e parts.0) (steps_behind i j steps (after_event h e) parts.1)
steps_behind i j (Turn turn ∷ steps) h b = steps_behind i j steps (in_turn h turn) b

-- steps that take nothing
abbrev pub TakesNone : Step → Type 0
TakesNone (Do e) = (h : Core) → takes_in h e ≡ []
TakesNone (Turn turn) = Unit {0}

pub took_none : (steps : List Step) (h : Core) → AllOf TakesNone steps → took steps h ≡ []
took_none [] h k = refl
took_none (Do e ∷ steps) h k = ap (λ (ms : List Meant). ms ++ took steps (after_event h e)) (k.0 h) ∙ took_none steps (after_event h e) k.1
took_none (Turn turn ∷ steps) h k = took_none steps (in_turn h turn) k.1

replies_none : (fate : Fate) → AllOf TakesNone (comes Up fate)
replies_none Last = (λ h. refl, (λ h. refl, tt))
replies_none Stays = (λ h. refl, (λ h. refl, (λ h. refl, tt)))
replies_none c = (λ h. refl, tt)

-- a turn: what the board does while it stands, and the rest, in which it takes nothing
pub record TurnParts (l m : LinkState) : Type 0 where
  pub held : List Step
  pub on : List Step
  pub holds : AllHold held
  pub none : AllOf TakesNone on
  pub is : m.core ≡ run_world on (run_world held l.core)

parts_same : (clock : BoardClock) (turn : ℕ) (o : Orders) (resent : Bool) (l : LinkState) → TurnParts l (after_replies turn (after_board clock turn (after_host turn o resent l)))
parts_same clock turn o resent l =
    let l1 : LinkState = after_host turn o resent l in
    let l2 : LinkState = after_board clock turn l1 in
    let down = come Down turn l1.down.copies in
    let up = come Up turn l2.up.copies in
    let pass : List Step = Do (event.Pass (board_tick clock (turn + 1))) ∷ [] in
    record {
      held = host_steps turn o resent ++ down;
      on = pass ++ up;
      holds = all_append Holds (host_steps turn o resent) down (host_holds turn o resent) (come_holds Down turn l1.down.copies);
      none = (λ h. refl, all_come TakesNone Up replies_none turn l2.up.copies);
      is = sym (ap (λ (h : Core). run_world up (run_world pass h)) (run_append (host_steps turn o resent) down l.core) ∙ ap (λ (h : Core). run_world up h) (sym (run_append down pass l1.core)));
    }

pub turn_parts : (clock : BoardClock) (turn : ℕ) (o : Orders) (l m : LinkState) → IsTurn clock turn o l m → TurnParts l m
turn_parts clock turn o l m t = subst (λ (x : LinkState). TurnParts l x) (sym t.becomes) (parts_same clock turn o t.resent l)

pub fits : (xs new front rest : List Meant) → xs ++ new ≡ front ++ rest → length xs ≤ length front → (f : List Meant) × (front ≡ xs ++ f) × (new ≡ f ++ rest)
fits [] new front rest e l = (front, refl, e)
fits (x ∷ xs) new [] rest e l = absurd (omega (arith, l))
fits (x ∷ xs) new (y ∷ front) rest e l =
    let both = cons_same x y (xs ++ new) (front ++ rest) e in
    let more = fits xs new front rest both.1 (omega (arith, l)) in
    (more.0, ap (λ (z : Meant). z ∷ front) (sym both.0) ∙ ap (λ (zs : List Meant). x ∷ zs) more.1, more.2)

-- what is asked of the board right before the command: a stepper and a trigger stand on it, where it runs
abbrev pub HasWhereRuns : ℕ → ℕ → Rig → Type 0
HasWhereRuns i j r = r.controller.state ≡ Running → HasBoth i j r

stops_by : (r : Rig) (steps : List RigStep) (i j : ℕ) (s : Slot) → HasWhereRuns i j r → AreBehindSetUp i j steps → slot_at (rig_after_all (Takes (cmd.StepperStopOnTrigger i j) ∷ steps) r) j ≡ Some s → s.trigger.can ≡ false
    → AllBefore i s.trigger.tick (all_made (Takes (cmd.StepperStopOnTrigger i j) ∷ steps) r)
stops_by r steps i j s has apart at fired = elim (runs_or_shut r) [
  | inl runs ↦ halts_there r steps i j s (has runs) apart at fired
  | inr shut ↦ subst (AllBefore i s.trigger.tick) (sym (stays_shut (Takes (cmd.StepperStopOnTrigger i j) ∷ steps) r shut).1) tt
]

-- the pulses from the turn on in which the board took the command
pub stops_in_turns : (clock : BoardClock) (first : LinkState) (later : List BoardTurn) (t : BoardTurn) (past : List BoardTurn) (i j : ℕ) (front : List Meant) (bind : Meant) (behind : List Meant) (s : Slot) → AreBoardTurns clock first (later ++ t ∷ past)
    → (stands_after first (later ++ t ∷ past)).core.taken ≡ front ++ bind ∷ behind → bind.command ≡ cmd.StepperStopOnTrigger i j → TookInTurn first front t past → EachBehind i j behind
    → ((f : List Meant) → front ≡ (stands_after first past).core.taken ++ f → HasWhereRuns i j (takes_all (stands_after first past).core.board (commands_of f)).rig)
    → slot_at (stands_after first (later ++ t ∷ past)).core.board j ≡ Some s → s.trigger.can ≡ false
    → (pulses : List Pulse) × ((stands_after first past).core.made ++ pulses ≡ (stands_after first (later ++ t ∷ past)).core.made) × AllBefore i s.trigger.tick pulses
stops_in_turns clock first later t past i j front bind behind s are taken is here apart has at fired =
    let l = stands_after first past in
    let h = l.core in
    let rest = later_steps clock first later (t ∷ past) are in
    let mine = turns_at later are in
    let p = turn_parts clock (length past) (orders t.control t.batch) l t.after mine in
    let g = run_world p.held h in
    let tail = p.on ++ rest.0 in
    let all = p.held ++ tail in
    let last : (stands_after first (later ++ t ∷ past)).core ≡ run_world all h =
    rest.1 ∙ ap (λ (x : Core). run_world rest.0 x) p.is ∙ sym (run_append p.on rest.0 g) ∙ sym (run_append p.held tail h) in
    let new = took p.held h in
    let new_is : g.taken ≡ h.taken ++ new = took_is p.held h in
    let same : t.after.core.taken ≡ g.taken = ap (λ (x : Core). x.taken) p.is ∙ took_is p.on g ∙ ap (λ (ms : List Meant). g.taken ++ ms) (took_none p.on g p.none) ∙ append-nil g.taken in
    let x = took tail g in
    let whole : g.taken ++ x ≡ front ++ bind ∷ behind =
    sym (took_is tail g) ∙ ap (λ (y : Core). y.taken) (sym (run_append p.held tail h)) ∙ ap (λ (y : Core). y.taken) (sym last) ∙ taken in
    let one = fits (front ++ bind ∷ []) behind g.taken x (append_assoc front (bind ∷ []) behind ∙ sym whole) (omega (arith, here.1, ap length same, length-append front (bind ∷ []))) in
    let more = one.0 in
    let split : h.taken ++ new ≡ front ++ bind ∷ more = sym new_is ∙ one.1 ∙ append_assoc front (bind ∷ []) more in
    let two = fits h.taken new front (bind ∷ more) split here.0 in
    let f = two.0 in
    let r = (takes_all h.board (commands_of f)).rig in
    let stop = cmd.StepperStopOnTrigger i j in
    let steps = map Takes (commands_of more) ++ rig_steps tail g in
    let rigs : rig_steps all h ≡ map Takes (commands_of f) ++ Takes stop ∷ steps =
    rig_append p.held tail h ∙ ap (λ (y : List RigStep). y ++ rig_steps tail g) (held_steps p.held h p.holds ∙ ap (λ (ms : List Meant). map Takes (commands_of ms)) two.2 ∙ takes_both f (bind ∷ more))
    ∙ append_assoc (map Takes (commands_of f)) (Takes bind.command ∷ map Takes (commands_of more)) (rig_steps tail g) ∙ ap (λ (c : Cmd). map Takes (commands_of f) ++ Takes c ∷ steps) is in
    let parts = behind_parts i j more x (subst (EachBehind i j) one.2 apart) in
    let free = behind_both i j (map Takes (commands_of more)) (rig_steps tail g) (takes_behind i j more parts.0) (steps_behind i j tail g parts.1) in
    let takes_f = takes_rig h.board (commands_of f) in
    let board : (stands_after first (later ++ t ∷ past)).core.board ≡ rig_after_all (Takes stop ∷ steps) r =
    ap (λ (y : Core). y.board) last ∙ steps_board all h ∙ ap (λ (y : List RigStep). rig_after_all y h.board) rigs ∙ after_both (map Takes (commands_of f)) (Takes stop ∷ steps) h.board ∙ ap (rig_after_all (Takes stop ∷ steps)) takes_f in
    let made : (stands_after first (later ++ t ∷ past)).core.made ≡ h.made ++ all_made (Takes stop ∷ steps) r =
    ap (λ (y : Core). y.made) last ∙ steps_made all h ∙ ap (λ (y : List RigStep). h.made ++ all_made y h.board) rigs
    ∙ ap (λ (ps : List Pulse). h.made ++ ps) (made_both (map Takes (commands_of f)) (Takes stop ∷ steps) h.board ∙ ap (λ (ps : List Pulse). ps ++ all_made (Takes stop ∷ steps) (rig_after_all (map Takes (commands_of f)) h.board)) (takes_none h.board (commands_of f))
    ∙ ap (all_made (Takes stop ∷ steps)) takes_f) in
    (all_made (Takes stop ∷ steps) r, sym made, stops_by r steps i j s (has f two.1) free (subst (λ (y : Rig). slot_at y j ≡ Some s) board at) fired)
  where
    turns_at : (later : List BoardTurn) → AreBoardTurns clock first (later ++ t ∷ past) → IsTurn clock (length past) (orders t.control t.batch) (stands_after first past) t.after
    turns_at [] are = are.0.0
    turns_at (u ∷ later) are = turns_at later are.1
