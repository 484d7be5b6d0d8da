-- What comes to the host of triggers that readings triggered, over a line that may lose, repeat, delay and garble blocks and replies.
use Rattle.std.proofs.Common.{◌≡◌, ℕ, ◌+◌, ◌<◌, ◌≤◌, Bool, List, [], ◌∷◌, ◌++◌, length, map, Option, Some, None, refl, ap, sym, subst, arith}
use Rattle.laws_board.proofs.Names.{BoardClock, Level, BoardDef, board_tick, clock_of, own_formats, Cmd, News, IsText, Entry, Down, Up, Reply, Meant, commands_of, Event, plain, units_orders, IsOrdered, Core, Step, Do, Turn, world_after, does, after_event, in_turn, run_world, new_world, takes_in, wire_text, queued_in, first_state, orders, LinkState, Orders, after_board, after_host, come}
use Rattle.msg_dict.specs.declared.row.Row.TheVariants as row
use Rattle.msg_code.specs.declared.cmd.Cmd.TheVariants as cmd
use Rattle.msg_code.specs.Table.{row_of}
use Rattle.wire_scene.specs.declared.wire.Fate.{Fate}
use Rattle.wire_scene.specs.declared.wire.Fate.TheVariants.{Lost, Last, Stays, Garbled}
use Rattle.link_core.specs.Core.{numbered}
use Rattle.board_world.specs.declared.event.Event.TheVariants as event
use Rattle.board_world.specs.Stands.{IsAnswer}
use Rattle.board_world.specs.World.{orders_of}
use Rattle.board_world.proofs.Runs.{ordered_by, ordered_turn, start_ordered}
use Rattle.link_work.specs.Told.{AreNews, before_replies, news_of}
use Rattle.link_work.specs.Turn.{after_replies, board_steps, comes, host_steps, resends, sends}
use Rattle.link_work.proofs.Steps.{AllOf, all_append, all_come, all_resent, all_sent}
use Rattle.laws_board.specs.turns.Turns.{AreBoardTurns, BoardTurn, stands_after}
use Rattle.laws_board.proofs.clocks.Answers.{Each}
use Rattle.laws_board.proofs.clocks.Links.{IsTurnAfter}
use Rattle.laws_board.proofs.clocks.Replies.{AllUp, up_by, up_come}
use Rattle.laws_board.proofs.clocks.Uptimes.{none_said}
use Rattle.laws_homing.proofs.home_runs.Firing.{left_by}
use Rattle.laws_homing.proofs.home_runs.Spelled.{same_kind, state_told}
use Rattle.laws_homing.specs.switch_runs.Reading.{AllTellTrue, AreFit, BringFit, IsFitReading, TellTrue, TellsOf, TellsTrue}
use Rattle.laws_homing.proofs.switch_runs.Firing.{AllTrue, Says, new_true, takes_true, time_true}

-- a reply that tells that readings triggered a trigger tells of such a tick
abbrev Tells : (ℕ → Type 0) → Reply → Type 0
Tells F r = (oid clock : ℕ) → IsText own_formats (cmd.TrsyncState oid 0 1 clock) r.answer → TellsOf F clock

-- the bytes of an answer of the board
by_row : (F : ℕ → Type 0) (oid clock : ℕ) (c : Cmd) → Says F c → row.TrsyncState ≡ row_of c → IsText own_formats (cmd.TrsyncState oid 0 1 clock) (wire_text c) → TellsOf F clock
by_row F oid clock (cmd.TrsyncState a b r k) s e t =
    let same = state_told a b r k oid 0 1 clock s.0 s.1 s.2 s.3 t in
    subst (λ (n : ℕ). TellsOf F n) (sym same.3) (s.4 (sym same.1) (sym same.2))
by_row F oid clock c s e t = absurd (cc)

tells_answers : (F : ℕ → Type 0) (n : ℕ) (cs : List Cmd) → Each (Says F) cs → AllUp (Tells F) (numbered n (map wire_text cs))
tells_answers F n [] k = tt
tells_answers F n (c ∷ cs) k = (λ oid clock t. by_row F oid clock c k.0 (same_kind c (cmd.TrsyncState oid 0 1 clock) t) t, tells_answers F n cs k.1)

-- the replies behind an event
tells_by : (F : ℕ → Type 0) (h : Core) (e : Event) → Each (Says F) (does h e).answers → AllUp (Tells F) h.link.up → AllUp (Tells F) (after_event h e).link.up
tells_by F h e t k = up_by (Tells F) h e (λ n oid clock none. absurd (none_said (cmd.TrsyncState oid 0 1 clock) none)) (λ n is. tells_answers F n (does h e).answers t) k

-- commands that are fit
fit_both : (E : ℕ → (ℕ → Type 0)) (G : ℕ → (ℕ → Type 0)) (pins : List (List Level)) (xs ys : List Meant) → AreFit E G pins xs → AreFit E G pins ys → AreFit E G pins (xs ++ ys)
fit_both E G pins [] ys a b = b
fit_both E G pins (x ∷ xs) ys a b = (a.0, fit_both E G pins xs ys a.1 b)

pub fit_parts : (E : ℕ → (ℕ → Type 0)) (G : ℕ → (ℕ → Type 0)) (pins : List (List Level)) (xs ys : List Meant) → AreFit E G pins (xs ++ ys) → AreFit E G pins xs × AreFit E G pins ys
fit_parts E G pins [] ys a = (tt, a)
fit_parts E G pins (x ∷ xs) ys a = let p = fit_parts E G pins xs ys a.1 in ((a.0, p.0), p.1)

pub fit_each : (E : ℕ → (ℕ → Type 0)) (G : ℕ → (ℕ → Type 0)) (pins : List (List Level)) (xs : List Meant) → AreFit E G pins xs → Each (IsFitReading E G pins) (commands_of xs)
fit_each E G pins [] a = tt
fit_each E G pins (x ∷ xs) a = (a.0, fit_each E G pins xs a.1)

-- where an event runs the board on to a tick, what readings in G complete before it is in F
abbrev pub InTime : (ℕ → Type 0) → (ℕ → Type 0) → Event → Type 0
InTime F G (event.Pass t) = (x : ℕ) → x < t → G x → F x
InTime F G e = Unit {0}

-- so the ticks to which some turns run it on
abbrev pub AllInTime : (ℕ → Type 0) → (ℕ → Type 0) → BoardClock → List BoardTurn → Type 0
AllInTime F G clock turns = (k : ℕ) → k ≤ length turns → InTime F G (event.Pass (board_tick clock k))

-- what the board does and says in an event
board_by : (E : ℕ → (ℕ → Type 0)) (F G : ℕ → Type 0) (pins : List (List Level)) (h : Core) (e : Event) → InTime F G e → Each (IsFitReading E (λ n. G) pins) (commands_of (takes_in h e)) → AllTrue E F G pins h.board
    → AllTrue E F G pins (does h e).board × Each (Says F) (does h e).answers
board_by E F G pins h (event.Pass t) soon fit k = time_true E F G pins h.board t soon k
board_by E F G pins h event.Arrive soon fit k = takes_true E F G (λ n. G) pins h.board (commands_of (takes_in h event.Arrive)) (λ x y. y) fit k
board_by E F G pins h event.Repeat soon fit k = takes_true E F G (λ n. G) pins h.board (commands_of (takes_in h event.Repeat)) (λ x y. y) fit k
board_by E F G pins h c soon fit k = (k, tt)

-- a link on which this goes well: the board's triggers are true, and what is queued and not taken is fit
pub record Keeps (E : ℕ → (ℕ → Type 0)) (F G : ℕ → Type 0) (pins : List (List Level)) (h : Core) : Type 0 where
  pub ordered : IsOrdered h
  pub board : AllTrue E F G pins h.board
  pub left : List Meant
  pub rest : h.taken ++ left ≡ h.queued
  pub fit : AreFit E (λ n. G) pins left

-- what a step queues is fit, and it runs the board on in time
abbrev pub Brings : (ℕ → (ℕ → Type 0)) → (ℕ → Type 0) → (ℕ → Type 0) → List (List Level) → Step → Type 0
Brings E F G pins (Do e) = AreFit E (λ n. G) pins (orders_of e) × InTime F G e
Brings E F G pins (Turn turn) = Unit {0}

-- such an event keeps the link so, what is taken in it is fit, and what the board says in it is true
pub keeps_by : (E : ℕ → (ℕ → Type 0)) (F G : ℕ → Type 0) (pins : List (List Level)) (h : Core) (e : Event) → Brings E F G pins (Do e) → Keeps E F G pins h
    → Keeps E F G pins (after_event h e) × AreFit E (λ n. G) pins (takes_in h e) × Each (Says F) (does h e).answers
keeps_by E F G pins h e brings k =
    let o = ordered_by h e k.ordered in
    let l = left_by h e k.left o k.rest in
    let both = fit_parts E (λ n. G) pins (takes_in h e) l.0 (subst (λ (x : List Meant). AreFit E (λ n. G) pins x) (sym l.1) (fit_both E (λ n. G) pins k.left (orders_of e) k.fit brings.0)) in
    let done = board_by E F G pins h e brings.1 (fit_each E (λ n. G) pins (takes_in h e) both.0) k.board in
    (record { ordered = o; board = done.0; left = l.0; rest = l.2; fit = both.1 }, both.0, done.1)

pub keeps_turn : (E : ℕ → (ℕ → Type 0)) (F G : ℕ → Type 0) (pins : List (List Level)) (h : Core) (turn : ℕ) → Keeps E F G pins h → Keeps E F G pins (in_turn h turn)
keeps_turn E F G pins h turn k = record { ordered = ordered_turn h turn k.ordered; board = k.board; left = k.left; rest = k.rest; fit = k.fit }

pub keeps_step : (E : ℕ → (ℕ → Type 0)) (F G : ℕ → Type 0) (pins : List (List Level)) (h : Core) (s : Step) → Brings E F G pins s → Keeps E F G pins h → Keeps E F G pins (world_after h s)
keeps_step E F G pins h (Do e) b k = (keeps_by E F G pins h e b k).0
keeps_step E F G pins h (Turn turn) b k = keeps_turn E F G pins h turn k

-- and what is under way up and tells that readings triggered a trigger tells of a tick in F
record Stands (E : ℕ → (ℕ → Type 0)) (F G : ℕ → Type 0) (pins : List (List Level)) (h : Core) : Type 0 where
  keeps : Keeps E F G pins h
  told : AllUp (Tells F) h.link.up

stands_step : (E : ℕ → (ℕ → Type 0)) (F G : ℕ → Type 0) (pins : List (List Level)) (h : Core) (s : Step) → Brings E F G pins s → Stands E F G pins h → Stands E F G pins (world_after h s)
stands_step E F G pins h (Do e) b k = let one = keeps_by E F G pins h e b k.keeps in record { keeps = one.0; told = tells_by F h e one.2 k.told }
stands_step E F G pins h (Turn turn) b k = record { keeps = keeps_turn E F G pins h turn k.keeps; told = k.told }

-- what each step keeps, some steps keep
along : (P : Step → Type 0) (Q : Core → Type 0) → ((h : Core) (s : Step) → P s → Q h → Q (world_after h s)) → (steps : List Step) (h : Core) → AllOf P steps → Q h → Q (run_world steps h)
along P Q keep [] h b q = q
along P Q keep (s ∷ steps) h b q = along P Q keep steps (world_after h s) b.1 (keep h s b.0 q)

-- the steps of a turn queue what is ordered in it
host_brings : (E : ℕ → (ℕ → Type 0)) (F G : ℕ → Type 0) (pins : List (List Level)) (turn : ℕ) (o : Orders) (resent : Bool) → AreFit E (λ n. G) pins (queued_in o) → AllOf (Brings E F G pins) (host_steps turn o resent)
host_brings E F G pins turn o resent fit =
    let both = fit_parts E (λ n. G) pins (map plain o.control.commands) (units_orders o.batch.units) fit in
    let P : Step → Type 0 = Brings E F G pins in
    (tt, ((both.0, tt), ((both.1, tt), all_append P (resends resent) (sends 12) (all_resent P (tt, tt) resent) (all_sent P (tt, tt) 12))))

down_brings : (E : ℕ → (ℕ → Type 0)) (F G : ℕ → Type 0) (pins : List (List Level)) (fate : Fate) → AllOf (Brings E F G pins) (comes Down fate)
down_brings E F G pins Stays = ((tt, tt), ((tt, tt), tt))
down_brings E F G pins c = ((tt, tt), tt)

up_brings : (E : ℕ → (ℕ → Type 0)) (F G : ℕ → Type 0) (pins : List (List Level)) (fate : Fate) → AllOf (Brings E F G pins) (comes Up fate)
up_brings E F G pins Last = ((tt, tt), ((tt, tt), tt))
up_brings E F G pins Stays = ((tt, tt), ((tt, tt), ((tt, tt), tt)))
up_brings E F G pins c = ((tt, tt), tt)

-- what each step keeps, a turn keeps, up to its replies and behind them
turn_parts : (E : ℕ → (ℕ → Type 0)) (F G : ℕ → Type 0) (pins : List (List Level)) (Q : Core → Type 0) → ((h : Core) (s : Step) → Brings E F G pins s → Q h → Q (world_after h s))
    → (clock : BoardClock) (turn : ℕ) (o : Orders) (resent : Bool) (l l1 l2 l3 : LinkState) → l1 ≡ after_host turn o resent l → l2 ≡ after_board clock turn l1 → l3 ≡ after_replies turn l2
    → InTime F G (event.Pass (board_tick clock (turn + 1))) → AreFit E (λ n. G) pins (queued_in o) → Q l.core → Q l2.core × Q l3.core
turn_parts E F G pins Q keep clock turn o resent l l1 l2 l3 e1 e2 e3 soon fit q =
    let P : Step → Type 0 = Brings E F G pins in
    let host = host_steps turn o resent in
    let down = board_steps clock turn l1.down.copies in
    let up = come Up turn l2.up.copies in
    let c1 : l1.core ≡ run_world host l.core = ap (λ (x : LinkState). x.core) e1 in
    let c2 : l2.core ≡ run_world down l1.core = ap (λ (x : LinkState). x.core) e2 in
    let c3 : l3.core ≡ run_world up l2.core = ap (λ (x : LinkState). x.core) e3 in
    let q1 : Q l1.core = subst Q (sym c1) (along P Q keep host l.core (host_brings E F G pins turn o resent fit) q) in
    let downs = all_append P (come Down turn l1.down.copies) (Do (event.Pass (board_tick clock (turn + 1))) ∷ []) (all_come P Down (down_brings E F G pins) turn l1.down.copies) ((tt, soon), tt) in
    let q2 : Q l2.core = subst Q (sym c2) (along P Q keep down l1.core downs q1) in
    (q2, subst Q (sym c3) (along P Q keep up l2.core (all_come P Up (up_brings E F G pins) turn l2.up.copies) q2))

pub turn_keeps : (E : ℕ → (ℕ → Type 0)) (F G : ℕ → Type 0) (pins : List (List Level)) (Q : Core → Type 0) → ((h : Core) (s : Step) → Brings E F G pins s → Q h → Q (world_after h s))
    → (clock : BoardClock) (first : LinkState) (t : BoardTurn) (before : List BoardTurn) (x : IsTurnAfter clock first t before)
    → InTime F G (event.Pass (board_tick clock (length before + 1))) → AreFit E (λ n. G) pins (queued_in (orders t.control t.batch)) → Q (stands_after first before).core
    → Q (before_replies clock (length before) (orders t.control t.batch) x.0.resent (stands_after first before)).core × Q t.after.core
turn_keeps E F G pins Q keep clock first t before x soon fit q =
    let turn = length before in
    let o = orders t.control t.batch in
    let l = stands_after first before in
    let l1 = after_host turn o x.0.resent l in
    turn_parts E F G pins Q keep clock turn o x.0.resent l l1 (after_board clock turn l1) t.after refl refl x.0.becomes soon fit q

-- the news of replies
answer_true : (F : ℕ → Type 0) (r : Reply) (c : Cmd) → Tells F r → IsText own_formats c r.answer → TellsTrue F c
answer_true F r (cmd.TrsyncState oid can reason clock) k t =
    λ none read. k oid clock (subst (λ (n : ℕ). IsText own_formats (cmd.TrsyncState oid 0 n clock) r.answer) read (subst (λ (n : ℕ). IsText own_formats (cmd.TrsyncState oid n reason clock) r.answer) none t))
answer_true F r c k t = tt

first_true : (F : ℕ → Type 0) (r : Reply) (o : Option Cmd) (rest : List News) → Tells F r → IsAnswer r o → TellTrue F rest → TellTrue F (news_of r o ++ rest)
first_true F r None rest k a t = t
first_true F r (Some c) rest k a t = (answer_true F r c k ((a c).0 refl), t)

news_true : (F : ℕ → Type 0) (rs : List Reply) (news : List News) → AreNews rs news → AllUp (Tells F) rs → TellTrue F news
news_true F [] news are k = subst (λ (x : List News). TellTrue F x) (sym are) tt
news_true F (r ∷ rs) news are k = subst (λ (x : List News). TellTrue F x) (sym are.4) (first_true F r are.0 are.1 k.0 are.2 (news_true F rs are.1 are.3 k.1))

-- a link on which nothing was sent
pub start_keeps : (E : ℕ → (ℕ → Type 0)) (F G : ℕ → Type 0) (b : BoardDef) (pins : List (List Level)) → Keeps E F G pins (new_world b pins)
start_keeps E F G b pins = record { ordered = start_ordered b pins; board = new_true E F G pins b; left = []; rest = refl; fit = tt }

-- the link stands so behind any turns that bring fit commands, and what is told in them is true
stands_tell : (E : ℕ → (ℕ → Type 0)) (F G : ℕ → Type 0) (b : BoardDef) (pins : List (List Level)) (board : ℕ) (entries : List Entry) (turns : List BoardTurn)
    → AreBoardTurns (clock_of b) (first_state b pins board entries) turns → BringFit E (λ n. G) pins turns → AllInTime F G (clock_of b) turns
    → Stands E F G pins (stands_after (first_state b pins board entries) turns).core × AllTellTrue F turns
stands_tell E F G b pins board entries [] are fit soon = (record { keeps = start_keeps E F G b pins; told = tt }, tt)
stands_tell E F G b pins board entries (t ∷ before) are fit soon =
    let clock = clock_of b in
    let first = first_state b pins board entries in
    let turn = length before in
    let l2 = before_replies clock turn (orders t.control t.batch) are.0.0.resent (stands_after first before) in
    let old = stands_tell E F G b pins board entries before are.1 fit.1 (λ k l. soon k (omega (arith, l))) in
    let done = turn_keeps E F G pins (Stands E F G pins) (stands_step E F G pins) clock first t before are.0 (soon (turn + 1) (omega arith)) fit.0 old.0 in
    (done.1, (news_true F _ t.state.news are.0.1.news (up_come (Tells F) turn l2.up.copies l2.core done.0.told).0, old.1))

-- Where commands are fit, whatever comes to the host that tells that readings triggered a trigger tells of a tick of complete readings.
pub all_true : (E : ℕ → (ℕ → Type 0)) (F : ℕ → Type 0) (b : BoardDef) (pins : List (List Level)) (board : ℕ) (entries : List Entry) (turns : List BoardTurn)
    → AreBoardTurns (clock_of b) (first_state b pins board entries) turns → BringFit E (λ n. F) pins turns → AllTellTrue F turns
all_true E F b pins board entries turns are fit = (stands_tell E F F b pins board entries turns are fit (λ k l x early complete. complete)).1
