-- When further clock lines are told: a drifting board is asked in each thousandth turn behind connecting.
use Rattle.std.proofs.Common.{◌≡◌, ℕ, suc, ◌+◌, ◌<◌, ◌≤◌, ◌⊎◌, inl, inr, Bool, true, false, cond, List, [], ◌∷◌, ◌++◌, drop, length, Option, Some, None, refl, ap, sym, ◌∙◌, subst, arith, rules}
use Rattle.std.specs.Prelude.{◌%◌, ◌==◌, ◌&&◌, not}
use Rattle.laws_board.proofs.Names.{eqb-true, BoardDef, Machine, Line, Clocks, board_at, Cmd, News, State, Switch, Asking, Stage, Identify, Uptime, Configure, Config, Connected, Setup, is_question_due, ready, all_connected, listen_all, ready_all, asks_now, drifts, waits_in, configuration, HomingTurn, homing_turn, Known, Phase, Connecting, Stopping, noted, Reacted, homing_commands, Came, GoesOn, known_by, last_reacted}
use Rattle.msg_code.specs.declared.cmd.Cmd.TheVariants as cmd
use Rattle.msg_code.specs.declared.talk.WordNews.{WordNews}
use Rattle.msg_code.specs.declared.talk.WordNews.TheVariants as word
use Rattle.board_asking.specs.Asking.{after_asks, after_clock, after_drift, after_piece, answered, asked, hears_first, is_connected, is_in_time, is_out, is_over, listens, more, or_asking, ready_stage, sample_of, settled, tells_clock, was_put, were_put}
use Rattle.board_asking.specs.Connecting.{ask_all, board_line}
use Rattle.board_asking.specs.Drift.{after_question, is_asked_now, is_unanswered, new_lines, waiting}
use Rattle.host_reactor.specs.declared.ordered.Phase.TheVariants.{Running}
use Rattle.host_reactor.specs.Reactor.{homed, new_askings, phase_after, run_askings}
use Rattle.host_reactor.specs.Rows.{HasEachBoard}
use Rattle.host_reactor.proofs.Rowing.{rowed, whole-first}
use Rattle.laws_board.proofs.clocks.Lines.{noted_askings, noted_phase}
use Rattle.laws_board.proofs.clocks.Turning.{Goes, goes}
use Rattle.motion_work.specs.Further.{WasHeard}
use Rattle.motion_work.specs.Told.{lines_in}
use Rattle.plan_types.proofs.Facts.{first_of_both, second_of_both}

abbrev Each : (Asking → Type 0) → List Asking → Type 0
Each P [] = Unit {0}
Each P (a ∷ askings) = P a × Each P askings

-- While boards connect none waits to be asked for its clock, and no asking is out once a board is connected.
abbrev Rests : Asking → Type 0
Rests a = (a.waits ≡ false) × (is_connected a.stage ≡ true → a.since ≡ None)

-- behind connecting a board waits, or its asking is out, in the thousandth turn or later
abbrev IsLate : ℕ → Asking → Type 0
IsLate k a = (1_000 ≤ k) ⊎ ((a.since ≡ None) × (a.waits ≡ false))

-- what the boards tell takes back an asking, or leaves it
record IsHeard (a b : Asking) : Type 0 where
  waits : b.waits ≡ a.waits
  since : (b.since ≡ None) ⊎ ((b.since ≡ a.since) × (is_connected b.stage ≡ is_connected a.stage))

heard_same : (a : Asking) → IsHeard a a
heard_same a = record { waits = refl; since = inr (refl, refl) }

heard_then : (a b c : Asking) → IsHeard a b → IsHeard b c → IsHeard a c
heard_then a b c i j = record { waits = j.waits ∙ i.waits; since = by i.since j.since }
  where
    by : (b.since ≡ None) ⊎ ((b.since ≡ a.since) × (is_connected b.stage ≡ is_connected a.stage)) → (c.since ≡ None) ⊎ ((c.since ≡ b.since) × (is_connected c.stage ≡ is_connected b.stage))
        → (c.since ≡ None) ⊎ ((c.since ≡ a.since) × (is_connected c.stage ≡ is_connected a.stage))
    by x (inl n) = inl n
    by (inl n) (inr e) = inl (e.0 ∙ n)
    by (inr d) (inr e) = inr (e.0 ∙ d.0, e.1 ∙ d.1)

rests_heard : (a b : Asking) → IsHeard a b → Rests a → Rests b
rests_heard a b i r = (i.waits ∙ r.0, by i.since)
  where
    by : (b.since ≡ None) ⊎ ((b.since ≡ a.since) × (is_connected b.stage ≡ is_connected a.stage)) → is_connected b.stage ≡ true → b.since ≡ None
    by (inl n) c = n
    by (inr e) c = e.0 ∙ r.1 (sym e.1 ∙ c)

late_heard : (k : ℕ) (a b : Asking) → IsHeard a b → IsLate k a → IsLate k b
late_heard k a b i (inl l) = inl l
late_heard k a b i (inr r) = inr (by i.since, i.waits ∙ r.1)
  where
    by : (b.since ≡ None) ⊎ ((b.since ≡ a.since) × (is_connected b.stage ≡ is_connected a.stage)) → b.since ≡ None
    by (inl n) = n
    by (inr e) = e.0 ∙ r.0

put_heard : (turn : ℕ) (ns : List ℕ) (a : Asking) → IsHeard a (were_put turn ns a)
put_heard turn [] a = heard_same a
put_heard turn (n ∷ ns) a =
    let i = put_heard turn ns (was_put turn a n) in
    record { waits = i.waits; since = i.since }

-- an answer takes it back
abbrev IfHeard : Asking → Option Asking → Type 0
IfHeard a None = Unit {0}
IfHeard a (Some b) = (b.waits ≡ a.waits) × (b.since ≡ None)

if_heard : (t : Bool) (a b : Asking) → b.waits ≡ a.waits → b.since ≡ None → IfHeard a (cond t (Some b) None)
if_heard true a b e f = (e, f)
if_heard false a b e f = tt

answer_heard : (turn : ℕ) (a : Asking) (stage : Stage) (number : ℕ) (c : Cmd) → IfHeard a (answered turn a stage number c)
answer_heard turn a stage number c = search (rules, if_heard)

or_heard : (a : Asking) (o : Option Asking) (b : Asking) → IfHeard a o → IsHeard a b → IsHeard a (or_asking o b)
or_heard a None b s i = i
or_heard a (Some c) b s i = record { waits = s.0; since = inl s.1 }

news_heard : (turn : ℕ) (ns : List News) (a : Asking) → IsHeard a (hears_first turn ns a)
news_heard turn [] a = heard_same a
news_heard turn (n ∷ ns) a = or_heard a (answered turn a a.stage n.number n.answer) (hears_first turn ns a) (answer_heard turn a a.stage n.number n.answer) (news_heard turn ns a)

either_heard : (t : Bool) (a b c : Asking) → IsHeard a b → IsHeard a c → IsHeard a (cond t b c)
either_heard true a b c i j = i
either_heard false a b c i j = j

state_heard : (a : Asking) (s : State) → IsHeard a (listens a s)
state_heard a s = search (rules, put_heard, either_heard, heard_then, news_heard)

stage_ready : (setups : List Setup) (stage : Stage) → is_connected (ready_stage setups stage) ≡ is_connected stage
stage_ready setups (Configure n) = by (is_over (drop n setups))
  where
    by : (t : Bool) → is_connected (cond t Config (Configure n)) ≡ false
    by true = refl
    by false = refl
stage_ready setups c = refl

ready_heard : (setups : List Setup) (a : Asking) → IsHeard a (ready setups a)
ready_heard setups a = record { waits = refl; since = inr (refl, stage_ready setups a.stage) }

all_listen : (P : Asking → Type 0) → ((a b : Asking) → IsHeard a b → P a → P b) → (askings : List Asking) (states : List State) → Each P askings → Each P (listen_all askings states)
all_listen P f [] states e = tt
all_listen P f (a ∷ askings) [] e = (e.0, all_listen P f askings [] e.1)
all_listen P f (a ∷ askings) (s ∷ states) e = (f a (listens a s) (state_heard a s) e.0, all_listen P f askings states e.1)

all_ready : (P : Asking → Type 0) → ((a b : Asking) → IsHeard a b → P a → P b) → (m : Machine) (b : ℕ) (askings : List Asking) → Each P askings → Each P (ready_all m b askings)
all_ready P f m b [] e = tt
all_ready P f m b (a ∷ askings) e = (f a (ready (configuration m b) a) (ready_heard (configuration m b) a) e.0, all_ready P f m (b + 1) askings e.1)

-- connecting: a board is asked
unless_due : (t : Bool) (k : ℕ) (a : Asking) → is_connected a.stage ≡ false → Rests a → Rests (cond t (asked k a) a)
unless_due true k a n r = (r.0, λ c. cc)
unless_due false k a n r = r

asks_rest : (setups : List Setup) (k : ℕ) (a : Asking) (stage : Stage) → a.stage ≡ stage → Rests a → Rests (after_asks setups k a stage)
asks_rest setups k a (Configure n) e r = (r.0, λ c. cc)
asks_rest setups k a Connected e r = r
asks_rest setups k a c e r = unless_due (is_question_due k a.since) k a (ap is_connected e) r

all_asked : (m : Machine) (k b : ℕ) (askings : List Asking) → Each Rests askings → Each Rests (ask_all m k b askings)
all_asked m k b [] e = tt
all_asked m k b (a ∷ askings) e = (asks_rest (configuration m b) k a a.stage refl e.0, all_asked m k (b + 1) askings e.1)

new_rest : (boards : List BoardDef) → Each Rests (new_askings boards)
new_rest [] = tt
new_rest (b ∷ boards) = ((refl, λ c. refl), new_rest boards)

all_late : (k : ℕ) (askings : List Asking) → all_connected askings ≡ true → Each Rests askings → Each (IsLate k) askings
all_late k [] c e = tt
all_late k (a ∷ askings) c e =
    (inr (e.0.1 (first_of_both (is_connected a.stage) (all_connected askings) c), e.0.0), all_late k askings (second_of_both (is_connected a.stage) (all_connected askings) c) e.1)

-- a running turn
thousandth : (drifting : Bool) (k : ℕ) (since : Option ℕ) → 1 ≤ k → is_asked_now drifting k since ≡ true → 1_000 ≤ k
thousandth drifting k since some e = search (rules, second_of_both, eqb-true)

waits_late : (drifting : Bool) (k : ℕ) (a : Asking) → 1 ≤ k → IsLate k a → IsLate k (waits_in drifting k a)
waits_late drifting k a p3 p4 = search (rules, thousandth)

all_wait : (m : Machine) (k b : ℕ) (askings : List Asking) → 1 ≤ k → Each (IsLate k) askings → Each (IsLate k) (waiting m k b askings)
all_wait m k b [] some e = tt
all_wait m k b (a ∷ askings) some e = (waits_late (drifts (board_at m b).drift) k a some e.0, all_wait m k (b + 1) askings some e.1)

late_more : (k : ℕ) (a : Asking) → IsLate k a → IsLate (suc k) a
late_more k a (inl l) = inl (omega (arith, l))
late_more k a (inr r) = inr r

question_late : (k : ℕ) (commands : List Cmd) (a : Asking) → IsLate k a → IsLate (suc k) (after_question k commands a)
question_late k commands a p3 = search (rules, asks_now, first_of_both)

all_run : (m : Machine) (k b : ℕ) (turn : HomingTurn) (clocks : List Clocks) (askings : List Asking) → Each (IsLate k) askings → Each (IsLate (suc k)) (run_askings m k b turn clocks askings)
all_run m k b turn clocks [] e = tt
all_run m k b turn [] (a ∷ askings) e = (late_more k a e.0, all_run m k b turn [] askings e.1)
all_run m k b turn (c ∷ clocks) (a ∷ askings) e = (question_late k (homing_commands m turn c b) a e.0, all_run m k (b + 1) turn clocks askings e.1)

-- what holds of the askings as turn k begins
abbrev Stand : Phase → ℕ → List Asking → Type 0
Stand Connecting k askings = Each Rests askings
Stand Running k askings = (1 ≤ k) × Each (IsLate k) askings
Stand (Stopping line) k askings = Unit {0}

abbrev StandIn : ℕ → Known → Type 0
StandIn k r = Stand r.phase k r.askings.items

stops_on : (stop : Option ℕ) (k : ℕ) (askings : List Asking) → Each (IsLate (suc k)) askings → Stand (phase_after stop) (suc k) askings
stops_on None k askings e = (omega arith, e)
stops_on (Some line) k askings e = tt

stand_on : (m : Machine) (r : Known) (k : ℕ) (states : List State) (x : Reacted) → StandIn k r → Goes m r k states x → StandIn (suc k) x.known
stand_on m r k states x s (inl a) =
    let was : Each Rests r.askings.items = subst (λ p. Stand p k r.askings.items) a.phase s in
    let ready = all_ready Rests rests_heard m 0 (listen_all r.askings.items states) (all_listen Rests rests_heard r.askings.items states was) in
    let now = all_asked m k 0 (ready_all m 0 (listen_all r.askings.items states)) ready in
    subst (λ (y : Reacted). StandIn (suc k) y.known) (sym a.is) (subst (λ p. Stand p (suc k) (ask_all m k 0 (ready_all m 0 (listen_all r.askings.items states)))) (sym a.phase) now)
stand_on m r k states x s (inr (inl a)) =
    let was : Each Rests r.askings.items = subst (λ p. Stand p k r.askings.items) a.phase s in
    let ready = all_ready Rests rests_heard m 0 (listen_all r.askings.items states) (all_listen Rests rests_heard r.askings.items states was) in
    subst (λ (y : Reacted). StandIn (suc k) y.known) (sym a.is) (omega arith, all_late (suc k) (ready_all m 0 (listen_all r.askings.items states)) a.all ready)
stand_on m r k states x s (inr (inr a)) =
    let was : (1 ≤ k) × Each (IsLate k) r.askings.items = subst (λ p. Stand p k r.askings.items) a.phase s in
    let heard = all_listen (IsLate k) (late_heard k) r.askings.items states was.1 in
    let turn = homing_turn r.clocks k states r.homing in
    let now = all_run m k 0 turn r.clocks (waiting m k 0 (listen_all r.askings.items states)) (all_wait m k 0 (listen_all r.askings.items states) was.0 heard) in
    subst (λ (y : Reacted). StandIn (suc k) y.known) (sym a.is) (stops_on a.stop k (run_askings m k 0 turn r.clocks (waiting m k 0 (listen_all r.askings.items states))) now)

stand_noted : (m : Machine) (c : Came) (r : Known) (k : ℕ) → StandIn k r → StandIn k (noted m c.note r)
stand_noted m c r k s =
    let one : Stand (noted m c.note r).phase k r.askings.items = subst (λ p. Stand p k r.askings.items) (sym (noted_phase m c.note r)) s in
    subst (λ l. Stand (noted m c.note r).phase k l) (sym (ap (λ y. y.items) (noted_askings m c.note r))) one

stand_by : (m : Machine) (switches : List Switch) (came : List Came) → GoesOn m switches came → StandIn (length came) (known_by m switches came)
stand_by m switches [] g = new_rest m.boards
stand_by m switches (c ∷ before) g =
    let r = known_by m switches before in
    stand_on m (noted m c.note r) (length before) c.states (last_reacted m switches c before) (stand_noted m c r (length before) (stand_by m switches before g.1))
    (goes m switches r (length before) c.states c.note g.0)

-- there is an asking for each board
pub whole_by : (m : Machine) (switches : List Switch) (came : List Came) → HasEachBoard m (known_by m switches came)
whole_by m switches [] = whole-first m
whole_by m switches (c ∷ before) = (rowed m switches (known_by m switches before) (length before) c.states c.note (whole_by m switches before)).whole

-- what a word tells
out_late : (k : ℕ) (a : Asking) (b : Bool) → IsLate k a → (is_out a.since && b) ≡ true → 1_000 ≤ k
out_late k a b p3 p4 = search (rules, first_of_both)

told_late : (m : Machine) (b k : ℕ) (before after : List Asking) (board : ℕ) (line : Line) → Each (IsLate k) before → WasHeard board line (lines_in (new_lines m b before after)) → (1_000 ≤ k) × (board < b + length before)
told_late m b k [] after board line e h = absurd h
told_late m b k (a ∷ before) [] board line e h = absurd h
told_late m b k (a ∷ before) (c ∷ after) board line e h =
    by (is_out a.since && not (is_out c.since)) refl h (λ i. let x = told_late m (b + 1) k before after board line e.1 i in let few = x.1 in (x.0, omega (arith, few)))
  where
    by : (t : Bool) → (is_out a.since && not (is_out c.since)) ≡ t → WasHeard board line (lines_in (cond t (word.Line b (board_line m b c) ∷ []) [] ++ new_lines m (b + 1) before after))
        → (WasHeard board line (lines_in (new_lines m (b + 1) before after)) → (1_000 ≤ k) × (board < b + length (a ∷ before))) → (1_000 ≤ k) × (board < b + length (a ∷ before))
    by true f (inl own) later = let at = own.0 in (out_late k a (not (is_out c.since)) e.0 f, omega (arith, at))
    by true f (inr i) later = later i
    by false f i later = later i

homed_lines : (cut : Option ℕ) (ns : List WordNews) → lines_in (homed cut ++ ns) ≡ lines_in ns
homed_lines None ns = refl
homed_lines (Some tick) ns = refl

turn_late : (m : Machine) (r : Known) (k : ℕ) (states : List State) (x : Reacted) (board : ℕ) (line : Line) → StandIn k r → Goes m r k states x → WasHeard board line (lines_in x.ordered.word.news)
    → (1_000 ≤ k) × (board < length r.askings.items)
turn_late m r k states x board line p7 p8 p9 = search (rules, homing_turn, told_late, listen_all, homed_lines)

pub asked_late : (m : Machine) (switches : List Switch) (c : Came) (before : List Came) → GoesOn m switches before → (last_reacted m switches c before).ordered.end ≡ None → (board : ℕ) (line : Line)
    → WasHeard board line (lines_in (last_reacted m switches c before).ordered.word.news) → (1_000 ≤ length before) × (board < length m.boards)
asked_late m switches c before g e board line h =
    let r = known_by m switches before in
    let k = length before in
    let late = turn_late m (noted m c.note r) k c.states (last_reacted m switches c before) board line (stand_noted m c r k (stand_by m switches before g)) (goes m switches r k c.states c.note e) h in
    let whole = (whole_by m switches before).askings in
    let same : length (noted m c.note r).askings.items ≡ length m.boards = ap (λ y. length y.items) (noted_askings m c.note r) ∙ whole in
    (late.0, subst (λ n. board < n) same late.1)
