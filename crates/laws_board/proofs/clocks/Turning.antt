-- What a turn of the reactor that doesn't end the run makes of one board.
use Rattle.std.proofs.Common.{◌≡◌, ℕ, zero, suc, ◌+◌, ◌<◌, ◌⊎◌, inl, inr, Bool, true, false, cond, List, [], ◌∷◌, ◌++◌, length, Option, Some, None, refl, ap, sym, ◌∙◌, subst, arith, rules}
use Rattle.std.specs.Prelude.{◌&&◌}
use Rattle.laws_board.proofs.Names.{Machine, BoardDef, Cause, Line, ReadStop, Clocks, one_line, axis_at, board_at, Cmd, Control, State, Note, ReportLine, Switch, Asking, configuration, ready, listen_all, ready_all, giving_up, all_connected, drifts, stale, waits_in, HomingTurn, homing_turn, Known, Phase, Connecting, Stopping, noted, news_of, is_out, first_lines, first_cause, stop_of, Reacted, homing_commands, stop_command, stops, cut_line, unless_stale, by_phase, unless_ended, reacts, state_at, both_parts}
use Rattle.plan_types.specs.declared.plan.ReadStop.TheVariants as read
use Rattle.msg_code.specs.declared.talk.WordNews.TheVariants as word
use Rattle.board_asking.specs.Asking.{new_asking, listens, asks, after_asks, is_connected}
use Rattle.board_asking.specs.Connecting.{control, asking_controls, ask_all, board_line, board_lines, one_line_clocks}
use Rattle.board_asking.specs.Drift.{waiting, after_question, new_lines}
use Rattle.host_reactor.specs.declared.ordered.Phase.TheVariants.{Running}
use Rattle.host_reactor.specs.Running.{is_finished}
use Rattle.host_reactor.specs.Reactor.{new_askings, plain_controls, asks_boards, is_connected_now, unless_given_up, run_control, run_controls, run_askings, homed, phase_after, carries_on, finishes, unless_homing_ends, after_homing, unless_late_stale}
use Rattle.laws_board.specs.turns.Turns.{control_at}
use Rattle.laws_board.specs.clocks.Samples.{line_at}

abbrev end_of : Reacted → Option Cause
end_of x = x.ordered.end

-- a turn that doesn't end the run: the boards are asked on, or connecting ends, or the run carries on
pub record AsksOn (m : Machine) (r : Known) (k : ℕ) (states : List State) (x : Reacted) : Type 0 where
  pub phase : r.phase ≡ Connecting
  pub lines : List ReportLine
  pub is : x ≡ asks_boards m r k lines (ready_all m 0 (listen_all r.askings.items states))

pub record Connects (m : Machine) (r : Known) (k : ℕ) (states : List State) (x : Reacted) : Type 0 where
  pub phase : r.phase ≡ Connecting
  pub all : all_connected (ready_all m 0 (listen_all r.askings.items states)) ≡ true
  pub lines : List ReportLine
  pub is : x ≡ is_connected_now m r k lines (ready_all m 0 (listen_all r.askings.items states))

pub record RunsOn (m : Machine) (r : Known) (k : ℕ) (states : List State) (x : Reacted) : Type 0 where
  pub phase : r.phase ≡ Running
  pub lines : List ReportLine
  pub stop : Option ℕ
  pub is : x ≡ carries_on m (after_homing r k states) k lines (listen_all r.askings.items states) (homing_turn r.clocks k states r.homing) stop

abbrev pub Goes : Machine → Known → ℕ → List State → Reacted → Type 0
Goes m r k states x = AsksOn m r k states x ⊎ Connects m r k states x ⊎ RunsOn m r k states x

asked_on : (b : Bool) (m : Machine) (r : Known) (k : ℕ) (states : List State) (lines : List ReportLine) → all_connected (ready_all m 0 (listen_all r.askings.items states)) ≡ b → r.phase ≡ Connecting
    → Goes m r k states (cond b (is_connected_now m r k lines (ready_all m 0 (listen_all r.askings.items states))) (asks_boards m r k lines (ready_all m 0 (listen_all r.askings.items states))))
asked_on true m r k states lines e p = inr (inl (record { phase = p; all = e; lines = lines; is = refl }))
asked_on false m r k states lines e p = inl (record { phase = p; lines = lines; is = refl })

given_on : (o : Option Cause) (m : Machine) (r : Known) (k : ℕ) (states : List State) (lines : List ReportLine) → r.phase ≡ Connecting
    → end_of (unless_given_up o m r k lines (ready_all m 0 (listen_all r.askings.items states))) ≡ None → Goes m r k states (unless_given_up o m r k lines (ready_all m 0 (listen_all r.askings.items states)))
given_on (Some cause) m r k states lines p h = cc
given_on None m r k states lines p h = asked_on (all_connected (ready_all m 0 (listen_all r.askings.items states))) m r k states lines refl p

abbrev Carried : Machine → Known → ℕ → List State → List Asking → HomingTurn → Reacted → Type 0
Carried m r k states askings turn x = (lines : List ReportLine) × (stop : Option ℕ) × (x ≡ carries_on m (after_homing r k states) k lines askings turn stop)

finished_on : (how : ReadStop) (m : Machine) (r : Known) (k : ℕ) (states : List State) (lines : List ReportLine) (askings : List Asking) (turn : HomingTurn)
    → end_of (finishes how m (after_homing r k states) k lines askings turn) ≡ None → Carried m r k states askings turn (finishes how m (after_homing r k states) k lines askings turn)
finished_on (read.Stop line) m r k states lines askings turn h = (lines, Some line, refl)
finished_on c m r k states lines askings turn h = cc

either_on : (b : Bool) (m : Machine) (r : Known) (k : ℕ) (states : List State) (askings : List Asking) (turn : HomingTurn) (x y : Reacted) → end_of (cond b x y) ≡ None
    → (end_of x ≡ None → Carried m r k states askings turn x) → Carried m r k states askings turn y → Carried m r k states askings turn (cond b x y)
either_on true m r k states askings turn x y h f g = f h
either_on false m r k states askings turn x y h f g = g

homed_on : (o : Option Cause) (m : Machine) (r : Known) (k : ℕ) (states : List State) (lines cut : List ReportLine) (askings : List Asking) (turn : HomingTurn)
    → end_of (unless_homing_ends o m (after_homing r k states) k states lines cut askings turn) ≡ None
    → Carried m r k states askings turn (unless_homing_ends o m (after_homing r k states) k states lines cut askings turn)
homed_on o m r k states lines cut askings turn p9 = search (rules, either_on, stop_of, finished_on)

stale_on : (o : Option Cause) (m : Machine) (switches : List Switch) (r : Known) (k : ℕ) (states : List State) (lines : List ReportLine) (askings : List Asking)
    → end_of (unless_stale o m switches r k states lines askings) ≡ None → Carried m r k states askings (homing_turn r.clocks k states r.homing) (unless_stale o m switches r k states lines askings)
stale_on o m switches r k states lines askings p8 = search (rules, homing_turn, homed_on, cut_line, axis_at)

late_on : (o : Option Cause) (m : Machine) (r : Known) (k : ℕ) (states : List State) (lines : List ReportLine) (line : ℕ) → end_of (unless_late_stale o m r k lines line) ≡ None → Goes m r k states (unless_late_stale o m r k lines line)
late_on (Some cause) m r k states lines line h = cc
late_on None m r k states lines line h = cc

phase_on : (p : Phase) (m : Machine) (switches : List Switch) (r : Known) (k : ℕ) (states : List State) (lines : List ReportLine) → r.phase ≡ p → end_of (by_phase p m switches r k states lines) ≡ None
    → Goes m r k states (by_phase p m switches r k states lines)
phase_on p m switches r k states lines p7 p8 = search (rules, given_on, giving_up, ready_all, listen_all, stale_on, stale, late_on)

ended_on : (o : Option Cause) (m : Machine) (switches : List Switch) (r : Known) (k : ℕ) (states : List State) (lines : List ReportLine) → end_of (unless_ended o m switches r k states lines) ≡ None
    → Goes m r k states (unless_ended o m switches r k states lines)
ended_on (Some cause) m switches r k states lines h = cc
ended_on None m switches r k states lines h = phase_on r.phase m switches r k states lines refl h

pub goes : (m : Machine) (switches : List Switch) (r : Known) (k : ℕ) (states : List State) (note : Option Note) → (reacts m switches r k states note).ordered.end ≡ None
    → Goes m (noted m note r) k states (reacts m switches r k states note)
goes m switches r k states note h =
    let s = noted m note r in
    ended_on (first_cause (is_out note) s.stopped states) m switches s k states (first_lines m s k (news_of note) states) h

-- the asking, the clock lines and the control of one board
abbrev pub asking_at : ℕ → List Asking → List Asking
asking_at b [] = []
asking_at zero (a ∷ askings) = a ∷ []
asking_at (suc b) (a ∷ askings) = asking_at b askings

abbrev pub clocks_at : ℕ → List Clocks → List Clocks
clocks_at b [] = []
clocks_at zero (c ∷ clocks) = c ∷ []
clocks_at (suc b) (c ∷ clocks) = clocks_at b clocks

-- an asking behind the state that came, where one came
abbrev pub heard_now : Asking → List State → Asking
heard_now a [] = a
heard_now a (s ∷ states) = listens a s

pub new_at : (b : ℕ) (boards : List BoardDef) → b < length boards → asking_at b (new_askings boards) ≡ new_asking ∷ []
new_at b [] l = absurd (omega arith)
new_at zero (d ∷ boards) l = refl
new_at (suc b) (d ∷ boards) l = new_at b boards (omega arith)

pub listen_at : (b : ℕ) (askings : List Asking) (states : List State) (a : Asking) → asking_at b askings ≡ a ∷ [] → asking_at b (listen_all askings states) ≡ heard_now a (state_at b states) ∷ []
listen_at b [] states a e = cc
listen_at zero (x ∷ askings) [] a e = e
listen_at zero (x ∷ askings) (s ∷ states) a e = let f : x ≡ a = cc in ap (λ (y : Asking). listens y s ∷ []) f
listen_at (suc b) (x ∷ askings) [] a e = listen_at b askings [] a e
listen_at (suc b) (x ∷ askings) (s ∷ states) a e = listen_at b askings states a e

pub ready_at : (m : Machine) (i b j : ℕ) (askings : List Asking) (a : Asking) → i + b ≡ j → asking_at b askings ≡ a ∷ [] → asking_at b (ready_all m i askings) ≡ ready (configuration m j) a ∷ []
ready_at m i b j [] a s e = cc
ready_at m i zero j (x ∷ askings) a s e = let f : x ≡ a = cc in let g : i ≡ j = omega arith in ap (λ (y : Asking). ready (configuration m i) y ∷ []) f ∙ ap (λ (n : ℕ). ready (configuration m n) a ∷ []) g
ready_at m i (suc b) j (x ∷ askings) a s e = ready_at m (i + 1) b j askings a (omega arith) e

ask_at : (m : Machine) (k i b j : ℕ) (askings : List Asking) (a : Asking) → i + b ≡ j → asking_at b askings ≡ a ∷ [] → asking_at b (ask_all m k i askings) ≡ after_asks (configuration m j) k a a.stage ∷ []
ask_at m k i b j [] a s e = cc
ask_at m k i zero j (x ∷ askings) a s e =
    let f : x ≡ a = cc in
    let g : i ≡ j = omega arith in
    ap (λ (y : Asking). after_asks (configuration m i) k y y.stage ∷ []) f ∙ ap (λ (n : ℕ). after_asks (configuration m n) k a a.stage ∷ []) g
ask_at m k i (suc b) j (x ∷ askings) a s e = ask_at m k (i + 1) b j askings a (omega arith) e

asking_control : (m : Machine) (k i b j : ℕ) (askings : List Asking) (a : Asking) → i + b ≡ j → asking_at b askings ≡ a ∷ []
    → control_at b (asking_controls m k i askings) ≡ control k (asks (configuration m j) k a a.stage) false false ∷ []
asking_control m k i b j [] a s e = cc
asking_control m k i zero j (x ∷ askings) a s e =
    let f : x ≡ a = cc in
    let g : i ≡ j = omega arith in
    ap (λ (y : Asking). control k (asks (configuration m i) k y y.stage) false false ∷ []) f ∙ ap (λ (n : ℕ). control k (asks (configuration m n) k a a.stage) false false ∷ []) g
asking_control m k i (suc b) j (x ∷ askings) a s e = asking_control m k (i + 1) b j askings a (omega arith) e

plain_control : (k b : ℕ) (commands : List Cmd) (connected end : Bool) (boards : List BoardDef) (c : Control) → control_at b (plain_controls k commands connected end boards) ≡ c ∷ [] → c ≡ control k commands connected end
plain_control k b commands connected end [] c e = cc
plain_control k zero commands connected end (d ∷ boards) c e = cc
plain_control k (suc b) commands connected end (d ∷ boards) c e = plain_control k b commands connected end boards c e

waiting_at : (m : Machine) (k i b j : ℕ) (askings : List Asking) (a : Asking) → i + b ≡ j → asking_at b askings ≡ a ∷ [] → asking_at b (waiting m k i askings) ≡ waits_in (drifts (board_at m j).drift) k a ∷ []
waiting_at m k i b j [] a s e = cc
waiting_at m k i zero j (x ∷ askings) a s e =
    let f : x ≡ a = cc in
    let g : i ≡ j = omega arith in
    ap (λ (y : Asking). waits_in (drifts (board_at m i).drift) k y ∷ []) f ∙ ap (λ (n : ℕ). waits_in (drifts (board_at m n).drift) k a ∷ []) g
waiting_at m k i (suc b) j (x ∷ askings) a s e = waiting_at m k (i + 1) b j askings a (omega arith) e

abbrev RunsSo : Machine → ℕ → ℕ → ℕ → HomingTurn → List Cmd → List Clocks → List Asking → Asking → Control → Type 0
RunsSo m k b j turn stop clocks askings a x = (c : Clocks) × (clocks_at b clocks ≡ c ∷ []) × (x ≡ run_control m k j turn stop c a)

none_runs : (m : Machine) (k i b : ℕ) (turn : HomingTurn) (stop : List Cmd) (askings : List Asking) (x : Control) → control_at b (run_controls m k i turn stop [] askings) ≡ x ∷ [] → ⊥
none_runs m k i b turn stop [] x e = cc
none_runs m k i b turn stop (a ∷ askings) x e = none_runs m k i b turn stop askings x e

running_control : (m : Machine) (k i b j : ℕ) (turn : HomingTurn) (stop : List Cmd) (clocks : List Clocks) (askings : List Asking) (a : Asking) (x : Control) → i + b ≡ j → asking_at b askings ≡ a ∷ []
    → control_at b (run_controls m k i turn stop clocks askings) ≡ x ∷ [] → RunsSo m k b j turn stop clocks askings a x
running_control m k i b j turn stop clocks [] a x s e h = cc
running_control m k i b j turn stop [] (y ∷ askings) a x s e h = absurd (none_runs m k i b turn stop (y ∷ askings) x h)
running_control m k i zero j turn stop (c ∷ clocks) (y ∷ askings) a x s e h =
    let f : y ≡ a = cc in
    let g : i ≡ j = omega arith in
    let here : run_control m k i turn stop c y ≡ x = cc in
    (c, refl, sym here ∙ ap (λ (z : Asking). run_control m k i turn stop c z) f ∙ ap (λ (n : ℕ). run_control m k n turn stop c a) g)
running_control m k i (suc b) j turn stop (c ∷ clocks) (y ∷ askings) a x s e h = running_control m k (i + 1) b j turn stop clocks askings a x (omega arith) e h

run_at : (m : Machine) (k i b j : ℕ) (turn : HomingTurn) (clocks : List Clocks) (askings : List Asking) (a : Asking) (c : Clocks) → i + b ≡ j → asking_at b askings ≡ a ∷ [] → clocks_at b clocks ≡ c ∷ []
    → asking_at b (run_askings m k i turn clocks askings) ≡ after_question k (homing_commands m turn c j) a ∷ []
run_at m k i b j turn clocks [] a c s e f = cc
run_at m k i b j turn [] (y ∷ askings) a c s e f = cc
run_at m k i zero j turn (d ∷ clocks) (y ∷ askings) a c s e f =
    let p : y ≡ a = cc in
    let q : d ≡ c = cc in
    let g : i ≡ j = omega arith in
    ap (λ (z : Asking). after_question k (homing_commands m turn d i) z ∷ []) p ∙ ap (λ (z : Clocks). after_question k (homing_commands m turn z i) a ∷ []) q
    ∙ ap (λ (n : ℕ). after_question k (homing_commands m turn c n) a ∷ []) g
run_at m k i (suc b) j turn (d ∷ clocks) (y ∷ askings) a c s e f = run_at m k (i + 1) b j turn clocks askings a c (omega arith) e f

lines_at : (m : Machine) (i b j : ℕ) (askings : List Asking) (a : Asking) → i + b ≡ j → asking_at b askings ≡ a ∷ [] → line_at b (board_lines m i askings) ≡ board_line m j a ∷ []
lines_at m i b j [] a s e = cc
lines_at m i zero j (x ∷ askings) a s e =
    let f : x ≡ a = cc in
    let g : i ≡ j = omega arith in
    ap (λ (y : Asking). board_line m i y ∷ []) f ∙ ap (λ (n : ℕ). board_line m n a ∷ []) g
lines_at m i (suc b) j (x ∷ askings) a s e = lines_at m (i + 1) b j askings a (omega arith) e

clocks_are : (b : ℕ) (lines : List Line) (l : Line) → line_at b lines ≡ l ∷ [] → clocks_at b (one_line_clocks lines) ≡ one_line l ∷ []
clocks_are b [] l e = cc
clocks_are zero (x ∷ lines) l e = let f : x ≡ l = cc in ap (λ (y : Line). one_line y ∷ []) f
clocks_are (suc b) (x ∷ lines) l e = clocks_are b lines l e

first_is : (c d : Control) → c ∷ [] ≡ d ∷ [] → c ≡ d
first_is c d e = cc

connected_at : (b : ℕ) (askings : List Asking) (a : Asking) → all_connected askings ≡ true → asking_at b askings ≡ a ∷ [] → is_connected a.stage ≡ true
connected_at b [] a h e = cc
connected_at zero (x ∷ askings) a h e = let f : x ≡ a = cc in let c = both_parts (is_connected x.stage) (all_connected askings) h in ap (λ (y : Asking). is_connected y.stage) (sym f) ∙ c.0
connected_at (suc b) (x ∷ askings) a h e = connected_at b askings a (both_parts (is_connected x.stage) (all_connected askings) h).1 e

-- a board in a turn: it is asked on
pub record BoardAsks (m : Machine) (b k : ℕ) (a : Asking) (x : Reacted) (c : Control) : Type 0 where
  pub phase : x.known.phase ≡ Connecting
  pub control_is : c ≡ control k (asks (configuration m b) k (ready (configuration m b) a) (ready (configuration m b) a).stage) false false
  pub asking : asking_at b x.known.askings.items ≡ after_asks (configuration m b) k (ready (configuration m b) a) (ready (configuration m b) a).stage ∷ []
  pub news : x.ordered.word.news ≡ []

-- connecting ends
pub record BoardConnects (m : Machine) (b k : ℕ) (a : Asking) (x : Reacted) (c : Control) : Type 0 where
  pub phase : x.known.phase ≡ Running
  pub connected : is_connected (ready (configuration m b) a).stage ≡ true
  pub control_is : c ≡ control k [] false false
  pub asking : asking_at b x.known.askings.items ≡ ready (configuration m b) a ∷ []
  pub lines : List Line
  pub news : x.ordered.word.news ≡ word.Lines lines ∷ []
  pub line : line_at b lines ≡ board_line m b (ready (configuration m b) a) ∷ []
  pub clocks : clocks_at b x.known.clocks ≡ one_line (board_line m b (ready (configuration m b) a)) ∷ []

-- the run carries on
pub record BoardRuns (m : Machine) (r : Known) (b k : ℕ) (states : List State) (a : Asking) (x : Reacted) (c : Control) : Type 0 where
  pub stop : Option ℕ
  pub phase : x.known.phase ≡ phase_after stop
  pub own : Clocks
  pub own_is : clocks_at b r.clocks ≡ own ∷ []
  pub clocks : x.known.clocks ≡ r.clocks
  pub control_is : c ≡ run_control m k b (homing_turn r.clocks k states r.homing) (stop_command (stops stop)) own (waits_in (drifts (board_at m b).drift) k a)
  pub asking : asking_at b x.known.askings.items ≡ after_question k (homing_commands m (homing_turn r.clocks k states r.homing) own b) (waits_in (drifts (board_at m b).drift) k a) ∷ []
  pub heard : asking_at b (listen_all r.askings.items states) ≡ a ∷ []
  pub news : x.ordered.word.news ≡ homed (homing_turn r.clocks k states r.homing).cut ++ new_lines m 0 r.askings.items (listen_all r.askings.items states)

-- before is what was known as the turn began, behind the note
pub data BoardTurned (m : Machine) (r : Known) (b k : ℕ) (states : List State) (a : Asking) (x : Reacted) (c : Control) : Type 0 where
  Asks : r.phase ≡ Connecting → BoardAsks m b k a x c → BoardTurned m r b k states a x c
  Ends : r.phase ≡ Connecting → BoardConnects m b k a x c → BoardTurned m r b k states a x c
  Runs : r.phase ≡ Running → BoardRuns m r b k states a x c → BoardTurned m r b k states a x c

asks_one : (m : Machine) (r : Known) (b k : ℕ) (states : List State) (a : Asking) (x : Reacted) (c : Control) → asking_at b (listen_all r.askings.items states) ≡ a ∷ [] → control_at b x.ordered.controls ≡ c ∷ []
    → AsksOn m r k states x → BoardAsks m b k a x c
asks_one m r b k states a x c e f g =
    let askings = ready_all m 0 (listen_all r.askings.items states) in
    let at = ready_at m 0 b b (listen_all r.askings.items states) a (omega arith) e in
    let here : control_at b (asking_controls m k 0 askings) ≡ c ∷ [] = subst (λ (y : Reacted). control_at b y.ordered.controls ≡ c ∷ []) g.is f in
    let is = asking_control m k 0 b b askings (ready (configuration m b) a) (omega arith) at in
    record {
      phase = ap (λ (y : Reacted). y.known.phase) g.is ∙ g.phase;
      control_is = first_is c _ (sym here ∙ is);
      asking = ap (λ (y : Reacted). asking_at b y.known.askings.items) g.is ∙ ask_at m k 0 b b askings (ready (configuration m b) a) (omega arith) at;
      news = ap (λ (y : Reacted). y.ordered.word.news) g.is;
    }

connects_one : (m : Machine) (r : Known) (b k : ℕ) (states : List State) (a : Asking) (x : Reacted) (c : Control) → asking_at b (listen_all r.askings.items states) ≡ a ∷ [] → control_at b x.ordered.controls ≡ c ∷ []
    → Connects m r k states x → BoardConnects m b k a x c
connects_one m r b k states a x c e f g =
    let askings = ready_all m 0 (listen_all r.askings.items states) in
    let at = ready_at m 0 b b (listen_all r.askings.items states) a (omega arith) e in
    let line = lines_at m 0 b b askings (ready (configuration m b) a) (omega arith) at in
    record {
      phase = ap (λ (y : Reacted). y.known.phase) g.is;
      connected = connected_at b askings (ready (configuration m b) a) g.all at;
      control_is = plain_control k b [] false false m.boards c (subst (λ (y : Reacted). control_at b y.ordered.controls ≡ c ∷ []) g.is f);
      asking = ap (λ (y : Reacted). asking_at b y.known.askings.items) g.is ∙ at;
      lines = board_lines m 0 askings;
      news = ap (λ (y : Reacted). y.ordered.word.news) g.is;
      line = line;
      clocks = ap (λ (y : Reacted). clocks_at b y.known.clocks) g.is ∙ clocks_are b (board_lines m 0 askings) (board_line m b (ready (configuration m b) a)) line;
    }

runs_one : (m : Machine) (r : Known) (b k : ℕ) (states : List State) (a : Asking) (x : Reacted) (c : Control) → asking_at b (listen_all r.askings.items states) ≡ a ∷ [] → control_at b x.ordered.controls ≡ c ∷ []
    → RunsOn m r k states x → BoardRuns m r b k states a x c
runs_one m r b k states a x c e f g =
    let turn = homing_turn r.clocks k states r.homing in
    let askings = waiting m k 0 (listen_all r.askings.items states) in
    let waits = waits_in (drifts (board_at m b).drift) k a in
    let at = waiting_at m k 0 b b (listen_all r.askings.items states) a (omega arith) e in
    let stop = stop_command (stops g.stop) in
    let here : control_at b (run_controls m k 0 turn stop r.clocks askings) ≡ c ∷ [] = subst (λ (y : Reacted). control_at b y.ordered.controls ≡ c ∷ []) g.is f in
    let so = running_control m k 0 b b turn stop r.clocks askings waits c (omega arith) at here in
    record {
      stop = g.stop;
      phase = ap (λ (y : Reacted). y.known.phase) g.is;
      own = so.0;
      own_is = so.1;
      clocks = ap (λ (y : Reacted). y.known.clocks) g.is;
      control_is = so.2;
      asking = ap (λ (y : Reacted). asking_at b y.known.askings.items) g.is ∙ run_at m k 0 b b turn r.clocks askings waits so.0 (omega arith) at so.1;
      heard = e;
      news = ap (λ (y : Reacted). y.ordered.word.news) g.is;
    }

pub board_turned : (m : Machine) (switches : List Switch) (r : Known) (b k : ℕ) (states came : List State) (note : Option Note) (a : Asking) (c : Control)
    → asking_at b (noted m note r).askings.items ≡ a ∷ [] → state_at b states ≡ came → control_at b (reacts m switches r k states note).ordered.controls ≡ c ∷ []
    → (reacts m switches r k states note).ordered.end ≡ None → BoardTurned m (noted m note r) b k states (heard_now a came) (reacts m switches r k states note) c
board_turned m switches r b k states came note a c e s f h =
    let n = noted m note r in
    let x = reacts m switches r k states note in
    let at : asking_at b (listen_all n.askings.items states) ≡ heard_now a came ∷ [] = listen_at b n.askings.items states a e ∙ ap (λ (l : List State). heard_now a l ∷ []) s in
    elim (goes m switches r k states note h) [
      | inl g ↦ Asks g.phase (asks_one m n b k states (heard_now a came) x c at f g)
      | inr later ↦ elim later [
        | inl g ↦ Ends g.phase (connects_one m n b k states (heard_now a came) x c at f g)
        | inr g ↦ Runs g.phase (runs_one m n b k states (heard_now a came) x c at f g)
      ]
    ]
