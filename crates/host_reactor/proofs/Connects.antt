-- Connecting over any list of turns: when it ends, and when a board is given up.
use Rattle.std.proofs.Common.{◌≡◌, ◌≤◌, ◌<◌, ◌^◌, ℕ, zero, suc, ◌+◌, ◌⊎◌, inl, inr, Bool, true, false, cond, List, [], ◌∷◌, ◌++◌, length, Option, Some, None, refl, ap, sym, ◌∙◌, subst, arith}
use Rattle.std.specs.Prelude.{◌&&◌}
use Rattle.plan_types.specs.declared.machine.Machine.{Machine}
use Rattle.plan_types.specs.declared.machine.BoardDef.{BoardDef}
use Rattle.plan_types.specs.declared.cause.Cause.{Cause}
use Rattle.plan_types.specs.declared.cause.Cause.TheVariants as cause
use Rattle.plan_types.specs.declared.plan.ReadStop.{ReadStop}
use Rattle.plan_types.specs.declared.plan.ReadStop.TheVariants as read
use Rattle.plan_types.specs.Lines.{Clocks}
use Rattle.plan_types.specs.Machines.{axis_at}
use Rattle.msg_code.specs.declared.talk.State.{State}
use Rattle.msg_code.specs.declared.talk.Note.{Note}
use Rattle.msg_code.specs.declared.talk.NoteNews.{NoteNews}
use Rattle.msg_code.specs.declared.talk.NoteNews.TheVariants as news
use Rattle.report_text.specs.declared.line.ReportLine.{ReportLine}
use Rattle.wire_scene.specs.declared.scene.Switch.{Switch}
use Rattle.trigger_group.specs.declared.order.End.{End}
use Rattle.trigger_group.specs.declared.order.End.TheVariants as end
use Rattle.board_asking.specs.declared.asking.Asking.{Asking}
use Rattle.board_asking.specs.Machine.{configuration}
use Rattle.board_asking.specs.Asking.{new_asking, gives_up, is_connected}
use Rattle.board_asking.specs.Connecting.{giving_up, listen_all, ready_all, ask_all, all_connected}
use Rattle.board_asking.specs.Drift.{stale}
use Rattle.board_asking.specs.Drift.{gives_up as is_stale}
use Rattle.board_asking.specs.Turns.{asking_in_turn, heard, AreUnanswered, OnceConfigured}
use Rattle.board_asking.proofs.InTurns.{once-configured, eight-unanswered}
use Rattle.axis_homing.specs.declared.homing.Homing.{Homing}
use Rattle.axis_homing.specs.declared.homing.HomingTurn.{HomingTurn}
use Rattle.axis_homing.specs.Homing.{homing_turn, by_answer, answer_in, hears_all}
use Rattle.host_reactor.specs.declared.ordered.Known.{Known}
use Rattle.host_reactor.specs.declared.ordered.Phase.{Phase}
use Rattle.host_reactor.specs.declared.ordered.Phase.TheVariants.{Connecting, Running, Stopping}
use Rattle.host_reactor.specs.Notes.{known_behind, told_all, noted, news_of, is_out}
use Rattle.host_reactor.specs.Report.{first_lines}
use Rattle.host_reactor.specs.Running.{first_cause, is_finished, stop_of}
use Rattle.host_reactor.specs.Reactor.{Reacted, new_askings, asks_boards, is_connected_now, unless_given_up, cut_line, carries_on, phase_after, finishes, unless_homing_ends, after_homing, unless_stale, unless_late_stale, by_phase, unless_ended, reacts}
use Rattle.host_reactor.specs.Runs.{Came, known_by, last_reacted, GoesOn, HaveStates, state_at, told_by}
use Rattle.plan_types.proofs.Facts.{first_of_both, second_of_both}

abbrev end_of : Reacted → Option Cause
end_of x = x.ordered.end

-- a note changes neither the phase nor the askings
record Same (a b : Known) : Type 0 where
  pub phase : a.phase ≡ b.phase
  pub askings : a.askings ≡ b.askings

told-keeps : (m : Machine) (r : Known) (n : NoteNews) → Same (known_behind m r n) r
told-keeps m r (news.Start section kind turn last moving) = record { phase = refl; askings = refl }
told-keeps m r (news.Done section turn) = record { phase = refl; askings = refl }
told-keeps m r (news.Read x sections) = record { phase = refl; askings = refl }
told-keeps m r (news.Line board line from) = record { phase = refl; askings = refl }

all-keep : (m : Machine) (ns : List NoteNews) (r : Known) → Same (told_all m ns r) r
all-keep m [] r = record { phase = refl; askings = refl }
all-keep m (n ∷ ns) r =
    let h = told-keeps m r n in
    let t = all-keep m ns (known_behind m r n) in
    record { phase = t.phase ∙ h.phase; askings = t.askings ∙ h.askings }

noted-keeps : (m : Machine) (note : Option Note) (r : Known) → Same (noted m note r) r
noted-keeps m None r = record { phase = refl; askings = refl }
noted-keeps m (Some note) r = let a = all-keep m note.news r in record { phase = a.phase; askings = a.askings }

-- a turn of connecting that doesn't end the run asks on, or all boards are connected
abbrev Connects : Machine → ℕ → Reacted → List Asking → Type 0
Connects m k x askings =
    ((x.known.phase ≡ Connecting) × (x.known.askings.items ≡ ask_all m k 0 askings)) ⊎ ((x.known.phase ≡ Running) × (all_connected askings ≡ true))

by-connected : (b : Bool) (m : Machine) (r : Known) (k : ℕ) (lines : List ReportLine) (askings : List Asking) → all_connected askings ≡ b → r.phase ≡ Connecting
    → Connects m k (cond b (is_connected_now m r k lines askings) (asks_boards m r k lines askings)) askings
by-connected true m r k lines askings e p = inr (refl, e)
by-connected false m r k lines askings e p = inl (p, refl)

unless-given : (o : Option Cause) (m : Machine) (r : Known) (k : ℕ) (lines : List ReportLine) (askings : List Asking) → r.phase ≡ Connecting
    → end_of (unless_given_up o m r k lines askings) ≡ None → Connects m k (unless_given_up o m r k lines askings) askings
unless-given (Some c) m r k lines askings p h = cc
unless-given None m r k lines askings p h = by-connected (all_connected askings) m r k lines askings refl p

by-first : (o : Option Cause) (m : Machine) (switches : List Switch) (r : Known) (k : ℕ) (states : List State) (lines : List ReportLine) → r.phase ≡ Connecting
    → end_of (unless_ended o m switches r k states lines) ≡ None → Connects m k (unless_ended o m switches r k states lines) (ready_all m 0 (listen_all r.askings.items states))
by-first (Some c) m switches r k states lines p h = cc
by-first None m switches r k states lines p h =
    let askings = ready_all m 0 (listen_all r.askings.items states) in
    subst (λ (q : Phase). Connects m k (by_phase q m switches r k states lines) askings) (sym p)
    (unless-given (giving_up k 0 askings) m r k lines askings p (subst (λ (q : Phase). end_of (by_phase q m switches r k states lines) ≡ None) p h))

connecting-turn : (m : Machine) (switches : List Switch) (r : Known) (k : ℕ) (states : List State) (note : Option Note) → r.phase ≡ Connecting
    → end_of (reacts m switches r k states note) ≡ None → Connects m k (reacts m switches r k states note) (ready_all m 0 (listen_all r.askings.items states))
connecting-turn m switches r k states note p h =
    let s = noted m note r in
    let n = noted-keeps m note r in
    let c = by-first (first_cause (is_out note) s.stopped states) m switches s k states (first_lines m s k (news_of note) states) (n.phase ∙ p) h in
    subst (λ (l : List Asking). Connects m k (reacts m switches r k states note) (ready_all m 0 (listen_all l states))) (ap (λ a. a.items) n.askings) c

-- no later turn connects anew
abbrev NotConnecting : Reacted → Type 0
NotConnecting x = x.known.phase ≡ Connecting → ⊥

pub stop-phase : (o : Option ℕ) → phase_after o ≡ Connecting → ⊥
stop-phase None e = cc
stop-phase (Some line) e = cc

finishes-not : (stop : ReadStop) (m : Machine) (r : Known) (k : ℕ) (lines : List ReportLine) (askings : List Asking) (turn : HomingTurn)
    → end_of (finishes stop m r k lines askings turn) ≡ None → NotConnecting (finishes stop m r k lines askings turn)
finishes-not (read.Stop line) m r k lines askings turn h = stop-phase (Some line)
finishes-not read.End m r k lines askings turn h = cc
finishes-not (read.Refused line kind) m r k lines askings turn h = cc

either-not : (b : Bool) (x y : Reacted) → end_of (cond b x y) ≡ None → (end_of x ≡ None → NotConnecting x) → NotConnecting y → NotConnecting (cond b x y)
either-not true x y h f g = f h
either-not false x y h f g = g

homing-not : (o : Option Cause) (m : Machine) (r : Known) (k : ℕ) (states : List State) (lines cut : List ReportLine) (askings : List Asking) (turn : HomingTurn)
    → end_of (unless_homing_ends o m r k states lines cut askings turn) ≡ None → NotConnecting (unless_homing_ends o m r k states lines cut askings turn)
homing-not (Some c) m r k states lines cut askings turn h = cc
homing-not None m r k states lines cut askings turn h =
    either-not (is_finished r k states) (finishes (stop_of r.reading) m r k (lines ++ cut) askings turn) (carries_on m r k (lines ++ cut) askings turn None) h
    (finishes-not (stop_of r.reading) m r k (lines ++ cut) askings turn) (stop-phase None)

stale-not : (o : Option Cause) (m : Machine) (switches : List Switch) (r : Known) (k : ℕ) (states : List State) (lines : List ReportLine) (askings : List Asking)
    → end_of (unless_stale o m switches r k states lines askings) ≡ None → NotConnecting (unless_stale o m switches r k states lines askings)
stale-not (Some c) m switches r k states lines askings h = cc
stale-not None m switches r k states lines askings h =
    let turn = homing_turn r.clocks k states r.homing in
    homing-not turn.end m (after_homing r k states) k states lines (cut_line m switches turn.section (axis_at m turn.axis) turn.cut) askings turn h

late-not : (o : Option Cause) (m : Machine) (r : Known) (k : ℕ) (lines : List ReportLine) (line : ℕ) → end_of (unless_late_stale o m r k lines line) ≡ None → NotConnecting (unless_late_stale o m r k lines line)
late-not (Some c) m r k lines line h = cc
late-not None m r k lines line h = cc

phase-not : (p : Phase) (m : Machine) (switches : List Switch) (r : Known) (k : ℕ) (states : List State) (lines : List ReportLine) → (p ≡ Connecting → ⊥)
    → end_of (by_phase p m switches r k states lines) ≡ None → NotConnecting (by_phase p m switches r k states lines)
phase-not Connecting m switches r k states lines n h = absurd (n refl)
phase-not Running m switches r k states lines n h = stale-not (stale k 0 (listen_all r.askings.items states)) m switches r k states lines (listen_all r.askings.items states) h
phase-not (Stopping line) m switches r k states lines n h = late-not (stale k 0 (listen_all r.askings.items states)) m r k lines line h

first-not : (o : Option Cause) (m : Machine) (switches : List Switch) (r : Known) (k : ℕ) (states : List State) (lines : List ReportLine) → (r.phase ≡ Connecting → ⊥)
    → end_of (unless_ended o m switches r k states lines) ≡ None → NotConnecting (unless_ended o m switches r k states lines)
first-not (Some c) m switches r k states lines n h = cc
first-not None m switches r k states lines n h = phase-not r.phase m switches r k states lines n h

running-turn : (m : Machine) (switches : List Switch) (r : Known) (k : ℕ) (states : List State) (note : Option Note) → (r.phase ≡ Connecting → ⊥)
    → end_of (reacts m switches r k states note) ≡ None → NotConnecting (reacts m switches r k states note)
running-turn m switches r k states note n h =
    let s = noted m note r in
    let same = noted-keeps m note r in
    first-not (first_cause (is_out note) s.stopped states) m switches s k states (first_lines m s k (news_of note) states) (λ e. n (sym same.phase ∙ e)) h

-- the boards' askings, by what each board told
abbrev asking_of : Machine → ℕ → List Came → Asking
asking_of m b [] = new_asking
asking_of m b (c ∷ before) = asking_in_turn (configuration m b) (length (told_by b (c ∷ before))) (heard (configuration m b) (told_by b (c ∷ before)))

abbrev askings_from : Machine → ℕ → List BoardDef → List Came → List Asking
askings_from m b [] came = []
askings_from m b (d ∷ boards) came = asking_of m b came ∷ askings_from m (b + 1) boards came

abbrev heard_from : Machine → ℕ → List BoardDef → List Came → List Asking
heard_from m b [] came = []
heard_from m b (d ∷ boards) came = heard (configuration m b) (told_by b came) ∷ heard_from m (b + 1) boards came

both-of : (x y : Asking) (xs ys : List Asking) → x ≡ y → xs ≡ ys → x ∷ xs ≡ y ∷ ys
both-of x y xs ys e f = ap (λ (a : Asking). a ∷ xs) e ∙ ap (λ (l : List Asking). y ∷ l) f

new-are : (m : Machine) (b : ℕ) (boards : List BoardDef) → new_askings boards ≡ askings_from m b boards []
new-are m b [] = refl
new-are m b (d ∷ boards) = both-of new_asking new_asking _ _ refl (new-are m (b + 1) boards)

state-some : (b : ℕ) (states : List State) → b < length states → (s : State) × (state_at b states ≡ s ∷ [])
state-some b [] l = absurd (omega arith)
state-some zero (s ∷ states) l = (s, refl)
state-some (suc b) (s ∷ states) l = state-some b states (omega arith)

told-none : (b : ℕ) (c : Came) → c.states ≡ [] → told_by b (c ∷ []) ≡ []
told-none b c e = ap (λ (l : List State). state_at b l ++ []) e

told-more : (b : ℕ) (c : Came) (before : List Came) (s : State) → state_at b c.states ≡ s ∷ [] → told_by b (c ∷ before) ≡ s ∷ told_by b before
told-more b c before s e = ap (λ (l : List State). l ++ told_by b before) e

told-length : (m : Machine) (b : ℕ) (c : Came) (before : List Came) → HaveStates m (c ∷ before) → b < length m.boards → length (told_by b (c ∷ before)) ≡ length before
told-length m b c [] e l = ap length (told-none b c e)
told-length m b c (d ∷ before) (e, h) l =
    let some = state-some b c.states (omega arith) in
    ap length (told-more b c (d ∷ before) some.0 some.1) ∙ ap suc (told-length m b d before h l)

first-heard : (m : Machine) (b : ℕ) (boards : List BoardDef) (c : Came) → c.states ≡ [] → ready_all m b (listen_all (askings_from m b boards []) []) ≡ heard_from m b boards (c ∷ [])
first-heard m b [] c e = refl
first-heard m b (d ∷ boards) c e =
    both-of _ _ _ _ (ap (λ (l : List State). heard (configuration m b) l) (sym (told-none b c e))) (first-heard m (b + 1) boards c e)

later-heard : (m : Machine) (b : ℕ) (boards : List BoardDef) (c d : Came) (before : List Came) (states : List State) → length states ≡ length boards
    → ((i : ℕ) → state_at (b + i) c.states ≡ state_at i states)
    → ready_all m b (listen_all (askings_from m b boards (d ∷ before)) states) ≡ heard_from m b boards (c ∷ (d ∷ before))
later-heard m b [] c d before states e at = refl
later-heard m b (x ∷ boards) c d before [] e at = absurd (omega arith)
later-heard m b (x ∷ boards) c d before (s ∷ states) e at =
    let none : b + 0 ≡ b = omega arith in
    let here : state_at b c.states ≡ s ∷ [] = subst (λ (n : ℕ). state_at n c.states ≡ s ∷ []) none (at 0) in
    both-of _ _ _ _ (ap (λ (l : List State). heard (configuration m b) l) (sym (told-more b c (d ∷ before) s here)))
    (later-heard m (b + 1) boards c d before states (omega arith) (λ i. let e : b + suc i ≡ b + 1 + i = omega arith in subst (λ (n : ℕ). state_at n c.states ≡ state_at i states) e (at (suc i))))

heard-now : (m : Machine) (c : Came) (before : List Came) → HaveStates m (c ∷ before)
    → ready_all m 0 (listen_all (askings_from m 0 m.boards before) c.states) ≡ heard_from m 0 m.boards (c ∷ before)
heard-now m c [] e =
    ap (λ (l : List State). ready_all m 0 (listen_all (askings_from m 0 m.boards []) l)) e ∙ first-heard m 0 m.boards c e
heard-now m c (d ∷ before) (e, h) =
    later-heard m 0 m.boards c d before c.states e (λ i. let z : i ≡ 0 + i = omega arith in subst (λ (n : ℕ). state_at n c.states ≡ state_at i c.states) z refl)

behind-now : (m : Machine) (b : ℕ) (boards : List BoardDef) (c : Came) (before : List Came) → HaveStates m (c ∷ before) → b + length boards ≤ length m.boards
    → ask_all m (length before) b (heard_from m b boards (c ∷ before)) ≡ askings_from m b boards (c ∷ before)
behind-now m b [] c before h l = refl
behind-now m b (d ∷ boards) c before h l =
    both-of _ _ _ _ (ap (λ (n : ℕ). asking_in_turn (configuration m b) n (heard (configuration m b) (told_by b (c ∷ before)))) (sym (told-length m b c before h (omega arith))))
    (behind-now m (b + 1) boards c before h (omega arith))

all-said : (m : Machine) (b : ℕ) (boards : List BoardDef) (came : List Came) → all_connected (heard_from m b boards came) ≡ true → (i : ℕ) → i < length boards → OnceConfigured (told_by (b + i) came)
all-said m b [] came h i l = absurd (omega arith)
all-said m b (d ∷ boards) came h zero l =
    let a = heard (configuration m b) (told_by b came) in
    let e : b ≡ b + 0 = omega arith in
    subst (λ (n : ℕ). OnceConfigured (told_by n came)) e (once-configured (configuration m b) (told_by b came) (first_of_both (is_connected a.stage) (all_connected (heard_from m (b + 1) boards came)) h))
all-said m b (d ∷ boards) came h (suc i) l =
    let a = heard (configuration m b) (told_by b came) in
    let e : b + 1 + i ≡ b + suc i = omega arith in
    subst (λ (n : ℕ). OnceConfigured (told_by n came)) e
    (all-said m (b + 1) boards came (second_of_both (is_connected a.stage) (all_connected (heard_from m (b + 1) boards came)) h) i (omega arith))

once-more : (xs ys : List State) → OnceConfigured ys → OnceConfigured (xs ++ ys)
once-more [] ys h = h
once-more (s ∷ xs) ys h = inr (once-more xs ys h)

states-before : (m : Machine) (c : Came) (before : List Came) → HaveStates m (c ∷ before) → HaveStates m before
states-before m c [] h = tt
states-before m c (d ∷ before) (e, h) = h

-- while a run connects its askings are those of the boards' own turns; behind that each board said that it is configured
abbrev Holds : Machine → Known → List Came → Type 0
Holds m r came =
    ((r.phase ≡ Connecting) × (r.askings.items ≡ askings_from m 0 m.boards came))
    ⊎ ((r.phase ≡ Connecting → ⊥) × ((b : ℕ) → b < length m.boards → OnceConfigured (told_by b came)))

pub not-running : (p : Phase) → p ≡ Running → p ≡ Connecting → ⊥
not-running Connecting e f = cc
not-running Running e f = cc
not-running (Stopping line) e f = cc

one-more : (m : Machine) (switches : List Switch) (r : Known) (c : Came) (before : List Came) → HaveStates m (c ∷ before) → end_of (reacts m switches r (length before) c.states c.note) ≡ None
    → Holds m r before → Holds m (reacts m switches r (length before) c.states c.note).known (c ∷ before)
one-more m switches r c before h e (inl (p, a)) =
    let k = length before in
    let now : ready_all m 0 (listen_all r.askings.items c.states) ≡ heard_from m 0 m.boards (c ∷ before) =
    ap (λ (l : List Asking). ready_all m 0 (listen_all l c.states)) a ∙ heard-now m c before h in
    elim (connecting-turn m switches r k c.states c.note p e) [
      | inl (q, asks) ↦ inl (q, asks ∙ ap (λ (l : List Asking). ask_all m k 0 l) now ∙ behind-now m 0 m.boards c before h (omega arith))
      | inr (q, all) ↦ inr (
        not-running _ q,
        λ b l. let z : 0 + b ≡ b = omega arith in
            subst (λ (n : ℕ). OnceConfigured (told_by n (c ∷ before))) z (all-said m 0 m.boards (c ∷ before) (ap all_connected (sym now) ∙ all) b l),
      )
    ]
one-more m switches r c before h e (inr (n, f)) =
    inr (running-turn m switches r (length before) c.states c.note n e, λ b l. once-more (state_at b c.states) (told_by b before) (f b l))

holds : (m : Machine) (switches : List Switch) (came : List Came) → GoesOn m switches came → HaveStates m came → Holds m (known_by m switches came) came
holds m switches [] g h = inl (refl, new-are m 0 m.boards)
holds m switches (c ∷ before) (e, g) h = one-more m switches (known_by m switches before) c before h e (holds m switches before g (states-before m c before h))

configured-by : (m : Machine) (r : Known) (came : List Came) → Holds m r came → (r.phase ≡ Connecting → ⊥) → (b : ℕ) → b < length m.boards → OnceConfigured (told_by b came)
configured-by m r came (inl (p, a)) n = absurd (n p)
configured-by m r came (inr (q, f)) n = f

pub all-configured : (m : Machine) (switches : List Switch) (came : List Came) → GoesOn m switches came → HaveStates m came → ((known_by m switches came).phase ≡ Connecting → ⊥)
    → (b : ℕ) → b < length m.boards → OnceConfigured (told_by b came)
all-configured m switches came g h n = configured-by m (known_by m switches came) came (holds m switches came g h) n

-- a run ends for a board that gave no answer only while it connects
abbrev Silent : ℕ → ℕ → Option Cause
Silent board turn = Some (cause.Connect board turn)

apart : (o : Option Cause) (c : Cause) → o ≡ None → o ≡ Some c → ⊥
apart None c e f = cc
apart (Some x) c e f = cc

neither : (b : Bool) (x y : Reacted) (c : Cause) → end_of x ≡ None → end_of y ≡ None → end_of (cond b x y) ≡ Some c → ⊥
neither true x y c e f h = apart (end_of x) c e h
neither false x y c e f h = apart (end_of y) c f h

given-up-is : (o : Option Cause) (m : Machine) (r : Known) (k : ℕ) (lines : List ReportLine) (askings : List Asking) (c : Cause) → end_of (unless_given_up o m r k lines askings) ≡ Some c → o ≡ Some c
given-up-is (Some x) m r k lines askings c h = h
given-up-is None m r k lines askings c h = absurd (neither (all_connected askings) (is_connected_now m r k lines askings) (asks_boards m r k lines askings) c refl refl h)

stale-either : (g : Bool) (b first : ℕ) (rest : Option Cause) (board turn : ℕ) → cond g (Some (cause.Stale b first)) rest ≡ Silent board turn → (rest ≡ Silent board turn → ⊥) → ⊥
stale-either true b first rest board turn h f = cc
stale-either false b first rest board turn h f = f h

stale-is : (k b : ℕ) (askings : List Asking) (board turn : ℕ) → stale k b askings ≡ Silent board turn → ⊥
stale-is k b [] board turn h = cc
stale-is k b (a ∷ askings) board turn h = stale-either (is_stale k a) b a.first (stale k (b + 1) askings) board turn h (stale-is k (b + 1) askings board turn)

answered-is : (k : ℕ) (h : Homing) (o : Option End) (board turn : ℕ) → (by_answer k h o).end ≡ Silent board turn → ⊥
answered-is k h None board turn e = cc
answered-is k h (Some (end.Endstop tick)) board turn e = cc
answered-is k h (Some end.NoSwitch) board turn e = cc
answered-is k h (Some (end.Expired b t)) board turn e = cc

homing-is : (clocks : List Clocks) (k : ℕ) (states : List State) (o : Option Homing) (board turn : ℕ) → (homing_turn clocks k states o).end ≡ Silent board turn → ⊥
homing-is clocks k states None board turn e = cc
homing-is clocks k states (Some h) board turn e = let g = hears_all clocks states h in answered-is k g (answer_in k g.start g.group) board turn e

finishes-is : (stop : ReadStop) (m : Machine) (r : Known) (k : ℕ) (lines : List ReportLine) (askings : List Asking) (h : HomingTurn) (board turn : ℕ)
    → end_of (finishes stop m r k lines askings h) ≡ Silent board turn → ⊥
finishes-is (read.Stop line) m r k lines askings h board turn e = cc
finishes-is read.End m r k lines askings h board turn e = cc
finishes-is (read.Refused line kind) m r k lines askings h board turn e = cc

either-is : (b : Bool) (x y : Reacted) (c : Cause) → (end_of x ≡ Some c → ⊥) → (end_of y ≡ Some c → ⊥) → end_of (cond b x y) ≡ Some c → ⊥
either-is true x y c f g h = f h
either-is false x y c f g h = g h

unless-homing-is : (o : Option Cause) (m : Machine) (r : Known) (k : ℕ) (states : List State) (lines cut : List ReportLine) (askings : List Asking) (h : HomingTurn) (board turn : ℕ)
    → (o ≡ Silent board turn → ⊥) → end_of (unless_homing_ends o m r k states lines cut askings h) ≡ Silent board turn → ⊥
unless-homing-is (Some c) m r k states lines cut askings h board turn f e = f e
unless-homing-is None m r k states lines cut askings h board turn f e =
    either-is (is_finished r k states) (finishes (stop_of r.reading) m r k (lines ++ cut) askings h) (carries_on m r k (lines ++ cut) askings h None) (cause.Connect board turn)
    (finishes-is (stop_of r.reading) m r k (lines ++ cut) askings h board turn) (λ x. apart None (cause.Connect board turn) refl x) e

unless-stale-is : (o : Option Cause) (m : Machine) (switches : List Switch) (r : Known) (k : ℕ) (states : List State) (lines : List ReportLine) (askings : List Asking) (board turn : ℕ)
    → (o ≡ Silent board turn → ⊥) → end_of (unless_stale o m switches r k states lines askings) ≡ Silent board turn → ⊥
unless-stale-is (Some c) m switches r k states lines askings board turn f e = f e
unless-stale-is None m switches r k states lines askings board turn f e =
    let h = homing_turn r.clocks k states r.homing in
    unless-homing-is h.end m (after_homing r k states) k states lines (cut_line m switches h.section (axis_at m h.axis) h.cut) askings h board turn
    (homing-is r.clocks k states r.homing board turn) e

unless-late-is : (o : Option Cause) (m : Machine) (r : Known) (k : ℕ) (lines : List ReportLine) (line board turn : ℕ)
    → (o ≡ Silent board turn → ⊥) → end_of (unless_late_stale o m r k lines line) ≡ Silent board turn → ⊥
unless-late-is (Some c) m r k lines line board turn f e = f e
unless-late-is None m r k lines line board turn f e = cc

phase-is : (p : Phase) (m : Machine) (switches : List Switch) (r : Known) (k : ℕ) (states : List State) (lines : List ReportLine) (board turn : ℕ)
    → end_of (by_phase p m switches r k states lines) ≡ Silent board turn
    → (p ≡ Connecting) × (giving_up k 0 (ready_all m 0 (listen_all r.askings.items states)) ≡ Silent board turn)
phase-is Connecting m switches r k states lines board turn e =
    let askings = ready_all m 0 (listen_all r.askings.items states) in
    (refl, given-up-is (giving_up k 0 askings) m r k lines askings (cause.Connect board turn) e)
phase-is Running m switches r k states lines board turn e =
    let askings = listen_all r.askings.items states in
    absurd (unless-stale-is (stale k 0 askings) m switches r k states lines askings board turn (stale-is k 0 askings board turn) e)
phase-is (Stopping line) m switches r k states lines board turn e =
    let askings = listen_all r.askings.items states in
    absurd (unless-late-is (stale k 0 askings) m r k lines line board turn (stale-is k 0 askings board turn) e)

-- which board it is, and since when
abbrev board_of : Option Cause → ℕ
board_of (Some (cause.Connect board turn)) = board
board_of o = 0

abbrev turn_of : Option Cause → ℕ
turn_of (Some (cause.Connect board turn)) = turn
turn_of o = 0

abbrev Gave : Machine → ℕ → ℕ → List Came → ℕ → ℕ → Type 0
Gave m k limit came board turn =
    (board < limit) × (gives_up k (heard (configuration m board) (told_by board came)) ≡ true) × ((heard (configuration m board) (told_by board came)).first ≡ turn)

gives-either : (g : Bool) (m : Machine) (k b limit : ℕ) (came : List Came) (rest : Option Cause) (board turn : ℕ) → gives_up k (heard (configuration m b) (told_by b came)) ≡ g → b < limit
    → cond g (Some (cause.Connect b (heard (configuration m b) (told_by b came)).first)) rest ≡ Silent board turn → (rest ≡ Silent board turn → Gave m k limit came board turn)
    → Gave m k limit came board turn
gives-either true m k b limit came rest board turn e l h f =
    let same : b ≡ board = ap board_of h in
    subst (λ (n : ℕ). Gave m k limit came n turn) same (l, e, ap turn_of h)
gives-either false m k b limit came rest board turn e l h f = f h

gives-is : (m : Machine) (k b limit : ℕ) (boards : List BoardDef) (came : List Came) (board turn : ℕ) → b + length boards ≤ limit
    → giving_up k b (heard_from m b boards came) ≡ Silent board turn → Gave m k limit came board turn
gives-is m k b limit [] came board turn l h = cc
gives-is m k b limit (d ∷ boards) came board turn l h =
    gives-either (gives_up k (heard (configuration m b) (told_by b came))) m k b limit came (giving_up k (b + 1) (heard_from m (b + 1) boards came)) board turn refl (omega arith) h
    (gives-is m k (b + 1) limit boards came board turn (omega arith))

askings-are : (m : Machine) (r : Known) (came : List Came) → Holds m r came → r.phase ≡ Connecting → r.askings.items ≡ askings_from m 0 m.boards came
askings-are m r came (inl (p, a)) e = a
askings-are m r came (inr (n, f)) e = absurd (n e)

pub silent-eight : (m : Machine) (switches : List Switch) (c : Came) (before : List Came) (board turn : ℕ) → GoesOn m switches before → HaveStates m (c ∷ before) → length before < 2 ^ 59
    → first_cause (is_out c.note) (noted m c.note (known_by m switches before)).stopped c.states ≡ None
    → (last_reacted m switches c before).ordered.end ≡ Some (cause.Connect board turn)
    → (board < length m.boards) × ((count : ℕ) × (8 ≤ count) × AreUnanswered (configuration m board) (told_by board (c ∷ before)) turn count)
silent-eight m switches c before board turn g h small first e =
    let k = length before in
    let r = known_by m switches before in
    let s = noted m c.note r in
    let lines = first_lines m s k (news_of c.note) c.states in
    let same = noted-keeps m c.note r in
    let p = phase-is s.phase m switches s k c.states lines board turn (subst (λ (o : Option Cause). end_of (unless_ended o m switches s k c.states lines) ≡ Silent board turn) first e) in
    let a = askings-are m r before (holds m switches before g (states-before m c before h)) (sym same.phase ∙ p.0) in
    let now : ready_all m 0 (listen_all s.askings.items c.states) ≡ heard_from m 0 m.boards (c ∷ before) =
    ap (λ (l : List Asking). ready_all m 0 (listen_all l c.states)) (ap (λ x. x.items) same.askings ∙ a) ∙ heard-now m c before h in
    let gave = gives-is m k 0 (length m.boards) m.boards (c ∷ before) board turn (omega arith) (subst (λ (l : List Asking). giving_up k 0 l ≡ Silent board turn) now p.1) in
    let long : length (told_by board (c ∷ before)) ≡ k = told-length m board c before h gave.0 in
    let x = eight-unanswered (configuration m board) (told_by board (c ∷ before)) (omega arith)
    (subst (λ (n : ℕ). gives_up n (heard (configuration m board) (told_by board (c ∷ before))) ≡ true) (sym long) gave.1) in
    (gave.0, (x.0, x.1, subst (λ (f : ℕ). AreUnanswered (configuration m board) (told_by board (c ∷ before)) f x.0) gave.2 x.2))
