-- A reactor that is free orders nothing, and is free for the turns that are left.
use Rattle.std.proofs.Common.{◌≡◌, ◌≢◌, ◌⊎◌, ◌≤◌, ◌<◌, inl, inr, arith, ℕ, zero, suc, ◌+◌, Bool, true, false, cond, List, [], ◌∷◌, ◌++◌, Option, Some, None, length, refl, sym, ap, ◌∙◌, subst, ⊎_elim}
use Rattle.plan_types.specs.declared.machine.Machine.{Machine}
use Rattle.plan_types.specs.declared.machine.BoardDef.{BoardDef}
use Rattle.plan_types.specs.declared.cause.Cause.{Cause}
use Rattle.plan_types.specs.declared.plan.ReadStop.{ReadStop}
use Rattle.plan_types.specs.declared.plan.ReadStop.TheVariants as read
use Rattle.plan_types.specs.Lines.{Clocks}
use Rattle.plan_types.specs.Machines.{axis_at}
use Rattle.msg_code.specs.declared.cmd.Cmd.{Cmd}
use Rattle.msg_code.specs.declared.talk.Note.{Note}
use Rattle.msg_code.specs.declared.talk.NoteNews.{NoteNews}
use Rattle.msg_code.specs.declared.talk.NoteNews.TheVariants as news
use Rattle.msg_code.specs.declared.talk.State.{State}
use Rattle.msg_code.specs.declared.talk.WordMsg.{WordMsg}
use Rattle.msg_code.specs.declared.unit.Control.{Control}
use Rattle.report_text.specs.declared.line.ReportLine.{ReportLine}
use Rattle.wire_scene.specs.declared.scene.Switch.{Switch}
use Rattle.board_asking.specs.declared.asking.Asking.{Asking}
use Rattle.board_asking.specs.Connecting.{listen_all}
use Rattle.board_asking.specs.Drift.{stale, waiting}
use Rattle.axis_homing.specs.declared.homing.HomingTurn.{HomingTurn}
use Rattle.axis_homing.specs.Homing.{homing_turn}
use Rattle.host_reactor.specs.declared.ordered.Known.{Known}
use Rattle.host_reactor.specs.declared.ordered.Ordered.{Ordered}
use Rattle.host_reactor.specs.declared.ordered.Phase.{Phase}
use Rattle.host_reactor.specs.declared.ordered.Phase.TheVariants.{Connecting, Running, Stopping}
use Rattle.host_reactor.specs.Free as rest
use Rattle.host_reactor.specs.Free.{AreEmpty, EndsOrRests, IsAtRest, OrdersNothing, free_turns}
use Rattle.host_reactor.specs.Notes.{are_lines, is_out, news_of, noted, known_behind, told_all}
use Rattle.host_reactor.specs.Report.{first_lines}
use Rattle.host_reactor.specs.Reactor.{Reacted, Run, after_homing, by_phase, carries_on, cut_line, ends, finishes, is_end, plain_controls, reacts, run_controls, stop_command, stops, unless_ended, unless_homing_ends, unless_stale}
use Rattle.host_reactor.specs.Rows.{AreControls, HasEachBoard}
use Rattle.host_reactor.specs.Running.{first_cause, is_finished, stop_of}
use Rattle.host_reactor.proofs.Idle.{rests}
use Rattle.host_reactor.proofs.Rowing.{rowed}
use Rattle.session_work.specs.Bares.{bare_control, bare_word}
use Rattle.session_work.specs.Rows.{AreOf, copies}
use Rattle.session_run.specs.Reactors.{IsFree, reacted}

-- each of the controls is one of the time behind connecting
abbrev AreConnected : List Control → Type 0
AreConnected [] = Unit {0}
AreConnected (c ∷ cs) = (c.connected ≡ true) × AreConnected cs

abbrev Connected : Reacted → Type 0
Connected x = AreConnected x.ordered.controls

plain : (k : ℕ) (boards : List BoardDef) → AreConnected (plain_controls k [] true true boards)
plain k [] = tt
plain k (b ∷ boards) = (refl, plain k boards)

running : (m : Machine) (k b : ℕ) (turn : HomingTurn) (stop : List Cmd) (clocks : List Clocks) (askings : List Asking) → AreConnected (run_controls m k b turn stop clocks askings)
running m k b turn stop clocks [] = tt
running m k b turn stop [] (a ∷ askings) = running m k b turn stop [] askings
running m k b turn stop (c ∷ clocks) (a ∷ askings) = (refl, running m k (b + 1) turn stop clocks askings)

either : (b : Bool) (x y : Reacted) → Connected x → Connected y → Connected (cond b x y)
either true x y h i = h
either false x y h i = i

carried : (m : Machine) (r : Known) (k : ℕ) (lines : List ReportLine) (askings : List Asking) (turn : HomingTurn) (stop : Option ℕ) → Connected (carries_on m r k lines askings turn stop)
carried m r k lines askings turn stop = running m k 0 turn (stop_command (stops stop)) r.clocks (waiting m k 0 askings)

finished : (how : ReadStop) (m : Machine) (r : Known) (k : ℕ) (lines : List ReportLine) (askings : List Asking) (turn : HomingTurn) → Connected (finishes how m r k lines askings turn)
finished (read.Stop line) m r k lines askings turn = carried m r k lines askings turn (Some line)
finished read.End m r k lines askings turn = plain k m.boards
finished (read.Refused line kind) m r k lines askings turn = plain k m.boards

homing-ends : (o : Option Cause) (m : Machine) (r : Known) (k : ℕ) (states : List State) (lines cut : List ReportLine) (askings : List Asking) (turn : HomingTurn) → Connected (unless_homing_ends o m r k states lines cut askings turn)
homing-ends (Some c) m r k states lines cut askings turn = plain k m.boards
homing-ends None m r k states lines cut askings turn =
    either (is_finished r k states) _ _ (finished (stop_of r.reading) m r k (lines ++ cut) askings turn) (carried m r k (lines ++ cut) askings turn None)

stale-ends : (o : Option Cause) (m : Machine) (switches : List Switch) (r : Known) (k : ℕ) (states : List State) (lines : List ReportLine) (askings : List Asking) → Connected (unless_stale o m switches r k states lines askings)
stale-ends (Some c) m switches r k states lines askings = plain k m.boards
stale-ends None m switches r k states lines askings =
    let turn = homing_turn r.clocks k states r.homing in
    homing-ends turn.end m (after_homing r k states) k states lines (cut_line m switches turn.section (axis_at m turn.axis) turn.cut) askings turn

in-phase : (p : Phase) (m : Machine) (switches : List Switch) (r : Known) (k : ℕ) (states : List State) (lines : List ReportLine) → p ≡ Running → Connected (by_phase p m switches r k states lines)
in-phase Connecting m switches r k states lines e = absurd (let f = e in cc)
in-phase Running m switches r k states lines e =
    let askings = listen_all r.askings.items states in
    stale-ends (stale k 0 askings) m switches r k states lines askings
in-phase (Stopping line) m switches r k states lines e = absurd (let f = e in cc)

unless-ended : (o : Option Cause) (m : Machine) (switches : List Switch) (r : Known) (k : ℕ) (states : List State) (lines : List ReportLine) → r.phase ≡ Running → Connected (unless_ended o m switches r k states lines)
unless-ended (Some c) m switches r k states lines e = plain k m.boards
unless-ended None m switches r k states lines e = in-phase r.phase m switches r k states lines e

all-phase : (m : Machine) (ns : List NoteNews) (r : Known) → (told_all m ns r).phase ≡ r.phase
all-phase m [] r = refl
all-phase m (news.Start section kind turn last moving ∷ ns) r = all-phase m ns (known_behind m r (news.Start section kind turn last moving))
all-phase m (news.Done section turn ∷ ns) r = all-phase m ns (known_behind m r (news.Done section turn))
all-phase m (news.Read end sections ∷ ns) r = all-phase m ns (known_behind m r (news.Read end sections))
all-phase m (news.Line board line from ∷ ns) r = all-phase m ns (known_behind m r (news.Line board line from))

same-phase : (m : Machine) (note : Option Note) (r : Known) → (noted m note r).phase ≡ r.phase
same-phase m None r = refl
same-phase m (Some note) r = all-phase m note.news r

-- a running reactor's controls
connected : (m : Machine) (switches : List Switch) (r : Known) (k : ℕ) (states : List State) (note : Option Note) → r.phase ≡ Running → Connected (reacts m switches r k states note)
connected m switches r k states note e =
    let q = noted m note r in
    unless-ended (first_cause (is_out note) q.stopped states) m switches q k states (first_lines m q k (news_of note) states) (same-phase m note r ∙ e)

bare : (c : Control) (k : ℕ) → c.turn ≡ k → c.commands ≡ [] → c.connected ≡ true → c.end ≡ false → c ≡ bare_control k false
bare c k t e d n = λ i. record { turn = t i; commands = e i; connected = d i; end = n i }

bares : (k : ℕ) (cs : List Control) → AreControls k false cs → AreEmpty cs → AreConnected cs → cs ≡ copies (length cs) (bare_control k false)
bares k [] a e d = refl
bares k (c ∷ cs) a e d = λ i. bare c k a.0 e.0 d.0 a.1 i ∷ bares k cs a.2 e.1 d.1 i

states-of : (k : ℕ) (states : List State) → AreOf (λ s. s.turn + 1) k states → rest.AreOf k states
states-of k [] h = tt
states-of k (s ∷ states) h = (h zero s (omega arith), states-of k states (λ j x l. h (suc j) x (omega arith)))

-- what is ordered in a turn in which nothing is
ordered : (m : Machine) (k : ℕ) (o : Ordered) → (length o.controls ≡ length m.boards) → AreControls k (is_end o.end) o.controls → o.word.turn ≡ k → o.word.end ≡ is_end o.end → o.end ≡ None → OrdersNothing o → AreConnected o.controls
    → (o.controls ≡ copies (length m.boards) (bare_control k false)) × (o.word ≡ bare_word k false)
ordered m k o count controls turn end none nothing connected =
    let going : is_end o.end ≡ false = ap is_end none in (
      bares k o.controls (subst (λ b. AreControls k b o.controls) going controls) nothing.controls connected ∙ ap (λ n. copies n (bare_control k false)) count,
      (λ i. record { turn = turn i; news = nothing.word i; end = (end ∙ going) i }),
    )

not-ended : (o : Option Cause) → o ≡ None → (c : Cause) × (o ≡ Some c) → ⊥
not-ended o none c = let e = sym none ∙ c.1 in cc

left : (n before behind now : ℕ) → n + 1 ≤ before → before ≤ behind + 1 → behind ≡ now → n ≤ now
left n before behind now a b e = omega arith

some : (n before : ℕ) → n + 1 ≤ before → 0 < before
some n before l = omega arith

free-in : (x : Run) (k n before : ℕ) → before ≡ free_turns x.machine x.known x.next → IsFree x k (n + 1) → (k ≡ x.next) × (n + 1 ≤ before)
free-in x k n before e (inl z) = absurd (omega arith)
free-in x k n before e (inr f) = (f.0, subst (λ b. n + 1 ≤ b) (ap (free_turns x.machine x.known) f.0 ∙ sym e) f.1)

-- a turn of a reactor that is free
pub goes-free : (x y : Run) (k n : ℕ) (states : List State) (note : Option Note) (o : Ordered) (before behind : ℕ) → HasEachBoard x.machine x.known → o ≡ (reacted x k states note).ordered
    → y.next ≡ k + 1 → AreOf (λ s. s.turn + 1) k states
    → before ≡ free_turns x.machine x.known x.next → ((i : ℕ) → i + 1 ≤ before → IsAtRest x.machine x.known x.next (i + 1))
    → behind ≡ free_turns y.machine y.known y.next → (0 < before → (are_lines (news_of note) ≡ true) × (before ≤ behind + 1))
    → (cs : List Control) → cs ≡ o.controls → IsFree x k (n + 1) → o.end ≡ None
    → (cs ≡ copies (length x.machine.boards) (bare_control k false)) × (o.word ≡ bare_word k false) × IsFree y (k + 1) n
goes-free x y k n states note o before behind whole is next are before_is resting behind_is stays cs same free none =
    let f = free-in x k n before before_is free in
    let s = stays (some n before f.1) in
    let at_rest = subst (λ t. IsAtRest x.machine x.known t (n + 1)) (sym f.0) (resting n f.1) in
    let row = (rowed x.machine x.switches x.known k states note whole).row in
    let nothing : OrdersNothing (reacted x k states note).ordered =
    ⊎_elim (λ e. absurd (not-ended _ (ap (λ (p : Ordered). p.end) (sym is) ∙ none) e)) (λ r. r.0) (rests x.machine x.switches x.known k n states note at_rest (states-of k states are) s.0) in
    let d = connected x.machine x.switches x.known k states note at_rest.phase in
    let all = ordered x.machine k (reacted x k states note).ordered row.count row.controls row.turn row.end (ap (λ (p : Ordered). p.end) (sym is) ∙ none) nothing d in (
      same ∙ ap (λ (p : Ordered). p.controls) is ∙ all.0,
      ap (λ (p : Ordered). p.word) is ∙ all.1,
      inr (sym next, left n before behind _ f.1 s.1 (behind_is ∙ ap (free_turns y.machine y.known) next)),
    )
