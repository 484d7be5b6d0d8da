-- A calm turn orders nothing, and leaves what is known as it is.
use Rattle.std.proofs.Common.{◌≡◌, ◌≤◌, ℕ, ◌+◌, Bool, true, false, not, cond, List, [], ◌∷◌, ◌++◌, Option, Some, None, refl, ap, sym, ◌∙◌, append-nil, arith}
use Rattle.std.specs.Prelude.{◌-◌, ◌%◌, ◌==◌, ◌&&◌, ◌||◌, nat_lt, is_some}
use Rattle.std.proofs.lemmas.Bool.Decides.{nat_tests}
use Rattle.plan_types.specs.declared.machine.Machine.{Machine}
use Rattle.plan_types.specs.declared.cause.Cause.{Cause}
use Rattle.plan_types.specs.declared.cause.Cause.TheVariants as cause
use Rattle.plan_types.specs.Lines.{Clocks}
use Rattle.plan_types.specs.Machines.{board_at}
use Rattle.msg_code.specs.declared.cmd.Cmd.{Cmd}
use Rattle.msg_code.specs.declared.unit.Control.{Control}
use Rattle.msg_code.specs.declared.talk.Note.{Note}
use Rattle.msg_code.specs.declared.talk.NoteNews.{NoteNews}
use Rattle.msg_code.specs.declared.talk.ShutNews.{ShutNews}
use Rattle.msg_code.specs.declared.talk.State.{State}
use Rattle.msg_code.specs.declared.talk.WordNews.{WordNews}
use Rattle.report_text.specs.declared.line.ReportLine.{ReportLine}
use Rattle.wire_scene.specs.declared.scene.Switch.{Switch}
use Rattle.board_asking.specs.declared.asking.Asking.{Asking}
use Rattle.axis_homing.specs.declared.homing.Homing.{Homing}
use Rattle.axis_homing.specs.declared.homing.HomingTurn.{HomingTurn}
use Rattle.host_reactor.specs.declared.ordered.Begun.{Begun}
use Rattle.host_reactor.specs.declared.ordered.Known.{Known}
use Rattle.host_reactor.specs.declared.ordered.Phase.{Phase}
use Rattle.host_reactor.specs.declared.ordered.Phase.TheVariants.{Running}
use Rattle.board_asking.specs.Asking.{were_put}
use Rattle.board_asking.specs.Connecting.{control, listen_all}
use Rattle.board_asking.specs.Drift.{drifts, asks_now, clock_question, waiting, new_lines, stale}
use Rattle.axis_homing.specs.Homing.{homing_after, homing_turn}
use Rattle.host_reactor.specs.Notes.{told_all}
use Rattle.host_reactor.specs.Report.{first_lines, pulse_lines, section_line}
use Rattle.host_reactor.specs.Running.{all_ended, all_idle, any_out, first_cause, is_finished, late, late_of, or_cause, stop_of}
use Rattle.host_reactor.specs.Reactor.{Reacted, given, homing_commands, run_controls, run_askings, carries_on, finishes, homes, unless_stale, runs, by_phase, unless_ended, reacts_to, reacts}
use Rattle.host_reactor.specs.Free.{is_running, all_rest, any_drifts, is_quiet, before_homing, before_asking, clear_turns, free_turns, Resting, AsksNone}
use Rattle.host_reactor.specs.Calm.{homes_none, is_none, says_none, all_say_none, tells_start, is_still, is_calm, calm_controls}
use Rattle.host_reactor.proofs.Resting.{picked, listens-put, none-stale, waits-same, none-new}
use Rattle.host_reactor.proofs.Freed.{all-resting, running-is}
use Rattle.host_reactor.proofs.Idle.{no-question}
use Rattle.plan_types.proofs.Facts.{first_of_both, second_of_both, not_true}
use Rattle.std.proofs.lemmas.Bool.{and_right}

-- a turn in which nothing homes
abbrev idle : HomingTurn
idle = record { section = 0; start = 0; axis = 0; ctls = record { items = [] }; cut = None; end = None }

none-put : (s : State) → says_none s ≡ true → is_none s.asked ≡ true
none-put s h = second_of_both (not (is_some s.shut)) (is_none s.asked) (second_of_both (not s.out) (not (is_some s.shut) && is_none s.asked) h)

none-is : (ns : List ℕ) → is_none ns ≡ true → ns ≡ []
none-is [] h = refl
none-is (n ∷ ns) h = cc

homes-is : (o : Option Homing) → homes_none o ≡ true → o ≡ None
homes-is None h = refl
homes-is (Some g) h = cc

listened-same : (askings : List Asking) (states : List State) → Resting askings → all_say_none states ≡ true → listen_all askings states ≡ askings
listened-same [] states h e = refl
listened-same (a ∷ askings) [] h e = ap (λ (xs : List Asking). a ∷ xs) (listened-same askings [] h.2 refl)
listened-same (a ∷ askings) (s ∷ states) h e =
    let none = none-is s.asked (none-put s (first_of_both (says_none s) (all_say_none states) e)) in
    ap (λ (x : Asking). x ∷ listen_all askings states) (listens-put a s h.0 ∙ ap (λ (ns : List ℕ). were_put s.turn ns a) none)
    ∙ ap (λ (xs : List Asking). a ∷ xs) (listened-same askings states h.2 (second_of_both (says_none s) (all_say_none states) e))

waiting-same : (m : Machine) (k b : ℕ) (askings : List Asking) → AsksNone m k → Resting askings → waiting m k b askings ≡ askings
waiting-same m k b [] e h = refl
waiting-same m k b (a ∷ askings) e h =
    ap (λ (x : Asking). x ∷ waiting m k (b + 1) askings) (waits-same (drifts (board_at m b).drift) k a h.0 (e b))
    ∙ ap (λ (xs : List Asking). a ∷ xs) (waiting-same m k (b + 1) askings e h.2)

asked-same : (m : Machine) (k b : ℕ) (turn : HomingTurn) (clocks : List Clocks) (askings : List Asking) → Resting askings → run_askings m k b turn clocks askings ≡ askings
asked-same m k b turn clocks [] h = refl
asked-same m k b turn [] (a ∷ askings) h = ap (λ (xs : List Asking). a ∷ xs) (asked-same m k b turn [] askings h.2)
asked-same m k b turn (c ∷ clocks) (a ∷ askings) h =
    let commands = homing_commands m turn c b in
    ap (λ (x : Asking). x ∷ run_askings m k (b + 1) turn clocks askings) (picked (asks_now commands a) _ a (no-question commands a h.1))
    ∙ ap (λ (xs : List Asking). a ∷ xs) (asked-same m k (b + 1) turn clocks askings h.2)

controls-calm : (m : Machine) (k b : ℕ) (clocks : List Clocks) (askings : List Asking) → Resting askings → run_controls m k b idle [] clocks askings ≡ calm_controls k clocks askings
controls-calm m k b clocks [] h = refl
controls-calm m k b [] (a ∷ askings) h = controls-calm m k b [] askings h.2
controls-calm m k b (c ∷ clocks) (a ∷ askings) h =
    let question : clock_question [] a ≡ [] = picked (asks_now [] a) _ [] (no-question [] a h.1) in
    ap (λ (q : List Cmd). control k (q ++ []) true false ∷ run_controls m k (b + 1) idle [] clocks askings) question
    ∙ ap (λ (cs : List Control). control k [] true false ∷ cs) (controls-calm m k (b + 1) clocks askings h.2)

-- what is known, with some of it told anew
abbrev rebuilt : Known → Phase → List Asking → Known
rebuilt r phase askings = record r { phase = phase; askings = record { items = askings } }

abbrev with_homing : Known → Option Homing → Known
with_homing r homing = record r { homing = homing }

abbrev told_as : Known → ℕ → List Control → List WordNews → List ReportLine → Reacted
told_as r k controls news lines = record { known = r; ordered = given k controls news lines None }

carried-calm : (m : Machine) (r : Known) (k : ℕ) (lines : List ReportLine) → r.phase ≡ Running → Resting r.askings.items → AsksNone m k → carries_on m r k lines r.askings.items idle None ≡ told_as r k (calm_controls k r.clocks r.askings.items) [] lines
carried-calm m r k lines p h e =
    let askings = r.askings.items in
    let news = new_lines m 0 askings askings in
    let calm = calm_controls k r.clocks askings in
    ap (λ (ws : List Asking). told_as (rebuilt r Running (run_askings m k 0 idle r.clocks ws)) k (run_controls m k 0 idle [] r.clocks ws) news lines) (waiting-same m k 0 askings e h)
    ∙ ap (λ (xs : List Asking). told_as (rebuilt r Running xs) k (run_controls m k 0 idle [] r.clocks askings) news lines) (asked-same m k 0 idle r.clocks askings h)
    ∙ ap (λ (cs : List Control). told_as (rebuilt r Running askings) k cs news lines) (controls-calm m k 0 r.clocks askings h)
    ∙ ap (λ (ns : List WordNews). told_as (rebuilt r Running askings) k calm ns lines) (none-new m 0 askings askings h)
    ∙ ap (λ (ph : Phase). told_as (rebuilt r ph askings) k calm [] lines) (sym p)

-- what holds in a calm turn
record Calms (m : Machine) (r : Known) (k : ℕ) (states : List State) : Type 0 where
  phase : r.phase ≡ Running
  resting : Resting r.askings.items
  going : all_ended r.done r.reading ≡ false
  homing : r.homing ≡ None
  stopped : r.stopped ≡ None
  start : tells_start k r.begun ≡ false
  said : all_say_none states ≡ true
  first : (k == 0) ≡ false
  asking : AsksNone m k

untold : (o : Option Cause) → not (is_some o) ≡ true → o ≡ None
untold None h = refl
untold (Some c) h = cc

not-first : (k : ℕ) → (k % 1_000 == 0) ≡ false → (k == 0) ≡ false
not-first k h = grind (arith, nat_tests)

-- no board is asked in a turn that is no thousandth one
none-asked : (m : Machine) (k : ℕ) → (k % 1_000 == 0) ≡ false → AsksNone m k
none-asked m k h b = and_right (drifts (board_at m b).drift) (k % 1_000 == 0) h

calms : (m : Machine) (r : Known) (k : ℕ) (states : List State) → is_calm r k states ≡ true → Calms m r k states
calms m r k states h =
    let b = not (k % 1_000 == 0) in
    let c = all_say_none states && b in
    let d = not (tells_start k r.begun) && c in
    let e = not (is_some r.stopped) in
    let f = homes_none r.homing && e in
    let still = first_of_both (is_still r) d h in
    let hd = second_of_both (is_still r) d h in
    let quiet = first_of_both (is_quiet r) f still in
    let rests = second_of_both (is_running r.phase) (all_rest r.askings.items && not (all_ended r.done r.reading)) quiet in
    let he = second_of_both (is_quiet r) f still in
    let hb = second_of_both (not (tells_start k r.begun)) c hd in
    let turn = not_true (k % 1_000 == 0) (second_of_both (all_say_none states) b hb) in
    record {
      phase = running-is r.phase (first_of_both (is_running r.phase) (all_rest r.askings.items && not (all_ended r.done r.reading)) quiet);
      resting = all-resting r.askings.items (first_of_both (all_rest r.askings.items) (not (all_ended r.done r.reading)) rests);
      going = not_true (all_ended r.done r.reading) (second_of_both (all_rest r.askings.items) (not (all_ended r.done r.reading)) rests);
      homing = homes-is r.homing (first_of_both (homes_none r.homing) e he);
      stopped = untold r.stopped (second_of_both (homes_none r.homing) e he);
      start = not_true (tells_start k r.begun) (first_of_both (not (tells_start k r.begun)) c hd);
      said = first_of_both (all_say_none states) b hb;
      first = not-first k turn;
      asking = none-asked m k turn;
    }

runs-calm : (m : Machine) (switches : List Switch) (r : Known) (k : ℕ) (states : List State) (lines : List ReportLine) → Calms m r k states → runs m switches r k states lines ≡ told_as r k (calm_controls k r.clocks r.askings.items) [] lines
runs-calm m switches r k states lines c =
    let askings = r.askings.items in
    ap (λ (xs : List Asking). unless_stale (stale k 0 xs) m switches r k states lines xs) (listened-same askings states c.resting c.said)
    ∙ ap (λ (o : Option Cause). unless_stale o m switches r k states lines askings) (none-stale k 0 askings c.resting)
    ∙ ap (λ (o : Option Homing). homes m switches (with_homing r (homing_after r.clocks k states o)) k states lines askings (homing_turn r.clocks k states o)) c.homing
    ∙ ap (λ (o : Option Homing). homes m switches (with_homing r o) k states lines askings idle) (sym c.homing)
    ∙ picked (is_finished r k states) (finishes (stop_of r.reading) m r k (lines ++ []) askings idle) (carries_on m r k (lines ++ []) askings idle None)
    (ap (λ (b : Bool). b && (nat_lt 4 (k - r.ended) && all_idle states)) c.going)
    ∙ ap (λ (ls : List ReportLine). carries_on m r k ls askings idle None) (append-nil lines)
    ∙ carried-calm m r k lines c.phase c.resting c.asking

-- nothing ends a run in a calm turn
none-wants : (states : List State) → all_say_none states ≡ true → any_out states ≡ false
none-wants [] h = refl
none-wants (s ∷ states) h =
    let one = not_true s.out (first_of_both (not s.out) (not (is_some s.shut) && is_none s.asked) (first_of_both (says_none s) (all_say_none states) h)) in
    ap (λ (b : Bool). b || any_out states) one ∙ none-wants states (second_of_both (says_none s) (all_say_none states) h)

not-late : (b : ℕ) (o : Option ShutNews) → not (is_some o) ≡ true → late_of b o ≡ None
not-late b None h = refl
not-late b (Some n) h = cc

none-late : (b : ℕ) (states : List State) → all_say_none states ≡ true → late b states ≡ None
none-late b [] h = refl
none-late b (s ∷ states) h =
    let rest = second_of_both (not s.out) (not (is_some s.shut) && is_none s.asked) (first_of_both (says_none s) (all_say_none states) h) in
    ap (λ (o : Option Cause). or_cause o (late (b + 1) states)) (not-late b s.shut (first_of_both (not (is_some s.shut)) (is_none s.asked) rest))
    ∙ none-late (b + 1) states (second_of_both (says_none s) (all_say_none states) h)

none-first : (m : Machine) (r : Known) (k : ℕ) (states : List State) → Calms m r k states → first_cause false r.stopped states ≡ None
none-first m r k states c =
    picked (any_out states) (Some cause.Memory) (or_cause r.stopped (late 0 states)) (none-wants states c.said)
    ∙ ap (λ (o : Option Cause). or_cause o (late 0 states)) c.stopped
    ∙ none-late 0 states c.said

-- only pulses are told in it
no-section : (k : ℕ) (o : Option Begun) → tells_start k o ≡ false → section_line k o ≡ []
no-section k None h = refl
no-section k (Some b) h = picked (b.turn == k) _ [] h

lines-calm : (m : Machine) (r : Known) (k : ℕ) (states : List State) → Calms m r k states → first_lines m r k [] states ≡ pulse_lines m 0 states
lines-calm m r k states c =
    let rest = section_line k r.begun ++ pulse_lines m 0 states in
    ap (λ (ls : List ReportLine). ls ++ rest) (picked (k == 0) _ [] c.first) ∙ ap (λ (ls : List ReportLine). ls ++ pulse_lines m 0 states) (no-section k r.begun c.start)

abbrev cleared : Known → ℕ → Known
cleared r clear = record r { clear = clear }

reacts-calm : (m : Machine) (switches : List Switch) (r : Known) (k : ℕ) (states : List State) (note : Note) → is_calm r k states ≡ true → note.news ≡ [] → note.out ≡ false → reacts m switches r k states (Some note) ≡ told_as (cleared r note.clear) k (calm_controls k r.clocks r.askings.items) [] (pulse_lines m 0 states)
reacts-calm m switches r k states note h none out =
    let q = cleared r note.clear in
    let c = calms m q k states h in
    let lines = first_lines m q k [] states in
    ap (λ (ns : List NoteNews). reacts_to m switches (cleared (told_all m ns r) note.clear) k states ns note.out) none
    ∙ ap (λ (b : Bool). reacts_to m switches q k states [] b) out
    ∙ ap (λ (o : Option Cause). unless_ended o m switches q k states lines) (none-first m q k states c)
    ∙ ap (λ (p : Phase). by_phase p m switches q k states lines) c.phase
    ∙ runs-calm m switches q k states lines c
    ∙ ap (λ (ls : List ReportLine). told_as q k (calm_controls k r.clocks r.askings.items) [] ls) (lines-calm m q k states c)

pub calm_known : (m : Machine) (switches : List Switch) (r : Known) (k : ℕ) (states : List State) (note : Note) → is_calm r k states ≡ true → note.news ≡ [] → note.out ≡ false → cleared r note.clear ≡ (reacts m switches r k states (Some note)).known
calm_known m switches r k states note h none out = sym (ap (λ (x : Reacted). x.known) (reacts-calm m switches r k states note h none out))

pub calm_ordered : (m : Machine) (switches : List Switch) (r : Known) (k : ℕ) (states : List State) (note : Note) → is_calm r k states ≡ true → note.news ≡ [] → note.out ≡ false
    → given k (calm_controls k r.clocks r.askings.items) [] (pulse_lines m 0 states) None ≡ (reacts m switches r k states (Some note)).ordered
calm_ordered m switches r k states note h none out = sym (ap (λ (x : Reacted). x.ordered) (reacts-calm m switches r k states note h none out))

-- of the turns that a reactor is free for, all but one are left behind a calm turn
left-asking : (d : Bool) (k x y : ℕ) → x ≤ y + 1 → before_asking d k x ≤ before_asking d (k + 1) y + 1
left-asking true k x y h = omega arith
left-asking false k x y h = h

left-homing : (o : Option Homing) (k x y : ℕ) → x ≤ y + 1 → before_homing o k x ≤ before_homing o (k + 1) y + 1
left-homing None k x y h = h
left-homing (Some g) k x y h = omega arith

left-clear : (before behind k : ℕ) → before ≤ behind → clear_turns before k ≤ clear_turns behind (k + 1) + 1
left-clear before behind k h = omega arith

left-quiet : (b : Bool) (x y : ℕ) → x ≤ y + 1 → cond b x 0 ≤ cond b y 0 + 1
left-quiet true x y h = h
left-quiet false x y h = omega arith

pub left_free : (m : Machine) (r : Known) (k clear : ℕ) → r.clear ≤ clear → free_turns m r k ≤ free_turns m (cleared r clear) (k + 1) + 1
left_free m r k clear h =
    let x = clear_turns r.clear k in
    let y = clear_turns clear (k + 1) in
    left-quiet (is_quiet r) _ _ (left-asking (any_drifts m.boards) k (before_homing r.homing k x) (before_homing r.homing (k + 1) y) (left-homing r.homing k x y (left-clear r.clear clear k h)))
