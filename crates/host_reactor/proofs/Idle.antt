-- A turn of a reactor at rest.
use Rattle.std.proofs.Common.{◌≡◌, ◌≤◌, ◌<◌, ℕ, ◌+◌, inl, inr, Bool, true, false, List, [], ◌∷◌, ◌++◌, Option, Some, None, refl, ap, sym, ◌∙◌, subst, arith}
use Rattle.std.specs.Prelude.{◌-◌, ◌&&◌, nat_le, nat_lt}
use Rattle.std.proofs.lemmas.Bool.Decides.{nat_tests}
use Rattle.plan_types.specs.declared.machine.Machine.{Machine}
use Rattle.plan_types.specs.declared.cause.Cause.{Cause}
use Rattle.plan_types.specs.Lines.{Clocks}
use Rattle.plan_types.specs.Machines.{axis_at}
use Rattle.msg_code.specs.declared.cmd.Cmd.{Cmd}
use Rattle.msg_code.specs.declared.talk.State.{State}
use Rattle.msg_code.specs.declared.talk.Note.{Note}
use Rattle.msg_code.specs.declared.talk.NoteNews.{NoteNews}
use Rattle.msg_code.specs.declared.talk.NoteNews.TheVariants as news
use Rattle.report_text.specs.declared.line.ReportLine.{ReportLine}
use Rattle.wire_scene.specs.declared.scene.Switch.{Switch}
use Rattle.trigger_group.specs.declared.order.Ctl.{Ctl}
use Rattle.trigger_group.specs.Group.{GroupState, orders, turned_group, ended}
use Rattle.board_asking.specs.declared.asking.Asking.{Asking}
use Rattle.axis_homing.specs.declared.homing.Homing.{Homing}
use Rattle.axis_homing.specs.declared.homing.HomingTurn.{HomingTurn}
use Rattle.host_reactor.specs.declared.ordered.Known.{Known}
use Rattle.host_reactor.specs.declared.ordered.Phase.{Phase}
use Rattle.board_asking.specs.Machine.{control_bytes}
use Rattle.board_asking.specs.Connecting.{listen_all}
use Rattle.board_asking.specs.Drift.{bytes_of, asks_now, clock_question, after_question, waiting, new_lines}
use Rattle.axis_homing.specs.Homing.{commands_to, hears_states, hears_all, answer_in, by_answer, goes_on_homing, homing_turn, homing_after}
use Rattle.host_reactor.specs.Notes.{are_lines, noted, news_of, is_out, known_behind, told_all}
use Rattle.host_reactor.specs.Report.{first_lines}
use Rattle.host_reactor.specs.Running.{all_ended, all_idle, is_finished, first_cause}
use Rattle.host_reactor.specs.Reactor.{Reacted, homing_commands, run_controls, run_askings, homed, carries_on, homes, after_homing, unless_stale, runs, by_phase, unless_ended, reacts}
use Rattle.host_reactor.specs.Free.{Resting, HomesFrom, AsksNone, AreOf, AreEmpty, IsAtRest, EndsOrRests}
use Rattle.host_reactor.proofs.Resting.{picked, listened, none-stale, waiting-rests, none-new, states-same, none-ordered, group-same}

-- a turn in which homing does nothing
abbrev sending : Homing → List Ctl → HomingTurn
sending h ctls = record { section = h.section; start = h.start; axis = h.axis; ctls = record { items = ctls }; cut = None; end = None }

abbrev idle : Option Homing → HomingTurn
idle None = record { section = 0; start = 0; axis = 0; ctls = record { items = [] }; cut = None; end = None }
idle (Some h) = sending h []

abbrev with_group : Homing → GroupState → Homing
with_group h g = record h { group = g }

pub not-yet : (k start : ℕ) (g : GroupState) → k < start → answer_in k start g ≡ None
not-yet k start g l = picked (nat_le start k) (ended g) None (grind (arith, nat_tests))

turn-idle : (clocks : List Clocks) (k n : ℕ) (states : List State) (o : Option Homing) → AreOf k states → HomesFrom o (k + (n + 1)) → homing_turn clocks k states o ≡ idle o
turn-idle clocks k n states None are from = refl
turn-idle clocks k n states (Some h) are from =
    let late = from.0 in
    let same = from.1 in
    let e = states-same clocks 0 h.start k states h.group are (omega arith) in
    ap (by_answer k (hears_all clocks states h)) (not-yet k h.start (hears_states clocks 0 h.start states h.group) (omega arith))
    ∙ ap (λ (g : GroupState). sending h (orders g k)) e
    ∙ ap (sending h) (none-ordered h.group k (omega arith))

after-idle : (clocks : List Clocks) (k n : ℕ) (states : List State) (o : Option Homing) → AreOf k states → HomesFrom o (k + (n + 1)) → homing_after clocks k states o ≡ o
after-idle clocks k n states None are from = refl
after-idle clocks k n states (Some h) are from =
    let late = from.0 in
    let same = from.1 in
    let e = states-same clocks 0 h.start k states h.group are (omega arith) in
    ap (goes_on_homing k (hears_all clocks states h)) (not-yet k h.start (hears_states clocks 0 h.start states h.group) (omega arith))
    ∙ ap (λ (g : GroupState). Some (with_group h (turned_group g k))) e
    ∙ ap (λ (g : GroupState). Some (with_group h g)) (group-same h.group k (omega arith))

from-later : (o : Option Homing) (a b : ℕ) → b ≤ a → HomesFrom o a → HomesFrom o b
from-later None a b l h = tt
from-later (Some g) a b l h = let f = h.0 in (omega arith, h.1)

pub no-question : (commands : List Cmd) (a : Asking) → a.waits ≡ false → asks_now commands a ≡ false
no-question commands a h = ap (λ (w : Bool). w && nat_lt (bytes_of commands) control_bytes) h

all-empty : (x q : List Cmd) → x ≡ [] → q ≡ [] → x ++ (q ++ []) ≡ []
all-empty x q e f = ap (λ (y : List Cmd). y ++ (q ++ [])) e ∙ ap (λ (y : List Cmd). y ++ []) f

empties : (m : Machine) (k b : ℕ) (turn : HomingTurn) (clocks : List Clocks) (askings : List Asking) → turn.ctls.items ≡ [] → Resting askings → AreEmpty (run_controls m k b turn [] clocks askings)
empties m k b turn clocks [] e h = tt
empties m k b turn [] (a ∷ askings) e h = empties m k b turn [] askings e h.2
empties m k b turn (c ∷ clocks) (a ∷ askings) e h =
    let commands = homing_commands m turn c b in
    let none : commands ≡ [] = ap (λ (xs : List Ctl). commands_to m c b turn.start (axis_at m turn.axis) xs) e in
    (all-empty commands (clock_question commands a) none (picked (asks_now commands a) _ [] (no-question commands a h.1)), empties m k (b + 1) turn clocks askings e h.2)

rest-on : (m : Machine) (k b : ℕ) (turn : HomingTurn) (clocks : List Clocks) (askings : List Asking) → Resting askings → Resting (run_askings m k b turn clocks askings)
rest-on m k b turn clocks [] h = tt
rest-on m k b turn [] (a ∷ askings) h = (h.0, h.1, rest-on m k b turn [] askings h.2)
rest-on m k b turn (c ∷ clocks) (a ∷ askings) h =
    let commands = homing_commands m turn c b in
    let same : after_question k commands a ≡ a = picked (asks_now commands a) _ a (no-question commands a h.1) in
    (ap (λ (x : Asking). x.since) same ∙ h.0, ap (λ (x : Asking). x.waits) same ∙ h.1, rest-on m k (b + 1) turn clocks askings h.2)

-- what holds before a turn of which the homing and the askings are heard
record IsHeard (m : Machine) (r : Known) (k n : ℕ) (askings : List Asking) : Type 0 where
  resting : Resting r.askings.items
  heard : Resting askings
  going : all_ended r.done r.reading ≡ false
  homing : HomesFrom r.homing (k + 1 + n)
  now : AsksNone m k
  asking : (i : ℕ) → i < n → AsksNone m (k + 1 + i)

carried : (m : Machine) (r : Known) (k n : ℕ) (lines : List ReportLine) (askings : List Asking) (turn : HomingTurn) → turn.ctls.items ≡ [] → turn.cut ≡ None → IsHeard m r k n askings → EndsOrRests m (k + 1) n (carries_on m r k lines askings turn None)
carried m r k n lines askings turn e f s =
    let waiting' = waiting-rests m k 0 askings s.now s.heard in
    inr (
      record {
        controls = empties m k 0 turn r.clocks (waiting m k 0 askings) e waiting';
        word = ap (λ (c : Option ℕ). homed c ++ new_lines m 0 r.askings.items askings) f ∙ none-new m 0 r.askings.items askings s.resting;
      },
      record { phase = refl; resting = rest-on m k 0 turn r.clocks (waiting m k 0 askings) waiting'; going = s.going; homing = s.homing; asking = s.asking },
    )

homes-idle : (o : Option Homing) (m : Machine) (switches : List Switch) (r : Known) (k n : ℕ) (states : List State) (lines : List ReportLine) (askings : List Asking) → IsHeard m r k n askings → EndsOrRests m (k + 1) n (homes m switches r k states lines askings (idle o))
homes-idle None m switches r k n states lines askings s =
    subst (λ (x : Reacted). EndsOrRests m (k + 1) n x)
    (sym (picked (is_finished r k states) _ _ (ap (λ (b : Bool). b && (nat_lt 4 (k - r.ended) && all_idle states)) s.going)))
    (carried m r k n (lines ++ []) askings (idle None) refl refl s)
homes-idle (Some h) m switches r k n states lines askings s =
    subst (λ (x : Reacted). EndsOrRests m (k + 1) n x)
    (sym (picked (is_finished r k states) _ _ (ap (λ (b : Bool). b && (nat_lt 4 (k - r.ended) && all_idle states)) s.going)))
    (carried m r k n (lines ++ []) askings (idle (Some h)) refl refl s)

runs-idle : (m : Machine) (switches : List Switch) (r : Known) (k n : ℕ) (states : List State) (lines : List ReportLine) → IsAtRest m r k (n + 1) → AreOf k states → EndsOrRests m (k + 1) n (runs m switches r k states lines)
runs-idle m switches r k n states lines rest are =
    let askings = listen_all r.askings.items states in
    let heard : Resting askings = listened r.askings.items states rest.resting in
    let later = after_homing r k states in
    let from : HomesFrom r.homing (k + 1 + n) = from-later r.homing (k + (n + 1)) (k + 1 + n) (omega arith) rest.homing in
    let now : AsksNone m k = subst (λ (t : ℕ). AsksNone m t) (omega arith) (rest.asking 0 (omega arith)) in
    let s : IsHeard m later k n askings = record {
      resting = rest.resting;
      heard = heard;
      going = rest.going;
      homing = subst (λ (o : Option Homing). HomesFrom o (k + 1 + n)) (sym (after-idle r.clocks k n states r.homing are rest.homing)) from;
      now = now;
      asking = λ i l. subst (λ (t : ℕ). AsksNone m t) (omega arith) (rest.asking (i + 1) (omega arith));
    } in
    subst (λ (o : Option Cause). EndsOrRests m (k + 1) n (unless_stale o m switches r k states lines askings)) (sym (none-stale k 0 askings heard))
    (subst (λ (t : HomingTurn). EndsOrRests m (k + 1) n (homes m switches later k states lines askings t)) (sym (turn-idle r.clocks k n states r.homing are rest.homing))
    (homes-idle r.homing m switches later k n states lines askings s))

ends-or : (o : Option Cause) (m : Machine) (switches : List Switch) (r : Known) (k n : ℕ) (states : List State) (lines : List ReportLine) → IsAtRest m r k (n + 1) → AreOf k states → EndsOrRests m (k + 1) n (unless_ended o m switches r k states lines)
ends-or (Some cause) m switches r k n states lines rest are = inl (cause, refl)
ends-or None m switches r k n states lines rest are =
    subst (λ (p : Phase). EndsOrRests m (k + 1) n (by_phase p m switches r k states lines)) (sym rest.phase) (runs-idle m switches r k n states lines rest are)

-- a note without news leaves a reactor at rest
abbrev cleared : Known → ℕ → Known
cleared r turn = record r { clear = turn }

clear-rests : (m : Machine) (r : Known) (k n clear : ℕ) → IsAtRest m r k n → IsAtRest m (cleared r clear) k n
clear-rests m r k n clear rest = record { phase = rest.phase; resting = rest.resting; going = rest.going; homing = rest.homing; asking = rest.asking }

-- nor does one that tells of further clock lines
lines-rest : (m : Machine) (ns : List NoteNews) (r : Known) (k n : ℕ) → are_lines ns ≡ true → IsAtRest m r k n → IsAtRest m (told_all m ns r) k n
lines-rest m [] r k n e rest = rest
lines-rest m (news.Line board line from ∷ ns) r k n e rest =
    lines-rest m ns (known_behind m r (news.Line board line from)) k n e (record { phase = rest.phase; resting = rest.resting; going = rest.going; homing = rest.homing; asking = rest.asking })
lines-rest m (news.Start section kind turn last moving ∷ ns) r k n e rest = absurd cc
lines-rest m (news.Done section turn ∷ ns) r k n e rest = absurd cc
lines-rest m (news.Read end sections ∷ ns) r k n e rest = absurd cc

noted-rests : (m : Machine) (note : Option Note) (r : Known) (k n : ℕ) → are_lines (news_of note) ≡ true → IsAtRest m r k n → IsAtRest m (noted m note r) k n
noted-rests m None r k n e rest = rest
noted-rests m (Some note) r k n e rest = clear-rests m (told_all m note.news r) k n note.clear (lines-rest m note.news r k n e rest)

pub rests : (m : Machine) (switches : List Switch) (r : Known) (k n : ℕ) (states : List State) (note : Option Note) → IsAtRest m r k (n + 1) → AreOf k states → are_lines (news_of note) ≡ true → EndsOrRests m (k + 1) n (reacts m switches r k states note)
rests m switches r k n states note rest are e =
    let s = noted m note r in
    ends-or (first_cause (is_out note) s.stopped states) m switches s k n states (first_lines m s k (news_of note) states) (noted-rests m note r k (n + 1) e rest) are
