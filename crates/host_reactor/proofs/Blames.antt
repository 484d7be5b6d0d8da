-- For which causes a run ends, by what the reactor was told.
use Rattle.std.proofs.Common.{◌≡◌, ◌⊎◌, arith, inl, inr, ℕ, suc, ◌+◌, Bool, true, false, cond, List, [], ◌∷◌, ◌++◌, Option, Some, None, refl, sym, ap, ◌∙◌, subst, ⊎_elim}
use Rattle.std.specs.Prelude.{◌||◌, ◌==◌}
use Rattle.plan_types.specs.declared.machine.Machine.{Machine}
use Rattle.plan_types.specs.declared.cause.Cause.{Cause}
use Rattle.plan_types.specs.declared.cause.Cause.TheVariants as cause
use Rattle.plan_types.specs.declared.plan.ReadStop.{ReadStop}
use Rattle.plan_types.specs.declared.plan.ReadStop.TheVariants as read
use Rattle.plan_types.specs.Lines.{Clocks}
use Rattle.plan_types.specs.Machines.{axis_at}
use Rattle.msg_code.specs.declared.talk.ShutNews.{ShutNews}
use Rattle.msg_code.specs.declared.talk.State.{State}
use Rattle.msg_code.specs.declared.talk.Note.{Note}
use Rattle.msg_code.specs.declared.talk.NoteNews.{NoteNews}
use Rattle.msg_code.specs.declared.talk.NoteNews.TheVariants as news
use Rattle.report_text.specs.declared.line.ReportLine.{ReportLine}
use Rattle.wire_scene.specs.declared.scene.Switch.{Switch}
use Rattle.trigger_group.specs.declared.order.End.{End}
use Rattle.trigger_group.specs.declared.order.End.TheVariants as end
use Rattle.board_asking.specs.declared.asking.Asking.{Asking}
use Rattle.axis_homing.specs.declared.homing.Homing.{Homing}
use Rattle.axis_homing.specs.declared.homing.HomingTurn.{HomingTurn}
use Rattle.host_reactor.specs.declared.ordered.Known.{Known}
use Rattle.host_reactor.specs.declared.ordered.Phase.{Phase}
use Rattle.host_reactor.specs.declared.ordered.Phase.TheVariants.{Connecting, Running, Stopping}
use Rattle.board_asking.specs.Asking.{gives_up}
use Rattle.board_asking.specs.Connecting.{all_connected, giving_up, listen_all, ready_all}
use Rattle.board_asking.specs.Drift as drift
use Rattle.board_asking.specs.Drift.{stale}
use Rattle.axis_homing.specs.Homing.{answer_in, by_answer, hears_all, homing_turn}
use Rattle.host_reactor.specs.Notes.{noted, news_of, is_out, known_behind, told_all}
use Rattle.host_reactor.specs.Report.{first_lines}
use Rattle.host_reactor.specs.Rows.{MayEndFor, IsOwn}
use Rattle.host_reactor.specs.Running.{any_out, first_cause, is_finished, late, late_of, or_cause, stop_of}
use Rattle.host_reactor.specs.Reactor.{Reacted, unless_given_up, carries_on, finishes, unless_homing_ends, cut_line, after_homing, unless_stale, unless_late_stale, by_phase, unless_ended, reacts}

-- no cause, or one that a run has of itself
abbrev Own : Option Cause → Type 0
Own None = Unit {0}
Own (Some c) = IsOwn c

own-if : (b : Bool) (x y : Option Cause) → Own x → Own y → Own (cond b x y)
own-if true x y h i = h
own-if false x y h i = i

own-or : (x y : Option Cause) → Own x → Own y → Own (or_cause x y)
own-or None y h i = i
own-or (Some c) y h i = h

late-one : (b : ℕ) (s : Option ShutNews) → Own (late_of b s)
late-one b None = tt
late-one b (Some s) = own-if (s.reason == 1) _ _ tt tt

late-own : (b : ℕ) (states : List State) → Own (late b states)
late-own b [] = tt
late-own b (s ∷ states) = own-or (late_of b s.shut) (late (b + 1) states) (late-one b s.shut) (late-own (b + 1) states)

giving-own : (k b : ℕ) (askings : List Asking) → Own (giving_up k b askings)
giving-own k b [] = tt
giving-own k b (a ∷ askings) = own-if (gives_up k a) _ _ tt (giving-own k (b + 1) askings)

stale-own : (k b : ℕ) (askings : List Asking) → Own (stale k b askings)
stale-own k b [] = tt
stale-own k b (a ∷ askings) = own-if (drift.gives_up k a) _ _ tt (stale-own k (b + 1) askings)

answer-own : (k : ℕ) (h : Homing) (e : Option End) → Own (by_answer k h e).end
answer-own k h None = tt
answer-own k h (Some (end.Endstop tick)) = tt
answer-own k h (Some end.NoSwitch) = tt
answer-own k h (Some (end.Expired b turn)) = tt

homing-own : (clocks : List Clocks) (k : ℕ) (states : List State) (h : Option Homing) → Own (homing_turn clocks k states h).end
homing-own clocks k states None = tt
homing-own clocks k states (Some h) = let g = hears_all clocks states h in answer-own k g (answer_in k g.start g.group)

-- a turn that ends a run for a cause of its own, or goes on; what the reactor was told stays
pub record Ends (stopped : Option Cause) (x : Reacted) : Type 0 where
  pub own : Own x.ordered.end
  pub stays : x.known.stopped ≡ stopped

either : (b : Bool) (o : Option Cause) (x y : Reacted) → Ends o x → Ends o y → Ends o (cond b x y)
either true o x y h i = h
either false o x y h i = i

given-up : (o : Option Cause) (m : Machine) (r : Known) (k : ℕ) (lines : List ReportLine) (askings : List Asking) → Own o → Ends r.stopped (unless_given_up o m r k lines askings)
given-up (Some c) m r k lines askings h = record { own = h; stays = refl }
given-up None m r k lines askings h = either (all_connected askings) r.stopped _ _ (record { own = tt; stays = refl }) (record { own = tt; stays = refl })

finished : (how : ReadStop) (m : Machine) (r : Known) (k : ℕ) (lines : List ReportLine) (askings : List Asking) (turn : HomingTurn) → Ends r.stopped (finishes how m r k lines askings turn)
finished (read.Stop line) m r k lines askings turn = record { own = tt; stays = refl }
finished read.End m r k lines askings turn = record { own = tt; stays = refl }
finished (read.Refused line kind) m r k lines askings turn = record { own = tt; stays = refl }

homing-ends : (o : Option Cause) (m : Machine) (r : Known) (k : ℕ) (states : List State) (lines cut : List ReportLine) (askings : List Asking) (turn : HomingTurn) → Own o → Ends r.stopped (unless_homing_ends o m r k states lines cut askings turn)
homing-ends (Some c) m r k states lines cut askings turn h = record { own = h; stays = refl }
homing-ends None m r k states lines cut askings turn h =
    either (is_finished r k states) r.stopped _ _ (finished (stop_of r.reading) m r k (lines ++ cut) askings turn) (record { own = tt; stays = refl })

stale-ends : (o : Option Cause) (m : Machine) (switches : List Switch) (r : Known) (k : ℕ) (states : List State) (lines : List ReportLine) (askings : List Asking) → Own o → Ends r.stopped (unless_stale o m switches r k states lines askings)
stale-ends (Some c) m switches r k states lines askings h = record { own = h; stays = refl }
stale-ends None m switches r k states lines askings h =
    let turn = homing_turn r.clocks k states r.homing in
    homing-ends turn.end m (after_homing r k states) k states lines (cut_line m switches turn.section (axis_at m turn.axis) turn.cut) askings turn (homing-own r.clocks k states r.homing)

late-stale : (o : Option Cause) (m : Machine) (r : Known) (k : ℕ) (lines : List ReportLine) (line : ℕ) → Own o → Ends r.stopped (unless_late_stale o m r k lines line)
late-stale (Some c) m r k lines line h = record { own = h; stays = refl }
late-stale None m r k lines line h = record { own = tt; stays = refl }

phases : (p : Phase) (m : Machine) (switches : List Switch) (r : Known) (k : ℕ) (states : List State) (lines : List ReportLine) → Ends r.stopped (by_phase p m switches r k states lines)
phases Connecting m switches r k states lines =
    let askings = ready_all m 0 (listen_all r.askings.items states) in
    given-up (giving_up k 0 askings) m r k lines askings (giving-own k 0 askings)
phases Running m switches r k states lines =
    let askings = listen_all r.askings.items states in
    stale-ends (stale k 0 askings) m switches r k states lines askings (stale-own k 0 askings)
phases (Stopping line) m switches r k states lines = late-stale (stale k 0 (listen_all r.askings.items states)) m r k lines line (stale-own k 0 (listen_all r.askings.items states))

-- what a note tells isn't what the reactor is told to stop for
pub told-stays : (m : Machine) (r : Known) (n : NoteNews) → (known_behind m r n).stopped ≡ r.stopped
told-stays m r (news.Start section kind turn last moving) = refl
told-stays m r (news.Done section turn) = refl
told-stays m r (news.Read end sections) = refl
told-stays m r (news.Line board line from) = refl

pub all-stay : (m : Machine) (ns : List NoteNews) (r : Known) → (told_all m ns r).stopped ≡ r.stopped
all-stay m [] r = refl
all-stay m (n ∷ ns) r = all-stay m ns (known_behind m r n) ∙ told-stays m r n

pub note-stays : (m : Machine) (note : Option Note) (r : Known) → (noted m note r).stopped ≡ r.stopped
note-stays m None r = refl
note-stays m (Some note) r = all-stay m note.news r

-- the causes that come first
abbrev First : Option Cause → Option Cause → Type 0
First stopped None = stopped ≡ None
First stopped (Some c) = MayEndFor stopped c

own-first : (l : Option Cause) → Own l → First None l
own-first None h = refl
own-first (Some c) h = inr (inr (refl, h))

first-of : (stopped l : Option Cause) → Own l → First stopped (or_cause stopped l)
first-of None l h = own-first l h
first-of (Some c) l h = inr (inl refl)

first-if : (b : Bool) (stopped x : Option Cause) → First stopped x → First stopped (cond b (Some cause.Memory) x)
first-if true stopped x h = inl refl
first-if false stopped x h = h

first-are : (out : Bool) (stopped : Option Cause) (states : List State) → First stopped (first_cause out stopped states)
first-are out stopped states = first-if (out || any_out states) stopped (or_cause stopped (late 0 states)) (first-of stopped (late 0 states) (late-own 0 states))

-- a run that goes on was told nothing, and one that ends has its cause
pub record Blames (stopped : Option Cause) (x : Reacted) : Type 0 where
  pub ends : (c : Cause) → x.ordered.end ≡ Some c → MayEndFor stopped c
  pub goes : x.ordered.end ≡ None → (stopped ≡ None) × (x.known.stopped ≡ None)
  pub stays : x.known.stopped ≡ stopped

own-is : (o : Option Cause) (c : Cause) → Own o → o ≡ Some c → IsOwn c
own-is o c h e = subst Own e h

ended : (o : Option Cause) (m : Machine) (switches : List Switch) (r : Known) (k : ℕ) (states : List State) (lines : List ReportLine) → First r.stopped o → Blames r.stopped (unless_ended o m switches r k states lines)
ended (Some c) m switches r k states lines f = record {
  ends = λ d e. subst (λ x. MayEndFor r.stopped x) (let g = e in cc) f;
  goes = λ e. absurd (let g = e in cc);
  stays = refl;
}
ended None m switches r k states lines f =
    let p = phases r.phase m switches r k states lines in record {
      ends = λ c e. inr (inr (f, own-is _ c p.own e));
      goes = λ e. (f, p.stays ∙ f);
      stays = p.stays;
    }

pub blames : (m : Machine) (switches : List Switch) (r : Known) (k : ℕ) (states : List State) (note : Option Note) → Blames r.stopped (reacts m switches r k states note)
blames m switches r k states note =
    let s = noted m note r in
    let same = note-stays m note r in
    let all = ended (first_cause (is_out note) s.stopped states) m switches s k states (first_lines m s k (news_of note) states) (first-are (is_out note) s.stopped states) in
    subst (λ o. Blames o (reacts m switches r k states note)) same all
