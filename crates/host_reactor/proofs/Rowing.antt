-- What is ordered in a turn stands in a row: one control for each board.
use Rattle.std.proofs.Common.{◌≡◌, ◌⊎◌, arith, inl, inr, ℕ, suc, ◌+◌, Bool, true, false, cond, List, [], ◌∷◌, ◌++◌, length, Option, Some, None, refl, sym, ap, ◌∙◌, subst, ⊎_elim}
use Rattle.std.specs.Prelude.{slice_set, nat_lt}
use Rattle.std.proofs.lemmas.List.{length-set}
use Rattle.plan_types.specs.declared.machine.Machine.{Machine}
use Rattle.plan_types.specs.declared.machine.BoardDef.{BoardDef}
use Rattle.plan_types.specs.declared.cause.Cause.{Cause}
use Rattle.plan_types.specs.declared.cause.Cause.TheVariants as cause
use Rattle.plan_types.specs.declared.plan.Line.{Line}
use Rattle.plan_types.specs.declared.plan.ReadStop.{ReadStop}
use Rattle.plan_types.specs.declared.plan.ReadStop.TheVariants as read
use Rattle.plan_types.specs.Lines.{Clocks}
use Rattle.plan_types.specs.Machines.{axis_at}
use Rattle.msg_code.specs.declared.cmd.Cmd.{Cmd}
use Rattle.msg_code.specs.declared.talk.State.{State}
use Rattle.msg_code.specs.declared.talk.Note.{Note}
use Rattle.msg_code.specs.declared.talk.NoteNews.{NoteNews}
use Rattle.msg_code.specs.declared.talk.NoteNews.TheVariants as news
use Rattle.report_text.specs.declared.line.ReportLine.{ReportLine}
use Rattle.wire_scene.specs.declared.scene.Switch.{Switch}
use Rattle.board_asking.specs.declared.asking.Asking.{Asking}
use Rattle.axis_homing.specs.declared.homing.HomingTurn.{HomingTurn}
use Rattle.host_reactor.specs.declared.ordered.Known.{Known}
use Rattle.host_reactor.specs.declared.ordered.Phase.{Phase}
use Rattle.host_reactor.specs.declared.ordered.Phase.TheVariants.{Connecting, Running, Stopping}
use Rattle.board_asking.specs.Clocks.{added_at, no_clocks}
use Rattle.board_asking.specs.Connecting.{ask_all, asking_controls, all_connected, board_lines, one_line_clocks, giving_up, listen_all, ready_all}
use Rattle.board_asking.specs.Drift.{stale, waiting}
use Rattle.axis_homing.specs.Homing.{homing_turn}
use Rattle.host_reactor.specs.Notes.{noted, news_of, is_out, known_behind, told_all}
use Rattle.host_reactor.specs.Report.{count_lines, first_lines}
use Rattle.host_reactor.specs.Rows.{AreControls, IsRow, HasEachBoard}
use Rattle.host_reactor.specs.Running.{first_cause, is_finished, stop_of}
use Rattle.host_reactor.specs.Reactor.{Reacted, asks_boards, ends, is_connected_now, new_askings, new_known, plain_controls, stop_command, run_askings, run_controls, unless_given_up, carries_on, finishes, stops, unless_homing_ends, cut_line, after_homing, unless_stale, unless_late_stale, by_phase, unless_ended, reacts}

-- how many there are
pub listened : (askings : List Asking) (states : List State) → length (listen_all askings states) ≡ length askings
listened [] states = refl
listened (a ∷ askings) [] = let e = listened askings [] in ap suc e
listened (a ∷ askings) (s ∷ states) = let e = listened askings states in ap suc e

pub readied : (m : Machine) (b : ℕ) (askings : List Asking) → length (ready_all m b askings) ≡ length askings
readied m b [] = refl
readied m b (a ∷ askings) = ap suc (readied m (b + 1) askings)

asked : (m : Machine) (k b : ℕ) (askings : List Asking) → length (ask_all m k b askings) ≡ length askings
asked m k b [] = refl
asked m k b (a ∷ askings) = ap suc (asked m k (b + 1) askings)

waited : (m : Machine) (k b : ℕ) (askings : List Asking) → length (waiting m k b askings) ≡ length askings
waited m k b [] = refl
waited m k b (a ∷ askings) = ap suc (waited m k (b + 1) askings)

lined : (m : Machine) (b : ℕ) (askings : List Asking) → length (one_line_clocks (board_lines m b askings)) ≡ length askings
lined m b [] = refl
lined m b (a ∷ askings) = ap suc (lined m (b + 1) askings)

run-asked : (m : Machine) (k b : ℕ) (turn : HomingTurn) (clocks : List Clocks) (askings : List Asking) → length (run_askings m k b turn clocks askings) ≡ length askings
run-asked m k b turn clocks [] = refl
run-asked m k b turn [] (a ∷ askings) = ap suc (run-asked m k b turn [] askings)
run-asked m k b turn (c ∷ clocks) (a ∷ askings) = ap suc (run-asked m k (b + 1) turn clocks askings)

run-controlled : (m : Machine) (k b : ℕ) (turn : HomingTurn) (stop : List Cmd) (clocks : List Clocks) (askings : List Asking) → length clocks ≡ length askings → length (run_controls m k b turn stop clocks askings) ≡ length askings
run-controlled m k b turn stop clocks [] e = refl
run-controlled m k b turn stop [] (a ∷ askings) e = cc
run-controlled m k b turn stop (c ∷ clocks) (a ∷ askings) e = ap suc (run-controlled m k (b + 1) turn stop clocks askings (let f = e in omega arith))

asking-controlled : (m : Machine) (k b : ℕ) (askings : List Asking) → length (asking_controls m k b askings) ≡ length askings
asking-controlled m k b [] = refl
asking-controlled m k b (a ∷ askings) = ap suc (asking-controlled m k (b + 1) askings)

plain-controlled : (k : ℕ) (commands : List Cmd) (connected end : Bool) (boards : List BoardDef) → length (plain_controls k commands connected end boards) ≡ length boards
plain-controlled k commands connected end [] = refl
plain-controlled k commands connected end (b ∷ boards) = ap suc (plain-controlled k commands connected end boards)

-- each is of the turn, and says whether the run ends
plain-are : (k : ℕ) (commands : List Cmd) (connected end : Bool) (boards : List BoardDef) → AreControls k end (plain_controls k commands connected end boards)
plain-are k commands connected end [] = tt
plain-are k commands connected end (b ∷ boards) = (refl, refl, plain-are k commands connected end boards)

asking-are : (m : Machine) (k b : ℕ) (askings : List Asking) → AreControls k false (asking_controls m k b askings)
asking-are m k b [] = tt
asking-are m k b (a ∷ askings) = (refl, refl, asking-are m k (b + 1) askings)

running-are : (m : Machine) (k b : ℕ) (turn : HomingTurn) (stop : List Cmd) (clocks : List Clocks) (askings : List Asking) → AreControls k false (run_controls m k b turn stop clocks askings)
running-are m k b turn stop clocks [] = tt
running-are m k b turn stop [] (a ∷ askings) = running-are m k b turn stop [] askings
running-are m k b turn stop (c ∷ clocks) (a ∷ askings) = (refl, refl, running-are m k (b + 1) turn stop clocks askings)

-- a turn whose orders stand in a row, and whose reactor goes on whole
pub record Rowed (m : Machine) (k : ℕ) (x : Reacted) : Type 0 where
  pub row : IsRow m k x.ordered
  pub whole : HasEachBoard m x.known

either : (m : Machine) (k : ℕ) (b : Bool) (x y : Reacted) → Rowed m k x → Rowed m k y → Rowed m k (cond b x y)
either m k true x y h i = h
either m k false x y h i = i

-- the run ends
over : (m : Machine) (k : ℕ) (c : Cause) (r : Known) (lines : List ReportLine) → HasEachBoard m r → Rowed m k (ends m r k lines c)
over m k c r lines w = record {
  row = record { count = plain-controlled k [] true true m.boards; controls = plain-are k [] true true m.boards; turn = refl; end = refl };
  whole = w;
}

given-up : (o : Option Cause) (m : Machine) (r : Known) (k : ℕ) (lines : List ReportLine) (askings : List Asking) → HasEachBoard m r → length askings ≡ length m.boards → r.phase ≡ Connecting → Rowed m k (unless_given_up o m r k lines askings)
given-up (Some c) m r k lines askings w e p = over m k c r lines w
given-up None m r k lines askings w e p =
    either m k (all_connected askings) (is_connected_now m r k lines askings) (asks_boards m r k lines askings)
    record {
      row = record { count = plain-controlled k [] false false m.boards; controls = plain-are k [] false false m.boards; turn = refl; end = refl };
      whole = record { askings = e; clocks = inr (lined m 0 askings ∙ e) };
    }
    record {
      row = record { count = asking-controlled m k 0 askings ∙ e; controls = asking-are m k 0 askings; turn = refl; end = refl };
      whole = record { askings = asked m k 0 askings ∙ e; clocks = inl p };
    }

carried : (m : Machine) (r : Known) (k : ℕ) (lines : List ReportLine) (askings : List Asking) (turn : HomingTurn) (stop : Option ℕ) → length r.clocks ≡ length m.boards → length askings ≡ length m.boards
    → Rowed m k (carries_on m r k lines askings turn stop)
carried m r k lines askings turn stop c e =
    let few = waited m k 0 askings in record {
      row = record {
        count = run-controlled m k 0 turn (stop_command (stops stop)) r.clocks (waiting m k 0 askings) (c ∙ sym (few ∙ e)) ∙ few ∙ e;
        controls = running-are m k 0 turn (stop_command (stops stop)) r.clocks (waiting m k 0 askings);
        turn = refl;
        end = refl;
      };
      whole = record { askings = run-asked m k 0 turn r.clocks (waiting m k 0 askings) ∙ few ∙ e; clocks = inr c };
    }

finished : (how : ReadStop) (m : Machine) (r : Known) (k : ℕ) (lines : List ReportLine) (askings : List Asking) (turn : HomingTurn) → HasEachBoard m r → length r.clocks ≡ length m.boards → length askings ≡ length m.boards
    → Rowed m k (finishes how m r k lines askings turn)
finished (read.Stop line) m r k lines askings turn w c e = carried m r k lines askings turn (Some line) c e
finished read.End m r k lines askings turn w c e = over m k cause.Done r (lines ++ count_lines r.reading) w
finished (read.Refused line kind) m r k lines askings turn w c e = over m k (cause.Line line kind) r (lines ++ count_lines r.reading) w

homing-ends : (o : Option Cause) (m : Machine) (r : Known) (k : ℕ) (states : List State) (lines cut : List ReportLine) (askings : List Asking) (turn : HomingTurn)
    → HasEachBoard m r → length r.clocks ≡ length m.boards → length askings ≡ length m.boards → Rowed m k (unless_homing_ends o m r k states lines cut askings turn)
homing-ends (Some c) m r k states lines cut askings turn w s e = over m k c r lines w
homing-ends None m r k states lines cut askings turn w s e =
    either m k (is_finished r k states) _ _ (finished (stop_of r.reading) m r k (lines ++ cut) askings turn w s e) (carried m r k (lines ++ cut) askings turn None s e)

stale-ends : (o : Option Cause) (m : Machine) (switches : List Switch) (r : Known) (k : ℕ) (states : List State) (lines : List ReportLine) (askings : List Asking)
    → HasEachBoard m r → length r.clocks ≡ length m.boards → length askings ≡ length m.boards → Rowed m k (unless_stale o m switches r k states lines askings)
stale-ends (Some c) m switches r k states lines askings w s e = over m k c r lines w
stale-ends None m switches r k states lines askings w s e =
    let turn = homing_turn r.clocks k states r.homing in
    homing-ends turn.end m (after_homing r k states) k states lines (cut_line m switches turn.section (axis_at m turn.axis) turn.cut) askings turn (record { askings = w.askings; clocks = w.clocks }) s e

late-stale : (o : Option Cause) (m : Machine) (r : Known) (k : ℕ) (lines : List ReportLine) (line : ℕ) → HasEachBoard m r → Rowed m k (unless_late_stale o m r k lines line)
late-stale (Some c) m r k lines line w = over m k c r lines w
late-stale None m r k lines line w = over m k (cause.Asked line) r (lines ++ count_lines r.reading) w

-- behind connecting there are clock lines
lines-are : (m : Machine) (r : Known) → HasEachBoard m r → r.phase ≡ Running → length r.clocks ≡ length m.boards
lines-are m r w p = ⊎_elim (λ c. absurd (let e = sym c ∙ p in cc)) (λ c. c) w.clocks

phases : (p : Phase) (m : Machine) (switches : List Switch) (r : Known) (k : ℕ) (states : List State) (lines : List ReportLine) → r.phase ≡ p → HasEachBoard m r → Rowed m k (by_phase p m switches r k states lines)
phases Connecting m switches r k states lines p w =
    let askings = ready_all m 0 (listen_all r.askings.items states) in
    given-up (giving_up k 0 askings) m r k lines askings w (readied m 0 (listen_all r.askings.items states) ∙ listened r.askings.items states ∙ w.askings) p
phases Running m switches r k states lines p w =
    let askings = listen_all r.askings.items states in
    stale-ends (stale k 0 askings) m switches r k states lines askings w (lines-are m r w p) (listened r.askings.items states ∙ w.askings)
phases (Stopping line) m switches r k states lines p w = late-stale (stale k 0 (listen_all r.askings.items states)) m r k lines line w

ended : (o : Option Cause) (m : Machine) (switches : List Switch) (r : Known) (k : ℕ) (states : List State) (lines : List ReportLine) → HasEachBoard m r → Rowed m k (unless_ended o m switches r k states lines)
ended (Some c) m switches r k states lines w = over m k c r lines w
ended None m switches r k states lines w = phases r.phase m switches r k states lines refl w

-- a note keeps the reactor whole
set-count : (b : ℕ) (x : Clocks) (clocks : List Clocks) → length (slice_set clocks b x) ≡ length clocks
set-count b x clocks = length-set clocks b x

added-count : (t : Bool) (b : ℕ) (x : Clocks) (clocks : List Clocks) → length (cond t (slice_set clocks b x) clocks) ≡ length clocks
added-count true b x clocks = set-count b x clocks
added-count false b x clocks = refl

one-told : (m : Machine) (r : Known) (n : NoteNews) → HasEachBoard m r → HasEachBoard m (known_behind m r n)
one-told m r (news.Start section kind turn last moving) w = record { askings = w.askings; clocks = w.clocks }
one-told m r (news.Done section turn) w = record { askings = w.askings; clocks = w.clocks }
one-told m r (news.Read end sections) w = record { askings = w.askings; clocks = w.clocks }
one-told m r (news.Line board line from) w = record {
  askings = w.askings;
  clocks = ⊎_elim (λ c. inl c) (λ c. inr (added-count (nat_lt board (length r.clocks)) board _ r.clocks ∙ c)) w.clocks;
}

all-told : (m : Machine) (ns : List NoteNews) (r : Known) → HasEachBoard m r → HasEachBoard m (told_all m ns r)
all-told m [] r w = w
all-told m (n ∷ ns) r w = all-told m ns (known_behind m r n) (one-told m r n w)

pub stays-whole : (m : Machine) (note : Option Note) (r : Known) → HasEachBoard m r → HasEachBoard m (noted m note r)
stays-whole m None r w = w
stays-whole m (Some note) r w = let v = all-told m note.news r w in record { askings = v.askings; clocks = v.clocks }

pub rowed : (m : Machine) (switches : List Switch) (r : Known) (k : ℕ) (states : List State) (note : Option Note) → HasEachBoard m r → Rowed m k (reacts m switches r k states note)
rowed m switches r k states note w =
    let s = noted m note r in
    ended (first_cause (is_out note) s.stopped states) m switches s k states (first_lines m s k (news_of note) states) (stays-whole m note r w)

new-asked : (boards : List BoardDef) → length (new_askings boards) ≡ length boards
new-asked [] = refl
new-asked (b ∷ boards) = ap suc (new-asked boards)

pub whole-first : (m : Machine) → HasEachBoard m (new_known m)
whole-first m = record { askings = new-asked m.boards; clocks = inl refl }
