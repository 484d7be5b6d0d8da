-- A homing section is known from its note until the word that tells of its answer.
use Rattle.std.proofs.Common.{◌≡◌, ℕ, suc, ◌+◌, ◌<◌, ◌≤◌, ◌⊎◌, inl, inr, Bool, true, false, cond, List, [], ◌∷◌, ◌++◌, length, Option, Some, None, refl, ap, sym, ◌∙◌, subst, arith, rules}
use Rattle.laws_board.proofs.Names.{leb_tells, Cause, Machine, Clocks, axis_at, Note, NoteNews, State, ReportLine, Switch, End, Member, Goes, Rests, Sends, GroupState, turned_group, all_fired, phase, Homing, HomingTurn, answer_in, by_answer, goes_on_homing, hears_all, homing_after, homing_turn, members_of, Asking, listen_all, stale, Known, Phase, Connecting, Stopping, is_out, news_of, noted, known_behind, told_all, first_lines, first_cause, Reacted, by_phase, cut_line, reacts, unless_ended, unless_stale, Came, GoesOn, known_by, last_reacted, states-kept}
use Rattle.msg_code.specs.declared.talk.NoteNews.TheVariants as news
use Rattle.msg_code.specs.declared.talk.WordNews.{WordNews}
use Rattle.msg_code.specs.declared.talk.WordNews.TheVariants as word
use Rattle.trigger_group.specs.declared.order.End.TheVariants as end
use Rattle.trigger_group.specs.declared.round.Phase.{Phase as GroupPhase}
use Rattle.trigger_group.specs.Group.{after_in}
use Rattle.board_asking.specs.Drift.{new_line, new_lines}
use Rattle.host_reactor.specs.declared.ordered.Phase.TheVariants.{Running}
use Rattle.host_reactor.specs.Reactor.{after_homing, homed, phase_after, unless_homing_ends}
use Rattle.laws_board.proofs.clocks.Controls.{states_start}
use Rattle.laws_board.proofs.clocks.Lines.{noted_phase}
use Rattle.laws_board.proofs.clocks.Turning.{Goes as Going, RunsOn, goes}
use Rattle.laws_homing.specs.home_runs.Sections.{HomesFrom, IsOf}
use Rattle.laws_homing.specs.home_runs.Words.{BeginsNone, IsBegunIn, TellsHomed}
use Rattle.host_reactor.proofs.Connects.{stop-phase}
use Rattle.axis_homing.proofs.Starts.{in_start}
use Rattle.axis_homing.proofs.Rises.{in-kept}

abbrev end_of : Reacted → Option Cause
end_of x = x.ordered.end

-- a turn that doesn't end the run: its group didn't answer so
no_end : (o : Option Cause) (m : Machine) (r : Known) (k : ℕ) (states : List State) (lines cut : List ReportLine) (askings : List Asking) (turn : HomingTurn) → end_of (unless_homing_ends o m r k states lines cut askings turn) ≡ None → o ≡ None
no_end (Some cause) m r k states lines cut askings turn h = cc
no_end None m r k states lines cut askings turn h = refl

stale_end : (o : Option Cause) (m : Machine) (switches : List Switch) (r : Known) (k : ℕ) (states : List State) (lines : List ReportLine) (askings : List Asking) → end_of (unless_stale o m switches r k states lines askings) ≡ None
    → (homing_turn r.clocks k states r.homing).end ≡ None
stale_end o m switches r k states lines askings p8 = search (rules, homing_turn, no_end, cut_line, axis_at)

phase_end : (p : Phase) (m : Machine) (switches : List Switch) (r : Known) (k : ℕ) (states : List State) (lines : List ReportLine) → p ≡ Running → end_of (by_phase p m switches r k states lines) ≡ None → (homing_turn r.clocks k states r.homing).end ≡ None
phase_end Running m switches r k states lines e h = let askings = listen_all r.askings.items states in stale_end (stale k 0 askings) m switches r k states lines askings h
phase_end c m switches r k states lines e h = cc

ended_end : (o : Option Cause) (m : Machine) (switches : List Switch) (r : Known) (k : ℕ) (states : List State) (lines : List ReportLine) → r.phase ≡ Running → end_of (unless_ended o m switches r k states lines) ≡ None
    → (homing_turn r.clocks k states r.homing).end ≡ None
ended_end (Some cause) m switches r k states lines e h = cc
ended_end None m switches r k states lines e h = phase_end r.phase m switches r k states lines e h

pub turn_end : (m : Machine) (switches : List Switch) (r : Known) (k : ℕ) (states : List State) (note : Option Note) → (noted m note r).phase ≡ Running → (reacts m switches r k states note).ordered.end ≡ None
    → (homing_turn (noted m note r).clocks k states (noted m note r).homing).end ≡ None
turn_end m switches r k states note e h =
    let s = noted m note r in
    ended_end (first_cause (is_out note) s.stopped states) m switches s k states (first_lines m s k (news_of note) states) e h

-- the words
pub tells_either : (xs ys : List WordNews) → TellsHomed (xs ++ ys) → TellsHomed xs ⊎ TellsHomed ys
tells_either [] ys t = inr t
tells_either (word.Homed ∷ xs) ys t = inl tt
tells_either (word.Lines lines ∷ xs) ys t = tells_either xs ys t
tells_either (word.Line b line ∷ xs) ys t = tells_either xs ys t

pub tells_front : (xs ys : List WordNews) → TellsHomed xs → TellsHomed (xs ++ ys)
tells_front [] ys t = absurd t
tells_front (word.Homed ∷ xs) ys t = tt
tells_front (word.Lines lines ∷ xs) ys t = tells_front xs ys t
tells_front (word.Line b line ∷ xs) ys t = tells_front xs ys t

line_none : (c : Bool) (b : ℕ) (m : Machine) (l : _) → TellsHomed (cond c (word.Line b l ∷ []) []) → ⊥
line_none true b m l t = t
line_none false b m l t = t

pub lines_none : (m : Machine) (b : ℕ) (before after : List Asking) → TellsHomed (new_lines m b before after) → ⊥
lines_none m b [] after t = t
lines_none m b (a ∷ before) [] t = t
lines_none m b (a ∷ before) (c ∷ after) t = elim (tells_either (new_line m b a c) (new_lines m (b + 1) before after) t) [
  | inl now ↦ line_none _ b m _ now
  | inr later ↦ lines_none m (b + 1) before after later
]

homed_cut : (o : Option ℕ) → TellsHomed (homed o) → (tick : ℕ) × (o ≡ Some tick)
homed_cut None t = absurd t
homed_cut (Some tick) t = (tick, refl)

cut_none : (o : Option ℕ) → (TellsHomed (homed o) → ⊥) → o ≡ None
cut_none None n = refl
cut_none (Some tick) n = absurd (n tt)

-- how a group that does not end the run answered
pub no_answer : (k : ℕ) (h : Homing) (o : Option End) → (by_answer k h o).cut ≡ None → (by_answer k h o).end ≡ None → o ≡ None
no_answer k h None c e = refl
no_answer k h (Some (end.Endstop tick)) c e = cc
no_answer k h (Some end.NoSwitch) c e = cc
no_answer k h (Some (end.Expired b turn)) c e = cc

pub switch_answer : (k tick : ℕ) (h : Homing) (o : Option End) → (by_answer k h o).cut ≡ Some tick → o ≡ Some (end.Endstop tick)
switch_answer k tick h None c = cc
switch_answer k tick h (Some (end.Endstop at)) c = let same : at ≡ tick = cc in ap (λ (n : ℕ). Some (end.Endstop n)) same
switch_answer k tick h (Some end.NoSwitch) c = cc
switch_answer k tick h (Some (end.Expired b turn)) c = cc

-- what a turn of a run that goes on makes of a homing section
abbrev Word : Machine → List Switch → Came → List Came → List WordNews
Word m switches c before = (last_reacted m switches c before).ordered.word.news

words_are : (m : Machine) (r : Known) (k : ℕ) (states : List State) (x : Reacted) (g : RunsOn m r k states x) → x.ordered.word.news ≡ homed (homing_turn r.clocks k states r.homing).cut ++ new_lines m 0 r.askings.items (listen_all r.askings.items states)
words_are m r k states x g = ap (λ (y : Reacted). y.ordered.word.news) g.is

pub cut_of : (m : Machine) (r : Known) (k : ℕ) (states : List State) (x : Reacted) → RunsOn m r k states x → TellsHomed x.ordered.word.news → (tick : ℕ) × ((homing_turn r.clocks k states r.homing).cut ≡ Some tick)
cut_of m r k states x g t = search (rules, homing_turn, tells_either, listen_all, words_are, homed_cut, lines_none)

none_cut : (m : Machine) (r : Known) (k : ℕ) (states : List State) (x : Reacted) → RunsOn m r k states x → (TellsHomed x.ordered.word.news → ⊥) → (homing_turn r.clocks k states r.homing).cut ≡ None
none_cut m r k states x g n =
    let turn = homing_turn r.clocks k states r.homing in
    cut_none turn.cut (λ t. n (subst TellsHomed (sym (words_are m r k states x g)) (tells_front (homed turn.cut) (new_lines m 0 r.askings.items (listen_all r.askings.items states)) t)))

pub running_now : (m : Machine) (r : Known) (k : ℕ) (states : List State) (x : Reacted) → Going m r k states x → (r.phase ≡ Connecting → ⊥) → RunsOn m r k states x
running_now m r k states x (inl g) n = absurd (n g.phase)
running_now m r k states x (inr (inl g)) n = absurd (n g.phase)
running_now m r k states x (inr (inr g)) n = g

-- the note
told_none : (m : Machine) (r : Known) (n : NoteNews) → BeginsNone (n ∷ []) → (known_behind m r n).homing ≡ r.homing
told_none m r (news.Start section kind turn last moving) b = absurd b
told_none m r c b = refl

first_none : (n : NoteNews) (ns : List NoteNews) → BeginsNone (n ∷ ns) → BeginsNone (n ∷ []) × BeginsNone ns
first_none (news.Start section kind turn last moving) ns b = absurd b
first_none c ns b = (tt, b)

pub all_none : (m : Machine) (ns : List NoteNews) (r : Known) → BeginsNone ns → (told_all m ns r).homing ≡ r.homing
all_none m [] r b = refl
all_none m (n ∷ ns) r b = let both = first_none n ns b in all_none m ns (known_behind m r n) both.1 ∙ told_none m r n both.0

pub noted_none : (m : Machine) (note : Option Note) (r : Known) → BeginsNone (news_of note) → (noted m note r).homing ≡ r.homing
noted_none m None r b = refl
noted_none m (Some note) r b = all_none m note.news r b

-- the section behind a turn
start_either : (c : Bool) (g x : GroupState) → x.start ≡ g.start → (cond c g x).start ≡ g.start
start_either true g x e = refl
start_either false g x e = e

still_of : (clocks : List Clocks) (k start : ℕ) (states : List State) (ms : List Member) (o : Option Homing) → IsOf start ms o → (homing_turn clocks k states o).cut ≡ None → (homing_turn clocks k states o).end ≡ None
    → IsOf start ms (homing_after clocks k states o)
still_of clocks k start states ms o p6 p7 p8 = search (rules, hears_all, no_answer, answer_in, phase, goes_on_homing, in_start, states_start, in-kept, states-kept)

-- what is known as the next turn begins
record IsKnown (m : Machine) (switches : List Switch) (start : ℕ) (ms : List Member) (came : List Came) : Type 0 where
  past : (known_by m switches came).phase ≡ Connecting → ⊥
  of : IsOf start ms (known_by m switches came).homing

after_known : (m : Machine) (switches : List Switch) (start : ℕ) (ms : List Member) (c : Came) (before : List Came) → (last_reacted m switches c before).ordered.end ≡ None → ((known_by m switches before).phase ≡ Connecting → ⊥)
    → IsOf start ms (noted m c.note (known_by m switches before)).homing → (TellsHomed (Word m switches c before) → ⊥) → IsKnown m switches start ms (c ∷ before)
after_known m switches start ms c before end_is n of none =
    let known = known_by m switches before in
    let now = noted m c.note known in
    let k = length before in
    let x = last_reacted m switches c before in
    let past : now.phase ≡ Connecting → ⊥ = λ e. n (sym (noted_phase m c.note known) ∙ e) in
    let g = running_now m now k c.states x (goes m switches known k c.states c.note end_is) past in
    let cut = none_cut m now k c.states x g none in
    let ended = turn_end m switches known k c.states c.note g.phase end_is in
    record {
      past = λ e. stop-phase g.stop (sym (ap (λ (y : Reacted). y.known.phase) g.is) ∙ e);
      of = subst (λ (y : Reacted). IsOf start ms y.known.homing) (sym g.is) (still_of now.clocks k start c.states ms now.homing of cut ended);
    }

known_on : (m : Machine) (switches : List Switch) (from start : ℕ) (ms : List Member) (came : List Came) → GoesOn m switches came → IsBegunIn m switches from start ms came
    → HomesFrom m switches from start ms came × (from < length came → IsKnown m switches start ms came)
known_on m switches from start ms [] g b = (tt, λ l. absurd (omega (arith, l)))
known_on m switches from start ms (c ∷ before) g b =
    let known = known_by m switches before in
    let old = known_on m switches from start ms before g.1 b.3 in
    let now : from ≤ length before → ((known.phase ≡ Connecting → ⊥) × IsOf start ms (noted m c.note known).homing) = λ l. elim (leb_tells (suc from) (length before)) [
      | inl p ↦
          let k = old.1 p.1 in
          (k.past, subst (λ (o : Option Homing). IsOf start ms o) (sym (noted_none m c.note known (b.1 p.1))) k.of)
      | inr p ↦ let q = p.1 in b.0 (omega (arith, l, q))
    ] in
    ((now, old.0), λ l. let at = now (omega (arith, l)) in after_known m switches start ms c before g.0 at.0 at.1 (b.2 (omega (arith, l))))

-- the turn whose word tells of the answer
pub homing_known : (m : Machine) (switches : List Switch) (from start : ℕ) (ms : List Member) (came : List Came) → GoesOn m switches came → IsBegunIn m switches from start ms came → HomesFrom m switches from start ms came
homing_known m switches from start ms came g b = (known_on m switches from start ms came g b).0

pub word_answers : (m : Machine) (switches : List Switch) (from start : ℕ) (ms : List Member) (c : Came) (before : List Came) → GoesOn m switches (c ∷ before) → IsBegunIn m switches from start ms before → from < length before → BeginsNone (news_of c.note)
    → TellsHomed (last_reacted m switches c before).ordered.word.news
    → (h : Homing) × (tick : ℕ) × ((noted m c.note (known_by m switches before)).homing ≡ Some h) × (h.start ≡ start) × (members_of h.group ≡ ms)
    × (answer_in (length before) h.start (hears_all (noted m c.note (known_by m switches before)).clocks c.states h).group ≡ Some (end.Endstop tick))
word_answers m switches from start ms c before g b later none told_homed =
    let known = known_by m switches before in
    let now = noted m c.note known in
    let k = length before in
    let x = last_reacted m switches c before in
    let at = (known_on m switches from start ms before g.1 b).1 later in
    let of : IsOf start ms now.homing = subst (λ (o : Option Homing). IsOf start ms o) (sym (noted_none m c.note known none)) at.of in
    let past : now.phase ≡ Connecting → ⊥ = λ e. at.past (sym (noted_phase m c.note known) ∙ e) in
    let ran = running_now m now k c.states x (goes m switches known k c.states c.note g.0) past in
    let cut = cut_of m now k c.states x ran told_homed in
    by_homing now.homing refl of cut.0 cut.1
  where
    by_homing : (o : Option Homing) → (noted m c.note (known_by m switches before)).homing ≡ o → IsOf start ms o → (tick : ℕ)
        → (homing_turn (noted m c.note (known_by m switches before)).clocks (length before) c.states (noted m c.note (known_by m switches before)).homing).cut ≡ Some tick
        → (h : Homing) × (at : ℕ) × ((noted m c.note (known_by m switches before)).homing ≡ Some h) × (h.start ≡ start) × (members_of h.group ≡ ms)
        × (answer_in (length before) h.start (hears_all (noted m c.note (known_by m switches before)).clocks c.states h).group ≡ Some (end.Endstop at))
    by_homing None e of tick cut = absurd of
    by_homing (Some h) e of tick cut =
        let clocks = (noted m c.note (known_by m switches before)).clocks in
        let heard = hears_all clocks c.states h in
        let is : (homing_turn clocks (length before) c.states (Some h)).cut ≡ Some tick = subst (λ (o : Option Homing). (homing_turn clocks (length before) c.states o).cut ≡ Some tick) e cut in
        (h, tick, e, of.0, of.2, switch_answer (length before) tick heard (answer_in (length before) heard.start heard.group) is)
