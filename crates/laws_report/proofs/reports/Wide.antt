-- The cut lines of a run have numbers of 64 bits.
use Rattle.std.proofs.Common.{◌≡◌, ◌∙◌, ◌⊎◌, inl, inr, ℕ, suc, ◌+◌, ◌<◌, ◌^◌, Bool, true, false, cond, All, List, [], ◌∷◌, ◌++◌, length, map, ap, sym, refl, subst, arith, Option, Some, None, rules}
use Rattle.std.specs.Prelude.{◌&&◌, ◌==◌, nat_le, nat_lt, if◌then◌else◌}
use Rattle.laws_board.proofs.Names.{leb_tells, All-head, All-tail, Cause, AxisDef, Machine, ReadStop, SectionKind, Home, Moves, nearest, Clocks, axis_at, turn_tick, Cmd, News, Note, NoteNews, State, ReportLine, Switch, End, Member, Goes, Rests, Sends, Fired, Seen, GroupState, all_fired, phase, unseen, Homing, HomingTurn, answer_in, goes_on_homing, hears_all, homing_after, homing_turn, members_from, Asking, all_connected, giving_up, listen_all, ready_all, stale, Known, Phase, Connecting, Stopping, is_out, news_of, noted, known_behind, told_all, Reacted, by_phase, cut_line, reacts, unless_ended, unless_stale, first_lines, first_cause, stop_of, Came, GoesOn, known_by, ReactorTurn, gather}
use Rattle.plan_types.specs.declared.plan.ReadStop.TheVariants as read
use Rattle.plan_types.specs.declared.plan.TrigState.{TrigState}
use Rattle.plan_types.specs.Lines.{lines_turn}
use Rattle.clock_line.specs.Early.{is_in_run}
use Rattle.msg_code.specs.declared.cmd.Cmd.TheVariants as cmd
use Rattle.msg_code.specs.declared.talk.NoteNews.TheVariants as news
use Rattle.report_text.specs.declared.line.ReportLine.TheVariants as report
use Rattle.wire_scene.specs.Scenes.{is_of, last_where, line_of, or_earlier}
use Rattle.trigger_group.specs.declared.order.End.TheVariants as end
use Rattle.trigger_group.specs.declared.round.Phase.{Phase as GroupPhase}
use Rattle.trigger_group.specs.Group.{after_in, answer, came, ended, expired, first_fired, first_expired, first_switched, hears_from, later, new_group, or_else, or_none, switched}
use Rattle.trigger_group.specs.Kept.{may_be}
use Rattle.axis_homing.specs.Homing.{came_at, hears_answer, hears_news, hears_report, hears_state, hears_states, homing_of, homing_with}
use Rattle.board_asking.specs.Connecting.{board_lines, connected_lines}
use Rattle.host_reactor.specs.declared.ordered.Phase.TheVariants.{Running}
use Rattle.host_reactor.specs.declared.ordered.Reading.{Reading}
use Rattle.host_reactor.specs.Reactor.{after_homing, asks_boards, carries_on, finishes, is_connected_now, unless_given_up, unless_homing_ends, unless_late_stale}
use Rattle.host_reactor.specs.Report.{count_lines}
use Rattle.host_reactor.specs.Running.{is_finished}
use Rattle.laws_board.proofs.clocks.Turning as turning
use Rattle.session_run.specs.Boards.{AreReactorTurns, came_from, came_in}
use Rattle.laws_run.specs.run_headline.Told.{AreTold}
use Rattle.laws_run.proofs.run_headline.Telling.{boards_told, first_told}
use Rattle.laws_run.proofs.home_headline.Cuts.{answer_of}
use Rattle.laws_report.proofs.reports.Limits.{HaveLongCuts}
use Rattle.plan_types.proofs.Facts.{first_of_both, was_less}

-- the ticks at which members of a group triggered are of 64 bits
abbrev HasSmall : Option Fired → Type 0
HasSmall None = Unit {0}
HasSmall (Some f) = f.tick < 2 ^ 64

abbrev AllSmall : List Seen → Type 0
AllSmall [] = Unit {0}
AllSmall (m ∷ ms) = HasSmall m.fired × AllSmall ms

unseen_small : (ms : List Member) → AllSmall (map unseen ms)
unseen_small [] = tt
unseen_small (m ∷ ms) = (tt, unseen_small ms)

first_small : (o : Option Fired) (f : Fired) → HasSmall o → f.tick < 2 ^ 64 → HasSmall (Some (first_fired o f))
first_small None f h low = low
first_small (Some g) f h low = h

hears_small : (board : ℕ) (s : TrigState) (tick turn : ℕ) (m : Seen) → tick < 2 ^ 64 → HasSmall m.fired → HasSmall (hears_from board s tick turn m).fired
hears_small board s tick turn m low h = search (rules, first_small)

all_hear : (board : ℕ) (s : TrigState) (tick turn : ℕ) (ms : List Seen) → tick < 2 ^ 64 → AllSmall ms → AllSmall (map (hears_from board s tick turn) ms)
all_hear board s tick turn [] low h = tt
all_hear board s tick turn (m ∷ ms) low h = (hears_small board s tick turn m low h.0, all_hear board s tick turn ms low h.1)

came_small : (board : ℕ) (s : TrigState) (tick turn : ℕ) (g : GroupState) → tick < 2 ^ 64 → AllSmall g.members → AllSmall (came board s tick turn g).members
came_small board s tick turn g low h = search (rules, nat_lt, all_hear)

-- a report counts only where its tick is one of the run
report_small : (clocks : Clocks) (b turn : ℕ) (s : TrigState) (g : GroupState) → AllSmall g.members → AllSmall (hears_report clocks b turn s g).members
report_small clocks b turn s g h = search (rules, nearest, turn_tick, came_small, was_less, first_of_both)

answer_small : (clocks : Clocks) (b turn : ℕ) (c : Cmd) (g : GroupState) → AllSmall g.members → AllSmall (hears_answer clocks b turn c g).members
answer_small clocks b turn (cmd.TrsyncState oid can_trigger reason clock) g h = report_small clocks b turn _ g h
answer_small clocks b turn c g h = h

news_small : (clocks : Clocks) (b turn : ℕ) (ns : List News) (g : GroupState) → AllSmall g.members → AllSmall (hears_news clocks b turn ns g).members
news_small clocks b turn [] g h = h
news_small clocks b turn (n ∷ ns) g h = news_small clocks b turn ns (hears_answer clocks b turn n.answer g) (answer_small clocks b turn n.answer g h)

state_small : (clocks : Clocks) (b start : ℕ) (s : State) (g : GroupState) → AllSmall g.members → AllSmall (hears_state clocks b start s g).members
state_small clocks b start s g h = search (rules, nat_le, news_small)

states_small : (clocks : List Clocks) (b start : ℕ) (states : List State) (g : GroupState) → AllSmall g.members → AllSmall (hears_states clocks b start states g).members
states_small [] b start states g h = h
states_small (c ∷ clocks) b start [] g h = h
states_small (c ∷ clocks) b start (s ∷ states) g h = states_small clocks (b + 1) start states (hears_state c b start s g) (state_small c b start s g h)

-- the homing section that is known
abbrev IsSmallHoming : Option Homing → Type 0
IsSmallHoming None = Unit {0}
IsSmallHoming (Some h) = AllSmall h.group.members

with_small : (c : Bool) (section at turn start last : ℕ) (ms : List Member) → IsSmallHoming (homing_with section at turn (cond c (Some (new_group ms start last)) None))
with_small true section at turn start last ms = unseen_small ms
with_small false section at turn start last ms = tt

begun_small : (m : Machine) (section : ℕ) (what : SectionKind) (turn last moving : ℕ) → IsSmallHoming (homing_of m section what turn last moving)
begun_small m section what turn last moving = search (rules, members_from, axis_at, with_small, unseen)

told_small : (m : Machine) (r : Known) (n : NoteNews) → IsSmallHoming r.homing → IsSmallHoming (known_behind m r n).homing
told_small m r (news.Start section kind turn last moving) h = begun_small m section kind turn last moving
told_small m r c h = h

all_small : (m : Machine) (ns : List NoteNews) (r : Known) → IsSmallHoming r.homing → IsSmallHoming (told_all m ns r).homing
all_small m [] r h = h
all_small m (n ∷ ns) r h = all_small m ns (known_behind m r n) (told_small m r n h)

noted_small : (m : Machine) (note : Option Note) (r : Known) → IsSmallHoming r.homing → IsSmallHoming (noted m note r).homing
noted_small m None r h = h
noted_small m (Some note) r h = all_small m note.news r h

group_either : (c : Bool) (x g : GroupState) → AllSmall x.members → AllSmall g.members → AllSmall (cond c g x).members
group_either true x g a b = b
group_either false x g a b = a

in_small : (p : GroupPhase) (g : GroupState) (turn : ℕ) → AllSmall g.members → AllSmall (after_in p g turn).members
in_small Goes g turn h = group_either (all_fired g.members) _ g h h
in_small c g turn h = h

goes_small : (k : ℕ) (h : Homing) (o : Option End) → AllSmall h.group.members → IsSmallHoming (goes_on_homing k h o)
goes_small k h None s = in_small (phase h.group.start h.group.last k) h.group k s
goes_small k h (Some end) s = tt

after_small : (clocks : List Clocks) (k : ℕ) (states : List State) (o : Option Homing) → IsSmallHoming o → IsSmallHoming (homing_after clocks k states o)
after_small clocks k states o p4 = search (rules, hears_all, goes_small, answer_in, states_small)

known_small : (m : Machine) (switches : List Switch) (came : List Came) → GoesOn m switches came → IsSmallHoming (known_by m switches came).homing
known_small m switches [] g = tt
known_small m switches (c ∷ before) g =
    let known = known_by m switches before in
    let n = noted m c.note known in
    let was = noted_small m c.note known (known_small m switches before g.1) in
    let So : Reacted → Type 0 = λ y. IsSmallHoming y.known.homing in
    elim (turning.goes m switches known (length before) c.states c.note g.0) [
      | inl x ↦ subst So (sym x.is) was
      | inr more ↦ elim more [ inl x ↦ subst So (sym x.is) was | inr x ↦ subst So (sym x.is) (after_small n.clocks (length before) c.states n.homing was) ]
    ]

-- the tick of an answer
not_expired : (last : ℕ) (ms : List Seen) (tick : ℕ) → first_expired last ms ≡ Some (end.Endstop tick) → ⊥
not_expired last [] tick e = cc
not_expired last (m ∷ ms) tick e = by m.fired (λ f. not_expired last ms tick f) e
  where
    inner : (f : Fired) (b : Bool) → (first_expired last ms ≡ Some (end.Endstop tick) → ⊥) → or_else (if b then Some (end.Expired m.member.board f.turn) else None) (first_expired last ms) ≡ Some (end.Endstop tick) → ⊥
    inner f true rec e = cc
    inner f false rec e = rec e

    by : (o : Option Fired) → (first_expired last ms ≡ Some (end.Endstop tick) → ⊥) → or_else (expired last m.member.board o) (first_expired last ms) ≡ Some (end.Endstop tick) → ⊥
    by None rec e = rec e
    by (Some f) rec e = inner f ((f.reason == 2) && nat_le f.turn last) rec e

switch_small : (ms : List Seen) (tick : ℕ) → AllSmall ms → first_switched ms ≡ Some (end.Endstop tick) → tick < 2 ^ 64
switch_small [] tick h e = absurd (let f : None ≡ Some (end.Endstop tick) = e in cc)
switch_small (m ∷ ms) tick h e = by m.fired h.0 (λ f. switch_small ms tick h.1 f) e
  where
    inner : (f : Fired) (b : Bool) → f.tick < 2 ^ 64 → (first_switched ms ≡ Some (end.Endstop tick) → tick < 2 ^ 64) → or_else (if b then Some (end.Endstop f.tick) else None) (first_switched ms) ≡ Some (end.Endstop tick) → tick < 2 ^ 64
    inner f true low rec e = let same : f.tick ≡ tick = cc in omega (arith, low, same)
    inner f false low rec e = rec e

    by : (o : Option Fired) → HasSmall o → (first_switched ms ≡ Some (end.Endstop tick) → tick < 2 ^ 64) → or_else (switched m.member.endstop o) (first_switched ms) ≡ Some (end.Endstop tick) → tick < 2 ^ 64
    by None low rec e = rec e
    by (Some f) low rec e = inner f (m.member.endstop && (f.reason == 1)) low rec e

either_end : (o p : Option End) (tick : ℕ) → or_none (or_else o p) ≡ end.Endstop tick → (o ≡ Some (end.Endstop tick)) ⊎ (p ≡ Some (end.Endstop tick))
either_end None None tick e = cc
either_end None (Some x) tick e = inr (ap (λ (z : End). Some z) e)
either_end (Some x) p tick e = inl (ap (λ (z : End). Some z) e)

ended_small : (g : GroupState) (tick : ℕ) → AllSmall g.members → ended g ≡ Some (end.Endstop tick) → tick < 2 ^ 64
ended_small g tick h e = search (rules, all_fired, either_end, not_expired, switch_small)

in_end : (k start : ℕ) (g : GroupState) (tick : ℕ) → answer_in k start g ≡ Some (end.Endstop tick) → ended g ≡ Some (end.Endstop tick)
in_end k start g tick e = search (rules, nat_le)

turn_small : (clocks : List Clocks) (k : ℕ) (states : List State) (o : Option Homing) (tick : ℕ) → IsSmallHoming o → (homing_turn clocks k states o).cut ≡ Some tick → tick < 2 ^ 64
turn_small clocks k states o tick small cut = search (rules, answer_of, hears_all, ended_small, states_small, in_end)

-- the lines of the scene
where_low : (test : Switch → Bool) (switches : List Switch) → All (λ w. w.line < 2 ^ 64) switches → line_of (last_where test switches) < 2 ^ 64
where_low test [] all = omega arith
where_low test (w ∷ switches) all = by (last_where test switches) (test w) (where_low test switches (All-tail (λ (x : Switch). x.line < 2 ^ 64) w switches all)) (All-head (λ (x : Switch). x.line < 2 ^ 64) w switches all)
  where
    by : (o : Option Switch) (b : Bool) → line_of o < 2 ^ 64 → w.line < 2 ^ 64 → line_of (or_earlier o (if b then Some w else None)) < 2 ^ 64
    by (Some x) b low own = low
    by None true low own = own
    by None false low own = omega arith

-- lines of which the cut lines have long numbers
long_both : (xs ys : List ReportLine) → HaveLongCuts xs → HaveLongCuts ys → HaveLongCuts (xs ++ ys)
long_both [] ys a b = b
long_both (report.Cut i board pin tick from ∷ xs) ys a b = (a.0, a.1, long_both xs ys a.2 b)
long_both (report.Section i turn kind ∷ xs) ys a b = long_both xs ys a b
long_both (x ∷ xs) ys a b = long_both xs ys a b

pub long_uncut : (m : Machine) (lines : List ReportLine) → AreTold false m lines → HaveLongCuts lines
long_uncut m [] told_lines = tt
long_uncut m (report.Cut i board pin tick from ∷ lines) told_lines = absurd (let e : false ≡ true = told_lines.0 in cc)
long_uncut m (report.Section i turn kind ∷ lines) told_lines = long_uncut m lines told_lines.1
long_uncut m (x ∷ lines) told_lines = long_uncut m lines told_lines.1

long_counts : (o : Option Reading) → HaveLongCuts (count_lines o)
long_counts None = tt
long_counts (Some r) = tt

module _ (m : Machine) (switches : List Switch) (scene : All (λ w. w.line < 2 ^ 64) switches) where
  cut_long : (section : ℕ) (axis : AxisDef) (cut : Option ℕ) → ((tick : ℕ) → cut ≡ Some tick → tick < 2 ^ 64) → HaveLongCuts (cut_line m switches section axis cut)
  cut_long section axis None low = tt
  cut_long section axis (Some tick) low = (low tick refl, where_low (λ s. is_of axis.board axis.pin s && nat_le s.tick tick) switches scene, tt)

  finishes_long : (o : ReadStop) (r : Known) (k : ℕ) (lines : List ReportLine) (askings : List Asking) (turn : HomingTurn) → HaveLongCuts lines → HaveLongCuts (finishes o m r k lines askings turn).ordered.lines
  finishes_long (read.Stop line) r k lines askings turn long = long
  finishes_long c r k lines askings turn long = long_both lines (count_lines r.reading) long (long_counts r.reading)

  homing_long : (o : Option Cause) (r : Known) (k : ℕ) (states : List State) (lines cut : List ReportLine) (askings : List Asking) (turn : HomingTurn) → HaveLongCuts lines → HaveLongCuts cut → HaveLongCuts (unless_homing_ends o m r k states lines cut askings turn).ordered.lines
  homing_long o r k states lines cut askings turn p8 p9 = search (rules, stop_of, finishes_long, long_both)

  stale_long : (o : Option Cause) (r : Known) (k : ℕ) (states : List State) (lines : List ReportLine) (askings : List Asking) → IsSmallHoming r.homing → HaveLongCuts lines → HaveLongCuts (unless_stale o m switches r k states lines askings).ordered.lines
  stale_long o r k states lines askings p6 p7 = search (rules, homing_turn, homing_long, cut_line, axis_at, cut_long, turn_small)

  given_long : (o : Option Cause) (r : Known) (k : ℕ) (lines : List ReportLine) (askings : List Asking) → HaveLongCuts lines → HaveLongCuts (unless_given_up o m r k lines askings).ordered.lines
  given_long (Some cause) r k lines askings long = long
  given_long None r k lines askings long = by (all_connected askings)
    where
      by : (b : Bool) → HaveLongCuts (cond b (is_connected_now m r k lines askings) (asks_boards m r k lines askings)).ordered.lines
      by true = let ls = board_lines m 0 askings in long_both lines (connected_lines k 0 ls) long (long_uncut m (connected_lines k 0 ls) (boards_told false m k 0 ls))
      by false = long

  late_long : (o : Option Cause) (r : Known) (k : ℕ) (lines : List ReportLine) (line : ℕ) → HaveLongCuts lines → HaveLongCuts (unless_late_stale o m r k lines line).ordered.lines
  late_long (Some cause) r k lines line long = long
  late_long None r k lines line long = long_both lines (count_lines r.reading) long (long_counts r.reading)

  phase_long : (p : Phase) (r : Known) (k : ℕ) (states : List State) (lines : List ReportLine) → IsSmallHoming r.homing → HaveLongCuts lines → HaveLongCuts (by_phase p m switches r k states lines).ordered.lines
  phase_long p r k states lines p5 p6 = search (rules, ready_all, listen_all, given_long, giving_up, stale_long, stale, late_long)

  ended_long : (o : Option Cause) (r : Known) (k : ℕ) (states : List State) (lines : List ReportLine) → IsSmallHoming r.homing → HaveLongCuts lines → HaveLongCuts (unless_ended o m switches r k states lines).ordered.lines
  ended_long (Some cause) r k states lines small long = long
  ended_long None r k states lines small long = phase_long r.phase r k states lines small long

  reacts_long : (r : Known) (k : ℕ) (states : List State) (note : Option Note) → IsSmallHoming r.homing → HaveLongCuts (reacts m switches r k states note).ordered.lines
  reacts_long r k states note small =
      let s = noted m note r in
      let lines = first_lines m s k (news_of note) states in
      ended_long (first_cause (is_out note) s.stopped states) s k states lines (noted_small m note r small) (long_uncut m lines (first_told false m s k (news_of note) states))

  pub turn_long : (before : List Came) (t : ReactorTurn) → GoesOn m switches before → t.lines ≡ (reacts m switches (known_by m switches before) (length before) t.states t.note).ordered.lines → HaveLongCuts t.lines
  turn_long before t g e = subst (λ (z : List ReportLine). HaveLongCuts z) (sym e) (reacts_long (known_by m switches before) (length before) t.states t.note (known_small m switches before g))

  pub turns_long : (before : List Came) (rs : List ReactorTurn) (end : ReactorTurn) → GoesOn m switches before → AreReactorTurns m switches before rs
      → (GoesOn m switches (came_from before rs) → HaveLongCuts end.lines) → HaveLongCuts (gather (λ t. t.lines) (rs ++ end ∷ []))
  turns_long before [] end g turns last = long_both end.lines [] (last g) tt
  turns_long before (r ∷ rs) end g turns last =
      long_both r.lines (gather (λ (t : ReactorTurn). t.lines) (rs ++ end ∷ [])) (turn_long before r g turns.0.lines_are) (turns_long (came_in r ∷ before) rs end (turns.0.goes_on, g) turns.1 last)
