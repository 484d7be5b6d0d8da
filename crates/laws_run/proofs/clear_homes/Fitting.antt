-- In a scene without entries the units of each turn of a board keep their limit while a run in which axes home goes on, where the board takes no unit half
-- a round late: the first unit that is left of a section of moves is taken in the turn in which it is queued, and shuts the board down.
use Rattle.std.proofs.Common.{◌≡◌, ◌⊎◌, ℕ, ◌+◌, ◌≤◌, List, [], ◌∷◌, ◌++◌, length, Option, Some, None, refl, ap, sym, ◌∙◌, subst, arith, inl, inr, append_assoc, length-append, take}
use Rattle.std.proofs.lemmas.List.{take-append-le}
use Rattle.laws_board.proofs.Names.{BoardClock, Level, Machine, BoardState, Running, Shut, Home, clock_of, Clocks, IsValidMachine, board_at, clocks_at, Entry, Switch, Core, run_world, new_world, AllKeepLimits, AreTurns, first_state, LinkState, Orders, Came, last_reacted, state_at, Started, Told, MotionTurn, parts_on}
use Rattle.link_work.proofs.Late.{limits_split}
use Rattle.laws_board.specs.turns.Turns.{BoardTurn, latest_state, stands_after}
use Rattle.laws_board.specs.clocks.Runs.{IsInRun, UnitsFit, orders_in}
use Rattle.laws_board.specs.sections.Courses.{IsGoodRun, courses, AllHeed}
use Rattle.laws_board.specs.sections.Ends.{MayBe}
use Rattle.laws_board.specs.sections.Events.{AreOwn}
use Rattle.laws_board.specs.sections.Homes.{AreOrdersIn, AreSet, AreSoon, HasUnits, IsHomeRun, RunSection, SetsAny, lost_at, AreSettledOn, IsSplitIn}
use Rattle.laws_board.specs.sections.Known.{Sent, sent_in}
use Rattle.laws_board.specs.sections.Links.{steps_of, steps_of_turn, ends_of}
use Rattle.laws_board.specs.sections.Parts.{MakesIn}
use Rattle.laws_board.specs.sections.Timely.{AllTimely}
use Rattle.laws_board.specs.plans.Homed.{stops_of}
use Rattle.laws_board.specs.plans.Planned.{Plans}
use Rattle.laws_board.proofs.clocks.Lines.{run_before}
use Rattle.laws_board.proofs.clocks.Orders.{all_limits, order_length, turns_in_order}
use Rattle.laws_board.proofs.sections.Halted.{at_end, reason_is}
use Rattle.laws_board.proofs.sections.HomeAll.{run_split}
use Rattle.laws_board.proofs.sections.HomeBoards.{settled_head, settled_owned}
use Rattle.laws_board.proofs.sections.HomeCut.{front_queued, split_soon}
use Rattle.laws_board.proofs.sections.Linking.{own_first, turns_are, turns_owned}
use Rattle.laws_board.proofs.sections.Lists.{cuts, orders_long}
use Rattle.laws_board.proofs.sections.Timing.{timely_join}
use Rattle.laws_board.proofs.sections.Turning.{timely_behind, timely_front}
use Rattle.laws_homing.specs.home_plans.Notes.{CameNotes}
use Rattle.laws_board.specs.plans.Rows.{AreInARow}
use Rattle.laws_homing.specs.home_runs.Ended.{AreToldIn, IsToldIn}
use Rattle.laws_homing.specs.home_runs.Sections.{TakesSetUp}
use Rattle.laws_homing.specs.home_parts.Answers.{ArePastConnecting, IsPlannedBy, MayHome}
use Rattle.laws_homing.specs.home_parts.Cuts.{cuts_on}
use Rattle.laws_homing.specs.fired_runs.Since.{IsReadSo}
use Rattle.laws_homing.proofs.clear_groups.Owning.{taken_all}
use Rattle.laws_homing.proofs.home_parts.Limits.{turns_fit}
use Rattle.laws_homing.proofs.home_parts.Told.{Split, in_row, told_to}
use Rattle.laws_board.proofs.plans.Rows.{row_from}
use Rattle.laws_homing.proofs.home_runs.Along.{all_settled}
use Rattle.laws_homing.proofs.home_runs.Clear.{clear_set_up}
use Rattle.laws_homing.proofs.home_runs.Homed.{all_homed}
use Rattle.laws_homing.proofs.home_runs.Joining.{all_queued}
use Rattle.laws_homing.proofs.home_runs.Settled.{later_orders}
use Rattle.laws_run.proofs.home_headline.Good.{same_end}
use Rattle.laws_run.proofs.home_wholes.Front.{any_front, sets_front}
use Rattle.laws_run.proofs.home_wholes.Going.{goes_running}
use Rattle.laws_run.proofs.home_wholes.Lost.{board_heeds}
use Rattle.laws_run.proofs.run_ends.Unstopped.{not_before}
use Rattle.laws_board.specs.sections.Runs.{AreSpilled}
use Rattle.link_work.specs.Ends.{spoiled}
use Rattle.laws_board.proofs.sections.Calm.{calm_links}
use Rattle.laws_board.proofs.sections.HomeHeeding.{home_timely}
use Rattle.laws_board.proofs.sections.Spoiled.{ten_seconds}
use Rattle.laws_homing.proofs.home_parts.Cut.{cuts_spilled}
use Rattle.laws_run.proofs.run_headline.Fronts.{controls_limited}
use Rattle.laws_board.proofs.sections.Heeding.{shut_runs}
use Rattle.plan_types.proofs.Facts.{none_long}

-- the first turns of a board's part of a run, of the same sections
orders_less : (clocks : Clocks) (ss : List RunSection) (turn : ℕ) (os ps : List Orders) → AreOrdersIn clocks ss turn (os ++ ps) → AreOrdersIn clocks ss turn os
orders_less clocks ss turn [] ps a = tt
orders_less clocks ss turn (o ∷ os) ps a = (a.0, a.1, orders_less clocks ss (turn + 1) os ps a.2)

set_less : (oid : ℕ) (ss : List RunSection) (os ps : List Orders) → AreSet oid ss 0 (os ++ ps) → AreSet oid ss 0 os
set_less oid [] os ps a = tt
set_less oid (s ∷ ss) os ps a =
    ((λ homes some soon. let more = length-append os ps in sets_front oid s.section 0 os ps soon (a.0 homes some (omega (arith, soon, more)))), set_less oid ss os ps a.1)

run_less : (own : ℕ → ℕ) (clocks : Clocks) (freq slots ready : ℕ) (stops : ℕ → Option ℕ) (ss : List RunSection) (os ps : List Orders) → IsHomeRun own clocks freq slots ready stops ss (os ++ ps) → IsHomeRun own clocks freq slots ready stops ss os
run_less own clocks freq slots ready stops ss os ps r = record {
  tracked = r.tracked;
  sections = r.sections;
  row = r.row;
  orders = orders_less clocks ss 0 os ps r.orders;
  set = λ oid. set_less oid ss os ps (r.set oid);
  made = λ long oid u.
      let more = length-append os ps in
      let all : HasUnits oid ss ⊎ SetsAny oid (os ++ ps) = elim u [ inl x ↦ inl x | inr x ↦ inr (any_front oid os ps x) ] in
      subst (λ (x : List Orders). MakesIn oid x) (take-append-le ready os ps long) (r.made (omega (arith, long, more)) oid all);
  ahead = r.ahead;
}

-- what is timely in some turns is so in the first of them
front_timely : (clock : BoardClock) (turn : ℕ) (xs ys : List Orders) (l m : LinkState) (t : AreTurns clock turn (xs ++ ys) l m) (h : Core) → AllTimely h (steps_of clock turn (xs ++ ys) l m t)
    → (mid : LinkState) × (u : AreTurns clock turn xs l mid) × AllTimely h (steps_of clock turn xs l mid u)
front_timely clock turn [] ys l m t h a = (l, refl, tt)
front_timely clock turn (x ∷ xs) ys l m t h a =
    let here = steps_of_turn clock turn x t.1.resent l in
    let later = steps_of clock (turn + 1) (xs ++ ys) t.0 m t.2 in
    let rest = front_timely clock (turn + 1) xs ys t.0 m t.2 (run_world here h) (timely_behind here later h a) in
    (rest.0, (t.0, t.1, rest.1), timely_join here (steps_of clock (turn + 1) xs t.0 rest.0 rest.1) h (timely_front here later h a) rest.2)

-- what was told of a section by some turns was told by the first of them, where it ended by then
told_less : (m : Machine) (switches : List Switch) (pins : List (List Level)) (entries : List Entry) (b start end : ℕ) (turns later past : List BoardTurn) → turns ≡ later ++ past → end ≤ length past → IsToldIn m switches pins entries b start end turns
    → IsToldIn m switches pins entries b start end past
told_less m switches pins entries b start end turns later past cut low x =
    elim (cuts later past x.later x.past (sym cut ∙ x.are)) [
      | inl p ↦ record {
        came = x.came;
        before = x.before;
        later = p.0;
        past = x.past;
        are = p.2;
        long = x.long;
        run_is = x.run_is;
        states = x.states;
        goes_on = x.goes_on;
        begin = x.begin;
        members = x.members;
        begun = x.begun;
        soon = x.soon;
        far = x.far;
        none = x.none;
        homed = x.homed;
        fires = x.fires;
      }
      | inr p ↦ let e = ap length p.3 in let f = length-append p.1 past in let long = x.long in absurd (omega (arith, e, f, low, long))
    ]

module _ (m : Machine) (v : IsValidMachine m) (switches : List Switch) (pins : List (List Level)) (entries : List Entry) (none : entries ≡ []) (b ready until : ℕ) (own : ℕ → ℕ) (ts : List MotionTurn) (p : Plans m (length m.boards) ts) (t : Told)
    (told : p.seen.told ≡ Some t) (early : ready + 260 ≤ t.first) (may : MayHome m p.seen.begun) (came : List Came) (turns : List BoardTurn) (run_is : IsInRun m switches pins entries b came turns) (by : IsPlannedBy m switches (length m.boards) ts p came)
    (connected : ArePastConnecting m switches ready came) (own_is : (n : ℕ) → n ≤ length turns → AreOwn (board_at m b) n own)
    (home : IsHomeRun own (clocks_at t.clocks b) (board_at m b).freq (board_at m b).slots ready (stops_of p.seen.begun) (cuts_on m t.clocks until p.seen.begun b) (orders_in turns)) where
  abbrev Clock : BoardClock
  Clock = clock_of (board_at m b)

  abbrev First : LinkState
  First = first_state (board_at m b) pins b entries

  abbrev Line : Clocks
  Line = clocks_at t.clocks b

  abbrev Stops : ℕ → Option ℕ
  Stops = stops_of p.seen.begun

  abbrev Sections : List RunSection
  Sections = cuts_on m t.clocks until p.seen.begun b

  abbrev HomeRun : List Orders → Type 0
  HomeRun os = IsHomeRun own Line (board_at m b).freq (board_at m b).slots ready Stops Sections os

  -- the turns of a link, in which all units are timely
  abbrev pub Timed : List Orders → Type 0
  Timed os = (end : LinkState) × (link : AreTurns Clock 0 os First end) × AllTimely (new_world (board_at m b) pins) (steps_of Clock 0 os First end link)

  home_at : (later past : List BoardTurn) → turns ≡ later ++ past → HomeRun (orders_in past)
  home_at later past cut =
      let more = later_orders later past in
      run_less own Line (board_at m b).freq (board_at m b).slots ready Stops Sections (orders_in past) more.0 (subst HomeRun (ap orders_in cut ∙ more.1) home)

  -- the homing sections that ended in the first turns were told of
  takes_at : (later past : List BoardTurn) → turns ≡ later ++ past → AllKeepLimits (orders_in past) → (xs : List Started) (s : Started) (behind : List Started) (axis : ℕ) → p.seen.begun ≡ xs ++ s ∷ behind → s.section.kind ≡ Home axis
      → s.end ≤ length past → (f : Split m switches pins entries b s.end came turns) → length f.past ≡ s.end → TakesSetUp First s.start f.past ⊎ IsReadSo m switches b f.c f.before f.past
  takes_at later past cut limits xs s behind axis are kind low f long =
      let Row : List Started → Type 0 = λ ss. AreInARow t.first ss in
      let row = row_from t.first xs s behind (subst Row are (in_row m switches pins entries b ts p t ready came by told early connected may)) in
      let starts = row.0 in
      let ends = row.1 in
      let whole : turns ≡ (f.later ++ f.t ∷ []) ++ f.past = f.turns_is ∙ sym (append_assoc f.later (f.t ∷ []) f.past) in
      let kept : AllKeepLimits (orders_in f.past) = elim (cuts later past (f.later ++ f.t ∷ []) f.past (sym cut ∙ whole)) [
        | inl q ↦ let more = later_orders q.0 f.past in (limits_split (orders_in f.past) more.0 (subst AllKeepLimits (ap orders_in q.2 ∙ more.1) limits)).0
        | inr q ↦ let e = ap length q.3 in let n = length-append q.1 past in absurd (omega (arith, e, n, low, long))
      ] in
      inl (clear_set_up (board_at m b) pins b entries f.past s.start none f.run.turns_are.1 kept (omega (arith, early, starts)) (omega (arith, long, ends)))

  told_at : (later past : List BoardTurn) → turns ≡ later ++ past → AllKeepLimits (orders_in past) → AreToldIn m switches pins entries b Stops Sections past
  told_at later past cut limits turn end stops low =
      let size = ap length cut ∙ length-append later past in
      let x = told_to m switches pins entries b ts p t ready came by told early connected may turns until (length past) run_is (omega (arith, size)) (takes_at later past cut limits) turn end stops low in
      (x.0, x.1, x.2, x.3, x.4, x.5, x.6, x.7, told_less m switches pins entries b x.1.section.start end turns later past cut low x.8)

  -- some turns of the run that keep the limits
  module _ (before : List Came) (later past : List BoardTurn) (cut : turns ≡ later ++ past) (r : IsInRun m switches pins entries b before past) (notes : CameNotes p.seen.begun before) (limits : AllKeepLimits (orders_in past)) where
    abbrev Orders_at : List Orders
    Orders_at = orders_in past

    abbrev LinkTo : LinkState → Type 0
    LinkTo end = AreTurns Clock 0 Orders_at First end

    owned : AreOwn (board_at m b) (length Orders_at) own
    owned = let size = ap length cut ∙ length-append later past in let long = order_length past in own_is (length Orders_at) (omega (arith, size, long))

    split_here : IsSplitIn own Stops (board_at m b).slots Sections Orders_at
    split_here = run_split own Line (board_at m b).freq (board_at m b).slots ready Stops Sections Orders_at owned.ticks (home_at later past cut)

    told_here : AreToldIn m switches pins entries b Stops Sections past
    told_here = told_at later past cut limits

    heed_here : (end : LinkState) (link : LinkTo end) → AllHeed split_here.front split_here.tail (new_world (board_at m b) pins) (steps_of Clock 0 Orders_at First end link)
    heed_here end link =
        let far : 260 ≤ t.first = omega (arith, early) in
        board_heeds m v switches pins entries b (board_at m b).freq (board_at m b).slots ready t.first until own Line t.clocks p.seen.begun before past (home_at later past cut) split_here told_here r notes far (in_row m switches pins entries b ts p t ready came by told early connected may) end link

    settled_here : (end : LinkState) (link : LinkTo end) → AreSettledOn Stops split_here.front Clock 0 [] Orders_at First end link
    settled_here end link =
        let homed = all_homed m switches pins entries b (board_at m b).freq (board_at m b).slots ready own Line Stops Sections past (home_at later past cut) split_here told_here in
        all_settled m switches pins entries b (lost_at (length Orders_at) split_here.tail) split_here.front split_here.tail past Stops end link v r.turns_are (front_queued Orders_at split_here.front split_here.tail split_here.are) split_here.are homed

    -- where no unit is sent too late, none is taken too late
    few_timed : (late : ℕ) → late ≤ 10_700 → AreSpilled until late (parts_on m t.clocks p.seen.begun b) → Timed Orders_at
    few_timed late most spilled =
        let d = board_at m b in
        let end = stands_after First past in
        let link : LinkTo end = turns_in_order Clock First past r.turns_are in
        let few : (k : ℕ) → spoiled (take k (ends_of Clock 0 Orders_at First end link)) ≤ 0 = (λ k. omega (arith, calm_links Clock d pins b entries Orders_at end link k none)) in (
          end,
          link,
          home_timely d pins b entries own Line ready 0 late (length Orders_at) Stops Sections Orders_at end link owned (home_at later past cut) split_here (settled_here end link) (heed_here end link) (cuts_spilled m t.clocks (length Orders_at) until late b p.seen.begun spilled) (omega arith)
              (controls_limited m v switches pins entries b before past r) few (ten_seconds d (length Orders_at) own 0 late owned (omega (arith, most))),
        )

    -- where the run goes on behind them, the board runs, and no unit is left of a section that is over
    past_soon : (c : Came) → state_at b c.states ≡ latest_state past → (last_reacted m switches c before).ordered.end ≡ None → Timed Orders_at → AreSoon (length past) Sections × ((stands_after First past).core.board.controller.state ≡ Running)
    past_soon c latest goes timed =
        let d = board_at m b in
        let os = Orders_at in
        let long = order_length past in
        let here = home_at later past cut in
        let split = split_here in
        let end = timed.0 in
        let link = timed.1 in
        let steps = steps_of Clock 0 os First end link in
        let are = turns_are Clock 0 os First end link in
        let within : 0 + length os ≤ length os = omega arith in
        let good : IsGoodRun d pins own Stops os steps = record {
          ticks = owned.ticks;
          first = own_first d (length os) own owned;
          ahead = here.ahead;
          front = split.front;
          tail = split.tail;
          are = split.are;
          good = split.good;
          lost = split.lost;
          turns = turns_owned d own (length os) 0 os steps owned within are.1;
          timely = timed.2;
          settled = settled_owned d Stops split.front own (length os) 0 [] os steps (new_world d pins) owned within are.1 (settled_head Stops split.front Clock 0 [] os First end link (settled_here end link));
          heed = heed_here end link;
        } in
        let same : end ≡ stands_after First past = same_end Clock 0 os First end (stands_after First past) link (turns_in_order Clock First past r.turns_are) in
        let is : run_world steps (new_world d pins) ≡ (stands_after First past).core = sym are.0 ∙ ap (λ (l : LinkState). l.core) same in
        let At : Core → Type 0 = λ h. MayBe h.board.controller.state in
        let runs = goes_running m switches pins entries b c before past r latest goes (subst At is (reason_is d pins own Stops os steps good)) in
        let keeps = (at_end d pins own Stops os steps good).1 in
        let took : (stands_after First past).core.taken ≡ (stands_after First past).core.queued = taken_all d pins b entries past none r.turns_are limits ∙ sym (all_queued d pins b entries past r.turns_are) in
        let none_left : split.tail ≡ [] = elim keeps.state [
          | inl g ↦
              let taken = ap length (g.taken ∙ ap (λ (h : Core). h.taken) is ∙ took ∙ ap (λ (h : Core). h.queued) (sym is) ∙ sym keeps.queued) in
              let done = orders_long g.done in
              let all = orders_long (sent_in 0 os) in
              let both = ap length split.are in
              let parts = length-append split.front split.tail in
              let front = ap length g.front_is in
              let more = length-append g.done g.more in
              none_long split.tail (omega (arith, taken, done, all, both, parts, front, more))
          | inr gone ↦ let s = gone.shut in absurd (shut_runs (stands_after First past).core.board.controller.state s.0 s.1 s.2 runs (ap (λ (h : Core). h.board.controller.state) (sym is) ∙ s.3))
        ] in
        let Soon : List Sent → Type 0 = λ xs. AreSoon (lost_at (length os) xs) Sections in
        let soon : AreSoon (length os) Sections = subst Soon none_left (split_soon Line d.freq d.slots here.tracked.until (length os) ready Stops Sections (courses split.front) split.tail here.row here.sections split.begun) in
        (subst (λ (n : ℕ). AreSoon n Sections) long soon, runs)

  -- turns that keep the limits are timely
  abbrev pub TimedAt : Type 0
  TimedAt = (before : List Came) (later past : List BoardTurn) → turns ≡ later ++ past → IsInRun m switches pins entries b before past → CameNotes p.seen.begun before → AllKeepLimits (orders_in past) → Timed (orders_in past)

  -- as where all turns are
  pub timed_all : Timed (orders_in turns) → TimedAt
  timed_all timed before later past cut r notes limits =
      let more = later_orders later past in
      let all = subst Timed (ap orders_in cut ∙ more.1) timed in
      front_timely Clock 0 (orders_in past) more.0 First all.0 all.1 (new_world (board_at m b) pins) all.2

  -- or where no unit is sent too late
  pub timed_few : (late : ℕ) → late ≤ 10_700 → AreSpilled until late (parts_on m t.clocks p.seen.begun b) → TimedAt
  timed_few late most spilled before later past cut r notes limits = few_timed before later past cut r notes limits late most spilled

  module _ (timed : TimedAt) where
    -- so in a turn and before it, and the board runs as the turn begins
    past_fits : (c : Came) (before : List Came) (later : List BoardTurn) (x : BoardTurn) (past : List BoardTurn) → turns ≡ later ++ x ∷ past → IsInRun m switches pins entries b (c ∷ before) (x ∷ past) → CameNotes p.seen.begun (c ∷ before)
        → UnitsFit past → UnitsFit (x ∷ past) × ((stands_after First past).core.board.controller.state ≡ Running)
    past_fits c before later x past cut r notes fit =
        let here = run_before m switches pins entries b c before x past r in
        let old : turns ≡ (later ++ x ∷ []) ++ past = cut ∙ sym (append_assoc later (x ∷ []) past) in
        let limits = all_limits m switches pins entries b before past v here (not_before m switches c before r.goes_on.0) fit in
        let facts = past_soon before (later ++ x ∷ []) past old here notes.1 limits c r.both.0 r.goes_on.0 (timed before (later ++ x ∷ []) past old here notes.1 limits) in
        (turns_fit own Line (board_at m b).freq (board_at m b).slots ready (length past) Stops Sections later (x ∷ past) (subst (λ (l : List BoardTurn). HomeRun (orders_in l)) cut home) facts.0 (omega arith), facts.1)

    fits_to : (before : List Came) (later past : List BoardTurn) → turns ≡ later ++ past → IsInRun m switches pins entries b before past → CameNotes p.seen.begun before → UnitsFit past
    fits_to [] later [] cut r notes = tt
    fits_to [] later (x ∷ past) cut r notes = absurd r.both
    fits_to (c ∷ before) later [] cut r notes = absurd r.both
    fits_to (c ∷ before) later (x ∷ past) cut r notes =
        (past_fits c before later x past cut r notes (fits_to before (later ++ x ∷ []) past (cut ∙ sym (append_assoc later (x ∷ []) past)) (run_before m switches pins entries b c before x past r) notes.1)).0

    -- so it is in all turns, and the board runs as the last one begins
    pub clear_fits : (c : Came) (before : List Came) (x : BoardTurn) (past : List BoardTurn) → came ≡ c ∷ before → turns ≡ x ∷ past → IsInRun m switches pins entries b (c ∷ before) (x ∷ past)
        → UnitsFit (x ∷ past) × ((stands_after First past).core.board.controller.state ≡ Running)
    clear_fits c before x past same cut r =
        let notes = subst (λ (z : List Came). CameNotes p.seen.begun z) same by.notes in
        past_fits c before [] x past cut r notes (fits_to before (x ∷ []) past cut (run_before m switches pins entries b c before x past r) notes.1)
