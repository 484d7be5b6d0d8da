-- A section of moves on a board in a run in which axes home: its steps are all made once its commands are taken.
use Rattle.std.proofs.Common.{◌≡◌, ℕ, suc, false, ◌+◌, ◌-◌, ◌<◌, ◌≤◌, ◌⊎◌, List, [], ◌∷◌, ◌++◌, length, map, Bool, Option, Some, None, refl, ap, sym, ◌∙◌, subst, arith, inl, inr, append_assoc, append-nil, length-append}
use Rattle.laws_board.proofs.Names.{All-head, flat_map, Level, BoardDef, BoardState, Running, Shut, Clocks, dir_commands, reset_commands, step_command, Cmd, Meant, commands_of, only, plain, unit_orders, units_orders, Core, Step, run_world, new_world, StepUnit, AreBefore, base_of, section_steps, queued_in, Orders, run_append}
use Rattle.msg_code.specs.declared.cmd.Cmd.TheVariants as cmd
use Rattle.board_sim.specs.Board.{stepper_at}
use Rattle.board_world.specs.Orders.{unit_ticks}
use Rattle.laws_board.specs.sections.Courses.{AreMadeFor, Course, IsMadeBy, IsSince, courses, course_from, no_course, course_parts}
use Rattle.laws_board.specs.sections.Homes.{AreBeforeFirst, AreInTurn, AreOrdersIn, AreReleasedIn, IsHomeRun, IsHomeSpan, IsMovesIn, IsSectionBy, RunSection}
use Rattle.laws_board.specs.sections.Ends.{MayBe}
use Rattle.laws_board.specs.sections.Stops.{NeverStop}
use Rattle.laws_board.specs.sections.Known.{Sent, orders_sent, sent_at, sent_in}
use Rattle.laws_board.proofs.sections.Coursed.{begins, turns_keep}
use Rattle.laws_board.proofs.sections.Entering.{AreEarly}
use Rattle.laws_board.proofs.sections.Clocks.{ticks_rise}
use Rattle.laws_board.proofs.sections.Halted.{keeps_fronts, made_of_all}
use Rattle.laws_board.proofs.sections.HomeAll.{run_fronts}
use Rattle.laws_board.proofs.sections.HomeSpans.{before_early, fronts_early, script_of}
use Rattle.laws_board.proofs.sections.Lists.{cuts, orders_append, own_up, orders_long}
use Rattle.laws_board.proofs.sections.Spans.{all_split, early_up, section_early, sent_in_append}
use Rattle.laws_board.proofs.sections.Releasing.{AreFrom}
use Rattle.laws_board.proofs.sections.Standing.{BoardStands, made_for}
use Rattle.laws_board.proofs.sections.Stepping.{Going, Keeps, Script, course_append, heed_behind, heed_front}
use Rattle.laws_board.proofs.sections.Turning.{timely_behind, timely_front}
use Rattle.laws_run.proofs.home_wholes.Front.{AreLostBy, over_front, released_with, row_later, run_front}
use Rattle.laws_run.proofs.home_wholes.Meaning.{all_mean, orders_behind, section_from, turns_mean, window_brings}
use Rattle.laws_run.proofs.home_wholes.Phases.{Aim, AllBefore, AllStill, AreFree, Holds, before_front, finish, no_since, none_since}
use Rattle.laws_run.proofs.home_wholes.Stages.{Stage, done_same, turns_stage}
use Rattle.laws_run.specs.home_wholes.Still.{BringStill, EachStill, IsStill, IsStillAt}
use Rattle.laws_run.proofs.home_headline.Stop.{never_shut}
use Rattle.laws_board.proofs.sections.Wholes.{sent_orders}
use Rattle.laws_homing.specs.clear_groups.Resting.{EachTame, IsTame}
use Rattle.laws_homing.proofs.home_runs.Settled.{AllFrom, from_in}
use Rattle.board_world.proofs.Causes.{runs_on}
use Rattle.plan_types.proofs.Facts.{none_long}

-- the commands of some that are queued start no trigger and bind no stepper
abbrev MeanStill : List Meant → Type 0
MeanStill [] = Unit {0}
MeanStill (m ∷ ms) = IsStill m.command × MeanStill ms

mean_both : (xs ys : List Meant) → MeanStill xs → MeanStill ys → MeanStill (xs ++ ys)
mean_both [] ys a b = b
mean_both (x ∷ xs) ys a b = (a.0, mean_both xs ys a.1 b)

still_both : (xs ys : List Sent) → AllStill xs → AllStill ys → AllStill (xs ++ ys)
still_both [] ys a b = b
still_both (x ∷ xs) ys a b = (a.0, still_both xs ys a.1 b)

still_at : (turn : ℕ) (ms : List Meant) → MeanStill ms → AllStill (sent_at turn ms)
still_at turn [] a = tt
still_at turn (m ∷ ms) a = (a.0, still_at turn ms a.1)

plain_still : (cs : List Cmd) → EachStill cs → MeanStill (map plain cs)
plain_still [] a = tt
plain_still (c ∷ cs) a = (a.0, plain_still cs a.1)

unit_still : (u : StepUnit) → MeanStill (unit_orders u)
unit_still u = one u.reset u.up
  where
    one : (r : Option ℕ) (d : Option Bool) → MeanStill (map plain (reset_commands u.stepper r) ++ (map plain (dir_commands u.stepper d) ++ record { command = step_command u; ticks = unit_ticks u } ∷ []))
    one None None = (tt, tt)
    one None (Some d) = (tt, (tt, tt))
    one (Some r) None = (tt, (tt, tt))
    one (Some r) (Some d) = (tt, (tt, (tt, tt)))

units_still : (us : List StepUnit) → MeanStill (units_orders us)
units_still [] = tt
units_still (u ∷ us) = mean_both (unit_orders u) (units_orders us) (unit_still u) (units_still us)

queued_still : (o : Orders) → EachStill o.control.commands → MeanStill (queued_in o)
queued_still o a = mean_both (map plain o.control.commands) (units_orders o.batch.units) (plain_still o.control.commands a) (units_still o.batch.units)

still_tame : (ms : List Meant) → MeanStill ms → EachTame (commands_of ms)
still_tame [] a = tt
still_tame (m ∷ ms) a = (one m.command a.0, still_tame ms a.1)
  where
    one : (c : Cmd) → IsStill c → IsTame c
    one (cmd.TrsyncStart oid clock every reason) i = i
    one c i = tt

pub queued_tame : (o : Orders) → EachStill o.control.commands → EachTame (commands_of (queued_in o))
queued_tame o a = still_tame (queued_in o) (queued_still o a)

pub orders_still : (turn : ℕ) (os : List Orders) → BringStill os → AllStill (sent_in turn os)
orders_still turn [] a = tt
orders_still turn (o ∷ os) a = still_both (sent_at turn (queued_in o)) (sent_in (turn + 1) os) (still_at turn (queued_in o) (queued_still o a.0)) (orders_still (turn + 1) os a.1)

before_at : (turn to : ℕ) (ms : List Meant) → turn < to → AllBefore to (sent_at turn ms)
before_at turn to [] l = tt
before_at turn to (m ∷ ms) l = (l, before_at turn to ms l)

before_both : (turn : ℕ) (xs ys : List Sent) → AllBefore turn xs → AllBefore turn ys → AllBefore turn (xs ++ ys)
before_both turn [] ys a b = b
before_both turn (x ∷ xs) ys a b = (a.0, before_both turn xs ys a.1 b)

pub before_in : (turn to : ℕ) (os : List Orders) → turn + length os ≤ to → AllBefore to (sent_in turn os)
before_in turn to [] l = tt
before_in turn to (o ∷ os) l = before_both to (sent_at turn (queued_in o)) (sent_in (turn + 1) os) (before_at turn to (queued_in o) (omega (arith, l))) (before_in (turn + 1) to os (omega (arith, l)))

-- a command among others
pub among_before : (n : ℕ) (xs : List Sent) (x : Sent) (ys : List Sent) → AllBefore n (xs ++ x ∷ ys) → x.turn < n
among_before n [] x ys a = a.0
among_before n (y ∷ xs) x ys a = among_before n xs x ys a.1

pub among_from : (n : ℕ) (xs : List Sent) (x : Sent) (ys : List Sent) → AllFrom n (xs ++ x ∷ ys) → n ≤ x.turn
among_from n [] x ys a = a.0
among_from n (y ∷ xs) x ys a = among_from n xs x ys a.1

-- The turns of a run up to one, on to another, and those behind it.
module _ (b : BoardDef) (pins : List (List Level)) (own : ℕ → ℕ) (clocks : Clocks) (ready : ℕ) (stops : ℕ → Option ℕ) (ss : List RunSection) (before during behind : List Orders) (first second : List Step)
    (r : IsHomeSpan b pins own clocks ready stops ss before during behind first second) where
  abbrev S : Script
  S = script_of b pins own clocks ready stops ss before during behind first second r

  abbrev Stop : ℕ
  Stop = length before + length during

  abbrev pub At_mid : Core
  At_mid = run_world first (new_world b pins)

  abbrev pub At_end : Core
  At_end = run_world (first ++ second) (new_world b pins)

  pub span_is : sent_in 0 before ++ (sent_in (length before) during ++ sent_in Stop behind) ≡ S.all
  span_is =
      let a = length before in
      let zero_more : 0 + a ≡ a = omega arith in
      ap (λ x. sent_in 0 before ++ x) (sym (sent_in_append a during behind)) ∙ ap (λ n. sent_in 0 before ++ sent_in n (during ++ behind)) (sym zero_more) ∙ sym (sent_in_append 0 before (during ++ behind))

  pub mid_keeps : Keeps S (length before) (length before) (sent_in 0 before) At_mid
  mid_keeps =
      let zero_more : 0 + length before ≡ length before = omega arith in
      let k = turns_keep S 0 [] (sent_in (length before) during ++ sent_in Stop behind) before first (new_world b pins) r.first_turns (begins S b pins r.begin refl) span_is (timely_front first second (new_world b pins) r.timely) r.first_settled
      (heed_front S.front S.tail first second (new_world b pins) r.heed) in
      subst (λ n. Keeps S n n (sent_in 0 before) At_mid) zero_more k.1

  abbrev pub Sent_by : List Sent
  Sent_by = sent_in 0 before ++ sent_in (length before) during

  pub last_all : Sent_by ++ sent_in Stop behind ≡ S.all
  last_all = append_assoc (sent_in 0 before) (sent_in (length before) during) (sent_in Stop behind) ∙ span_is

  pub last_keeps : Keeps S Stop Stop Sent_by At_end
  last_keeps =
      let k = turns_keep S (length before) (sent_in 0 before) (sent_in Stop behind) during second At_mid r.second_turns mid_keeps last_all (timely_behind first second (new_world b pins) r.timely) r.second_settled
      (heed_behind S.front S.tail first second (new_world b pins) r.heed) in
      subst (λ (h : Core). Keeps S Stop Stop Sent_by h) (sym (run_append first second (new_world b pins))) k.1

  -- why it may have shut down
  pub reason_last : MayBe At_end.board.controller.state
  reason_last =
      let At : BoardState → Type 0 = λ o. MayBe o in
      elim last_keeps.state [
        | inl g ↦ subst At (sym g.stands.running) tt
        | inr d ↦
            let (reason, t, first_tick, state, may) = d.shut in
            subst At (sym state) may
      ]

  pub never_last : (tick first_tick : ℕ) → NeverStop (before ++ during) → At_end.board.controller.state ≡ Shut 5 tick first_tick → ⊥
  never_last tick first_tick never shut =
      let zero_more : 0 + length before ≡ length before = omega arith in
      let all : Sent_by ≡ sent_in 0 (before ++ during) = ap (λ n. sent_in 0 before ++ sent_in n during) (sym zero_more) ∙ sym (sent_in_append 0 before during) in
      let queue : At_end.queued ≡ flat_map queued_in (before ++ during) = sym last_keeps.queued ∙ ap orders_sent all ∙ sent_orders 0 (before ++ during) in
      never_shut b pins (before ++ during) (first ++ second) tick first_tick last_keeps.ordered queue never shut

  -- the first triple that comes too late, where it is queued before the last turn: a board that runs then has not taken all
  not_all : (t : Sent) (tail : List Sent) → r.split.tail ≡ t ∷ tail → t.turn < Stop → At_end.board.controller.state ≡ Running → At_end.taken ≡ At_end.queued → ⊥
  not_all t tail is soon running took =
      elim last_keeps.state [
        | inl g ↦
            let same_long : length g.done ≡ length Sent_by = sym (orders_long g.done) ∙ ap length (g.taken ∙ took ∙ sym last_keeps.queued) ∙ orders_long Sent_by in
            let more_long = ap length g.front_is in
            let one = length-append g.done g.more in
            let cut : r.split.front ++ t ∷ tail ≡ Sent_by ++ sent_in Stop behind = ap (λ y. r.split.front ++ y) (sym is) ∙ r.split.are ∙ sym last_all in
            elim (cuts r.split.front (t ∷ tail) Sent_by (sent_in Stop behind) cut) [
              | inl p ↦ behind_front p.0 p.1 p.2 (omega (arith, same_long, more_long, one))
              | inr p ↦
                  let late = among_from Stop (p.0 ∷ p.1) t tail (subst (λ (z : List Sent). AllFrom Stop z) p.3 (from_in Stop Stop behind (omega arith))) in
                  omega (arith, late, soon)
            ]
        | inr d ↦
            let (reason, tick, first_tick, state, may) = d.shut in
            runs_on reason tick first_tick (sym running ∙ state)
      ]
    where
      behind_front : (m : List Sent) → Sent_by ≡ r.split.front ++ m → t ∷ tail ≡ m ++ sent_in Stop behind → length Sent_by ≤ length r.split.front → ⊥
      behind_front [] is_all rest long = (let late = (subst (λ (z : List Sent). AllFrom Stop z) (sym rest) (from_in Stop Stop behind (omega arith))).0 in omega (arith, late, soon))
      behind_front (y ∷ m) is_all rest long = (let size = ap length is_all in let more = length-append r.split.front (y ∷ m) in omega (arith, size, more, long))

  pub lost_taken : AreLostBy Stop r.split.tail → At_end.board.controller.state ≡ Running → At_end.taken ≡ At_end.queued → ⊥
  lost_taken = by r.split.tail refl
    where
      by : (tail : List Sent) → r.split.tail ≡ tail → AreLostBy Stop tail → At_end.board.controller.state ≡ Running → At_end.taken ≡ At_end.queued → ⊥
      by [] is lost running took = lost
      by (t ∷ tail) is lost running took = not_all t tail is lost running took

  -- and all pulses that are made are early
  pub lost_early : (n : ℕ) → AreLostBy (n + 1) r.split.tail → (oid : ℕ) → AreEarly (own n) (only oid At_end.made)
  lost_early n lost oid = by r.split.tail (r.split.early oid (only oid At_end.made) (keeps_fronts S Stop Sent_by At_end last_keeps oid)) lost
    where
      by : (tail : List Sent) → AreBeforeFirst own tail (only oid At_end.made) → AreLostBy (n + 1) tail → AreEarly (own n) (only oid At_end.made)
      by [] before lost = absurd lost
      by (t ∷ tail) before lost = early_up (own t.turn) (own n) (only oid At_end.made) (ticks_rise own r.ticks t.turn n (omega (arith, lost))) (before_early (own t.turn) (only oid At_end.made) before)

-- The turns of a run: those before the units of a section may be released, those in which they are, others up to a turn, and those behind it.
module _ (b : BoardDef) (pins : List (List Level)) (own : ℕ → ℕ) (clocks : Clocks) (ready : ℕ) (stops : ℕ → Option ℕ) (past : List RunSection) (s : RunSection) (later : List RunSection) (before mine others behind : List Orders) (first second : List Step)
    (r : IsHomeSpan b pins own clocks ready stops (past ++ s ∷ later) before (mine ++ others) behind first second) (moves : s.homes ≡ false) (low : length before + 250 ≡ s.section.start) (over : length before + length mine ≡ s.section.end + 5)
    (out : AreReleasedIn past) (released : AreBefore (s.section.end + 5) s.section.releases) (still : IsStillAt (run_world first (new_world b pins))) (brings : BringStill mine) where
  abbrev P : Script
  P = S b pins own clocks ready stops (past ++ s ∷ later) before (mine ++ others) behind first second r

  abbrev N : ℕ
  N = length before + length mine

  abbrev End : ℕ
  End = length before + length (mine ++ others)

  abbrev Upto : List Sent
  Upto = sent_in 0 before ++ sent_in (length before) mine

  rows : AreInTurn s.section.end later × (ready + 260 ≤ s.section.start) × (s.section.start ≤ s.section.end)
  rows = row_later ready past s later r.run_is.row

  the_section : IsMovesIn clocks b.freq b.slots r.run_is.tracked.until stops s.section
  the_section =
      let Q : RunSection → Type 0 = λ (x : RunSection). IsSectionBy x.homes clocks b.freq b.slots r.run_is.tracked.until stops x.section in
      let here = All-head Q s later (all_split Q past (s ∷ later) r.run_is.sections).1 in
      subst (λ (h : Bool). IsSectionBy h clocks b.freq b.slots r.run_is.tracked.until stops s.section) moves here

  -- what these turns make of each stepper
  meaning : (oid : ℕ) → (section_steps oid s.section ≡ []) ⊎ (IsSince (length before) (courses Upto oid).since × ((courses Upto oid).known.steps ≡ section_steps oid s.section))
  meaning oid =
      let i = the_section in
      let is = i.is in
      let a = length before in
      let total = section_steps oid s.section in
      let from_b = section_from clocks b.freq b.slots r.run_is.tracked.until stops false s.section i in
      let zero_more : 0 + a ≡ a = omega arith in
      let cut : before ++ ((mine ++ others) ++ behind) ≡ before ++ (mine ++ (others ++ behind)) = ap (λ x. before ++ x) (append_assoc mine others behind) in
      let Os : List Orders → Type 0 = λ x. AreOrdersIn clocks (past ++ s ∷ later) 0 x in
      let all = orders_behind clocks (past ++ s ∷ later) 0 before (mine ++ (others ++ behind)) (subst Os cut r.run_is.orders) in
      let At : ℕ → Type 0 = λ n. AreOrdersIn clocks (past ++ s ∷ later) n (mine ++ (others ++ behind)) in
      let here = orders_first a mine (others ++ behind) (subst At zero_more all) in
      let b_first : s.section.start - 250 ≡ a = omega (arith, low) in
      let window = window_brings clocks b.freq b.slots r.run_is.tracked.until ready stops past s later mine a r.run_is.sections r.run_is.row out moves (omega (arith, low)) (omega (arith, over)) here in
      let c = courses (sent_in 0 before) oid in
      let left = turns_mean a clocks b.slots (base_of clocks s.section) oid total (past ++ s ∷ later) mine a is.from c [] s.section.releases (omega arith) (inl (is.begun oid, refl)) is.paced
      (subst (λ n. AreFrom n s.section.releases) b_first from_b) window in
      let mean = all_mean a clocks (base_of clocks s.section) oid N total s.section.releases (course_from oid c (sent_in a mine)) (subst (λ (n : ℕ). AreBefore n s.section.releases) (sym over) released) left in
      let same : course_from oid c (sent_in a mine) ≡ courses Upto oid = sym (course_append oid no_course (sent_in 0 before) (sent_in a mine)) in
      subst (λ (x : Course). (total ≡ []) ⊎ (IsSince a x.since × (x.known.steps ≡ total))) same mean
    where
      orders_first : (turn : ℕ) (xs ys : List Orders) → AreOrdersIn clocks (past ++ s ∷ later) turn (xs ++ ys) → AreOrdersIn clocks (past ++ s ∷ later) turn xs
      orders_first turn [] ys h = tt
      orders_first turn (x ∷ xs) ys h = (h.0, h.1, orders_first (turn + 1) xs ys h.2)

  abbrev Rest : List Sent
  Rest = sent_in N (others ++ behind)

  all_parts : Upto ++ Rest ≡ P.all
  all_parts =
      let a = length before in
      let zero_more : 0 + a ≡ a = omega arith in
      append_assoc (sent_in 0 before) (sent_in a mine) Rest ∙ ap (λ x. sent_in 0 before ++ x) (sym (sent_in_append a mine (others ++ behind)))
      ∙ ap (λ n. sent_in 0 before ++ sent_in n (mine ++ (others ++ behind))) (sym zero_more) ∙ sym (sent_in_append 0 before (mine ++ (others ++ behind)))
      ∙ ap (λ x. sent_in 0 (before ++ x)) (sym (append_assoc mine others behind))

  aim : Aim P
  aim = record {
    low = length before;
    upto = Upto;
    rest = Rest;
    all_is = all_parts;
    next = N;
    later = from_in N N (others ++ behind) (omega arith);
    steps = λ oid. section_steps oid s.section;
    over = s.section.end + 5;
    soon = omega (arith, over);
    mean = meaning;
    early = λ oid.
        let i = the_section in
        section_early own clocks b.freq b.slots ready (s.section.end + 5) oid s.section r.ticks r.run_is.tracked i.is (omega (arith, rows.1, rows.2)) i.limit (omega arith);
  }

  abbrev Mid : Core
  Mid = At_mid b pins own clocks ready stops (past ++ s ∷ later) before (mine ++ others) behind first second r

  abbrev Last : Core
  Last = At_end b pins own clocks ready stops (past ++ s ∷ later) before (mine ++ others) behind first second r

  abbrev Sent_then : List Sent
  Sent_then = Sent_by b pins own clocks ready stops (past ++ s ∷ later) before (mine ++ others) behind first second r

  mid_is : Keeps P (length before) (length before) (sent_in 0 before) Mid
  mid_is = mid_keeps b pins own clocks ready stops (past ++ s ∷ later) before (mine ++ others) behind first second r

  last_is : Keeps P End End Sent_then Last
  last_is = last_keeps b pins own clocks ready stops (past ++ s ∷ later) before (mine ++ others) behind first second r

  whole_is : sent_in 0 before ++ (sent_in (length before) (mine ++ others) ++ sent_in End behind) ≡ P.all
  whole_is = span_is b pins own clocks ready stops (past ++ s ∷ later) before (mine ++ others) behind first second r

  end_is : Sent_then ++ sent_in End behind ≡ P.all
  end_is = last_all b pins own clocks ready stops (past ++ s ∷ later) before (mine ++ others) behind first second r

  -- as the section's units may be released
  mid_stage : Stage P aim Mid
  unfolding aim
  mid_stage running done left cut taken =
      elim mid_is.state [
        | inl g ↦
            let a = length before in
            let rest = sent_in a (mine ++ others) ++ sent_in End behind in
            let before_all : g.done ++ (g.left ++ rest) ≡ P.all = sym (append_assoc g.done g.left rest) ∙ ap (λ x. x ++ rest) (sym g.sent_is) ∙ whole_is in
            let same : done ≡ g.done = done_same done left g.done (g.left ++ rest) P.all cut before_all (taken ∙ sym g.taken) in
            let queue : Mid.taken ++ orders_sent g.left ≡ Mid.queued = ap (λ x. x ++ orders_sent g.left) (sym g.taken) ∙ sym (orders_append g.done g.left) ∙ ap orders_sent (sym g.sent_is) ∙ mid_is.queued in
            let off = still running (orders_sent g.left) queue in
            let to_come = g.left ++ sent_in a mine in
            let upto : done ++ to_come ≡ Upto = ap (λ x. x ++ to_come) same ∙ sym (append_assoc g.done g.left (sent_in a mine)) ∙ ap (λ x. x ++ sent_in a mine) (sym g.sent_is) in
            let old : AllBefore a (g.done ++ g.left) = subst (λ (x : List Sent). AllBefore a x) g.sent_is (before_in 0 a before (omega arith)) in
            let fresh : AllBefore a done = subst (λ (x : List Sent). AllBefore a x) (sym same) (before_front a g.done g.left old) in
            let held : AllBefore a (done ++ g.left) = subst (λ (x : List Sent). AllBefore a (x ++ g.left)) (sym same) old in
            inl (to_come, upto, (inr (g.left, sent_in a mine, refl, off.1, held, orders_still a mine brings), off.0, λ oid since. absurd (none_since oid a no_course done fresh (no_since a) since)))
        | inr d ↦
            let (reason, t, first_tick, state, may) = d.shut in
            absurd (runs_on reason t first_tick (sym running ∙ state))
      ]

  last_stage : Stage P aim Last
  last_stage =
      let g = turns_stage P aim (length before) (sent_in 0 before) (sent_in End behind) (mine ++ others) second Mid r.second_turns mid_is end_is (timely_behind first second (new_world b pins) r.timely) r.second_settled (heed_behind P.front P.tail first second (new_world b pins) r.heed) mid_stage in
      subst (λ (h : Core). Stage P aim h) (sym (run_append first second (new_world b pins))) g

  -- At the end the steps are all made, or some command of these turns was not taken; then all pulses are before the section's end.
  abbrev pub AllEarly : Type 0
  AllEarly = (oid : ℕ) → AreEarly (own (s.section.end + 5)) (only oid Last.made)

  abbrev pub AllSteps : Type 0
  AllSteps = (oid : ℕ) → Holds (section_steps oid s.section) (only oid Last.made)

  long_end : N ≤ End
  long_end = let e = length-append mine others in omega (arith, e)

  early_by : (g : Going P End End Sent_then Last) (to_come : List Sent) → g.done ++ to_come ≡ Upto → AllEarly
  early_by g to_come cut oid =
      let made = made_of_all own stops oid g.done to_come Upto (only oid Last.made) cut (made_for own stops oid (stepper_at Last.board.controller oid) (courses g.done oid) (only oid Last.made) (g.made oid)) in
      let xs = before ++ mine in
      let ys = others ++ behind in
      let zero_more : 0 + length before ≡ length before = omega arith in
      let cut_all : before ++ ((mine ++ others) ++ behind) ≡ xs ++ ys = ap (λ x. before ++ x) (append_assoc mine others behind) ∙ sym (append_assoc before mine ys) in
      let Run : List Orders → Type 0 = λ x. IsHomeRun own clocks b.freq b.slots ready stops (past ++ s ∷ later) x in
      let long = length-append before mine in
      let front = run_front own clocks b.freq b.slots ready stops past s later xs ys (subst Run cut_all r.run_is) (omega (arith, long, over)) in
      let sent : Upto ≡ sent_in 0 xs = ap (λ n. sent_in 0 before ++ sent_in n mine) (sym zero_more) ∙ sym (sent_in_append 0 before mine) in
      let Made : List Sent → Type 0 = λ x. AreMadeFor own stops (course_parts (courses x oid)) (only oid Last.made) in
      let f = run_fronts own clocks b.freq b.slots ready stops (past ++ s ∷ []) xs r.ticks front (released_with past s out (λ _. released)) oid (only oid Last.made) (subst Made sent made) in
      fronts_early own oid (s.section.end + 5) (past ++ s ∷ []) (only oid Last.made) r.ticks (over_front ready (s.section.end + 5) past s later r.run_is.row (omega arith)) f

  finished : (g : Going P End End Sent_then Last) → g.done ≡ Upto → AreFree (length before) (courses g.done) Last.board.controller → AllSteps
  unfolding aim
  finished g same free =
      let Free : List Sent → Type 0 = λ x. AreFree (length before) (courses x) Last.board.controller in
      let late = long_end in
      finish P aim End End Last.board.controller Last.made (omega (arith, over, late)) (λ j k l. own_up own P.up j k l)
      (subst (λ (x : List Sent). BoardStands own stops b.slots End End (courses x) Last.board.controller) same g.stands)
      (subst (λ (x : List Sent). (oid : ℕ) → IsMadeBy own stops oid (stepper_at Last.board.controller oid) (courses x oid) (only oid Last.made)) same g.made) (subst Free same free)

  pub made_or_early : Last.board.controller.state ≡ Running → AllSteps ⊎ AllEarly
  unfolding aim
  made_or_early running =
      elim last_is.state [
        | inl g ↦
            let all : g.done ++ (g.left ++ sent_in End behind) ≡ P.all = sym (append_assoc g.done g.left (sent_in End behind)) ∙ ap (λ x. x ++ sent_in End behind) (sym g.sent_is) ∙ end_is in
            elim (last_stage running g.done (g.left ++ sent_in End behind) all g.taken) [
              | inl x ↦ inr (early_by g x.0 x.1)
              | inr m ↦ inl m
            ]
        | inr d ↦
            let (reason, t, first_tick, state, may) = d.shut in
            absurd (runs_on reason t first_tick (sym running ∙ state))
      ]

  pub made_where_taken : Last.board.controller.state ≡ Running → Last.taken ≡ Last.queued → AllSteps
  unfolding aim
  made_where_taken running took =
      elim last_is.state [
        | inl g ↦
            let all : g.done ++ (g.left ++ sent_in End behind) ≡ P.all = sym (append_assoc g.done g.left (sent_in End behind)) ∙ ap (λ x. x ++ sent_in End behind) (sym g.sent_is) ∙ end_is in
            elim (last_stage running g.done (g.left ++ sent_in End behind) all g.taken) [
              | inl x ↦
                  let (to_come, cut, (calm, off, free)) = x in
                  let same_long : length g.done ≡ length Sent_then = sym (orders_long g.done) ∙ ap length (g.taken ∙ took ∙ sym last_is.queued) ∙ orders_long Sent_then in
                  let a = length before in
                  let split : Sent_then ≡ Upto ++ sent_in N others = ap (λ x. sent_in 0 before ++ x) (sent_in_append a mine others) ∙ sym (append_assoc (sent_in 0 before) (sent_in a mine) (sent_in N others)) in
                  let one = ap length split ∙ length-append Upto (sent_in N others) in
                  let two = ap length cut in
                  let three = length-append g.done to_come in
                  let none : to_come ≡ [] = none_long to_come (omega (arith, same_long, one, two, three)) in
                  finished g (sym (append-nil g.done) ∙ ap (λ x. g.done ++ x) (sym none) ∙ cut) free
              | inr m ↦ m
            ]
        | inr d ↦
            let (reason, t, first_tick, state, may) = d.shut in
            absurd (runs_on reason t first_tick (sym running ∙ state))
      ]
