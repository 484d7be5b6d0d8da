-- A homing section that a word tells of is one whose set-up each board took in time.
use Rattle.std.proofs.Common.{◌≡◌, ℕ, ◌+◌, ◌-◌, ◌<◌, ◌≤◌, true, List, [], ◌∷◌, ◌++◌, length, map, Option, ap, sym, ◌∙◌, subst, arith}
use Rattle.laws_board.proofs.Names.{Level, Machine, clock_of, Clocks, IsValidMachine, board_at, State, Entry, Switch, first_state, LinkState, Orders, new_world, Member, members_of}
use Rattle.laws_board.specs.sections.Courses.{AllHeed, courses}
use Rattle.laws_board.specs.sections.Events.{AreOwn}
use Rattle.laws_board.specs.sections.Homes.{AreOrdersIn, AreSoon, BeginLeftOf, IsHomeBoard, IsHomeRun, IsSplitIn, RunSection, lost_at}
use Rattle.laws_board.specs.sections.Links.{AreTold, steps_of, turns_told}
use Rattle.laws_board.specs.sections.Timely.{AllTimely}
use Rattle.laws_board.proofs.sections.HomeCut.{ended_by, front_queued, split_soon}
use Rattle.trigger_group.specs.declared.order.End.TheVariants.{Endstop}
use Rattle.laws_board.specs.turns.Turns.{AreBoardTurns, BoardTurn}
use Rattle.laws_board.specs.clocks.Runs.{orders_in}
use Rattle.laws_board.proofs.clocks.Lines.{as_long}
use Rattle.laws_board.proofs.clocks.Orders.{order_length}
use Rattle.laws_homing.specs.home_runs.Sections.{HomesFrom}
use Rattle.laws_homing.specs.home_runs.Settled.{AreHomed, IsHomed, SendNoneIn, SetNoClockFrom}
use Rattle.laws_homing.specs.home_runs.Ended.{AreToldIn, IsToldIn}
use Rattle.laws_homing.proofs.home_runs.Along.{all_settled}
use Rattle.laws_homing.proofs.home_runs.Joining.{homes_later}
use Rattle.laws_homing.proofs.home_runs.Knowing.{homing_known, word_answers}
use Rattle.laws_homing.proofs.home_runs.Settled.{later_orders}
use Rattle.laws_homing.proofs.home_runs.Unclocked.{none_from, sends_none}

pub told_homed : (m : Machine) (switches : List Switch) (pins : List (List Level)) (entries : List Entry) (b start end from : ℕ) (turns : List BoardTurn) (t : IsToldIn m switches pins entries b start end turns) → from + 254 ≡ start → SetNoClockFrom from t.past
    → SendNoneIn from (from + 4) t.past → IsHomed m switches pins entries b start end turns
told_homed m switches pins entries b start end from turns t begins none sends =
    let run = t.run_is in
    let long = as_long m switches b t.before t.past run.both in
    let soon = t.soon in
    let far = t.far in
    let at = t.long in
    let x = word_answers m switches t.begin start t.members t.came t.before (t.goes_on, run.goes_on) t.begun (omega (arith, soon, far, at, long)) t.none t.homed in
    let since = homes_later m switches t.begin from start t.members t.before (omega (arith, soon, begins)) (homing_known m switches t.begin start t.members t.before run.goes_on t.begun) in
    let At : ℕ → List Member → Type 0 = λ n ms. HomesFrom m switches from n ms t.before in
    let known : HomesFrom m switches from x.0.start (members_of x.0.group) t.before =
    subst (λ (n : ℕ). HomesFrom m switches from n (members_of x.0.group) t.before) (sym x.3) (subst (λ (ms : List Member). HomesFrom m switches from start ms t.before) (sym x.4) since) in
    let set_up : from + 254 ≡ x.0.start = begins ∙ sym x.3 in
    record {
      came = t.came;
      before = t.before;
      later = t.later;
      past = t.past;
      are = t.are;
      long = t.long;
      run_is = t.run_is;
      states = t.states;
      homing = x.0;
      answered = record { known = x.2; end = Endstop x.1; answer = x.5; from = from; set_up = set_up; since = known };
      begin = x.3;
      sets_none = none;
      sends_none = sends;
      fires = t.fires;
    }

-- the orders of earlier turns
pub orders_front : (clocks : Clocks) (ss : List RunSection) (turn : ℕ) (os ps : List Orders) → AreOrdersIn clocks ss turn (os ++ ps) → AreOrdersIn clocks ss turn os
orders_front clocks ss turn [] ps a = tt
orders_front clocks ss turn (o ∷ os) ps a = (a.0, a.1, orders_front clocks ss (turn + 1) os ps a.2)

-- no unit sets a clock from 254 turns before the start of one on
none_set : (m : Machine) (switches : List Switch) (pins : List (List Level)) (entries : List Entry) (b freq slots ready end by : ℕ) (own : ℕ → ℕ) (clocks : Clocks) (stops : ℕ → Option ℕ) (past : List RunSection) (s : RunSection) (later : List RunSection)
    (turns : List BoardTurn) → IsHomeRun own clocks freq slots ready stops (past ++ s ∷ later) (orders_in turns) → AreSoon by (past ++ s ∷ later) → s.section.end ≤ by → s.homes ≡ true → s.section.end ≡ end
    → (t : IsToldIn m switches pins entries b s.section.start end turns) → (from : ℕ) → from + 254 ≡ s.section.start → SetNoClockFrom from t.past
none_set m switches pins entries b freq slots ready end by own clocks stops past s later turns run out low homes at t from begins =
    let ss = past ++ s ∷ later in
    let long = t.long in
    let more = later_orders t.later t.past in
    let all : AreOrdersIn clocks ss 0 (orders_in t.past ++ more.0) = subst (λ (os : List Orders). AreOrdersIn clocks ss 0 os) (ap orders_in t.are ∙ more.1) run.orders in
    none_from clocks freq slots run.tracked.until by ready from stops past s later t.past run.row run.sections out low (orders_front clocks ss 0 (orders_in t.past) more.0 all) homes begins (omega (arith, long, at))

-- nor is any sent in the four turns of its set-up
pub none_sent : (m : Machine) (switches : List Switch) (pins : List (List Level)) (entries : List Entry) (b freq slots ready end by : ℕ) (own : ℕ → ℕ) (clocks : Clocks) (stops : ℕ → Option ℕ) (past : List RunSection) (s : RunSection) (later : List RunSection)
    (turns : List BoardTurn) → IsHomeRun own clocks freq slots ready stops (past ++ s ∷ later) (orders_in turns) → AreSoon by (past ++ s ∷ later) → s.section.start ≤ by → (t : IsToldIn m switches pins entries b s.section.start end turns)
    → (from : ℕ) → from + 254 ≡ s.section.start → SendNoneIn from (from + 4) t.past
none_sent m switches pins entries b freq slots ready end by own clocks stops past s later turns run out low t from begins =
    let ss = past ++ s ∷ later in
    let more = later_orders t.later t.past in
    let all : AreOrdersIn clocks ss 0 (orders_in t.past ++ more.0) = subst (λ (os : List Orders). AreOrdersIn clocks ss 0 os) (ap orders_in t.are ∙ more.1) run.orders in
    sends_none clocks freq slots run.tracked.until by ready from stops past s later t.past run.row run.sections out low (orders_front clocks ss 0 (orders_in t.past) more.0 all) begins

one_homed : (m : Machine) (switches : List Switch) (pins : List (List Level)) (entries : List Entry) (b freq slots ready end by : ℕ) (own : ℕ → ℕ) (clocks : Clocks) (stops : ℕ → Option ℕ) (past : List RunSection) (s : RunSection) (later : List RunSection)
    (turns : List BoardTurn) → IsHomeRun own clocks freq slots ready stops (past ++ s ∷ later) (orders_in turns) → AreSoon by (past ++ s ∷ later) → s.section.end ≤ by → s.homes ≡ true → s.section.end ≡ end → IsToldIn m switches pins entries b s.section.start end turns
    → IsHomed m switches pins entries b s.section.start end turns
one_homed m switches pins entries b freq slots ready end by own clocks stops past s later turns run out low homes at t =
    let start = s.section.start in
    let from = start - 254 in
    let soon = t.soon in
    let far = t.far in
    let begins : from + 254 ≡ start = omega (arith, soon) in
    told_homed m switches pins entries b start end from turns t begins (none_set m switches pins entries b freq slots ready end by own clocks stops past s later turns run out low homes at t from begins)
    (none_sent m switches pins entries b freq slots ready end by own clocks stops past s later turns run out (omega (arith, far, at, low)) t from begins)

pub all_homed : (m : Machine) (switches : List Switch) (pins : List (List Level)) (entries : List Entry) (b freq slots ready : ℕ) (own : ℕ → ℕ) (clocks : Clocks) (stops : ℕ → Option ℕ) (ss : List RunSection) (turns : List BoardTurn)
    → IsHomeRun own clocks freq slots ready stops ss (orders_in turns) → (split : IsSplitIn own stops slots ss (orders_in turns)) → AreToldIn m switches pins entries b stops ss turns → AreHomed m switches pins entries b (lost_at (length (orders_in turns)) split.tail) stops turns
all_homed m switches pins entries b freq slots ready own clocks stops ss turns run split told = λ turn end low is l.
    let x = told turn end is l in
    let s = x.1 in
    let far = x.8.far in
    let soon = x.6 in
    let at = x.5 in
    let long = order_length turns in
    let run_is = subst (λ (y : List RunSection). IsHomeRun own clocks freq slots ready stops y (orders_in turns)) x.3 run in
    let last = length (orders_in turns) in
    let by = lost_at last split.tail in
    let begun = subst (λ (y : List RunSection). BeginLeftOf last y (courses split.front) split.tail) x.3 split.begun in
    let ended = ended_by last ready x.0 s x.2 (courses split.front) split.tail run_is.row begun x.4 (omega (arith, soon, low)) (omega (arith, at, l, long)) in
    let clear = split_soon clocks freq slots run.tracked.until last ready stops ss (courses split.front) split.tail run.row run.sections split.begun in (
      s.section.start,
      x.6,
      x.7,
      far,
      one_homed m switches pins entries b freq slots ready end by own clocks stops x.0 s x.2 turns run_is (subst (AreSoon by) x.3 clear) ended x.4 x.5 x.8,
    )

unfoldable pub home_board : (m : Machine) (switches : List Switch) (pins : List (List Level)) (entries : List Entry) (b ready : ℕ) (own : ℕ → ℕ) (clocks : Clocks) (stops : ℕ → Option ℕ) (ss : List RunSection) (turns : List BoardTurn) (states : List State) (end : LinkState)
    (told : AreTold (clock_of (board_at m b)) 0 (orders_in turns) states (first_state (board_at m b) pins b entries) end) → IsValidMachine m → b < length m.boards
    → AreBoardTurns (clock_of (board_at m b)) (first_state (board_at m b) pins b entries) turns
    → AreOwn (board_at m b) (length turns) own → IsHomeRun own clocks (board_at m b).freq (board_at m b).slots ready stops ss (orders_in turns) → (split : IsSplitIn own stops (board_at m b).slots ss (orders_in turns))
    → AllTimely (new_world (board_at m b) pins) (steps_of (clock_of (board_at m b)) 0 (orders_in turns) (first_state (board_at m b) pins b entries) end
    (turns_told (clock_of (board_at m b)) 0 (orders_in turns) states (first_state (board_at m b) pins b entries) end told))
    → AllHeed split.front split.tail (new_world (board_at m b) pins) (steps_of (clock_of (board_at m b)) 0 (orders_in turns) (first_state (board_at m b) pins b entries) end
    (turns_told (clock_of (board_at m b)) 0 (orders_in turns) states (first_state (board_at m b) pins b entries) end told))
    → AreToldIn m switches pins entries b stops ss turns
    → IsHomeBoard b entries ready (length turns) ss (record { board = board_at m b; pins = pins; clocks = clocks; sections = map (λ s. s.section) ss; orders = orders_in turns; states = states })
home_board m switches pins entries b ready own clocks stops ss turns states end told v l are own_is run split timely heed sections =
    let d = board_at m b in
    let clock = clock_of d in
    let first = first_state d pins b entries in
    record {
      valid = v.boards b _ l;
      stops = stops;
      own = own;
      own_is = own_is;
      run_is = run;
      split = split;
      count = order_length turns;
      end = end;
      told = told;
      timely = timely;
      settled = all_settled m switches pins entries b (lost_at (length (orders_in turns)) split.tail) split.front split.tail turns stops end (turns_told clock 0 (orders_in turns) states first end told) v are
          (front_queued (orders_in turns) split.front split.tail split.are) split.are
          (all_homed m switches pins entries b d.freq d.slots ready own clocks stops ss turns run split sections);
      heed = heed;
    }
