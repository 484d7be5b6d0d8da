-- A board of a homing section that took the section's set-up in time, in any scene: its trigger tells on from five turns behind the start on.
use Rattle.std.proofs.Common.{◌≡◌, inl, inr, ℕ, ◌+◌, ◌-◌, ◌*◌, ◌^◌, ◌<◌, ◌≤◌, Bool, true, false, List, [], ◌∷◌, ◌++◌, length, Option, Some, None, refl, ap, sym, ◌∙◌, subst, arith, append_assoc, length-append}
use Rattle.laws_board.proofs.Names.{append_cancel_left, Level, Machine, board_tick, clock_of, turn_ns, Clocks, lines_tick, IsValidMachine, board_at, clocks_at, Sampling, turn_tick, Cmd, Entry, Switch, Homing, low, members_of, trigger_of, Meant, commands_of, Rig, Slot, passes, slot_at, takes_all, one_slot, queued_in, first_state, orders, LinkState, Member, Connecting, noted, Came, known_by, no_both}
use Rattle.msg_code.specs.declared.cmd.Cmd.TheVariants as cmd
use Rattle.laws_board.specs.turns.Turns.{AreBoardTurns, BoardTurn, stands_after}
use Rattle.laws_board.specs.clocks.Runs.{IsInRun}
use Rattle.laws_board.proofs.clocks.Configured.{all_configured}
use Rattle.laws_board.proofs.clocks.Lines.{as_long, noted_phase, run_before}
use Rattle.laws_board.proofs.sections.Clocks.{ticks_rise}
use Rattle.laws_board.specs.clocks.Ordered.{commands_in}
use Rattle.laws_homing.specs.home_runs.Sections.{HomesFrom, TakesSetUp, queued_in_turns}
use Rattle.laws_homing.specs.home_runs.Told.{IsMember}
use Rattle.laws_homing.specs.clear_groups.Resting.{EachTame, IsTame}
use Rattle.laws_homing.specs.clear_groups.Sections.{BeginsNoneFrom, IsAlike, IsFollowed, KnowsLines, ShutNone, report_ticks}
use Rattle.laws_homing.specs.clear_groups.SetUp.{IsNewAt}
use Rattle.laws_homing.specs.fired_runs.Since.{AllRead, AreNotAhead, AreSoInTurns, BeginsApart, IsAtRest, ReadsSwitchTrue, ReadsTrue}
use Rattle.laws_homing.specs.hindered.Hindered.{HeardByNow, IsGoingOn, StoodAt, TellsOn}
use Rattle.laws_homing.specs.switch_runs.Taken.{AreBlind, IsBlind}
use Rattle.laws_homing.proofs.home_runs.Joining.{all_queued}
use Rattle.laws_homing.proofs.home_runs.Staging.{commands_both}
use Rattle.laws_homing.proofs.home_runs.Staying.{taken_later}
use Rattle.laws_homing.proofs.home_runs.Whole.{Has, Only, config_has, filter_has, has_front, only_parts, queue_has, queue_only, run_only}
use Rattle.laws_homing.proofs.home_runs.Windows.{begun}
use Rattle.laws_homing.proofs.clear_boards.Standing.{sound_at, tick_is}
use Rattle.laws_homing.proofs.clear_groups.Alike.{turn_alike}
use Rattle.laws_homing.proofs.clear_groups.Resting.{some_same, taken_tame}
use Rattle.laws_homing.proofs.clear_groups.Starting.{starts_either}
use Rattle.laws_homing.proofs.fired_runs.Blind.{blind_parts}
use Rattle.laws_homing.proofs.fired_runs.Once.{SetsFirst, StartOf, Started, turn_started}
use Rattle.laws_homing.proofs.fired_runs.Rested.{earlier_reads, grows, left_of, queue_later, rest_before, rest_of}
use Rattle.laws_homing.proofs.fired_runs.Seeing.{unread_before}
use Rattle.laws_homing.proofs.fired_runs.Sight.{reads_either}
use Rattle.laws_homing.proofs.switch_runs.Exact.{front_part}
use Rattle.laws_homing.proofs.missed_runs.Cause.{cut_at, of_some}
use Rattle.laws_homing.proofs.missed_runs.Meek.{AllSo, AreSo, IsMild, MeekAt, SoIn, Stage, are_part, in_are, in_part, so_both, so_parts, so_queue, staged_meek, takes_meek, turns_staged}
use Rattle.laws_homing.proofs.missed_runs.Orders.{turn_is}
use Rattle.laws_homing.proofs.hindered.Crossing as crossing
use Rattle.laws_homing.proofs.hindered.Crossing.{so_tame, tame_so}
use Rattle.laws_homing.proofs.hindered.Aiming.{Aimed, aims, all_fit}
use Rattle.laws_homing.proofs.hindered.Since.{Fits, Since, all_late}
use Rattle.laws_homing.proofs.hindered.Setting as setting
use Rattle.laws_homing.proofs.hindered.Holding.{AllFit, Limits}
use Rattle.axis_homing.proofs.Room.{on-few}

-- what starts no trigger and begins no readings is mild
mild_of : (Z : Type 0) (c : Cmd) → IsTame c → IsBlind c → IsMild Z c
mild_of Z (cmd.TrsyncStart oid clock every reason) tame blind = absurd tame
mild_of Z (cmd.EndstopHome oid clock sample count rest value other reason) tame blind = absurd blind
mild_of Z c tame blind = tt

mild_all : (Z : Type 0) (ms : List Meant) → EachTame (commands_of ms) → AreBlind ms → AllSo (IsMild Z) ms
mild_all Z [] tame blind = tt
mild_all Z (x ∷ ms) tame blind = (mild_of Z x.command tame.0 blind.0, mild_all Z ms tame.1 blind.1)

shut_part : (later past : List BoardTurn) → ShutNone (later ++ past) → ShutNone past
shut_part [] past k = k
shut_part (t ∷ later) past k = shut_part later past k.1

-- commands of two kinds
so_pair : (P Q : Cmd → Type 0) (ms : List Meant) → AllSo P ms → AllSo Q ms → AllSo (λ c. P c × Q c) ms
so_pair P Q [] k l = tt
so_pair P Q (x ∷ ms) k l = ((k.0, l.0), so_pair P Q ms k.1 l.1)

so_split : (P Q : Cmd → Type 0) (ms : List Meant) → AllSo (λ c. P c × Q c) ms → AllSo P ms × AllSo Q ms
so_split P Q [] k = (tt, tt)
so_split P Q (x ∷ ms) k = let rest = so_split P Q ms k.1 in ((k.0.0, rest.0), (k.0.1, rest.1))

are_pair : (P Q : Cmd → Type 0) (turns : List BoardTurn) → AreSo P turns → AreSo Q turns → AreSo (λ c. P c × Q c) turns
are_pair P Q [] k l = tt
are_pair P Q (t ∷ turns) k l = (so_pair P Q (queued_in (orders t.control t.batch)) k.0 l.0, are_pair P Q turns k.1 l.1)

-- the first of some commands sets a timeout
record Two (j : ℕ) (ms : List Meant) : Type 0 where
  limit : Meant
  rest : List Meant
  are : ms ≡ limit ∷ rest
  sets : SetsFirst j (limit.command ∷ [])

two : (j : ℕ) (ms : List Meant) → SetsFirst j (commands_of ms) → Two j ms
two j [] k = absurd k
two j (x ∷ ms) k = record { limit = x; rest = ms; are = refl; sets = one x.command (commands_of ms) k }
  where
    one : (c : Cmd) (cs : List Cmd) → SetsFirst j (c ∷ cs) → SetsFirst j (c ∷ [])
    one (cmd.TrsyncSetTimeout oid clock) cs k = k
    one c cs k = absurd k

module _ (m : Machine) (v : IsValidMachine m) (switches : List Switch) (pins : List (List Level)) (entries : List Entry) (b : ℕ) (all_lines : ℕ → Clocks) (ready from start last till : ℕ) (members : List Member) (f : IsFollowed m b (all_lines b) ready start last till)
    (low_so : ready + 255 ≤ start) (begins : from + 251 ≡ start) (on : IsMember b members) where
  abbrev First : LinkState
  First = first_state (board_at m b) pins b entries

  abbrev Board : List BoardTurn → Rig
  Board turns = (stands_after First turns).core.board

  abbrev Taken : List BoardTurn → List Meant
  Taken turns = (stands_after First turns).core.taken

  abbrev Are : List BoardTurn → Type 0
  Are turns = AreBoardTurns (clock_of (board_at m b)) First turns

  abbrev Oid : ℕ
  Oid = trigger_of m b

  abbrev Own : ℕ → ℕ
  Own k = board_tick (clock_of (board_at m b)) k

  abbrev Lines : Clocks
  Lines = all_lines b

  abbrev Base : ℕ
  Base = lines_tick Lines (start * turn_ns)

  abbrev Aims : Cmd → Type 0
  Aims c = Aimed Lines start last c

  abbrev Run : List Came → List BoardTurn → Type 0
  Run before turns = IsInRun m switches pins entries b before turns

  -- the turn in which the section's start was ordered, and what was queued behind it
  record Found (w : List BoardTurn) (order : BoardTurn) (early : List BoardTurn) : Type 0 where
    c : Came
    before : List Came
    run : Run (c ∷ before) (order ∷ early)
    homes : HomesFrom m switches from start members (c ∷ before)
    knows : KnowsLines m switches start all_lines (c ∷ before)
    apart : BeginsApart m switches (c ∷ before)
    behind : AreNotAhead m switches b (c ∷ before)
    reads : AreSoInTurns (ReadsTrue m switches b) (c ∷ before) early
    sees : AreSoInTurns (ReadsSwitchTrue m switches b) (c ∷ before) early
    tame : AreSo IsTame w
    mild : AreSo (IsMild (Unit {0})) (w ++ order ∷ [])

  known_home : (c : Came) (before : List Came) → HomesFrom m switches from start members (c ∷ before) → from ≤ length before
      → ((known_by m switches before).phase ≡ Connecting → ⊥) × ((h : Homing) × ((noted m c.note (known_by m switches before)).homing ≡ Some h) × (h.start ≡ start) × (h.group.start ≡ start) × (members_of h.group ≡ members))
  known_home c before homes late = let k = homes.0 late in (k.0, of_some m v switches pins entries b start members (noted m c.note (known_by m switches before)).homing k.1)

  mild_turn : (c : Came) (before : List Came) (t : BoardTurn) (turns : List BoardTurn) → Run (c ∷ before) (t ∷ turns) → HomesFrom m switches from start members (c ∷ before) → from ≤ length before → AllSo (IsMild (Unit {0})) (queued_in (orders t.control t.batch))
  mild_turn c before t turns r homes late = let k = known_home c before homes late in turn_is (Unit {0}) (Unit {0}) b m switches pins entries c before t turns k.1.0 r k.0 k.1.1 (λ i. tt) (λ e. tt)

  tame_turn : (c : Came) (before : List Came) (t : BoardTurn) (turns : List BoardTurn) → Run (c ∷ before) (t ∷ turns) → HomesFrom m switches from start members (c ∷ before) → from < length before → EachTame (commands_of (queued_in (orders t.control t.batch)))
  tame_turn c before t turns r homes late = elim (starts_either m switches pins entries b c before t turns r) [
    | inl tame ↦ taken_tame t tame
    | inr k ↦
        let y = k.1 in
        let h = (known_home c before homes (omega (arith, late))).1 in
        let same = ap (λ (z : Homing). z.group.start) (some_same y.homing h.0 (sym y.known ∙ h.1)) in
        let start_is = h.3 in
        let at = y.at in
        absurd (omega (arith, same, start_is, at, late, begins))
  ]

  found : (came : List Came) (w : List BoardTurn) (order : BoardTurn) (early : List BoardTurn) → Run came (w ++ order ∷ early) → length early ≡ from → HomesFrom m switches from start members came → KnowsLines m switches start all_lines came → BeginsApart m switches came
      → AreNotAhead m switches b came → AreSoInTurns (ReadsTrue m switches b) came (rest_of m v switches pins entries b (w ++ order ∷ early)) → AreSoInTurns (ReadsSwitchTrue m switches b) came (rest_of m v switches pins entries b (w ++ order ∷ early)) → Found w order early
  found [] [] order early r long homes knows apart behind reads sees = absurd r.both
  found [] (t ∷ w) order early r long homes knows apart behind reads sees = absurd r.both
  found (c ∷ before) [] order early r long homes knows apart behind reads sees =
      let same = as_long m switches b before early (run_before m switches pins entries b c before order early r).both in
      record {
        c = c;
        before = before;
        run = r;
        homes = homes;
        knows = knows;
        apart = apart;
        behind = behind;
        reads = reads;
        sees = sees;
        tame = tt;
        mild = (mild_turn c before order early r homes (omega (arith, same, long)), tt);
      }
  found (c ∷ before) (t ∷ w) order early r long homes knows apart behind reads sees =
      let turns = w ++ order ∷ early in
      let run = run_before m switches pins entries b c before t turns r in
      let same = as_long m switches b before turns run.both in
      let size = length-append w (order ∷ early) in
      let rest = found before w order early run long homes.1 knows.1 apart.1 behind.1 (earlier_reads m v switches pins entries b (ReadsTrue m switches b) c before turns run reads) (earlier_reads m v switches pins entries b (ReadsSwitchTrue m switches b) c before turns run sees) in
      record {
        c = rest.c;
        before = rest.before;
        run = rest.run;
        homes = rest.homes;
        knows = rest.knows;
        apart = rest.apart;
        behind = rest.behind;
        reads = rest.reads;
        sees = rest.sees;
        tame = (tame_so (queued_in (orders t.control t.batch)) (tame_turn c before t turns r homes (omega (arith, same, size, long))), rest.tame);
        mild = (mild_turn c before t turns r homes (omega (arith, same, size, long)), rest.mild);
      }

  -- what the board does from there on
  module _ (till_so : start + 28 ≤ till) (w : List BoardTurn) (order : BoardTurn) (early : List BoardTurn) (x : Found w order early) (long : length early ≡ from) (z : List BoardTurn) (small : Own (length z) < 2 ^ 63) (late : start + 5 ≤ length z) where
    abbrev Order : List BoardTurn
    Order = order ∷ early

    abbrev New : List Meant
    New = queued_in (orders order.control order.batch)

    run_early : Run x.before early
    run_early = run_before m switches pins entries b x.c x.before order early x.run

    same_long : length x.before ≡ from
    same_long = as_long m switches b x.before early run_early.both ∙ long

    home : ((known_by m switches x.before).phase ≡ Connecting → ⊥)
        × ((h : Homing) × ((noted m x.c.note (known_by m switches x.before)).homing ≡ Some h) × (h.start ≡ start) × (h.group.start ≡ start) × (members_of h.group ≡ members))
    home = known_home x.c x.before x.homes (let e = same_long in omega (arith, e))

    abbrev H : Homing
    H = home.1.0

    abbrev Known : Clocks
    Known = clocks_at (noted m x.c.note (known_by m switches x.before)).clocks b

    started : Started (StartOf m b Known H.start) Oid New
    started =
        let begin = home.1.2 in
        let e = same_long in
        turn_started m switches pins entries b x.c x.before order early H x.run (λ p. home.0 (sym (noted_phase m x.c.note (known_by m switches x.before)) ∙ p)) home.1.1 (home.1.3 ∙ sym begin) (omega (arith, begin, e, begins)) (subst (IsMember b) (sym home.1.4) on)

    abbrev Sfront : List Meant
    Sfront = started.split.front

    abbrev Begin : Meant
    Begin = started.split.begin

    abbrev More : List Meant
    More = started.split.more

    alike : IsAlike (length x.before + 276) Known Lines
    alike = (x.knows.0 home.0 H home.1.1 home.1.2 b x.run.board).1

    command : Begin.command ≡ cmd.TrsyncStart Oid (low (turn_tick Lines start)) (report_ticks m b) 2
    command =
        let e = same_long in
        started.is ∙ ap (λ (n : ℕ). StartOf m b Known n) home.1.2 ∙ ap (λ (n : ℕ). cmd.TrsyncStart Oid (low n) (report_ticks m b) 2) (turn_alike Known Lines (length x.before + 276) start alike (omega (arith, e, begins)))

    then : Two Oid More
    then = two Oid More started.next

    -- what was queued before each of the two
    abbrev One_front : List Meant
    One_front = queued_in_turns early ++ Sfront

    abbrev Two_front : List Meant
    Two_front = One_front ++ Begin ∷ []

    one_queue : queued_in_turns Order ≡ One_front ++ Begin ∷ More
    one_queue = ap (λ (l : List Meant). queued_in_turns early ++ l) started.split.are ∙ sym (append_assoc (queued_in_turns early) Sfront (Begin ∷ More))

    two_queue : queued_in_turns Order ≡ Two_front ++ then.limit ∷ then.rest
    two_queue = one_queue ∙ ap (λ (l : List Meant). One_front ++ Begin ∷ l) then.are ∙ sym (append_assoc One_front (Begin ∷ []) (then.limit ∷ then.rest))

    all_tame : EachTame (commands_of (then.limit ∷ then.rest))
    all_tame = subst (λ (l : List Meant). EachTame (commands_of l)) then.are started.split.behind

    few : Oid < 256
    few = let most = v.steppers_few in let here = on-few b m.steppers in omega (arith, most, here)

    only_all : Only Oid (commands_of (queued_in_turns Order))
    only_all = queue_only Oid Order (run_only m switches pins entries b (x.c ∷ x.before) Order v x.run)

    has_early : Has Oid (commands_of (queued_in_turns early))
    has_early =
        let all = all_configured m switches pins entries b x.before early v run_early home.0 in
        queue_has Oid early (filter_has Oid (commands_in early) (subst (λ (l : List Cmd). Has Oid l) (sym all) (config_has m b)))

    only_front : (front rest : List Meant) → queued_in_turns Order ≡ front ++ rest → Only Oid (commands_of front)
    only_front front rest e =
        (only_parts Oid (commands_of front) (commands_of rest) (subst (λ (l : List Cmd). Only Oid l) (ap commands_of e ∙ commands_both front rest) only_all)).0

    has_more : (xs : List Meant) → Has Oid (commands_of (queued_in_turns early ++ xs))
    has_more xs = subst (λ (l : List Cmd). Has Oid l) (sym (commands_both (queued_in_turns early) xs)) (has_front Oid (commands_of (queued_in_turns early)) (commands_of xs) has_early)

    one_has : Has Oid (commands_of One_front)
    one_has = has_more Sfront

    two_has : Has Oid (commands_of Two_front)
    two_has = subst (λ (l : List Meant). Has Oid (commands_of l)) (sym (append_assoc (queued_in_turns early) Sfront (Begin ∷ []))) (has_more (Sfront ++ Begin ∷ []))

    until : start ≤ f.tracked.until
    until = let ends = f.ends in let goes = f.goes in omega (arith, ends, goes, till_so)

    small_at : (k : ℕ) → k < start → Own k < 2 ^ 63
    small_at k l = let up = grows m v switches pins entries b k (length z) (omega (arith, l, late)) in omega (arith, up, small)

    lefts : (y : List BoardTurn) → Are y → (left : List Meant) × (Taken y ++ left ≡ queued_in_turns y)
    lefts y are = left_of m v switches pins entries b y are

    low_enough : ready + 251 ≤ start
    low_enough = omega (arith, low_so)

    -- as that turn began it was at rest
    far : length x.before + 251 ≤ H.start
    far = let e = same_long in let begin = home.1.2 in omega (arith, e, begin, begins)

    rested : IsAtRest Oid First early
    rested = rest_before m v switches pins entries b x.c x.before early H run_early x.apart (earlier_reads m v switches pins entries b (ReadsTrue m switches b) x.c x.before early run_early x.reads) x.behind.1 home.1.1 far

    unread : ((s : Slot) → slot_at (Board early) Oid ≡ Some s → s.trigger.sampling ≡ None) × ((left : List Meant) × (Taken early ++ left ≡ queued_in_turns early) × AreBlind left)
    unread =
        let l = far in
        unread_before m v switches pins entries b x.c x.before early H run_early x.apart (earlier_reads m v switches pins entries b (ReadsSwitchTrue m switches b) x.c x.before early run_early x.sees) x.behind.1 home.1.1 (omega (arith, l))

    -- it tells on, and has a timeout, from the turns on in which it took the two
    abbrev Telling : ℕ → Rig → Type 0
    Telling k r = setting.Telling m pins entries b Lines ready start last till f few k r

    abbrev Limited : ℕ → Rig → Type 0
    Limited k r = setting.Limited m pins entries b Lines ready start last till f few k r

    module _ (k u : List BoardTurn) (z_is : z ≡ (k ++ u) ++ Order) (are : Are ((k ++ u) ++ Order)) (shut : ShutNone ((k ++ u) ++ Order)) (tame : AreSo IsTame (k ++ u)) (u_low : length (u ++ Order) + 1 ≤ start) (took : length (queued_in_turns Order) ≤ length (Taken (u ++ Order))) where
      are_u : Are (u ++ Order)
      are_u = begun (clock_of (board_at m b)) First k (u ++ Order) (subst Are (append_assoc k u Order) are)

      -- a part of its turns as far as here, in none of which it told of a shutdown
      abbrev Past : List BoardTurn → Type 0
      Past y = ShutNone y × ((l : List BoardTurn) × (z ≡ l ++ y))

      back : (t : BoardTurn) (y : List BoardTurn) → Past (t ∷ y) → Past y
      back t y past = (past.0.1, (past.1.0 ++ t ∷ [], past.1.1 ∙ sym (append_assoc past.1.0 (t ∷ []) y)))

      past_u : Past (u ++ Order)
      past_u = (shut_part k (u ++ Order) (subst ShutNone (append_assoc k u Order) shut), (k, z_is ∙ append_assoc k u Order))

      past_order : Past Order
      past_order = (shut_part u Order past_u.0, (k ++ u, z_is))

      -- what its board does in a turn in which it takes such commands
      abbrev Turns_to : List Meant → BoardTurn → List BoardTurn → Type 0
      Turns_to ms t y = t.after.core.board ≡ (passes (takes_all (Board y) (commands_of ms)).rig (Own (length y + 1))).rig

      -- of what holds from the turn on in which a command is taken
      module _ (C : Cmd → Type 0) (P : ℕ → Rig → Type 0) (front : List Meant) (begin : Meant) (rest : List Meant) (queue : queued_in_turns Order ≡ front ++ begin ∷ rest) (rest_so : AllSo C rest) (low_front : length (queued_in_turns early) ≤ length front)
          (enters : (t : BoardTurn) (y : List BoardTurn) → Are (t ∷ y) → Past (t ∷ y) → from ≤ length y → length y < start - 1 → (fr mo : List Meant) → Taken y ++ fr ≡ front → AllSo C mo → Turns_to (fr ++ begin ∷ mo) t y → P (length (t ∷ y)) t.after.core.board)
          (keeps : (t : BoardTurn) (y : List BoardTurn) → Are (t ∷ y) → (ms : List Meant) → AllSo C ms → Turns_to ms t y → P (length y) (Board y) → P (length (t ∷ y)) t.after.core.board) where
        held_at : (l : List BoardTurn) → Are ((l ++ u) ++ Order) → AreSo C (l ++ u) → (length front < length (Taken ((l ++ u) ++ Order))) × P (length ((l ++ u) ++ Order)) (Board ((l ++ u) ++ Order))
        held_at l are_l so =
            let clock = clock_of (board_at m b) in
            let size = ap length queue ∙ length-append front (begin ∷ rest) in
            let u_size = length-append u Order in
            let first = crossing.entered clock First C Past back P front begin from (start - 1) enters keeps lefts order early rest (begun clock First u Order are_u) past_order (omega (arith, long)) (omega (arith, long, begins)) queue rest_so low_front in
            let on_u = crossing.along clock First C Past back P front begin from (start - 1) enters keeps lefts Order rest queue rest_so (omega (arith, long)) u are_u past_u (are_part C l u so) (omega (arith, u_low)) first in
            let since : (length front < length (Taken (u ++ Order))) × P (length (u ++ Order)) (Board (u ++ Order)) = elim on_u [ inl few_taken ↦ absurd (omega (arith, few_taken, size, took)) | inr s ↦ s ] in
            crossing.along_on clock First C Past back P front begin from (start - 1) enters keeps lefts Order rest queue rest_so (omega (arith, long)) l u are_l so since

      tells_at : Telling (length z) (Board z)
      tells_at =
          let size = length-append (queued_in_turns early) Sfront in
          let at = held_at IsTame Telling One_front Begin More one_queue (tame_so More started.split.behind) (omega (arith, size))
          (λ t y a s low high fr mo e g board. setting.enters_telling m pins entries b Lines ready start last till f few One_front (only_front One_front (Begin ∷ More) one_queue) one_has Begin command until small_at t y a s.0 (omega (arith, low, begins)) high low_enough fr mo e (so_tame mo g) board)
          (λ t y a ms g board s. setting.keeps_telling m pins entries b Lines ready start last till f few t y a ms (so_tame ms g) board s) k are tame in
          subst (λ (y : List BoardTurn). Telling (length y) (Board y)) (sym z_is) at.1

      limited_at : Limited (length z) (Board z)
      limited_at =
          let size = length-append (queued_in_turns early) Sfront in
          let more = length-append One_front (Begin ∷ []) in
          let at = held_at IsTame Limited Two_front then.limit then.rest two_queue (tame_so then.rest all_tame.1) (omega (arith, size, more))
          (λ t y a s low high fr mo e g board. setting.enters_limited m pins entries b Lines ready start last till f few Two_front (only_front Two_front (then.limit ∷ then.rest) two_queue) two_has then.limit then.sets t y a s.0 fr mo e (so_tame mo g) board)
          (λ t y a ms g board s. setting.keeps_limited m pins entries b Lines ready start last till f few t y a ms (so_tame ms g) board s) k are tame in
          subst (λ (y : List BoardTurn). Limited (length y) (Board y)) (sym z_is) at.1

      -- what its readings trigger it for
      meek_early : (Z : Type 0) → MeekAt Z 1 0 Oid (omega arith) (Board early)
      meek_early Z oid s own at =
          let here = subst (λ (i : ℕ). slot_at (Board early) i ≡ Some s) own at in
          let sound = sound_at (board_at m b) pins b entries early run_early.turns_are oid s at in
          record {
            fired = λ off. inr (inr (inr (omega arith)));
            expire = λ can. absurd (no_both s.trigger.can can (rested.off s here));
            reads = λ y reads_y. absurd (none_read s.trigger.sampling y (unread.0 s here) reads_y);
            idle = λ off. sound.idle off;
          }
        where
          none_read : (o : Option Sampling) (y : Sampling) → o ≡ None → o ≡ Some y → ⊥
          none_read None y e g = cc
          none_read (Some q) y e g = cc

      queued_early : queued_in_turns early ≡ Taken early ++ rested.left
      queued_early = sym (rested.rest ∙ all_queued (board_at m b) pins b entries early run_early.turns_are)

      blind_left : AreBlind rested.left
      blind_left = subst AreBlind (sym (append_cancel_left (Taken early) rested.left unread.1.0 (sym queued_early ∙ sym unread.1.1))) unread.1.2

      ticks : (y : List BoardTurn) → Are y → (Board y).controller.tick ≡ Own (length y)
      ticks y a = tick_is (board_at m b) pins b entries y a

      meek_at : AreSo (IsMild (Unit {0})) ((k ++ u) ++ order ∷ []) → MeekAt (Unit {0}) 1 0 Oid (omega arith) (Board z)
      meek_at mild =
          let later = (k ++ u) ++ order ∷ [] in
          let clock = clock_of (board_at m b) in
          let own : later ++ early ≡ z = append_assoc (k ++ u) (order ∷ []) early ∙ sym z_is in
          let are_so : Are (later ++ early) = subst Are (sym (append_assoc (k ++ u) (order ∷ []) early)) are in
          let taken = taken_later clock First later early are_so in
          let left = lefts (later ++ early) are_so in
          let q = queue_later later early in
          let coming : taken.0 ++ left.0 ≡ rested.left ++ q.0 =
          append_cancel_left (Taken early) (taken.0 ++ left.0) (rested.left ++ q.0)
          (sym (append_assoc (Taken early) taken.0 left.0) ∙ ap (λ (l : List Meant). l ++ left.0) (sym taken.1) ∙ left.1 ∙ q.1 ∙ ap (λ (l : List Meant). l ++ q.0) queued_early ∙ append_assoc (Taken early) rested.left q.0) in
          let old = mild_all (Unit {0}) rested.left rested.tame blind_left in
          let so = so_both (IsMild (Unit {0})) rested.left q.0 old (so_queue (IsMild (Unit {0})) later early mild) in
          let begin : Stage (Unit {0}) 1 0 Oid (omega arith) (IsMild (Unit {0})) (taken.0 ++ left.0) (Board early) = inr (subst (λ (l : List Meant). AllSo (IsMild (Unit {0})) l) (sym coming) so, meek_early (Unit {0})) in
          let end = turns_staged (Unit {0}) 1 0 Oid (omega arith) (IsMild (Unit {0})) clock First later early taken.0 left.0 ticks are_so (λ l t e is ms s. (s, inl (omega arith))) taken.1 begin in
          subst (λ (y : List BoardTurn). MeekAt (Unit {0}) 1 0 Oid (omega arith) (Board y)) own (staged_meek (Unit {0}) 1 0 Oid (omega arith) (IsMild (Unit {0})) left.0 (Board (later ++ early)) end)

      -- nothing is read for it until it is started
      blind_new : AreBlind New
      blind_new = elim (reads_either m switches pins entries b x.c x.before order early x.run) [
        | inl blind ↦ blind
        | inr r ↦
            let y = r.1.1 in
            let own = ap (λ (h : Homing). h.group.start) (some_same y.homing H (sym y.known ∙ home.1.1)) in
            let begin = home.1.3 in
            let at = y.at in
            let e = same_long in
            absurd (omega (arith, own, begin, at, e, begins))
      ]

      unread_at : (t : BoardTurn) (y : List BoardTurn) → Are (t ∷ y) → Past (t ∷ y) → from ≤ length y → (fr : List Meant) → Taken y ++ fr ≡ One_front
          → (s : Slot) → slot_at (takes_all (Board y) (commands_of fr)).rig Oid ≡ Some s → (q : Sampling) → s.trigger.sampling ≡ Some q → ⊥
      unread_at t y a past low fr e s at q reads =
          let clock = clock_of (board_at m b) in
          let d = front_part ((k ++ u) ++ order ∷ []) early (past.1.0 ++ t ∷ []) y (append_assoc (k ++ u) (order ∷ []) early ∙ sym z_is ∙ past.1.1 ∙ sym (append_assoc past.1.0 (t ∷ []) y)) (omega (arith, long, low)) in
          let are_y : Are (d.0 ++ early) = subst Are d.1 a.1 in
          let taken = taken_later clock First d.0 early are_y in
          let coming : taken.0 ++ fr ≡ rested.left ++ Sfront =
          append_cancel_left (Taken early) (taken.0 ++ fr) (rested.left ++ Sfront)
          (sym (append_assoc (Taken early) taken.0 fr) ∙ ap (λ (l : List Meant). l ++ fr) (sym taken.1) ∙ ap (λ (l : List BoardTurn). Taken l ++ fr) (sym d.1) ∙ e ∙ ap (λ (l : List Meant). l ++ Sfront) queued_early ∙ append_assoc (Taken early) rested.left Sfront) in
          let blind_front = (blind_parts Sfront (Begin ∷ More) (subst AreBlind started.split.are blind_new)).0 in
          let so = so_both (IsMild ⊥) rested.left Sfront (mild_all ⊥ rested.left rested.tame blind_left) (mild_all ⊥ Sfront started.split.before blind_front) in
          let parts = so_parts (IsMild ⊥) taken.0 fr (subst (λ (l : List Meant). AllSo (IsMild ⊥) l) (sym coming) so) in
          let begin : Stage ⊥ 1 0 Oid (omega arith) (IsMild ⊥) (taken.0 ++ []) (Board early) = inr (so_both (IsMild ⊥) taken.0 [] parts.0 tt, meek_early ⊥) in
          let end = turns_staged ⊥ 1 0 Oid (omega arith) (IsMild ⊥) clock First d.0 early taken.0 [] ticks are_y (λ l t e is ms s. (s, inl (omega arith))) taken.1 begin in
          let meek : MeekAt ⊥ 1 0 Oid (omega arith) (Board y) = subst (λ (l : List BoardTurn). MeekAt ⊥ 1 0 Oid (omega arith) (Board l)) (sym d.1) (staged_meek ⊥ 1 0 Oid (omega arith) (IsMild ⊥) [] (Board (d.0 ++ early)) end) in
          ((takes_meek ⊥ 1 0 Oid (omega arith) (Board y) fr parts.1 (inl (omega arith)) meek Oid s refl at).reads q reads).0

      -- from then on it triggers at no tick before the section's start: until four turns behind that by what it is sent, and then whatever that is
      abbrev Later : Rig → Type 0
      Later r = setting.Later m pins entries b Lines ready start last till f few r

      abbrev Window : Cmd → Type 0
      Window c = IsTame c × Aims c

      fits_at : (y : List BoardTurn) → from ≤ length y → length y + 1 ≤ start + 4 → (ms : List Meant) → AllSo Window ms → EachTame (commands_of ms) × AllFit (Fits Base) (Own (length y)) (commands_of ms)
      fits_at y low high ms g =
          let parts = so_split IsTame Aims ms g in
          let up = grows m v switches pins entries b (length y) (length z) (omega (arith, high, late)) in
          (so_tame ms parts.0, all_fit m b Lines ready start last till f till_so low_enough (length y) (omega (arith, low, begins)) (omega (arith, high)) (omega (arith, up, small)) ms parts.1)

      later_at : SoIn Aims from (start + 4) ((k ++ u) ++ Order) → Later (Board z)
      later_at aims =
          let sizes = ap length z_is ∙ length-append (k ++ u) Order in
          let more = length-append k u in
          let u_size = length-append u Order in
          let cut = cut_at (start + 4 - length (u ++ Order)) k (omega (arith, sizes, more, u_size, late)) in
          by cut.up cut.early cut.are (let l = cut.long in omega (arith, l, u_low))
        where
          by : (up mid : List BoardTurn) → k ≡ up ++ mid → length mid + length (u ++ Order) ≡ start + 4 → Later (Board z)
          by up mid cut size =
              let w = mid ++ u in
              let clock = clock_of (board_at m b) in
              let whole : k ++ u ≡ up ++ w = ap (λ (l : List BoardTurn). l ++ u) cut ∙ append_assoc up mid u in
              let are_all : Are ((up ++ w) ++ Order) = subst (λ (l : List BoardTurn). Are (l ++ Order)) whole are in
              let tame_all : AreSo IsTame (up ++ w) = subst (AreSo IsTame) whole tame in
              let are_w = begun clock First up (w ++ Order) (subst Are (append_assoc up w Order) are_all) in
              let aims_w = in_part Aims from (start + 4) up (w ++ Order) (subst (SoIn Aims from (start + 4)) (ap (λ (l : List BoardTurn). l ++ Order) whole ∙ append_assoc up w Order) aims) in
              let long_w : length (w ++ Order) ≡ start + 4 = ap length (append_assoc mid u Order) ∙ length-append mid (u ++ Order) ∙ size in
              let aims_new = (in_part Aims from (start + 4) w Order aims_w).0 (omega (arith, long)) (omega (arith, long, begins)) in
              let aims_more = (so_parts Aims Sfront (Begin ∷ More) (subst (AllSo Aims) started.split.are aims_new)).1.1 in
              let so_w = are_pair IsTame Aims w (are_part IsTame up w tame_all) (in_are Aims from (start + 4) w Order (omega (arith, long)) (omega (arith, long_w)) aims_w) in
              let First_on : ℕ → Rig → Type 0 = λ n r. (from ≤ n) × (n ≤ start + 4 → Later r) in
              let Then_on : ℕ → Rig → Type 0 = λ n r. (start + 4 ≤ n) × Later r in
              let one_size = length-append (queued_in_turns early) Sfront in
              let first = held_at Window First_on One_front Begin More one_queue (so_pair IsTame Aims More (tame_so More started.split.behind) aims_more) (omega (arith, one_size))
              (λ t y a past least high fr mo e g board. (
                omega (arith, least),
                λ soon. (let fit = fits_at y least (omega (arith, soon)) mo g in
                    setting.enters_later m pins entries b Lines ready start last till f few One_front (only_front One_front (Begin ∷ More) one_queue) one_has (low (turn_tick Lines start)) (report_ticks m b) 2 Begin command t y a past.0 fr mo e (unread_at t y a past least fr e) fit.0 fit.1 board),
              ))
              (λ t y a ms g board s. (let low = s.0 in (
                omega (arith, low),
                λ soon. (let fit = fits_at y low (omega (arith, soon)) ms g in setting.keeps_later m pins entries b Lines ready start last till f few t y a ms fit.0 fit.1 board (s.1 (omega (arith, soon)))),
              ))) mid are_w so_w in
              let since : (length One_front < length (Taken (w ++ Order))) × Then_on (length (w ++ Order)) (Board (w ++ Order)) = (first.0, (omega (arith, long_w), first.1.1 (omega (arith, long_w)))) in
              let ahead = f.tracked.ahead start (let begin = f.begins in omega (arith, begin)) until in
              let last_so = crossing.along_on clock First IsTame Past back Then_on One_front Begin 0 0 (λ t y a past low high fr mo e g board. absurd (omega (arith, high)))
              (λ t y a ms g board s. (let low = s.0 in let rise = ticks_rise Own f.ticks (start + 4) (length y) low in (
                omega (arith, low),
                setting.keeps_later m pins entries b Lines ready start last till f few t y a ms (so_tame ms g) (all_late Base (Own (length y)) (omega (arith, ahead, rise)) (commands_of ms)) board s.1,
              ))) lefts Order More one_queue (tame_so More started.split.behind) (omega arith) up w are_all tame_all since in
              subst (λ (y : List BoardTurn). Later (Board y)) (sym (z_is ∙ ap (λ (l : List BoardTurn). l ++ Order) whole)) last_so.1.1

      tells_on : AreSo (IsMild (Unit {0})) ((k ++ u) ++ order ∷ []) → SoIn Aims from (start + 4) ((k ++ u) ++ Order) → TellsOn m b Base (length z) (Board z)
      tells_on mild aims =
          let t = tells_at in
          let l = limited_at in
          let reads = (meek_at mild Oid t.slot refl t.is).reads in
          let late_so = later_at aims in
          let since : Since Base t.slot.trigger = subst (λ (s : Slot). Since Base s.trigger) (one_slot (slot_at (Board z) Oid) late_so.slot t.slot late_so.is t.is) late_so.so in
          let limits : Limits t.slot.trigger = subst (λ (s : Slot). Limits s.trigger) (one_slot (slot_at (Board z) Oid) l.slot t.slot l.is t.is) l.so in
          let ahead = f.tracked.ahead start (let first = f.begins in omega (arith, first)) until in
          let up = ticks_rise Own f.ticks (start + 4) (length z) (omega (arith, late)) in
          let soon : t.next ≤ Own (length z) + report_ticks m b = elim t.soon [ inl low_next ↦ omega (arith, low_next, ahead, up) | inr next ↦ next ] in
          by t.slot.trigger.can t refl limits reads soon since.fired
        where
          by : (c : Bool) (t : Telling (length z) (Board z)) → t.slot.trigger.can ≡ c → Limits t.slot.trigger → ((y : Sampling) → t.slot.trigger.sampling ≡ Some y → Unit {0} × (y.reason ≡ 1)) → t.next ≤ Own (length z) + report_ticks m b → (t.slot.trigger.can ≡ false → Base ≤ t.slot.trigger.tick) → TellsOn m b Base (length z) (Board z)
          by true t can limits reads soon since =
              let x = limits can in
              inl (record { slot = t.slot; is = t.is; can = can; timeout = x.0; timed = x.1; reads = λ y is is_two. (let one = (reads y is).1 in omega (arith, one, is_two)); every = t.every_is; next = t.next; report = t.report; due = t.due; soon = soon })
          by false t off limits reads soon since = inr (record { slot = t.slot; is = t.is; fired = off; every = t.every_is; next = t.next; report = t.report; due = t.due; soon = soon; since = since off })

  -- so it is as each of its turns ended, where it took the set-up in time
  pub tell_on : (c : Came) (before : List Came) (turns : List BoardTurn) → IsGoingOn m switches pins entries b before turns → HomesFrom m switches from start members (c ∷ before) → KnowsLines m switches start all_lines (c ∷ before) → BeginsApart m switches (c ∷ before) → length before + 23 ≤ till
      → BeginsNoneFrom from (c ∷ before) → IsNewAt m switches start last members from (c ∷ before) → (other : ℕ) → IsMember other members → HeardByNow m switches other start (c ∷ before) → TakesSetUp First start turns → (at : ℕ) → start + 5 ≤ at → StoodAt (TellsOn m b Base at) at turns
  tell_on c before turns p homes knows apart reach alone new other on_other heard s at late = stood turns [] refl
    where
      one : (later z : List BoardTurn) → turns ≡ later ++ z → length z ≡ at → TellsOn m b Base at (Board z)
      one later z e size =
          let old = s.late ++ s.past in
          let clock = clock_of (board_at m b) in
          let in_time = s.in_time in
          let queued = s.queued in
          let d = front_part s.window old later z (sym s.are ∙ e) (omega (arith, in_time, late, size)) in
          let old_size = length-append s.late s.past in
          let cut = cut_at (start - 250) old (omega (arith, queued, old_size)) in
          let cut_long = cut.long in
          by d.0 d.1 cut.up cut.early cut.are (omega (arith, cut_long, begins))
        where
          by : (k : List BoardTurn) → z ≡ k ++ (s.late ++ s.past) → (u part : List BoardTurn) → s.late ++ s.past ≡ u ++ part → length part ≡ from + 1 → TellsOn m b Base at (Board z)
          by k z_cut u [] old_is part_long = absurd (omega (arith, part_long))
          by k z_cut u (order ∷ early) old_is part_long =
              let y = order ∷ early in
              let z_is : z ≡ (k ++ u) ++ y = z_cut ∙ ap (λ (l : List BoardTurn). k ++ l) old_is ∙ sym (append_assoc k u y) in
              let all : turns ≡ (later ++ (k ++ u)) ++ y = e ∙ ap (λ (l : List BoardTurn). later ++ l) z_is ∙ sym (append_assoc later (k ++ u) y) in
              let long : length early ≡ from = omega (arith, part_long) in
              let x = got later k u order early all long in
              let clock = clock_of (board_at m b) in
              let are_turns : Are (later ++ z) = subst Are e p.run.turns_are in
              let are_z = subst Are z_is (begun clock First later z are_turns) in
              let shut_z = subst ShutNone z_is (shut_part later z (subst ShutNone e p.none_shut)) in
              let many = ap length e ∙ length-append later z in
              let up = grows m v switches pins entries b (length z) (length turns) (omega (arith, many)) in
              let range = p.in_range in
              let in_time = s.in_time in
              let queued = s.queued in
              let u_size = ap length old_is in
              let past_more = front_part u y s.late s.past (sym old_is) (omega (arith, part_long, queued, begins)) in
              let more = queue_later past_more.0 y in
              let n_past = ap (λ (l : List BoardTurn). length (queued_in_turns l)) past_more.1 ∙ ap length more.1 ∙ length-append (queued_in_turns y) more.0 in
              let n_took = sym (length-append (queued_in_turns s.past) s.more) ∙ ap length s.took in
              let n_old = ap (λ (l : List BoardTurn). length (Taken l)) old_is in
              let same_long = as_long m switches b before turns p.run.both in
              let mild = subst (AreSo (IsMild (Unit {0}))) (append_assoc later (k ++ u) (order ∷ [])) x.mild in
              let aimed = aims m switches pins entries b all_lines from start last members f.goes begins other on_other before turns p.run homes.1 knows.1 alone.1 new.1 heard.1 in
              let aimed_z = subst (SoIn Aims from (start + 4)) z_is (in_part Aims from (start + 4) later z (subst (SoIn Aims from (start + 4)) e aimed)) in
              subst (λ (n : ℕ). TellsOn m b Base n (Board z)) size
              (tells_on (omega (arith, late, size, many, same_long, reach)) (later ++ (k ++ u)) order early x long z (omega (arith, up, range)) (omega (arith, late, size)) k u z_is are_z shut_z (are_part IsTame later (k ++ u) x.tame) (omega (arith, u_size, in_time)) (omega (arith, n_past, n_took, n_old))
              (are_part (IsMild (Unit {0})) later ((k ++ u) ++ order ∷ []) mild) aimed_z)
            where
              got : (later k u : List BoardTurn) (order : BoardTurn) (early : List BoardTurn) → turns ≡ (later ++ (k ++ u)) ++ order ∷ early → length early ≡ from → Found (later ++ (k ++ u)) order early
              got later k u order early all long =
                  let W = later ++ (k ++ u) in
                  let Reads : (Came → List Came → List BoardTurn → Type 0) → List BoardTurn → Type 0 = λ R l. AreSoInTurns R before (rest_of m v switches pins entries b l) in
                  found before W order early (subst (λ (l : List BoardTurn). Run before l) all p.run) long homes.1 knows.1 apart.1 p.behind (subst (Reads (ReadsTrue m switches b)) all (rest_read (ReadsTrue m switches b) turns p.reads)) (subst (Reads (ReadsSwitchTrue m switches b)) all (rest_read (ReadsSwitchTrue m switches b) turns p.reads_switch))
                where
                  rest_read : (R : Came → List Came → List BoardTurn → Type 0) (l : List BoardTurn) → AllRead R before l → AreSoInTurns R before (rest_of m v switches pins entries b l)
                  rest_read R [] k = none before
                    where
                      none : (came : List Came) → AreSoInTurns R came []
                      none [] = tt
                      none (d ∷ came) = tt
                  rest_read R (t ∷ l) k = k

      stood : (l later : List BoardTurn) → turns ≡ later ++ l → StoodAt (TellsOn m b Base at) at l
      stood [] later e = tt
      stood (t ∷ l) later e = (
        λ size. one later (t ∷ l) e (omega (arith, size)),
        stood l (later ++ t ∷ []) (e ∙ sym (append_assoc later (t ∷ []) l)),
      )
