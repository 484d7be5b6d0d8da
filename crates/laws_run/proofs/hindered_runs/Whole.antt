-- A whole run in which axes home, in any scene, and in which a board told that it expired: the link of a member's board was hindered.
use Rattle.std.proofs.Common.{◌≡◌, ℕ, ◌+◌, ◌-◌, ◌*◌, ◌^◌, ◌<◌, ◌≤◌, inl, inr, List, [], ◌∷◌, ◌++◌, length, map, Option, Some, None, refl, ap, sym, ◌∙◌, subst, arith}
use Rattle.laws_board.proofs.Names.{Cause, Level, Machine, board_tick, clock_of, turn_ns, Clocks, lines_tick, IsValidMachine, board_at, clocks_at, ShutNews, State, Scene, Switch, Entry, pins_of, Fired, Member, Homing, members_of, Connecting, Stopping, noted, Came, GoesOn, known_by, state_at, Told, MotionTurn, ReactorTurn, item, trigger_of, Rig, length-map}
use Rattle.plan_types.specs.Clock.{run_turns}
use Rattle.host_reactor.specs.Runs.{HaveStates}
use Rattle.laws_board.specs.turns.Turns.{BoardTurn, latest_state}
use Rattle.laws_board.specs.clocks.Runs.{IsInRun}
use Rattle.laws_board.proofs.clocks.Lines.{run_before}
use Rattle.motion_work.specs.Known.{lines_by}
use Rattle.session_run.specs.Boards.{came_from, came_in}
use Rattle.laws_board.specs.causes.Short.{HaveShortDictionaries}
use Rattle.laws_board.specs.plans.Lines.{TookNotes}
use Rattle.laws_board.specs.plans.Planned.{Plans, put_of}
use Rattle.laws_homing.specs.switch_runs.Reports.{WasReported}
use Rattle.laws_homing.proofs.clear_boards.Clocking.{line_ahead}
use Rattle.laws_homing.proofs.hindered.Told.{Told as Told_so, read_more, stands_late, told_switch, told_true, was_told}
use Rattle.laws_homing.specs.fired_runs.Since.{AllRead, AreNotAhead, AreSoInTurns, BeginsApart, IsFiredAt, ReadsAsTold, ReadsSwitchTrue, ReadsTrue}
use Rattle.laws_homing.specs.hindered.Hindered.{HasRoundAhead, HaveRoundAhead, HeardByNow, HinderedIn, IsGoingOn, SomeHinderedIn, StoodAt, TellsOn}
use Rattle.laws_homing.specs.home_parts.Known.{KnowsLately}
use Rattle.laws_homing.proofs.home_parts.Held.{clocks_by}
use Rattle.laws_homing.specs.home_runs.Guards.{HasFired}
use Rattle.laws_homing.specs.home_runs.Sections.{HomesFrom, TakesSetUp}
use Rattle.laws_homing.specs.home_runs.Told.{IsMember}
use Rattle.laws_homing.specs.clear_groups.Runs.{BeginsWell}
use Rattle.laws_homing.specs.clear_groups.Sections.{IsFollowed, IsHomingSection, KnowsLines, turns_of}
use Rattle.laws_homing.specs.clear_groups.SetUp.{AllOfTurn, IsNewAt}
use Rattle.laws_homing.proofs.clear_groups.Begun.{Began, began}
use Rattle.laws_homing.proofs.clear_groups.Newly.{new_later}
use Rattle.laws_homing.proofs.clear_groups.Noted.{board_followed, states_of_turn}
use Rattle.laws_homing.proofs.hindered.Expired.{begins_later, homes_later, stood, stood_lately}
use Rattle.laws_homing.proofs.hindered.Telling.{tell_on}
use Rattle.laws_run.specs.hindered_runs.Hindered.{AllTookSetUp, HasHindered, IsHinderedIn}
use Rattle.laws_run.specs.home_headline.Near.{AllReadAsTold, KeepsUp}
use Rattle.laws_run.specs.home_wholes.Own.{AllSwitchesReadTrue}
use Rattle.laws_run.specs.lanes.Boards.{IsInWhole, turns_behind}
use Rattle.laws_run.specs.run_headline.Timely.{link_of}
use Rattle.laws_run.proofs.home_headline.Ranges.{own_small}
use Rattle.laws_run.proofs.clear_homes.Together as together
use Rattle.laws_run.proofs.clear_homes.Boards as boards
use Rattle.laws_run.proofs.clear_homes.Lines.{round_by}
use Rattle.laws_run.proofs.home_wholes.Own.{all_so}
use Rattle.laws_run.proofs.run_headline.Boarded.{Ready, came_cut, lines_renewed, ready, took, valid_at}
use Rattle.laws_run.proofs.run_headline.Showing.{Facts}

-- sections that are begun well are begun apart
well_apart : (m : Machine) (switches : List Switch) (lines : ℕ → ℕ → Clocks) (ready till : ℕ) (came : List Came) → BeginsWell m switches lines ready till came → BeginsApart m switches came
well_apart m switches lines ready till [] w = tt
well_apart m switches lines ready till (c ∷ before) w = (elim w.0 [ inl calm ↦ inl calm | inr x ↦ inr (x.0, λ h is. ((x.1 h is).connected, (x.1 h is).soon)) ], well_apart m switches lines ready till before w.1)

-- states come a turn later
all_of_turn : (m : Machine) (switches : List Switch) (pins : ℕ → List (List Level)) (entries : List Entry) (c : Came) (before : List Came) (all : List (ℕ → BoardTurn)) → length all ≡ length before → HaveStates m (c ∷ before)
    → ((b : ℕ) → b < length m.boards → IsInRun m switches (pins b) entries b before (turns_of b all) × (state_at b c.states ≡ latest_state (turns_of b all))) → AllOfTurn (c ∷ before)
all_of_turn m switches pins entries c [] all size have runs = (states_of_turn m switches pins entries c [] all have runs, tt)
all_of_turn m switches pins entries c (d ∷ past) [] size have runs = absurd (omega (arith, size))
all_of_turn m switches pins entries c (d ∷ past) (j ∷ js) size have runs = (
  states_of_turn m switches pins entries c (d ∷ past) (j ∷ js) have runs,
  all_of_turn m switches pins entries d past js (omega (arith, size)) have.1
      (λ b l. (run_before m switches (pins b) entries b d past (j b) (turns_of b js) (runs b l).0, (runs b l).0.both.0)),
)

-- one of some members
some_of : (from to : ℕ) (ms : List Member) (all : List (ℕ → BoardTurn)) → SomeHinderedIn from to ms all → (b : ℕ) × IsMember b ms × HinderedIn from to (turns_of b all)
some_of from to [] all h = absurd h
some_of from to (x ∷ xs) all (inl h) = (x.board, inl refl, h)
some_of from to (x ∷ xs) all (inr h) = let rest = some_of from to xs all h in (rest.0, inr rest.1, rest.2)

-- what is read before the last turn
drop_last : (R : Came → List Came → List BoardTurn → Type 0) (c : Came) (came : List Came) (turns : List BoardTurn) → AreSoInTurns R (c ∷ came) turns → AllRead R came turns
drop_last R c came [] k = tt
drop_last R c came (t ∷ earlier) k = k.1

some_same : (g h : Homing) (o : Option Homing) → o ≡ Some g → o ≡ Some h → g ≡ h
some_same g h None e f = absurd (let bad : None ≡ Some g = e in cc)
some_same g h (Some x) e f = (let a : x ≡ g = cc in let z : x ≡ h = cc in sym a ∙ z)

module _ (m : Machine) (v : IsValidMachine m) (s : Scene) (ts : List MotionTurn) (p : Plans m (length m.boards) ts) (t : Told) (first : ReactorTurn) (rest : List ReactorTurn) (end : ReactorTurn) (c : Cause) (told : p.seen.told ≡ Some t) (f : Facts m s ts (first ∷ rest) end c)
    (long : length (rest ++ end ∷ []) ≤ length p.made) (short : HaveShortDictionaries m)
    (little : (b : ℕ) → b < length m.boards → (w : IsInWhole m s.switches b (clock_of (board_at m b)) (link_of m s b) ts first (rest ++ end ∷ [])) → KeepsUp m s b ts first (rest ++ end ∷ []) p.seen.begun w)
    (stop : (line : ℕ) → (known_by m s.switches (came_from [] (first ∷ rest))).phase ≡ Stopping line → ⊥) (have : HaveStates m (came_in end ∷ came_from [] (first ∷ rest)))
    (in_time : (b : ℕ) → b < length m.boards → (state : State) (n : ShutNews) → item b end.states ≡ state ∷ [] → state.shut ≡ Some n → n.reason ≡ 1 → ⊥) (notes : TookNotes (map (λ d. d.note) p.made) (first ∷ (rest ++ end ∷ [])))
    (reads : AllReadAsTold m s ts (first ∷ rest) end) where
  abbrev Came_all : List Came
  Came_all = came_from [] (first ∷ rest)

  abbrev Turn : Ready m v s ts p t first rest end told
  Turn = ready m v s ts p t first rest end told f.ahead f.words_left f.turns f.words

  abbrev From : ℕ
  From = length (came_from [] Turn.past)

  abbrev Whole : (b : ℕ) → b < length m.boards → IsInWhole m s.switches b (clock_of (board_at m b)) (link_of m s b) ts first (rest ++ end ∷ [])
  Whole b h = f.boards b first rest h refl

  abbrev Turns : (b : ℕ) → b < length m.boards → List BoardTurn
  Turns b h = turns_behind [] (Whole b h).made

  abbrev Pins : ℕ → List (List Level)
  Pins b = pins_of (board_at m b) b s.switches

  count : (b : ℕ) (h : b < length m.boards) → length (Turns b h) ≡ length (rest ++ end ∷ [])
  count b h = boards.count m v s ts p t first rest end c told f long short little b h

  abbrev All_read : (Came → List Came → List BoardTurn → Type 0) → (b : ℕ) → (w : IsInWhole m s.switches b (clock_of (board_at m b)) (link_of m s b) ts first (rest ++ end ∷ [])) → Type 0
  All_read R b w = AllRead R Came_all (turns_behind [] w.made)

  read_so : (R : Came → List Came → List BoardTurn → Type 0) (b : ℕ) → b < length m.boards → ((d : Came) (before : List Came) (past : List BoardTurn) → ReadsAsTold m s.switches b d before past → R d before past)
      → (w : IsInWhole m s.switches b (clock_of (board_at m b)) (link_of m s b) ts first (rest ++ end ∷ [])) → All_read R b w
  read_so R b h f w = drop_last R (came_in end) Came_all (turns_behind [] w.made) (read_more (ReadsAsTold m s.switches b) R (came_in end ∷ Came_all) (turns_behind [] w.made) f (reads b h w))

  switches : AllSwitchesReadTrue m s ts (first ∷ (rest ++ end ∷ []))
  switches b h w =
      let Reads : List Came → Type 0 = λ z. AllRead (ReadsSwitchTrue m s.switches b) z (turns_behind [] w.made) in
      subst Reads (sym (came_cut [] first rest end)) (read_so (ReadsSwitchTrue m s.switches b) b h (λ d before past k. told_switch m s.switches b d before past k) w)

  going : (b : ℕ) (h : b < length m.boards) → IsGoingOn m s.switches (Pins b) s.entries b Came_all (Turns b h)
  going b h =
      let x = together.stands m v s ts p t first rest end c told f long short little stop in_time notes b h in
      let so = all_so m v s ts p t first rest end c told f short switches b h in
      record {
        run = x.0;
        none_shut = x.1;
        in_range = x.2;
        reads = read_so (ReadsTrue m s.switches b) b h (λ d before past k. told_true m s.switches b d before past k) (Whole b h);
        reads_switch = so.1;
        behind = so.2;
      }

  knows : ((known_by m s.switches Came_all).phase ≡ Connecting → ⊥) × ((noted m end.note (known_by m s.switches Came_all)).clocks ≡ map (lines_by (length Came_all + 276)) t.clocks)
  knows = together.knows m v s ts p t first rest end c told f long short little stop in_time notes

  -- each section's own clock lines, which are all, track the boards until here
  abbrev Lines : ℕ → ℕ → Clocks
  Lines start b = clocks_at t.clocks b

  abbrev Till : ℕ
  Till = length Came_all + 276

  well : BeginsWell m s.switches Lines (From + 1) Till (came_in end ∷ Came_all)
  well = together.well m v s ts p t first rest end c told f long short little stop in_time notes

  all : (js : List (ℕ → BoardTurn)) × (length js ≡ length Came_all) × ((b : ℕ) → (low : b < length m.boards) → turns_of b js ≡ Turns b low)
  all = together.all m v s ts p t first rest end c told f long short little stop in_time notes

  runs : (i : ℕ) → i < length m.boards → IsGoingOn m s.switches (Pins i) s.entries i Came_all (turns_of i all.0)
  runs i low = subst (λ (turns : List BoardTurn). IsGoingOn m s.switches (Pins i) s.entries i Came_all turns) (sym (all.2 i low)) (going i low)

  here : (i : ℕ) (low : i < length m.boards) → state_at i end.states ≡ latest_state (Turns i low)
  here i low = together.here m v s ts p t first rest end c told f long short little stop in_time notes i low

  states : (i : ℕ) → i < length m.boards → state_at i end.states ≡ latest_state (turns_of i all.0)
  states i low = here i low ∙ ap latest_state (sym (all.2 i low))

  of_turn : AllOfTurn (came_in end ∷ Came_all)
  of_turn = all_of_turn m s.switches Pins s.entries (came_in end) Came_all all.0 all.1 have (λ i low. ((runs i low).run, states i low))

  goes : GoesOn m s.switches Came_all
  goes = together.goes m v s ts p t first rest end c told f long short little stop in_time notes

  apart : BeginsApart m s.switches (came_in end ∷ Came_all)
  apart = well_apart m s.switches Lines (From + 1) Till (came_in end ∷ Came_all) well

  known_lately : KnowsLately m s.switches t.clocks (came_in end ∷ Came_all)
  known_lately = ((λ past. knows.1), (boards.known m v s ts p t first rest end c told f long short little).0)

  lines_of : (start : ℕ) → KnowsLines m s.switches start (Lines start) (came_in end ∷ Came_all)
  lines_of start = together.lines_of m v s ts p t first rest end c told f long short little stop in_time notes start

  -- the homing section that is known
  module _ (h : Homing) (is : (noted m end.note (known_by m s.switches Came_all)).homing ≡ Some h) where
    abbrev Since : ℕ
    Since = h.start - 252

    abbrev Members : List Member
    Members = members_of h.group

    x : Began m s.switches Lines (From + 1) Till (came_in end) Came_all h
    x = began m s.switches Lines (From + 1) Till (came_in end) Came_all goes of_turn well h is

    soon_since : (x.from ≤ Since + 1) × (Since + 1 + 251 ≤ h.start) × (Since + 252 ≤ h.start)
    soon_since = (let soon = x.soon in let far = x.far in (omega (arith, soon, far), omega (arith, far), omega (arith, far)))

    section : IsHomingSection (λ i. IsGoingOn m s.switches (Pins i) s.entries i) m s.switches (Lines h.start) (Since + 1) h.start Members (came_in end) Came_all all.0
    section = record {
      goes_on = goes;
      long = all.1;
      homes = homes_later m s.switches x.from (Since + 1) h.start Members (came_in end ∷ Came_all) soon_since.0 x.homes;
      begins = begins_later x.from (Since + 1) (came_in end ∷ Came_all) soon_since.0 x.begins;
      knows = lines_of h.start;
      plain = λ i on. runs i (x.within i on);
      states = λ i on. states i (x.within i on);
    }

    followed : (i : ℕ) → IsMember i Members → IsFollowed m i (Lines h.start i) (From + 1) h.start h.group.last Till
    followed i on =
        let low = x.within i on in
        let k = x.tracked i low in
        let far = x.far in
        board_followed m i (Lines h.start i) (From + 1) h.start h.group.last Till v low k.0 (omega (arith, far)) x.order k.1 k.2

    new : IsNewAt m s.switches h.start h.group.last Members (Since + 1) (came_in end ∷ Came_all)
    new = new_later m s.switches x.from h.start h.group.last Members x.soon (Since + 1) (came_in end) Came_all soon_since.0 soon_since.1 goes x.homes x.begins of_turn x.new

    -- by the lines that are known in a turn of the section a round of the 32-bit clock fits before the run's last turn
    rounds : (i : ℕ) → IsMember i Members → (came : List Came) → length came ≤ length Came_all + 1 → HomesFrom m s.switches (Since + 1) h.start Members came → KnowsLately m s.switches t.clocks came → HaveRoundAhead m s.switches i h.start h.group.last came
    rounds i on [] few homes lately = tt
    rounds i on (d ∷ before) few homes lately = (here, rounds i on before (omega (arith, few)) homes.1 lately.1)
      where
        here : h.start ≤ length before → length before ≤ h.group.last → HasRoundAhead m s.switches i d before
        here late soon =
            let low = x.within i on in
            let fol = followed i on in
            let begins = fol.begins in
            let ends = fol.ends in
            let far = x.far in
            let r = lines_renewed m v s ts p t first rest end told i Turn (Whole i low) low (boards.renewed m v s ts p t first rest end c told f long short little i low) in
            let first_early = r.early in
            let ahead = fol.tracked.ahead (length before) (omega (arith, late, begins)) (omega (arith, ends, soon, few)) in
            let size = together.many m v s ts p t first rest end c told f long short little stop in_time notes in
            let small = p.small in
            let made = length-map p.made put_of in
            let range = own_small (board_at m i) (valid_at m.boards i low v.boards) (length before + 4) (omega (arith, few, size, long, small, made)) in
            let Round : Clocks → Type 0 = λ z. lines_tick z (length before * turn_ns) + 2 ^ 32 ≤ lines_tick z (run_turns * turn_ns) in
            subst Round (sym (ap (λ (cs : List Clocks). clocks_at cs i) (lately.0 (homes.0 (omega (arith, late, far))).0) ∙ clocks_by (length before + 276) t.clocks i))
            (round_by (clocks_at t.clocks i) (length before + 276) (length before) r.kept (omega arith) (omega (arith, first_early, begins, late)) (omega (arith, few, size, long, small, made)) (omega (arith, ahead, range)))

    -- from five turns behind its start on the triggers of its boards tell on, where they took its set-up in time
    tells : AllTookSetUp m s ts first rest end h → (y : ℕ) → IsMember y Members → HeardByNow m s.switches y h.start (came_in end ∷ Came_all) → (at : ℕ) → h.start + 5 ≤ at → (i : ℕ) → IsMember i Members → StoodAt (TellsOn m i (lines_tick (Lines h.start i) (h.start * turn_ns)) at) at (turns_of i all.0)
    tells took y on_y heard at late i on =
        let low = x.within i on in
        let far = x.far in
        let own : TakesSetUp (link_of m s i) h.start (turns_of i all.0) = subst (λ (turns : List BoardTurn). TakesSetUp (link_of m s i) h.start turns) (sym (all.2 i low)) (took i on (Whole i low)) in
        tell_on m v s.switches (Pins i) s.entries i (Lines h.start) (From + 1) (Since + 1) h.start h.group.last Till Members (followed i on) (omega (arith, far)) (omega (arith, far)) on
        (came_in end) Came_all (turns_of i all.0) (section.plain i on) section.homes section.knows apart (omega arith) section.begins new y on_y heard own at late

    -- where a board told that it expired, in a turn that isn't past the section's last one
    module _ (board turn tick : ℕ) (member : IsMember board Members) (in_last : turn ≤ h.group.last) (report : WasReported m s.switches board h.start (record { reason = 2; tick = tick; turn = turn }) (came_in end ∷ Came_all)) where
      abbrev Own : ℕ → ℕ
      Own k = board_tick (clock_of (board_at m board)) k

      low : board < length m.boards
      low = x.within board member

      abbrev Report : Fired
      Report = record { reason = 2; tick = tick; turn = turn }

      own_run : IsInRun m s.switches (Pins board) s.entries board Came_all (Turns board low)
      own_run = boards.run_of m v s ts p t first rest end c told f long short little board low

      last_start : (g : Homing) → (noted m end.note (known_by m s.switches Came_all)).homing ≡ Some g → g.start ≤ length Came_all
          → Own (g.start - 1) ≤ lines_tick (clocks_at (noted m end.note (known_by m s.switches Came_all)).clocks board) (g.start * turn_ns)
      last_start g is_g late =
          let far = x.far in
          let order = x.order in
          let at = followed board member in
          let alike = ((lines_of h.start).0 knows.0 h is refl board low).1 in
          let start : h.start ≡ g.start = ap (λ (z : Homing). z.start) (some_same h g (noted m end.note (known_by m s.switches Came_all)).homing is is_g) in
          let same_tick = alike.ticks h.start (omega (arith, late, start)) in
          let ends = at.ends in
          let ahead = line_ahead Own (Lines h.start board) (From + 1) (h.start - 1) h.start at.tracked (omega (arith, far)) (omega (arith, ends, order, late, start)) (omega (arith, far)) in
          let By : ℕ → Type 0 = λ k. Own (k - 1) ≤ lines_tick (clocks_at (noted m end.note (known_by m s.switches Came_all)).clocks board) (k * turn_ns) in
          let now : By h.start = omega (arith, ahead, same_tick) in
          subst By start now

      behind_last : AreNotAhead m s.switches board (came_in end ∷ Came_all)
      behind_last = (last_start, (all_so m v s ts p t first rest end c told f short switches board low).2)

      so : Told_so m v s.switches (Pins board) s.entries board x.from h.start h.group.last Till (Lines h.start) (From + 1) Members member (let soon = x.soon in omega (arith, soon)) (followed board member) (let far = x.far in omega (arith, far)) Report in_last (Turns board low)
      so = was_told m v s.switches (Pins board) s.entries board x.from h.start h.group.last Till (Lines h.start) (From + 1) Members member (let soon = x.soon in omega (arith, soon)) (followed board member) (let far = x.far in omega (arith, far)) Report in_last
          (came_in end) Came_all (Turns board low) own_run (here board low) x.homes (lines_of h.start) (reads board low (Whole board low)) behind_last (omega arith) report

      hindered : (later : List BoardTurn) (at : BoardTurn) (past : List BoardTurn) → Turns board low ≡ later ++ at ∷ past → IsFiredAt (trigger_of m board) 2 tick at.after.core.board → HasHindered m s ts first rest end h Since (length past)
      hindered later at past are stands =
          let late = stands_late m v s.switches (Pins board) s.entries board x.from h.start h.group.last Till (Lines h.start) (From + 1) Members member (let soon = x.soon in omega (arith, soon)) (followed board member) (let far = x.far in omega (arith, far)) Report in_last
          Came_all later at past (Turns board low) own_run are stands so.late in
          let early = so.early in
          let far = x.far in
          let found = some_of Since (length past) Members all.0
          (stood m v s.switches Pins s.entries (Lines h.start) (From + 1) Since h.start h.group.last Till Members followed (omega (arith, far)) soon_since.2 x.order board tick member (λ e. omega (arith, e, early)) later at past
          (came_in end) Came_all all.0 section of_turn apart (omega arith) new (all.2 board low ∙ are) late stands) in
          let there = x.within found.0 found.1 in
          record {
            board = found.0;
            member = found.1;
            there = there;
            w = Whole found.0 there;
            hindered = subst (λ (turns : List BoardTurn). HinderedIn Since (length past) turns) (all.2 found.0 there) found.2;
          }

      lately : (later : List BoardTurn) (t : BoardTurn) (past : List BoardTurn) → Turns board low ≡ later ++ t ∷ past → IsFiredAt (trigger_of m board) 2 tick t.after.core.board → h.start + 41 ≤ length past → length past ≤ h.group.last + 4
          → HeardByNow m s.switches board h.start (came_in end ∷ Came_all) → AllTookSetUp m s ts first rest end h
          → StoodAt (λ r. HasFired (trigger_of m board) r → ⊥) (length past - 12) (Turns board low) → HasHindered m s ts first rest end h (length past - 37) (length past)
      lately later t past are stands begun ends heard set_up could =
          let early = so.early in
          let far = x.far in
          let at : ℕ = length past - 36 in
          let Could : Rig → Type 0 = λ r. HasFired (trigger_of m board) r → ⊥ in
          let twelve : length past - 12 ≡ at + 24 = omega (arith, begun) in
          let before : length past - 37 ≡ at - 1 = omega (arith, begun) in
          let could_so : StoodAt Could (at + 24) (turns_of board all.0) = subst (λ (n : ℕ). StoodAt Could n (turns_of board all.0)) twelve (subst (λ (turns : List BoardTurn). StoodAt Could (length past - 12) turns) (sym (all.2 board low)) could) in
          let found = some_of (at - 1) (length past) Members all.0
          (stood_lately m v s.switches Pins s.entries (Lines h.start) (From + 1) Since h.start h.group.last Till Members followed (omega (arith, far)) soon_since.2 x.order (omega (arith, far)) at (omega (arith, begun)) (omega (arith, begun, ends)) board member tick (λ e. omega (arith, e, early)) later t past
          (came_in end) Came_all all.0 section apart (omega arith) new heard (all.2 board low ∙ are) (omega (arith, begun)) (tells set_up board member heard at (omega (arith, begun))) could_so (λ i on. rounds i on (came_in end ∷ Came_all) (omega arith) section.homes known_lately) stands) in
          let there = x.within found.0 found.1 in
          record {
            board = found.0;
            member = found.1;
            there = there;
            w = Whole found.0 there;
            hindered = subst (λ (n : ℕ). HinderedIn n (length past) (turns_behind [] (Whole found.0 there).made)) (sym before) (subst (λ (turns : List BoardTurn). HinderedIn (at - 1) (length past) turns) (all.2 found.0 there) found.2);
          }

      pub hindered_in : IsHinderedIn m s ts first rest end board turn
      hindered_in = record {
        homing = h;
        known = is;
        tick = tick;
        told = report;
        there = low;
        w = Whole board low;
        expired = so.was;
        hindered = hindered;
        lately = lately;
      }
