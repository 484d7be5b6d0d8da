-- All boards of a whole run in which axes home, in any scene: what each did, turn by turn, and what the reactor knows with it.
use Rattle.laws_board.proofs.Names.{noted, Came, GoesOn, known_by, state_at, Connecting, Stopping, pins_of, Started, Told, ShutNews, State, board_tick, clock_of, Clocks, IsValidMachine, board_at, clocks_at, Cause, Level, Machine, Home, item, MotionTurn, ReactorTurn, leb_tells, length-map, Scene}
use Rattle.laws_board.specs.causes.Short.{HaveShortDictionaries}
use Rattle.laws_board.specs.clocks.Runs.{IsInRun}
use Rattle.laws_board.specs.plans.Lines.{TookNotes}
use Rattle.laws_board.specs.plans.Planned.{Plans, put_of}
use Rattle.laws_board.specs.turns.Turns.{BoardTurn, latest_state}
use Rattle.laws_homing.proofs.clear_groups.Joined.{join, tracked_later}
use Rattle.laws_homing.specs.clear_groups.Runs.{BeginsWell, IsTracked}
use Rattle.laws_homing.specs.clear_groups.Sections.{KnowsLines, ShutNone, turns_of}
use Rattle.laws_homing.specs.home_parts.Cuts.{cuts_on}
use Rattle.laws_homing.specs.home_plans.Notes.{CameNotes}
use Rattle.laws_run.proofs.clear_homes.Boards as boards
use Rattle.laws_run.proofs.clear_homes.Bounds.{starts_by}
use Rattle.laws_run.proofs.clear_homes.Lines.{lines_known, tracked_by}
use Rattle.laws_run.proofs.clear_homes.Opened.{begin_well}
use Rattle.laws_run.proofs.clear_homes.Running.{all_none, end_none}
use Rattle.laws_run.proofs.clear_runs.Bare.{latest_behind}
use Rattle.laws_run.proofs.clock_ages.Own.{follow_to}
use Rattle.laws_run.proofs.home_headline.Clocks.{end_knows}
use Rattle.laws_run.proofs.home_headline.Planned.{all_notes}
use Rattle.laws_run.proofs.home_headline.Ranges.{own_small}
use Rattle.laws_run.proofs.home_headline.Unasked.{never_stop}
use Rattle.laws_run.proofs.run_headline.Boarded.{Ready, came_split, lines_renewed, ready, took, valid_at}
use Rattle.laws_run.proofs.run_headline.Going.{Lasts, lasts}
use Rattle.laws_run.proofs.run_headline.Showing.{Facts, came_long}
use Rattle.laws_run.specs.home_headline.Near.{KeepsUp}
use Rattle.laws_run.specs.lanes.Boards.{IsInWhole, turns_behind, states_of}
use Rattle.laws_run.specs.run_headline.Timely.{link_of}
use Rattle.motion_work.specs.Known.{lines_by}
use Rattle.session_run.specs.Boards.{came_from, came_in}
use Rattle.std.proofs.Common.{◌≡◌, ◌⊎◌, ℕ, ◌+◌, ◌^◌, ◌<◌, ◌≤◌, List, [], ◌∷◌, ◌++◌, length, map, Some, refl, ap, sym, ◌∙◌, subst, arith, inl, inr, length-append}
use Rattle.std.proofs.Props.{props}
use Rattle.plan_types.proofs.Facts.{less_or_from}
use Rattle.laws_homing.proofs.missed_groups.Told.{same_state}

-- what each of some boards did; of no other board anything
pub turns_by : (b n : ℕ) (f : (i : ℕ) → i < n → List BoardTurn) → ((b < n) ⊎ (n ≤ b)) → List BoardTurn
turns_by b n f (inl low) = f b low
turns_by b n f (inr far) = []

pub turns_same : (b n : ℕ) (f : (i : ℕ) → i < n → List BoardTurn) (o : (b < n) ⊎ (n ≤ b)) (low : b < n) → turns_by b n f o ≡ f b low
unfolding turns_by
turns_same b n f (inl p) low = let low_prop : IsProp (b < n) = hlevel props in ap (λ (h : b < n). f b h) (low_prop p low)
turns_same b n f (inr p) low = absurd (omega (arith, p, low))

some_turn : (turns : List BoardTurn) → 0 < length turns → BoardTurn
some_turn [] some = absurd (omega (arith, some))
some_turn (t ∷ turns) some = t

module _ (m : Machine) (v : IsValidMachine m) (s : Scene) (ts : List MotionTurn) (p : Plans m (length m.boards) ts) (t : Told) (first : ReactorTurn) (rest : List ReactorTurn) (end : ReactorTurn) (c : Cause) (told : p.seen.told ≡ Some t) (f : Facts m s ts (first ∷ rest) end c)
    (long : length (rest ++ end ∷ []) ≤ length p.made) (short : HaveShortDictionaries m)
    (little : (b : ℕ) → b < length m.boards → (w : IsInWhole m s.switches b (clock_of (board_at m b)) (link_of m s b) ts first (rest ++ end ∷ [])) → KeepsUp m s b ts first (rest ++ end ∷ []) p.seen.begun w)
    (stop : (line : ℕ) → (known_by m s.switches (came_from [] (first ∷ rest))).phase ≡ Stopping line → ⊥)
    (in_time : (b : ℕ) → b < length m.boards → (state : State) (n : ShutNews) → item b end.states ≡ state ∷ [] → state.shut ≡ Some n → n.reason ≡ 1 → ⊥) (notes : TookNotes (map (λ d. d.note) p.made) (first ∷ (rest ++ end ∷ []))) where
  abbrev pub Came_all : List Came
  Came_all = came_from [] (first ∷ rest)

  abbrev pub Turn : Ready m v s ts p t first rest end told
  Turn = ready m v s ts p t first rest end told f.ahead f.words_left f.turns f.words

  abbrev pub From : ℕ
  From = length (came_from [] Turn.past)

  abbrev pub Whole : (b : ℕ) → b < length m.boards → IsInWhole m s.switches b (clock_of (board_at m b)) (link_of m s b) ts first (rest ++ end ∷ [])
  Whole b h = f.boards b first rest h refl

  abbrev pub Turns : (b : ℕ) → b < length m.boards → List BoardTurn
  Turns b h = turns_behind [] (Whole b h).made

  abbrev pub Pins : ℕ → List (List Level)
  Pins b = pins_of (board_at m b) b s.switches

  last : (b : ℕ) (h : b < length m.boards) → Lasts b rest end (states_of (Whole b h).made)
  last b h = lasts b rest end (states_of (Whole b h).made) (took b (rest ++ end ∷ []) (states_of (Whole b h).made) (Whole b h).states)

  latest : (b : ℕ) (h : b < length m.boards) → latest_state (Turns b h) ≡ (last b h).last ∷ []
  latest b h = latest_behind [] (Whole b h).made (last b h).front (last b h).last (last b h).are

  count : (b : ℕ) (h : b < length m.boards) → length (Turns b h) ≡ length (rest ++ end ∷ [])
  count b h = boards.count m v s ts p t first rest end c told f long short little b h

  pub many : length Came_all ≡ length (rest ++ end ∷ [])
  many = let size = came_long [] (first ∷ rest) in let more = length-append rest (end ∷ []) in omega (arith, size, more)

  -- a board's turns: those of a run that goes on, in none of which it shut down, and its clock is far from its end
  pub stands : (b : ℕ) (h : b < length m.boards) → IsInRun m s.switches (Pins b) s.entries b Came_all (Turns b h) × ShutNone (Turns b h) × (board_tick (clock_of (board_at m b)) (length (Turns b h)) < 2 ^ 63)
  stands b h =
      let run = boards.run_of m v s ts p t first rest end c told f long short little b h in
      let home = boards.on m v s ts p t first rest end c told f long short little b h in
      let none = end_none b s.entries From (length (rest ++ end ∷ [])) (cuts_on m t.clocks (length (rest ++ end ∷ [])) p.seen.begun b) (boards.Here m v s ts p t first rest end c told f long short little b h) home (last b h).front (last b h).last (last b h).are
      (never_stop m s.switches (Pins b) s.entries b Came_all (Turns b h) run stop) (λ n shut one. in_time b h (last b h).last n (last b h).at shut one) in
      let size = count b h in
      let small = p.small in
      let made = length-map p.made put_of in
      let range = own_small (board_at m b) (valid_at m.boards b h v.boards) (length (Turns b h)) (omega (arith, size, long, small, made)) in
      (run, all_none (board_at m b) (Pins b) b s.entries (Turns b h) (last b h).last run.turns_are (latest b h) none, omega (arith, range))

  pub given : CameNotes p.seen.begun (came_in end ∷ Came_all)
  given =
      let Notes : List Came → Type 0 = λ z. CameNotes p.seen.begun z in
      subst Notes (came_split [] (first ∷ rest) end []) (all_notes m p.seen.text p.seen.begun p.made first (rest ++ end ∷ []) p.put notes)

  pub knows : ((known_by m s.switches Came_all).phase ≡ Connecting → ⊥) × ((noted m end.note (known_by m s.switches Came_all)).clocks ≡ map (lines_by (length Came_all + 276)) t.clocks)
  knows = end_knows m v s ts p t first rest end told Turn f.turns (boards.sound m v s ts p t first rest end c told f long short little) notes

  -- each section's own clock lines, which are all
  abbrev pub Lines : ℕ → ℕ → Clocks
  Lines start b = clocks_at t.clocks b

  -- they track the boards until here
  abbrev pub Till : ℕ
  Till = length Came_all + 276

  tracked : (past : List Started) (x : Started) (later : List Started) (axis : ℕ) → p.seen.begun ≡ past ++ x ∷ later → x.section.kind ≡ Home axis
      → (x.start ≤ x.last) × ((b : ℕ) → b < length m.boards → IsTracked m b (Lines x.start b) (From + 1) x.last Till)
  tracked past x later axis cut home = (
    starts_by m ts p t told past x later axis cut home,
    λ b h. (
        let own : ℕ → ℕ = λ n. board_tick (clock_of (board_at m b)) n in
        let l = follow_to m b (length rest) From (clocks_at t.clocks b) (lines_renewed m v s ts p t first rest end told b Turn (Whole b h) h (boards.renewed m v s ts p t first rest end c told f long short little b h)) in
        let low = l.1 in
        let all = many in
        let more = length-append rest (end ∷ []) in
        let late = tracked_later own (clocks_at t.clocks b) From (From + 1) (omega arith) l.0 in
        let same = late.1 in
        let y = tracked_by own (clocks_at t.clocks b) (From + 1) Till late.0 (omega (arith, low, same, all, more)) in
        let is = y.1 in
        let few = p.small in
        let size = length-map p.made put_of in
        (y.0, omega (arith, is), omega (arith, is, few, size, all, long))),
  )

  pub goes : GoesOn m s.switches Came_all
  goes = (boards.by m v s ts p t first rest end c told f long short little).goes_on

  -- its homing sections are begun well
  pub well : BeginsWell m s.switches Lines (From + 1) Till (came_in end ∷ Came_all)
  well =
      let by = boards.by m v s ts p t first rest end c told f long short little in
      let row = boards.row m v s ts p t first rest end c told f long short little in
      let known = boards.known m v s ts p t first rest end c told f long short little in
      begin_well m s.switches ts p Lines From Till t.first Turn.early row tracked Came_all by known.1 (came_in end) given.0 knows.0

  -- the reactor knows these lines
  pub lines_of : (start : ℕ) → KnowsLines m s.switches start (Lines start) (came_in end ∷ Came_all)
  lines_of start =
      let sound = boards.sound m v s ts p t first rest end c told f long short little in
      lines_known m s.switches t.clocks start (came_in end ∷ Came_all) sound.clocks_are.count sound.kept ((λ past. knows.1), (boards.known m v s ts p t first rest end c told f long short little).0)

  -- what all boards did, turn by turn
  pub all : (js : List (ℕ → BoardTurn)) × (length js ≡ length Came_all) × ((b : ℕ) → (low : b < length m.boards) → turns_of b js ≡ Turns b low)
  all =
      let n = length m.boards in
      let size = many in
      let some = v.boards_some in
      let own = count 0 some in
      let more = length-append rest (end ∷ []) in
      let d = some_turn (Turns 0 some) (omega (arith, own, more)) in
      let js = join n (length Came_all) d (λ i. turns_by i n Turns (less_or_from i n)) (λ i low. ap length (turns_same i n Turns (less_or_from i n) low) ∙ count i low ∙ sym size) in
      (js.0, js.1, λ i low. js.2 i low ∙ turns_same i n Turns (less_or_from i n) low)

  -- the state that came last
  pub here : (i : ℕ) (low : i < length m.boards) → state_at i end.states ≡ latest_state (Turns i low)
  here i low = same_state i end.states ∙ (last i low).at ∙ sym (latest i low)
