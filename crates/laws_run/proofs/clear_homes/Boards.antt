-- Each board of a whole run in which axes home, as the laws of boards ask for it.
use Rattle.std.proofs.Common.{◌≡◌, ℕ, ◌<◌, ◌≤◌, List, [], ◌∷◌, ◌++◌, length, map, Some, refl, subst, arith, length-append}
use Rattle.laws_board.proofs.Names.{Cause, Machine, clock_of, IsValidMachine, board_at, clocks_at, Scene, pins_of, Came, Told, MotionTurn, ReactorTurn}
use Rattle.laws_board.specs.turns.Turns.{BoardTurn}
use Rattle.laws_board.specs.clocks.Runs.{IsInRun}
use Rattle.laws_board.proofs.clocks.Orders.{order_length}
use Rattle.session_run.specs.Boards.{came_from}
use Rattle.laws_board.specs.sections.Boards.{OnBoard}
use Rattle.laws_board.specs.sections.Homes.{IsHomeBoard}
use Rattle.laws_run.specs.lanes.Boards.{IsInWhole, turns_behind}
use Rattle.laws_run.specs.lanes.Turns.{came_before}
use Rattle.laws_board.specs.plans.Lines.{TookNotes}
use Rattle.laws_board.specs.plans.Planned.{Plans}
use Rattle.laws_board.proofs.plans.Running.{started_in}
use Rattle.laws_run.specs.run_headline.Timely.{AreSound, link_of}
use Rattle.laws_run.proofs.run_headline.Boarded.{Ready, came_cut, ready, sound_of, valid_at}
use Rattle.laws_run.proofs.run_headline.Showing.{Facts, front_notes, took_notes}
use Rattle.laws_board.specs.plans.Rows.{AreInARow}
use Rattle.laws_board.proofs.plans.Rows.{begun_row}
use Rattle.laws_homing.specs.home_parts.Answers.{ArePastConnecting, IsPlannedBy, MayHome}
use Rattle.laws_homing.specs.home_parts.Cuts.{cuts_on}
use Rattle.laws_homing.specs.home_parts.Known.{KnowsLately, StartInRange}
use Rattle.laws_board.specs.causes.Short.{HaveShortDictionaries}
use Rattle.laws_run.specs.clock_ages.Renewed.{StayYoung}
use Rattle.laws_run.proofs.clock_ages.Own.{Own}
use Rattle.laws_run.proofs.clock_ages.Renews.{renews}
use Rattle.laws_run.specs.home_headline.Near.{KeepsUp}
use Rattle.laws_run.proofs.home_headline.Board.{Followed, boarded, here, lines_of}
use Rattle.laws_run.proofs.home_headline.Clocks.{run_knows}
use Rattle.laws_run.proofs.home_headline.Planned.{planned_by}
use Rattle.laws_run.proofs.home_headline.Ranges.{may_all, on_small, range_all, starts_soon}

module _ (m : Machine) (v : IsValidMachine m) (s : Scene) (ts : List MotionTurn) (p : Plans m (length m.boards) ts) (t : Told) (first : ReactorTurn) (rest : List ReactorTurn) (end : ReactorTurn) (c : Cause) (told : p.seen.told ≡ Some t) (f : Facts m s ts (first ∷ rest) end c)
    (long : length (rest ++ end ∷ []) ≤ length p.made) (short : HaveShortDictionaries m)
    (little : (b : ℕ) → b < length m.boards → (w : IsInWhole m s.switches b (clock_of (board_at m b)) (link_of m s b) ts first (rest ++ end ∷ [])) → KeepsUp m s b ts first (rest ++ end ∷ []) p.seen.begun w) where
  notes : TookNotes (map (λ d. d.note) p.made) (first ∷ rest)
  notes = front_notes m v s ts p end c first rest f (took_notes m v s ts p end c first rest f long)

  -- the boards, as for the lines that follow the plans
  abbrev pub turn : Ready m v s ts p t first rest end told
  turn = ready m v s ts p t first rest end told f.ahead f.words_left f.turns f.words

  abbrev pub whole : (b : ℕ) → b < length m.boards → IsInWhole m s.switches b (clock_of (board_at m b)) (link_of m s b) ts first (rest ++ end ∷ [])
  whole b h = f.boards b first rest h refl

  abbrev pub N : ℕ
  N = length (rest ++ end ∷ [])

  abbrev pub By : ℕ
  By = length (came_from [] turn.past)

  abbrev pub Came_all : List Came
  Came_all = came_from [] (first ∷ rest)

  abbrev pub Turns_of : (b : ℕ) → b < length m.boards → List BoardTurn
  Turns_of b h = turns_behind [] (whole b h).made

  abbrev pub Here : (b : ℕ) → b < length m.boards → OnBoard
  Here b h = here m v s ts p t first rest end told b (whole b h)

  pub renewed : (b : ℕ) → b < length m.boards → StayYoung m b (clocks_at t.clocks b) (length rest)
  renewed b h = let size = length-append rest (end ∷ []) in renews m v short s ts p t first rest end c told f notes (omega (arith, size, long)) b h

  pub lines : (b : ℕ) → b < length m.boards → Followed m b (length rest) t.clocks By p.seen.begun
  lines b h = lines_of m v s ts p t first rest end told b (whole b h) turn h (renewed b h)

  pub row : AreInARow t.first p.seen.begun
  row = begun_row m t.clocks t.first p.seen.begun (started_in m ts p t told)

  pub sound : AreSound m t.clocks t.first
  sound = sound_of m v s ts p t first rest end told turn whole

  range : (b : ℕ) → b < length m.boards → StartInRange (clocks_at t.clocks b) p.seen.begun
  range b h =
      let l = lines b h in
      let early = turn.early in
      range_all m t.clocks (Own m b (length rest)) (clocks_at t.clocks b) By t.first p.seen.begun l.tracked (on_small m b (length rest) (valid_at m.boards b h v.boards)) (omega (arith, early)) row l.over (starts_soon m (length m.boards) ts p)

  formed : MayHome m p.seen.begun
  formed = may_all m v ts p t told

  pub on : (b : ℕ) (h : b < length m.boards) → IsHomeBoard b s.entries By N (cuts_on m t.clocks N p.seen.begun b) (Here b h)
  on b h = boarded m v s ts p t first rest end told f.ahead b f.words_left (whole b h) turn h f.turns f.words notes long (lines b h) sound formed (range b h) (little b h (whole b h))

  pub run_of : (b : ℕ) (h : b < length m.boards) → IsInRun m s.switches (pins_of (board_at m b) b s.switches) s.entries b Came_all (Turns_of b h)
  run_of b h =
      let w = whole b h in
      let run_first : IsInRun m s.switches (pins_of (board_at m b) b s.switches) s.entries b (came_before [] (first ∷ rest ++ end ∷ [])) (Turns_of b h) = record { board = h; goes_on = w.goes_on; turns_are = w.turns_are; both = w.both; in_range = w.in_range } in
      let Run : List Came → Type 0 = λ c. IsInRun m s.switches (pins_of (board_at m b) b s.switches) s.entries b c (Turns_of b h) in
      subst Run (came_cut [] first rest end) run_first

  pub by : IsPlannedBy m s.switches (length m.boards) ts p Came_all
  by = let size = length-append rest (end ∷ []) in planned_by m s.switches (length m.boards) f.ahead ts p first rest f.words_left f.turns f.words notes (omega (arith, long, size))

  -- the clock lines that are known
  pub known : KnowsLately m s.switches t.clocks Came_all × ArePastConnecting m s.switches By Came_all
  known = run_knows m v s ts p t first rest end told turn f.turns sound notes

  pub count : (b : ℕ) (h : b < length m.boards) → length (Turns_of b h) ≡ length (rest ++ end ∷ [])
  count b h = let a = order_length (Turns_of b h) in let d = (on b h).count in omega (arith, a, d)
