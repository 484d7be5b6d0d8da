-- Each board of a whole run in which axes home, whatever ended it, as the laws of boards ask for it.
use Rattle.std.proofs.Common.{◌≡◌, inr, ℕ, ◌<◌, List, [], ◌∷◌, ◌++◌, length, map, Some, length-append, refl, arith}
use Rattle.laws_board.proofs.Names.{Cause, Machine, clock_of, IsValidMachine, board_at, clocks_at, Scene, Told, MotionTurn, ReactorTurn}
use Rattle.session_run.specs.Boards.{came_from}
use Rattle.laws_board.specs.sections.Homes.{IsHomeBoard}
use Rattle.laws_run.specs.lanes.Boards.{IsInWhole, turns_behind}
use Rattle.laws_board.specs.plans.Lines.{TookNotes}
use Rattle.laws_board.specs.plans.Planned.{Plans}
use Rattle.laws_board.proofs.plans.Running.{started_in}
use Rattle.laws_run.specs.run_headline.Timely.{AreSound, link_of}
use Rattle.laws_run.proofs.run_headline.Boarded.{Lined, Ready, lined, ready, sound_of, valid_at}
use Rattle.laws_run.proofs.run_headline.Showing.{Facts, few, notes_before}
use Rattle.laws_board.specs.plans.Rows.{AreInARow}
use Rattle.laws_board.proofs.plans.Rows.{begun_row}
use Rattle.laws_homing.specs.home_parts.Answers.{MayHome}
use Rattle.laws_homing.specs.home_parts.Cuts.{cuts_on}
use Rattle.laws_homing.specs.home_parts.Known.{StartInRange}
use Rattle.laws_board.specs.causes.Short.{HaveShortDictionaries}
use Rattle.laws_run.proofs.clock_ages.Own.{Own}
use Rattle.laws_run.proofs.clock_ages.Renews.{renews}
use Rattle.laws_run.specs.home_headline.Near.{KeepsUp}
use Rattle.laws_run.proofs.home_headline.Board.{Followed, Homing, boarded_by, here_by, homing_so, lines_of}
use Rattle.laws_run.proofs.home_headline.Ranges.{may_all, on_small, range_all, starts_soon}

module _ (m : Machine) (v : IsValidMachine m) (s : Scene) (ts : List MotionTurn) (p : Plans m (length m.boards) ts) (t : Told) (first : ReactorTurn) (rest : List ReactorTurn) (end : ReactorTurn) (c : Cause) (told : p.seen.told ≡ Some t) (f : Facts m s ts (first ∷ rest) end c)
    (short : HaveShortDictionaries m) where
  abbrev pub whole : (b : ℕ) → b < length m.boards → IsInWhole m s.switches b (clock_of (board_at m b)) (link_of m s b) ts first (rest ++ end ∷ [])
  whole b h = f.boards b first rest h refl

  front_notes : TookNotes (map (λ d. d.note) p.made) (first ∷ rest)
  front_notes = notes_before m v s ts p end c first rest f

  abbrev pub turn : Ready m v s ts p t first rest end told
  turn = ready m v s ts p t first rest end told f.ahead f.words_left f.turns f.words

  abbrev pub By : ℕ
  By = length (came_from [] turn.past)

  lines : (b : ℕ) → b < length m.boards → Followed m b (length rest) t.clocks By p.seen.begun
  lines b h = lines_of m v s ts p t first rest end told b (whole b h) turn h (let size = length-append rest (end ∷ []) in let most = few m v s ts p end c first rest f in renews m v short s ts p t first rest end c told f front_notes (omega (arith, size, most)) b h)

  sound : AreSound m t.clocks t.first
  sound = sound_of m v s ts p t first rest end told turn whole

  range : (b : ℕ) → b < length m.boards → StartInRange (clocks_at t.clocks b) p.seen.begun
  range b h =
      let l = lines b h in
      let early = turn.early in
      let row : AreInARow t.first p.seen.begun = begun_row m t.clocks t.first p.seen.begun (started_in m ts p t told) in
      range_all m t.clocks (Own m b (length rest)) (clocks_at t.clocks b) By t.first p.seen.begun l.tracked (on_small m b (length rest) (valid_at m.boards b h v.boards)) (omega (arith, early)) row l.over (starts_soon m (length m.boards) ts p)

  formed : MayHome m p.seen.begun
  formed = may_all m v ts p t told

  module _ (b : ℕ) (h : b < length m.boards) (w : IsInWhole m s.switches b (clock_of (board_at m b)) (link_of m s b) ts first (rest ++ end ∷ [])) where
    -- the lines of a board are samples
    pub sampled : Lined m v s ts p t first rest end told b (turns_behind [] w.made) By
    sampled = lined m v s ts p t first rest end told b turn w h

    -- what a board was sent
    pub homing : Homing m v s ts p t first rest end told (length p.made) b turn (turns_behind [] w.made)
    homing = homing_so m v s ts p t first rest end told (length p.made) f.ahead b f.words_left w turn h f.turns f.words front_notes (omega arith) (inr (omega arith)) (few m v s ts p end c first rest f) (lines b h) sound formed (range b h)

    -- and what it did, where it keeps up
    pub on : KeepsUp m s b ts first (rest ++ end ∷ []) p.seen.begun w
        → IsHomeBoard b s.entries By (length (rest ++ end ∷ [])) (cuts_on m t.clocks (length p.made) p.seen.begun b) (here_by m v s ts p t first rest end told (length p.made) b w)
    on keeps = boarded_by m v s ts p t first rest end told (length p.made) f.ahead b f.words_left w turn h f.turns f.words front_notes (omega arith) (inr (omega arith)) (few m v s ts p end c first rest f) (lines b h) sound formed (range b h) keeps
