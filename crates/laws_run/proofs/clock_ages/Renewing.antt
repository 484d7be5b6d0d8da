-- The clock lines of the boards in a whole run are renewed in time.
use Rattle.std.proofs.Common.{◌≡◌, ◌≢◌, ◌⊎◌, ℕ, ℤ, zero, suc, pos, negsuc, ◌+◌, ◌<◌, ◌≤◌, List, [], ◌∷◌, ◌++◌, length, Some, refl, sym, ◌∙◌, arith, inl, inr}
use Rattle.laws_board.proofs.Names.{length-map, Machine, clock_of, IsValidMachine, board_at, clocks_at, WordMsg, Scene, Told, MotionTurn, ReactorTurn, gather}
use Rattle.laws_board.specs.causes.Short.{HaveShortDictionaries}
use Rattle.laws_board.proofs.clocks.Lines.{as_long}
use Rattle.laws_homing.specs.home_plans.Notes.{CameNotes}
use Rattle.session_run.specs.Boards.{AreReactorTurns, came_from}
use Rattle.laws_run.specs.lanes.Boards.{IsInWhole, turns_behind}
use Rattle.laws_board.specs.orders.Renewed.{ComeInTime}
use Rattle.laws_board.specs.plans.Planned.{Plans, put_of, words_in}
use Rattle.laws_run.specs.clock_ages.Renewed.{StayYoung}
use Rattle.laws_run.specs.run_headline.Timely.{link_of}
use Rattle.laws_run.proofs.run_headline.Boarded.{Ready, ready, run_of, valid_at}
use Rattle.laws_run.proofs.run_headline.Facts.{came_long}
use Rattle.laws_run.proofs.clock_ages.Near.{last_near, words_cut}
use Rattle.laws_run.proofs.clock_ages.Running.{run_tells, words_of}
use Rattle.laws_run.proofs.clock_ages.Runs.{again, ended_soon}
use Rattle.laws_run.proofs.clock_ages.Whole.{plan_young}
use Rattle.laws_homing.proofs.clear_groups.Noted.{drift_small}

drift_or : (d : ℤ) → (d ≡ pos 0) ⊎ (d ≢ pos 0)
drift_or (pos zero) = inl refl
drift_or (pos (suc k)) = inr (λ e. cc)
drift_or (negsuc k) = inr (λ e. cc)

module _ (m : Machine) (v : IsValidMachine m) (s : Scene) (ts : List MotionTurn) (p : Plans m (length m.boards) ts) (t : Told) (first : ReactorTurn) (rest : List ReactorTurn) (end : ReactorTurn) (told : p.seen.told ≡ Some t) (n : ℕ) (left : List WordMsg)
    (turns : AreReactorTurns m s.switches [] (first ∷ rest)) (words : words_of (first ∷ rest) n ≡ gather (λ x. x.words) ts ++ left) (notes : CameNotes p.seen.begun (came_from [] (first ∷ rest))) (goes : length rest ≤ length p.made) where
  Ready_in : Ready m v s ts p t first rest end told
  Ready_in = ready m v s ts p t first rest end told n left turns words

  -- a board that drifts
  drifting : (b : ℕ) (w : IsInWhole m s.switches b (clock_of (board_at m b)) (link_of m s b) ts first (rest ++ end ∷ [])) → b < length m.boards → length (came_from [] Ready_in.past) < 2_200 → (board_at m b).drift ≢ pos 0
      → ComeInTime (board_at m b).drift (clocks_at t.clocks b).first (clocks_at t.clocks b).held (length rest + 400)
  drifting b w inside soon drifts =
      let run = run_of m v s ts p t first rest end told b w inside in
      let own = turns_behind [] w.made in
      let size = sym (as_long m s.switches b (came_from [] (first ∷ rest)) own run.both) ∙ came_long [] (first ∷ rest) in
      let small = p.small in
      let made = length-map p.made put_of in
      let repeated = λ (from : ℕ) (low : length (came_from [] Ready_in.past) < from) (high : from + 2_200 ≤ length rest).
      again m v s ts p t first rest end told Ready_in b w inside turns notes drifts n from low (omega (arith, high)) in
      let a = run_tells m v s ts p t first rest end told Ready_in b n (length rest) w inside turns soon (omega (arith, size)) (omega (arith, size, small, made, goes)) repeated in
      let cut = words_cut ts p.made p.bare (words_of (first ∷ rest) n) left p.are words in
      plan_young m (length m.boards) ts p t b (length (came_from [] Ready_in.past)) (length rest) own (words_of (first ∷ rest) n) (words_in p.bare ++ left) v told inside drifts cut a (length rest + 400) (omega (arith, size, goes)) (omega (arith, size))

  pub renewed : ((b : ℕ) → b < length m.boards → IsInWhole m s.switches b (clock_of (board_at m b)) (link_of m s b) ts first (rest ++ end ∷ [])) → HaveShortDictionaries m → (b : ℕ) → b < length m.boards → StayYoung m b (clocks_at t.clocks b) (length rest)
  renewed whole short b inside =
      let valid = valid_at m.boards b inside v.boards in
      let soon = ended_soon m v s ts p t first rest end told Ready_in whole short in (
        last_near m v s ts p t first rest end told Ready_in b n left inside words,
        elim (drift_or (board_at m b).drift) [
          | inl e ↦ inl e
          | inr d ↦ inr (drift_small (board_at m b).drift valid.drift_low valid.drift_high, drifting b (whole b inside) inside soon d)
        ],
      )
