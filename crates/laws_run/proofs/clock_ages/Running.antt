-- What the words of a whole run tell of a board's clock.
use Rattle.std.proofs.Common.{◌≡◌, ℕ, ◌+◌, ◌^◌, ◌<◌, ◌≤◌, List, [], ◌∷◌, ◌++◌, length, Some, refl, sym, ◌∙◌, subst}
use Rattle.laws_board.proofs.Names.{Machine, clock_of, IsValidMachine, board_at, clocks_at, WordMsg, Scene, pins_of, Connecting, Told, MotionTurn, ReactorTurn, gather}
use Rattle.host_reactor.specs.declared.ordered.Phase.TheVariants.{Running}
use Rattle.session_work.specs.Leads.{last_words}
use Rattle.session_run.specs.Boards.{AreReactorTurns, came_from}
use Rattle.laws_run.specs.lanes.Boards.{IsInWhole, turns_behind}
use Rattle.laws_board.specs.plans.Planned.{Plans}
use Rattle.laws_run.proofs.clock_ages.Saying.{TellFirst, TellsAgain, TellsIn}
use Rattle.laws_run.specs.run_headline.Timely.{link_of}
use Rattle.laws_run.proofs.run_headline.Boarded.{Ready, lined, run_of}
use Rattle.laws_run.proofs.clock_ages.Telling.{first_both, last_first, last_new, new_both, words_first, words_new}

-- the words of the reactor in a run, behind whose turns it led by some more
abbrev pub words_of : List ReactorTurn → ℕ → List WordMsg
words_of rs n = gather (λ t. t.word ∷ []) rs ++ last_words (length rs) n

module _ (m : Machine) (v : IsValidMachine m) (s : Scene) (ts : List MotionTurn) (p : Plans m (length m.boards) ts) (t : Told) (first : ReactorTurn) (rest : List ReactorTurn) (end : ReactorTurn) (told : p.seen.told ≡ Some t) (r : Ready m v s ts p t first rest end told) where
  -- the turn in which connecting ended
  abbrev pub Ended : ℕ
  Ended = length (came_from [] r.past)

  pub run_tells : (b n running : ℕ) (w : IsInWhole m s.switches b (clock_of (board_at m b)) (link_of m s b) ts first (rest ++ end ∷ [])) → b < length m.boards → AreReactorTurns m s.switches [] (first ∷ rest) → Ended < 2_200
      → length (turns_behind [] w.made) ≤ running + 3 → length (turns_behind [] w.made) ≤ 2 ^ 43
      → ((from : ℕ) → Ended < from → from + 2_200 ≤ running → TellsIn b from (from + 2_200) 0 (words_of (first ∷ rest) n))
      → TellsAgain m b Ended running (turns_behind [] w.made) (words_of (first ∷ rest) n) (clocks_at t.clocks b).first
  run_tells b n running w inside turns soon long few again =
      let clock = clock_of (board_at m b) in
      let pins = pins_of (board_at m b) b s.switches in
      let own = turns_behind [] w.made in
      let put = gather (λ (x : ReactorTurn). x.word ∷ []) (first ∷ rest) in
      let last = last_words (length (first ∷ rest)) n in
      let k = 0 + length put in
      let line = (lined m v s ts p t first rest end told b r w inside).line in
      let parts = subst (AreReactorTurns m s.switches []) r.are turns in
      let firsts = words_first m v s.switches pins s.entries b own Ended 0 [] r.past r.turn r.later refl refl parts r.is.phase (λ e. let f : Running ≡ Connecting = sym r.is.then ∙ e in cc) in
      record {
        soon = soon;
        alone = first_both m Ended 0 k put last refl (subst (λ (rs : List ReactorTurn). TellFirst m Ended 0 (gather (λ x. x.word ∷ []) rs)) (sym r.are) firsts) (last_first m Ended k (length (first ∷ rest) + n) (length (first ∷ rest)) n);
        first_sampled = line.sampled;
        first_early = line.early;
        lines = new_both clock own b 0 k put last refl (words_new m v s.switches pins s.entries b own 0 [] (first ∷ rest) refl (run_of m v s ts p t first rest end told b w inside) turns) (last_new clock own b k (length (first ∷ rest) + n) (length (first ∷ rest)) n);
        again = again;
        long = long;
        few = few;
      }
