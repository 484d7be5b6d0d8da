-- The clock lines that a run tells which begins no section.
use Rattle.std.proofs.Common.{◌≡◌, ◌⊎◌, ◌∙◌, List, [], ◌∷◌, ◌++◌, length, Option, None, Some, ap, refl, sym, arith, inl, inr, append-nil, length-append}
use Rattle.laws_board.proofs.Names.{flat_map-append, length-map, Cause, Machine, IsValidMachine, Scene, Told, MotionTurn, ReactorTurn, gather}
use Rattle.plan_types.specs.Sections.{first_start}
use Rattle.session_run.specs.Boards.{came_from}
use Rattle.laws_board.specs.plans.Planned.{Plans, put_of}
use Rattle.laws_run.specs.run_ends.Boards.{board_in, boards_of}
use Rattle.laws_run.proofs.run_headline.Boarded.{ready, sound_of}
use Rattle.laws_run.proofs.run_headline.Facts.{came_long}
use Rattle.laws_run.proofs.run_headline.Reporting.{told_further}
use Rattle.laws_run.proofs.run_headline.Showing.{Facts, few, told_boards}
use Rattle.laws_run.proofs.run_limits.Ticks.{board_low}
use Rattle.laws_report.proofs.reports.Unbegun.{ShowsLines}
use Rattle.laws_report.proofs.reports.Untold.{untold_none}
use Rattle.laws_run.proofs.run_headline.Drifts.{NoneDrifts}
use Rattle.laws_run.proofs.run_lines.Heads.{gather_lines}

module _ (m : Machine) (v : IsValidMachine m) (s : Scene) (ts : List MotionTurn) (p : Plans m (length m.boards) ts) (end : ReactorTurn) (c : Cause) (first : ReactorTurn) (rest : List ReactorTurn) (f : Facts m s ts (first ∷ rest) end c) where
  -- those of the boards that the planner heard
  told_lines : (t : Told) → p.seen.told ≡ Some t → ShowsLines m (gather (λ x. x.lines) (first ∷ (rest ++ end ∷ [])))
  told_lines t e =
      let r = ready m v s ts p t first rest end e f.ahead f.words_left f.turns f.words in
      let told = told_boards m v s ts p end c first rest f t e in
      let turns = first ∷ (rest ++ end ∷ []) in
      let tells = told_further m v s ts p end c first rest f t e turns [] (sym (append-nil turns)) (length turns) (omega arith) in
      let lines = λ (z : List ReactorTurn). gather (λ (x : ReactorTurn). x.lines) z in
      let cut = ap boards_of (ap lines told.are ∙ gather_lines told.past told.later) ∙ flat_map-append board_in (lines told.past) (lines told.later) ∙ ap (λ z. boards_of (lines told.past) ++ z) told.rest ∙ append-nil (boards_of (lines told.past)) ∙ told.lines in
      let start : t.first ≡ first_start (length (came_from [] r.past)) = r.first_is in
      let number = came_long [] r.past in
      let place = ap length r.are ∙ length-append r.past (r.turn ∷ r.later) in
      let made = length-map p.made put_of in
      let small = p.small in
      let many = length-append rest (end ∷ []) in
      let own = few m v s ts p end c first rest f in
      record {
        clocks = t.clocks;
        ready = t.first;
        last = length turns;
        boards = cut;
        sound = sound_of m v s ts p t first rest end e r (λ b h. f.boards b first rest h refl);
        first = tells.first;
        names = tells.named;
        further = tells.further;
        timed = λ b h. board_low m v s ts p t first rest end e r b (f.boards b first rest h refl) h;
        soon = omega (arith, start, number, place, made, small, many, own);
      }

  pub unbegun_lines : ShowsLines m (gather (λ x. x.lines) (first ∷ (rest ++ end ∷ []))) ⊎ NoneDrifts (gather (λ x. x.lines) (first ∷ (rest ++ end ∷ [])))
  unbegun_lines = by p.seen.told refl
    where
      by : (o : Option Told) → p.seen.told ≡ o → ShowsLines m (gather (λ x. x.lines) (first ∷ (rest ++ end ∷ []))) ⊎ NoneDrifts (gather (λ x. x.lines) (first ∷ (rest ++ end ∷ [])))
      by None e = inr (untold_none m v s ts p end c first rest f e)
      by (Some t) e = inl (told_lines t e)
