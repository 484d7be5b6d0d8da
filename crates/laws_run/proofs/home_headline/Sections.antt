-- Which sections have their line in a whole run, whatever its links hold.
use Rattle.std.proofs.Common.{◌≡◌, ℕ, List, [], ◌∷◌, ◌++◌, length, Some, refl, arith}
use Rattle.laws_board.proofs.Names.{∥∥₁_map, Cause, Machine, IsValidMachine, Scene, Run, MotionTurn, ReactorTurn}
use Rattle.plan_types.specs.declared.cause.Cause.TheVariants as cause
use Rattle.io_core.specs.declared.traits.Files.{Ghosts as Files}
use Rattle.io_core.specs.declared.traits.Sink.{Ghosts as Sink}
use Rattle.session_lanes.specs.declared.near.Told as near
use Rattle.session_run.specs.declared.tell.Kept.{Kept}
use Rattle.session_run.specs.Runs.{RunsOver}
use Rattle.laws_board.specs.plans.Planned.{Plans}
use Rattle.laws_board.proofs.plans.Spreading.{plans_spread}
use Rattle.laws_board.proofs.plans.Telling.{all_tell}
use Rattle.laws_run.proofs.run_ends.Ending.{own_cause}
use Rattle.laws_run.specs.run_headline.Made.{IsMade}
use Rattle.laws_run.specs.run_headline.Timely.{clocks_heard, ready_heard}
use Rattle.laws_run.proofs.run_headline.Joining.{of_sections, row_none}
use Rattle.laws_run.proofs.run_headline.Making.{run_made}
use Rattle.laws_run.proofs.run_headline.Runs.{facts}
use Rattle.laws_run.proofs.run_headline.Showing.{Facts, all_lines, alone_ends, boards_told, counts_so, further_by, lines_all, long_own, sound_by, started, through_long, untold_alone}
use Rattle.laws_run.specs.home_headline.Follow.{AllShowBegun, ShowBegun}

module _ (m : Machine) (v : IsValidMachine m) (s : Scene) (ts : List MotionTurn) (p : Plans m (length m.boards) ts) (end : ReactorTurn) (c : Cause) where
  module _ (first : ReactorTurn) (rest : List ReactorTurn) (f : Facts m s ts (first ∷ rest) end c) where
    shows_some : ShowBegun m p.seen (clocks_heard p.seen.told) (ready_heard p.seen.told) c first (rest ++ end ∷ [])
    shows_some =
        let starts = started m v s ts p end c p.seen.told refl in
        record {
          of_text = of_sections m ts p;
          late = starts.0;
          started = starts.1;
          boards = boards_told m v s ts p end c first rest f p.seen.told refl;
          lines = all_lines m v s ts p end c first rest f;
          through = λ g. through_long m v s ts p end c first rest f g (long_own m v s ts p end c first rest f (own_cause c g));
          counts = λ g. counts_so m v s ts p end c first rest f g (long_own m v s ts p end c first rest f (own_cause c g));
          sound = sound_by m v s ts p end c first rest f p.seen.told refl;
          further = further_by m v s ts p end c first rest f p.seen.told refl;
        }

  -- a run of one turn
  shows_one : Facts m s ts [] end c → ShowBegun m p.seen (clocks_heard p.seen.told) (ready_heard p.seen.told) c end []
  shows_one f =
      let starts = started m v s ts p end c p.seen.told refl in
      record {
        of_text = of_sections m ts p;
        late = starts.0;
        started = starts.1;
        boards = λ some. absurd (untold_alone m v s ts p end c p.seen.told refl f some);
        lines = all_tell m s.switches p.seen.text p.seen.begun 260 p.made (end ∷ []) (plans_spread m (length m.boards) ts p) (omega arith) p.put (row_none (length m.boards) end f.row, tt) (lines_all m s.switches [] [] end tt (f.known, f.begun, f.lines_are));
        through = λ g. absurd (alone_ends m v s ts p end c f g);
        counts = λ g. absurd (alone_ends m v s ts p end c f g);
        sound = λ some. absurd (untold_alone m v s ts p end c p.seen.told refl f some);
        further = λ some. absurd (untold_alone m v s ts p end c p.seen.told refl f some);
      }

  pub all_begun : (rs : List ReactorTurn) → Facts m s ts rs end c → AllShowBegun m p.seen (clocks_heard p.seen.told) (ready_heard p.seen.told) c (rs ++ end ∷ [])
  all_begun [] f = shows_one f
  all_begun (first ∷ rest) f = shows_some first rest f

pub run_begins : {F S : Type 0} (f : Files F) (o : Sink S) (m : Machine) (s : Scene) (name : List ℕ) (files files' : F) (out out' : S) (kept kept' : Kept) (t : near.Told Run) (r : RunsOver f o m s name files out kept t files' out' kept') → IsValidMachine m → (text : List ℕ)
    → f.told files name ≡ Some text → kept.at ≡ 0 → ∥ ((made : IsMade m s r.runs.0 r.runs.1) × (made.plans.seen.text ≡ text)
    × ((t.cause ≡ cause.Memory → ⊥) → AllShowBegun m made.plans.seen (clocks_heard made.plans.seen.told) (ready_heard made.plans.seen.told) t.cause (r.runs.1 ++ r.runs.2 ∷ []))) ∥₁
run_begins f o m s name files files' out out' kept kept' t r v text told at =
    ∥∥₁_map (run_made f o m s name files files' out out' kept kept' t r text told at) (λ w.
    let made = w.0 in
    (made, w.1, λ other. all_begun m v s r.runs.0 made.plans r.runs.2 t.cause r.runs.1 (facts f o m s name files files' out out' kept kept' t r other)))
