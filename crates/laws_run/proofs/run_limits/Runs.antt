-- Whatever threads a run went in, its lines keep their limits.
use Rattle.std.proofs.Common.{◌≡◌, ◌≢◌, ℕ, List, [], ◌∷◌, ◌++◌, length, Some, refl, sym, subst}
use Rattle.laws_board.proofs.Names.{∥∥₁_map, Cause, Machine, IsValidMachine, Scene, Run, ReactorTurn, gather}
use Rattle.plan_types.specs.declared.cause.Cause.TheVariants as cause
use Rattle.io_core.specs.declared.traits.Files.{Ghosts as Files}
use Rattle.io_core.specs.declared.traits.Sink.{Ghosts as Sink}
use Rattle.gcode_program.specs.Programs.{program_sections}
use Rattle.session_lanes.specs.declared.near.Told.{Told}
use Rattle.session_run.specs.declared.tell.Kept.{Kept}
use Rattle.session_run.specs.Runs.{RunsOver}
use Rattle.laws_board.specs.plans.Planned.{Plans}
use Rattle.laws_run.specs.run_ends.Ends.{GoesThrough}
use Rattle.laws_run.specs.run_headline.Timely.{clocks_heard, ready_heard}
use Rattle.laws_run.specs.home_headline.Follow.{AllShowBegun}
use Rattle.laws_run.proofs.home_headline.Sections.{run_begins}
use Rattle.laws_run.proofs.run_headline.Runs.{facts}
use Rattle.laws_run.proofs.run_headline.Showing.{Facts}
use Rattle.laws_run.specs.run_limits.Limits.{AreLow}
use Rattle.laws_run.proofs.run_limits.Keeping.{none_alone, run_low}

-- a run that went through did not end for want of memory
pub in_memory : (c : Cause) → GoesThrough c → c ≡ cause.Memory → ⊥
in_memory cause.Done g e = cc
in_memory (cause.Line line kind) g e = cc
in_memory (cause.Asked line) g e = cc
in_memory c g e = absurd g

module _ {F S : Type 0} (f : Files F) (o : Sink S) (m : Machine) (s : Scene) (name : List ℕ) (files files' : F) (out out' : S) (kept kept' : Kept) (t : Told Run) (r : RunsOver f o m s name files out kept t files' out' kept') where
  limits : (v : IsValidMachine m) (rs : List ReactorTurn) (p : Plans m (length m.boards) r.runs.0) → rs ≡ r.runs.1 → AllShowBegun m p.seen (clocks_heard p.seen.told) (ready_heard p.seen.told) t.cause (rs ++ r.runs.2 ∷ [])
      → program_sections m p.seen.text ≢ [] → GoesThrough t.cause → AreLow (gather (λ t. t.lines) (rs ++ r.runs.2 ∷ []))
  limits v [] p e shows some through = absurd (none_alone m v s r.runs.0 p r.runs.2 t.cause through some shows)
  limits v (first ∷ rest) p e shows some through =
      let Of : List ReactorTurn → Type 0 = λ z. Facts m s r.runs.0 z r.runs.2 t.cause in
      run_low m v s r.runs.0 p r.runs.2 t.cause through some first rest (subst Of (sym e) (facts f o m s name files files' out out' kept kept' t r (in_memory t.cause through))) shows

  pub run_limits : IsValidMachine m → (text : List ℕ) → f.told files name ≡ Some text → kept.at ≡ 0 → program_sections m text ≢ [] → GoesThrough t.cause → ∥ AreLow (gather (λ t. t.lines) (r.runs.1 ++ r.runs.2 ∷ [])) ∥₁
  run_limits v text told at some through =
      ∥∥₁_map (run_begins f o m s name files files' out out' kept kept' t r v text told at) (λ w.
      let Some_in : List ℕ → Type 0 = λ z. program_sections m z ≢ [] in
      limits v r.runs.1 w.0.plans refl (w.2 (in_memory t.cause through)) (subst Some_in (sym w.1) some) through)
