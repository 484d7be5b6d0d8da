-- The clock lines of a run are sound, and told by its lines.
use Rattle.std.proofs.Common.{◌≡◌, ℕ, ◌+◌, List, [], ◌∷◌, ◌++◌, length, Some, refl, sym, arith, append-nil, length-append}
use Rattle.laws_board.proofs.Names.{Cause, Machine, IsValidMachine, Scene, Run, Told, MotionTurn, ReactorTurn, gather}
use Rattle.plan_types.specs.declared.cause.Cause.TheVariants as cause
use Rattle.io_core.specs.declared.traits.Files.{Ghosts as Files}
use Rattle.io_core.specs.declared.traits.Sink.{Ghosts as Sink}
use Rattle.session_lanes.specs.declared.near.Told as near
use Rattle.session_run.specs.declared.tell.Kept.{Kept}
use Rattle.session_run.specs.Runs.{RunsOver}
use Rattle.laws_board.specs.plans.Planned.{Plans}
use Rattle.laws_run.specs.run_headline.Further.{TellFurther}
use Rattle.laws_run.specs.run_headline.Made.{IsMade}
use Rattle.laws_run.specs.run_headline.Timely.{AreSound, TellBoards}
use Rattle.laws_run.proofs.run_headline.Boarded.{ready, sound_of}
use Rattle.laws_run.proofs.run_headline.Reporting.{told_further}
use Rattle.laws_run.proofs.run_headline.Runs.{facts}
use Rattle.laws_run.proofs.run_headline.Showing.{Facts, none_told, told_boards}

sound : (m : Machine) (v : IsValidMachine m) (s : Scene) (ts : List MotionTurn) (p : Plans m (length m.boards) ts) (t : Told) (end : ReactorTurn) (c : Cause) (rs : List ReactorTurn) → p.seen.told ≡ Some t → Facts m s ts rs end c
    → AreSound m t.clocks t.first × TellBoards t.clocks t.first (rs ++ end ∷ []) × TellFurther m t.clocks (length rs + 271) (gather (λ t. t.lines) (rs ++ end ∷ []))
sound m v s ts p t end c [] told f = absurd (none_told m v s ts p end c t told f)
sound m v s ts p t end c (first ∷ rest) told f =
    let r = ready m v s ts p t first rest end told f.ahead f.words_left f.turns f.words in
    let size = length-append rest (end ∷ []) in
    let turns = first ∷ (rest ++ end ∷ []) in (
      sound_of m v s ts p t first rest end told r (λ b h. f.boards b first rest h refl),
      told_boards m v s ts p end c first rest f t told,
      told_further m v s ts p end c first rest f t told turns [] (sym (append-nil turns)) (length (first ∷ rest) + 271) (omega (arith, size)),
    )

pub run_sound : {F S : Type 0} (f : Files F) (o : Sink S) (m : Machine) (s : Scene) (name : List ℕ) (files files' : F) (out out' : S) (kept kept' : Kept) (t : near.Told Run) (r : RunsOver f o m s name files out kept t files' out' kept') → IsValidMachine m
    → (t.cause ≡ cause.Memory → ⊥) → (made : IsMade m s r.runs.0 r.runs.1) → (heard : Told) → made.plans.seen.told ≡ Some heard
    → AreSound m heard.clocks heard.first × TellBoards heard.clocks heard.first (r.runs.1 ++ r.runs.2 ∷ []) × TellFurther m heard.clocks (length r.runs.1 + 271) (gather (λ t. t.lines) (r.runs.1 ++ r.runs.2 ∷ []))
run_sound f o m s name files files' out out' kept kept' t r v other made heard told =
    sound m v s r.runs.0 made.plans heard r.runs.2 t.cause r.runs.1 told (facts f o m s name files files' out out' kept kept' t r other)
