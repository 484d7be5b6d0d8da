-- What the turns of a run before its last one show, whatever ended it.
use Rattle.std.proofs.Common.{◌≡◌, ℕ, List, [], ◌∷◌, ◌++◌, length, Some, sym, subst}
use Rattle.laws_board.proofs.Names.{∥∥₁_map, Machine, IsValidMachine, Scene, Run, MotionTurn, ReactorTurn}
use Rattle.plan_types.specs.declared.cause.Cause.TheVariants as cause
use Rattle.io_core.specs.declared.traits.Files.{Ghosts as Files}
use Rattle.io_core.specs.declared.traits.Sink.{Ghosts as Sink}
use Rattle.session_lanes.specs.declared.near.Told.{Told}
use Rattle.session_run.specs.declared.tell.Kept.{Kept}
use Rattle.session_run.specs.Runs.{RunsOver}
use Rattle.laws_board.specs.plans.Planned.{Plans}
use Rattle.laws_run.specs.run_headline.Timely.{clocks_heard, ready_heard}
use Rattle.laws_run.proofs.run_headline.Cutting.{run_front}
use Rattle.laws_run.proofs.run_headline.Making.{front_made}
use Rattle.laws_run.specs.home_headline.Follow.{AllShowBegun, AllShowHomes}
use Rattle.laws_board.specs.causes.Short.{HaveShortDictionaries}
use Rattle.laws_run.specs.home_headline.Near.{AllKeepUp}
use Rattle.laws_run.proofs.home_headline.Sections.{all_begun}
use Rattle.laws_run.proofs.home_headline.Shows.{all_shows}

pub run_before : {F S : Type 0} (f : Files F) (o : Sink S) (m : Machine) (s : Scene) (name : List ℕ) (files files' : F) (out out' : S) (kept kept' : Kept) (t : Told Run) (r : RunsOver f o m s name files out kept t files' out' kept') → IsValidMachine m → (text : List ℕ)
    → f.told files name ≡ Some text → kept.at ≡ 0 → (turns : List ReactorTurn) (last : ReactorTurn) → r.runs.1 ≡ turns ++ last ∷ []
    → ∥ ((front : List MotionTurn) × (later : List MotionTurn) × (r.runs.0 ≡ front ++ later) × (length front ≡ length turns) × (p : Plans m (length m.boards) front) × (p.seen.text ≡ text)
    × AllShowBegun m p.seen (clocks_heard p.seen.told) (ready_heard p.seen.told) cause.ReadFault (turns ++ last ∷ [])
    × (HaveShortDictionaries m → AllKeepUp m s text front (turns ++ last ∷ []) → AllShowHomes m p.seen (clocks_heard p.seen.told) (ready_heard p.seen.told) cause.ReadFault (turns ++ last ∷ []))) ∥₁
run_before f o m s name files files' out out' kept kept' t r v text told at turns last cut =
    let part = run_front f o m s name files files' out out' kept kept' t r turns last cut in
    ∥∥₁_map (front_made f o m s name files files' out out' kept kept' t r text told at part.planned part.later part.are) (λ w.
    let Little : List ℕ → Type 0 = λ z. AllKeepUp m s z part.planned (turns ++ last ∷ []) in (
      part.planned,
      part.later,
      part.are,
      part.long,
      w.0,
      w.1,
      all_begun m v s part.planned w.0 last cause.ReadFault turns part.facts,
      λ short little. all_shows m v s part.planned w.0 last cause.ReadFault turns part.facts short (subst Little (sym w.1) little),
    ))
