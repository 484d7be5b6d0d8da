-- So are those of a run that has ended.
use Rattle.std.proofs.Common.{◌≡◌, ℕ, ◌<◌, ◌≤◌, List, ◌∷◌, length, map, Some, refl}
use Rattle.laws_board.proofs.Names.{Cause, Machine, IsValidMachine, clocks_at, Scene, Told, MotionTurn, ReactorTurn}
use Rattle.laws_board.specs.causes.Short.{HaveShortDictionaries}
use Rattle.laws_board.specs.plans.Lines.{TookNotes}
use Rattle.laws_board.specs.plans.Planned.{Plans}
use Rattle.laws_run.specs.clock_ages.Renewed.{StayYoung}
use Rattle.laws_run.proofs.clock_ages.Renewing.{renewed}
use Rattle.laws_run.proofs.home_headline.Planned.{all_notes}
use Rattle.laws_run.proofs.run_headline.Facts.{Facts}

pub renews : (m : Machine) (v : IsValidMachine m) (short : HaveShortDictionaries m) (s : Scene) (ts : List MotionTurn) (p : Plans m (length m.boards) ts) (t : Told) (first : ReactorTurn) (rest : List ReactorTurn) (end : ReactorTurn) (c : Cause) → p.seen.told ≡ Some t
    → Facts m s ts (first ∷ rest) end c → TookNotes (map (λ d. d.note) p.made) (first ∷ rest) → length rest ≤ length p.made → (b : ℕ) → b < length m.boards → StayYoung m b (clocks_at t.clocks b) (length rest)
renews m v short s ts p t first rest end c told f notes low b small =
    renewed m v s ts p t first rest end told f.ahead f.words_left f.turns f.words (all_notes m p.seen.text p.seen.begun p.made first rest p.put notes) low (λ i h. f.boards i first rest h refl) short b small
