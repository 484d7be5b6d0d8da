-- Which of some samples of a board's clock is taken.
use Rattle.std.specs.Prelude.{◌≡◌, ◌<◌, ◌≤◌, All, List, [], ◌∷◌, ◌++◌, Option, Some}
use Rattle.clock_line.specs.declared.sample.Sample.{Sample}
use Rattle.clock_line.specs.Samples.{took}
use Rattle.board_asking.specs.Asking.{best_of}

-- a sample is the first of the quickest among some: each one ahead of it took longer, and none behind it took less
pub record IsQuickest (s : Sample) (samples : List Sample) : Type 0 where
  pub ahead : List Sample
  pub behind : List Sample
  pub among : samples ≡ ahead ++ s ∷ behind
  pub longer : All (λ t. took s < took t) ahead
  pub no_less : All (λ t. took s ≤ took t) behind

-- the best sample that is kept of a board, behind some more
abbrev pub best_behind : Option Sample → List Sample → Option Sample
best_behind best [] = best
best_behind best (s ∷ samples) = best_behind (Some (best_of best s)) samples
