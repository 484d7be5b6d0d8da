use Rattle.std.proofs.Common.{◌≡◌, ◌≤◌}
use Rattle.generated_load.proofs.load_file.LoadFiles.seek.Given as goal

abbrev pub invariant-lines : goal.invariant-lines
invariant-lines l = record {
  seed : l.self.seed ≡ l.fn.self.seed;
  moves : l.self.moves ≡ l.fn.self.moves;
  before : l.self.at ≤ l.from;
}

abbrev pub decreases-lines : goal.decreases-lines
decreases-lines l = l.self.left
