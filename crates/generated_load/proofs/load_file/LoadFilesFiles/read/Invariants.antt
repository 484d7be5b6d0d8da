use Rattle.std.proofs.Common.{◌≡◌, ◌-◌, length}
use Rattle.generated_load.specs.Text.{load_text}
use Rattle.generated_load.specs.Places.{IsPieceRead}
use Rattle.generated_load.proofs.load_file.LoadFilesFiles.read.Given as goal

abbrev pub invariant-lines : goal.invariant-lines
invariant-lines l = record {
  seed : l.self.seed ≡ l.fn.self.seed;
  moves : l.self.moves ≡ l.fn.self.moves;
  read : IsPieceRead (load_text l.fn.self.seed l.fn.self.moves) l.from l.fn.into l.count l.into;
}

abbrev pub decreases-lines : goal.decreases-lines
decreases-lines l = length l.into - l.count
