use Rattle.std.proofs.Common.{◌≡◌, ◌++◌, ℕ, List, Some, length}
use Rattle.report_text.proofs.write.write_piece.Given as goal

abbrev pub invariant-loop-rest : goal.invariant-loop-rest
invariant-loop-rest g l = record {
  faults : g.S.Sink.faults l.out ≡ g.S.Sink.faults l.fn.out;
  shown : (before : List ℕ) → g.S.Sink.written l.fn.out ≡ Some before → (front : List ℕ) × (g.S.Sink.written l.out ≡ Some (before ++ front)) × (l.piece ≡ front ++ l.rest);
}

abbrev pub decreases-loop-rest : goal.decreases-loop-rest
decreases-loop-rest g l = length l.rest
