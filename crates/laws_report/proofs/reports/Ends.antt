-- A section doesn't end before it starts.
use Rattle.std.proofs.Common.{ℕ, ◌+◌, ◌*◌, ◌≤◌, List, [], ◌∷◌, arith}
use Rattle.std.proofs.lemmas.Nat.{le-div}
use Rattle.laws_board.proofs.Names.{Machine, Move, turn_ns, Clocks}
use Rattle.plan_types.specs.Parts.{parts}
use Rattle.plan_types.specs.Sections.{duration, end_time, section_end}
use Rattle.plan_types.specs.Speeds.{greatest_speeds}
use Rattle.motion_work.proofs.Turning.{end_after}

end_time-after : (cruise : ℕ) (moves : List Move) (speeds : List ℕ) (begin : ℕ) → begin ≤ end_time cruise moves speeds begin
end_time-after cruise [] speeds begin = omega arith
end_time-after cruise (m ∷ ms) [] begin = omega arith
end_time-after cruise (m ∷ ms) (g ∷ []) begin = omega arith
end_time-after cruise (m ∷ ms) (g ∷ h ∷ speeds) begin = let later = end_time-after cruise ms (h ∷ speeds) (begin + duration (parts m g h cruise)) in omega arith
