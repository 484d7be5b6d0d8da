-- When the moves of a section end.
use Rattle.std.specs.Prelude.{ℕ, ◌+◌, List, [], ◌∷◌}
use Rattle.plan_types.specs.declared.plan.Move.{Move}
use Rattle.plan_types.specs.Parts.{parts}
use Rattle.plan_types.specs.Sections.{duration}

-- when each of some moves ends that run one behind the other, between the squared speeds at their junctions
abbrev pub move_ends : ℕ → List Move → List ℕ → ℕ → List ℕ
move_ends cruise [] speeds begin = []
move_ends cruise (m ∷ ms) [] begin = []
move_ends cruise (m ∷ ms) (g ∷ []) begin = []
move_ends cruise (m ∷ ms) (g ∷ h ∷ speeds) begin =
    (begin + duration (parts m g h cruise)) ∷ move_ends cruise ms (h ∷ speeds) (begin + duration (parts m g h cruise))
