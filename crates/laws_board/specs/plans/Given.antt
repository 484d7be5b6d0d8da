-- What a board is given in the turns of a run.
use Rattle.std.specs.Prelude.{◌≡◌, ℕ, ◌<◌, All, List, [], ◌∷◌, ◌++◌, map}
use Rattle.msg_code.specs.declared.unit.Batch.{Batch}
use Rattle.section_units.specs.Sections.{BoardSection}
use Rattle.link_work.specs.Turn.{Orders}
use Rattle.laws_board.specs.sections.Parts.{IsControl}
use Rattle.session_work.specs.declared.table.MotionTurn.{MotionTurn}
use Rattle.session_work.specs.Rows.{gather, item}

-- the batches that a board took are the first ones that the planner put for it
abbrev pub TookBatches : ℕ → List MotionTurn → List Orders → Type 0
TookBatches b ts os = (rest : List Batch) × (map (λ o. o.batch) os ++ rest ≡ gather (λ t. item b t.batches) ts)

-- its controls are those of a run of moves
abbrev pub TookControls : List Orders → Type 0
TookControls [] = Unit {0}
TookControls (o ∷ os) = All IsControl o.control.commands × TookControls os

-- these sections end before a turn
abbrev pub EndBefore : ℕ → List BoardSection → Type 0
EndBefore until [] = Unit {0}
EndBefore until (s ∷ ss) = (s.end < until) × EndBefore until ss
