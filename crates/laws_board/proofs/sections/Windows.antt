-- The pulses of a turn lie within it.
use Rattle.std.proofs.Common.{◌≡◌, ℕ, ◌+◌, List, [], ◌∷◌, ◌++◌, refl, ◌∙◌, append-nil, rules}
use Rattle.laws_board.proofs.Names.{Pulse, only, Core, Step, Do, Turn, world_after, run_world}
use Rattle.board_world.specs.declared.event.Event.TheVariants.{Put, Control, Pass}
use Rattle.laws_board.specs.sections.Events.{QueuesNothing, AreQuiet}
use Rattle.laws_board.proofs.sections.Passes.{AreBetween}

-- quiet steps make no pulses
quiet_made_one : (h : Core) (s : Step) → QueuesNothing s → (world_after h s).made ≡ h.made
quiet_made_one h s p2 = search (rules, append-nil)

pub quiet_made : (steps : List Step) (h : Core) → AreQuiet steps → (run_world steps h).made ≡ h.made
quiet_made [] h q = refl
quiet_made (s ∷ steps) h q = quiet_made steps (world_after h s) q.1 ∙ quiet_made_one h s q.0

-- new pulses, of every stepper within a window
abbrev pub Makes : ℕ → ℕ → List Pulse → List Pulse → Type 0
Makes low high before after = (new : List Pulse) × (after ≡ before ++ new) × ((oid : ℕ) → AreBetween low high (only oid new))
