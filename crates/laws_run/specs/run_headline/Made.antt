-- The turns of a whole run.
use Rattle.std.specs.Prelude.{◌≡◌, ◌⊎◌, ◌<◌, List, [], ◌∷◌, ◌++◌, length}
use Rattle.plan_types.specs.declared.machine.Machine.{Machine}
use Rattle.plan_types.specs.declared.cause.Cause.{Cause}
use Rattle.msg_code.specs.declared.talk.Note.{Note}
use Rattle.host_reactor.specs.Notes.{noted}
use Rattle.host_reactor.specs.Runs.{known_by}
use Rattle.wire_scene.specs.declared.scene.Scene.{Scene}
use Rattle.session_work.specs.declared.table.MotionTurn.{MotionTurn}
use Rattle.session_work.specs.declared.table.ReactorTurn.{ReactorTurn}
use Rattle.session_work.specs.Rows.{gather, option_items}
use Rattle.session_run.specs.Boards.{AreReactorTurns, came_from}
use Rattle.laws_board.specs.plans.Planned.{Plans}
use Rattle.laws_run.specs.run_ends.Ends.{EndsSo, order}

-- Turns of the planner and of the reactor in a run of a machine in a scene: those of the planner are told by
-- what it has seen, those of the reactor are those of its function, and it took the notes that the planner
-- made, in order.
pub record IsMade (m : Machine) (s : Scene) (ts : List MotionTurn) (rs : List ReactorTurn) : Type 0 where
  pub plans : Plans m (length m.boards) ts
  pub turns : AreReactorTurns m s.switches [] rs
  pub left : List Note
  pub notes : gather (λ t. t.note ∷ []) ts ≡ gather (λ t. option_items t.note) rs ++ left

-- A cause is so in a turn of the reactor, behind these turns: behind the note that came in it, by all that
-- came before, and by the states of the boards that came in it.
abbrev pub IsSo : Machine → Scene → List ReactorTurn → ReactorTurn → Cause → Type 0
IsSo m s rs turn c =
    EndsSo m (noted m turn.note (known_by m s.switches (came_from [] rs))) (length (came_from [] rs)) turn.states c

-- A run ended for a cause that is so in the last turn of the reactor; of all that are so in it, for the first
-- in their order.
pub record IsNamed (m : Machine) (s : Scene) (rs : List ReactorTurn) (end : ReactorTurn) (c : Cause) : Type 0 where
  pub so : IsSo m s rs end c
  pub first : (d : Cause) → IsSo m s rs end d → (d ≡ c) ⊎ (order c < order d)

-- in none of these turns of the reactor was any cause so
abbrev pub NoneSo : Machine → Scene → List ReactorTurn → Type 0
NoneSo m s rs =
    (past : List ReactorTurn) (turn : ReactorTurn) (later : List ReactorTurn) → rs ≡ past ++ turn ∷ later →
    (c : Cause) → IsSo m s past turn c → ⊥
