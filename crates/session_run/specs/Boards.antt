-- The reactor and the boards in a whole run, turn by turn.
use Rattle.std.specs.Prelude.{◌≡◌, ℕ, ◌+◌, ◌≤◌, false, List, [], ◌∷◌, ◌++◌, Option, None, length, take}
use Rattle.plan_types.specs.declared.machine.Machine.{Machine}
use Rattle.msg_code.specs.declared.unit.Batch.{Batch}
use Rattle.msg_code.specs.declared.talk.State.{State}
use Rattle.wire_scene.specs.declared.scene.Switch.{Switch}
use Rattle.host_reactor.specs.Runs.{Came, last_reacted}
use Rattle.session_work.specs.declared.table.ReactorTurn.{ReactorTurn}
use Rattle.session_work.specs.Heads.{IsRow}

-- what came to the reactor in a turn
abbrev pub came_in : ReactorTurn → Came
came_in t = record { states = t.states; note = t.note }

-- what came in some turns, the latest first, behind what came before
abbrev pub came_from : List Came → List ReactorTurn → List Came
came_from before [] = before
came_from before (t ∷ ts) = came_from (came_in t ∷ before) ts

-- A turn of the reactor that goes on: what it orders, says and writes is what its function gives for all that came.
pub record IsReactorTurn (m : Machine) (switches : List Switch) (before : List Came) (t : ReactorTurn) : Type 0 where
  pub row : IsRow (length m.boards) (length before) t.states t.note
  pub controls_are : t.controls ≡ (last_reacted m switches (came_in t) before).ordered.controls
  pub word_is : t.word ≡ (last_reacted m switches (came_in t) before).ordered.word
  pub lines_are : t.lines ≡ (last_reacted m switches (came_in t) before).ordered.lines
  pub goes_on : (last_reacted m switches (came_in t) before).ordered.end ≡ None

-- turns of the reactor, each behind those before
abbrev pub AreReactorTurns : Machine → List Switch → List Came → List ReactorTurn → Type 0
AreReactorTurns m switches before [] = Unit {0}
AreReactorTurns m switches before (t ∷ ts) =
    IsReactorTurn m switches before t × AreReactorTurns m switches (came_in t ∷ before) ts
