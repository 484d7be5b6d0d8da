-- A run of the reactor, turn by turn.
use Rattle.std.specs.Prelude.{◌≡◌, ℕ, zero, suc, List, [], ◌∷◌, ◌++◌, length, Option, None}
use Rattle.plan_types.specs.declared.machine.Machine.{Machine}
use Rattle.msg_code.specs.declared.talk.State.{State}
use Rattle.msg_code.specs.declared.talk.Note.{Note}
use Rattle.wire_scene.specs.declared.scene.Switch.{Switch}
use Rattle.host_reactor.specs.declared.ordered.Known.{Known}
use Rattle.host_reactor.specs.Reactor.{Reacted, new_known, reacts}

-- what came in a turn: the states of the turn before, and the motion machine's note of it
pub record Came : Type 0 where
  pub states : List State
  pub note : Option Note

-- what a reactor knows as a turn begins, by what came in the turns from 0 on, of which the latest stands first
abbrev pub known_by : Machine → List Switch → List Came → Known
known_by m switches [] = new_known m
known_by m switches (c ∷ before) =
    (reacts m switches (known_by m switches before) (length before) c.states c.note).known

-- the last of these turns
abbrev pub last_reacted : Machine → List Switch → Came → List Came → Reacted
last_reacted m switches c before = reacts m switches (known_by m switches before) (length before) c.states c.note

-- none of these turns ends the run
abbrev pub GoesOn : Machine → List Switch → List Came → Type 0
GoesOn m switches [] = Unit {0}
GoesOn m switches (c ∷ before) = ((last_reacted m switches c before).ordered.end ≡ None) × GoesOn m switches before

-- in the first turn there are no states, and in each later one there is one of each board
abbrev pub HaveStates : Machine → List Came → Type 0
HaveStates m [] = Unit {0}
HaveStates m (c ∷ []) = c.states ≡ []
HaveStates m (c ∷ (d ∷ before)) = (length c.states ≡ length m.boards) × HaveStates m (d ∷ before)

-- the state of a board, where there is one
abbrev pub state_at : ℕ → List State → List State
state_at b [] = []
state_at zero (s ∷ states) = s ∷ []
state_at (suc b) (s ∷ states) = state_at b states

-- what a board told in these turns, the latest first
abbrev pub told_by : ℕ → List Came → List State
told_by b [] = []
told_by b (c ∷ before) = state_at b c.states ++ told_by b before
