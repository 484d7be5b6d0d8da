-- A board that took no step of a stepper since a homing section was begun.
use Rattle.std.specs.Prelude.{◌≡◌, ◌<◌, ◌≤◌, ℕ, List, [], ◌∷◌, ◌++◌, length}
use Rattle.msg_code.specs.declared.cmd.Cmd.{Cmd}
use Rattle.msg_code.specs.declared.cmd.Cmd.TheVariants as cmd
use Rattle.msg_code.specs.declared.unit.Unit.{Unit as StepUnit}
use Rattle.board_sim.specs.Fair.{Meant}
use Rattle.link_work.specs.Turn.{LinkState}
use Rattle.laws_board.specs.turns.Turns.{BoardTurn, stands_after}
use Rattle.laws_homing.specs.home_runs.Sections.{queued_in_turns}

-- a command holds no step of a stepper
abbrev pub StepsNot : ℕ → Cmd → Type 0
StepsNot stepper (cmd.QueueStep oid interval count add) = oid ≡ stepper → ⊥
StepsNot stepper c = Unit {0}

-- none of some commands holds a step of a stepper
abbrev pub AllStepNot : ℕ → List Meant → Type 0
AllStepNot stepper [] = Unit {0}
AllStepNot stepper (m ∷ ms) = StepsNot stepper m.command × AllStepNot stepper ms

-- no unit is of a stepper
abbrev pub MoveNone : ℕ → List StepUnit → Type 0
MoveNone oid [] = Unit {0}
MoveNone oid (u ∷ us) = (u.stepper ≡ oid → ⊥) × MoveNone oid us

-- nor is any in some turns from a number on and before another one
abbrev pub MoveNoneIn : ℕ → ℕ → ℕ → List BoardTurn → Type 0
MoveNoneIn oid from to [] = Unit {0}
MoveNoneIn oid from to (t ∷ before) =
    (from ≤ length before → length before < to → MoveNone oid t.batch.units) × MoveNoneIn oid from to before

-- of what was queued from a turn on a board took no step of a stepper
pub record TookNone (oid from : ℕ) (first : LinkState) (turns : List BoardTurn) : Type 0 where
  pub later : List BoardTurn
  pub early : List BoardTurn
  pub are : turns ≡ later ++ early
  pub long : length early ≡ from
  pub more : List Meant
  pub took : (stands_after first turns).core.taken ≡ queued_in_turns early ++ more
  pub none : AllStepNot oid more
