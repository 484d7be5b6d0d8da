-- Commands that find a stepper halted, up to the next one that sets its clock.
use Rattle.std.specs.Prelude.{◌≡◌, ℕ, List, [], ◌∷◌}
use Rattle.plan_types.specs.declared.plan.BoardState.TheVariants.{Running}
use Rattle.msg_code.specs.declared.cmd.Cmd.{Cmd}
use Rattle.msg_code.specs.declared.cmd.Cmd.TheVariants as cmd
use Rattle.board_sim.specs.Board.{stepper_at}
use Rattle.board_sim.specs.Fair.{Meant}
use Rattle.board_sim.specs.Rig.{Rig, takes}
use Rattle.board_sim.specs.RigRuns.{IsHalted}
use Rattle.board_world.specs.World.{Core, Step, Do, Turn, after_event, in_turn, takes_in}

-- a command doesn't set the clock of a stepper
abbrev pub SetsNot : ℕ → Cmd → Type 0
SetsNot i (cmd.ResetStepClock oid clock) = oid ≡ i → ⊥
SetsNot i c = Unit {0}

-- none of some commands sets the clock of a stepper
abbrev pub AllSetNot : ℕ → List Meant → Type 0
AllSetNot i [] = Unit {0}
AllSetNot i (m ∷ ms) = SetsNot i m.command × AllSetNot i ms

-- a command finds a stepper halted, where it holds steps of it and the board runs
abbrev pub FindsHalted : ℕ → Rig → Cmd → Type 0
FindsHalted stepper r (cmd.QueueStep oid interval count add) =
    r.controller.state ≡ Running → oid ≡ stepper → IsHalted (stepper_at r.controller stepper)
FindsHalted stepper r c = Unit {0}

-- so each of some commands that a board takes one behind the other, up to the first one that sets the clock
-- of the stepper
abbrev pub AllFindHalted : ℕ → Rig → List Meant → Type 0
AllFindHalted stepper r [] = Unit {0}
AllFindHalted stepper r (m ∷ ms) =
    FindsHalted stepper r m.command × (SetsNot stepper m.command → AllFindHalted stepper (takes r m.command).rig ms)

-- and each of those that it takes in some steps
abbrev pub StepsFindHalted : ℕ → Core → List Step → Type 0
StepsFindHalted stepper h [] = Unit {0}
StepsFindHalted stepper h (Do e ∷ steps) =
    AllFindHalted stepper h.board (takes_in h e)
    × (AllSetNot stepper (takes_in h e) → StepsFindHalted stepper (after_event h e) steps)
StepsFindHalted stepper h (Turn turn ∷ steps) = StepsFindHalted stepper (in_turn h turn) steps
