-- The ticks of the units that a board took.
use Rattle.std.specs.Prelude.{◌≡◌, ℕ, ◌==◌, false, List, [], ◌∷◌, ◌++◌, map, Option, Some, None, if◌then◌else◌}
use Rattle.plan_types.specs.declared.plan.BoardState.{BoardState}
use Rattle.plan_types.specs.declared.plan.BoardState.TheVariants.{Running, Shut}
use Rattle.plan_types.specs.declared.plan.Pulse.{Pulse}
use Rattle.board_step.specs.Steps.{Pending}
use Rattle.msg_code.specs.declared.cmd.Cmd.{Cmd}
use Rattle.msg_code.specs.declared.cmd.Cmd.TheVariants as cmd
use Rattle.board_sim.specs.Board.{Controller, stepper_at}
use Rattle.board_sim.specs.Rig.{Rig, takes}
use Rattle.board_sim.specs.Halted.{is_halted}
use Rattle.board_sim.specs.Fair.{Meant, only}
use Rattle.board_world.specs.World.{Core, Step, Do, Turn, takes_in, world_after}

-- the ticks that a command means for a stepper, and those of some commands, in order
abbrev pub ticks_for : ℕ → Cmd → List ℕ → List ℕ
ticks_for oid (cmd.QueueStep other interval count add) ticks = if other == oid then ticks else []
ticks_for oid _ ticks = []

-- those of some commands, in order
abbrev pub ticks_of : ℕ → List Meant → List ℕ
ticks_of oid [] = []
ticks_of oid (m ∷ ms) = ticks_for oid m.command m.ticks ++ ticks_of oid ms

-- the ticks of a stepper's pulses
abbrev pub pulse_ticks : ℕ → List Pulse → List ℕ
pulse_ticks oid ps = map (λ p. p.tick) (only oid ps)

-- the stepper was made, and isn't halted
abbrev pub IsMade : Option Pending → Type 0
IsMade None = ⊥
IsMade (Some q) = q.halted ≡ false

-- a command for steps finds its stepper, and one that sets a clock finds none that is halted
abbrev pub FindsStepper : Controller → Cmd → Type 0
FindsStepper b (cmd.QueueStep oid interval count add) = IsMade (stepper_at b oid)
FindsStepper b (cmd.ResetStepClock oid clock) = is_halted (stepper_at b oid) ≡ false
FindsStepper b _ = Unit {0}

-- the same, of a board that runs; of one that is shut down nothing is asked
abbrev pub FindsWhile : BoardState → Controller → Cmd → Type 0
FindsWhile Running b c = FindsStepper b c
FindsWhile (Shut reason tick first) b c = Unit {0}

-- each of some commands for steps finds its stepper, when it is taken
abbrev pub FindSteppers : Rig → List Meant → Type 0
FindSteppers r [] = Unit {0}
FindSteppers r (m ∷ ms) = FindsWhile r.controller.state r.controller m.command × FindSteppers (takes r m.command).rig ms

-- so the commands that a board takes in one step of a run
abbrev pub FindsAt : Core → Step → Type 0
FindsAt h (Do e) = FindSteppers h.board (takes_in h e)
FindsAt h (Turn turn) = Unit {0}

-- each unit is taken after its stepper was made, and neither it nor a reset while that is halted
abbrev pub AllFind : Core → List Step → Type 0
AllFind h [] = Unit {0}
AllFind h (s ∷ steps) = FindsAt h s × AllFind (world_after h s) steps
