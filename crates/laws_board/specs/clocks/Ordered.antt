-- What the reactor orders of a board in the turns of a run.
use Rattle.std.specs.Prelude.{ℕ, ◌+◌, ◌≤◌, ◌==◌, Bool, true, false, List, [], ◌∷◌, ◌++◌, Option, Some, None, if◌then◌else◌}
use Rattle.msg_code.specs.declared.cmd.Cmd.{Cmd}
use Rattle.msg_code.specs.declared.cmd.Cmd.TheVariants as cmd
use Rattle.axis_homing.specs.declared.homing.Homing.{Homing}
use Rattle.laws_board.specs.turns.Turns.{BoardTurn}

-- a homing section sets the clocks of its steppers in a turn: 254 to 252 turns before its start
abbrev pub SetsClocks : Option Homing → ℕ → Type 0
SetsClocks None turn = ⊥
SetsClocks (Some h) turn = (turn + 252 ≤ h.group.start) × (h.group.start ≤ turn + 254)

-- a homing section was begun, and has not answered yet
abbrev pub IsHoming : Option Homing → Type 0
IsHoming None = ⊥
IsHoming (Some h) = Unit {0}

-- the reactor may order a command in a turn: no steps and no direction of a stepper, the clock of a stepper
-- only where a homing section sets it, and a stepper is bound to a trigger only while a board homes
abbrev pub MayOrder : Option Homing → ℕ → Cmd → Type 0
MayOrder h turn (cmd.QueueStep oid interval count add) = ⊥
MayOrder h turn (cmd.SetNextStepDir oid dir) = ⊥
MayOrder h turn (cmd.ResetStepClock oid clock) = SetsClocks h turn
MayOrder h turn (cmd.StepperStopOnTrigger oid trigger) = IsHoming h
MayOrder h turn c = Unit {0}

-- a command configures a board
abbrev pub configures : Cmd → Bool
configures (cmd.AllocateOids count) = true
configures (cmd.ConfigStepper oid step dir invert width) = true
configures (cmd.ConfigTrsync oid) = true
configures (cmd.ConfigEndstop oid pin pull) = true
configures (cmd.FinalizeConfig crc) = true
configures c = false

-- what the controls of some turns hold, in order
abbrev pub commands_in : List BoardTurn → List Cmd
commands_in [] = []
commands_in (t ∷ before) = commands_in before ++ t.control.commands

-- a command makes the stepper of an object id
abbrev pub makes : ℕ → Cmd → Bool
makes oid (cmd.ConfigStepper other step dir invert width) = other == oid
makes oid c = false

-- how often some commands make the stepper of an object id
abbrev pub times_made : ℕ → List Cmd → ℕ
times_made oid [] = 0
times_made oid (c ∷ cs) = (if makes oid c then 1 else 0) + times_made oid cs
