-- What is known of a stepper and a trigger of a board by the commands that it took.
use Rattle.std.specs.Prelude.{ℕ, ◌==◌, ◌&&◌, Bool, true, false, List, [], ◌∷◌, if◌then◌else◌}
use Rattle.msg_code.specs.declared.cmd.Cmd.{Cmd}
use Rattle.msg_code.specs.declared.cmd.Cmd.TheVariants as cmd

-- no other trigger was made; the stepper was made, and the trigger; and the stepper was bound to the trigger,
-- since when that was not started anew, nor the clock of the stepper set
pub record Stage : Type 0 where
  pub sole : Bool
  pub made : Bool
  pub there : Bool
  pub bound : Bool

-- what is known before any command: no trigger was made, nor the stepper
abbrev pub no_stage : Stage
no_stage = record { sole = true; made = false; there = false; bound = false }

-- another trigger was made
abbrev pub lost_stage : Stage
lost_stage = record { sole = false; made = false; there = false; bound = false }

-- what a command makes of it
abbrev pub stage_of : ℕ → ℕ → Stage → Cmd → Stage
stage_of stepper trigger s (cmd.ConfigStepper oid step dir invert width) =
    if oid == stepper then record s { made = true } else s
stage_of stepper trigger s (cmd.ConfigTrsync oid) = if oid == trigger then record s { there = true } else lost_stage
stage_of stepper trigger s (cmd.TrsyncStart oid clock every reason) =
    if oid == trigger then record s { bound = false } else s
stage_of stepper trigger s (cmd.ResetStepClock oid clock) = if oid == stepper then record s { bound = false } else s
stage_of stepper trigger s (cmd.StepperStopOnTrigger oid other) =
    if (oid == stepper) && (other == trigger) then record s { bound = s.made && s.there } else s
stage_of stepper trigger s c = s

-- and what some commands make of it
abbrev pub stage_from : ℕ → ℕ → Stage → List Cmd → Stage
stage_from stepper trigger s [] = s
stage_from stepper trigger s (c ∷ cs) = stage_from stepper trigger (stage_of stepper trigger s c) cs
