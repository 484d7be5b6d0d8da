-- Why a board is shut down.
use Rattle.std.specs.Prelude.{◌≡◌, ◌≢◌, ℕ, ◌<◌, ◌≤◌, ◌⊎◌, List, [], ◌∷◌, ◌++◌, length, Option, Some, None, false}
use Rattle.plan_types.specs.declared.plan.BoardState.TheVariants.{Running}
use Rattle.plan_types.specs.declared.plan.Triple.{Triple}
use Rattle.board_step.specs.Steps.{Pending}
use Rattle.msg_code.specs.declared.cmd.Cmd.{Cmd}
use Rattle.msg_code.specs.declared.cmd.Cmd.TheVariants as cmd
use Rattle.board_sim.specs.Rig.{Rig, takes_all}
use Rattle.board_sim.specs.Board.{Controller, stepper_at, first_of, timer_too_close, queue_overflow, stepper_active, zero_count, command_request}
use Rattle.board_sim.specs.Fair.{Meant, commands_of}
use Rattle.board_world.specs.World.{Core, Step, Do, Turn, takes_in, world_after}

-- a stepper that isn't halted refuses a triple: it has no steps; or the queue is full; or no step pends, and its first
-- step is before now
abbrev pub IsRefused : ℕ → Option Pending → Triple → ℕ → ℕ → Type 0
IsRefused now None t reason first = ⊥
IsRefused now (Some q) t reason first =
    (q.halted ≡ false)
    × (((reason ≡ zero_count) × (t.count ≡ 0)) ⊎ (((reason ≡ queue_overflow) × (q.slots ≤ length q.groups))
    ⊎ ((reason ≡ timer_too_close) × (q.groups ≡ []) × (first ≡ first_of now q t) × (first < now))))

-- a stepper with steps that pend
abbrev pub HasSteps : Option Pending → Type 0
HasSteps None = ⊥
HasSteps (Some q) = q.groups ≢ []

-- a command shuts a board down for this reason: steps that are refused, a clock that is set while steps pend,
-- or the order
abbrev pub Shuts : Controller → Cmd → ℕ → ℕ → Type 0
Shuts b (cmd.QueueStep oid interval count add) reason first =
    IsRefused b.tick (stepper_at b oid) (record { interval = interval; count = count; add = add }) reason first
Shuts b (cmd.ResetStepClock oid clock) reason first = (reason ≡ stepper_active) × HasSteps (stepper_at b oid)
Shuts b cmd.EmergencyStop reason first = reason ≡ command_request
Shuts b _ reason first = ⊥

-- one of these commands, which found the board running, shut it down
pub record ShutBy (r : Rig) (ms : List Meant) (reason tick first : ℕ) : Type 0 where
  pub before : List Meant
  pub command : Meant
  pub behind : List Meant
  pub are : ms ≡ before ++ command ∷ behind
  pub running : (takes_all r (commands_of before)).rig.controller.state ≡ Running
  pub at : tick ≡ (takes_all r (commands_of before)).rig.controller.tick
  pub cause : Shuts (takes_all r (commands_of before)).rig.controller command.command reason first

-- the board was shut down in this step
abbrev pub ShutIn : Core → Step → ℕ → ℕ → ℕ → Type 0
ShutIn h (Do e) reason tick first = ShutBy h.board (takes_in h e) reason tick first
ShutIn h (Turn turn) reason tick first = ⊥

-- in one of the steps the board took a command that shut it down
abbrev pub WasShut : Core → List Step → ℕ → ℕ → ℕ → Type 0
WasShut h [] reason tick first = ⊥
WasShut h (s ∷ steps) reason tick first = ShutIn h s reason tick first
    ⊎ WasShut (world_after h s) steps reason tick first
