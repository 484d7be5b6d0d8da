-- A board with one trigger, whose timeout is renewed before it passes.
use Rattle.std.specs.Prelude.{◌≡◌, ◌<◌, ◌≤◌, ◌⊎◌, ℕ, Bool, true, false, List, [], ◌∷◌, Option, Some, None}
use Rattle.plan_types.specs.Board.{nearest}
use Rattle.plan_types.specs.declared.plan.BoardState.TheVariants.{Running}
use Rattle.msg_code.specs.declared.cmd.Cmd.{Cmd}
use Rattle.msg_code.specs.declared.cmd.Cmd.TheVariants as cmd
use Rattle.board_sim.specs.Rig.{Rig, Slot, slot_at}
use Rattle.board_sim.specs.RigRuns.{RigStep, Takes, Passes, rig_after}
use Rattle.trigger_group.specs.Group.{by_timeout}
use Rattle.laws_homing.specs.home_runs.Guards.{IsSole}
use Rattle.laws_homing.specs.clear_boards.Held.{AllHeld}

-- the timeout of a trigger that can trigger is this tick, and one that can't has none
abbrev pub limit_of : Bool → ℕ → Option ℕ
limit_of true limit = Some limit
limit_of false limit = None

-- so of each trigger
abbrev pub AllLimited : ℕ → Rig → Type 0
AllLimited limit r = (oid : ℕ) (s : Slot) → slot_at r oid ≡ Some s → s.trigger.timeout ≡ limit_of s.trigger.can limit

-- A board has no trigger but one, which its timeout triggers at one tick only; its timeout is this one.
pub record IsLimited (oid tick limit : ℕ) (r : Rig) : Type 0 where
  pub sole : IsSole oid r
  pub held : AllHeld tick r
  pub limited : AllLimited limit r

-- no trigger of a board can trigger
abbrev pub AllFired : Rig → Type 0
AllFired r = (oid : ℕ) (s : Slot) → slot_at r oid ≡ Some s → s.trigger.can ≡ false

-- A command behind the set-up of a homing section: it makes, starts and samples no trigger, and binds no
-- stepper; a timeout that it sets is this trigger's, and later than the board's tick, where the trigger can
-- trigger; and what it triggers triggers for another reason.
abbrev pub IsRenewing : ℕ → Rig → Cmd → Type 0
IsRenewing oid r (cmd.TrsyncSetTimeout other clock) =
    (other ≡ oid) × ((r.controller.tick < nearest r.controller.tick clock) ⊎ AllFired r)
IsRenewing oid r (cmd.TrsyncTrigger other reason) = reason ≡ by_timeout → ⊥
IsRenewing oid r (cmd.ConfigTrsync other) = ⊥
IsRenewing oid r (cmd.TrsyncStart other clock every reason) = ⊥
IsRenewing oid r (cmd.StepperStopOnTrigger stepper other) = ⊥
IsRenewing oid r (cmd.ConfigEndstop other pin pull) = ⊥
IsRenewing oid r (cmd.EndstopHome other clock sample count rest value trigger reason) = ⊥
IsRenewing oid r c = Unit {0}

-- the timeout behind a command that is taken at a tick
abbrev pub limit_by : ℕ → ℕ → Cmd → ℕ
limit_by now limit (cmd.TrsyncSetTimeout other clock) = nearest now clock
limit_by now limit c = limit

-- the timeout behind commands and stretches of time
abbrev pub limit_after : ℕ → Rig → List RigStep → ℕ
limit_after limit r [] = limit
limit_after limit r (Takes c ∷ ss) = limit_after (limit_by r.controller.tick limit c) (rig_after r (Takes c)) ss
limit_after limit r (Passes n t ∷ ss) = limit_after limit (rig_after r (Passes n t)) ss

-- such commands are taken by a board that runs, and no stretch of time goes past the timeout, but where it is
-- at this tick or no trigger can trigger
abbrev pub AreRenewing : ℕ → ℕ → ℕ → Rig → List RigStep → Type 0
AreRenewing oid tick limit r [] = Unit {0}
AreRenewing oid tick limit r (Takes c ∷ ss) =
    (r.controller.state ≡ Running) × IsRenewing oid r c
    × AreRenewing oid tick (limit_by r.controller.tick limit c) (rig_after r (Takes c)) ss
AreRenewing oid tick limit r (Passes n t ∷ ss) =
    ((t ≤ limit) ⊎ ((limit ≡ tick) ⊎ AllFired r)) × AreRenewing oid tick limit (rig_after r (Passes n t)) ss
