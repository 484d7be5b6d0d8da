-- A stepper that is bound to a trigger, and the trigger once it has triggered.
use Rattle.std.specs.Prelude.{◌≡◌, ◌<◌, ◌%◌, ◌^◌, ℕ, true, false, List, [], ◌∷◌, Some, None}
use Rattle.msg_code.specs.declared.cmd.Cmd.{Cmd}
use Rattle.msg_code.specs.declared.cmd.Cmd.TheVariants as cmd
use Rattle.board_sim.specs.Board.{stepper_at}
use Rattle.board_sim.specs.Fair.{Meant}
use Rattle.board_sim.specs.Rig.{Rig, Slot, slot_at}
use Rattle.board_sim.specs.RigRuns.{has, IsHalted, IsThere}

-- a stepper is bound to a trigger, and halted where that can't trigger
pub record IsGuarded (stepper trigger : ℕ) (r : Rig) : Type 0 where
  pub slot : Slot
  pub is : slot_at r trigger ≡ Some slot
  pub bound : has stepper slot.bound ≡ true
  pub there : IsThere (stepper_at r.controller stepper)
  pub halted : slot.trigger.can ≡ false → IsHalted (stepper_at r.controller stepper)

-- a trigger stands here that can't trigger
pub record HasFired (trigger : ℕ) (r : Rig) : Type 0 where
  pub slot : Slot
  pub is : slot_at r trigger ≡ Some slot
  pub fired : slot.trigger.can ≡ false

-- a trigger stands here that can't trigger and has no timeout, with this reason and a tick with these lower 32 bits
pub record StandsFired (trigger reason clock : ℕ) (r : Rig) : Type 0 where
  pub slot : Slot
  pub is : slot_at r trigger ≡ Some slot
  pub fired : slot.trigger.can ≡ false
  pub none : slot.trigger.timeout ≡ None
  pub reason_is : slot.trigger.reason ≡ reason
  pub clock_is : slot.trigger.tick % 2 ^ 32 ≡ clock

-- where the trigger stands and can't trigger, it has no timeout
abbrev pub HasNoTimeout : ℕ → Rig → Type 0
HasNoTimeout trigger r = (s : Slot) → slot_at r trigger ≡ Some s → s.trigger.can ≡ false → s.trigger.timeout ≡ None

-- where the trigger stands, its reason fits the field in which it is told
abbrev pub ReasonFits : ℕ → Rig → Type 0
ReasonFits trigger r = (s : Slot) → slot_at r trigger ≡ Some s → s.trigger.reason < 2 ^ 8

-- no other trigger stands on a board
abbrev pub IsSole : ℕ → Rig → Type 0
IsSole trigger r = (oid : ℕ) (s : Slot) → slot_at r oid ≡ Some s → oid ≡ trigger

-- a command behind the set-up of a homing section: it neither starts the trigger anew nor sets the clock of
-- the stepper, and makes no other trigger
abbrev pub IsCalm : ℕ → ℕ → Cmd → Type 0
IsCalm stepper trigger (cmd.TrsyncStart oid clock every reason) = oid ≡ trigger → ⊥
IsCalm stepper trigger (cmd.ResetStepClock oid clock) = oid ≡ stepper → ⊥
IsCalm stepper trigger (cmd.ConfigTrsync oid) = oid ≡ trigger
IsCalm stepper trigger c = Unit {0}

-- so each of some commands
abbrev pub AreCalm : ℕ → ℕ → List Meant → Type 0
AreCalm stepper trigger [] = Unit {0}
AreCalm stepper trigger (m ∷ ms) = IsCalm stepper trigger m.command × AreCalm stepper trigger ms
