-- A board whose trigger can trigger, in a homing section.
use Rattle.std.specs.Prelude.{◌≡◌, ◌<◌, ◌≤◌, ◌⊎◌, ◌+◌, ◌^◌, ◌%◌, ℕ, true, List, [], ◌∷◌, Some, slice_index_or}
use Rattle.board_trig.specs.declared.sampling.Sampling.{Sampling}
use Rattle.board_trig.specs.Sampling.{IsTriggerTick}
use Rattle.msg_code.specs.declared.cmd.Cmd.{Cmd}
use Rattle.board_sim.specs.Rig.{Rig, Slot, slot_at}
use Rattle.laws_homing.specs.home_runs.Guards.{HasFired}
use Rattle.laws_homing.specs.clear_boards.Firing.{TellOff}
use Rattle.laws_homing.specs.clear_boards.Reports.{TellCan}
use Rattle.laws_homing.specs.clear_boards.Turned.{Relays}

-- no command triggers
abbrev pub RelayNone : List Cmd → Type 0
RelayNone [] = Unit {0}
RelayNone (c ∷ cs) = (Relays c → ⊥) × RelayNone cs

-- A trigger that can trigger: its next report is at a tick that the board hasn't passed, and neither that nor
-- a tick at which its switch may trigger it is before the section's first one; reports come every so many
-- ticks, and its reasons fit a byte.
pub record IsAlive (oid base every now : ℕ) (r : Rig) : Type 0 where
  pub slot : Slot
  pub is : slot_at r oid ≡ Some slot
  pub can : slot.trigger.can ≡ true
  pub every_is : slot.trigger.every ≡ every
  pub next : ℕ
  pub report : slot.trigger.report ≡ Some next
  pub due : now ≤ next
  pub begun : base ≤ next
  pub reason : slot.trigger.reason < 2 ^ 8
  pub expire : slot.trigger.expire < 2 ^ 8
  pub sampled : (y : Sampling) → slot.trigger.sampling ≡ Some y →
      (y.reason < 2 ^ 8) × ((x : ℕ) → IsTriggerTick (slice_index_or r.pins slot.pin []) y x → base ≤ x)

-- It can still trigger behind a stretch of time: the next report is the same, or stands behind one that was told.
pub record StaysAlive (oid base every now until report : ℕ) (r : Rig) (answers : List Cmd) : Type 0 where
  pub alive : IsAlive oid base every until r
  pub told : (alive.next ≡ report)
      ⊎ ((at : ℕ) × (base ≤ at) × (now ≤ at) × (at < until) × (at + every ≡ alive.next)
      × TellCan oid (at % 2 ^ 32) answers)

-- Or its switch triggered it, and that was told, of a tick before its timeout.
pub record IsSwitched (oid base now until limit : ℕ) (r : Rig) (answers : List Cmd) : Type 0 where
  pub fired : HasFired oid r
  pub at : ℕ
  pub begun : base ≤ at
  pub late : now ≤ at
  pub early : at < until
  pub before : at < limit
  pub told : TellOff oid (at % 2 ^ 32) answers
