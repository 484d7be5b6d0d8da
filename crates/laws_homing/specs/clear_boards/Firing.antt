-- A trigger that a switch triggers, and what is told of it.
use Rattle.std.specs.Prelude.{◌≡◌, ◌<◌, ◌≤◌, ◌⊎◌, ◌^◌, ◌%◌, ℕ, Bool, true, false, List, [], ◌∷◌, Some, None, slice_index_or}
use Rattle.plan_types.specs.declared.levels.Level.{Level}
use Rattle.board_trig.specs.declared.sampling.Sampling.{Sampling}
use Rattle.board_trig.specs.Kept.{MovesOn}
use Rattle.board_trig.specs.Sampling.{IsTriggerTick}
use Rattle.msg_code.specs.declared.cmd.Cmd.{Cmd}
use Rattle.msg_code.specs.declared.cmd.Cmd.TheVariants as cmd
use Rattle.board_sim.specs.Rig.{Rig, Slot, slot_at}
use Rattle.laws_homing.specs.clear_boards.Limited.{limit_of}

-- A trigger of which all is told, whose timeout is at a tick while it can trigger, whose switch triggers it
-- at a tick or later, and whose reasons fit a byte; where it can't trigger it triggered at such a tick,
-- before its timeout and before a tick.
pub record IsKeen (base limit until : ℕ) (pins : List (List Level)) (s : Slot) : Type 0 where
  pub told : s.trigger.untold ≡ None
  pub moves : MovesOn s.trigger.sampling
  pub timed : s.trigger.timeout ≡ limit_of s.trigger.can limit
  pub reason : s.trigger.reason < 2 ^ 8
  pub expire : s.trigger.expire < 2 ^ 8
  pub stopped : s.trigger.can ≡ false → (base ≤ s.trigger.tick) × (s.trigger.tick < limit) × (s.trigger.tick < until)
  pub sampled : (y : Sampling) → s.trigger.sampling ≡ Some y →
      (y.reason < 2 ^ 8) × ((x : ℕ) → IsTriggerTick (slice_index_or pins s.pin []) y x → base ≤ x)

-- so all triggers of a board
abbrev pub AllKeen : ℕ → ℕ → ℕ → Rig → Type 0
AllKeen base limit until r = (oid : ℕ) (s : Slot) → slot_at r oid ≡ Some s → IsKeen base limit until r.pins s

-- The reason and the clock of an answer that tells of a trigger fit, and where it tells that it can't
-- trigger, it tells of such a tick.
abbrev pub IsSpoken : ℕ → ℕ → ℕ → Cmd → Type 0
IsSpoken base limit until (cmd.TrsyncState oid can reason clock) =
    (reason < 2 ^ 8) × (clock < 2 ^ 32)
    × (can ≡ 0 → (at : ℕ) × (base ≤ at) × (at < limit) × (at < until) × (clock ≡ at % 2 ^ 32))
IsSpoken base limit until answer = Unit {0}

-- so those of some answers
abbrev pub AreSpoken : ℕ → ℕ → ℕ → List Cmd → Type 0
AreSpoken base limit until [] = Unit {0}
AreSpoken base limit until (c ∷ cs) = IsSpoken base limit until c × AreSpoken base limit until cs

-- an answer tells of a trigger that it can't trigger, at this clock
abbrev pub TellsOff : ℕ → ℕ → Cmd → Type 0
TellsOff oid clock (cmd.TrsyncState other can reason told) = (other ≡ oid) × (can ≡ 0) × (told ≡ clock)
TellsOff oid clock answer = ⊥

-- one of some answers does
abbrev pub TellOff : ℕ → ℕ → List Cmd → Type 0
TellOff oid clock [] = ⊥
TellOff oid clock (c ∷ cs) = TellsOff oid clock c ⊎ TellOff oid clock cs

-- A trigger behind a stretch of time up to a tick: where it could trigger before and can't now, that was
-- told, of a tick before the stretch's end and before its timeout, at which a switch may trigger it.
pub record IsOff (oid base until limit : ℕ) (can : Bool) (r : Rig) (answers : List Cmd) : Type 0 where
  pub slot : Slot
  pub is : slot_at r oid ≡ Some slot
  pub told : can ≡ true → slot.trigger.can ≡ false →
      (at : ℕ) × (base ≤ at) × (at < until) × (at < limit) × TellOff oid (at % 2 ^ 32) answers

-- the numbers of an answer that tells of a trigger fit a byte
abbrev pub IsNumbered : Cmd → Type 0
IsNumbered (cmd.TrsyncState oid can reason clock) = (oid < 2 ^ 8) × (can < 2 ^ 8)
IsNumbered c = Unit {0}

-- so the numbers of each of some answers
abbrev pub AreNumbered : List Cmd → Type 0
AreNumbered [] = Unit {0}
AreNumbered (c ∷ cs) = IsNumbered c × AreNumbered cs

-- the reason and the clock of an answer that tells of a trigger fit 8 bits and 32 bits
abbrev pub IsSmall : Cmd → Type 0
IsSmall (cmd.TrsyncState oid can reason clock) = (reason < 2 ^ 8) × (clock < 2 ^ 32)
IsSmall answer = Unit {0}

-- so the reason and the clock of each of some answers
abbrev pub AreSmall : List Cmd → Type 0
AreSmall [] = Unit {0}
AreSmall (c ∷ cs) = IsSmall c × AreSmall cs

-- the reasons of a trigger fit a byte
pub record HasSmall (s : Slot) : Type 0 where
  pub reason : s.trigger.reason < 2 ^ 8
  pub expire : s.trigger.expire < 2 ^ 8
  pub sampled : (y : Sampling) → s.trigger.sampling ≡ Some y → y.reason < 2 ^ 8

-- so the reasons of each trigger of a board
abbrev pub AllSmall : Rig → Type 0
AllSmall r = (oid : ℕ) (s : Slot) → slot_at r oid ≡ Some s → HasSmall s
