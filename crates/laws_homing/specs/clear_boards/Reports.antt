-- What a board tells of a trigger that can trigger.
use Rattle.std.specs.Prelude.{◌≡◌, ◌<◌, ◌≤◌, ◌⊎◌, ◌+◌, ◌%◌, ◌^◌, ℕ, Bool, true, List, [], ◌∷◌, Some}
use Rattle.msg_code.specs.declared.cmd.Cmd.{Cmd}
use Rattle.msg_code.specs.declared.cmd.Cmd.TheVariants as cmd
use Rattle.board_sim.specs.Rig.{Rig, Slot, slot_at}

-- an answer tells of a trigger that it can trigger, at this clock
abbrev pub TellsCan : ℕ → ℕ → Cmd → Type 0
TellsCan oid clock (cmd.TrsyncState other can reason told) = (other ≡ oid) × (can ≡ 1) × (told ≡ clock)
TellsCan oid clock answer = ⊥

-- one of some answers does
abbrev pub TellCan : ℕ → ℕ → List Cmd → Type 0
TellCan oid clock [] = ⊥
TellCan oid clock (c ∷ cs) = TellsCan oid clock c ⊎ TellCan oid clock cs

-- A trigger behind a stretch of time up to a tick, of which the next report was at this one and which could
-- trigger or not: its next report is the same, or it stands behind one that was told before the tick, no
-- earlier, while the trigger could trigger; and it can trigger only where it could before.
pub record IsReported (oid until report every : ℕ) (can : Bool) (r : Rig) (answers : List Cmd) : Type 0 where
  pub slot : Slot
  pub is : slot_at r oid ≡ Some slot
  pub every_is : slot.trigger.every ≡ every
  pub next : ℕ
  pub report_is : slot.trigger.report ≡ Some next
  pub stays : slot.trigger.can ≡ true → can ≡ true
  pub told : (next ≡ report)
      ⊎ ((at : ℕ) × (report ≤ at) × (at < until) × (at + every ≡ next)
      × (slot.trigger.can ≡ true → TellCan oid (at % 2 ^ 32) answers))
