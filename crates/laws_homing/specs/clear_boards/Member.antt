-- A board of a homing group as a turn begins.
use Rattle.std.specs.Prelude.{◌⊎◌, ℕ, Bool, false, not, List, Option, None, Some}
use Rattle.board_sim.specs.Rig.{Rig, Slot, slot_at}
use Rattle.trigger_group.specs.declared.seen.Seen.{Seen}
use Rattle.laws_homing.specs.home_runs.Guards.{HasFired}
use Rattle.laws_homing.specs.clear_boards.Alive.{IsAlive}
use Rattle.laws_homing.specs.clear_boards.Hearing.{FiredOn, NoneOn}
use Rattle.laws_homing.specs.clear_boards.Lately.{IsHeardOf, NearOn}

-- A board's trigger can trigger, and was heard of lately, and isn't known to have triggered; or it can't, and
-- is known to have triggered by the section's last turn.
abbrev pub IsMember : (own : ℕ → ℕ) (oid base every start last b turn : ℕ) → Rig → List Seen → Type 0
IsMember own oid base every start last b turn r members =
    ((a : IsAlive oid base every (own turn) r) × IsHeardOf own base every start b a.next members
    × NearOn start b turn members × NoneOn b members)
    ⊎ (HasFired oid r × FiredOn b last members)

-- a trigger stands here that can't trigger
abbrev pub is_fired : Option Slot → Bool
is_fired None = false
is_fired (Some s) = not s.trigger.can

-- by the object ids of the boards' triggers and by the boards
abbrev pub fired_at : (ℕ → ℕ) → (ℕ → Rig) → ℕ → Bool
fired_at oids rigs b = is_fired (slot_at (rigs b) (oids b))
