-- A trigger that triggers at the first tick at which its readings are complete, or not after it.
use Rattle.std.specs.Prelude.{◌≡◌, ◌⊎◌, ◌≤◌, ℕ, true, false, List, [], Option, Some, None, slice_index_or}
use Rattle.plan_types.specs.declared.levels.Level.{Level}
use Rattle.board_trig.specs.declared.sampling.Sampling.{Sampling}
use Rattle.board_trig.specs.Kept.{MovesOn}
use Rattle.board_trig.specs.Sampling.{IsTriggerTick}
use Rattle.board_sim.specs.Rig.{Slot}
use Rattle.trigger_group.specs.Group.{by_host, by_switch, by_timeout}

-- a tick at which readings, where there are any, are complete
abbrev pub Hits : List Level → Option Sampling → ℕ → Type 0
Hits levels o x = (y : Sampling) × (o ≡ Some y) × IsTriggerTick levels y x

-- A trigger can't trigger any more: its readings triggered it (1), at one of these ticks; or its timeout
-- passed (2), or it was told to (3), for which there is a cause, no later than any of them.
abbrev pub HasCause : (ℕ → Type 0) → Type 0 → Slot → Type 0
HasCause T Q s =
    ((s.trigger.reason ≡ by_switch) × T s.trigger.tick)
    ⊎ (((s.trigger.reason ≡ by_timeout) ⊎ ((s.trigger.reason ≡ by_host) × Q)) × ((x : ℕ) → T x → s.trigger.tick ≤ x))

-- Of a trigger all is told, and its readings move on; its timeout triggers it for the reason 2, and its
-- readings for the reason 1, at these ticks alone, while it can trigger; and where it can't, it reads
-- nothing, and has such a cause.
pub record Minds (T : ℕ → Type 0) (Q : Type 0) (pins : List (List Level)) (s : Slot) : Type 0 where
  pub told : s.trigger.untold ≡ None
  pub moves : MovesOn s.trigger.sampling
  pub idle : s.trigger.can ≡ false → s.trigger.timeout ≡ None
  pub blind : s.trigger.can ≡ false → s.trigger.sampling ≡ None
  pub expire : s.trigger.expire ≡ 2
  pub reads : (y : Sampling) → s.trigger.sampling ≡ Some y → y.reason ≡ by_switch
  pub to : s.trigger.can ≡ true → (x : ℕ) → Hits (slice_index_or pins s.pin []) s.trigger.sampling x → T x
  pub of : s.trigger.can ≡ true → (x : ℕ) → T x → Hits (slice_index_or pins s.pin []) s.trigger.sampling x
  pub fired : s.trigger.can ≡ false → HasCause T Q s
