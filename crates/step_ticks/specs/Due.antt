-- Whether a step is due, and whether it is dropped.
use Rattle.std.specs.Prelude.{◌≡◌, ℕ, ◌+◌, ◌<◌, List, Bool, true, false, length, nat_lt, ◌&&◌, slice_index_or}
use Rattle.plan_types.specs.declared.plan.Planned.{Planned}
use Rattle.plan_types.specs.Plan.{cancel, no_step}

-- a step that comes before a tick, and so long before the end of what is known that no later one cancels it
abbrev pub is_due : ℕ → ℕ → ℕ → Planned → Bool
is_due reach until end s = nat_lt s.tick until && nat_lt (s.tick + reach) end

-- the step at a place cancels with the one behind it
pub record IsDropped (reach : ℕ) (raw : List Planned) (next : ℕ) : Type 0 where
  pub two : next + 1 < length raw
  pub cancels : cancel reach (slice_index_or raw next no_step) (slice_index_or raw (next + 1) no_step) ≡ true

-- the step at a place does not cancel with the one behind it
pub record IsKept (reach : ℕ) (raw : List Planned) (next : ℕ) : Type 0 where
  pub keeps : next + 1 < length raw →
      cancel reach (slice_index_or raw next no_step) (slice_index_or raw (next + 1) no_step) ≡ false
