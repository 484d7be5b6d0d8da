-- Counts of faults, which only rise and stand still at their type's end.
use Rattle.std.specs.Prelude.{◌≡◌, ◌⊎◌, ℕ, ◌<◌, ◌≤◌, ◌^◌}

-- a fault was counted, or can't be counted any more
abbrev pub Rose : ℕ → ℕ → Type 0
Rose before after = (before < after) ⊎ (after ≡ 18_446_744_073_709_551_615)
