-- The turns in which a homing group's orders may fill a control.
use Rattle.std.specs.Prelude.{◌≡◌, ◌⊎◌, ◌+◌, ℕ}

-- a turn is 254, 253 or 251 turns before a start
abbrev pub MayFill : ℕ → ℕ → Type 0
MayFill start turn = (turn + 254 ≡ start) ⊎ ((turn + 253 ≡ start) ⊎ (turn + 251 ≡ start))
