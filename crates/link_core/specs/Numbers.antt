-- Numbers of blocks, of which the wire carries the remainder by 16.
use Rattle.std.specs.Prelude.{◌≡◌, ℕ, ◌+◌, ◌%◌, ◌≤◌, ◌==◌, if◌then◌else◌}

-- w is from low to high, and the wire carries this number for it
pub record IsNumberOnWire (low high number w : ℕ) : Type 0 where
  pub from : low ≤ w
  pub to : w ≤ high
  pub wire : w % 16 ≡ number

-- what the board expects next, after block n came where it expected this one
abbrev pub next_after : ℕ → ℕ → ℕ
next_after expected n = if n == expected then expected + 1 else expected

-- what the host's end keeps of the blocks' numbers
pub record Counts : Type 0 where
  pub acked : ℕ
  pub sent : ℕ
