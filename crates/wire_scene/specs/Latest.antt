-- The latest entry of a pin.
use Rattle.std.specs.Prelude.{◌≡◌, ℕ, ◌<◌, ◌≤◌, All, List, Option, Some, None}
use Rattle.std.specs.List.{Contains}
use Rattle.wire_scene.specs.declared.scene.Switch.{Switch}

-- the entry is of this pin, at or before this tick, and no other such entry has a later tick
pub record IsLatestEntry (board pin tick : ℕ) (switches : List Switch) (s : Switch) : Type 0 where
  pub there : Contains switches s
  pub on_board : s.board ≡ board
  pub of_pin : s.pin ≡ pin
  pub begun : s.tick ≤ tick
  pub latest : All (λ (o : Switch). o.board ≡ board → o.pin ≡ pin → o.tick ≤ tick → o.tick ≤ s.tick) switches

-- the entry with the greatest tick at or before this one; none, where all of the pin's have later ticks
abbrev pub IsLatest : ℕ → ℕ → ℕ → List Switch → Option Switch → Type 0
IsLatest board pin tick switches None = All (λ (o : Switch). o.board ≡ board → o.pin ≡ pin → tick < o.tick) switches
IsLatest board pin tick switches (Some s) = IsLatestEntry board pin tick switches s
