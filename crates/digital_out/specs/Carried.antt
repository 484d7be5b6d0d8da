-- Commands that can be carried out one by one, without a miss.
use Rattle.std.specs.Prelude.{◌≡◌, ℕ, ◌+◌, ◌<◌, ◌≤◌, Bool, true, false, List, [], ◌∷◌, ◌-◌, All, max, nat_lt, slice_index_or, if◌then◌else◌}
use Rattle.plan_types.specs.Clock.{tick_limit}
use Rattle.digital_out.specs.declared.want.Want.{Want}
use Rattle.digital_out.specs.Rising.{WantsRiseFrom, no_want}

-- a command comes in time for an output that has a level since a tick
abbrev pub InTime : ℕ → Bool → ℕ → ℕ → Type 0
InTime max true last tick = tick ≤ last + max
InTime max false last tick = Unit {0}

-- each command comes in time for the one before it, and the last one switches the output off, which has a
-- level since a tick
abbrev pub AreInTime : ℕ → Bool → ℕ → List Want → Type 0
AreInTime max level last [] = level ≡ false
AreInTime max level last (w ∷ ws) = InTime max level last w.tick × AreInTime max w.on w.tick ws

-- ticks from one on
abbrev pub AreFrom : ℕ → List Want → Type 0
AreFrom low ws = All (λ w. low ≤ w.tick) ws

-- the first of these, if there is one, is not before a tick
abbrev pub BeginsFrom : ℕ → List Want → Type 0
BeginsFrom low [] = Unit {0}
BeginsFrom low (w ∷ ws) = low ≤ w.tick

-- commands that can be carried out: they rise, are small and come in time
pub record CanCarry (max : ℕ) (commands : List Want) : Type 0 where
  pub rise : WantsRiseFrom 0 commands
  pub small : All (λ w. w.tick + 1 < tick_limit) commands
  pub in_time : AreInTime max false 0 commands

-- the tick from which on there is room for a command in a queue of 16
abbrev pub room_at : List Want → ℕ → ℕ
room_at commands i = if nat_lt i 16 then 0 else (slice_index_or commands (i - 16) no_want).tick + 1

-- when a command is given to its queue: now, or so many ticks before its own, or when there is room,
-- whichever is latest
abbrev pub ready_at : List Want → ℕ → ℕ → ℕ → ℕ
ready_at commands i now lead = max now (max ((slice_index_or commands i no_want).tick - lead) (room_at commands i))
