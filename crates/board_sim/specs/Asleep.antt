-- Time in which nothing happens to a board's triggers.
use Rattle.std.specs.Prelude.{ℕ, List, [], ◌∷◌, Option, Some, None}
use Rattle.board_trig.specs.Trigger as trig
use Rattle.board_sim.specs.Rig.{Slot}

-- a trigger sleeps up to a tick: nothing happens to it before, and it reads no pin
abbrev pub Sleeps : ℕ → Option Slot → Type 0
Sleeps until None = Unit {0}
Sleeps until (Some s) = trig.IsAsleep until s.trigger

-- all triggers do
abbrev pub AllSleep : ℕ → List (Option Slot) → Type 0
AllSleep until [] = Unit {0}
AllSleep until (s ∷ ss) = Sleeps until s × AllSleep until ss
