-- Wants in order.
use Rattle.std.specs.Prelude.{◌≡◌, ℕ, ◌+◌, ◌≤◌, Bool, false, not, List, [], ◌∷◌}
use Rattle.digital_out.specs.declared.want.Want.{Want}

-- what stands for a want that is not there
abbrev pub no_want : Want
no_want = record { tick = 0; on = false }

-- ticks that don't fall, from one on
abbrev pub NeverFall : ℕ → List Want → Type 0
NeverFall low [] = Unit {0}
NeverFall low (w ∷ ws) = (low ≤ w.tick) × NeverFall w.tick ws

-- ticks that rise, from one on
abbrev pub WantsRiseFrom : ℕ → List Want → Type 0
WantsRiseFrom low [] = Unit {0}
WantsRiseFrom low (w ∷ ws) = (low ≤ w.tick) × WantsRiseFrom (w.tick + 1) ws

-- ticks that rise
abbrev pub AreRising : List Want → Type 0
AreRising ws = WantsRiseFrom 0 ws

-- each want changes the level
abbrev pub Alternate : Bool → List Want → Type 0
Alternate level [] = Unit {0}
Alternate level (w ∷ ws) = (w.on ≡ not level) × Alternate w.on ws
