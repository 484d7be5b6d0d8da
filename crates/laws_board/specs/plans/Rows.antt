-- Sections one behind the other.
use Rattle.std.specs.Prelude.{◌≤◌, ◌+◌, ℕ, List, [], ◌∷◌}
use Rattle.motion_work.specs.Seen.{Started}

-- sections one behind the other, each 260 turns after the end of the one before or later
abbrev pub AreInARow : ℕ → List Started → Type 0
AreInARow ready [] = Unit {0}
AreInARow ready (s ∷ ss) = (ready ≤ s.start) × (s.start ≤ s.end) × AreInARow (s.end + 260) ss
