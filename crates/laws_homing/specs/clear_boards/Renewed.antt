-- A homing group that hears all its members.
use Rattle.std.specs.Prelude.{◌≤◌, ℕ, List, [], ◌∷◌}
use Rattle.trigger_group.specs.declared.seen.Seen.{Seen}
use Rattle.trigger_group.specs.Group.{heard_of}

-- each member could trigger in a turn or later, as far as was heard, or the section's start isn't before that turn
abbrev pub HeardFrom : ℕ → ℕ → List Seen → Type 0
HeardFrom start turn [] = Unit {0}
HeardFrom start turn (m ∷ ms) = (turn ≤ heard_of start m.heard) × HeardFrom start turn ms
