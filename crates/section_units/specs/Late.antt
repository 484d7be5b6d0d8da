-- Units that are late come one by one.
use Rattle.std.specs.Prelude.{◌+◌, ◌<◌, ◌≤◌, List, [], ◌∷◌}
use Rattle.step_feed.specs.Pacing.{Release}

-- Of some releases the first one that is five turns or more behind its due turn is just five turns behind it.
abbrev pub LateOneByOne : List Release → Type 0
LateOneByOne [] = Unit {0}
LateOneByOne (r ∷ rs) = (r.turn ≤ r.unit.due + 5) × (r.turn < r.unit.due + 5 → LateOneByOne rs)
