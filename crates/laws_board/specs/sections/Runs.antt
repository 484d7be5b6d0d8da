-- A board and its link over the turns of a run.
use Rattle.std.specs.Prelude.{◌≡◌, ℕ, ◌+◌, ◌<◌, ◌≤◌, List, [], ◌∷◌, ◌++◌}
use Rattle.plan_types.specs.declared.plan.Pulse.{Pulse}
use Rattle.step_feed.specs.Pacing.{Release}
use Rattle.board_world.specs.World.{Core}
use Rattle.section_units.specs.Sections.{BoardSection}

-- a list begins another
abbrev pub Begins : List Pulse → List Pulse → Type 0
Begins ps qs = (rest : List Pulse) × (ps ++ rest ≡ qs)

-- the pulses that were made from a state to a later one
abbrev pub Made : Core → Core → List Pulse → Type 0
Made before after pulses = after.made ≡ before.made ++ pulses

-- each unit that is due before a turn is released at most so many turns behind its due one
abbrev pub IsSpilled : ℕ → ℕ → List Release → Type 0
IsSpilled turns m [] = Unit {0}
IsSpilled turns m (r ∷ rs) = (r.unit.due < turns → r.turn ≤ r.unit.due + m) × IsSpilled turns m rs

-- the units of some sections
abbrev pub AreSpilled : ℕ → ℕ → List BoardSection → Type 0
AreSpilled turns m [] = Unit {0}
AreSpilled turns m (s ∷ ss) = IsSpilled turns m s.releases × AreSpilled turns m ss
