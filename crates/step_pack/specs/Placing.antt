-- Triples with their first and last ticks.
use Rattle.std.specs.Prelude.{◌≡◌, ℕ, List, [], ◌∷◌, ◌++◌, drop}
use Rattle.plan_types.specs.declared.plan.Window.{Window}
use Rattle.plan_types.specs.Packing.{Covers, IsLongest, ticks_of, last_tick}
use Rattle.step_pack.specs.declared.Placed.{Placed}

-- behind a tick the triples pack all steps, the first and the last tick of each being those given
abbrev pub PacksPlaced : ℕ → List Window → List Placed → Type 0
PacksPlaced behind windows [] = windows ≡ []
PacksPlaced behind windows (p ∷ placed) =
    Covers behind p.first p.triple.interval p.triple.count p.triple.add windows × (p.last ≡ last_tick p.first p.triple)
    × IsLongest behind windows p.triple.count × PacksPlaced p.last (drop p.triple.count windows) placed

-- the ticks of all triples, behind the first one of each
abbrev pub placed_ticks : List Placed → List ℕ
placed_ticks [] = []
placed_ticks (p ∷ placed) = ticks_of p.first p.triple ++ placed_ticks placed
