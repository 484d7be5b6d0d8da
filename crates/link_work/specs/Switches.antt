-- The levels of a board's pins, by the switches of a scene.
use Rattle.std.specs.Prelude.{ℕ, zero, suc, List, [], ◌∷◌, ◌++◌, length, min}
use Rattle.plan_types.specs.declared.levels.Level.{Level}
use Rattle.plan_types.specs.declared.machine.BoardDef.{BoardDef}
use Rattle.wire_scene.specs.declared.scene.Switch.{Switch}
use Rattle.wire_scene.specs.Scenes.{levels_of}

-- the levels of the first so many pins
abbrev pub first_pins : ℕ → ℕ → List Switch → List (List Level)
first_pins board zero ss = []
first_pins board (suc n) ss = first_pins board n ss ++ levels_of board n ss ∷ []

-- those of all pins of a board; a pin's number has eight bits
unfoldable pub pins_of : BoardDef → ℕ → List Switch → List (List Level)
pins_of b board ss = first_pins board (min (length b.pins) 256) ss
