-- What is kept, as blocks under way.
use Rattle.std.specs.Prelude.{List, [], ◌∷◌}
use Rattle.wire_scene.specs.declared.wire.Underway.{Underway}
use Rattle.wire_scene.specs.Wire.{Copy, comes_of}

-- what a line keeps, as blocks under way
abbrev pub copies_of : List Underway → List Copy
copies_of [] = []
copies_of (u ∷ us) =
    record { bytes = u.block.items; comes = comes_of u.deed u.block.items; due = u.due; fate = u.fate } ∷ copies_of us
