-- What is kept, as commands and contents.
use Rattle.std.specs.Prelude.{ℕ, List, [], ◌∷◌}
use Rattle.link_core.specs.declared.host.Waiting.{Waiting}
use Rattle.link_core.specs.declared.host.Outstanding.{Outstanding}
use Rattle.link_core.specs.Core.{Command}

-- the commands that wait, as contracts see them
abbrev pub commands : List Waiting → List Command
commands [] = []
commands (w ∷ ws) = record { bytes = w.bytes.items; closes = w.closes } ∷ commands ws

-- the contents of outstanding blocks, as contracts see them
abbrev pub contents : List Outstanding → List (List ℕ)
contents [] = []
contents (o ∷ os) = o.content.items ∷ contents os

-- the turns in which they were put, as contracts see them
abbrev pub puts : List Outstanding → List ℕ
puts [] = []
puts (o ∷ os) = o.put ∷ puts os
