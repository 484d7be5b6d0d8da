-- The commands that make an endstop.
use Rattle.std.specs.Prelude.{◌≡◌, ◌⊎◌, ℕ, List, [], ◌∷◌}
use Rattle.msg_code.specs.declared.cmd.Cmd.{Cmd}
use Rattle.msg_code.specs.declared.cmd.Cmd.TheVariants as cmd

-- some commands make an endstop with this object id
abbrev pub MakesEndstop : ℕ → List Cmd → Type 0
MakesEndstop endstop [] = ⊥
MakesEndstop endstop (cmd.ConfigEndstop oid pin pull ∷ cs) = (oid ≡ endstop) ⊎ MakesEndstop endstop cs
MakesEndstop endstop (c ∷ cs) = MakesEndstop endstop cs
