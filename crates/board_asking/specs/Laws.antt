-- What makes a board connected.
use Rattle.std.specs.Prelude.{◌≡◌, ◌==◌, ◌⊎◌, true, List, [], ◌∷◌}
use Rattle.msg_code.specs.declared.cmd.Cmd.{Cmd}
use Rattle.msg_code.specs.declared.cmd.Cmd.TheVariants as cmd
use Rattle.msg_code.specs.declared.talk.News.{News}

-- an answer says that the board's configuration is complete
abbrev pub SaysConfigured : Cmd → Type 0
SaysConfigured (cmd.Config is_config crc is_shutdown move_count) = (is_config == 1) ≡ true
SaysConfigured answer = ⊥

-- one of some answers says so
abbrev pub WasConfigured : List News → Type 0
WasConfigured [] = ⊥
WasConfigured (n ∷ news) = SaysConfigured n.answer ⊎ WasConfigured news
