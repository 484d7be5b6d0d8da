-- What a dictionary keeps, as contracts see it.
use Rattle.msg_dict.specs.declared.format.Format.{Format}
use Rattle.msg_dict.specs.declared.Constant.{Constant}
use Rattle.msg_dict.specs.declared.Choice.{Choice}
use Rattle.msg_dict.specs.Dictionary.{Named, Enumerated}

-- a format as contracts see it
abbrev pub format_of : Format → Named
format_of f = record { name = f.text.items; number = f.id }

-- a constant as contracts see it
abbrev pub constant_of : Constant → Named
constant_of c = record { name = c.name.items; number = c.value }

-- an enumerated name as contracts see it
abbrev pub choice_of : Choice → Enumerated
choice_of v = record { enumeration = v.enumeration.items; name = v.name.items; number = v.number }
