use Rattle.std.proofs.Common.{◌≡◌, ◌++◌, drop, map}
use Rattle.msg_dict.specs.Kept.{format_of}
use Rattle.msg_dict.specs.Table.{own_format}
use Rattle.msg_dict.proofs.own.formats.Given as goal

abbrev pub invariant-loop-row : goal.invariant-loop-row
invariant-loop-row l = map format_of l.formats.items ++ map own_format (drop l.row-index l.rows) ≡ map own_format l.rows
