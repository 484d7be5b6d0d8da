use Rattle.std.proofs.Common.{◌≡◌, drop}
use Rattle.std.specs.Option.{option_copied}
use Rattle.io_core.specs.Stored.{stored, stored_or}
use Rattle.io_core.proofs.stored.find.Given as goal

abbrev pub invariant-loop-file : goal.invariant-loop-file
invariant-loop-file l = stored_or (option_copied l.found) (drop l.file-index l.files) l.name ≡ stored l.files l.name
