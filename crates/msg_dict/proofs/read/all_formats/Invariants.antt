use Rattle.std.proofs.Common.{◌≡◌, drop, map}
use Rattle.std.specs.List.{list_all}
use Rattle.msg_dict.specs.Dictionary.{Named}
use Rattle.msg_dict.specs.Format.{is_format}
use Rattle.msg_dict.specs.Kept.{format_of}
use Rattle.msg_dict.proofs.read.all_formats.Given as goal

abbrev pub invariant-loop-format : goal.invariant-loop-format
invariant-loop-format l =
    list_all (λ (f : Named). is_format f.name) (map format_of (drop l.format-index l.formats)) ≡ list_all (λ (f : Named). is_format f.name) (map format_of l.formats)
