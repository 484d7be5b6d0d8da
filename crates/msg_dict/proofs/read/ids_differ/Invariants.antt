use Rattle.std.proofs.Common.{◌≡◌, ℕ, true, drop, map}
use Rattle.std.specs.Ordering.{nat_cmp}
use Rattle.std.specs.BTreeSet.{contains}
use Rattle.msg_dict.specs.Dictionary.{has_number, numbers_differ}
use Rattle.msg_dict.specs.Kept.{format_of}
use Rattle.msg_dict.proofs.read.ids_differ.Given as goal

abbrev pub invariant-loop-i : goal.invariant-loop-i
invariant-loop-i l = record {
  seen : (q : ℕ) → contains nat_cmp l.seen q ≡ has_number q (map format_of (drop l.i l.formats));
  differ : numbers_differ (map format_of (drop l.i l.formats)) ≡ true;
}
