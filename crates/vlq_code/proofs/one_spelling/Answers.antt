use Rattle.std.proofs.Common.{◌≡◌}
use Rattle.vlq_code.proofs.Spelled.{joined_alike, one_number}
use Rattle.vlq_code.proofs.Unique.{one_text}
use Rattle.vlq_code.proofs.Lengths.{spelling_length_is, spelling_spells}
use Rattle.vlq_code.proofs.one_spelling.Goals as goal

pub returns : goal.returns
returns c = record {
  each = spelling_spells;
  lengths = spelling_length_is;
  one = one_text;
  no_prefix = λ a b x y m n s t e.
      let same : a ≡ b = joined_alike a b x y s.joined t.joined e in
      (same, one_number a b m n s t same);
}
