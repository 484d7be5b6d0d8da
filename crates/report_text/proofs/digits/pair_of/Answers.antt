use Rattle.std.proofs.Common.{refl}
use Rattle.report_text.proofs.Pairs.{PAIRS_at}
use Rattle.report_text.proofs.digits.pair_of.Goals as goal

pub returns : goal.returns
returns c = let p = PAIRS_at c.args.number c.requires in rw (p.0, p.1) refl
