use Rattle.std.proofs.Common.{length, sym, ap}
use Rattle.text_core.proofs.Cuts.{take-before}
use Rattle.text_core.proofs.bytes.cut.Goals as goal

pub slice_bounds-result-end : goal.slice_bounds-result-end
slice_bounds-result-end c = rw c.place_of.ensures (sym (ap length (take-before c.args.end c.args.text.now)))

pub returns : goal.returns
returns c = rw c.place_of.ensures (take-before c.args.end c.args.text.now)
