use Rattle.std.proofs.Common.{length, subst, sym}
use Rattle.session_work.specs.Lates.{batches_of}
use Rattle.session_work.specs.Rows.{RowPut}
use Rattle.session_work.proofs.motion.put_row.Goals as goal

pub returns-in-Made : goal.returns-in-Made
returns-in-Made g c = subst (λ r. RowPut c.args.batches.now c.args.passes.now.items c.put_each.new.passes.items (batches_of (length c.args.batches.now) c.args.k r)) (sym c.in-Made.is) c.put_each.ensures

pub returns-in-Bare : goal.returns-in-Bare
returns-in-Bare g c = subst (λ r. RowPut c.args.batches.now c.args.passes.now.items c.put_bare.new.passes.items (batches_of (length c.args.batches.now) c.args.k r)) (sym c.in-Bare.is) c.put_bare.ensures
