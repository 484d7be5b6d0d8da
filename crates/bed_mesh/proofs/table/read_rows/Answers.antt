use Rattle.std.proofs.Common.{◌≡◌, ◌∙◌, ◌-◌, arith}
use Rattle.bed_mesh.proofs.Rows.{all_rows, row_count, row_more}
use Rattle.bed_mesh.proofs.table.read_rows.Goals as goal

pub loop-line-preserved : goal.loop-line-preserved
loop-line-preserved c =
    let row = c.in_ok-push_row.ensures.row in
    record {
      rows = row_more _ c.loop-line.left (c.loop-line.left - 1) _ _ _ row.0 _ _ _ (omega arith) row.1 row.2 c.in-Some.ensures.some ∙ c.loop-line.invariant.rows;
      small = omega (arith, c.in-Some.ensures.small);
      count = row_count _ _ _ _ _ (omega arith) c.loop-line.invariant.count c.in_ok-push_row.ensures.count;
      limits = c.in_ok-push_row.ensures.limits c.loop-line.invariant.limits;
    }

pub returns-clause-count : goal.returns-clause-count
returns-clause-count c = all_rows _ _ _ _ (omega arith) c.loop-line.invariant.count

pub returns-clause-limits : goal.returns-clause-limits
returns-clause-limits c = c.loop-line.invariant.limits
