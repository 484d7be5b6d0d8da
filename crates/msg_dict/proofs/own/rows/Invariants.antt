use Rattle.std.proofs.Common.{◌≡◌, drop}
use Rattle.serde_json.specs.Data.{no_members}
use Rattle.serde_json.specs.View.{members_view}
use Rattle.msg_dict.specs.Own.{with_rows}
use Rattle.msg_dict.proofs.own.rows.Given as goal

abbrev pub invariant-loop-row : goal.invariant-loop-row
invariant-loop-row l = with_rows (drop l.row-index l.rows) (members_view l.map.entries) ≡ with_rows l.rows no_members
