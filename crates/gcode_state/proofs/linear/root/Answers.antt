use Rattle.std.proofs.Common.{sym, ◌∙◌}
use Rattle.plan_types.proofs.Roots.{square_root-unique}
use Rattle.gcode_state.proofs.linear.root.Goals as goal

pub returns : goal.returns
returns c = sym (square_root-unique c.args.n c.isqrt.result c.isqrt.ensures.square c.isqrt.ensures.next_square)
