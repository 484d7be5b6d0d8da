use Rattle.laws_board.proofs.clocks.Limits.{control_bytes, control_closing, plain_bytes}
use Rattle.laws_board.proofs.clocks.controls_keep_limits.Goals as goal

pub returns : goal.returns
returns c = record {
  plain = plain_bytes;
  all = control_bytes;
  closing = control_closing;
}
