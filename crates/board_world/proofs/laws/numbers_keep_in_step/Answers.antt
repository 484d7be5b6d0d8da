use Rattle.std.proofs.Common.{arith}
use Rattle.link_core.proofs.Steps.{start_keeps}
use Rattle.link_core.specs.Core.{sent}
use Rattle.board_world.specs.World.{new_world}
use Rattle.board_world.proofs.Apart.{down_apart, up_apart}
use Rattle.board_world.proofs.Runs.{step_keeps, in_step}
use Rattle.board_world.proofs.laws.numbers_keep_in_step.Goals as goal

pub returns : goal.returns
returns c = record {
  first = λ b pins. start_keeps;
  each = step_keeps;
  always = λ b pins steps. in_step steps (new_world b pins) start_keeps;
  down = λ h k. down_apart (sent h.link) h.link.accepted h.link.down k.down;
  up = λ h k. up_apart h.link.acked h.link.acked h.link.accepted (sent h.link) h.link.up (omega arith) k.up k.accepted_sent k.in_window;
}
