use Rattle.laws_board.proofs.clocks.Configured.{all_configured, configured_before, some_configured}
use Rattle.laws_board.proofs.clocks.boards_are_configured_once.Goals as goal

pub returns : goal.returns
returns c = record {
  front = some_configured;
  before = configured_before;
  whole = all_configured;
}
