use Rattle.board_asking.proofs.InTurns.{once-configured, eight-unanswered}
use Rattle.board_asking.proofs.laws.connects_over_turns.Goals as goal

pub returns : goal.returns
returns c = record {
  connected = once-configured;
  given_up = eight-unanswered;
}
