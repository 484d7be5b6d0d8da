use Rattle.motion_stream.specs.Motions.{with_lines}
use Rattle.motion_stream.proofs.text.heed_word.Goals as goal

pub returns : goal.returns
returns c = λ seen h. c.take_answer.ensures (with_lines c.args.machine.now seen c.args.word.now) (c.in_ok-take_lines.ensures seen h)

pub take_answer-requires : goal.take_answer-requires
take_answer-requires c = (c.in_ok-take_lines.ensures c.requires.seen c.requires.is).small
