use Rattle.motion_stream.specs.Motions.{with_heed}
use Rattle.motion_stream.proofs.text.take_word.Goals as goal

pub returns : goal.returns
returns c = λ seen h. c.in_ok-keep_lines.ensures (with_heed c.args.machine.now seen c.args.word.now) (c.in_ok-heed_word.ensures seen h)
