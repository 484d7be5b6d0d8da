use Rattle.section_stream.proofs.Adding.{one-apart}
use Rattle.section_stream.proofs.laws.one_line_is_apart.Goals as goal

pub returns : goal.returns
returns c = one-apart
