use Rattle.std.proofs.Common.{◌*◌}
use Rattle.plan_types.specs.Clock.{turn_ns}
use Rattle.section_stream.proofs.Adding.{apart-added, due-added, kept-added}
use Rattle.section_stream.proofs.laws.lines_stay_sound.Goals as goal

pub returns-clause-kept : goal.returns-clause-kept
returns-clause-kept c = λ clocks turn line kept after fit. kept-added clocks (turn * turn_ns) line kept after fit

pub returns-clause-apart : goal.returns-clause-apart
returns-clause-apart c = apart-added

pub returns-clause-planned : goal.returns-clause-planned
returns-clause-planned c = due-added
