use Rattle.digital_out.proofs.Leveling.{law}
use Rattle.digital_out.proofs.law.levels_follow_commands.Goals as goal

pub returns-clause-missed : goal.returns-clause-missed
returns-clause-missed c = λ slots max until calls fair time none. (law slots max until calls fair time none).0

pub returns-clause-level : goal.returns-clause-level
returns-clause-level c = λ slots max until calls fair time none. (law slots max until calls fair time none).1
