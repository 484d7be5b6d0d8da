-- An answer that is what is wanted.
use Rattle.std.proofs.Common.{◌≡◌, Result, Ok, Err}
use Rattle.cfg_lines.specs.declared.fault.CfgFault.{CfgFault}
use Rattle.cfg_lines.specs.declared.fault.CfgFault.TheVariants.{At, Memory}
use Rattle.cfg_lines.specs.Faults.{AnswersConfiguration}

pub answers_fault : {A : Type 0} (fault : CfgFault) (wanted : Result A CfgFault) → wanted ≡ Err fault → AnswersConfiguration (Err fault) wanted
answers_fault (Memory error) wanted same = tt
answers_fault (At line kind) wanted same = same

pub answers_same : {A : Type 0} (answer wanted : Result A CfgFault) → wanted ≡ answer → AnswersConfiguration answer wanted
answers_same (Ok x) wanted same = same
answers_same (Err fault) wanted same = answers_fault fault wanted same
