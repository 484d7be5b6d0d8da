-- What a command answers before its report is written.
use Rattle.std.specs.Prelude.{◌≡◌, ◌⊎◌, ℕ, List, Option, Some, Ok, Err}
use Rattle.cfg_lines.specs.declared.fault.CfgFault.TheVariants.{At}
use Rattle.cfg_text.specs.Reading.{machine_of_text}
use Rattle.plan_types.specs.declared.cause.Cause.{Cause}
use Rattle.plan_types.specs.declared.cause.Cause.TheVariants as cause
use Rattle.plan_types.specs.declared.machine.Machine.{Machine}
use Rattle.report_text.specs.declared.line.ReportLine.{ReportLine}
use Rattle.session_run.specs.Ends.{IsBare}
use Rattle.host_cli.specs.Promises.{IsAlone}
use Rattle.host_cli.specs.declared.answer.Answer.{Answer}

-- an end line alone, of this cause, and nothing of pulses or links
abbrev pub IsEnd : Cause → Answer → Type 0
IsEnd c a = IsAlone c a.report.lines × (a.cause ≡ c) × IsBare a.report

-- an end line alone, of want of memory or of a file that can't be read
abbrev pub IsCutShort : Answer → Type 0
IsCutShort a = IsEnd cause.Memory a ⊎ IsEnd cause.ReadFault a

-- an end line alone, of a cause or of want of memory
abbrev pub EndsWith : Cause → Answer → Type 0
EndsWith c a = IsEnd c a ⊎ IsEnd cause.Memory a

-- an end line alone, of the cause for which nothing is answered, or of want of memory or of a file that can't be read
abbrev pub IsRefusal : Cause → Answer → Type 0
IsRefusal c a = IsEnd c a ⊎ IsCutShort a

-- an answer of some lines on a machine, which end with the line of a cause, and of nothing else; or one that
-- is cut short
pub record IsAnswerOf (m : Machine) (c : Cause) (wanted : List ReportLine) (a : Answer) : Type 0 where
  pub machine : a.machine ≡ m
  pub cause : a.cause ≡ c
  pub lines : a.report.lines ≡ wanted
  pub bare : IsBare a.report

-- an answer of some lines on a machine, with the cause that its last line tells, or one that is cut short
abbrev pub IsAnswer : Machine → Cause → List ReportLine → Answer → Type 0
IsAnswer m c wanted a = IsAnswerOf m c wanted a ⊎ IsCutShort a

-- the machine of a configuration, where its bytes are told
abbrev pub IsMachineOf : Option (List ℕ) → Machine → Type 0
IsMachineOf told m = (printer : List ℕ) → told ≡ Some printer → machine_of_text printer ≡ Ok m

-- the cause why a configuration has no machine: its first fault, where its bytes are told; or that it can't be read
abbrev pub IsMachineFault : Option (List ℕ) → Cause → Type 0
IsMachineFault told (cause.Config line kind) =
    (printer : List ℕ) → told ≡ Some printer → machine_of_text printer ≡ Err (At line kind)
IsMachineFault told cause.Memory = Unit {0}
IsMachineFault told cause.ReadFault = Unit {0}
IsMachineFault told other = ⊥

-- a cause that says that a machine was there
abbrev pub IsRunCause : Cause → Type 0
IsRunCause cause.Usage = ⊥
IsRunCause (cause.Config line kind) = ⊥
IsRunCause other = Unit {0}

-- an answer whose cause says that a machine was there
abbrev pub HasMachine : Answer → Type 0
HasMachine a = IsRunCause a.cause
