-- The answer of a reader that may be refused memory.
use Rattle.std.specs.Prelude.{◌≡◌, Option, Some, Result, Ok, Err}
use Rattle.cfg_lines.specs.declared.fault.CfgFault.{CfgFault}
use Rattle.cfg_lines.specs.declared.fault.CfgFault.TheVariants.{At, Memory}

-- a fault other than want of memory is the one that the text has
abbrev pub IsFirstFault : CfgFault → Option CfgFault → Type 0
IsFirstFault (Memory error) first = Unit {0}
IsFirstFault (At line kind) first = first ≡ Some (At line kind)

-- what follows, unless there is a fault
infixl 10 ◌>>=◌
abbrev pub ◌>>=◌ : {A B : Type 0} → Result A CfgFault → (A → Result B CfgFault) → Result B CfgFault
(Ok x) >>= f = f x
(Err fault) >>= f = Err fault

-- a reader's answer is this, but for want of memory
abbrev pub AnswersConfiguration : {A : Type 0} → Result A CfgFault → Result A CfgFault → Type 0
AnswersConfiguration (Ok x) wanted = wanted ≡ Ok x
AnswersConfiguration (Err (Memory error)) wanted = Unit {0}
AnswersConfiguration (Err (At line kind)) wanted = wanted ≡ Err (At line kind)
