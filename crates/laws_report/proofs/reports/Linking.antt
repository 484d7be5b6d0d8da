-- The report of a run over links checks.
use Rattle.std.proofs.Common.{◌≡◌, ◌≢◌, ℕ, ◌+◌, ◌≤◌, List, sym, subst, arith, Some}
use Rattle.gcode_program.specs.Programs.{program_end}
use Rattle.laws_board.proofs.Names.{Cause, Machine, ReadStop}
use Rattle.plan_types.specs.declared.cause.Cause.TheVariants as cause
use Rattle.plan_types.specs.declared.plan.ReadStop.TheVariants as read
use Rattle.laws_report.specs.reports.Logged.{IsCauseOn}
use Rattle.laws_run.specs.run_ends.Ends.{GoesThrough}
use Rattle.laws_run.proofs.run_limits.Few.{read_few, stop_line}
use Rattle.laws_report.specs.reports.Body.{cause_of}

-- a run that went through was written whole
pub written-whole : (c : Cause) → GoesThrough c → (c ≢ cause.Memory) × (c ≢ cause.WriteFault)
written-whole cause.Done g = (λ e. let f : cause.Done ≡ cause.Memory = e in cc, λ e. let f : cause.Done ≡ cause.WriteFault = e in cc)
written-whole (cause.Line line kind) g = (λ e. let f : cause.Line line kind ≡ cause.Memory = e in cc, λ e. let f : cause.Line line kind ≡ cause.WriteFault = e in cc)
written-whole (cause.Asked line) g = (λ e. let f : cause.Asked line ≡ cause.Memory = e in cc, λ e. let f : cause.Asked line ≡ cause.WriteFault = e in cc)
written-whole c g = absurd g

-- the line at which the reading of a text stopped has a number of 64 bits
cause-small : (m : Machine) (stop : ReadStop) → stop_line stop ≤ 1 + 1_073_741_824 → IsCauseOn m (cause_of stop)
cause-small m read.End few = tt
cause-small m c few = omega (arith, few)

pub text-cause : (m : Machine) (text : List ℕ) (c : Cause) → c ≡ cause_of (program_end m text).stop → IsCauseOn m c
text-cause m text c is = subst (λ (x : Cause). IsCauseOn m x) (sym is) (cause-small m (program_end m text).stop (read_few m text).stop)

pub same-log : (x y : List ℕ) → Some x ≡ Some y → x ≡ y
same-log x y e = cc
