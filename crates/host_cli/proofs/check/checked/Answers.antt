use Rattle.std.proofs.Common.{List, subst, sym}
use Rattle.log_check.specs.Steps.{CanPlan}
use Rattle.plan_types.specs.declared.plan.Section.{Section}
use Rattle.host_cli.proofs.Checked.{can_plan}
use Rattle.host_cli.proofs.check.checked.Goals as goal

pub check_log-requires-clause-sections : goal.check_log-requires-clause-sections
check_log-requires-clause-sections c =
    let G : List Section → Type 0 = λ s. CanPlan s in
    subst G (sym c.as_slice.ensures) (can_plan c.in_ok-program.program.sections c.in_ok-program.ensures.plannable)
