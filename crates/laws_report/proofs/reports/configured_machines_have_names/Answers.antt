use Rattle.laws_report.proofs.reports.Configured.{names-of-reading}
use Rattle.laws_report.proofs.reports.configured_machines_have_names.Goals as goal

pub returns : goal.returns
returns c = λ printer m e. names-of-reading printer m e
