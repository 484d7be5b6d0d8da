use Rattle.laws_report.proofs.loads.Texts.{load_end, load_sections}
use Rattle.laws_report.proofs.loads.loads_are_accepted.Goals as goal

pub returns-clause-accepted : goal.returns-clause-accepted
returns-clause-accepted c = λ seed moves few. load_end seed moves few

pub returns-clause-sections : goal.returns-clause-sections
returns-clause-sections c = λ seed moves few. load_sections seed moves few
