use Rattle.std.proofs.Common.{[], ◌++◌, sym, ap, ◌∙◌, append-nil, Option}
use Rattle.log_check.specs.declared.further.Further.{Further}
use Rattle.log_check.specs.Behind.{with_one}
use Rattle.log_check.proofs.Furthers.{pulse-says-none}
use Rattle.log_check.proofs.further.look_at.Goals as goal

pub returns-then-is_pulse-clause-value : goal.returns-then-is_pulse-clause-value
returns-then-is_pulse-clause-value c =
    let old = c.args.found.now.items in
    let none = pulse-says-none c.args.machine.now c.args.line.now (sym c.is_pulse.ensures ∙ c.if-is_pulse.true) in
    sym (ap (λ (f : Option Further). old ++ with_one f []) none ∙ append-nil old)
