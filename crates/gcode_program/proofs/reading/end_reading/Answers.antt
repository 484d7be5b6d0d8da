use Rattle.std.proofs.Common.{◌≡◌, ◌++◌, List, ap, sym, ◌∙◌, subst, append_assoc}
use Rattle.plan_types.specs.declared.plan.ReadEnd.{ReadEnd}
use Rattle.plan_types.specs.declared.plan.ReadStop.TheVariants.{End}
use Rattle.gcode_program.specs.Items.{ending}
use Rattle.gcode_program.specs.Reader.{IsAll}
use Rattle.gcode_program.proofs.Lining.{all_ended}
use Rattle.gcode_program.proofs.reading.end_reading.Goals as goal

pub returns : goal.returns
returns c = λ m all told h. (
    let r = c.args.reading.now in
    let old = c.args.items.now.items in
    let on = h.goes c.in_default.is in
    let end : ReadEnd = record { lines = r.lines; passed = r.passed; stop = End } in
    subst (λ is. IsAll m all end is) (append_assoc told old (ending r.opening.goes) ∙ ap (λ is. told ++ is) (sym c.in_ok-end_section.ensures.items)) (all_ended m all r.opening r.lines r.passed (told ++ old) on.good on.coming))
