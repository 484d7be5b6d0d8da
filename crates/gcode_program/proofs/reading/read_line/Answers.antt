use Rattle.std.proofs.Common.{◌≡◌, ◌+◌, ℕ, ◌++◌, List, ap, sym, ◌∙◌, subst, append_assoc, Some, length}
use Rattle.plan_types.specs.declared.plan.ReadEnd.{ReadEnd}
use Rattle.plan_types.specs.declared.plan.ReadStop.TheVariants.{Refused}
use Rattle.gcode_program.specs.declared.items.Item.{Item}
use Rattle.gcode_program.specs.Items.{IsGood, ending, items_by, opening_by}
use Rattle.gcode_program.specs.Reader.{AreBytesKnown, IsOn, IsRead, stop_by}
use Rattle.gcode_state.specs.States.{one_if}
use Rattle.gcode_program.proofs.Lining.{line_accepted, line_refused, ok_map, reading_of}
use Rattle.gcode_program.proofs.reading.read_line.Goals as goal

pub returns-in_ok-reading-in-Ok-clause-read : goal.returns-in_ok-reading-in-Ok-clause-read
returns-in_ok-reading-in-Ok-clause-read c = λ all rest told known on. (
    let m = c.args.machine.now in
    let r = c.args.reading.now in
    let line = c.args.line.now in
    let step = c.in-Ok.step in
    let old = c.args.items.now.items in
    let t = c.step_line.new.modes in
    let more = items_by m r.opening r.modes step.action in
    let stop = c.stop_behind-reading.result in
    let x = line_accepted m all c.args.size r.start r.lines r.passed r.modes t r.opening line rest step.action step.passed r.stop stop (told ++ old) known c.in-Ok.ensures.value c.in-Ok.ensures.passed (rw c.one_if.ensures.value at c.stop_behind-reading.ensures)
    (rw c.state.ensures.value at c.add_action-opening.ensures.good) on in
    rw (c.in_ok-reading-in-Ok.ensures.opening, c.one_if.ensures.value, c.in_ok-reading-in-Ok.ensures.items, c.state.ensures.value)
    (subst (λ is. IsRead m all (reading_of t (opening_by r.opening step.action) (r.start + (length line + 1)) (r.lines + 1) (r.passed + one_if step.passed) stop) rest is) (append_assoc told old more) x))

pub returns-in-Err-clause-read : goal.returns-in-Err-clause-read
returns-in-Err-clause-read c =
    let m = c.args.machine.now in
    let r = c.args.reading.now in
    let line = c.args.line.now in
    let old = c.args.items.now.items in
    let t = c.step_line.new.modes in
    let end : ReadEnd = record { lines = r.lines; passed = r.passed; stop = Refused (r.lines + 1) c.in-Err.kind } in
    ok_map c.end_section.result _ _ (λ is all rest told known on.
    rw is (subst (λ xs. IsRead m all (reading_of t r.opening r.start r.lines r.passed (Some end)) rest xs) (append_assoc told old (ending r.opening.goes)) (line_refused m all c.args.size r.start r.lines r.passed r.modes t r.opening line rest c.in-Err.kind r.stop (told ++ old) known c.in-Err.ensures.value on)))
    c.end_section.ensures.items
