use Rattle.std.proofs.Common.{◌≡◌, ℕ, ◌++◌, List}
use Rattle.gcode_program.proofs.Lining.{no_bytes, no_stop, ok_map, read_none, read_over, read_rest, stopped}
use Rattle.gcode_program.proofs.reading.read_last.Goals.{then-is_some-via-then-is_some, then-is_some-via-else-is_some+then-is_empty}
use Rattle.gcode_program.proofs.reading.read_last.Goals as goal

pub returns-then-is_some-clause-read : goal.returns-then-is_some-clause-read
returns-then-is_some-clause-read c = λ text told h. (
    let m = c.args.machine.now in
    let r = c.args.reading.now in
    let carry = c.args.carry.now in
    elim c.then-is_some.branch [
      | then-is_some-via-then-is_some w ↦ read_over m r carry text (told ++ c.args.items.now.items) (stopped r.stop c.is_some.result c.is_some.ensures w.if-is_some.true) h
      | then-is_some-via-else-is_some+then-is_empty w ↦ read_none m r carry text (told ++ c.args.items.now.items) (no_bytes carry w.is_empty.result w.is_empty.ensures w.if-is_empty.true) h
    ])

pub returns-clause-read : goal.returns-clause-read
returns-clause-read c =
    let m = c.args.machine.now in
    let r = c.args.reading.now in
    let carry = c.args.carry.now in
    let goes = no_stop r.stop c.is_some.result c.is_some.ensures c.if-is_some.false in
    ok_map c.read_line.result _ _ (λ read text told h. read_rest m r c.read_line.new.reading carry text c.read_line.new.items.items c.args.items.now.items c.is_empty.result goes c.is_empty.ensures c.if-is_empty.false read told h) c.read_line.ensures.read
