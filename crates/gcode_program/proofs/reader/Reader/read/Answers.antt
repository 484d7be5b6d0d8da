use Rattle.std.proofs.Common.{◌≡◌, ℕ, ◌++◌, ◌∙◌, List, ap, sym, subst, drop}
use Rattle.gcode_program.proofs.Lining.{no_stop, reader_read, reader_stopped, stopped}
use Rattle.gcode_program.proofs.reader.Reader.read.Goals as goal

pub returns : goal.returns
returns c = λ text told h. (
    let s = c.args.self.now in
    let both = c.deref.result.now in
    let is = c.deref.ensures.value in
    let none = no_stop s.reading.stop c.is_some.result c.is_some.ensures c.if-is_some.false in
    let lines = c.in_ok-used.ensures in
    reader_read c.args.machine.now s.reading c.read_lines.new.reading s.carry.items c.args.bytes.now both c.drop_first.new.carry.items text c.in_ok-used.used told c.args.items.now.items c.read_lines.new.items.items none (is ∙ c.in_ok-extend_from_slice.ensures.items) (c.drop_first.ensures ∙ ap (drop c.in_ok-used.used) (sym is)) lines.used lines.place lines.open_end lines.read h)
