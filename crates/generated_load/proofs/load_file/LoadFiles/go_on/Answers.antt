use Rattle.std.proofs.Common.{◌-◌, ◌∙◌, ap, arith}
use Rattle.generated_load.specs.Text.{load_text, move_line}
use Rattle.generated_load.proofs.Reading.{next_line}
use Rattle.generated_load.proofs.load_file.LoadFiles.go_on.Goals as goal

pub invariant_of-self : goal.invariant_of-self
invariant_of-self c =
    let more = c.requires.more in
    record {
      place = rw c.len.ensures.value (next_line (load_text c.args.self.now.seed c.args.self.now.moves) c.args.self.now.line.items c.move_line-self.result.items c.args.self.now.at c.args.self.now.left (c.args.self.now.left - 1) c.args.self.now.state c.next-self.result c.args.self.now.place (omega arith) c.next-self.ensures (c.move_line-self.ensures ∙ ap move_line c.upper.ensures));
    }
