use Rattle.std.proofs.Common.{◌≡◌, ◌∙◌, rules, refl}
use Rattle.generated_load.specs.Text.{load_text}
use Rattle.generated_load.proofs.Reading.{read_on}
use Rattle.generated_load.proofs.load_file.LoadFilesFiles.read.Goals as goal

pub lines-preserved : goal.lines-preserved
lines-preserved c =
    let f = c.lines.self in
    let same : load_text f.seed f.moves ≡ load_text c.args.self.now.seed c.args.self.now.moves = rw (c.lines.invariant.seed, c.lines.invariant.moves) refl in
    record {
      seed = c.read_line-more.ensures.seed ∙ c.lines.invariant.seed;
      moves = c.read_line-more.ensures.moves ∙ c.lines.invariant.moves;
      read = read_on (load_text c.args.self.now.seed c.args.self.now.moves) (load_text f.seed f.moves) c.args.into.now c.lines.into c.read_line-more.new.into c.args.from c.in-Some.place c.lines.count c.read_line-more.result same (search rules) c.lines.invariant.read c.read_line-more.ensures.read;
    }
