use Rattle.std.proofs.Common.{◌≡◌, ◌∙◌, ◌-◌, ℕ, List, ◌++◌, ap, drop, take, length, rules, refl}
use Rattle.std.proofs.lemmas.List.{take_rest}
use Rattle.generated_load.specs.Text.{load_text}
use Rattle.generated_load.proofs.Reading.{read_in_line}
use Rattle.generated_load.proofs.load_file.LoadFiles.read_line.Goals as goal

pub returns-clause-read : goal.returns-clause-read
returns-clause-read c =
    let f = c.seek.new.self in
    let skipped = c.min-skipped.result in
    let line = c.as_slice.result.now in
    let rest : List ℕ = take (length line - skipped) (drop skipped line) in
    let is_rest : rest ≡ drop skipped f.line.items = take_rest line skipped ∙ ap (λ t. drop skipped t) c.as_slice.ensures.value in
    let same : load_text f.seed f.moves ≡ load_text c.args.self.now.seed c.args.self.now.moves = rw (c.seek.ensures.seed, c.seek.ensures.moves) refl in
    rw (← same) (read_in_line (load_text f.seed f.moves) f.line.items rest c.args.into.now (c.copy_from_slice.new.self ++ drop c.min-count.result c.args.into.now) f.at f.left f.state c.args.from skipped c.min-count.result
    f.place c.seek.ensures.before c.seek.ensures.found (search rules) is_rest (search rules) (search rules))
