use Rattle.std.proofs.Common.{◌∙◌, ◌≡◌, ℕ, List, subst}
use Rattle.host_cli.specs.Checks.{IsCheckAnswer}
use Rattle.host_cli.proofs.Cuts.{text-cut}
use Rattle.host_cli.proofs.check.check_file.Goals as goal

pub returns-in-Ok-read_text-clause-answer : goal.returns-in-Ok-read_text-clause-answer
returns-in-Ok-read_text-clause-answer g c = λ text log told small told_log log_small.
    let text_is = c.deref.ensures.value ∙ c.in-Ok.ensures.text text told ∙ text-cut text small in
    let log_is = c.deref-in-Ok-read_text.ensures.value ∙ c.in-Ok-read_text.ensures.text log (c.read_text.ensures.same c.args.report.now ∙ told_log) ∙ text-cut log log_small in
    let G : List ℕ → Type 0 = λ t. IsCheckAnswer c.args.machine t c.deref-in-Ok-read_text.result.now c.check_text.result in
    let H : List ℕ → Type 0 = λ l. IsCheckAnswer c.args.machine text l c.check_text.result in
    subst H log_is (subst G text_is c.check_text.ensures.answer)
