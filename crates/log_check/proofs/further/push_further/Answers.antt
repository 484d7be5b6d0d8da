use Rattle.std.proofs.Common.{◌<◌, ◌^◌, [], ◌∷◌}
use Rattle.std.proofs.lemmas.List.Elements.{All-append, All-cons, All-nil}
use Rattle.log_check.specs.declared.further.Further.{Further}
use Rattle.log_check.proofs.further.push_further.Goals as goal

pub returns-in_ok-push-clause-early : goal.returns-in_ok-push-clause-early
returns-in_ok-push-clause-early c =
    let P : Further → Type 0 = λ f. f.from < 2 ^ 64 in
    rw c.in_ok-push.ensures.items (All-append P c.args.found.now.items (c.in-Some.further ∷ []) c.requires.early (All-cons P c.in-Some.further [] c.in-Some.ensures.early (All-nil P)))
