use Rattle.std.proofs.Common.{◌∙◌, sym, map, string_bytes}
use Rattle.std.proofs.lemmas.Result.{err_from_is_err_and}
use Rattle.command_words.specs.Forms.{is_name}
use Rattle.command_words.proofs.Answers.{all_map, asked_is, none_asked, nothing_asked}
use Rattle.command_words.proofs.words.read_words.Goals as goal

pub returns-then-not-are_names-clause-usage : goal.returns-then-not-are_names-clause-usage
returns-then-not-are_names-clause-usage c =
    λ usage. none_asked (map string_bytes c.args.words.now) (all_map is_name string_bytes c.args.words.now ∙ sym c.if-not-are_names.ensures)

pub parsed_call-requires : goal.parsed_call-requires
parsed_call-requires c = all_map is_name string_bytes c.args.words.now ∙ sym c.if-not-are_names.ensures

pub returns-in_err-call-clause-usage : goal.returns-in_err-call-clause-usage
returns-in_err-call-clause-usage c =
    let p = err_from_is_err_and c.from_residual.result c.from_residual.ensures.1 in
    rw (p.1, p.2) (λ usage. nothing_asked (map string_bytes c.args.words.now) (all_map is_name string_bytes c.args.words.now ∙ sym c.if-not-are_names.ensures)
    (c.in_err-call.ensures.usage usage))

pub returns-in-Some-clause-form : goal.returns-in-Some-clause-form
returns-in-Some-clause-form c =
    asked_is (map string_bytes c.args.words.now) _ _ (all_map is_name string_bytes c.args.words.now ∙ sym c.if-not-are_names.ensures)
    c.in_ok-call.ensures.call c.in-Some.ensures

pub returns-in-None-clause-usage : goal.returns-in-None-clause-usage
returns-in-None-clause-usage c =
    λ usage. asked_is (map string_bytes c.args.words.now) _ _ (all_map is_name string_bytes c.args.words.now ∙ sym c.if-not-are_names.ensures)
    c.in_ok-call.ensures.call c.in-None.ensures
