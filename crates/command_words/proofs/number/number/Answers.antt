use Rattle.std.proofs.Common.{◌∙◌, sym, ap, arith}
use Rattle.std.specs.List.{list_all}
use Rattle.text_core.specs.Bytes.{is_digit}
use Rattle.command_words.proofs.Answers.{none_of, too_large}
use Rattle.command_words.proofs.number.number.Goals as goal

pub returns-in_default-2 : goal.returns-in_default-2
returns-in_default-2 c =
    none_of c.args.most c.args.limit c.args.text.now
    (too_large c.args.text.now c.args.limit (omega arith) (ap (list_all is_digit) (sym c.as_bytes.ensures.value) ∙ sym c.if-not-are_digits.ensures) (omega arith) c.in_default.ensures.value.0)
