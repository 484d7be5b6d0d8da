use Rattle.std.proofs.Common.{◌∙◌, sym}
use Rattle.text_core.proofs.Found.{number_found, number_missed, whole_below}
use Rattle.text_core.proofs.numbers.find.Goals as goal

pub returns-then-not-readable-clause-none : goal.returns-then-not-readable-clause-none
returns-then-not-readable-clause-none c = let p = c.split_number-found.ensures in let r = c.split_number-found.result in
    number_missed c.args.text.now r.rest.now c.args.most r.whole_count r.decimal_count p.whole_count p.decimal_count p.rest (sym c.readable.ensures ∙ c.if-not-readable.true)

pub returns-clause-number : goal.returns-clause-number
returns-clause-number c = let p = c.split_number-found.ensures in let r = c.split_number-found.result in
    number_found c.args.text.now r.rest.now c.args.most r.whole_count r.whole r.decimal_count r.millionths r.negative c.requires p.negative p.whole_count p.whole p.decimal_count p.millionths p.rest
    (sym c.readable.ensures ∙ c.if-not-readable.false)

pub returns-clause-whole : goal.returns-clause-whole
returns-clause-whole c = let p = c.split_number-found.ensures in let r = c.split_number-found.result in
    whole_below c.args.text.now r.rest.now c.args.most r.whole_count r.whole r.decimal_count p.whole_count p.whole (sym c.readable.ensures ∙ c.if-not-readable.false)
