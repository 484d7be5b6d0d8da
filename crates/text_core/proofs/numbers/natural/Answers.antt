use Rattle.std.proofs.Common.{◌∙◌, sym}
use Rattle.text_core.proofs.Spelled.{whole_text}
use Rattle.text_core.proofs.numbers.natural.Goals as goal

pub returns : goal.returns
returns c = whole_text c.args.text.now c.loop-rest.rest.now c.loop-rest.value (sym c.front_digits.ensures ∙ c.if-not-front_digits.false) c.in_default.len_below
    c.loop-rest.invariant.behind c.loop-rest.invariant.value c.loop-rest.invariant.fits
