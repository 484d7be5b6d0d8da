use Rattle.std.proofs.Common.{◌∙◌, arith, ap, length}
use Rattle.gcode_text.specs.Blanks.{is_blank}
use Rattle.gcode_text.proofs.Rows.{row-blanks, row-number, length-behind, length-number}
use Rattle.gcode_text.proofs.line.given.Goals as goal

pub returns-then-not-may_be_number-clause-words : goal.returns-then-not-may_be_number-clause-words
returns-then-not-may_be_number-clause-words c bare slots = rw c.in_ok-rest.ensures.rest (row-blanks c.args.text.now bare slots)

pub returns-then-not-may_be_number-clause-length : goal.returns-then-not-may_be_number-clause-length
returns-then-not-may_be_number-clause-length c = rw c.in_ok-rest.ensures.rest (length-behind is_blank c.args.text.now)

pub returns-clause-words : goal.returns-clause-words
returns-clause-words c bare slots = rw c.in_ok-rest-2.ensures.rest (row-blanks c.in-Some.rest.now bare slots ∙ (rw c.in-Some.ensures.rest (row-number c.args.text.now bare slots)))

pub returns-clause-length : goal.returns-clause-length
returns-clause-length c = rw c.in_ok-rest-2.ensures.rest (omega (arith, length-behind is_blank c.in-Some.rest.now, rw c.in-Some.ensures.rest at (length-behind is_blank c.in-Some.rest.now), length-number c.args.text.now, ap length c.in-Some.ensures.rest))
