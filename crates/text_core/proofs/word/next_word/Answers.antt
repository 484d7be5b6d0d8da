use Rattle.std.proofs.Common.{◌≡◌, ◌<◌, length, arith}
use Rattle.std.proofs.lemmas.Bool.Decides.{nat_tests}
use Rattle.text_core.proofs.FirstWord.{next-none, next-shorter, next-some}
use Rattle.text_core.proofs.word.next_word.Goals as goal

pub returns-then-is_empty-clause-none : goal.returns-then-is_empty-clause-none
returns-then-is_empty-clause-none c = let none : length c.skip_blanks-words.result.now ≡ 0 = grind (arith, nat_tests) in
    next-none c.args.text.now c.skip_blanks-words.result.now c.skip_blanks-words.ensures none

pub returns-clause-some : goal.returns-clause-some
returns-clause-some c = let some : 0 < length c.skip_blanks-words.result.now = grind (arith, nat_tests) in
    next-some c.args.text.now c.skip_blanks-words.result.now c.word_length-end.result c.skip_blanks-words.ensures some c.word_length-end.ensures.count c.word_length-end.ensures.short

pub returns-clause-shorter : goal.returns-clause-shorter
returns-clause-shorter c = let some : 0 < length c.skip_blanks-words.result.now = grind (arith, nat_tests) in
    next-shorter c.args.text.now c.skip_blanks-words.result.now c.word_length-end.result c.skip_blanks-words.ensures some c.word_length-end.ensures.count c.word_length-end.ensures.short
