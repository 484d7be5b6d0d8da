use Rattle.std.proofs.Common.{◌≡◌, ◌<◌, length, get_or, arith, inl, inr, subst, ◌∙◌}
use Rattle.std.proofs.lemmas.Bool.{cases_lt}
use Rattle.section_feed.specs.declared.board.BoardStream.{BoardStream}
use Rattle.section_feed.specs.Released.{HasReleased}
use Rattle.section_feed.proofs.Changing.{any-default}
use Rattle.section_feed.proofs.section.are_done.Goals as goal

pub loop-board-preserved : goal.loop-board-preserved
loop-board-preserved c = λ k d h l. (
    let i = c.loop-board.board-index in
    let boards = c.args.boards.now in
    elim (cases_lt k i) as (λ _. HasReleased (get_or boards k d)) [
      | inl before ↦ c.loop-board.invariant k d before l
      | inr over ↦ (let q : k ≡ i = omega arith in let inside : i < length boards = omega arith in rw q (subst HasReleased (c.board-item.is ∙ any-default {A = BoardStream} (λ n x y. Unit {0}) boards i c.board-item.result d inside) (c.is_done.ensures c.if-not-is_done.false)))
    ])

pub returns : goal.returns
returns c = λ t. record { each = λ k d l. c.loop-board.invariant k d (omega (arith, c.loop-board-test.false)) l }
