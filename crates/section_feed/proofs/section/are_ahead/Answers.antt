use Rattle.std.proofs.Common.{◌≡◌, ◌<◌, length, get_or, arith, inl, inr, subst, ◌∙◌}
use Rattle.std.proofs.lemmas.Bool.{cases_lt}
use Rattle.section_feed.specs.declared.board.BoardStream.{BoardStream}
use Rattle.section_feed.specs.Going.{IsAhead}
use Rattle.section_feed.proofs.Changing.{any-default}
use Rattle.section_feed.proofs.section.are_ahead.Goals as goal

pub loop-board-preserved : goal.loop-board-preserved
loop-board-preserved c = λ k d h l. (
    let i = c.loop-board.board-index in
    let boards = c.args.boards.now in
    let here : IsAhead c.args.turn c.board-item.result = c.is_ahead.ensures c.if-not-is_ahead.false in
    elim (cases_lt k i) as (λ _. IsAhead c.args.turn (get_or boards k d)) [
      | inl before ↦ c.loop-board.invariant k d before l
      | inr over ↦ (let q : k ≡ i = omega arith in let inside : i < length boards = omega arith in rw q (subst (IsAhead c.args.turn) (c.board-item.is ∙ any-default {A = BoardStream} (λ n x y. Unit {0}) boards i c.board-item.result d inside) here))
    ])

pub returns : goal.returns
returns c = λ t k d l. c.loop-board.invariant k d (omega (arith, c.loop-board-test.false)) l
