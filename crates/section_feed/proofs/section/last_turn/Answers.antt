use Rattle.std.proofs.Common.{◌≡◌, ℕ, ◌<◌, ◌≤◌, Option, Some, None, IfNone, length, max, get_or, arith, ap, inl, inr, subst, ◌∙◌}
use Rattle.std.proofs.lemmas.List.{take_all}
use Rattle.std.proofs.lemmas.Bool.{cases_lt}
use Rattle.section_feed.specs.declared.board.BoardStream.{BoardStream}
use Rattle.section_feed.specs.AllBoards.{latest_packed}
use Rattle.section_feed.specs.Feeding.{lines_of_board}
use Rattle.section_feed.specs.Left.{AreLeft, AreLeftOn}
use Rattle.section_feed.specs.Released.{IsPast, last_in, steppers_in}
use Rattle.section_feed.proofs.Changing.{any-default}
use Rattle.section_feed.proofs.Lasting.{latest-more}
use Rattle.section_feed.proofs.section.last_turn.Goals.{then-turn-last, else-turn-last}
use Rattle.section_feed.proofs.section.last_turn.Goals as goal

later-past : (turn later : ℕ) (b : BoardStream) → turn ≤ later → IsPast turn b → IsPast later b
later-past turn later b h past = record { within = λ kinds base parts released was oid o j l. past.within kinds base parts released was oid o j (omega arith); packed = past.packed }

pub loop-board-preserved : goal.loop-board-preserved
loop-board-preserved c =
    let i = c.loop-board.board-index in
    let boards = c.args.boards.now in
    let last = c.if-turn-last.last in
    let most : last ≡ max c.loop-board.last c.in_ok-turn.turn = elim c.if-turn-last.branch [ then-turn-last w ↦ omega arith | else-turn-last w ↦ omega arith ] in
    let turn : c.in_ok-turn.turn ≡ last_in c.board-item.result = c.in_ok-turn.ensures.value in
    let more = latest-more last_in boards i c.board-item.result (omega arith) c.board-item.is in
    let before = c.loop-board.invariant.last in
    let one : c.loop-board.last ≤ last = elim c.if-turn-last.branch [ then-turn-last w ↦ omega arith | else-turn-last w ↦ omega arith ] in
    let two : c.in_ok-turn.turn ≤ last = elim c.if-turn-last.branch [ then-turn-last w ↦ omega arith | else-turn-last w ↦ omega arith ] in
    record {
      past = λ k d h l. elim (cases_lt k i) as (λ _. IsPast last (get_or boards k d)) [
        | inl before ↦ later-past c.loop-board.last last (get_or boards k d) one (c.loop-board.invariant.past k d before l)
        | inr over ↦ (let q : k ≡ i = omega arith in let inside : i < length boards = omega arith in rw q (subst (IsPast last) (c.board-item.is ∙ any-default {A = BoardStream} (λ n x y. Unit {0}) boards i c.board-item.result d inside) (later-past c.in_ok-turn.turn last c.board-item.result two c.in_ok-turn.ensures.past)))
      ];
      last = omega arith;
    }

pub returns-clause-past : goal.returns-clause-past
returns-clause-past c = record { each = λ k d l. c.loop-board.invariant.past k d (omega (arith, c.loop-board-test.false)) l }

pub returns-clause-value : goal.returns-clause-value
returns-clause-value c = c.loop-board.invariant.last ∙ ap (λ bs. max c.args.first (latest_packed bs)) (take_all c.loop-board.board-index c.args.boards.now (omega (arith, c.loop-board-test.false)))

if-none : (P : Type 0) (r : Option ℕ) → P → IfNone r P
if-none P None h = h
if-none P (Some t) h = tt

pub returns-in_err-turn-clause-left : goal.returns-in_err-turn-clause-left
returns-in_err-turn-clause-left c =
    let i = c.loop-board.board-index in
    let boards = c.args.boards.now in
    let inside : i < length boards = omega (arith, c.loop-board-test.true) in
    if-none (AreLeftOn boards) c.from_residual.result (record {
      board = i;
      inside = inside;
      left = λ d. subst (λ (b : BoardStream). AreLeft (lines_of_board b) (steppers_in b)) (c.board-item.is ∙ any-default {A = BoardStream} (λ n x y. Unit {0}) boards i c.board-item.result d inside) c.in_err-turn.ensures.left;
    })
