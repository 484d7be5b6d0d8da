use Rattle.std.proofs.Common.{◌≡◌, ◌<◌, List, length, map, get_or, arith, ap, refl, sym, ◌∙◌, subst}
use Rattle.std.proofs.lemmas.List.{length-set}
use Rattle.section_feed.specs.declared.board.BoardStream.{BoardStream}
use Rattle.section_feed.specs.Boards.{MayTake}
use Rattle.section_feed.specs.Feeding.{lines_of_board}
use Rattle.section_feed.specs.Lined.{with_line}
use Rattle.section_feed.specs.Queues.{drawn_to}
use Rattle.section_feed.specs.Rests.{AreAllRested}
use Rattle.section_feed.specs.Sections.{AreBoards}
use Rattle.section_feed.specs.Sets.{BoardSet, set_of}
use Rattle.section_feed.proofs.Lined.{IsBoardLined, boards-lined, rested-lined, sets-here, sets-others}
use Rattle.section_feed.proofs.Sectioning.{at-mapped}
use Rattle.section_feed.proofs.section.SectionStream.add_line.Goals as goal

pub add_line-requires-clause-may : goal.add_line-requires-clause-may
add_line-requires-clause-may c =
    let s = c.args.self.now in
    let board = c.args.board in
    let old = c.index_mut.result.now in
    let items = ap (λ v. v.items) c.replace-boards.ensures.value in
    let own : old ≡ get_or s.boards.items board old = c.index_mut.ensures.value ∙ ap (λ (bs : List BoardStream). get_or bs board old) items in
    subst (λ (b : BoardStream). MayTake (lines_of_board b) c.args.turn c.args.line) (sym own)
    (subst (λ (x : BoardSet). MayTake x.clocks c.args.turn c.args.line) (at-mapped s.boards.items board (set_of old) old c.requires.there) (c.requires.may (set_of old)))

pub returns : goal.returns
returns c =
    let s = c.args.self.now in
    let board = c.args.board in
    let turn = c.args.turn in
    let line = c.args.line in
    let old = c.index_mut.result.now in
    let new = c.add_line.new.self in
    let xs = c.replace-boards.result.items in
    let items : xs ≡ s.boards.items = ap (λ v. v.items) c.replace-boards.ensures.value in
    let is = c.index_mut.ensures.value in
    let many = ap (λ (bs : List BoardStream). length bs) items in
    let there = c.requires.there in
    let inside : board < length xs = omega arith in
    let ok = c.in_ok-add_line.ensures in
    let same = c.add_line.ensures in
    let lined : IsBoardLined turn line old new = record { on = ok.on; lines = ok.lines; time = same.time; next = same.turn; first = same.first; slots = same.slots; count = ok.count; goes = same.goes; rested = ok.rested } in
    record {
      on = λ scv moves kinds base released h. record {
        parts = h.parts;
        queue = h.queue;
        boards = boards-lined xs board turn line old new (drawn_to s.queue) kinds base h.parts released inside is lined (subst (λ (bs : List BoardStream). AreBoards bs (drawn_to s.queue) kinds base h.parts released) (sym items) h.boards);
      };
      next = refl;
      queue = refl;
      boards = length-set xs board new ∙ many;
      here = λ d. sets-here xs board turn line old new d inside is lined ∙ ap (λ (bs : List BoardStream). with_line turn line (get_or (map set_of bs) board d)) items;
      others = λ b d other. sets-others xs board b new d other ∙ ap (λ (bs : List BoardStream). get_or (map set_of bs) b d) items;
      rested = λ low before all. rested-lined xs board turn low line old new inside is before lined (subst (AreAllRested low) (sym items) all);
    }
