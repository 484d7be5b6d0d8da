use Rattle.std.proofs.Common.{◌≡◌, ◌+◌, ◌*◌, ◌<◌, [], ◌∷◌, ◌++◌, length, ap, arith, refl, subst, sym, ◌∙◌, List}
use Rattle.std.specs.Prelude.{set}
use Rattle.std.specs.Vec.{with_item}
use Rattle.clock_line.specs.Kept.{added}
use Rattle.msg_code.specs.declared.talk.NoteNews.{NoteNews}
use Rattle.msg_code.specs.declared.talk.NoteNews.TheVariants as news
use Rattle.plan_types.specs.Clock.{turn_ns}
use Rattle.plan_types.specs.Lines.{Clocks}
use Rattle.plan_types.specs.Sections.{clocks_at}
use Rattle.section_feed.specs.Boards.{IsLasting, MayTake}
use Rattle.section_feed.specs.Lined.{line_at}
use Rattle.motion_work.specs.Further.{WasHeard}
use Rattle.motion_stream.specs.declared.course.BoardLines.{BoardLines}
use Rattle.motion_stream.specs.Uptakes.{AddsTo, HasTold}
use Rattle.motion_stream.proofs.Leaving.{one_more, told_more}
use Rattle.motion_stream.proofs.Uptaking.{board_held, each_long, line_lasts, line_taken, one_sound, read_at}
use Rattle.motion_stream.proofs.uptake.take_one.Goals as goal

pub may_take-requires : goal.may_take-requires
may_take-requires c =
    let m = c.args.machine.now in
    let old = c.args.course.now in
    let s = c.requires.sound in
    let long = each_long m old s.seen (c.args.k + 260) (c.args.k + 261) s.is c.requires.on in
    let b = c.from-board.result in
    let boards = c.len.ensures in
    let below = c.if-board-len.false in
    let lt : b < length m.boards = omega (arith, boards, below) in
    subst IsLasting (sym (read_at old.lines.each.items b c.index.result.now c.index.ensures (omega (arith, long, lt)))) (line_lasts m old s.seen (c.args.k + 260) (c.args.k + 261) b s.is c.requires.on c.requires.early lt)

pub add-requires-clause-tick_small : goal.add-requires-clause-tick_small
add-requires-clause-tick_small c =
    let m = c.args.machine.now in
    let old = c.args.course.now in
    let s = c.requires.sound in
    let boards = c.len.ensures in
    let below = c.if-board-len.false in
    (board_held m old s.seen c.args.k c.from-board.result c.from-from.result c.args.one.now.line c.index.result.now c.index_mut.result.now s.is c.requires.on c.requires.early (omega (arith, boards, below)) c.index.ensures c.index_mut.ensures.value c.from-from.ensures (c.if-not-may_take.ensures.0 refl)).tick_small

pub add-requires-clause-start_small : goal.add-requires-clause-start_small
add-requires-clause-start_small c =
    let m = c.args.machine.now in
    let old = c.args.course.now in
    let s = c.requires.sound in
    let boards = c.len.ensures in
    let below = c.if-board-len.false in
    (board_held m old s.seen c.args.k c.from-board.result c.from-from.result c.args.one.now.line c.index.result.now c.index_mut.result.now s.is c.requires.on c.requires.early (omega (arith, boards, below)) c.index.ensures c.index_mut.ensures.value c.from-from.ensures (c.if-not-may_take.ensures.0 refl)).start_small

pub add-requires-clause-plan_small : goal.add-requires-clause-plan_small
add-requires-clause-plan_small c =
    let m = c.args.machine.now in
    let old = c.args.course.now in
    let s = c.requires.sound in
    let boards = c.len.ensures in
    let below = c.if-board-len.false in
    (board_held m old s.seen c.args.k c.from-board.result c.from-from.result c.args.one.now.line c.index.result.now c.index_mut.result.now s.is c.requires.on c.requires.early (omega (arith, boards, below)) c.index.ensures c.index_mut.ensures.value c.from-from.ensures (c.if-not-may_take.ensures.0 refl)).plan_small

pub returns-clause-taken : goal.returns-clause-taken
returns-clause-taken c = λ seen heard_of heard h.
    let m = c.args.machine.now in
    let old = c.args.course.now in
    let each = old.lines.each.items in
    let b = c.from-board.result in
    let k = c.args.k in
    let one = c.args.one.now in
    let line = one.line in
    let s = c.requires.sound in
    let long = each_long m old s.seen (c.args.k + 260) (c.args.k + 261) s.is c.requires.on in
    let boards = c.len.ensures in
    let below = c.if-board-len.false in
    let lt : b < length m.boards = omega (arith, boards, below) in
    let here = read_at each b c.index_mut.result.now c.index_mut.ensures.value (omega (arith, long, lt)) in
    let may = subst (λ (x : Clocks). MayTake x (k + 277) line) (read_at each b c.index.result.now c.index.ensures (omega (arith, long, lt))) (c.if-not-may_take.ensures.0 refl) in
    let added_is : c.add.new.self ≡ added (clocks_at each b) ((k + 277) * turn_ns) line = c.in_ok-add.ensures.ok ∙ ap (λ (x : Clocks). added x (c.from-from.result * turn_ns) line) here ∙ ap (λ n. added (clocks_at each b) (n * turn_ns) line) c.from-from.ensures in
    let lines : BoardLines = record old.lines { each = with_item old.lines.each b c.add.new.self } in
    let adds = subst (λ n. AddsTo b n line old.current c.add_to.new.current) refl c.in_ok-add_to.ensures in
    let told = line_taken m old c.add_to.new.current lines seen heard_of k b (k + 277) line c.args.news.now h c.requires.next refl c.requires.on c.requires.early lt may adds (ap (λ (x : Clocks). set each b x) added_is) refl (subst (λ n. WasHeard n line heard_of) (sym c.from-board.ensures) heard) in
    let e : c.args.news.now ++ news.Line b line ((k + 277) * turn_ns) ∷ [] ≡ c.push.new.self =
    ap (λ n. c.args.news.now ++ news.Line n line ((k + 277) * turn_ns) ∷ []) c.from-board.ensures ∙ ap (λ n. c.args.news.now ++ news.Line one.board line (n * turn_ns) ∷ []) (sym c.from-from.ensures) ∙ sym c.in_ok-push.ensures.ok in
    subst (λ (ns : List NoteNews). HasTold m seen heard_of k c.args.news.now ns (record old { current = c.add_to.new.current; lines = lines })) e told

pub returns-clause-sound : goal.returns-clause-sound
returns-clause-sound c = one_sound c.args.machine.now c.args.course.now c.args.k c.args.one.now c.args.news.now c.push.new.self _ c.requires.sound (returns-clause-taken c)

pub returns-clause-told : goal.returns-clause-told
returns-clause-told c = λ low may. told_more c.args.one.now.board (c.from-from.result * turn_ns) c.args.one.now.line c.args.news.now c.push.new.self c.in_ok-push.ensures.ok

pub returns-clause-more : goal.returns-clause-more
returns-clause-more c =
    let m = c.args.machine.now in
    let old = c.args.course.now in
    let each = old.lines.each.items in
    let b = c.from-board.result in
    let line = c.args.one.now.line in
    let s = c.requires.sound in
    let long = each_long m old s.seen (c.args.k + 260) (c.args.k + 261) s.is c.requires.on in
    let boards = c.len.ensures in
    let below = c.if-board-len.false in
    let lt : b < length m.boards = omega (arith, boards, below) in
    let here = read_at each b c.index_mut.result.now c.index_mut.ensures.value (omega (arith, long, lt)) in
    let added_is : c.add.new.self ≡ added (clocks_at each b) ((c.args.k + 277) * turn_ns) line = c.in_ok-add.ensures.ok ∙ ap (λ (x : Clocks). added x (c.from-from.result * turn_ns) line) here ∙ ap (λ n. added (clocks_at each b) (n * turn_ns) line) c.from-from.ensures in
    one_more each (set each b c.add.new.self) c.args.one.now.board (c.args.k + 277) (c.from-from.result * turn_ns) line c.args.news.now c.push.new.self c.in_ok-push.ensures.ok
    (ap (λ (x : Clocks). set each b x) added_is ∙ ap (λ n. line_at each n (c.args.k + 277) line) c.from-board.ensures)
