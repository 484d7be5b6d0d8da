use Rattle.std.proofs.Common.{◌*◌, ap, arith}
use Rattle.plan_types.specs.Plan.{max_error}
use Rattle.std.proofs.Math.Nat.{div-add-mod}
use Rattle.section_feed.proofs.Lasts.{lines-small}
use Rattle.section_feed.proofs.board.BoardStream.is_ahead.Goals as goal

pub tick-next-requires : goal.tick-next-requires
tick-next-requires c =
    let s = c.args.self.now in
    let small = c.requires.small in
    let is = c.begin_of.ensures in
    let l = lines-small s.lines c.begin_of.result s.lasting (omega arith) in
    omega arith

pub overflow_add-result : goal.overflow_add-result
overflow_add-result c =
    let s = c.args.self.now in
    let small = c.requires.small in
    let begin = c.begin_of.ensures in
    let l = lines-small s.lines c.begin_of.result s.lasting (omega arith) in
    let high = s.lasting.valid.freq_high in
    let is = c.tick-next.ensures in
    let line = ap (λ l. l.freq) c.first.ensures in
    let error = c.max_error.ensures in
    let same = ap max_error line in
    let d = div-add-mod (s.lines.first.freq * 25) 1_000_000 in
    omega arith

pub tick-requires : goal.tick-requires
tick-requires c =
    let s = c.args.self.now in
    let small = c.requires.packed_small in
    let is = c.begin_of-2.ensures in
    let l = lines-small s.lines c.begin_of-2.result s.lasting (omega arith) in
    omega arith
