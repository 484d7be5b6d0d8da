use Rattle.std.proofs.Common.{rules}
use Rattle.report_text.proofs.Writing.{lines-front-at, lines-more-at, lines-whole, all-front}
use Rattle.report_text.proofs.write.write_lines.Goals as goal

pub returns-in_err-write_line-clause-front : goal.returns-in_err-write_line-clause-front
returns-in_err-write_line-clause-front g c =
    lines-front-at c.args.machine.now (g.S.Sink.written c.args.out.now) (g.S.Sink.written c.loop-line.out) (g.S.Sink.written c.write_line.new.out) c.args.lines.now c.loop-line.line-index _ (search rules) c.loop-line.invariant.shown c.write_line.ensures.front

pub loop-line-preserved : goal.loop-line-preserved
loop-line-preserved g c = record {
  faults = search rules;
  shown = lines-more-at c.args.machine.now (g.S.Sink.written c.args.out.now) (g.S.Sink.written c.loop-line.out) (g.S.Sink.written c.write_line.new.out) c.args.lines.now c.loop-line.line-index _ (search rules) c.loop-line.invariant.shown c.in_ok-write_line.ensures.all;
}

pub returns-clause-all : goal.returns-clause-all
returns-clause-all g c = lines-whole c.args.machine.now (g.S.Sink.written c.args.out.now) (g.S.Sink.written c.loop-line.out) c.args.lines.now c.loop-line.line-index (search rules) c.loop-line.invariant.shown

pub returns-clause-front : goal.returns-clause-front
returns-clause-front g c = all-front _ _ _ (lines-whole c.args.machine.now (g.S.Sink.written c.args.out.now) (g.S.Sink.written c.loop-line.out) c.args.lines.now c.loop-line.line-index (search rules) c.loop-line.invariant.shown)
