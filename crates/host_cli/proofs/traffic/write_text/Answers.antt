use Rattle.std.proofs.Common.{rules, codes}
use Rattle.report_text.specs.Written.{WritesAll}
use Rattle.host_cli.proofs.Captured.{front-both, front-first, writes-both}
use Rattle.host_cli.proofs.traffic.write_text.Goals as goal

pub returns-then-is_err-clause-front : goal.returns-then-is_err-clause-front
returns-then-is_err-clause-front g c =
    front-first (g.S.Sink.written c.args.out.now) (g.S.Sink.written c.write_piece.new.out) c.args.text.now (codes "end 0 done\n") c.write_piece.ensures.front

pub returns-in_err-write_line-clause-front : goal.returns-in_err-write_line-clause-front
returns-in_err-write_line-clause-front g c =
    let first : WritesAll (g.S.Sink.written c.args.out.now) (g.S.Sink.written c.write_piece.new.out) c.args.text.now = search rules in
    front-both (g.S.Sink.written c.args.out.now) (g.S.Sink.written c.write_piece.new.out) (g.S.Sink.written c.write_line.new.out) c.args.text.now (codes "end 0 done\n") first c.write_line.ensures.front

pub returns-clause-all : goal.returns-clause-all
returns-clause-all g c =
    let first : WritesAll (g.S.Sink.written c.args.out.now) (g.S.Sink.written c.write_piece.new.out) c.args.text.now = search rules in
    writes-both (g.S.Sink.written c.args.out.now) (g.S.Sink.written c.write_piece.new.out) (g.S.Sink.written c.write_line.new.out) c.args.text.now (codes "end 0 done\n") first c.in_ok-write_line.ensures.all

pub returns-clause-front : goal.returns-clause-front
returns-clause-front g c =
    let first : WritesAll (g.S.Sink.written c.args.out.now) (g.S.Sink.written c.write_piece.new.out) c.args.text.now = search rules in
    front-both (g.S.Sink.written c.args.out.now) (g.S.Sink.written c.write_piece.new.out) (g.S.Sink.written c.write_line.new.out) c.args.text.now (codes "end 0 done\n") first c.write_line.ensures.front
