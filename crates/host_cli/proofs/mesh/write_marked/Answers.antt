use Rattle.std.proofs.Common.{rules}
use Rattle.std.proofs.lemmas.Result.{on_ok_weaker}
use Rattle.report_text.specs.Written.{WritesAll}
use Rattle.host_cli.specs.Meshes.{mark}
use Rattle.host_cli.proofs.Captured.{front-both, front-first, writes-both}
use Rattle.host_cli.proofs.mesh.write_marked.Goals as goal

pub returns-then-is_err-clause-front : goal.returns-then-is_err-clause-front
returns-then-is_err-clause-front g c =
    front-first (g.S.Sink.written c.args.out.now) (g.S.Sink.written c.write_piece.new.out) c.args.code.now (mark c.args.machine.now c.args.cause) c.write_piece.ensures.front

pub returns-clause-all : goal.returns-clause-all
returns-clause-all g c =
    let first : WritesAll (g.S.Sink.written c.args.out.now) (g.S.Sink.written c.write_piece.new.out) c.args.code.now = search rules in
    on_ok_weaker c.write_mark.result (λ all. writes-both (g.S.Sink.written c.args.out.now) (g.S.Sink.written c.write_piece.new.out) (g.S.Sink.written c.write_mark.new.out) c.args.code.now (mark c.args.machine.now c.args.cause) first all) c.write_mark.ensures.all

pub returns-clause-front : goal.returns-clause-front
returns-clause-front g c =
    let first : WritesAll (g.S.Sink.written c.args.out.now) (g.S.Sink.written c.write_piece.new.out) c.args.code.now = search rules in
    front-both (g.S.Sink.written c.args.out.now) (g.S.Sink.written c.write_piece.new.out) (g.S.Sink.written c.write_mark.new.out) c.args.code.now (mark c.args.machine.now c.args.cause) first c.write_mark.ensures.front
