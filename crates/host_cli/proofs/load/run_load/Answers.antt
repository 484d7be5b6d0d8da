use Rattle.std.proofs.Common.{◌∙◌, inr, sym}
use Rattle.plan_types.specs.declared.cause.Cause.TheVariants as cause
use Rattle.io_core.specs.contracts.sure.SureSinkSink.TheImpl.{ghosts as sink_ghosts}
use Rattle.generated_load.specs.contracts.load_file.LoadFilesFiles.TheImpl.{ghosts as load_ghosts}
use Rattle.host_cli.proofs.Asked.{ends-both}
use Rattle.host_cli.proofs.Loaded.{load-shown}
use Rattle.host_cli.proofs.Whole.{for-cause, given-machine, memory-machine, own-of, quiet-output, write-rose, written-text}
use Rattle.host_cli.proofs.load.run_load.Goals as goal

pub returns-in-Ok-clause-shows : goal.returns-in-Ok-clause-shows
returns-in-Ok-clause-shows g c =
    let a = c.in-Ok.answer in
    let r = c.finish.result in
    let old = g.S.Sink.written c.args.out.now in
    let new = g.S.Sink.written c.finish.new.out in
    let written = written-text a r.report old new r.cause c.finish.ensures.report c.finish.ensures.front (λ memory write. c.finish.ensures.all memory write) in
    load-shown load_ghosts sink_ghosts c.args.seed c.args.moves a r.report old new r.cause (g.S.Sink.faults c.args.out.now) (g.S.Sink.faults c.finish.new.out) c.finish.ensures.report c.finish.ensures.cause written c.in-Ok.ensures.load

pub returns-in-Ok-clause-named : goal.returns-in-Ok-clause-named
returns-in-Ok-clause-named g c = given-machine c.in-Ok.answer.cause c.finish.result.cause (g.S.Sink.faults c.args.out.now) (g.S.Sink.faults c.finish.new.out) c.in-Ok.ensures.configured c.finish.ensures.cause

pub returns-in-Ok-clause-no_read : goal.returns-in-Ok-clause-no_read
returns-in-Ok-clause-no_read g c = λ is.
    c.in-Ok.ensures.no_read (own-of c.in-Ok.answer.cause c.finish.result.cause cause.ReadFault (g.S.Sink.faults c.args.out.now) (g.S.Sink.faults c.finish.new.out) c.finish.ensures.cause is (λ e. absurd cc) (λ e. absurd cc))

pub returns-in-Ok-clause-write : goal.returns-in-Ok-clause-write
returns-in-Ok-clause-write g c = write-rose c.in-Ok.answer.cause c.finish.result.cause (g.S.Sink.faults c.args.out.now) (g.S.Sink.faults c.finish.new.out) c.in-Ok.ensures.no_write c.finish.ensures.cause

pub returns-in-Ok-clause-quiet : goal.returns-in-Ok-clause-quiet
returns-in-Ok-clause-quiet g c = λ write memory. quiet-output c.in-Ok.answer.cause c.finish.result.cause (g.S.Sink.faults c.args.out.now) (g.S.Sink.faults c.finish.new.out) c.finish.ensures.cause write memory

pub returns-in-Err-clause-shows : goal.returns-in-Err-clause-shows
returns-in-Err-clause-shows g c = inr (ends-both _ _ _ _ c.refuse.ensures.refused)

pub returns-in-Err-clause-named : goal.returns-in-Err-clause-named
returns-in-Err-clause-named g c = memory-machine c.refuse.result.cause (for-cause _ _ _ _ _ c.refuse.ensures.refused)

pub returns-in-Err-clause-no_read : goal.returns-in-Err-clause-no_read
returns-in-Err-clause-no_read g c = λ is. let y = sym is ∙ c.refuse.ensures.own (λ e. let y = sym is ∙ e in cc) (λ e. let y = sym is ∙ e in cc) in cc

pub returns-in-Err-clause-write : goal.returns-in-Err-clause-write
returns-in-Err-clause-write g c = λ is. c.refuse.ensures.write (λ e. let y = e in cc) is
