use Rattle.std.proofs.Common.{◌≡◌, ◌∙◌, ⊎_elim, arith, subst, sym}
use Rattle.io_core.specs.contracts.sure.SureSinkSink.TheImpl.{ghosts as sink_ghosts}
use Rattle.report_text.specs.declared.line.Show.{Show}
use Rattle.session_run.specs.Reported.{EndsShowing}
use Rattle.session_run.proofs.report.run.Goals as goal

pub returns-in-Lines-clause-ends : goal.returns-in-Lines-clause-ends
returns-in-Lines-clause-ends g c =
    let Ends : Show → Type 0 = λ w. EndsShowing g.F.Files g.S.Sink sink_ghosts c.args.machine.now c.args.scene.now c.args.name.now c.args.files.now c.run_over.new.files c.args.out.now c.run_over.new.out c.run_over.result w in
    subst Ends (sym c.in-Lines.is) c.run_over.ensures.ends

pub returns-in-Counts-clause-ends : goal.returns-in-Counts-clause-ends
returns-in-Counts-clause-ends g c =
    let over = c.run_over-in-Counts in
    let Ends : Show → Type 0 = λ w. EndsShowing g.F.Files g.S.Sink sink_ghosts c.args.machine.now c.args.scene.now c.args.name.now c.args.files.now over.new.files c.args.out.now c.args.out.now over.result w in
    subst Ends (sym c.in-Counts.is) (c.new-none.result, over.new.out, over.ensures.ends)

pub returns-in-Counts-clause-write : goal.returns-in-Counts-clause-write
returns-in-Counts-clause-write g c = λ is. absurd (⊎_elim (λ less. omega (arith, less)) (λ full. omega (arith, full)) (c.run_over-in-Counts.ensures.write is))
