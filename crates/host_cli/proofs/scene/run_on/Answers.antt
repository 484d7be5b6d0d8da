use Rattle.std.proofs.Common.{◌≡◌, ◌∙◌, inl, inr, refl, sym, subst}
use Rattle.plan_types.specs.declared.cause.Cause.{Cause}
use Rattle.plan_types.specs.declared.cause.Cause.TheVariants as cause
use Rattle.host_cli.specs.Answers.{IsRunCause}
use Rattle.laws_report.specs.reports.Promises.{IsCauseOf}
use Rattle.host_cli.proofs.Scened.{shows-from, stop-shows}
use Rattle.host_cli.proofs.Whole.{fault-machine, for-cause}
use Rattle.host_cli.proofs.scene.run_on.Goals as goal

pub returns-in-Ok-clause-shows : goal.returns-in-Ok-clause-shows
returns-in-Ok-clause-shows g c = λ short scene.
    shows-from g.F.Files g.S.Sink c.args.machine.now c.args.scene.now c.args.gcode.now c.args.files.now c.find_file.new.files c.run_found.new.files c.args.out.now c.run_found.new.out c.run_found.result.cause
    c.run_found.result.report c.find_file.ensures.same (c.run_found.ensures.shows short scene)

pub returns-in-Err-clause-shows : goal.returns-in-Err-clause-shows
returns-in-Err-clause-shows g c = λ short scene.
    stop-shows g.F.Files g.S.Sink c.args.scene.now c.args.gcode.now c.args.files.now c.find_file.new.files c.args.out.now c.refuse.new.out c.refuse.result.cause c.refuse.result.report c.args.machine.now c.in-Err.cause (inr c.in-Err.ensures.fault) c.refuse.ensures.refused

pub returns-in-Err-clause-named : goal.returns-in-Err-clause-named
returns-in-Err-clause-named g c =
    let Of : Cause → Type 0 = λ (x : Cause). IsCauseOf x c.refuse.result.cause in
    fault-machine c.refuse.result.cause (subst Of c.in-Err.ensures.fault (for-cause _ _ _ _ _ c.refuse.ensures.refused))

pub returns-in-Err-clause-write : goal.returns-in-Err-clause-write
returns-in-Err-clause-write g c = c.refuse.ensures.write (λ e. let y = sym c.in-Err.ensures.fault ∙ e in cc)

pub returns-in-Err-clause-quiet_files : goal.returns-in-Err-clause-quiet_files
returns-in-Err-clause-quiet_files g c = λ reads writes memory. absurd (reads (c.refuse.ensures.own writes memory ∙ c.in-Err.ensures.fault))
