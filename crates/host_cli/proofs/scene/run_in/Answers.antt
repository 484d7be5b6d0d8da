use Rattle.std.proofs.Common.{◌≡◌, ◌∙◌, inr, subst, sym}
use Rattle.host_cli.specs.Answers.{IsRunCause}
use Rattle.host_cli.specs.Scenes.{ShowsRun}
use Rattle.plan_types.specs.declared.cause.Cause.TheVariants as cause
use Rattle.wire_scene.specs.declared.scene.Scene.{Scene}
use Rattle.host_cli.proofs.Scened.{no-scene, one-scene, scene-named, scene-refused, scene-shows, scene-unwritten, shows-from}
use Rattle.host_cli.proofs.Whole.{for-cause}
use Rattle.host_cli.proofs.scene.run_in.Goals as goal

pub returns-in-Err-clause-shows : goal.returns-in-Err-clause-shows
returns-in-Err-clause-shows g c = λ text s told is short.
    scene-shows g.F.Files g.S.Sink s c.args.gcode.now c.args.files.now c.read_scene_file.new.files c.args.out.now c.refuse.new.out c.refuse.result.cause c.refuse.result.report
    c.args.machine.now (g.F.Files.told c.args.files.now c.args.scene.now) c.in-Err.cause text (no-scene c.args.machine.now _ c.in-Err.cause c.in-Err.ensures.fault) c.refuse.ensures.refused told is

pub returns-in-Err-clause-scene : goal.returns-in-Err-clause-scene
returns-in-Err-clause-scene g c = λ text line kind told is.
    scene-refused (g.S.Sink.written c.args.out.now) (g.S.Sink.written c.refuse.new.out) c.refuse.result.cause c.refuse.result.report
    c.args.machine.now (g.F.Files.told c.args.files.now c.args.scene.now) c.in-Err.cause text line kind (no-scene c.args.machine.now _ c.in-Err.cause c.in-Err.ensures.fault) c.refuse.ensures.refused told is

pub returns-in-Err-clause-not_usage : goal.returns-in-Err-clause-not_usage
returns-in-Err-clause-not_usage g c =
    scene-named c.args.machine.now _ c.in-Err.cause c.refuse.result.cause (no-scene c.args.machine.now _ c.in-Err.cause c.in-Err.ensures.fault) (for-cause _ _ _ _ _ c.refuse.ensures.refused)

pub returns-in-Err-clause-read : goal.returns-in-Err-clause-read
returns-in-Err-clause-read g c = λ is.
    c.in-Err.ensures.read (sym (c.refuse.ensures.own (λ e. let y = sym is ∙ e in cc) (λ e. let y = sym is ∙ e in cc)) ∙ is)

pub returns-in-Err-clause-write : goal.returns-in-Err-clause-write
returns-in-Err-clause-write g c =
    c.refuse.ensures.write (scene-unwritten c.args.machine.now _ c.in-Err.cause (no-scene c.args.machine.now _ c.in-Err.cause c.in-Err.ensures.fault))

pub returns-in-Err-clause-quiet_files : goal.returns-in-Err-clause-quiet_files
returns-in-Err-clause-quiet_files g c = λ reads writes memory.
    c.in-Err.ensures.quiet (λ e. reads (c.refuse.ensures.own writes memory ∙ e))

pub returns-in-Ok-clause-shows : goal.returns-in-Ok-clause-shows
returns-in-Ok-clause-shows g c = λ text s told is short.
    let same = one-scene c.args.machine.now text c.in-Ok.scene s (c.in-Ok.ensures.scene text told) is in
    shows-from g.F.Files g.S.Sink c.args.machine.now s c.args.gcode.now c.args.files.now c.read_scene_file.new.files c.run_on.new.files c.args.out.now c.run_on.new.out c.run_on.result.cause c.run_on.result.report c.read_scene_file.ensures.same
    (subst (λ (x : Scene). ShowsRun g.F.Files g.S.Sink c.args.machine.now x c.args.gcode.now c.read_scene_file.new.files c.run_on.new.files c.args.out.now c.run_on.new.out c.run_on.result.cause c.run_on.result.report) same
    (c.run_on.ensures.shows short (inr (text, c.in-Ok.ensures.scene text told))))

pub returns-in-Ok-clause-not_usage : goal.returns-in-Ok-clause-not_usage
returns-in-Ok-clause-not_usage g c = λ is. subst IsRunCause is c.run_on.ensures.named
