use Rattle.std.proofs.Common.{◌≡◌, ◌∙◌, Ok, Err, sym, subst}
use Rattle.plan_types.specs.declared.cause.Cause.TheVariants as cause
use Rattle.plan_types.specs.declared.machine.Machine.{Machine}
use Rattle.wire_scene.specs.declared.fault.SceneFault.TheVariants as fault
use Rattle.wire_scene.specs.Reading as scenes
use Rattle.laws_board.specs.causes.Short.{HaveShortDictionaries}
use Rattle.laws_board.proofs.causes.ShortNames.{short_dictionaries}
use Rattle.host_cli.specs.Scenes.{ShowsRun}
use Rattle.host_cli.proofs.Scened.{config-refused, machine-named, machine-shows, machine-unread, machine-unwritten, no-machine, one-machine, shows-from}
use Rattle.host_cli.proofs.Whole.{for-cause}
use Rattle.host_cli.proofs.scene.run_scene.Goals as goal

pub returns-in-Err-clause-shows : goal.returns-in-Err-clause-shows
returns-in-Err-clause-shows g c = λ printer text m s told seen is read.
    machine-shows g.F.Files g.S.Sink s c.args.gcode.now c.args.files.now c.read_machine.new.files c.args.out.now c.refuse.new.out c.refuse.result.cause c.refuse.result.report
    m (g.F.Files.told c.args.files.now c.args.config.now) c.in-Err.cause printer (no-machine _ c.in-Err.cause c.in-Err.ensures.fault) c.refuse.ensures.refused told is

pub returns-in-Err-clause-scene : goal.returns-in-Err-clause-scene
returns-in-Err-clause-scene g c = λ printer text m line kind told seen is read.
    machine-unread (g.S.Sink.written c.args.out.now) (g.S.Sink.written c.refuse.new.out) c.refuse.result.cause c.refuse.result.report
    m (g.F.Files.told c.args.files.now c.args.config.now) c.in-Err.cause (cause.Scene line kind) printer (no-machine _ c.in-Err.cause c.in-Err.ensures.fault) c.refuse.ensures.refused told is

pub returns-in-Err-clause-config : goal.returns-in-Err-clause-config
returns-in-Err-clause-config g c = λ printer line kind told is.
    config-refused (g.S.Sink.written c.args.out.now) (g.S.Sink.written c.refuse.new.out) c.refuse.result.cause c.refuse.result.report
    (g.F.Files.told c.args.files.now c.args.config.now) c.in-Err.cause printer line kind (no-machine _ c.in-Err.cause c.in-Err.ensures.fault) c.refuse.ensures.refused told is

pub returns-in-Err-clause-not_usage : goal.returns-in-Err-clause-not_usage
returns-in-Err-clause-not_usage g c =
    machine-named _ c.in-Err.cause c.refuse.result.cause (no-machine _ c.in-Err.cause c.in-Err.ensures.fault) (for-cause _ _ _ _ _ c.refuse.ensures.refused)

pub returns-in-Err-clause-read : goal.returns-in-Err-clause-read
returns-in-Err-clause-read g c = λ is.
    c.in-Err.ensures.read (sym (c.refuse.ensures.own (λ e. let y = sym is ∙ e in cc) (λ e. let y = sym is ∙ e in cc)) ∙ is)

pub returns-in-Err-clause-write : goal.returns-in-Err-clause-write
returns-in-Err-clause-write g c =
    c.refuse.ensures.write (machine-unwritten _ c.in-Err.cause (no-machine _ c.in-Err.cause c.in-Err.ensures.fault))

pub returns-in-Err-clause-quiet_files : goal.returns-in-Err-clause-quiet_files
returns-in-Err-clause-quiet_files g c = λ reads writes memory.
    c.in-Err.ensures.quiet (λ e. reads (c.refuse.ensures.own writes memory ∙ e))

pub returns-in-Ok-clause-shows : goal.returns-in-Ok-clause-shows
returns-in-Ok-clause-shows g c = λ printer text m s told seen is read.
    let same = one-machine printer c.in-Ok.machine m (c.in-Ok.ensures.machine printer told) is in
    shows-from g.F.Files g.S.Sink m s c.args.gcode.now c.args.files.now c.read_machine.new.files c.run_in.new.files c.args.out.now c.run_in.new.out c.run_in.result.cause c.run_in.result.report c.read_machine.ensures.same
    (subst (λ (x : Machine). ShowsRun g.F.Files g.S.Sink x s c.args.gcode.now c.read_machine.new.files c.run_in.new.files c.args.out.now c.run_in.new.out c.run_in.result.cause c.run_in.result.report) same
    (c.run_in.ensures.shows text s (c.read_machine.ensures.same c.args.scene.now ∙ seen) (subst (λ (x : Machine). scenes.scene_of_text x text ≡ Ok s) (sym same) read) (subst (λ (x : Machine). HaveShortDictionaries x) (sym same) (short_dictionaries printer m is))))

pub returns-in-Ok-clause-scene : goal.returns-in-Ok-clause-scene
returns-in-Ok-clause-scene g c = λ printer text m line kind told seen is read.
    let same = one-machine printer c.in-Ok.machine m (c.in-Ok.ensures.machine printer told) is in
    c.run_in.ensures.scene text line kind (c.read_machine.ensures.same c.args.scene.now ∙ seen) (subst (λ (x : Machine). scenes.scene_of_text x text ≡ Err (fault.At line kind)) (sym same) read)
