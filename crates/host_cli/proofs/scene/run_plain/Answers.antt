use Rattle.std.proofs.Common.{◌≡◌, ◌∙◌, inl, Ok, sym, subst}
use Rattle.plan_types.specs.declared.cause.Cause.TheVariants as cause
use Rattle.plan_types.specs.declared.machine.Machine.{Machine}
use Rattle.wire_scene.specs.declared.scene.Scene.{Scene}
use Rattle.host_cli.specs.Answers.{IsRunCause}
use Rattle.laws_report.specs.reports.Read.{no_scene}
use Rattle.laws_board.specs.causes.Short.{HaveShortDictionaries}
use Rattle.laws_board.proofs.causes.ShortNames.{short_dictionaries}
use Rattle.host_cli.specs.Scenes.{ShowsRun}
use Rattle.host_cli.proofs.Scened.{config-machine, config-refused, empty-scene, machine-named, machine-shows, machine-unwritten, no-machine, one-machine, shows-from, valid-empty}
use Rattle.host_cli.proofs.Whole.{for-cause}
use Rattle.host_cli.proofs.scene.run_plain.Goals as goal

pub run_on-requires-clause-scene : goal.run_on-requires-clause-scene
run_on-requires-clause-scene g c = λ _ _. valid-empty c.in-Ok.machine c.empty-scene.result c.empty-scene.ensures.entries c.empty-scene.ensures.switches

pub returns-in-Ok-clause-shows : goal.returns-in-Ok-clause-shows
returns-in-Ok-clause-shows g c = λ printer m told is.
    let same = one-machine printer c.in-Ok.machine m (c.in-Ok.ensures.machine printer told) is in
    let none = empty-scene c.empty-scene.result c.empty-scene.ensures.entries c.empty-scene.ensures.switches in
    shows-from g.F.Files g.S.Sink m no_scene c.args.gcode.now c.args.files.now c.read_machine.new.files c.run_on.new.files c.args.out.now c.run_on.new.out c.run_on.result.cause c.run_on.result.report c.read_machine.ensures.same
    (subst (λ (x : Machine × Scene). ShowsRun g.F.Files g.S.Sink x.0 x.1 c.args.gcode.now c.read_machine.new.files c.run_on.new.files c.args.out.now c.run_on.new.out c.run_on.result.cause c.run_on.result.report) (λ i. (same i, none i))
    (c.run_on.ensures.shows (subst (λ (x : Machine). HaveShortDictionaries x) (sym same) (short_dictionaries printer m is)) (inl none)))

pub returns-in-Ok-clause-config_only : goal.returns-in-Ok-clause-config_only
returns-in-Ok-clause-config_only g c = λ printer line kind told is. absurd (subst IsRunCause is c.run_on.ensures.named)

pub returns-in-Ok-clause-not_usage : goal.returns-in-Ok-clause-not_usage
returns-in-Ok-clause-not_usage g c = λ is. subst IsRunCause is c.run_on.ensures.named

pub returns-in-Err-clause-shows : goal.returns-in-Err-clause-shows
returns-in-Err-clause-shows g c = λ printer m told is.
    machine-shows g.F.Files g.S.Sink no_scene c.args.gcode.now c.args.files.now c.read_machine.new.files c.args.out.now c.refuse.new.out c.refuse.result.cause c.refuse.result.report
    m (g.F.Files.told c.args.files.now c.args.config.now) c.in-Err.cause printer (no-machine _ c.in-Err.cause c.in-Err.ensures.fault) c.refuse.ensures.refused told is

pub returns-in-Err-clause-config : goal.returns-in-Err-clause-config
returns-in-Err-clause-config g c = λ printer line kind told is.
    config-refused (g.S.Sink.written c.args.out.now) (g.S.Sink.written c.refuse.new.out) c.refuse.result.cause c.refuse.result.report
    (g.F.Files.told c.args.files.now c.args.config.now) c.in-Err.cause printer line kind (no-machine _ c.in-Err.cause c.in-Err.ensures.fault) c.refuse.ensures.refused told is

pub returns-in-Err-clause-config_only : goal.returns-in-Err-clause-config_only
returns-in-Err-clause-config_only g c = λ printer line kind told is.
    config-machine (g.F.Files.told c.args.files.now c.args.config.now) c.in-Err.cause c.refuse.result.cause printer line kind (no-machine _ c.in-Err.cause c.in-Err.ensures.fault) c.refuse.ensures.own told is

pub returns-in-Err-clause-not_usage : goal.returns-in-Err-clause-not_usage
returns-in-Err-clause-not_usage g c =
    machine-named _ c.in-Err.cause c.refuse.result.cause (no-machine _ c.in-Err.cause c.in-Err.ensures.fault) (for-cause _ _ _ _ _ c.refuse.ensures.refused)

pub returns-in-Err-clause-read : goal.returns-in-Err-clause-read
returns-in-Err-clause-read g c = λ is.
    c.in-Err.ensures.read (sym (c.refuse.ensures.own (λ e. let y = sym is ∙ e in cc) (λ e. let y = sym is ∙ e in cc)) ∙ is)

pub returns-in-Err-clause-write : goal.returns-in-Err-clause-write
returns-in-Err-clause-write g c =
    c.refuse.ensures.write (machine-unwritten _ c.in-Err.cause (no-machine _ c.in-Err.cause c.in-Err.ensures.fault))

pub returns-in-Err-clause-quiet_files : goal.returns-in-Err-clause-quiet_files
returns-in-Err-clause-quiet_files g c = λ reads writes memory.
    c.in-Err.ensures.quiet (λ e. reads (c.refuse.ensures.own writes memory ∙ e))
