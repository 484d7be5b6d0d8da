use Rattle.std.proofs.Common.{◌∙◌, ap, subst, ◌∷◌, [], ◌++◌, map}
use Rattle.msg_dict.specs.Own.{own_formats}
use Rattle.msg_code.specs.declared.cmd.Cmd.{Cmd}
use Rattle.msg_code.specs.Text.{IsText}
use Rattle.msg_code.specs.Units.{reset_commands, dir_commands, step_command}
use Rattle.board_world.specs.Orders.{plain, unit_ticks}
use Rattle.board_world.specs.World.{wire_text}
use Rattle.board_world.specs.Stands.{with_waiting}
use Rattle.board_world.proofs.Queueing.{unit_queued, read_both}
use Rattle.board_world.proofs.orders.queue_unit.Goals as goal

pub returns-clause-host : goal.returns-clause-host
returns-clause-host c =
    unit_queued c.args.u.now c.args.host.now c.queue_reset.new.host c.queue_dir.new.host c.queue_command.new.host c.in_ok-queue_reset.ensures.host c.in_ok-queue_dir.ensures.host
    (c.in_ok-queue_command.ensures.host ∙ ap (λ x. with_waiting c.queue_dir.new.host (plain x ∷ [])) c.steps_of.ensures)

pub returns-clause-read : goal.returns-clause-read
returns-clause-read c =
    let u = c.args.u.now in
    let dirs = map plain (dir_commands u.stepper u.up) in
    let steps = record { command = step_command u; ticks = unit_ticks u } ∷ [] in
    let step : IsText own_formats (step_command u) (wire_text (step_command u)) =
    subst (λ (x : Cmd). IsText own_formats x (wire_text x)) c.steps_of.ensures c.in_ok-queue_command.ensures.read in
    read_both (map plain (reset_commands u.stepper u.reset)) (dirs ++ steps) c.in_ok-queue_reset.ensures.read
    (read_both dirs steps c.in_ok-queue_dir.ensures.read (step, tt))
