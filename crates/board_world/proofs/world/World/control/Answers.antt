use Rattle.std.proofs.Common.{◌∙◌, ap, refl, subst, List, map}
use Rattle.msg_code.specs.declared.cmd.Cmd.{Cmd}
use Rattle.link_core.specs.Host.{Host}
use Rattle.board_world.specs.declared.event.Event.TheVariants.{Control}
use Rattle.board_world.specs.Orders.{plain}
use Rattle.board_world.specs.Stands.{SeenWorld, AreRead, with_waiting}
use Rattle.board_world.proofs.Standing.{queued_stands}
use Rattle.board_world.proofs.world.World.control.Goals as goal

pub returns : goal.returns
returns c h st =
    let i = c.self.inside in
    let commands = c.args.control.now.commands in
    let Read : List Cmd → Type 0 = λ cs. AreRead (map plain cs) in
    queued_stands c.args.self.now _ h (Control c.args.control.now) st refl refl refl refl (subst Read c.as_slice.ensures c.in_ok-queue_commands.ensures.read)
    (ap (λ (x : Host). record { host = x; station = i.taker; down = i.down; up = i.up; pulses = i.pulses.items })
    (c.in_ok-queue_commands.ensures.host ∙ ap (λ (cs : List Cmd). with_waiting i.host (map plain cs)) c.as_slice.ensures)
    ∙ ap (λ (x : SeenWorld). record x { host = with_waiting x.host (map plain commands) }) c.self.view_is)
