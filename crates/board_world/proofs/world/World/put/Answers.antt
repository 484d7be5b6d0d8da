use Rattle.std.proofs.Common.{◌∙◌, ap, refl, subst, List}
use Rattle.msg_code.specs.declared.unit.Unit.{Unit as StepUnit}
use Rattle.link_core.specs.Host.{Host}
use Rattle.board_world.specs.declared.event.Event.TheVariants.{Put}
use Rattle.board_world.specs.Orders.{units_orders}
use Rattle.board_world.specs.Stands.{SeenWorld, AreRead, with_waiting}
use Rattle.board_world.proofs.Standing.{queued_stands}
use Rattle.board_world.proofs.world.World.put.Goals as goal

pub returns : goal.returns
returns c h st =
    let i = c.self.inside in
    let units = c.args.batch.now.units in
    let Read : List StepUnit → Type 0 = λ us. AreRead (units_orders us) in
    queued_stands c.args.self.now _ h (Put c.args.batch.now) st refl refl refl refl (subst Read c.as_slice.ensures c.in_ok-queue_units.ensures.read)
    (ap (λ (x : Host). record { host = x; station = i.taker; down = i.down; up = i.up; pulses = i.pulses.items })
    (c.in_ok-queue_units.ensures.host ∙ ap (λ (us : List StepUnit). with_waiting i.host (units_orders us)) c.as_slice.ensures)
    ∙ ap (λ (x : SeenWorld). record x { host = with_waiting x.host (units_orders units) }) c.self.view_is)
