use Rattle.std.proofs.Common.{◌∙◌, ap, drop, List, ℕ}
use Rattle.board_world.specs.Stands.{SeenWorld}
use Rattle.board_world.proofs.Standing.{lost_stands}
use Rattle.board_world.proofs.world.World.lose.Goals as goal

pub returns : goal.returns
returns c h st =
    let i = c.self.inside in
    lost_stands c.args.self.now _ h st
    (ap (λ (d : List (List ℕ)). record { host = i.host; station = i.taker; down = d; up = i.up; pulses = i.pulses.items }) c.lose.ensures ∙ ap (λ (x : SeenWorld). record x { down = drop 1 x.down }) c.self.view_is)
