use Rattle.std.proofs.Common.{◌∙◌, ap, drop, List, ℕ}
use Rattle.board_world.specs.Stands.{SeenWorld}
use Rattle.board_world.proofs.Standing.{reply_lost_stands}
use Rattle.board_world.proofs.world.World.lose_reply.Goals as goal

pub returns : goal.returns
returns c h st =
    let i = c.self.inside in
    reply_lost_stands c.args.self.now _ h st
    (ap (λ (u : List (List ℕ)). record { host = i.host; station = i.taker; down = i.down; up = u; pulses = i.pulses.items }) c.lose.ensures ∙ ap (λ (x : SeenWorld). record x { up = drop 1 x.up }) c.self.view_is)
