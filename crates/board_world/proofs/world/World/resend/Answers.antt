use Rattle.std.proofs.Common.{◌∙◌, ◌++◌, ap, List, ℕ}
use Rattle.link_core.specs.Host.{Host, acked_of}
use Rattle.board_world.specs.Stands.{SeenWorld, all_put_again, blocks_from}
use Rattle.board_world.proofs.Resending.{resent_stands}
use Rattle.board_world.proofs.world.World.resend.Goals as goal

pub returns : goal.returns
returns c h st =
    let i = c.self.inside in
    let done = c.in_ok-put_all_again.ensures in
    resent_stands c.args.self.now _ h st
    (ap (λ (x : Host). record { host = x; station = i.taker; down = c.put_all_again.new.down; up = i.up; pulses = i.pulses.items }) done.host
    ∙ ap (λ (d : List (List ℕ)). record { host = all_put_again i.host; station = i.taker; down = d; up = i.up; pulses = i.pulses.items }) done.down
    ∙ ap (λ (x : SeenWorld). record x { host = all_put_again x.host; down = x.down ++ blocks_from (acked_of x.host) x.host.contents }) c.self.view_is)
