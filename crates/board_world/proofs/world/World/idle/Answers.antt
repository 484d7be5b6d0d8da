use Rattle.std.proofs.Common.{sym, subst}
use Rattle.board_world.specs.Stands.{SeenWorld, WorldStandsFor}
use Rattle.board_world.proofs.Telling.{idle_of, of_idle}
use Rattle.board_world.proofs.world.World.idle.Goals as goal

pub returns-clause-stands : goal.returns-clause-stands
returns-clause-stands c h st =
    let i = c.self.inside in
    let before : SeenWorld = record { host = i.host; station = i.taker; down = i.down; up = i.up; pulses = i.pulses.items } in
    let At : SeenWorld → Type 0 = λ s. WorldStandsFor s h in
    let st0 : WorldStandsFor before h = subst At (sym c.self.view_is) st in
    (λ yes. idle_of before h st0 (c.idle.ensures.0 yes), λ none. c.idle.ensures.1 (of_idle before h st0 none))
