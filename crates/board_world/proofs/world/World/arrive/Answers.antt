use Rattle.std.proofs.Common.{subst}
use Rattle.board_world.specs.declared.event.Event.TheVariants.{Repeat}
use Rattle.board_world.specs.Stands.{WorldStandsFor}
use Rattle.board_world.specs.World.{Core, after_event}
use Rattle.board_world.proofs.Hearing.{arrive_is}
use Rattle.board_world.proofs.world.World.arrive.Goals as goal

pub returns : goal.returns
returns c h st =
    let At : Core → Type 0 = λ x. WorldStandsFor c.lose.new.self x in
    subst At (arrive_is h) (c.lose.ensures (after_event h Repeat) (c.in_ok-repeat.ensures h st))
