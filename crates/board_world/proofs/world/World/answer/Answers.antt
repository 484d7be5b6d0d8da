use Rattle.std.proofs.Common.{◌≡◌, ◌∙◌, ◌%◌, arith, subst, sym}
use Rattle.block_frame.specs.declared.Found.{Found}
use Rattle.board_world.specs.Stands.{IsFound, SeenWorld, WorldStandsFor}
use Rattle.board_world.proofs.Answering.{answered}
use Rattle.board_world.proofs.Standing.{oldest_reply}
use Rattle.board_world.proofs.world.World.answer.Goals as goal

pub returns : goal.returns
returns c h st =
    let i = c.self.inside in
    let before : SeenWorld = record { host = i.host; station = i.taker; down = i.down; up = i.up; pulses = i.pulses.items } in
    let At : SeenWorld → Type 0 = λ s. WorldStandsFor s h in
    let st0 : WorldStandsFor before h = subst At (sym c.self.view_is) st in
    let some = c.in-Some.ensures.some in
    let old = oldest_reply h.link.up c.in-Some.block.now.items some.0 (sym some.1 ∙ st0.up) in
    let IsIt : Found → Type 0 = λ f. IsFound f (old.0.number % 16) old.0.answer in
    let found = subst IsIt c.in-Block.is (c.found_in.ensures.block (old.0.number % 16) old.0.answer (omega arith) old.3) in
    answered h.link.up old.1 old.0 c.whole_command.result i.formats.formats c.as_slice.result.now old.2 c.self.invariant (c.as_slice.ensures.value ∙ found.1) c.whole_command.ensures
