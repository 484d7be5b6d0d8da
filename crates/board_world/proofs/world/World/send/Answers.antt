use Rattle.std.proofs.Common.{◌≡◌, ◌∙◌, ap, refl, sym, subst, List, ℕ, ◌++◌, [], ◌∷◌, ◌%◌}
use Rattle.block_frame.specs.Block.{block_text}
use Rattle.link_core.specs.Core.{next_block}
use Rattle.link_core.specs.Host.{Host, given, content_of}
use Rattle.board_world.specs.Stands.{SeenWorld, WorldStandsFor}
use Rattle.board_world.proofs.Standing.{sent_stands}
use Rattle.board_world.proofs.world.World.send.Goals as goal

pub returns-in_ok-put : goal.returns-in_ok-put
returns-in_ok-put c h st =
    let i = c.self.inside in
    let block = next_block 59 i.host.waiting in
    let text = block_text (i.host.sent % 16) (content_of block) in
    let before : SeenWorld = record { host = i.host; station = i.taker; down = i.down; up = i.up; pulses = i.pulses.items } in
    let At : SeenWorld → Type 0 = λ s. WorldStandsFor s h in
    let st0 : WorldStandsFor before h = subst At (sym c.self.view_is) st in
    let some = c.in-Some.ensures.some refl in
    let host : c.send.new.self ≡ given i.host i.host.turn block = c.in-Some.ensures.given refl ∙ ap (λ t. given i.host t block) c.last_turn-turn.ensures in
    let down : c.put.new.self ≡ i.down ++ text ∷ [] = c.in_ok-put.ensures ∙ ap (λ t. i.down ++ t ∷ []) c.in-Some.ensures.block in
    sent_stands before _ h st0 some.0 some.1
    (ap (λ (x : Host). record before { host = x; down = c.put.new.self }) host ∙ ap (λ (d : List (List ℕ)). record before { host = given i.host i.host.turn block; down = d }) down)
