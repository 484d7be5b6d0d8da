use Rattle.std.proofs.Common.{◌≡◌, ◌∙◌, ◌%◌, ap, sym, subst, ℕ, arith}
use Rattle.block_frame.specs.declared.Found.{Found}
use Rattle.link_core.specs.Core.{Reply, is_empty}
use Rattle.link_core.specs.Host.{Host, acked_of, acked_by}
use Rattle.link_core.specs.Numbers.{IsNumberOnWire}
use Rattle.link_core.proofs.Standing.{reply_is_whole}
use Rattle.board_world.specs.Stands.{SeenWorld, WorldStandsFor, IsFound}
use Rattle.board_world.proofs.Standing.{replied_stands, oldest_reply, none_is_empty}
use Rattle.board_world.proofs.world.World.reply.Goals as goal

pub returns-in-Block : goal.returns-in-Block
returns-in-Block c h st =
    let i = c.self.inside in
    let before : SeenWorld = record { host = i.host; station = i.taker; down = i.down; up = i.up; pulses = i.pulses.items } in
    let At : SeenWorld → Type 0 = λ s. WorldStandsFor s h in
    let st0 : WorldStandsFor before h = subst At (sym c.self.view_is) st in
    let some = c.in-Some.ensures.some in
    let old = oldest_reply h.link.up c.in-Some.block.now.items some.0 (sym some.1 ∙ st0.up) in
    let r : Reply = old.0 in
    let up = old.2 in
    let IsIt : Found → Type 0 = λ f. IsFound f (r.number % 16) r.answer in
    let found = subst IsIt c.in-Block.is (c.found_in.ensures.block (r.number % 16) r.answer (omega arith) old.3) in
    let whole = reply_is_whole h.link r old.1 st0.ordered.in_step up in
    let AtHost : Host → Type 0 = λ x. IsNumberOnWire (acked_of x) x.sent (r.number % 16) r.number in
    let here : AtHost i.host = subst AtHost (sym st0.host) whole in
    let AtNumber : ℕ → Type 0 = λ n. IsNumberOnWire (acked_of i.host) i.host.sent n r.number in
    let taken = c.acked-acked.ensures.found r.number (subst AtNumber (sym found.0) here) in
    let empty : c.is_empty.result ≡ is_empty r.answer = none_is_empty c.is_empty.result c.in-Block.content.items r.answer c.is_empty.ensures found.1 in
    replied_stands before _ h r old.1 st0 up (ap (λ (x : Host). record before { host = x }) (taken.1 ∙ ap (λ e. acked_by i.host r.number e) empty))
