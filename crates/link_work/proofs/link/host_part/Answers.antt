use Rattle.std.proofs.Common.{◌∙◌, ◌∷◌, ◌++◌, List, ℕ, ap, drop, length, subst, sym}
use Rattle.wire_scene.specs.declared.scene.Way.TheVariants.{Down}
use Rattle.board_world.specs.declared.event.Event.TheVariants.{Put, Control}
use Rattle.board_world.specs.Stands.{WorldStandsFor, under_way, blocks_of}
use Rattle.board_world.specs.World.{Core, Do, Turn, run_world}
use Rattle.link_work.specs.Turn.{host_steps, put_all, resends, sends}
use Rattle.link_work.specs.Told.{asked_in}
use Rattle.link_work.specs.Stands.{orders}
use Rattle.link_work.proofs.Asked.{asked_after}
use Rattle.link_work.proofs.Sending.{run_append}
use Rattle.link_work.proofs.link.host_part.Goals as goal

pub returns : goal.returns
returns c h st =
    let turn = c.args.turn in
    let resent = c.in_ok-begin.field-0 in
    let steps = Turn turn ∷ Do (Control c.args.c) ∷ Do (Put c.args.b) ∷ resends resent in
    let first = c.in_ok-begin.ensures.stands h st in
    let At : Core → Type 0 = λ g. WorldStandsFor c.send_new.new.world g in
    let stands : WorldStandsFor c.send_new.new.world (run_world (host_steps turn (orders c.args.c c.args.b) resent) h) =
    subst At (sym (run_append steps (sends 12) h)) (c.in_ok-send_new.ensures.stands (run_world steps h) first) in (
      record {
        resent = resent;
        due = c.in_ok-begin.ensures.due h st;
        stands = stands;
        put = c.in_ok-put_from.ensures ∙ ap (λ n. put_all c.args.down.now turn (drop n (under_way Down c.send_new.new.world))) (c.copies-before.ensures.stands h st)
            ∙ ap (λ bs. put_all c.args.down.now turn (drop (length (blocks_of Down h)) bs)) stands.down;
      },
      c.in_ok-send_new.ensures.asked (run_world steps h) first ∙ ap (λ (ns : List ℕ). ns ++ asked_in (sends 12) (run_world steps h)) c.new-asked.ensures ∙ sym (asked_after turn (orders c.args.c c.args.b) resent h (sends 12)),
    )
