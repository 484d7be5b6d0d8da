use Rattle.std.proofs.Common.{◌≡◌, ◌∙◌, ◌+◌, ◌<◌, Bool, [], ap, arith, false, refl, ◌++◌, subst, sym}
use Rattle.plan_types.specs.Clock.{board_tick, tick_limit}
use Rattle.link_work.specs.Turn.{IsTurn, after_board, after_host}
use Rattle.plan_types.specs.declared.plan.BoardState.{BoardState}
use Rattle.msg_code.specs.declared.talk.State.{State}
use Rattle.link_work.specs.Told.{IsShutNews, IsTold}
use Rattle.link_work.specs.Stands.{SeenLink, orders}
use Rattle.link_work.proofs.Parts.{BoardRan, RepliesCame, begun, may_reply, may_take, news_come, replies_before, seen, stands_as, turn_done}
use Rattle.link_work.proofs.Stretches.{goes_on, spoiled_more}
use Rattle.link_work.proofs.link.Link.busy_turn.Goals as goal

pub board_part-requires-clause-can : goal.board_part-requires-clause-can
board_part-requires-clause-can c =
    let i = c.self.inside in
    let turn = c.args.turn in
    let e : c.args.until ≡ board_tick i.clock (turn + 1) = c.requires.until ∙ ap (λ (x : SeenLink). board_tick x.clock (turn + 1)) (sym c.self.view_is) in
    let small : board_tick i.clock (turn + 1) < tick_limit = omega (arith, e, c.requires.in_range) in
    let o = orders c.args.c c.args.b in
    let w1 = c.host_part.new.world in
    let d1 = c.host_part.new.down in
    let known = c.requires.known in
    let l = known.0 in
    let st = begun i.clock i.world i.down i.up turn i.next i.stretch i.held c.args.self.now l c.self.view_is c.requires.next known.1 in
    let part = (c.in_ok-asked.ensures l.core st.world).0 in
    may_take i.clock turn o i.world w1 i.down i.up c.open_line.new.wire d1 l st part small

pub hear_due-requires : goal.hear_due-requires
hear_due-requires c =
    let i = c.self.inside in
    let turn = c.args.turn in
    let o = orders c.args.c c.args.b in
    let w1 = c.host_part.new.world in
    let d1 = c.host_part.new.down in
    let known = c.requires.known in
    let l = known.0 in
    let st = begun i.clock i.world i.down i.up turn i.next i.stretch i.held c.args.self.now l c.self.view_is c.requires.next known.1 in
    let part = (c.in_ok-asked.ensures l.core st.world).0 in
    let w2 = c.board_part.new.world in
    let d2 = c.board_part.new.down in
    let u2 = c.board_part.new.up in
    let until = c.args.until in
    let e : until ≡ board_tick i.clock (turn + 1) = c.requires.until ∙ ap (λ (x : SeenLink). board_tick x.clock (turn + 1)) (sym c.self.view_is) in
    let b = c.in_ok-board_part.ensures in
    let ran : BoardRan turn until w1 w2 d1 d2 c.open_line-2.new.wire u2 = record { core = b.core; down = b.down; up = b.up } in
    may_reply i.clock turn until o i.world w1 w2 i.down i.up c.open_line.new.wire d1 d2 c.open_line-2.new.wire u2 l st part e ran c.requires.in_range

pub returns-clause-turned : goal.returns-clause-turned
returns-clause-turned c = λ l stands.
    let i = c.self.inside in
    let turn = c.args.turn in
    let o = orders c.args.c c.args.b in
    let w1 = c.host_part.new.world in
    let d1 = c.host_part.new.down in
    let st = begun i.clock i.world i.down i.up turn i.next i.stretch i.held c.args.self.now l c.self.view_is c.requires.next stands in
    let part = (c.in_ok-asked.ensures l.core st.world).0 in
    let w2 = c.board_part.new.world in
    let d2 = c.board_part.new.down in
    let u2 = c.board_part.new.up in
    let until = c.args.until in
    let e : until ≡ board_tick i.clock (turn + 1) = c.requires.until ∙ ap (λ (x : SeenLink). board_tick x.clock (turn + 1)) (sym c.self.view_is) in
    let b = c.in_ok-board_part.ensures in
    let ran : BoardRan turn until w1 w2 d1 d2 c.open_line-2.new.wire u2 = record { core = b.core; down = b.down; up = b.up } in
    let w3 = c.hear_due.new.world in
    let u3 = c.hear_due.new.wire in
    let came : RepliesCame turn w2 w3 u2 u3 = record { core = c.in_ok-news.ensures.stands; line = c.in_ok-news.ensures.line } in
    let done = turn_done i.clock turn until o i.world w1 w2 w3 i.down c.open_line.new.wire d1 d2 i.up c.open_line-2.new.wire u2 u3 l st c.open_line.ensures c.open_line-2.ensures part e ran came in
    let out : State = record {
      turn = turn;
      news = c.in_ok-news.news;
      pulses = c.in_ok-pulses.pulses;
      asked = c.in_ok-asked.asked;
      shut = c.in_ok-shut.shut;
      idle = c.idle-idle.result;
      out = false;
    } in
    let replies = replies_before i.clock turn until o i.world w1 w2 i.down c.open_line.new.wire d1 d2 i.up c.open_line-2.new.wire u2 l st c.open_line.ensures c.open_line-2.ensures part e ran in
    let told : IsTold i.clock turn o l part.resent done.after.core out = record {
      turn = refl;
      pulses = ap (λ ps. l.core.made ++ ps) (c.in_ok-pulses.ensures ∙ done.stands.world.pulses) ∙ done.made;
      news = news_come turn w2 d2 u2 (after_board i.clock turn (after_host turn o part.resent l)) [] out.news out.news replies refl c.in_ok-news.ensures.news refl;
      asked = (c.in_ok-asked.ensures l.core st.world).1;
      shut = subst (λ (x : BoardState). IsShutNews x out.shut) (c.state.ensures.stands done.after.core done.stands.world) c.in_ok-shut.ensures.state;
      idle = c.idle-idle.ensures.stands done.after.core done.stands.world;
      in_memory = refl;
    } in
    let Told : Bool → Type 0 = λ resent. IsTold i.clock turn o l resent done.after.core out in
    let By : SeenLink → Type 0 = λ s. (t : IsTurn s.clock turn o l done.after) × IsTold s.clock turn o l t.resent done.after.core out in
    let both : (t : IsTurn i.clock turn o l done.after) × IsTold i.clock turn o l t.resent done.after.core out = (done.is, subst Told (sym done.same) told) in
    let said = subst By c.self.view_is both in (
      done.after,
      said.0,
      stands_as (seen i.clock w3 d2 u3 (turn + 1)) done.after c.end_turn.new.stretch c.end_turn.new.held done.stands,
      said.1,
      goes_on turn done.after d2 u3 c.args.self.now.spoiled i.stretch c.end_turn.new.stretch c.are_quiet-quiet.result c.idle-idle.result
          (λ ends e t q x was. c.in_ok-shut.ensures.spoiled
          ∙ sym (spoiled_more ends e turn c.are_quiet-quiet.result c.idle-idle.result i.stretch t q x was))
          (ap (λ (x : SeenLink). x.spoiled) c.self.view_is) done.stands.down done.stands.up c.are_quiet-quiet.ensures told.idle,
    )
