use Rattle.std.proofs.Common.{◌+◌, ◌<◌, subst, sym}
use Rattle.plan_types.specs.Clock.{board_tick, tick_limit}
use Rattle.link_work.specs.Stands.{SeenLink}
use Rattle.session_run.specs.Links.{TurnsLink}
use Rattle.session_run.proofs.Linking.{known}
use Rattle.session_run.proofs.link.BoardLinkLinkMachine.turn.Goals as goal

pub returns-clause-state : goal.returns-clause-state
returns-clause-state c =
    let e = c.in_ok-state.ensures in
    let InRange : SeenLink → Type 0 = λ s. board_tick s.clock (c.args.k + 1) < tick_limit in
    subst (λ s. TurnsLink s c.args.k c.args.control c.args.batch c.in_ok-state.state c.turn.new.self) c.self.view_is
    record {
      turned = e.turned;
      late = e.late;
      held = e.held;
      counted = e.counted;
      cause = e.cause;
      in_time = e.in_time;
      clock = e.clock;
      turn = e.turn;
      few = c.requires.can.1.few;
      in_range = subst InRange (sym c.self.view_is) c.requires.can.1.in_range;
    }

pub invariant_of-self-2 : goal.invariant_of-self-2
invariant_of-self-2 c = λ _. known c.args.self.now c.args.k c.args.control c.args.batch c.in_ok-state.state c.turn.new.self c.requires.can.0 (returns-clause-state c)
