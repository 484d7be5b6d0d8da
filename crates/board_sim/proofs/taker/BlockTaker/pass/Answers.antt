use Rattle.std.proofs.Common.{◌∙◌, ap}
use Rattle.board_sim.specs.Rig.{Rig, passes}
use Rattle.board_sim.specs.Turn.{Station}
use Rattle.board_sim.proofs.taker.BlockTaker.pass.Goals as goal

pub invariant_of-self : goal.invariant_of-self
invariant_of-self c = c.self.invariant

pub invariant_of-self-2 : goal.invariant_of-self-2
invariant_of-self-2 c = c.self.invariant

pub invariant_of-self-in_err-give_all : goal.invariant_of-self-in_err-give_all
invariant_of-self-in_err-give_all c = c.self.invariant

pub give_all-requires-clause-formats : goal.give_all-requires-clause-formats
give_all-requires-clause-formats c = c.self.invariant

pub returns-clause-tick : goal.returns-clause-tick
returns-clause-tick c = c.in_ok-made.ensures.tick

pub returns-clause-station : goal.returns-clause-station
returns-clause-station c =
    let inside = c.self.inside in
    let with_rig : Rig → Station = λ r. record { rig = r; expected = inside.end; told = inside.told } in
    let after : Station → Station = λ s. record s { rig = (passes s.rig c.args.until).rig } in
    ap with_rig c.in_ok-made.ensures.rig ∙ ap after c.self.view_is

pub returns-clause-pulses : goal.returns-clause-pulses
returns-clause-pulses c = c.in_ok-made.ensures.pulses ∙ ap (λ (s : Station). (passes s.rig c.args.until).pulses) c.self.view_is
