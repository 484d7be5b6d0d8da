use Rattle.std.proofs.Common.{None}
use Rattle.std.specs.Prelude.{pos}
use Rattle.msg_code.specs.declared.unit.Unit.{Unit as StepUnit}
use Rattle.board_world.proofs.Queueing.{unit_more}
use Rattle.board_world.proofs.orders.queue_units.Goals as goal

none : StepUnit
none = record { stepper = 0; first = 0; last = 0; due = 0; triple = record { interval = 0; count = 0; add = pos 0 }; up = None; reset = None }

pub loop-unit-preserved : goal.loop-unit-preserved
unfolding none
loop-unit-preserved c =
    unit_more c.args.units.now c.loop-unit.unit-index none c.args.host.now c.loop-unit.host c.queue_unit.new.host c.loop-unit-test.true
    c.loop-unit.invariant c.in_ok-queue_unit.ensures.host c.in_ok-queue_unit.ensures.read
