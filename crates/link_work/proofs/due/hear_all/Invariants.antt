use Rattle.wire_scene.specs.declared.scene.Way.TheVariants.{Up}
use Rattle.wire_scene.specs.Wire.{dues_left}
use Rattle.link_work.proofs.Coming.{HasCome}
use Rattle.link_work.proofs.Hearing.{HasHeard}
use Rattle.link_work.proofs.due.hear_all.Given as goal

abbrev pub invariant-loop-came : goal.invariant-loop-came
invariant-loop-came l = record {
  come : HasCome Up l.turn l.initial.world l.world l.initial.wire l.wire;
  heard : HasHeard l.turn l.initial.world l.world l.initial.news l.news l.initial.wire.copies l.wire.copies;
}

abbrev pub decreases-loop-came : goal.decreases-loop-came
decreases-loop-came l = dues_left l.wire.copies
