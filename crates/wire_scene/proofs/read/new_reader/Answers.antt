use Rattle.std.proofs.Common.{arith}
use Rattle.wire_scene.specs.declared.scene.Entry.{Entry}
use Rattle.wire_scene.specs.declared.scene.Switch.{Switch}
use Rattle.wire_scene.specs.Scenes.{is_on, is_of}
use Rattle.wire_scene.proofs.Lasts.{remember_of_none}
use Rattle.wire_scene.proofs.read.new_reader.Goals as goal

pub returns-clause-in_step : goal.returns-clause-in_step
returns-clause-in_step c = record {
  numbers = remember_of_none is_on (λ (e : Entry). e.number) c.in_ok-new.field-0 c.empty.result.entries c.in_ok-new.ensures c.empty.ensures.entries;
  ticks = remember_of_none is_of (λ (s : Switch). s.tick) c.in_ok-new-2.field-0 c.empty.result.switches c.in_ok-new-2.ensures c.empty.ensures.switches;
  few = rw (c.empty.ensures.entries, c.empty.ensures.switches) (omega arith);
}
