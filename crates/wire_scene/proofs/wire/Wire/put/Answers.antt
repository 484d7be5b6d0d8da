use Rattle.wire_scene.specs.declared.wire.Underway.{Underway}
use Rattle.wire_scene.proofs.Wires.{found_put}
use Rattle.wire_scene.proofs.wire.Wire.put.Goals as goal

pub invariant_of-self-2 : goal.invariant_of-self-2
invariant_of-self-2 c =
    let put : Underway = record { block = c.args.b; deed = c.deed_of-deed.result; due = c.due_turn-due.result; fate = c.fate_of-fate.result } in (
      c.count-self-inside.ensures.rise,
      c.self.invariant.1,
      found_put c.self.inside.copies.items c.push_back.new.self.items put c.self.invariant.2 c.in_ok-push_back.ensures.items c.fate_of-fate.ensures,
    )
