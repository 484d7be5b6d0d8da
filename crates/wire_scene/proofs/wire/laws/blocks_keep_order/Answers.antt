use Rattle.std.proofs.Common.{map}
use Rattle.wire_scene.specs.Wire.{empty_line}
use Rattle.wire_scene.specs.WireRuns.{arrivals, blocks_put, deeds, run_line, times, to_come}
use Rattle.wire_scene.proofs.WireLaws.{all_come, in_order, starts}
use Rattle.wire_scene.proofs.wire.laws.blocks_keep_order.Goals as goal

pub returns : goal.returns
returns c = record {
  each = λ connecting entries steps. all_come steps (deeds connecting entries 0 steps) (empty_line connecting entries) (starts connecting entries steps);
  order = λ connecting entries steps.
      let first = empty_line connecting entries in
      let ds = deeds connecting entries 0 steps in
      in_order (blocks_put steps) (arrivals steps first) (to_come (run_line steps first).copies) (map times ds) (all_come steps ds first (starts connecting entries steps));
}
