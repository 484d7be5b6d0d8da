use Rattle.std.proofs.Common.{◌∙◌, refl}
use Rattle.wire_scene.specs.Wire.{Copy, empty_line}
use Rattle.wire_scene.specs.WireRuns.{deeds}
use Rattle.wire_scene.proofs.WireLaws.{bytes_put, dues_put, last_put, starts}
use Rattle.wire_scene.proofs.wire.laws.blocks_are_due.Goals as goal

pub returns : goal.returns
returns c = record {
  blocks = λ connecting entries steps.
      let first = empty_line connecting entries in
      let told = starts connecting entries steps in
      let last = last_put (λ (c : Copy). c.bytes) (λ c. refl) steps (deeds connecting entries 0 steps) first told in
      (last.0, last.1 ∙ bytes_put steps (deeds connecting entries 0 steps) first 0 told);
  turns = λ connecting entries steps.
      let first = empty_line connecting entries in
      let told = starts connecting entries steps in
      let last = last_put (λ (c : Copy). c.due) (λ c. refl) steps (deeds connecting entries 0 steps) first told in
      (last.0, last.1 ∙ dues_put steps (deeds connecting entries 0 steps) 0);
}
