use Rattle.std.proofs.Common.{◌≡◌, Ok, arith}
use Rattle.std.proofs.lemmas.Grind.{common_steps}
use Rattle.wire_scene.specs.Reading.{scene_of_text}
use Rattle.wire_scene.proofs.ValidScene.{valid}
use Rattle.wire_scene.proofs.read.read_scene.Goals as goal

pub returns-clause-valid : goal.returns-clause-valid
unfolding scene_of_text
returns-clause-valid c = let is : scene_of_text c.args.machine.now c.args.text.now ≡ Ok c.loop-rest.reader.scene = grind (arith, common_steps) in
    valid c.args.machine.now c.args.text.now c.loop-rest.reader.scene is
