use Rattle.wire_scene.proofs.PinLevels.{tells}
use Rattle.wire_scene.proofs.laws.levels_are_those_of_the_scene.Goals as goal

pub returns : goal.returns
returns c = tells
