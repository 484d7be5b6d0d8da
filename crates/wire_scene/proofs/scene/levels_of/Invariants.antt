use Rattle.std.proofs.Common.{◌≡◌, ◌++◌, length}
use Rattle.wire_scene.specs.Scenes.{levels_of}
use Rattle.wire_scene.proofs.scene.levels_of.Given as goal

abbrev pub invariant-loop-rest : goal.invariant-loop-rest
invariant-loop-rest l = l.levels.items ++ levels_of l.board l.pin l.rest ≡ levels_of l.board l.pin l.fn.switches

abbrev pub decreases-loop-rest : goal.decreases-loop-rest
decreases-loop-rest l = length l.rest
