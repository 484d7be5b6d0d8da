use Rattle.std.proofs.Common.{◌≡◌, length}
use Rattle.wire_scene.specs.Scenes.{last_switch, or_earlier}
use Rattle.wire_scene.proofs.scene.switch_at.Given as goal

abbrev pub invariant-loop-rest : goal.invariant-loop-rest
invariant-loop-rest l = or_earlier (last_switch l.board l.pin l.tick l.rest) l.found ≡ last_switch l.board l.pin l.tick l.fn.switches

abbrev pub decreases-loop-rest : goal.decreases-loop-rest
decreases-loop-rest l = length l.rest
