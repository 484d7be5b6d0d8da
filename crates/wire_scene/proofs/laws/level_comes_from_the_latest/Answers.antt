use Rattle.wire_scene.proofs.Latest.{latest}
use Rattle.wire_scene.proofs.laws.level_comes_from_the_latest.Goals as goal

pub returns : goal.returns
returns c m scene board pin tick valid = latest board pin tick scene.switches valid.ticks_rise
