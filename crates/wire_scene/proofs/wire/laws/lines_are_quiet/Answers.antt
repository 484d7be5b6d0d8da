use Rattle.std.proofs.Common.{arith}
use Rattle.wire_scene.specs.Wire.{empty_line}
use Rattle.wire_scene.specs.WireRuns.{deeds}
use Rattle.wire_scene.proofs.WireLaws.{calm_over, over_calm, starts}
use Rattle.wire_scene.proofs.wire.laws.lines_are_quiet.Goals as goal

pub returns : goal.returns
returns c = λ connecting entries steps turn.
    let first = empty_line connecting entries in
    let ds = deeds connecting entries 0 steps in
    let told = starts connecting entries steps in (
      λ quiet. (quiet.nothing, (calm_over turn steps ds first told quiet.calm).1),
      λ over. record { nothing = over.0; calm = over_calm turn steps ds first told (omega arith) over.1 },
    )
