use Rattle.std.proofs.Common.{◌∙◌}
use Rattle.block_frame.proofs.FoundOut.{same_test}
use Rattle.block_frame.proofs.spoils.Goals as goal

pub returns-clause-test : goal.returns-clause-test
returns-clause-test c =
    same_test c.args.b.now.items c.as_slice.result.now c.new-scanner.result c.is_only_bad.result c.new-scanner.ensures (c.as_slice.ensures.value ∙ c.with_ends.ensures) c.is_only_bad.ensures
