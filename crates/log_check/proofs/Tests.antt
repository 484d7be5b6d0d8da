-- Both of two tests.
use Rattle.std.proofs.Common.{◌≡◌, Bool, true, false, refl}
use Rattle.std.specs.Prelude.{◌&&◌}
use Rattle.plan_types.proofs.Facts.{first_of_both, second_of_both}
