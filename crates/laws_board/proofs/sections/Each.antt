-- What the laws say of each board of a run.
use Rattle.std.proofs.Common.{◌≡◌, Option, Some, None, refl, sym, ◌∙◌, subst}
use Rattle.laws_board.proofs.Names.{BoardState, Running, Shut, ShutNews}
use Rattle.link_work.specs.Told.{IsShutNews}
use Rattle.link_work.proofs.Spilled.{state_by}
