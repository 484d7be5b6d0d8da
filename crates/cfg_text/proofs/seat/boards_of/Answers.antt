use Rattle.std.proofs.Common.{◌≡◌, sym, subst, arith}
use Rattle.std.proofs.lemmas.Grind.{common_steps}
use Rattle.cfg_text.proofs.Parts.{boards_differ}
use Rattle.cfg_text.specs.Building.{board_defs}
use Rattle.cfg_text.specs.Valid.{NamesDiffer}
use Rattle.cfg_text.proofs.seat.boards_of.Goals as goal

pub returns-clause-differ : goal.returns-clause-differ
returns-clause-differ c = let is : c.loop-name.boards ≡ board_defs c.args.entries.now c.args.uses.now c.args.names.now = grind (arith, common_steps) in
    subst NamesDiffer (sym is) (boards_differ c.args.entries.now c.args.uses.now c.args.names.now c.requires.differ)
