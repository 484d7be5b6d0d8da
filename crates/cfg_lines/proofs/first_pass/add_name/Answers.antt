use Rattle.std.proofs.Common.{◌≡◌, ◌++◌, ◌∷◌, [], false, sym, subst, arith}
use Rattle.std.proofs.lemmas.Grind.{common_steps}
use Rattle.cfg_lines.specs.Items.{has_name}
use Rattle.cfg_lines.proofs.Distinct.{AreDistinct, appended}
use Rattle.cfg_lines.proofs.first_pass.add_name.Goals as goal

pub returns-in_ok-push-clause-differ : goal.returns-in_ok-push-clause-differ
returns-in_ok-push-clause-differ c = let none : has_name c.args.names.now.items c.args.name.now ≡ false = grind (arith, common_steps) in
    let is : c.push.new.self.items ≡ c.args.names.now.items ++ c.args.name.now ∷ [] = grind (arith, common_steps) in
    subst AreDistinct (sym is) (appended c.args.names.now.items c.args.name.now none c.requires.differ)
