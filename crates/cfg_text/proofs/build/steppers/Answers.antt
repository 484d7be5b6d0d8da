use Rattle.std.proofs.Common.{◌≡◌, ◌++◌, ◌∷◌, [], sym, subst, arith, rules}
use Rattle.std.proofs.lemmas.Grind.{common_steps}
use Rattle.cfg_text.proofs.Parts.{steppers_more}
use Rattle.cfg_text.specs.Valid.{AreSteppersOn, IsStepperBehind}
use Rattle.cfg_text.proofs.build.steppers.Goals as goal

pub loop-rest-preserved : goal.loop-rest-preserved
loop-rest-preserved c = let is : c.push.new.self ≡ c.loop-rest.steppers ++ c.in_ok-next.next ∷ [] = grind (arith, common_steps) in
    let next : IsStepperBehind c.args.boards.now c.loop-rest.steppers c.in_ok-next.next = search rules in record {
      value = grind (arith, common_steps);
      valid = subst (AreSteppersOn c.args.boards.now) (sym is) (steppers_more c.args.boards.now c.loop-rest.steppers c.in_ok-next.next c.loop-rest.invariant.valid next);
      count = grind (arith, common_steps);
    }
