use Rattle.std.proofs.Common.{arith}
use Rattle.step_pack.proofs.Longest.{great_within, small_within, own_within}
use Rattle.step_pack.proofs.find.+longest.Goals as goal

pub returns-in-Whole-clause-most : goal.returns-in-Whole-clause-most
returns-in-Whole-clause-most t c o i n from below is =
    let most = rw c.in-Whole.is at c.reach-verdict.ensures.most in
    let h = most o i n tt is in
    let two = c.longer-better.ensures.two in
    omega (arith, h, two)

pub returns-in-TooGreat-clause-most : goal.returns-in-TooGreat-clause-most
returns-in-TooGreat-clause-most t c =
    let two = c.longer-better.ensures.two in
    great_within _ _ _ _ _ _ _ _ _ (omega arith) (rw c.in-TooGreat.is at c.reach-verdict.ensures.most) (let g = c.longest.ensures.grows in omega (arith, g, two)) c.longest.ensures.most

pub returns-in-TooSmall-clause-most : goal.returns-in-TooSmall-clause-most
returns-in-TooSmall-clause-most t c =
    let two = c.longer-better.ensures.two in
    small_within _ _ _ _ _ _ _ _ _ (omega arith) (rw c.in-TooSmall.is at c.reach-verdict.ensures.most) (let g = c.longest-in-TooSmall.ensures.grows in omega (arith, g, two)) c.longest-in-TooSmall.ensures.most

pub returns-in-Own-clause-most : goal.returns-in-Own-clause-most
returns-in-Own-clause-most t c =
    let two = c.longer-better.ensures.two in
    own_within _ _ _ _ _ _ _ _ (rw c.in-Own.is at c.reach-verdict.ensures.most) (let g = c.longest-lower.ensures.grows in omega (arith, g, two)) c.longest-in-Own.ensures.grows
    c.longest-lower.ensures.most c.longest-in-Own.ensures.most
