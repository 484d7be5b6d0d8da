use Rattle.std.proofs.Common.{rules, arith, ◌≡◌, ◌+◌, ◌++◌, ◌∷◌, ◌∙◌, [], length, ap, subst, sym, length-append}
use Rattle.session_work.specs.Lates.{AreLate}
use Rattle.session_work.specs.Motions.{IsFed}
use Rattle.session_work.proofs.Motions.{late_more}
use Rattle.session_lanes.proofs.alone.plan_turn.Goals as goal

pub returns-clause-late : goal.returns-clause-late
returns-clause-late g c =
    let m = g.M.MotionMachine in let n = length c.args.place.now.lanes.batches.now in let old = c.args.both.now.motion.late.items in let kept = c.keep.ensures.late in let x = kept.0 in
    let was : c.feed_here.new.both.motion.late.items ≡ old = search rules in
    let is : c.keep.new.motion.late.items ≡ old ++ x ∷ [] = kept.1 ∙ ap (λ xs. xs ++ x ∷ []) was in
    let all = late_more m n c.args.k c.args.both.now.next old x c.requires.late.0 kept.2 c.requires.late.1 in
    let many = ap length is in let long = length-append old (x ∷ []) in let at = c.requires.late.1 in
    (subst (AreLate n c.args.k) (sym is) all, omega arith)

pub hear-requires-clause-limit : goal.hear-requires-clause-limit
hear-requires-clause-limit g c = c.requires.limit

pub hear-requires-clause-at : goal.hear-requires-clause-at
hear-requires-clause-at g c = c.requires.motion

pub feed_here-requires-clause-motion : goal.feed_here-requires-clause-motion
feed_here-requires-clause-motion g c = c.hear.ensures.heard

pub feed_here-requires-clause-reactor : goal.feed_here-requires-clause-reactor
feed_here-requires-clause-reactor g c = c.requires.reactor

pub keep-requires-clause-fed : goal.keep-requires-clause-fed
keep-requires-clause-fed g c = subst (λ n. IsFed g.M.MotionMachine c.args.place.now.lanes n c.args.place.now.start.now.value c.feed_here.new.both.motion) c.feed_here.ensures.next c.feed_here.ensures.motion

pub returns-clause-motion : goal.returns-clause-motion
returns-clause-motion g c = c.keep.ensures.at

pub returns-clause-reactor : goal.returns-clause-reactor
returns-clause-reactor g c = c.feed_here.ensures.reactor
