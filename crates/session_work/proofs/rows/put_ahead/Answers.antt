use Rattle.std.proofs.Common.{◌≡◌, ◌+◌, ◌-◌, ◌∙◌, ◌∷◌, ◌++◌, [], false, ap, sym, subst, rules, arith, refl, append-nil}
use Rattle.lane_queue.specs.Ends.{put, next_put}
use Rattle.session_work.specs.Leads.{each_turn}
use Rattle.session_work.specs.Rows.{PutMore}
use Rattle.session_work.proofs.Leads.{next_more, push_more}
use Rattle.session_work.proofs.rows.put_ahead.Goals as goal

pub put-requires-clause-number : goal.put-requires-clause-number
put-requires-clause-number g c = let i = c.loop-i.invariant in
    c.bare.ensures.number ∙ sym (next_more (λ i. g.T.Bare.bare i false) c.args.from i.0 c.loop-i.i c.args.pass.now c.loop-i.pass c.requires.pass.1 i.2.1 i.2.2 i.1)

pub loop-i-preserved : goal.loop-i-preserved
loop-i-preserved g c = let i = c.loop-i.invariant in let at = i.1 in (
  i.0 + 1,
  omega (arith, at),
  push_more (λ i. g.T.Bare.bare i false) c.args.from i.0 c.loop-i.i c.args.lane.now c.args.pass.now c.loop-i.pass c.put.new.pass i.1 i.2
      (c.put.ensures.lane, c.put.ensures.first, c.put.ensures.put ∙ ap (λ w. put c.loop-i.pass ++ w ∷ []) c.bare.ensures.bare),
)

pub returns : goal.returns
returns g c = let i = c.loop-i.invariant in let at = i.1 in let e : c.loop-i.i ≡ c.args.to = search rules in let o = c.requires.order in
    subst (λ n. PutMore (each_turn (λ j. g.T.Bare.bare j false) c.args.from n) c.args.lane.now c.args.pass.now c.loop-i.pass) (omega (arith, at, e, o)) i.2
