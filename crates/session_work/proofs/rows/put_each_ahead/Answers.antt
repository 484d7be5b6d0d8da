use Rattle.std.proofs.Common.{◌≡◌, ◌<◌, ◌≤◌, ◌+◌, ◌-◌, ◌∙◌, ap, sym, subst, refl, rules, arith, length, get_or, set, length-set, ◌++◌, ◌∷◌, [], false}
use Rattle.std.proofs.lemmas.List.{get_or_default}
use Rattle.lane_queue.specs.Ends.{IsSendOf, put, put_first, next_put}
use Rattle.session_work.specs.Leads.{each_turn}
use Rattle.session_work.specs.Rows.{PutMore}
use Rattle.session_work.proofs.Each.{done_next, same_next}
use Rattle.session_work.proofs.rows.put_each_ahead.Goals as goal

pub put_ahead-requires-clause-pass : goal.put_ahead-requires-clause-pass
put_ahead-requires-clause-pass g c =
    let i = c.loop-j.j in let p = c.index_mut.result.now in let old = c.args.passes.now.items in let lane = c.index-lanes-j.result in let lanes = c.args.lanes.now in
    let room : length old ≡ length lanes = search rules in
    let below : i < length lanes = c.loop-j-test.true in
    let here : p ≡ get_or old i p = c.index_mut.ensures.value ∙ c.loop-j.invariant.same i p (search rules) in
    let was = c.requires.passes i lane p (omega arith) in
    let there : get_or lanes i lane ≡ lane = sym c.index-lanes-j.is in
    (subst (λ l. IsSendOf l p) there (subst (λ q. IsSendOf (get_or lanes i lane) q) (sym here) was.0), ap next_put here ∙ was.1)

pub loop-j-preserved : goal.loop-j-preserved
loop-j-preserved g c =
    let i = c.loop-j.j in let now = c.loop-j.passes.items in let old = c.args.passes.now.items in let lanes = c.args.lanes.now in
    let new = c.put_ahead.new.pass in let was = c.index_mut.result.now in let lane = c.index-lanes-j.result in
    let size : length now ≡ length old = c.loop-j.invariant.size in
    let room : length old ≡ length lanes = search rules in
    let below : i < length lanes = c.loop-j-test.true in
    let inside : i < length now = omega arith in
    let msgs = each_turn (λ k. g.T.Bare.bare k false) c.args.from (c.args.to - c.args.from) in let more = c.put_ahead.ensures in record {
      size = length-set now i new ∙ size;
      done = done_next (λ j. PutMore msgs) lanes old now i new inside c.loop-j.invariant.done
          (λ x p. let here : was ≡ get_or old i p = c.index_mut.ensures.value ∙ (c.loop-j.invariant.same i was (search rules) ∙ get_or_default old i was p (omega arith)) in
          let there : lane ≡ get_or lanes i x = c.index-lanes-j.is ∙ get_or_default lanes i lane x below in (
            subst (λ l. IsSendOf l new) there more.0,
            more.1 ∙ ap put_first here,
            more.2 ∙ ap (λ q. put q ++ msgs) here,
          ));
      same = same_next old now i new c.loop-j.invariant.same;
    }

pub returns : goal.returns
returns g c = (c.loop-j.invariant.size, λ j l p q below. c.loop-j.invariant.done j l p q (let s = c.loop-j.invariant.size in let r : length c.args.passes.now.items ≡ length c.args.lanes.now = search rules in let f = c.loop-j-test.false in omega arith))
