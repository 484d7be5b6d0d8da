use Rattle.std.proofs.Common.{◌≡◌, ◌<◌, ◌≤◌, ◌+◌, ◌∙◌, ap, sym, subst, refl, rules, arith, length, vec_len, get_or, set, length-set, ◌++◌, ◌∷◌, []}
use Rattle.std.proofs.lemmas.List.{get_or_default}
use Rattle.std.proofs.lemmas.List.Edits.{get_or-remove_above}
use Rattle.lane_queue.specs.Ends.{IsSendOf, put, put_first, next_put}
use Rattle.session_work.specs.Rows.{PutMore, item}
use Rattle.session_work.proofs.Each.{done_next, same_next, item_at}
use Rattle.session_work.proofs.rows.put_each.Goals as goal

-- the pass that is lent is as it was when the loop began, so its next number is the turn
pub put-requires-clause-number : goal.put-requires-clause-number
put-requires-clause-number g c =
    let i = c.loop-i.i in let p = c.index_mut.result.now in let old = c.args.passes.now.items in let m = c.take_first-msg.result in
    let room : length old ≡ length c.args.lanes.now = search rules in
    let many : length c.args.msgs.items ≡ length c.args.lanes.now = search rules in
    let below : i < length c.args.lanes.now = c.loop-i-test.true in
    let here : p ≡ get_or old i p = c.index_mut.ensures.value ∙ c.loop-i.invariant.same i p (search rules) in
    let inside : i < length old = omega arith in
    let next : next_put (get_or old i p) ≡ c.args.k = (c.requires.passes i c.index-lanes-i.result p inside).1 in
    let at : i + 0 ≡ i = omega arith in
    let is : m ≡ get_or c.args.msgs.items i m = c.take_first-msg.ensures.value ∙ (c.loop-i.invariant.rest 0 m ∙ ap (λ k. get_or c.args.msgs.items k m) at) in
    ap g.T.Numbered.number is ∙ (c.requires.numbers i m (omega arith) ∙ (sym next ∙ ap next_put (sym here)))

pub loop-i-preserved : goal.loop-i-preserved
loop-i-preserved g c =
    let i = c.loop-i.i in let now = c.loop-i.passes.items in let old = c.args.passes.now.items in let lanes = c.args.lanes.now in let msgs = c.args.msgs.items in
    let new = c.put.new.pass in let was = c.index_mut.result.now in let lane = c.index-lanes-i.result in let m = c.take_first-msg.result in
    let size : length now ≡ length old = c.loop-i.invariant.size in
    let room : length old ≡ length lanes = search rules in
    let many : length msgs ≡ length lanes = search rules in
    let below : i < length lanes = c.loop-i-test.true in
    let inside : i < length now = omega arith in
    let at : i + 0 ≡ i = omega arith in
    let is : m ≡ get_or msgs i m = c.take_first-msg.ensures.value ∙ (c.loop-i.invariant.rest 0 m ∙ ap (λ k. get_or msgs k m) at) in
    let one : item i msgs ≡ m ∷ [] = item_at msgs i m (omega arith) ∙ ap (λ x. x ∷ []) (sym is) in
    let left = c.loop-i.invariant.left in let less : vec_len c.take_first-msg.new.msgs + 1 ≡ vec_len c.loop-i.msgs = c.take_first-msg.ensures.len in
    let some : 0 < length c.loop-i.msgs.items = search rules in record {
      left = omega arith;
      rest = λ j x. ap (λ xs. get_or xs j x) c.take_first-msg.ensures.items ∙ (get_or-remove_above c.loop-i.msgs.items 0 x j (omega arith) some ∙ (c.loop-i.invariant.rest (j + 1) x ∙ (let e : i + (j + 1) ≡ (i + 1) + j = omega arith in ap (λ k. get_or msgs k x) e)));
      size = length-set now i new ∙ size;
      done = done_next (λ j. PutMore (item j msgs)) lanes old now i new inside c.loop-i.invariant.done
          (λ x p. let here : was ≡ get_or old i p = c.index_mut.ensures.value ∙ (c.loop-i.invariant.same i was (search rules) ∙ get_or_default old i was p (omega arith)) in
          let there : lane ≡ get_or lanes i x = c.index-lanes-i.is ∙ get_or_default lanes i lane x below in (
            subst (λ l. IsSendOf l new) there c.put.ensures.lane,
            c.put.ensures.first ∙ ap put_first here,
            c.put.ensures.put ∙ ((λ k. put (here k) ++ sym one k)),
          ));
      same = same_next old now i new c.loop-i.invariant.same;
    }

pub returns : goal.returns
returns g c = (c.loop-i.invariant.size, λ j l p q below. c.loop-i.invariant.done j l p q (let s = c.loop-i.invariant.size in let r : length c.args.passes.now.items ≡ length c.args.lanes.now = search rules in let f = c.loop-i-test.false in omega arith))
