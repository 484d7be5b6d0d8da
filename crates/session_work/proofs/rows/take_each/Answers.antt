use Rattle.std.proofs.Common.{◌≡◌, ◌<◌, ◌≤◌, ◌+◌, ◌∙◌, ap, sym, subst, refl, rules, arith, length, vec_len, get_or, set, length-set, ◌++◌, ◌∷◌, []}
use Rattle.std.proofs.lemmas.List.{get_or_default, get_or_append_left, get_or_push, length-append}
use Rattle.lane_queue.specs.Ends.{IsTakeOf, taken, take_first, next_take}
use Rattle.session_work.specs.Rows.{TookMore, item}
use Rattle.session_work.proofs.Each.{done_next, same_next, item_push_before, item_push_at, more_of}
use Rattle.session_work.proofs.rows.take_each.Goals as goal

pub loop-i-preserved : goal.loop-i-preserved
loop-i-preserved g c =
    let i = c.loop-i.i in let now = c.loop-i.passes.items in let old = c.args.passes.now.items in let lanes = c.args.lanes.now in let msgs = c.loop-i.msgs.items in
    let new = c.take-msg.new.pass in let was = c.index_mut.result.now in let lane = c.index-lanes-i.result in let m = c.take-msg.result in
    let size : length now ≡ length old = c.loop-i.invariant.size in
    let room : length old ≡ length lanes = search rules in
    let below : i < length lanes = c.loop-i-test.true in
    let inside : i < length now = omega arith in
    let inside_old : i < length old = omega arith in
    let count : length msgs ≡ i = search rules in
    let pushed : c.push.new.self.items ≡ msgs ++ m ∷ [] = search rules in
    let here0 : was ≡ get_or old i was = c.index_mut.ensures.value ∙ c.loop-i.invariant.same i was (search rules) in
    let next : next_take (get_or old i was) ≡ c.args.k = (c.requires.passes i lane was inside_old).1 in
    let number : g.T.Numbered.number m ≡ c.args.k = c.take-msg.ensures.number ∙ (ap next_take here0 ∙ next) in
    let more : TookMore (item i (msgs ++ m ∷ [])) lane was new = (c.take-msg.ensures.lane, c.take-msg.ensures.first, c.take-msg.ensures.taken ∙ ap (λ r. taken was ++ r) (sym (item_push_at msgs m i (sym count)))) in record {
      count = search rules;
      room = let r = c.loop-i.invariant.room in let s = c.push.ensures.capacity in omega arith;
      numbers = λ j x low. subst (λ xs. g.T.Numbered.number (get_or xs j x) ≡ c.args.k) (sym pushed) (more_of g.T.Numbered.number c.args.k msgs m c.loop-i.invariant.numbers number j x (subst (λ xs. j < length xs) pushed low));
      size = length-set now i new ∙ size;
      done = subst (λ xs. (j : _) (x : _) (p q : _) → j < i + 1 → TookMore (item j xs) (get_or lanes j x) (get_or old j p) (get_or (set now i new) j q)) (sym pushed) (done_next (λ j. TookMore (item j (msgs ++ m ∷ []))) lanes old now i new inside
          (λ j x p q low. subst (λ r. TookMore r (get_or lanes j x) (get_or old j p) (get_or now j q)) (sym (item_push_before msgs m j (omega arith))) (c.loop-i.invariant.done j x p q low))
          (λ x p. let here : was ≡ get_or old i p = here0 ∙ get_or_default old i was p inside_old in
          let there : lane ≡ get_or lanes i x = c.index-lanes-i.is ∙ get_or_default lanes i lane x below in
          subst (λ l. TookMore (item i (msgs ++ m ∷ [])) l (get_or old i p) new) there (subst (λ w. TookMore (item i (msgs ++ m ∷ [])) lane w new) here more)));
      same = same_next old now i new c.loop-i.invariant.same;
    }

pub returns-clause-row : goal.returns-clause-row
returns-clause-row g c = (c.loop-i.invariant.size, λ j l p q below. c.loop-i.invariant.done j l p q (let s = c.loop-i.invariant.size in let r : length c.args.passes.now.items ≡ length c.args.lanes.now = search rules in let f = c.loop-i-test.false in omega arith))
