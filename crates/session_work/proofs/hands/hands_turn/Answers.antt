use Rattle.std.proofs.Common.{rules, arith, ◌≡◌, ◌+◌, ◌-◌, ◌<◌, ◌∙◌, [], ◌∷◌, ◌++◌, length, vec_len, get_or, set, length-set, length-append, subst, sym, ap}
use Rattle.std.proofs.lemmas.List.{get_or_default}
use Rattle.std.proofs.lemmas.List.Edits.{get_or-remove_above}
use Rattle.lane_queue.specs.declared.ends.Lane.{Lane}
use Rattle.lane_queue.specs.Ends.{IsSendOf, IsTakeOf, put, taken, next_put, next_take}
use Rattle.msg_code.specs.declared.unit.Batch.{Batch}
use Rattle.msg_code.specs.declared.unit.Control.{Control}
use Rattle.msg_code.specs.declared.talk.State.{State}
use Rattle.session_work.specs.Alone.{IsHandAt}
use Rattle.session_work.specs.Lates.{batches_of}
use Rattle.session_work.specs.Rows.{PutMore, TookMore, item}
use Rattle.session_work.proofs.Each.{some_done, some_left, map-set_same, done_next, same_next, get_or_next, item_at, item_push_before, item_push_at, more_of}
use Rattle.session_work.proofs.hands.hands_turn.Goals as goal

pub hand_turn-requires-clause-board : goal.hand_turn-requires-clause-board
hand_turn-requires-clause-board g c = let below = c.loop-i-test.true in let same = c.requires.boards.0 in let same2 = c.requires.boards.1 in (omega arith, omega arith, omega arith)

pub hand_turn-requires-clause-at : goal.hand_turn-requires-clause-at
hand_turn-requires-clause-at g c =
    let i = c.loop-i.i in let h = c.index_mut-in-loop-i-3.result.now in let now = c.loop-i.hands.items in
    let size = c.loop-i.invariant.size in let room : length c.args.hands.now.items ≡ length c.args.lanes.now.batches.now = search rules in let below = c.loop-i-test.true in
    let inside : i < length now = omega arith in
    subst (IsHandAt g.L.LinkMachine c.args.turn.now.number c.args.lanes.now i) (sym c.index_mut-in-loop-i-3.ensures.value) (c.loop-i.invariant.left i h (omega arith) inside)

pub hand_turn-requires-clause-control : goal.hand_turn-requires-clause-control
hand_turn-requires-clause-control g c =
    let i = c.loop-i.i in let m = c.take_first-control.result in let below = c.loop-i-test.true in
    let many : length c.args.turn.now.controls.items ≡ length c.args.lanes.now.controls.now = search rules in let same = c.requires.boards.0 in
    let at : i + 0 ≡ i = omega arith in
    let is : m ≡ get_or c.args.turn.now.controls.items i m = c.take_first-control.ensures.value ∙ (c.loop-i.invariant.rest 0 m ∙ ap (λ k. get_or c.args.turn.now.controls.items k m) at) in
    ap (λ (x : Control). x.turn) is ∙ c.requires.made.1 i m (omega arith)

pub hand_turn-requires-clause-send : goal.hand_turn-requires-clause-send
hand_turn-requires-clause-send g c =
    let i = c.loop-i.i in let p = c.index_mut.result.now in let old = c.args.sends.now.items in let below = c.loop-i-test.true in
    let many : length old ≡ length c.args.lanes.now.controls.now = search rules in let same = c.requires.boards.0 in
    let here : p ≡ get_or old i p = c.index_mut.ensures.value ∙ c.loop-i.invariant.unsent i p (omega arith) in
    λ l. let it = c.requires.sends.1 i l p (omega arith) in (subst (IsSendOf (get_or c.args.lanes.now.controls.now i l)) (sym here) it.0, ap next_put here ∙ it.1)

pub next_batch-batch-requires : goal.next_batch-batch-requires
next_batch-batch-requires g c =
    let n = length c.args.lanes.now.batches.now in let i = c.loop-i.i in let below = c.loop-i-test.true in
    record { some = (n - (i + 1), (c.loop-i.invariant.row ((n - (i + 1)) + 1) (omega arith)).0) }

pub hand_turn-requires-clause-batch : goal.hand_turn-requires-clause-batch
hand_turn-requires-clause-batch g c =
    let n = length c.args.lanes.now.batches.now in let k = c.args.turn.now.number in let i = c.loop-i.i in let below = c.loop-i-test.true in let b = c.next_batch-batch.result in let all = batches_of n k c.args.turn.now.batches in
    let m = n - (i + 1) in let held = c.loop-i.invariant.row (m + 1) (omega arith) in let first = c.next_batch-batch.ensures m held.0 in
    let at : i + 0 ≡ i = omega arith in
    let is : b ≡ get_or all i b = ap (λ xs. get_or xs 0 b) (sym first) ∙ (held.1 0 b ∙ ap (λ j. get_or all j b) at) in let long = c.requires.row.0 in
    ap (λ (x : Batch). x.turn) is ∙ c.requires.row.1 i b (omega arith)

pub hand_turn-requires-clause-batch_send : goal.hand_turn-requires-clause-batch_send
hand_turn-requires-clause-batch_send g c =
    let i = c.loop-i.i in let p = c.index_mut-in-loop-i.result.now in let old = c.args.batch_sends.now.items in let below = c.loop-i-test.true in
    let many : length old ≡ length c.args.lanes.now.batches.now = search rules in
    let here : p ≡ get_or old i p = c.index_mut-in-loop-i.ensures.value ∙ c.loop-i.invariant.unbatched i p (omega arith) in
    λ l. let it = c.requires.batch_sends.1 i l p (omega arith) in (subst (IsSendOf (get_or c.args.lanes.now.batches.now i l)) (sym here) it.0, ap next_put here ∙ it.1)

pub hand_turn-requires-clause-take : goal.hand_turn-requires-clause-take
hand_turn-requires-clause-take g c =
    let i = c.loop-i.i in let p = c.index_mut-in-loop-i-2.result.now in let old = c.args.takes.now.items in let below = c.loop-i-test.true in
    let many : length old ≡ length c.args.lanes.now.states.now = search rules in let same = c.requires.boards.1 in
    let here : p ≡ get_or old i p = c.index_mut-in-loop-i-2.ensures.value ∙ c.loop-i.invariant.untaken i p (omega arith) in
    λ l. let it = c.requires.takes.1 i l p (omega arith) in (subst (IsTakeOf (get_or c.args.lanes.now.states.now i l)) (sym here) it.0, ap next_take here ∙ it.1)

pub hand_turn-requires-clause-room : goal.hand_turn-requires-clause-room
hand_turn-requires-clause-room g c = let n = c.loop-i.invariant.count in let r = c.loop-i.invariant.room in let below = c.loop-i-test.true in let same = c.requires.boards.1 in omega arith

pub loop-i-preserved : goal.loop-i-preserved
loop-i-preserved g c =
    let i = c.loop-i.i in let now = c.loop-i.hands.items in let new = c.hand_turn.new.hand in let h = c.index_mut-in-loop-i-3.result.now in
    let size = c.loop-i.invariant.size in let room : length c.args.hands.now.items ≡ length c.args.lanes.now.batches.now = search rules in let below = c.loop-i-test.true in
    let same = c.requires.boards.0 in let same2 = c.requires.boards.1 in
    let inside : i < length now = omega arith in
    let there = c.hand_turn.ensures.at in
    let P = IsHandAt g.L.LinkMachine (c.args.turn.now.number + 1) c.args.lanes.now in let R = IsHandAt g.L.LinkMachine c.args.turn.now.number c.args.lanes.now in
    -- the control that is sent
    let made = c.args.turn.now.controls.items in let m = c.take_first-control.result in let many : length made ≡ length c.args.lanes.now.controls.now = search rules in
    let at : i + 0 ≡ i = omega arith in
    let is : m ≡ get_or made i m = c.take_first-control.ensures.value ∙ (c.loop-i.invariant.rest 0 m ∙ ap (λ k. get_or made k m) at) in
    let one : item i made ≡ m ∷ [] = item_at made i m (omega arith) ∙ ap (λ x. x ∷ []) (sym is) in
    let before = c.loop-i.invariant.still in let less : vec_len c.take_first-control.new.msgs + 1 ≡ vec_len c.loop-i.turn.controls = c.take_first-control.ensures.len in
    let some : 0 < length c.loop-i.turn.controls.items = search rules in
    let so = c.args.sends.now.items in let sn = c.loop-i.sends.items in let ssize : length sn ≡ length so = c.loop-i.invariant.sends_size in
    let sroom : length so ≡ length c.args.lanes.now.controls.now = search rules in let sp = c.index_mut.result.now in let sq = c.hand_turn.new.send in let sin : i < length sn = omega arith in
    let shere : sp ≡ get_or so i sp = c.index_mut.ensures.value ∙ c.loop-i.invariant.unsent i sp (omega arith) in
    let sent : (x : Lane Control) → PutMore (item i made) (get_or c.args.lanes.now.controls.now i x) sp sq = λ x. (let s = c.hand_turn.ensures.put x in (s.0, s.1, s.2 ∙ ap (λ r. put sp ++ r) (sym one))) in
    -- the batch that is sent
    let nb = length c.args.lanes.now.batches.now in let all = batches_of nb c.args.turn.now.number c.args.turn.now.batches in let b = c.next_batch-batch.result in let left = nb - (i + 1) in
    let held = c.loop-i.invariant.row (left + 1) (omega arith) in let took = c.next_batch-batch.ensures left held.0 in
    let bis : b ≡ get_or all i b = ap (λ xs. get_or xs 0 b) (sym took) ∙ (held.1 0 b ∙ ap (λ j. get_or all j b) at) in let along = c.requires.row.0 in
    let bone : item i all ≡ b ∷ [] = item_at all i b (omega arith) ∙ ap (λ x. x ∷ []) (sym bis) in
    let bo = c.args.batch_sends.now.items in let bn = c.loop-i.batch_sends.items in let bsize : length bn ≡ length bo = c.loop-i.invariant.batches_size in
    let broom : length bo ≡ nb = search rules in let bp = c.index_mut-in-loop-i.result.now in let bq = c.hand_turn.new.batch_send in let bin : i < length bn = omega arith in
    let bhere : bp ≡ get_or bo i bp = c.index_mut-in-loop-i.ensures.value ∙ c.loop-i.invariant.unbatched i bp (omega arith) in
    let bsent : (x : Lane Batch) → PutMore (item i all) (get_or c.args.lanes.now.batches.now i x) bp bq = λ x. (let s = c.hand_turn.ensures.batch x in (s.0, s.1, s.2 ∙ ap (λ r. put bp ++ r) (sym bone))) in
    -- the state that is found
    let found = c.loop-i.turn.states.items in let s = c.hand_turn.ensures.state.0 in let count : length found ≡ i = search rules in
    let pushed = c.hand_turn.ensures.state.1 in
    let to = c.args.takes.now.items in let tn = c.loop-i.takes.items in let tsize : length tn ≡ length to = c.loop-i.invariant.takes_size in
    let troom : length to ≡ length c.args.lanes.now.states.now = search rules in let tp = c.index_mut-in-loop-i-2.result.now in let tq = c.hand_turn.new.take in let tin : i < length tn = omega arith in
    let there2 : tp ≡ get_or to i tp = c.index_mut-in-loop-i-2.ensures.value ∙ c.loop-i.invariant.untaken i tp (omega arith) in
    let got : (x : Lane State) → TookMore (item i (found ++ s ∷ [])) (get_or c.args.lanes.now.states.now i x) tp tq = λ x. (let r = c.hand_turn.ensures.state.3 x in (r.0, r.1, r.2 ∙ ap (λ q. taken tp ++ q) (sym (item_push_at found s i (sym count))))) in record {
      still = omega arith;
      rest = λ j x. ap (λ xs. get_or xs j x) c.take_first-control.ensures.items ∙ (get_or-remove_above c.loop-i.turn.controls.items 0 x j (omega arith) some ∙ (c.loop-i.invariant.rest (j + 1) x ∙ (let e : i + (j + 1) ≡ (i + 1) + j = omega arith in ap (λ k. get_or made k x) e)));
      sends_size = length-set sn i sq ∙ ssize;
      sent = done_next (λ j. PutMore (item j made)) c.args.lanes.now.controls.now so sn i sq sin c.loop-i.invariant.sent
          (λ x p. let f : sp ≡ get_or so i p = shere ∙ get_or_default so i sp p (omega arith) in subst (λ w. PutMore (item i made) (get_or c.args.lanes.now.controls.now i x) w sq) f (sent x));
      unsent = same_next so sn i sq c.loop-i.invariant.unsent;
      row = λ m is. let h = c.loop-i.invariant.row (m + 1) (omega (arith, is)) in let e = c.next_batch-batch.ensures m h.0 in let many = ap length e in let hm = h.0 in
          (omega arith, λ j x. let f : i + (j + 1) ≡ (i + 1) + j = omega arith in sym (get_or_next b (batches_of m c.args.turn.now.number c.next_batch-batch.new.row) j x) ∙ (ap (λ xs. get_or xs (j + 1) x) (sym e) ∙ (h.1 (j + 1) x ∙ ap (λ l. get_or all l x) f)));
      batches_size = length-set bn i bq ∙ bsize;
      batched = done_next (λ j. PutMore (item j all)) c.args.lanes.now.batches.now bo bn i bq bin c.loop-i.invariant.batched
          (λ x p. let f : bp ≡ get_or bo i p = bhere ∙ get_or_default bo i bp p (omega arith) in subst (λ w. PutMore (item i all) (get_or c.args.lanes.now.batches.now i x) w bq) f (bsent x));
      unbatched = same_next bo bn i bq c.loop-i.invariant.unbatched;
      count = (let n = ap length pushed in let m = length-append found (s ∷ []) in search rules);
      room = let r = c.loop-i.invariant.room in let v = c.hand_turn.ensures.room in omega arith;
      numbers = λ j x low. subst (λ xs. (get_or xs j x).turn ≡ c.args.turn.now.number) (sym pushed) (more_of (λ (y : State). y.turn) c.args.turn.now.number found s c.loop-i.invariant.numbers c.hand_turn.ensures.state.2 j x (subst (λ xs. j < length xs) pushed low));
      takes_size = length-set tn i tq ∙ tsize;
      took = subst (λ xs. (j : _) (x : _) (p q : _) → j < i + 1 → TookMore (item j xs) (get_or c.args.lanes.now.states.now j x) (get_or to j p) (get_or (set tn i tq) j q)) (sym pushed) (done_next (λ j. TookMore (item j (found ++ s ∷ []))) c.args.lanes.now.states.now to tn i tq tin
          (λ j x p q low. subst (λ r. TookMore r (get_or c.args.lanes.now.states.now j x) (get_or to j p) (get_or tn j q)) (sym (item_push_before found s j (omega arith))) (c.loop-i.invariant.took j x p q low))
          (λ x p. let f : tp ≡ get_or to i p = there2 ∙ get_or_default to i tp p (omega arith) in subst (λ w. TookMore (item i (found ++ s ∷ [])) (get_or c.args.lanes.now.states.now i x) w tq) f (got x)));
      untaken = same_next to tn i tq c.loop-i.invariant.untaken;
      size = length-set now i new ∙ size;
      done = some_done P R now i new inside c.loop-i.invariant.done there;
      left = λ j q above low. some_left P R now i new inside c.loop-i.invariant.left j q above (subst (λ n. j < n) (length-set now i new) low);
      starts = map-set_same (λ x. x.start.value) now i new h inside (c.hand_turn.ensures.start ∙ ap (λ x. x.start.value) c.index_mut-in-loop-i-3.ensures.value) ∙ c.loop-i.invariant.starts;
    }

pub returns-clause-put : goal.returns-clause-put
returns-clause-put g c = (c.loop-i.invariant.sends_size, λ j l p q below. c.loop-i.invariant.sent j l p q (let s = c.loop-i.invariant.sends_size in let r : length c.args.sends.now.items ≡ length c.args.lanes.now.controls.now = search rules in let e = c.requires.boards.0 in let f = c.loop-i-test.false in omega arith))

pub returns-clause-batches : goal.returns-clause-batches
returns-clause-batches g c = (c.loop-i.invariant.batches_size, λ j l p q below. c.loop-i.invariant.batched j l p q (let s = c.loop-i.invariant.batches_size in let r : length c.args.batch_sends.now.items ≡ length c.args.lanes.now.batches.now = search rules in let f = c.loop-i-test.false in omega arith))

pub returns-clause-taken : goal.returns-clause-taken
returns-clause-taken g c = (c.loop-i.invariant.takes_size, λ j l p q below. c.loop-i.invariant.took j l p q (let s = c.loop-i.invariant.takes_size in let r : length c.args.takes.now.items ≡ length c.args.lanes.now.states.now = search rules in let e = c.requires.boards.1 in let f = c.loop-i-test.false in omega arith))
