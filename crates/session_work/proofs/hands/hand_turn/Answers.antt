use Rattle.std.proofs.Common.{rules, ◌≡◌, ◌∷◌, ◌++◌, [], sym, ap, ◌∙◌, arith, append-nil, length-append}
use Rattle.lane_queue.specs.Ends.{IsSendOf, IsTakeOf, put, taken, next_take, next_put}
use Rattle.msg_code.specs.declared.talk.State.{State}
use Rattle.session_work.specs.declared.table.LinkTurn.{LinkTurn}
use Rattle.session_work.specs.Links.{LinkStep, link_turn_of}
use Rattle.session_work.proofs.Goes.{goes_on, gather_on, gather_ones, taken_more, put_more, next_taken, next_of_put, taken_as}
use Rattle.session_work.specs.Rows.{PutMore, TookMore}
use Rattle.session_work.proofs.Each.{pushed_here}
use Rattle.session_work.proofs.Columns.{of_lane}
use Rattle.session_work.proofs.hands.hand_turn.Goals as goal

pub hand-requires-clause-empty : goal.hand-requires-clause-empty
hand-requires-clause-empty g c =
    let ts = c.requires.at.0 in let w = c.requires.at.2 in
    let a : next_take c.args.hand.now.done.control_pass ≡ c.args.handed.turn = next_taken _ c.args.handed.turn _ _ (taken_as _ _ _ _ (w.0 c.index-lanes-at.result) (append-nil _)) (gather_ones (λ (t : LinkTurn). t.control) ts ∙ c.requires.at.1) in
    c.requires.control ∙ sym a

pub hand-requires-2-clause-empty : goal.hand-requires-2-clause-empty
hand-requires-2-clause-empty g c =
    let ts = c.requires.at.0 in let w = c.requires.at.2 in
    let b : next_take c.args.hand.now.done.batch_pass ≡ c.args.handed.turn = next_taken _ c.args.handed.turn _ _ (w.1 c.index-lanes-at-2.result) (gather_ones (λ (t : LinkTurn). t.batch) ts ∙ c.requires.at.1) in
    c.requires.batch ∙ sym b

pub hand-requires-3-clause-number : goal.hand-requires-3-clause-number
hand-requires-3-clause-number g c =
    let ts = c.requires.at.0 in let w = c.requires.at.2 in
    let s : next_put c.args.hand.now.done.state_pass ≡ c.args.handed.turn = next_of_put _ c.args.handed.turn _ _ (w.2 c.index-lanes-at-3.result) (gather_ones (λ (t : LinkTurn). t.state) ts ∙ c.requires.at.1) in
    let same : c.index.result.now ≡ c.state_of.result = pushed_here c.args.states.now.items c.push.new.self.items _ _ c.args.handed.at (search rules) (search rules) c.index.ensures in
    ap (λ (x : State). x.turn) same ∙ (c.state_of.ensures.number ∙ sym s)

pub returns-clause-at : goal.returns-clause-at
returns-clause-at g c =
    let ts = c.requires.at.0 in let w = c.requires.at.2 in
    let t = link_turn_of c.args.handed.control c.args.handed.batch c.state_of.result in
    let same : c.index.result.now ≡ c.state_of.result = pushed_here c.args.states.now.items c.push.new.self.items _ _ c.args.handed.at (search rules) (search rules) c.index.ensures in
    let m = length-append ts (t ∷ []) in let n = c.requires.at.1 in (
      ts ++ t ∷ [],
      omega arith,
      (
        (λ x. taken_more _ (t.control ∷ []) _ _ _ _ (taken_as _ _ _ _ (w.0 x) (append-nil _)) (of_lane (λ l. IsTakeOf l c.hand.new.take) c.args.lanes.now.controls.now c.args.handed.at c.index-lanes-at.result c.requires.board.0 c.hand.ensures.take x) c.hand.ensures.take_first c.hand.ensures.taken (append-nil _ ∙ gather_on (λ (u : LinkTurn). u.control ∷ []) ts t)),
        (λ x. taken_more _ (t.batch ∷ []) _ _ _ _ (w.1 x) (of_lane (λ l. IsTakeOf l c.hand-2.new.take) c.args.lanes.now.batches.now c.args.handed.at c.index-lanes-at-2.result c.requires.board.1 c.hand-2.ensures.take x) c.hand-2.ensures.take_first c.hand-2.ensures.taken (gather_on (λ (u : LinkTurn). u.batch ∷ []) ts t)),
        (λ x. put_more _ (t.state ∷ []) _ _ _ _ (w.2 x) (of_lane (λ l. IsSendOf l c.hand-3.new.send) c.args.lanes.now.states.now c.args.handed.at c.index-lanes-at-3.result c.requires.board.2 c.hand-3.ensures.send x) c.hand-3.ensures.put_first (c.hand-3.ensures.put ∙ ap (λ y. put c.args.hand.now.done.state_pass ++ y ∷ []) same) (gather_on (λ (u : LinkTurn). u.state ∷ []) ts t)),
        goes_on (LinkStep g.L.LinkMachine.turns) 0 c.args.handed.turn _ _ _ ts t w.3 (omega arith) c.state_of.ensures.step,
      ),
    )

pub returns-clause-put : goal.returns-clause-put
returns-clause-put g c = of_lane (λ l. PutMore (c.args.handed.control ∷ []) l c.args.send.now c.hand.new.send) c.args.lanes.now.controls.now c.args.handed.at c.index-lanes-at.result c.requires.board.0 (c.hand.ensures.send, c.hand.ensures.put_first, c.hand.ensures.put)

pub returns-clause-batch : goal.returns-clause-batch
returns-clause-batch g c = of_lane (λ l. PutMore (c.args.handed.batch ∷ []) l c.args.batch_send.now c.hand-2.new.send) c.args.lanes.now.batches.now c.args.handed.at c.index-lanes-at-2.result c.requires.board.1 (c.hand-2.ensures.send, c.hand-2.ensures.put_first, c.hand-2.ensures.put)

pub returns-clause-state : goal.returns-clause-state
returns-clause-state g c =
    let same : c.index.result.now ≡ c.state_of.result = pushed_here c.args.states.now.items c.push.new.self.items _ _ c.args.handed.at (search rules) (search rules) c.index.ensures in (
      c.state_of.result,
      search rules,
      c.state_of.ensures.number,
      of_lane (λ l. TookMore (c.state_of.result ∷ []) l c.args.take.now c.hand-3.new.take) c.args.lanes.now.states.now c.args.handed.at c.index-lanes-at-3.result c.requires.board.2 (c.hand-3.ensures.take, c.hand-3.ensures.take_first, c.hand-3.ensures.taken ∙ ap (λ y. taken c.args.take.now ++ y ∷ []) same),
    )
