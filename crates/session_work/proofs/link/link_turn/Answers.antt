use Rattle.std.proofs.Common.{◌≡◌, ◌+◌, ◌∷◌, ◌++◌, [], List, length, ap, sym, ◌∙◌, arith, rules, append-nil, length-append, refl, true}
use Rattle.lane_queue.specs.Ends.{IsSendOf, IsTakeOf, next_take, next_put}
use Rattle.session_work.specs.declared.table.LinkTurn.{LinkTurn}
use Rattle.session_work.specs.Rows.{gather}
use Rattle.session_work.specs.Links.{LinkStep, link_turn_of}
use Rattle.session_work.proofs.Goes.{goes_on, gather_on, gather_ones, taken_more, put_more, next_taken, next_of_put, taken_as}
use Rattle.session_work.proofs.Columns.{of_lane}
use Rattle.session_work.proofs.link.link_turn.Goals as goal

pub state_of-state-requires-clause-turn : goal.state_of-state-requires-clause-turn
state_of-state-requires-clause-turn g c =
    let ts = c.requires.at.0 in let w = c.requires.at.2 in
    let a : next_take c.args.link.now.control_pass ≡ c.args.k = next_taken _ c.args.k _ _ (taken_as _ _ _ _ (w.0 c.index-lanes-at.result) (append-nil _)) (gather_ones (λ (t : LinkTurn). t.control) ts ∙ c.requires.at.1) in
    let b : next_take c.args.link.now.batch_pass ≡ c.args.k = next_taken _ c.args.k _ _ (w.1 c.index-lanes-at-2.result) (gather_ones (λ (t : LinkTurn). t.batch) ts ∙ c.requires.at.1) in
    (c.take-control.ensures.number ∙ a, c.take-batch.ensures.number ∙ b)

pub put-requires-clause-number : goal.put-requires-clause-number
put-requires-clause-number g c =
    let ts = c.requires.at.0 in let w = c.requires.at.2 in
    let s : next_put c.args.link.now.state_pass ≡ c.args.k = next_of_put _ c.args.k _ _ (w.2 c.index-lanes-at-3.result) (gather_ones (λ (t : LinkTurn). t.state) ts ∙ c.requires.at.1) in
    c.state_of-state.ensures.number ∙ sym s

pub returns-clause-at : goal.returns-clause-at
returns-clause-at g c _ =
    let ts = c.requires.at.0 in let w = c.requires.at.2 in
    let t = link_turn_of c.take-control.result c.take-batch.result c.state_of-state.result in
    let m = length-append ts (t ∷ []) in let n = c.requires.at.1 in (
      ts ++ t ∷ [],
      omega arith,
      (
        (λ x. taken_more _ (t.control ∷ []) _ _ _ _ (taken_as _ _ _ _ (w.0 x) (append-nil _)) (of_lane (λ l. IsTakeOf l c.take-control.new.pass) c.args.lanes.now.controls.now c.args.at c.index-lanes-at.result c.requires.board.0 c.take-control.ensures.lane x) c.take-control.ensures.first c.take-control.ensures.taken (append-nil _ ∙ gather_on (λ (u : LinkTurn). u.control ∷ []) ts t)),
        (λ x. taken_more _ (t.batch ∷ []) _ _ _ _ (w.1 x) (of_lane (λ l. IsTakeOf l c.take-batch.new.pass) c.args.lanes.now.batches.now c.args.at c.index-lanes-at-2.result c.requires.board.1 c.take-batch.ensures.lane x) c.take-batch.ensures.first c.take-batch.ensures.taken (gather_on (λ (u : LinkTurn). u.batch ∷ []) ts t)),
        (λ x. put_more _ (t.state ∷ []) _ _ _ _ (w.2 x) (of_lane (λ l. IsSendOf l c.put.new.pass) c.args.lanes.now.states.now c.args.at c.index-lanes-at-3.result c.requires.board.2 c.put.ensures.lane x) c.put.ensures.first c.put.ensures.put (gather_on (λ (u : LinkTurn). u.state ∷ []) ts t)),
        goes_on (LinkStep g.L.LinkMachine.turns) 0 c.args.k _ _ _ ts t w.3 (omega arith) c.state_of-state.ensures.step,
      ),
    )

pub returns-clause-done : goal.returns-clause-done
returns-clause-done g c = let h = returns-clause-at g c refl in (h.0, [], h.2)

pub returns-then-control-clause-end : goal.returns-then-control-clause-end
returns-then-control-clause-end g c _ =
    let w = c.requires.at.2 in let t = c.take-control in let ended : t.result.end ≡ true = search rules in
    (c.requires.at.0, t.result, ended, ((λ x. taken_more _ (t.result ∷ []) _ _ _ _ (taken_as _ _ _ _ (w.0 x) (append-nil _)) (of_lane (λ l. IsTakeOf l t.new.pass) c.args.lanes.now.controls.now c.args.at c.index-lanes-at.result c.requires.board.0 t.ensures.lane x) t.ensures.first t.ensures.taken refl), w.1, w.2, w.3))

pub returns-then-control-clause-done : goal.returns-then-control-clause-done
returns-then-control-clause-done g c = let h = returns-then-control-clause-end g c refl in (h.0, h.1 ∷ [], h.3)
