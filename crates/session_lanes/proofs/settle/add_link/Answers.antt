use Rattle.std.proofs.Common.{rules, arith, ◌≡◌, ◌+◌, ◌<◌, ◌≤◌, ◌∙◌, ℕ, List, [], ◌∷◌, ◌++◌, length, vec_len, vec_capacity, get_or, subst, sym, ap}
use Rattle.msg_code.specs.declared.unit.Batch.{Batch}
use Rattle.msg_code.specs.declared.unit.Control.{Control}
use Rattle.msg_code.specs.declared.talk.State.{State}
use Rattle.session_work.specs.Leads.{last_controls}
use Rattle.session_work.specs.Rows.{HasPut, HasTaken, gather, item}
use Rattle.session_lanes.specs.Runs.{IsNear, IsLog, AreLogs}
use Rattle.session_lanes.proofs.settle.add_link.Goals as goal

pub settle-requires-clause-take : goal.settle-requires-clause-take
settle-requires-clause-take g c = (c.requires.done.2.1 c.index-lanes-at.result).0

pub settle-requires-2-clause-take : goal.settle-requires-2-clause-take
settle-requires-2-clause-take g c = (c.requires.done.2.0 c.index-lanes-at-2.result).0

pub settle-requires-3-clause-put : goal.settle-requires-3-clause-put
settle-requires-3-clause-put g c = (c.requires.done.2.2 c.index-lanes-at-3.result).0

pub returns : goal.returns
returns g c ls near =
    let ts = near.0 in let rs = near.1 in let end = near.2 in let n = near.3 in let u = near.6 in let at = c.args.at in let d = c.requires.done in
    let one = c.settle.ensures in let two = c.settle-2.ensures in let three = c.settle-3.ensures in
    let cp = c.remove-control_send.result in let bp = c.remove-batch_send.result in let sp = c.remove-state_take.result in
    let sizes = u.0 in let sizes2 = u.2 in let sizes3 = u.4 in
    let control : HasPut (gather (λ t. item at t.controls) rs ++ last_controls (length rs) n) (get_or c.args.lanes.now.controls.now at c.index-lanes-at-2.result) cp = subst (λ p. HasPut (gather (λ t. item at t.controls) rs ++ last_controls (length rs) n) (get_or c.args.lanes.now.controls.now at c.index-lanes-at-2.result) p) (sym c.remove-control_send.ensures.value) (u.1 at c.index-lanes-at-2.result cp (omega arith)) in
    let batch : HasPut (gather (λ t. item at t.batches) ts) (get_or c.args.lanes.now.batches.now at c.index-lanes-at.result) bp = subst (λ p. HasPut (gather (λ t. item at t.batches) ts) (get_or c.args.lanes.now.batches.now at c.index-lanes-at.result) p) (sym c.remove-batch_send.ensures.value) (u.3 at c.index-lanes-at.result bp (omega arith)) in
    let state : HasTaken (gather (λ t. item at t.states) (rs ++ end ∷ [])) (get_or c.args.lanes.now.states.now at c.index-lanes-at-3.result) sp = subst (λ p. HasTaken (gather (λ t. item at t.states) (rs ++ end ∷ [])) (get_or c.args.lanes.now.states.now at c.index-lanes-at-3.result) p) (sym c.remove-state_take.ensures.value) (u.5 at c.index-lanes-at-3.result sp (omega arith)) in
    let log : IsLog g.M.MotionMachine g.L.LinkMachine g.A.ReactorMachine g.O.Outside ts rs end n at c.args.link.now.value (record { batches = c.settle.result; controls = c.settle-2.result; states = c.settle-3.result }) = (
      d.0,
      d.1,
      ((c.args.done.machine, c.args.done.out), d.2.3),
      (two.put ∙ control.2, two.taken ∙ (d.2.0 c.index-lanes-at-2.result).2, two.prefix),
      (one.put ∙ batch.2, one.taken ∙ (d.2.1 c.index-lanes-at.result).2, one.prefix),
      (three.put ∙ (d.2.2 c.index-lanes-at-3.result).2, three.taken ∙ state.2, three.prefix),
    ) in
    let less = c.remove-control_send.ensures.len in let less2 = c.remove-batch_send.ensures.len in let less3 = c.remove-state_take.ensures.len in
    let is : c.insert.new.self.items ≡ record { batches = c.settle.result; controls = c.settle-2.result; states = c.settle-3.result } ∷ c.args.near.ran.links.items = search rules in
    let n0 : length c.remove-control_send.new.self.items ≡ at = search rules in
    let n1 : length c.remove-batch_send.new.self.items ≡ at = search rules in
    let n2 : length c.remove-state_take.new.self.items ≡ at = search rules in
    let long : vec_len c.insert.new.self ≡ vec_len c.args.near.ran.links + 1 = search rules in let cap = c.insert.ensures.capacity in let room = u.6 in (
      ts,
      rs,
      end,
      n,
      near.4,
      subst (AreLogs g.M.MotionMachine g.L.LinkMachine g.A.ReactorMachine g.O.Outside ts rs end n at (c.args.link.now.value ∷ ls)) (sym is) (log, near.5),
      (
        n0,
        (λ i x p low. let inside : i < at = omega (arith, low, n0) in subst (λ q. HasPut (gather (λ t. item i t.controls) rs ++ last_controls (length rs) n) (get_or c.args.lanes.now.controls.now i x) q) (sym (c.remove-control_send.ensures.by_index.0 i p inside)) (u.1 i x p (omega arith))),
        n1,
        (λ i x p low. let inside : i < at = omega (arith, low, n1) in subst (λ q. HasPut (gather (λ t. item i t.batches) ts) (get_or c.args.lanes.now.batches.now i x) q) (sym (c.remove-batch_send.ensures.by_index.0 i p inside)) (u.3 i x p (omega arith))),
        n2,
        (λ i x p low. let inside : i < at = omega (arith, low, n2) in subst (λ q. HasTaken (gather (λ t. item i t.states) (rs ++ end ∷ [])) (get_or c.args.lanes.now.states.now i x) q) (sym (c.remove-state_take.ensures.by_index.0 i p inside)) (u.5 i x p (omega arith))),
        omega arith,
      ),
    )
