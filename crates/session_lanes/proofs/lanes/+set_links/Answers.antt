use Rattle.std.proofs.Common.{rules, arith, ◌≡◌, ◌+◌, ◌<◌, ◌≤◌, ◌∙◌, false, [], ◌∷◌, length, vec_len, get_or, subst, sym, ap, refl}
use Rattle.lane_queue.specs.declared.ends.Lane.{Lane}
use Rattle.std.specs.VecDeque.{deque_len, deque_capacity}
use Rattle.session_work.specs.declared.link.LinkDone.{LinkDone}
use Rattle.msg_code.specs.declared.unit.Batch.{Batch}
use Rattle.msg_code.specs.declared.unit.Control.{Control}
use Rattle.msg_code.specs.declared.talk.State.{State}
use Rattle.session_lanes.specs.Levels.{AreLinks}
use Rattle.session_work.specs.Links.{IsLinkAt}
use Rattle.session_work.specs.Rows.{HasPut, HasTaken}
use Rattle.session_lanes.proofs.NewRows.{each_below, each_at, link_before}
use Rattle.session_lanes.proofs.lanes.+set_links.Goals as goal

pub returns-in_default-clause-set : goal.returns-in_default-clause-set
returns-in_default-clause-set g t c = let none : vec_len c.args.links ≡ 0 = search rules in subst (λ n. AreLinks g.L.LinkMachine n c.args.lanes.now c.args.set.items) none c.requires.set

pub set_links-requires : goal.set_links-requires
set_links-requires g t c κs within =
    let at = c.len-at.result in let long : vec_len c.args.links ≡ at + 1 = search rules in let size : vec_len c.pop.new.self ≡ at = search rules in
    let n0 : length c.args.controls.items ≡ at + 1 = search rules in let n1 : length c.args.batches.items ≡ at + 1 = search rules in let n2 : length c.args.states.items ≡ at + 1 = search rules in
    let m0 : length c.remove.new.self.items ≡ at = search rules in let m1 : length c.remove-2.new.self.items ≡ at = search rules in let m2 : length c.remove-3.new.self.items ≡ at = search rules in
    let d : LinkDone g.row.L.Denot = record { machine = c.in-Some.machine; out = false; control_pass = c.remove.result; batch_pass = c.remove-2.result; state_pass = c.remove-3.result } in
    let here : IsLinkAt g.L.LinkMachine.turns 0 c.args.lanes.now at d.machine d = (
      [],
      refl,
      (
        (λ x. each_at (HasTaken []) c.args.lanes.now.controls.now c.args.controls.items at d.control_pass x n0 c.remove.ensures.value c.requires.new.0),
        (λ x. each_at (HasTaken []) c.args.lanes.now.batches.now c.args.batches.items at d.batch_pass x n1 c.remove-2.ensures.value c.requires.new.1),
        (λ x. each_at (HasPut []) c.args.lanes.now.states.now c.args.states.items at d.state_pass x n2 c.remove-3.ensures.value c.requires.new.2),
        refl,
      ),
    ) in
    let all = link_before g.L.LinkMachine at c.args.lanes.now d c.args.set.items here (subst (λ n. AreLinks g.L.LinkMachine n c.args.lanes.now c.args.set.items) long c.requires.set) in
    let is : c.push_front.new.self.items ≡ d ∷ c.args.set.items = search rules in
    let more : deque_len c.push_front.new.self ≡ deque_len c.args.set + 1 = search rules in let cap = c.push_front.ensures.capacity in let room = c.requires.room in (
      search rules,
      (
        within,
        (
          (search rules, search rules, search rules),
          (
            (
              each_below (HasTaken []) c.args.lanes.now.controls.now c.args.controls.items c.remove.new.self.items at c.remove.ensures.by_index.0 m0 n0 c.requires.new.0,
              each_below (HasTaken []) c.args.lanes.now.batches.now c.args.batches.items c.remove-2.new.self.items at c.remove-2.ensures.by_index.0 m1 n1 c.requires.new.1,
              each_below (HasPut []) c.args.lanes.now.states.now c.args.states.items c.remove-3.new.self.items at c.remove-3.ensures.by_index.0 m2 n2 c.requires.new.2,
            ),
            (
              subst (λ n. AreLinks g.L.LinkMachine n c.args.lanes.now c.push_front.new.self.items) (sym size) (subst (AreLinks g.L.LinkMachine at c.args.lanes.now) (sym is) all),
              omega arith,
            ),
          ),
        ),
      ),
    )
