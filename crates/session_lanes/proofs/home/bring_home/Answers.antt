use Rattle.std.proofs.Common.{rules, arith, ◌≡◌, ◌+◌, ◌<◌, ◌≤◌, ◌∙◌, true, false, List, [], ◌∷◌, ◌++◌, length, vec_len, vec_capacity, get_or, subst, sym, ap}
use Rattle.lane_queue.specs.Order.{IsPrefix}
use Rattle.msg_code.specs.declared.unit.Control.{Control}
use Rattle.session_work.specs.Bares.{bare_control}
use Rattle.session_work.specs.Rows.{HasPut, gather}
use Rattle.session_work.proofs.Homes.{link_untouched}
use Rattle.session_lanes.proofs.home.bring_home.Goals as goal

pub returns : goal.returns
returns g c ls h =
    let at = c.args.at in let d = c.requires.done in let only = bare_control 0 true ∷ [] in let send = c.remove-send.result in let lane = c.index-lanes-at.result in
    let size = h.3 in
    let control : HasPut only (get_or c.args.lanes.now.controls.now at lane) send = subst (λ p. HasPut only (get_or c.args.lanes.now.controls.now at lane) p) (sym c.remove-send.ensures.value) (h.4 at lane send (omega arith)) in
    let one = c.settle-settled.ensures in
    let first : IsPrefix (gather (λ u. u.control ∷ []) d.0 ++ d.1) only = subst (λ (y : List Control × List Control). IsPrefix y.0 y.1) (λ i. ((one.taken ∙ (d.2.0 lane).2) i, (one.put ∙ control.2) i)) one.prefix in
    let same : c.args.done.machine ≡ c.args.link.now.value = link_untouched g.L.LinkMachine.turns c.args.link.now.value d.0 d.1 (c.args.done.machine, c.args.done.out) d.2.3 first in
    let is : c.insert.new.self.items ≡ c.args.done.machine ∷ c.args.home.links.items = search rules in
    let n0 : length c.remove-send.new.self.items ≡ at = search rules in
    let long : vec_len c.insert.new.self ≡ vec_len c.args.home.links + 1 = search rules in let cap = c.insert.ensures.capacity in let room = h.5 in (
      h.0,
      is ∙ (λ i. same i ∷ h.1 i),
      h.2,
      n0,
      (λ i x p low. let inside : i < at = omega (arith, low, n0) in subst (λ q. HasPut only (get_or c.args.lanes.now.controls.now i x) q) (sym (c.remove-send.ensures.by_index.0 i p inside)) (h.4 i x p (omega arith))),
      omega arith,
    )
