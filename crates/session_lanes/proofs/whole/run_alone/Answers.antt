use Rattle.std.proofs.Common.{rules, arith, ◌≡◌, ◌+◌, ◌∙◌, List, [], ◌∷◌, ◌++◌, map, length, vec_len, subst, sym, ap, refl}
use Rattle.std.proofs.lemmas.List.{length-map}
use Rattle.std.specs.VecDeque.{deque_len}
use Rattle.lane_queue.specs.declared.ends.Lane.{Lane}
use Rattle.session_work.specs.declared.head.Head.{Head}
use Rattle.session_work.specs.declared.link.LinkDone.{LinkDone}
use Rattle.msg_code.specs.declared.unit.Batch.{Batch}
use Rattle.msg_code.specs.declared.unit.Control.{Control}
use Rattle.msg_code.specs.declared.talk.State.{State}
use Rattle.session_work.specs.Alone.{AreHands}
use Rattle.session_lanes.specs.Levels.{AreLinks, IsFar, IsHome, IsReached}
use Rattle.session_lanes.specs.Runs.{IsNear, IsRun}
use Rattle.session_lanes.proofs.WholeFacts.{hands_new, run_of}
use Rattle.session_lanes.proofs.whole.run_alone.Goals as goal

pub alone-near-requires-clause-hands : goal.alone-near-requires-clause-hands
alone-near-requires-clause-hands g c = hands_new g.L.LinkMachine c.lanes_of.result c.begin-lanes.result.links.items c.in-Ok-hands_of.hands.items (c.begin-lanes.ensures.3 c.lanes_of.result c.lanes_of.ensures) c.in-Ok-hands_of.ensures.links c.in-Ok-hands_of.ensures.starts

pub alone-near-requires-clause-far : goal.alone-near-requires-clause-far
alone-near-requires-clause-far g c = c.begin-lanes.ensures.7 c.lanes_of.result c.lanes_of.ensures

pub returns-clause-ran : goal.returns-clause-ran
returns-clause-ran g c =
    let b = c.begin-lanes.ensures in let ds = c.begin-lanes.result.links in
    let many : length ds.items ≡ deque_len ds = search rules in let same = ap length b.4 in let long : length (map (λ (d : LinkDone g.row.L.Denot). d.machine) ds.items) ≡ length ds.items = length-map ds.items (λ (d : LinkDone g.row.L.Denot). d.machine) in
    let count : deque_len ds ≡ length c.begin-lanes.result.lanes.batches.items = b.2 in
    let seen : length c.lanes_of.result.batches.now ≡ length c.begin-lanes.result.lanes.batches.items = ap length c.lanes_of.ensures.5 in
    run_of g.M.MotionMachine g.L.LinkMachine g.A.ReactorMachine g.O.Outside (length c.lanes_of.result.batches.now) c.lanes_of.result c.begin-lanes.result.far.motion.seat.machine c.args.motion (map (λ h. h.start.value) c.in-Ok-hands_of.hands.items) c.args.links.items c.begin-lanes.result.far.hand.head c.args.head c.alone-near.result
    b.5 (c.in-Ok-hands_of.ensures.starts ∙ b.4) b.6 (omega arith) c.alone-near.ensures
