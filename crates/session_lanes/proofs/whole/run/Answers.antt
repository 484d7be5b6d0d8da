use Rattle.std.proofs.Common.{IfOk, rules, arith, ◌≡◌, ◌+◌, ◌∙◌, List, [], ◌∷◌, ◌++◌, map, length, vec_len, subst, sym, ap, refl}
use Rattle.std.proofs.lemmas.List.{length-map}
use Rattle.std.specs.VecDeque.{deque_len}
use Rattle.lane_queue.specs.declared.ends.Lane.{Lane}
use Rattle.session_work.specs.declared.head.Head.{Head}
use Rattle.session_work.specs.declared.link.LinkDone.{LinkDone}
use Rattle.msg_code.specs.declared.unit.Batch.{Batch}
use Rattle.msg_code.specs.declared.unit.Control.{Control}
use Rattle.msg_code.specs.declared.talk.State.{State}
use Rattle.session_work.specs.Alone.{AreHands}
use Rattle.session_lanes.specs.Levels.{AreLinks, IsFar, IsHome, IsReached}
use Rattle.session_lanes.specs.Runs.{IsNear, IsRun}
use Rattle.session_lanes.proofs.WholeFacts.{hands_new, run_of}
use Rattle.session_lanes.specs.declared.near.Reached.{Reached}
use Rattle.session_lanes.proofs.whole.run.Goals as goal

pub in_scope-reached-requires-clause-links : goal.in_scope-reached-requires-clause-links
in_scope-reached-requires-clause-links g c κs within = c.begin-lanes.ensures.3 c.lanes_of.result c.lanes_of.ensures

pub in_scope-reached-requires-clause-far : goal.in_scope-reached-requires-clause-far
in_scope-reached-requires-clause-far g c κs within = c.begin-lanes.ensures.7 c.lanes_of.result c.lanes_of.ensures

pub run_alone-requires-clause-boards : goal.run_alone-requires-clause-boards
run_alone-requires-clause-boards g c =
    let b = c.begin-lanes.ensures in let h = c.in-Home.ensures in let home = c.in-Home.home in
    let e : length home.links.items ≡ length c.args.links.items = ap length (h.1 ∙ b.4) in
    let same : vec_len c.args.links ≡ vec_len home.links = (let x : vec_len c.args.links ≡ length c.args.links.items = search rules in let y : vec_len home.links ≡ length home.links.items = search rules in omega arith) in
    (ap g.M.MotionMachine.boards (h.0 ∙ b.5) ∙ (c.requires.boards.0 ∙ same), ap (λ (x : Head g.row.A.Denot g.row.O.Denot). g.A.ReactorMachine.boards x.machine) (h.2 ∙ b.6) ∙ (c.requires.boards.1 ∙ same))

pub run_alone-requires-clause-wants : goal.run_alone-requires-clause-wants
run_alone-requires-clause-wants g c = ap (λ x. g.M.MotionMachine.wants x 0) (c.in-Home.ensures.0 ∙ c.begin-lanes.ensures.5) ∙ c.requires.wants

pub returns-in-Ran-clause-ran : goal.returns-in-Ran-clause-ran
returns-in-Ran-clause-ran g c =
    let b = c.begin-lanes.ensures in let ds = c.begin-lanes.result.links in
    let many : length ds.items ≡ deque_len ds = search rules in let same = ap length b.4 in let long : length (map (λ (d : LinkDone g.row.L.Denot). d.machine) ds.items) ≡ length ds.items = length-map ds.items (λ (d : LinkDone g.row.L.Denot). d.machine) in
    let count : deque_len ds ≡ length c.begin-lanes.result.lanes.batches.items = b.2 in
    let seen : length c.lanes_of.result.batches.now ≡ length c.begin-lanes.result.lanes.batches.items = ap length c.lanes_of.ensures.5 in
    run_of g.M.MotionMachine g.L.LinkMachine g.A.ReactorMachine g.O.Outside (length c.lanes_of.result.batches.now) c.lanes_of.result c.begin-lanes.result.far.motion.seat.machine c.args.motion (map (λ d. d.machine) ds.items) c.args.links.items c.begin-lanes.result.far.hand.head c.args.head c.in-Ran.near
    b.5 b.4 b.6 (omega arith) c.in-Ran.ensures

pub returns-clause-ran : goal.returns-clause-ran
returns-clause-ran g c =
    let b = c.begin-lanes.ensures in let h = c.in-Home.ensures in
    subst (λ (y : g.row.M.Denot × List g.row.L.Denot × Head g.row.A.Denot g.row.O.Denot). IfOk c.run_alone.result (λ r. IsRun g.M.MotionMachine g.L.LinkMachine g.A.ReactorMachine g.O.Outside y.0 y.1 y.2 r)) (λ i. ((h.0 ∙ b.5) i, (h.1 ∙ b.4) i, (h.2 ∙ b.6) i)) c.run_alone.ensures.ran
