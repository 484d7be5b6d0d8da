use Rattle.std.proofs.Common.{append-nil, List, true, ◌++◌, rules, arith, ◌≡◌, ◌∙◌, ◌+◌, [], ◌∷◌, length, subst, sym, ap}
use Rattle.lane_queue.specs.Ends.{put, taken}
use Rattle.lane_queue.specs.Order.{IsPrefix}
use Rattle.msg_code.specs.declared.talk.WordMsg.{WordMsg}
use Rattle.session_work.specs.Bares.{bare_control, bare_word}
use Rattle.session_work.specs.Rows.{CanPut, gather, item}
use Rattle.session_work.proofs.Each.{item_copies}
use Rattle.session_work.specs.Motions.{IsMotionAt, IsMotionDone}
use Rattle.session_work.specs.Reactors.{IsReactorAt}
use Rattle.session_lanes.specs.Levels.{IsHome}
use Rattle.session_lanes.specs.Runs.{IsNear}
use Rattle.session_work.proofs.Reactors.{at_controls, at_first, at_word}
use Rattle.session_work.proofs.Homes.{motion_untouched}
use Rattle.session_lanes.proofs.levels.core.Goals as goal

pub spawn_with-started-requires-clause-keeps : goal.spawn_with-started-requires-clause-keeps
spawn_with-started-requires-clause-keeps g c κs within = λ r h. subst (λ s. IsMotionDone g.M.MotionMachine c.args.lanes.now s r) (c.of-begun.ensures ∙ sym c.of.ensures) h

pub close-requires-clause-motion : goal.close-requires-clause-motion
close-requires-clause-motion g c =
    let r = c.join-motion.result in
    let kept : IsMotionDone g.M.MotionMachine c.args.lanes.now c.of.result.value r = subst (λ p. IsMotionDone g.M.MotionMachine p.lanes p.start.value r) c.in-Ok.ensures.ok c.join-motion.ensures in
    subst (λ s. IsMotionDone g.M.MotionMachine c.args.lanes.now s r) (c.of.ensures ∙ sym c.of-start.ensures) kept

pub stop-stopped-requires-clause-word : goal.stop-stopped-requires-clause-word
stop-stopped-requires-clause-word g c = (c.requires.far.1.4.3.2.0, at_word g.A.ReactorMachine g.O.Outside c.args.lanes.now 0 c.args.far.hand.head c.args.far.hand c.requires.far.1 ∙ c.requires.far.9)

pub stop-stopped-requires-clause-controls : goal.stop-stopped-requires-clause-controls
stop-stopped-requires-clause-controls g c =
    let many = c.requires.far.1.4.3.0.0 in
    (search rules, subst (λ i. CanPut i c.args.lanes.now.controls.now c.args.far.hand.control_passes.items) c.requires.far.9 (at_controls g.A.ReactorMachine g.O.Outside c.args.lanes.now 0 c.args.far.hand.head c.args.far.hand c.requires.far.1))

pub planner_home-requires-clause-take : goal.planner_home-requires-clause-take
planner_home-requires-clause-take g c =
    let r = c.spawn_with-motion.result in
    let there : IsMotionDone g.M.MotionMachine c.args.lanes.now c.of-begun.result.value r = subst (λ f. IsMotionDone g.M.MotionMachine f.2.now f.1.value r) c.in-Err.ensures.err c.spawn_with-motion.ensures in
    there.1.3.0.0

pub spawn_with-motion-requires : goal.spawn_with-motion-requires
spawn_with-motion-requires g c κs within =
    let at : IsMotionAt g.M.MotionMachine c.args.lanes.now 0 c.of-begun.result.value c.args.far.motion = subst (λ s. IsMotionAt g.M.MotionMachine c.args.lanes.now 0 s c.args.far.motion) (sym c.of-begun.ensures) c.requires.far.0 in
    (within.0, (within.1.0, (within.1.1, subst (λ f. IsMotionAt g.M.MotionMachine f.2.now 0 f.1.value f.3 × (f.3.late.items ≡ [])) (sym c.in-Err.ensures.err) (at, c.requires.far.10))))

pub returns-in-Ok : goal.returns-in-Ok
returns-in-Ok g c =
    let n = length c.args.lanes.now.batches.now in let h = c.close.ensures in
    subst (λ s. IsNear g.M.MotionMachine g.L.LinkMachine g.A.ReactorMachine g.O.Outside n n c.args.lanes.now s [] c.args.far.hand.head c.close.result) c.of-start.ensures
    (subst (λ f. IsNear g.M.MotionMachine g.L.LinkMachine g.A.ReactorMachine g.O.Outside n n c.args.lanes.now c.of-start.result.value [] f c.close.result) c.of-first.ensures h)

pub returns-in-Err : goal.returns-in-Err
returns-in-Err g c =
    let r = c.spawn_with-motion.result in let s = c.args.far.motion.seat.machine in let n = length c.args.lanes.now.controls.now in let d = c.args.far.hand in
    let there : IsMotionDone g.M.MotionMachine c.args.lanes.now c.of-begun.result.value r = subst (λ f. IsMotionDone g.M.MotionMachine f.2.now f.1.value r) c.in-Err.ensures.err c.spawn_with-motion.ensures in
    let done : IsMotionDone g.M.MotionMachine c.args.lanes.now s r = subst (λ m. IsMotionDone g.M.MotionMachine c.args.lanes.now m r) c.of-begun.ensures there in
    let ts = done.1.0 in let mw = done.1.3 in let rw = at_first g.A.ReactorMachine g.O.Outside c.args.lanes.now c.args.far.hand.head c.args.far.hand c.requires.far.1 c.requires.far.9 in
    let words_put : put c.stop-stopped.result.word_pass ≡ bare_word 0 true ∷ [] = c.stop-stopped.ensures.word ∙ (λ i. rw.1.2 i ++ bare_word 0 true ∷ []) in
    let words_taken : taken r.word_pass ≡ gather (λ t. t.words) ts = mw.0.2 ∙ append-nil _ in
    let first : IsPrefix (gather (λ t. t.words) ts) (bare_word 0 true ∷ []) = subst (λ (y : List WordMsg × List WordMsg). IsPrefix y.0 y.1) (λ i. (words_taken i, words_put i)) c.planner_home.ensures.words in
    let more = c.stop-stopped.ensures.controls in let size = more.0 in let size2 = rw.0.0 in let same = c.requires.boards.0 in
    let room = c.requires.far.8 in let empty = c.requires.far.7 in
    let home : IsHome (length c.args.lanes.now.batches.now) (length c.args.lanes.now.batches.now) c.args.lanes.now s [] d.head (record { motion = r.seat.machine; links = c.args.far.home; head = c.stop-stopped.result.head; control_sends = c.stop-stopped.result.control_passes }) = (
      motion_untouched g.M.MotionMachine (length c.args.lanes.now.batches.now) s ts r.seat c.requires.far.2 done.1.2 first,
      c.requires.far.6,
      c.stop-stopped.ensures.head,
      omega arith,
      (λ i x p low. let was = rw.0.1 i x p (omega arith) in let now = more.1 i x p p low in
          (now.0, now.1 ∙ was.1, now.2 ∙ (λ k. was.2 k ++ item_copies n (bare_control 0 true) i (omega arith) k))),
      omega arith,
    ) in
    subst (λ x. IsHome (length c.args.lanes.now.batches.now) (length c.args.lanes.now.batches.now) c.args.lanes.now s [] d.head x) (sym c.planner_home.ensures.home) home

pub reactor_worker-hand-requires : goal.reactor_worker-hand-requires
reactor_worker-hand-requires g c = subst (λ h. IsReactorAt g.A.ReactorMachine g.O.Outside c.args.lanes.now 0 h c.args.far.hand) (sym c.of-first.ensures) c.requires.far.1
