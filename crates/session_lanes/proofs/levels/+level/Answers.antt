use Rattle.std.proofs.Common.{rules, arith, ◌≡◌, ◌+◌, ◌<◌, ◌∙◌, [], ◌∷◌, map, length, subst, sym, ap, refl}
use Rattle.std.specs.VecDeque.{deque_len}
use Rattle.session_work.specs.declared.link.LinkDone.{LinkDone}
use Rattle.session_lanes.specs.Levels.{AreLinks, IsReached}
use Rattle.session_work.specs.Links.{IsBoard, IsLinkAt, IsLinkDone}
use Rattle.session_lanes.proofs.LevelFacts.{ready_at, later_links, reached_as, home_as}
use Rattle.session_lanes.proofs.levels.+level.Goals as goal

pub spawn_with-started-requires-clause-runs : goal.spawn_with-started-requires-clause-runs
spawn_with-started-requires-clause-runs g t c κs within =
    let d = c.in-Some.link in
    let all : AreLinks g.L.LinkMachine c.args.rest.at c.args.lanes.now (d ∷ c.pop_front.new.self.items) = subst (AreLinks g.L.LinkMachine c.args.rest.at c.args.lanes.now) c.in-Some.ensures.items c.requires.links in
    ((let count : deque_len c.args.rest.links ≡ deque_len c.pop_front.new.self + 1 = search rules in let boards = c.requires.boards.2 in let same = c.requires.boards.0 in let same2 = c.requires.boards.1 in (omega arith, omega arith, omega arith)), ready_at g.L.LinkMachine c.args.lanes.now c.args.rest.at d c.pop_front.new.self.items c.of-begun.result.value all c.of-begun.ensures)

pub spawn_with-started-requires-clause-keeps : goal.spawn_with-started-requires-clause-keeps
spawn_with-started-requires-clause-keeps g t c κs within = λ r h. subst (λ s. IsLinkDone g.L.LinkMachine.turns c.args.lanes.now c.args.rest.at s r) (c.of-begun.ensures ∙ sym c.of.ensures) h

pub level-reached-requires-clause-links : goal.level-reached-requires-clause-links
level-reached-requires-clause-links g t c κs within =
    later_links g.L.LinkMachine c.args.lanes.now c.args.rest.at c.in-Some.link c.pop_front.new.self.items (subst (AreLinks g.L.LinkMachine c.args.rest.at c.args.lanes.now) c.in-Some.ensures.items c.requires.links)

pub join_link-requires-clause-done : goal.join_link-requires-clause-done
join_link-requires-clause-done g t c =
    let r = c.join-done.result in
    let kept : IsLinkDone g.L.LinkMachine.turns c.args.lanes.now c.args.rest.at c.of.result.value r = subst (λ p. IsLinkDone g.L.LinkMachine.turns p.lanes p.at p.start.value r) c.in-Ok.ensures.ok c.join-done.ensures in
    subst (λ s. IsLinkDone g.L.LinkMachine.turns c.args.lanes.now c.args.rest.at s r) (c.of.ensures ∙ sym c.of-start.ensures) kept

pub join_link-requires-clause-reached : goal.join_link-requires-clause-reached
join_link-requires-clause-reached g t c =
    let ls = map (λ d. d.machine) c.pop_front.new.self.items in
    (ls, reached_as g.M.MotionMachine g.L.LinkMachine g.A.ReactorMachine g.O.Outside (length c.args.lanes.now.batches.now) (c.args.rest.at + 1) c.args.lanes.now c.args.far.motion.seat.machine c.of-motion.result.value ls ls c.args.far.hand.head c.of-head.result.value c.level-reached.result (sym c.of-motion.ensures) refl (sym c.of-head.ensures) c.level-reached.ensures)

pub returns-in-Ok : goal.returns-in-Ok
returns-in-Ok g t c =
    let ls = map (λ d. d.machine) c.pop_front.new.self.items in let n = length c.args.lanes.now.batches.now in
    let before = reached_as g.M.MotionMachine g.L.LinkMachine g.A.ReactorMachine g.O.Outside n (c.args.rest.at + 1) c.args.lanes.now c.args.far.motion.seat.machine c.of-motion.result.value ls ls c.args.far.hand.head c.of-head.result.value c.level-reached.result (sym c.of-motion.ensures) refl (sym c.of-head.ensures) c.level-reached.ensures in
    reached_as g.M.MotionMachine g.L.LinkMachine g.A.ReactorMachine g.O.Outside n c.args.rest.at c.args.lanes.now c.of-motion.result.value c.args.far.motion.seat.machine (c.of-start.result.value ∷ ls) (map (λ d. d.machine) c.args.rest.links.items) c.of-head.result.value c.args.far.hand.head c.join_link.result
    c.of-motion.ensures ((λ i. c.of-start.ensures i ∷ ls) ∙ ap (map (λ d. d.machine)) (sym c.in-Some.ensures.items)) c.of-head.ensures (c.join_link.ensures ls before)

pub spawn_with-done-requires : goal.spawn_with-done-requires
spawn_with-done-requires g t c κs within =
    let d = c.in-Some.link in
    let all : AreLinks g.L.LinkMachine c.args.rest.at c.args.lanes.now (d ∷ c.pop_front.new.self.items) = subst (AreLinks g.L.LinkMachine c.args.rest.at c.args.lanes.now) c.in-Some.ensures.items c.requires.links in
    let ready = ready_at g.L.LinkMachine c.args.lanes.now c.args.rest.at d c.pop_front.new.self.items c.of-begun.result.value all c.of-begun.ensures in
    (within.0, (within.1.0, (within.1.1, subst (λ f. IsBoard f.3.now f.1 × IsLinkAt g.L.LinkMachine.turns 0 f.3.now f.1 f.2.value f.4) (sym c.in-Err.ensures.err) ((let count : deque_len c.args.rest.links ≡ deque_len c.pop_front.new.self + 1 = search rules in let boards = c.requires.boards.2 in let same = c.requires.boards.0 in let same2 = c.requires.boards.1 in (omega arith, omega arith, omega arith)), ready))))

pub bring_home-requires-clause-done : goal.bring_home-requires-clause-done
bring_home-requires-clause-done g t c =
    let r = c.spawn_with-done.result in
    let there : IsLinkDone g.L.LinkMachine.turns c.args.lanes.now c.args.rest.at c.of-begun.result.value r = subst (λ f. IsLinkDone g.L.LinkMachine.turns f.3.now f.1 f.2.value r) c.in-Err.ensures.err c.spawn_with-done.ensures in
    subst (λ s. IsLinkDone g.L.LinkMachine.turns c.args.lanes.now c.args.rest.at s r) (c.of-begun.ensures ∙ sym c.of-start.ensures) there

pub bring_home-requires-clause-home : goal.bring_home-requires-clause-home
bring_home-requires-clause-home g t c =
    let ls = map (λ d. d.machine) c.pop_front.new.self.items in
    (ls, home_as (length c.args.lanes.now.batches.now) (c.args.rest.at + 1) c.args.lanes.now c.args.far.motion.seat.machine c.of-motion.result.value ls ls c.args.far.hand.head c.of-head.result.value c.turn_home-home.result (sym c.of-motion.ensures) refl (sym c.of-head.ensures) c.turn_home-home.ensures)

pub returns : goal.returns
returns g t c =
    let ls = map (λ d. d.machine) c.pop_front.new.self.items in let n = length c.args.lanes.now.batches.now in
    let before = home_as n (c.args.rest.at + 1) c.args.lanes.now c.args.far.motion.seat.machine c.of-motion.result.value ls ls c.args.far.hand.head c.of-head.result.value c.turn_home-home.result (sym c.of-motion.ensures) refl (sym c.of-head.ensures) c.turn_home-home.ensures in
    home_as n c.args.rest.at c.args.lanes.now c.of-motion.result.value c.args.far.motion.seat.machine (c.of-start.result.value ∷ ls) (map (λ d. d.machine) c.args.rest.links.items) c.of-head.result.value c.args.far.hand.head c.bring_home.result
    c.of-motion.ensures ((λ i. c.of-start.ensures i ∷ ls) ∙ ap (map (λ d. d.machine)) (sym c.in-Some.ensures.items)) c.of-head.ensures (c.bring_home.ensures ls before)

-- no link is left
pub returns-in_default : goal.returns-in_default
returns-in_default g t c =
    let n = length c.args.lanes.now.batches.now in let all = c.requires.boards.2 in
    let none : c.args.rest.links.items ≡ [] = search rules in let count : deque_len c.args.rest.links ≡ 0 = search rules in let last : n ≡ c.args.rest.at = omega arith in
    subst (λ j. IsReached g.M.MotionMachine g.L.LinkMachine g.A.ReactorMachine g.O.Outside n j c.args.lanes.now c.args.far.motion.seat.machine (map (λ d. d.machine) c.args.rest.links.items) c.args.far.hand.head c.core.result) last
    (subst (λ ds. IsReached g.M.MotionMachine g.L.LinkMachine g.A.ReactorMachine g.O.Outside n n c.args.lanes.now c.args.far.motion.seat.machine (map (λ (d : LinkDone g.row.L.Denot). d.machine) ds) c.args.far.hand.head c.core.result) (sym none) c.core.ensures)

pub core-requires-clause-far : goal.core-requires-clause-far
core-requires-clause-far g t c κs within = c.requires.far

pub level-reached-requires-clause-far : goal.level-reached-requires-clause-far
level-reached-requires-clause-far g t c κs within = c.requires.far

pub turn_home-home-requires-clause-far : goal.turn_home-home-requires-clause-far
turn_home-home-requires-clause-far g t c = c.requires.far

pub core-requires-clause-boards : goal.core-requires-clause-boards
core-requires-clause-boards g t c κs within = (c.requires.boards.0, c.requires.boards.1)

pub level-reached-requires-clause-boards : goal.level-reached-requires-clause-boards
level-reached-requires-clause-boards g t c κs within = let count : deque_len c.args.rest.links ≡ deque_len c.pop_front.new.self + 1 = search rules in let all = c.requires.boards.2 in (c.requires.boards.0, c.requires.boards.1, omega arith)

pub join_link-requires-clause-boards : goal.join_link-requires-clause-boards
join_link-requires-clause-boards g t c = let count : deque_len c.args.rest.links ≡ deque_len c.pop_front.new.self + 1 = search rules in let all = c.requires.boards.2 in (omega arith, c.requires.boards.0, c.requires.boards.1)

pub turn_home-home-requires-clause-boards : goal.turn_home-home-requires-clause-boards
turn_home-home-requires-clause-boards g t c = let count : deque_len c.args.rest.links ≡ deque_len c.pop_front.new.self + 1 = search rules in let all = c.requires.boards.2 in (c.requires.boards.0, c.requires.boards.1, omega arith)

pub bring_home-requires-clause-boards : goal.bring_home-requires-clause-boards
bring_home-requires-clause-boards g t c = let count : deque_len c.args.rest.links ≡ deque_len c.pop_front.new.self + 1 = search rules in let all = c.requires.boards.2 in (omega arith, c.requires.boards.0, c.requires.boards.1)
