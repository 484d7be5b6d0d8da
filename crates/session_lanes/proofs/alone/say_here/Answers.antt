use Rattle.std.proofs.Common.{rules, arith, ◌≡◌, ◌+◌, ◌++◌, ◌∷◌, ◌∙◌, [], List, length, ap, sym, refl, append_assoc, append-nil, true}
use Rattle.lane_queue.specs.Ends.{next_take}
use Rattle.session_work.specs.declared.table.MotionTurn.{MotionTurn}
use Rattle.session_work.specs.Motions.{seated}
use Rattle.session_work.specs.Rows.{gather}
use Rattle.session_work.proofs.Goes.{next_taken, taken_more}
use Rattle.session_work.proofs.Motions.{heard_by}
use Rattle.session_lanes.proofs.alone.say_here.Goals as goal

pub hand-requires-clause-empty : goal.hand-requires-clause-empty
hand-requires-clause-empty g c =
    let m = g.M.MotionMachine in let at = c.requires.motion in let ts = at.0 in
    let heard = heard_by m (length c.args.place.now.lanes.batches.now) 0 (seated m c.args.place.now.start.now.value) c.args.both.now.motion.seat ts at.2 in
    let is : c.args.both.now.motion.seat.heard ≡ c.args.k = search rules in
    let sum = ap length (append-nil (gather (λ (t : MotionTurn). t.words) ts)) in
    let taken : next_take c.args.both.now.motion.word_pass ≡ c.args.k = next_taken _ c.args.k c.args.place.now.lanes.words.now _ at.3.0 (omega arith) in
    c.requires.reactor.number ∙ sym taken

pub returns-then-needs-clause-heard : goal.returns-then-needs-clause-heard
returns-then-needs-clause-heard g c = λ _.
    let at = c.requires.motion in let ts = at.0 in let w = at.3 in let word = c.args.word in (
      search rules,
      (
        ts,
        word ∷ [],
        c.args.both.now.motion.seat,
        at.1,
        at.2,
        (c.word.new.self, (search rules, c.word.ensures.step), refl),
        (
          taken_more _ (word ∷ []) _ _ _ _ w.0 c.hand.ensures.take c.hand.ensures.take_first c.hand.ensures.taken (sym (append_assoc (gather (λ (t : MotionTurn). t.words) ts) [] (word ∷ []))),
          w.1,
          w.2,
          w.3,
          w.4,
          w.5,
          c.word.ensures.boards ∙ w.6,
        ),
      ),
    )

pub hand-requires-clause-send : goal.hand-requires-clause-send
hand-requires-clause-send g c = c.requires.reactor.can.0

pub hand-requires-clause-take : goal.hand-requires-clause-take
hand-requires-clause-take g c = c.requires.motion.3.0.0

pub hand-requires-clause-number : goal.hand-requires-clause-number
hand-requires-clause-number g c = c.requires.reactor.number ∙ sym c.requires.reactor.can.1

pub put-requires-clause-lane : goal.put-requires-clause-lane
put-requires-clause-lane g c = c.requires.reactor.can.0

pub put-requires-clause-number : goal.put-requires-clause-number
put-requires-clause-number g c = c.requires.reactor.number ∙ sym c.requires.reactor.can.1

pub returns-then-needs-clause-reactor : goal.returns-then-needs-clause-reactor
returns-then-needs-clause-reactor g c = c.requires.reactor.behind c.hand.new.send (c.hand.ensures.send, c.hand.ensures.put_first, c.hand.ensures.put)

pub returns-clause-at : goal.returns-clause-at
returns-clause-at g c = λ _. c.requires.motion

pub returns-clause-reactor : goal.returns-clause-reactor
returns-clause-reactor g c = c.requires.reactor.behind c.put.new.pass (c.put.ensures.lane, c.put.ensures.first, c.put.ensures.put)
