use Rattle.std.proofs.Common.{◌≡◌, ◌+◌, ◌∷◌, ◌++◌, [], List, length, ap, sym, ◌∙◌, arith, rules, append_assoc, refl, true}
use Rattle.session_work.specs.declared.table.MotionTurn.{MotionTurn}
use Rattle.session_work.specs.Alone.{with_controls}
use Rattle.session_work.specs.Rows.{gather}
use Rattle.session_work.specs.Seats.{hungers, PieceStep}
use Rattle.session_work.proofs.Goes.{goes_on, taken_more}
use Rattle.session_work.proofs.Reactors.{served_more}
use Rattle.session_lanes.proofs.alone.read_here.Goals as goal

pub loop-preserved : goal.loop-preserved
loop-preserved g c =
    let m = g.M.MotionMachine in let n = c.loop.both.next in let p = c.take-piece.result in
    let i = c.loop.invariant.2 in let ts = i.0 in let ws = i.1 in let ps = i.2 in let x = i.3 in let a = i.4 in let w = i.10 in (
      tt,
      tt,
      (
        ts,
        ws,
        ps ++ p ∷ [],
        x,
        a,
        i.5,
        i.6,
        i.7,
        i.8,
        goes_on (λ _ u q v. (hungers m.hungry n u ≡ true) × PieceStep m.reads u q v) 0 (length ps) a c.loop.both.motion.seat _ ps p i.9 (omega arith) (search rules, c.piece.ensures.step),
        (
          w.0,
          taken_more _ (p ∷ []) _ _ _ _ w.1 c.take-piece.ensures.lane c.take-piece.ensures.first c.take-piece.ensures.taken (sym (append_assoc (gather (λ (t : MotionTurn). t.pieces) ts) ps (p ∷ []))),
          w.2,
          w.3,
          w.4,
          w.5,
          c.piece.ensures.boards ∙ w.6,
        ),
      ),
      record {
        many = c.loop.invariant.3.many;
        numbers = c.loop.invariant.3.numbers;
        puts = c.loop.invariant.3.puts;
        takes = c.loop.invariant.3.takes;
        piece = (c.put_piece.ensures.pass.0, c.put_piece.ensures.count);
        next = c.loop.invariant.3.next;
        behind = λ cps row. let before = c.loop.invariant.3.behind cps row in
            served_more g.A.ReactorMachine g.O.Outside c.args.place.now.lanes c.args.k c.args.place.now.first.now.value (with_controls c.loop.both.hand cps) c.piece-piece.result c.piece-piece.new.self c.put_piece.new.count c.loop.both.hand.closed c.loop.both.hand.ask_pass c.put_piece.new.pass before c.piece-piece.ensures.step c.piece-piece.ensures.boards c.piece-piece.ensures.free
            before.11.3.6 c.put_piece.ensures.pass.0 c.put_piece.ensures.pass.1 c.put_piece.ensures.pass.2 c.put_piece.ensures.count;
      },
      c.loop.invariant.4,
      c.loop.invariant.5,
    )

pub loop-init : goal.loop-init
loop-init g c = let h = c.requires.motion.0 in (tt, tt, (h.0, h.1, [], h.2, c.args.both.now.motion.seat, h.3, h.4, h.5, c.requires.motion.1, refl, h.6), c.requires.reactor, refl, refl)
