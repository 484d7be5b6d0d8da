use Rattle.std.proofs.Common.{◌≡◌, ◌+◌, ◌∷◌, ◌++◌, [], length, ap, sym, ◌∙◌, rules, refl}
use Rattle.session_work.proofs.Reactors.{served_all, served_more}
use Rattle.session_work.proofs.reactor.serve.Goals as goal

pub returns-then-hand : goal.returns-then-hand
returns-then-hand g c = served_all g.A.ReactorMachine g.O.Outside c.args.lanes.now c.args.k c.args.start.now.value c.loop.hand c.loop.invariant.2

pub returns-then-not-ask : goal.returns-then-not-ask
returns-then-not-ask g c = let h = served_all g.A.ReactorMachine g.O.Outside c.args.lanes.now c.args.k c.args.start.now.value c.loop.hand c.loop.invariant.2 in let w = h.4.3 in
    (h.0, h.1, h.2, h.3, (h.4.0, h.4.1, h.4.2, (w.0, w.1, w.2, w.3, w.4, w.5, c.take-ask.ensures.lane, w.7, w.8)))

pub loop-preserved : goal.loop-preserved
loop-preserved g c = (
  tt,
  tt,
  served_more g.A.ReactorMachine g.O.Outside c.args.lanes.now c.args.k c.args.start.now.value c.loop.hand c.piece-piece.result c.piece-piece.new.self c.put_piece.new.count c.piece-piece.result.end c.take-ask.new.pass c.put_piece.new.pass c.loop.invariant.2 c.piece-piece.ensures.step c.piece-piece.ensures.boards c.piece-piece.ensures.free
      c.take-ask.ensures.lane c.put_piece.ensures.pass.0 c.put_piece.ensures.pass.1 c.put_piece.ensures.pass.2 c.put_piece.ensures.count,
)

pub loop-init : goal.loop-init
loop-init g c = (tt, tt, c.requires)

pub take-ask-requires : goal.take-ask-requires
take-ask-requires g c = record { lane = c.loop.invariant.2.11.3.6 }

pub put_piece-requires-clause-pass : goal.put_piece-requires-clause-pass
put_piece-requires-clause-pass g c = let w = c.loop.invariant.2.11.3 in (w.4.0, w.5)

pub put_piece-requires-clause-number : goal.put_piece-requires-clause-number
put_piece-requires-clause-number g c = c.piece-piece.ensures.number
