use Rattle.std.proofs.Common.{◌≡◌, ◌+◌, ◌∷◌, ◌++◌, [], List, length, sym, ◌∙◌, arith, rules, append_assoc, true, refl}
use Rattle.session_work.specs.declared.table.MotionTurn.{MotionTurn}
use Rattle.session_work.specs.Rows.{gather}
use Rattle.session_work.specs.Seats.{hungers, PieceStep}
use Rattle.session_work.proofs.Goes.{goes_on, taken_more}
use Rattle.session_work.proofs.motion.feed.Goals as goal

pub loop-preserved : goal.loop-preserved
loop-preserved g c =
    let m = g.M.MotionMachine in let k = c.args.k in let p = c.take-piece.result in
    let i = c.loop.invariant.2 in let ts = i.0 in let ws = i.1 in let ps = i.2 in let x = i.3 in let a = i.4 in let w = i.10 in (
      tt,
      tt,
      (
        ts,
        ws,
        ps ++ p ∷ [],
        x,
        a,
        i.5,
        i.6,
        i.7,
        i.8,
        goes_on (λ _ u q v. (hungers m.hungry k u ≡ true) × PieceStep m.reads u q v) 0 (length ps) a c.loop.motion.seat _ ps p i.9 (omega arith) (search rules, c.piece.ensures.step),
        (
          w.0,
          taken_more _ (p ∷ []) _ _ _ _ w.1 c.take-piece.ensures.lane c.take-piece.ensures.first c.take-piece.ensures.taken (sym (append_assoc (gather (λ (t : MotionTurn). t.pieces) ts) ps (p ∷ []))),
          w.2,
          w.3,
          c.put_ask.ensures.0,
          c.put_ask.ensures.1,
          c.piece.ensures.boards ∙ w.6,
        ),
      ),
      c.loop.invariant.3,
    )

pub loop-init : goal.loop-init
loop-init g c = let h = c.requires.0 in (tt, tt, (h.0, h.1, [], h.2, c.args.motion.now.seat, h.3, h.4, h.5, c.requires.1, refl, h.6), refl)

pub put_ask-requires : goal.put_ask-requires
put_ask-requires g c = let w = c.loop.invariant.2.10 in (w.4, w.5)
