use Rattle.std.proofs.Common.{◌≡◌, ◌+◌, ◌∷◌, ◌++◌, [], List, length, ap, sym, ◌∙◌, arith, rules, append_assoc, refl, true}
use Rattle.session_work.specs.declared.table.MotionTurn.{MotionTurn}
use Rattle.session_work.specs.Rows.{gather}
use Rattle.session_work.specs.Seats.{needs, WordStep}
use Rattle.session_work.proofs.Goes.{goes_on, taken_more}
use Rattle.session_work.proofs.motion.hear_more.Goals as goal

pub loop-preserved : goal.loop-preserved
loop-preserved g c =
    let m = g.M.MotionMachine in let k = c.args.k in let p = c.take-word.result in
    let i = c.loop.invariant.2 in let ts = i.0 in let ws = i.1 in let x = i.2 in let w = i.6 in (
      tt,
      tt,
      (
        ts,
        ws ++ p ∷ [],
        x,
        i.3,
        i.4,
        goes_on (λ _ u q v. (needs m.wants k u ≡ true) × WordStep m.hears u q v) 0 (length ws) x c.loop.motion.seat _ ws p i.5 (omega arith) (search rules, c.word.ensures.step),
        (
          taken_more _ (p ∷ []) _ _ _ _ w.0 c.take-word.ensures.lane c.take-word.ensures.first c.take-word.ensures.taken (sym (append_assoc (gather (λ (t : MotionTurn). t.words) ts) ws (p ∷ []))),
          w.1,
          w.2,
          w.3,
          c.no_more.ensures.0,
          c.no_more.ensures.1,
          c.word.ensures.boards ∙ w.6,
        ),
      ),
      c.loop.invariant.3,
    )

pub loop-init : goal.loop-init
loop-init g c = (tt, tt, c.requires.at, refl)

pub no_more-requires : goal.no_more-requires
no_more-requires g c = let w = c.loop.invariant.2.6 in (w.4, w.5)
