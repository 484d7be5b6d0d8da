use Rattle.std.proofs.Common.{◌≡◌, refl, true, false}
use mathlib.Core.Logic.{◌⊎◌, inl, inr}
use Rattle.session_work.specs.declared.seat.Seat.{Seat}
use Rattle.session_work.specs.Bares.{bare_batch}
use Rattle.session_work.proofs.Each.{length-copies}
use Rattle.session_work.proofs.Motions.{bare_step}
use Rattle.session_work.proofs.seat.Seat.turn.Goals as goal
use Rattle.session_work.proofs.seat.Seat.turn.Goals.{then-self-via-then-self, then-self-via-else-self+then-self-2}

pub returns-then-self-clause-made : goal.returns-then-self-clause-made
returns-then-self-clause-made g c n many =
    let s = c.args.self.now in
    let quiet : (s.halted ≡ true) ⊎ (s.quiet ≡ true) = elim c.then-self.branch [ then-self-via-then-self w ↦ inl w.if-self.true | then-self-via-else-self+then-self-2 w ↦ inr w.if-self-2.true ] in
    bare_step g.M.MotionMachine n c.args.k s s c.bare_late.result (refl, refl, length-copies n (bare_batch c.args.k s.halted), inr (refl, refl, inl (quiet, (refl, refl, refl)))) c.bare_late.ensures.note c.bare_late.ensures.row

pub returns-clause-made : goal.returns-clause-made
returns-clause-made g c n many =
    let s = c.args.self.now in let y : Seat g.row.M.Denot = record { machine = c.turn.new.self; halted = s.halted; quiet = true; out = true; heard = s.heard } in
    bare_step g.M.MotionMachine n c.args.k s y c.bare_late-2.result (refl, refl, length-copies n (bare_batch c.args.k s.halted), inr (refl, refl, inr (c.if-self.false, (c.if-self-2.false, refl, refl)))) c.bare_late-2.ensures.note c.bare_late-2.ensures.row
