use Rattle.std.proofs.Common.{◌≡◌, ◌≤◌, ◌∙◌, sym, subst, arith, None, length}
use Rattle.log_check.specs.Faults.{fault_at}
use Rattle.log_check.specs.Points.{Point}
use Rattle.log_check.specs.Steps.{IsSoundPoint, point_of}
use Rattle.log_check.proofs.Sounding.{next-begun, next-sound}
use Rattle.log_check.proofs.check.take.Goals as goal

fits : (c : goal.In_ok-advance) → fault_at c.args.machine.now c.args.sections.now (point_of c.args.stand.now) c.in-Ok.line ≡ None
fits c = sym c.fault.ensures ∙ c.in_default.is

sound : (c : goal.In_ok-advance) → IsSoundPoint c.args.machine.now (point_of c.advance.new.stand)
sound c =
    let m = c.args.machine.now in
    let G : Point → Type 0 = λ p. IsSoundPoint m p in
    subst G (sym c.in_ok-advance.ensures.point) (next-sound m c.args.sections.now (point_of c.args.stand.now) c.in-Ok.line c.requires.machine c.requires.sections c.requires.sound c.in-Ok.ensures.there (fits c))

pub returns-clause-sound : goal.returns-clause-sound
returns-clause-sound c = sound c

pub returns-clause-begun : goal.returns-clause-begun
returns-clause-begun c =
    let G : Point → Type 0 = λ p. p.begun ≤ length c.args.sections.now in
    subst G (sym c.in_ok-advance.ensures.point) (next-begun c.args.machine.now c.args.sections.now (point_of c.args.stand.now) c.in-Ok.line c.requires.begun (fits c))

pub returns-clause-few : goal.returns-clause-few
returns-clause-few c = let h = (sound c).plans in let few = c.requires.machine.steppers_few in omega (arith, h, few)
