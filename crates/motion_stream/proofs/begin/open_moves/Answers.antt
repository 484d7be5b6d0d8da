use Rattle.std.proofs.Common.{[], arith, false, refl}
use Rattle.motion_stream.proofs.Limits.{none_pushed}
use Rattle.motion_stream.proofs.begin.open_moves.Goals as goal

pub take_moves-requires-clause-few : goal.take_moves-requires-clause-few
take_moves-requires-clause-few c =
    let none = none_pushed c.args.machine.now c.args.lines.now c.args.start false c.in_ok-section.section c.in_ok-section.ensures.on in
    let few = c.requires.few in
    omega (arith, none, few)

pub returns : goal.returns
returns c =
    let e = c.in_ok-section.ensures in
    let taken = c.in_ok-take_moves.ensures.taken in
    let next = taken.next in
    let from = e.next in
    record {
      moves = taken.more;
      ends = taken.ends;
      items_are = taken.items_are;
      takes = taken.takes;
      on = taken.on c.args.machine.now c.args.lines.now c.args.start false [] (λ b. []) e.on;
      next = omega (arith, next, from);
      tells = (refl, refl);
      stops = c.in_ok-take_moves.ensures.stops;
    }
