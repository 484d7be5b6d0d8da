use Rattle.std.proofs.Common.{◌<◌, ◌≤◌, take, drop, get_or, arith}
use Rattle.std.proofs.lemmas.List.{take-append-drop, length-take}
use Rattle.vlq_code.proofs.Spelled.{joined_ends}
use Rattle.vlq_code.proofs.end_of.Goals as goal

pub returns-clause-none : goal.returns-clause-none
returns-clause-none c k short h =
    let bytes = c.args.bytes.now in
    let e = joined_ends (take k bytes) (drop k bytes) h in
    let at : get_or bytes e.0 0 < 128 = rw (take-append-drop k bytes) at e.2 in
    let len = length-take k bytes in
    let low : 128 ≤ get_or bytes e.0 0 = c.loop-i.invariant e.0 (omega (arith, e.1, len, short)) in
    omega (arith, at, low)
