use Rattle.std.proofs.Common.{◌≤◌, length, arith}
use Rattle.generated_load.proofs.Digits.{three_digits}
use Rattle.generated_load.proofs.text.put_millimetres.Goals as goal

pub put-requires : goal.put-requires
put-requires c =
    let short : length c.as_bytes.result.now ≤ 3 = rw (c.as_bytes.ensures.value, c.format.ensures.text) (three_digits c.args.micrometres c.requires.place) in
    let room = c.requires.room in
    record { room = omega arith }

pub put-requires-2 : goal.put-requires-2
put-requires-2 c =
    let short : length c.as_bytes.result.now ≤ 3 = rw (c.as_bytes.ensures.value, c.format.ensures.text) (three_digits c.args.micrometres c.requires.place) in
    let room = c.requires.room in
    let size = c.put.ensures.size in
    record { room = omega arith }

pub returns-clause-size : goal.returns-clause-size
returns-clause-size c =
    let short : length c.as_bytes.result.now ≤ 3 = rw (c.as_bytes.ensures.value, c.format.ensures.text) (three_digits c.args.micrometres c.requires.place) in
    let one = c.put.ensures.size in
    let two = c.put-2.ensures.size in
    omega arith
