use Rattle.std.proofs.Common.{◌≡◌, ◌<◌, ◌≤◌, ◌^◌, Bool, true, false, length, ap, refl, ◌∙◌, arith}
use Rattle.std.specs.Fmt.{decimal}
use Rattle.std.proofs.lemmas.Fmt.{length-decimal-le}
use Rattle.report_text.specs.Text.{direction_word}
use Rattle.report_text.proofs.printer.place_rest.Goals as goal

three : (up : Bool) → length (direction_word up) ≡ 3
three true = refl
three false = refl

pub place_number-end-requires : goal.place_number-end-requires
place_number-end-requires c =
    let fits : c.args.tick < 2 ^ 64 = omega (arith, c.ranges.tick.fits) in
    let short : length (decimal c.args.tick) ≤ 20 = length-decimal-le 20 c.args.tick (omega arith) (omega (arith, fits)) fits in
    omega arith

pub place-requires : goal.place-requires
place-requires c =
    let fits : c.args.tick < 2 ^ 64 = omega (arith, c.ranges.tick.fits) in
    let short : length (decimal c.args.tick) ≤ 20 = length-decimal-le 20 c.args.tick (omega arith) (omega (arith, fits)) fits in
    let word : length c.direction_word.result ≡ 3 = ap length c.direction_word.ensures ∙ three c.args.up in
    omega (arith, c.place_number-end.ensures.end, c.place_number-end.ensures.size)
