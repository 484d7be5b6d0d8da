use Rattle.std.proofs.Common.{◌≡◌, ◌∙◌, ◌≤◌, ℕ, true, false, ap, sym, arith}
use Rattle.std.specs.Prelude.{ℤ, pos, ◌+ℤ◌, ◌-ℤ◌, unsigned_abs}
use Rattle.std.proofs.lemmas.Int.{ints}
use mir.Val.{to_z, of_z}
use mir.Syntax.{w64}
use Rattle.gcode_program.specs.Homes.{is_positive}
use Rattle.gcode_program.proofs.home.homing_from.Goals as goal

below : (z : ℤ) (n : ℕ) → unsigned_abs z ≤ 500_000_000 → n ≤ 1_500_000_000 → to_z w64 (of_z w64 (to_z w64 (of_z w64 z) -ℤ to_z w64 n)) ≡ z -ℤ pos n
below z n low small = omega (arith, ints)

above : (z : ℤ) (n : ℕ) → unsigned_abs z ≤ 500_000_000 → n ≤ 1_500_000_000 → to_z w64 (of_z w64 (to_z w64 (of_z w64 z) +ℤ to_z w64 n)) ≡ z +ℤ pos n
above z n low small = omega (arith, ints)

pub returns-then-is_positive : goal.returns-then-is_positive
returns-then-is_positive c =
    let z = c.args.axis.now.endstop in
    let is : is_positive c.args.axis.now ≡ true = sym c.is_positive.ensures ∙ c.if-is_positive.true in
    rw is (below z c.args.run c.requires.endstop c.requires.small ∙ ap (λ n. z -ℤ pos n) c.requires.run)

pub returns-else-is_positive : goal.returns-else-is_positive
returns-else-is_positive c =
    let z = c.args.axis.now.endstop in
    let is : is_positive c.args.axis.now ≡ false = sym c.is_positive.ensures ∙ c.if-is_positive.false in
    rw is (above z c.args.run c.requires.endstop c.requires.small ∙ ap (λ n. z +ℤ pos n) c.requires.run)
