use Rattle.std.proofs.Common.{◌≡◌, ◌∙◌, ◌*◌, ◌<◌, ◌^◌, ap, arith}
use Rattle.std.specs.Prelude.{ℤ, pos, unsigned_abs}
use Rattle.std.proofs.lemmas.Int.{fits_signed_from_abs, to_z-of_z, to_z_pos}
use Rattle.std.proofs.lemmas.Result.{on_ok_weaker}
use mir.Syntax.{w64}
use mir.Val.{to_z, of_z}
use Rattle.bed_mesh.specs.BentLines.{at, move_line}
use Rattle.bed_mesh.proofs.Writing.{five_words, near_same}
use Rattle.bed_mesh.proofs.line.put_move.Goals as goal

pub returns : goal.returns
unfolding move_line
returns c =
    let near = c.requires.near in
    let speed = c.requires.speed in
    on_ok_weaker c.put_word-5.result (λ last.
    five_words _ _ _ _ _ _ _ _ _ _ _ _ _ _ _ _ _ _ _ _ _ c.in_ok-put_word.ensures c.in_ok-put_word-2.ensures c.in_ok-put_word-3.ensures c.in_ok-put_word-4.ensures last
    (near_same _ (omega arith)) (near_same _ (omega arith))
    (to_z-of_z w64 c.raised.result (record { sfits = c.raised.type_inv }) ∙ c.raised.ensures)
    (to_z-of_z w64 c.change_of.result (record { sfits = c.change_of.type_inv }) ∙ c.change_of.ensures)
    (to_z_pos w64 (60 * c.args.speed) (omega arith))) c.put_word-5.ensures
