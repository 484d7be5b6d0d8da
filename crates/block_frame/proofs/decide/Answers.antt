use Rattle.std.proofs.Common.{◌≡◌, ◌≤◌, ◌/◌, ◌-◌, length, get_or, refl, true, false, arith}
use Rattle.block_frame.specs.Scan.{HasBlock}
use Rattle.block_frame.proofs.Whole.{whole_from, not_whole, is_bad}
use Rattle.block_frame.proofs.decide.Goals as goal
use Rattle.block_frame.proofs.decide.Goals.{else-bytes-ge2-via-then-bytes-ge2+else-bytes-ne1, else-bytes-ge2-via-else-bytes-ge2}

pub returns-then-is_whole : goal.returns-then-is_whole
returns-then-is_whole c =
    let bytes = c.args.bytes.now in
    let len = get_or bytes 0 0 in
    let half : 2 ≤ length bytes → get_or bytes 1 0 / 16 ≡ 1 =
    λ h. elim c.else-bytes-ge2.branch [
      | else-bytes-ge2-via-then-bytes-ge2+else-bytes-ne1 w ↦ omega arith
      | else-bytes-ge2-via-else-bytes-ge2 w ↦ absurd (omega arith)
    ] in
    let checks = c.is_whole.ensures.0 c.if-is_whole.true in
    whole_from bytes len refl (omega arith) (omega arith) (omega arith) half (omega (arith, c.type_inv.bytes (len - 2))) checks.0 checks.1

pub returns-else-is_whole : goal.returns-else-is_whole
returns-else-is_whole c =
    let bytes = c.args.bytes.now in
    let len = get_or bytes 0 0 in
    let wrong : false ≡ true → ⊥ = λ h. cc in
    let no : HasBlock bytes → ⊥ =
    λ b. wrong (rw c.if-is_whole.false at (c.is_whole.ensures.1 (not_whole bytes len refl b))) in
    is_bad bytes len refl (omega arith) (omega arith) c.if-bytes-eq126.false no
