use Rattle.std.proofs.Common.{◌≡◌, ◌∙◌, ◌+◌, ℕ, ap, arith, length, subst, sym}
use Rattle.std.proofs.lemmas.Result.{err_from_is_err_and}
use Rattle.bed_mesh.specs.declared.back.Halt.{Halt}
use Rattle.bed_mesh.specs.Files.{accepted_state}
use Rattle.bed_mesh.specs.BentLines.{lines_by}
use Rattle.bed_mesh.specs.Room.{IsWhy}
use Rattle.bed_mesh.proofs.file.write_action.Goals as goal

pub returns-in_err-put_action-clause-why : goal.returns-in_err-put_action-clause-why
returns-in_err-put_action-clause-why c =
    let p = err_from_is_err_and c.from_residual.result c.from_residual.ensures.1 in
    let aside = ap length c.clear.ensures.items in
    let e : c.len-start.result + length c.clear.new.self.items ≡ length c.args.writer.now.code.items = omega (arith, c.len-start.ensures, aside) in
    let w = subst (λ (n : ℕ). IsWhy c.in_err-put_action.field-0.0 (accepted_state n c.args.writer.now.modes (lines_by c.args.mesh.now c.args.writer.now.last c.args.action.now))) e c.in_err-put_action.ensures.why in
    rw (p.1) (subst (λ (h : Halt). IsWhy h (accepted_state (length c.args.writer.now.code.items) c.args.writer.now.modes (lines_by c.args.mesh.now c.args.writer.now.last c.args.action.now))) (sym p.2) w)
