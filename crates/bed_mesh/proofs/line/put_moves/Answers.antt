use Rattle.std.proofs.Common.{◌≡◌, ◌∙◌, ◌+◌, ◌++◌, List, ap, arith, sym, subst, length}
use Rattle.std.specs.Prelude.{ℤ}
use Rattle.std.proofs.lemmas.Result.{IfErr-weaker, on_ok_weaker}
use Rattle.bed_mesh.specs.Cuts.{cut_ends}
use Rattle.bed_mesh.specs.declared.back.Halt.{Halt}
use Rattle.bed_mesh.specs.Files.{accepted_state}
use Rattle.bed_mesh.specs.BentLines.{all_lines, move_lines, new_acceleration}
use Rattle.bed_mesh.specs.Room.{AreWritten, IsWhy}
use Rattle.bed_mesh.proofs.Writing.{near_ways, why_second, written_both}
use Rattle.bed_mesh.proofs.line.put_moves.Goals as goal

pub put_ends-requires-clause-near : goal.put_ends-requires-clause-near
put_ends-requires-clause-near c = rw c.deref.ensures.value (near_ways c.args.m.now _ c.requires.valid c.requires.reachable c.in_ok-ends.ensures.near)

pub returns-clause-written : goal.returns-clause-written
returns-clause-written c =
    let e : c.deref.result.now ≡ cut_ends c.args.mesh.now c.args.m.now = c.deref.ensures.value ∙ c.in_ok-ends.ensures.ends in
    on_ok_weaker c.put_ends.result (λ w.
    written_both _ _ _ _ _ _ _ _ _ c.in_ok-put_acceleration.ensures.written
    (subst (λ (l : List (List ℤ)). AreWritten c.args.start c.put_acceleration.new.modes c.put_acceleration.new.text.items (move_lines c.args.mesh.now c.args.m.now.v c.args.m.now.from l) c.put_ends.new.modes c.put_ends.new.text.items) e w)) c.put_ends.ensures.written

pub returns-clause-why : goal.returns-clause-why
returns-clause-why c =
    let e : c.deref.result.now ≡ cut_ends c.args.mesh.now c.args.m.now = c.deref.ensures.value ∙ c.in_ok-ends.ensures.ends in
    IfErr-weaker c.put_ends.result
    (λ halt. IsWhy halt (accepted_state (c.args.start + length c.put_acceleration.new.text.items) c.put_acceleration.new.modes (move_lines c.args.mesh.now c.args.m.now.v c.args.m.now.from c.deref.result.now)))
    (λ halt. IsWhy halt (accepted_state (c.args.start + length c.args.text.now.items) c.args.modes.now (all_lines c.args.mesh.now c.args.last c.args.m.now)))
    (λ halt w. why_second _ _ _ _ _ _ _ halt c.in_ok-put_acceleration.ensures.written
    (subst (λ (l : List (List ℤ)). IsWhy halt (accepted_state (c.args.start + length c.put_acceleration.new.text.items) c.put_acceleration.new.modes (move_lines c.args.mesh.now c.args.m.now.v c.args.m.now.from l))) e w)) c.put_ends.ensures.why
