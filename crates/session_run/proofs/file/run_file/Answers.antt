use Rattle.std.proofs.Common.{◌≡◌, rules, length, vec_len, ap, sym, ◌∙◌, List}
use Rattle.plan_types.specs.declared.machine.BoardDef.{BoardDef}
use Rattle.plan_types.specs.declared.machine.Machine.{Machine}
use Rattle.host_reactor.specs.Reactor.{Run}
use Rattle.session_run.proofs.First.{count, ran}
use Rattle.session_run.proofs.file.run_file.Goals as goal

pub run_with-requires-clause-boards : goal.run_with-requires-clause-boards
run_with-requires-clause-boards g c =
    let few : vec_len c.in-Ok.links ≡ length c.in-Ok.links.items = search rules in
    let all = count c.args.job.now.scene.now 0 c.as_slice.result.now c.in-Ok.links.items c.in-Ok.ensures in
    let boards = sym (few ∙ all ∙ ap (λ (bs : List BoardDef). length bs) c.as_slice.ensures) in
    λ _ _. (ap (λ (m : Machine). length m.boards) c.new-motion.ensures.machine ∙ boards, ap (λ (r : Run). length r.machine.boards) c.new-reactor.ensures ∙ boards)

pub returns-clause-ran : goal.returns-clause-ran
returns-clause-ran g c =
    ran g.F.Files g.S.Sink c.args.job.now.machine.now c.args.job.now.scene.now c.args.job.now.name.now c.args.files.now c.args.out.now c.args.kept.now c.run_with.result c.run_with.new.files c.run_with.new.out c.run_with.new.kept
    c.new-motion.result c.in-Ok.links.items c.new-reactor.result c.as_slice.result.now c.new-motion.ensures.seen c.new-motion.ensures.machine c.as_slice.ensures c.in-Ok.ensures c.new-reactor.ensures c.run_with.ensures.ran
