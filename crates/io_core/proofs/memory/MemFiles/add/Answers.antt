use Rattle.std.proofs.Common.{◌≡◌, None, rules}
use Rattle.io_core.proofs.Storing.{stored_or-append, same_name, other_name}
use Rattle.io_core.proofs.memory.MemFiles.add.Goals as goal

pub returns-clause-here : goal.returns-clause-here
returns-clause-here c =
    let same = same_name c.in_ok-from_slice.field-0.items c.args.name.now (search rules) in
    rw (c.in_ok-push.ensures.items, stored_or-append None c.args.self.now.files.items) (rw same (search rules))

pub returns-clause-others : goal.returns-clause-others
returns-clause-others c = λ other differs.
    let is : c.in_ok-from_slice.field-0.items ≡ c.args.name.now = search rules in
    let differ = other_name c.in_ok-from_slice.field-0.items other (λ e. differs (cc)) in
    rw (c.in_ok-push.ensures.items, stored_or-append None c.args.self.now.files.items) (rw differ)
