use Rattle.std.proofs.Common.{set, get_or}
use Rattle.std.proofs.Math.ListN.{length-set}
use Rattle.link_core.specs.declared.host.Outstanding.{Outstanding}
use Rattle.link_core.proofs.Views.{contents_set, puts_set, refill_all}
use Rattle.link_core.proofs.host.put_at.Goals as goal

pub returns-clause-contents : goal.returns-clause-contents
returns-clause-contents c =
    let os = c.args.outstanding.now.items in
    let o = c.index-as_mut_slice-i.result in
    rw (c.as_mut_slice.ensures.value, refill_all os (set os c.args.i record { content = (get_or os c.args.i o).content; put = c.args.turn }) (simp length-set))
    (contents_set os c.args.i c.args.turn o)

pub returns-clause-puts : goal.returns-clause-puts
returns-clause-puts c =
    let os = c.args.outstanding.now.items in
    let o = c.index-as_mut_slice-i.result in
    let after : Outstanding = record { content = (get_or os c.args.i o).content; put = c.args.turn } in
    rw (c.as_mut_slice.ensures.value, refill_all os (set os c.args.i after) (simp length-set)) (puts_set os c.args.i after)
