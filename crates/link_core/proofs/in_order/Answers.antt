use Rattle.std.proofs.Common.{◌++◌, drop, ap, ◌∙◌}
use Rattle.std.specs.List.{flat_map}
use Rattle.link_core.specs.Core.{new_link, run}
use Rattle.link_core.proofs.Steps.{run_keeps, start_keeps}
use Rattle.link_core.proofs.Queued.{run_queued, first_blocks}
use Rattle.link_core.proofs.in_order.Goals as goal

pub returns : goal.returns
returns c events =
    let h = run events new_link in
    let s = run_keeps events new_link start_keeps in
    let rest = flat_map (λ b. b) (drop h.accepted h.blocks) ++ h.waiting in
    (rest, ap (λ t. t ++ rest) s.each_once ∙ first_blocks h h.accepted ∙ run_queued events new_link)
