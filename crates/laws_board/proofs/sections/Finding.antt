-- What the laws say of a run.
use Rattle.std.proofs.Common.{◌≡◌, ◌+◌, ◌-◌, List, [], ◌++◌, length, take, ap, sym, ◌∙◌, arith, append-nil, rules}
use Rattle.laws_board.proofs.Names.{length-map, flat_map, Level, BoardDef, Step, run_world, new_world}
use Rattle.std.proofs.lemmas.List.{take_all}
use Rattle.board_world.specs.World.{on_wire}
use Rattle.board_world.proofs.Runs.{ordered, start_ordered}
use Rattle.link_core.specs.Core.{Link, queued, sent, InStep}

-- An idle link.
all_taken : (l : Link) → InStep l → l.waiting ≡ [] → l.acked ≡ sent l → l.taken ≡ queued l
all_taken l s none idle = search (rules, flat_map, take_all, append-nil)

pub idle_took : (b : BoardDef) (pins : List (List Level)) (steps : List Step) → (run_world steps (new_world b pins)).link.waiting ≡ [] → (run_world steps (new_world b pins)).link.acked ≡ sent (run_world steps (new_world b pins)).link
    → (run_world steps (new_world b pins)).taken ≡ (run_world steps (new_world b pins)).queued
idle_took b pins steps none idle =
    let h = run_world steps (new_world b pins) in
    let o = ordered steps (new_world b pins) (start_ordered b pins) in
    let long : length h.link.taken ≡ length h.queued = ap length (all_taken h.link o.in_step none idle ∙ o.carried) ∙ length-map h.queued on_wire in
    o.first ∙ take_all (length h.link.taken) h.queued (omega (arith, long))
