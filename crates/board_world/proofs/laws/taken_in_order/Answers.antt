use Rattle.std.proofs.Common.{◌++◌, length, drop, ap, ◌∙◌}
use Rattle.std.proofs.lemmas.List.{take-append-drop}
use Rattle.board_world.specs.World.{Core, new_world, run_world}
use Rattle.board_world.proofs.Runs.{ordered, start_ordered, all_orders, wired}
use Rattle.board_world.proofs.laws.taken_in_order.Goals as goal

pub returns : goal.returns
returns c = record {
  order = λ b pins steps.
      let h : Core = run_world steps (new_world b pins) in
      let o = ordered steps (new_world b pins) (start_ordered b pins) in
      let n = length h.link.taken in
      (drop n h.queued, ap (λ x. x ++ drop n h.queued) o.first ∙ take-append-drop n h.queued ∙ all_orders steps (new_world b pins));
  carried = λ b pins steps. wired (run_world steps (new_world b pins)) (ordered steps (new_world b pins) (start_ordered b pins));
}
