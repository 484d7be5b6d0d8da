use Rattle.std.proofs.Common.{◌*◌, arith, map, ◌∙◌}
use Rattle.plan_types.specs.Clock.{turn_ns}
use Rattle.plan_types.specs.Speeds.{caps, speed_change, AreGreatest}
use Rattle.lookahead.proofs.Caps.{length-caps}
use Rattle.section_plan.specs.Runs.{IsRun}
use Rattle.section_plan.proofs.Joins.{joined}
use Rattle.std.proofs.lemmas.Result.{IfOk-weaker}
use Rattle.section_plan.proofs.section.speeds_of.Goals as goal

pub returns-clause-run : goal.returns-clause-run
returns-clause-run c =
    let moves = c.args.moves.now in
    let scv = c.args.machine.now.scv in
    let early = c.requires.turn_small in
    IfOk-weaker c.speeds.result (λ made. AreGreatest (caps moves scv) (map speed_change moves) made.items) (λ made. IsRun c.args.machine.now.cruise moves made.items (c.args.turn * turn_ns))
    (λ made h. record {
      moves_short = c.requires.short;
      count = h.within.count ∙ length-caps moves scv;
      joined = λ i l. joined moves scv made.items i h.within l;
      share = c.requires.machine.cruise;
      few = c.requires.few;
      begin_small = omega arith;
    })
    c.speeds.ensures.greatest
