use Rattle.section_plan.proofs.Latest.{for-each-more}
use Rattle.plan_types.specs.Sections.{base_tick}
use Rattle.log_check.proofs.check.bases_of.Goals as goal

pub loop-s-preserved : goal.loop-s-preserved
loop-s-preserved c = for-each-more (base_tick c.args.machine.now c.args.clocks.now c.args.turn) c.loop-s.s c.loop-s.bases.items c.push.new.self.items _ c.loop-s.invariant c.in_ok-push.ensures.items c.base_of.ensures
