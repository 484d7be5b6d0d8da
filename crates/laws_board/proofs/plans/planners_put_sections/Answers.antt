use Rattle.laws_board.proofs.plans.Planning.{planner_plans}
use Rattle.laws_board.proofs.plans.planners_put_sections.Goals as goal

pub returns : goal.returns
returns c = planner_plans
