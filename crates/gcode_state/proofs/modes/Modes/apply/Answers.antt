use Rattle.gcode_state.proofs.Weights.{accepted_counted}
use Rattle.gcode_state.proofs.modes.Modes.apply.Goals as goal

pub returns-clause-count : goal.returns-clause-count
returns-clause-count c = accepted_counted c.args.self.now c.self.inside.state c.in_ok-state.state c.in_ok-state.action c.args.word.now c.self.view_is c.in_ok-state.ensures.value
