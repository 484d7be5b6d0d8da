use Rattle.laws_board.proofs.sections.Linking.{own_ticks, pulse_runs, told_both, turns_append, turns_are}
use Rattle.laws_board.proofs.sections.links_make_turns.Goals as goal

pub returns : goal.returns
returns c = record { steps = turns_are; joined = turns_append; told = told_both; ticks = own_ticks; running = pulse_runs }
