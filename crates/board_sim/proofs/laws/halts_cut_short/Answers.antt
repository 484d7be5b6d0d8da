use Rattle.board_sim.proofs.Halted.{halt_whole, halt_cuts, halt_leaves}
use Rattle.board_sim.proofs.Unbound.{passes_free, takes_free}
use Rattle.board_sim.proofs.laws.halts_cut_short.Goals as goal

pub returns : goal.returns
returns c = record { whole = λ b bound made meant w. halt_whole bound b made meant w; cut = λ b bound made meant w. halt_cuts bound b made meant w; others = λ bound stepper made meant e. halt_leaves bound stepper made meant e; time = λ r t stepper free. passes_free r t stepper free; takes = λ r d stepper free n. takes_free r d stepper free n }
