use Rattle.laws_homing.proofs.clear_boards.Clocking.{board_reports, report_counts}
use Rattle.laws_homing.proofs.clear_boards.reports_count_in_time.Goals as goal
use Rattle.laws_board.proofs.clocks.Near.{turn_long}

pub returns : goal.returns
returns c = record { counts = λ own clocks ready turn from tick ticks k low behind near soon few small late before. report_counts own clocks ready turn from tick ticks k low behind near soon few small late before; rises = λ clock turn v d. turn_long clock turn v d; every = λ clock turn v d. board_reports clock turn v d }
