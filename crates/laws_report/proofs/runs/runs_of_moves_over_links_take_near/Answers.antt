use Rattle.laws_board.proofs.causes.ShortNames.{short_dictionaries}
use Rattle.laws_report.proofs.reports.Any.{moves-near}
use Rattle.laws_report.proofs.runs.runs_of_moves_over_links_take_near.Goals as goal

pub returns : goal.returns
returns g c = λ printer m s gcode files files' out out' cause lines counts links configured r text moves other holds.
    moves-near g.F.Files g.S.Sink m s gcode files files' out out' cause lines counts links r text (short_dictionaries printer m configured) moves other holds
