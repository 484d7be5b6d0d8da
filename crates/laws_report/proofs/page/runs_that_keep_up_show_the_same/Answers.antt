use Rattle.laws_board.proofs.causes.ShortNames.{short_dictionaries}
use Rattle.laws_report.proofs.reports.Any.{keep-check, keep-show}
use Rattle.laws_report.proofs.reports.Configured.{names-of-reading}
use Rattle.laws_report.proofs.page.runs_that_keep_up_show_the_same.Goals as goal

pub returns : goal.returns
returns g c = record {
  shows = λ printer m s gcode files files' out out' cause lines counts links configured r text told keeps.
      keep-show g.F.Files g.S.Sink m s gcode files files' out out' cause lines counts links r text (short_dictionaries printer m configured) told keeps;
  checks = λ printer m s gcode files files' out out' cause lines counts links configured r text told keeps through.
      keep-check g.F.Files g.S.Sink m s gcode files files' out out' cause lines counts links r text (short_dictionaries printer m configured) (names-of-reading printer m configured) told keeps through;
}
