use Rattle.laws_board.proofs.Names.{∥∥₁_map}
use Rattle.laws_report.proofs.reports.Configured.{names-of-reading}
use Rattle.laws_report.proofs.page.printed_lines_follow_the_plan.Goals as goal

pub returns : goal.returns
returns g c = λ printer m s gcode files files' out out' cause lines counts links configured r text told near.
    ∥∥₁_map (r.shows text told) (λ shows. (shows.says near (names-of-reading printer m configured), shows.follows near, shows.starts near))
