use Rattle.laws_report.proofs.reports.Replaying.{replay_cut, replay_ticks}
use Rattle.laws_report.proofs.replays.replayed_pulses_are_meant.Goals as goal

pub returns-clause-ticks : goal.returns-clause-ticks
returns-clause-ticks c = λ b turns pulses state ms r is fair finds oid. replay_ticks b turns pulses state ms r is fair finds oid

pub returns-clause-cut : goal.returns-clause-cut
returns-clause-cut c = λ b turns pulses state ms r is fair. replay_cut b turns pulses state ms r is fair
