use Rattle.std.proofs.Common.{◌≡◌, length}
use Rattle.axis_homing.specs.Homing.{hears_news}
use Rattle.axis_homing.proofs.homing.hear_news.Given as goal

abbrev pub invariant-loop-rest : goal.invariant-loop-rest
invariant-loop-rest l = record { value : hears_news l.clocks l.board l.turn l.rest l.g ≡ hears_news l.clocks l.board l.turn l.fn.news l.initial.g; start : l.g.start ≡ l.initial.g.start }

abbrev pub decreases-loop-rest : goal.decreases-loop-rest
decreases-loop-rest l = length l.rest
