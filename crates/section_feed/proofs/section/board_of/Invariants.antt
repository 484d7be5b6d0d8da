use Rattle.section_feed.proofs.Founding.{AreFound}
use Rattle.section_feed.proofs.section.board_of.Given as goal

abbrev pub invariant-loop-place : goal.invariant-loop-place
invariant-loop-place l = AreFound l.machine l.fn.lines l.number l.turn l.homing l.place l.board
