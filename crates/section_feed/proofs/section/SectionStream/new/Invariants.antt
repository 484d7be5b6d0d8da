use Rattle.section_feed.proofs.Sectioning.{AreMade}
use Rattle.section_feed.proofs.section.SectionStream.new.Given as goal

abbrev pub invariant-loop-number : goal.invariant-loop-number
invariant-loop-number l = AreMade l.machine l.clocks l.turn l.homing l.number l.boards.items
