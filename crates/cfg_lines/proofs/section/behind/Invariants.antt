use Rattle.std.proofs.Common.{◌≡◌, length}
use Rattle.cfg_lines.specs.Sections.{behind_text}
use Rattle.cfg_lines.proofs.section.behind.Given as goal

abbrev pub invariant-loop-wanted : goal.invariant-loop-wanted
invariant-loop-wanted l = behind_text l.wanted l.rest ≡ behind_text l.fn.front l.fn.text

abbrev pub decreases-loop-wanted : goal.decreases-loop-wanted
decreases-loop-wanted l = length l.wanted
