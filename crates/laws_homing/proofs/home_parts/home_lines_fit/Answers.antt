use Rattle.laws_homing.proofs.home_parts.Lines.{home_fits, home_none}
use Rattle.laws_homing.proofs.home_parts.home_lines_fit.Goals as goal

pub returns : goal.returns
returns c = record {
  section = λ m clocks begun rs entries ready until turns from to place x past s later v. home_fits m v clocks begun rs entries ready until turns from to place x past s later;
  between = λ m clocks begun rs entries ready until turns from to place x past later v. home_none m v clocks begun rs entries ready until turns from to place x past later;
}
