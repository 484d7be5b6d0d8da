use Rattle.std.specs.Prelude.{◌∷◌}
use Rattle.laws_homing.proofs.home_parts.Apart.{all_behind, begin_apart}
use Rattle.laws_homing.proofs.home_parts.planned_sections_are_apart.Goals as goal

pub returns : goal.returns
returns g = record {
  apart = λ m switches ts p ready first c came early row by connected is past. begin_apart m switches ts p ready first early row came by connected c is past;
  behind = λ m switches b ready first begun clocks c came early row kept on notes knows past starts. all_behind m switches b ready first begun clocks early row kept (c ∷ came) on notes knows past starts;
}
