-- The numbers of a reading.
use Rattle.std.specs.Prelude.{ℕ, ◌*◌, ◌≤◌}
use Rattle.gcode_program.specs.declared.reading.Reading.{Reading}

-- they are small
pub record IsSmallReading (r : Reading) : Type 0 where
  pub near : r.start ≤ 1_073_741_825
  pub few : r.modes.lines ≤ r.start
  pub lines_few : r.lines ≤ r.start
  pub passed_few : r.passed ≤ r.lines
  pub dwell_small : r.opening.dwell ≤ 3_600_000 * r.lines
