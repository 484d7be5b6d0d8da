-- A line that was read, without where it lies in memory.
use Rattle.cfg_lines.specs.declared.line.Line.{Line}
use Rattle.cfg_lines.specs.declared.line.Line.TheVariants as lines
use Rattle.cfg_lines.specs.Said.{ConfigurationLine, Nothing, Begins, Continues, Sets, Neither}

-- a line that was read, without where it lies in memory
abbrev pub view : Line → ConfigurationLine
view lines.Nothing = Nothing
view (lines.Begins name) = Begins name.now
view lines.Continues = Continues
view (lines.Sets name value) = Sets name.now value.now
view lines.Neither = Neither
