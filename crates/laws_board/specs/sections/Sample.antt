-- A worked example: one millimetre at 10 mm/s on a board of 16 MHz, with 80 steps a millimetre, 3,000 mm/s²
-- and a start in turn 1260. Its 80 steps take four triples.
use Rattle.std.specs.Prelude.{ℕ, pos, ◌+◌, ◌*◌, ◌==◌, Bool, true, Option, Some, None, List, [], ◌∷◌, map, if◌then◌else◌}
use Rattle.std.specs.List.{range_with_len}
use Rattle.plan_types.specs.declared.clock.BoardClock.{BoardClock}
use Rattle.plan_types.specs.declared.plan.Line.{Line}
use Rattle.plan_types.specs.declared.plan.Planned.{Planned}
use Rattle.plan_types.specs.Lines.{Clocks, one_line}
use Rattle.step_feed.specs.Units.{StepUnit}
use Rattle.step_feed.specs.Pacing.{Release}
use Rattle.section_units.specs.Sections.{BoardSection}

-- the clock of the board, which does not drift
abbrev pub sample_clock : BoardClock
sample_clock = record { start = 0; freq = 16_000_000; drift = pos 0 }

-- the clock line
abbrev pub sample_line : Line
sample_line = record { at = 0; clock = 0; freq = 16_000_000 }

-- the clock lines of the board
abbrev pub sample_clocks : Clocks
sample_clocks = one_line sample_line

-- step i, counted from 0
abbrev pub sample_step : ℕ → Planned
sample_step i = record {
  tick = (if i == 0 then 20_192_660 else (if i == 79 then 21_780_672 else 20_196_666 + 20_000 * i));
  up = true;
}

-- the planned steps
abbrev pub sample_steps : List Planned
sample_steps = map sample_step (range_with_len 0 80)

-- a unit with so many steps at this interval, and the turn of its first tick
abbrev pub sample_unit : ℕ → ℕ → ℕ → ℕ → ℕ → Option Bool → Option ℕ → StepUnit
sample_unit first last due interval count up reset = record {
  stepper = 0;
  first = first;
  last = last;
  due = due;
  triple = record { interval = interval; count = count; add = pos 0 };
  up = up;
  reset = reset;
}

-- the four units, each 250 turns before it is due
abbrev pub sample_releases : List Release
sample_releases =
    record { unit = sample_unit 20_192_660 20_192_660 1_262 32_660 1 (Some true) (Some 20_160_000); turn = 1_012 }
    ∷ record { unit = sample_unit 20_216_666 20_216_666 1_263 24_006 1 None None; turn = 1_013 }
    ∷ record { unit = sample_unit 20_236_666 21_756_666 1_264 20_000 77 None None; turn = 1_014 }
    ∷ record { unit = sample_unit 21_780_672 21_780_672 1_361 24_006 1 None None; turn = 1_111 } ∷ []

-- the section
abbrev pub sample_section : BoardSection
sample_section = record {
  start = 1_260;
  end = 1_361;
  plan = λ oid. if oid == 0 then sample_steps else [];
  releases = sample_releases;
}
