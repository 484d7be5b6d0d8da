-- A board's part of a run: how its clock lines follow its ticks, its sections in a row, and what is queued
-- for it turn by turn.
use Rattle.std.specs.Prelude.{◌≡◌, ◌≢◌, ℕ, ◌+◌, ◌*◌, ◌<◌, ◌≤◌, ◌⊎◌, List, [], ◌∷◌, All, length, take}
use Rattle.std.specs.List.{flat_map}
use Rattle.plan_types.specs.Clock.{turn_ns}
use Rattle.plan_types.specs.Lines.{Clocks, lines_tick}
use Rattle.clock_line.specs.Kept.{AreKept}
use Rattle.msg_code.specs.declared.cmd.Cmd.{Cmd}
use Rattle.msg_code.specs.declared.cmd.Cmd.TheVariants as cmd
use Rattle.section_units.specs.Sections.{BoardSection, IsSection, of_stepper}
use Rattle.step_feed.specs.Pacing.{batch_at, units_of}
use Rattle.link_work.specs.Turn.{Orders}

-- From a turn on, and until another, the clock lines of a board are at most a turn behind its own ticks, and
-- less than four turns ahead.
pub record AreTracked (own : ℕ → ℕ) (clocks : Clocks) (ready : ℕ) : Type 0 where
  pub until : ℕ
  pub kept : AreKept clocks
  pub behind : (k : ℕ) → ready ≤ k → k ≤ until → own k ≤ lines_tick clocks ((k + 1) * turn_ns)
  pub ahead : (k : ℕ) → ready ≤ k → k ≤ until → lines_tick clocks (k * turn_ns) < own (k + 4)

-- sections one behind the other, each 260 turns or more after the end of the one before, or after a turn, and
-- all ending before another
abbrev pub AreInARow : ℕ → ℕ → List BoardSection → Type 0
AreInARow until turn [] = Unit {0}
AreInARow until turn (s ∷ ss) = (turn + 260 ≤ s.start) × (s.start ≤ s.end) × (s.end < until) × AreInARow until s.end ss

-- A control command of a run of moves: no step, direction or clock of a stepper; none is bound to a trigger, so that no
-- trigger halts one; and a stepper has one of a board's 256 numbers.
abbrev pub IsControl : Cmd → Type 0
IsControl (cmd.QueueStep oid interval count add) = ⊥
IsControl (cmd.SetNextStepDir oid dir) = ⊥
IsControl (cmd.ResetStepClock oid clock) = ⊥
IsControl (cmd.StepperStopOnTrigger oid other) = ⊥
IsControl (cmd.ConfigStepper oid step dir invert width) = oid < 256
IsControl _ = Unit {0}

-- what is queued in turns from a number on: control commands, and the units of the sections that are released
-- in the turn
abbrev pub AreOrdersOf : List BoardSection → ℕ → List Orders → Type 0
AreOrdersOf ss turn [] = Unit {0}
AreOrdersOf ss turn (o ∷ os) =
    All IsControl o.control.commands × (o.batch.units ≡ flat_map (λ s. batch_at turn s.releases) ss)
    × AreOrdersOf ss (turn + 1) os

-- a command makes a stepper
abbrev pub IsMaking : ℕ → Cmd → Type 0
IsMaking oid (cmd.ConfigStepper other step dir invert width) = other ≡ oid
IsMaking oid _ = ⊥

-- some commands make a stepper
abbrev pub Makes : ℕ → List Cmd → Type 0
Makes oid [] = ⊥
Makes oid (c ∷ cs) = IsMaking oid c ⊎ Makes oid cs

-- a stepper is made in some turns
abbrev pub MakesIn : ℕ → List Orders → Type 0
MakesIn oid [] = ⊥
MakesIn oid (o ∷ os) = Makes oid o.control.commands ⊎ MakesIn oid os

-- A board's part of a run: its own ticks and its clock lines, the sections, and what is queued turn by turn.
-- A stepper that has units is made before the boards are ready.
pub record IsBoardRun (own : ℕ → ℕ) (clocks : Clocks) (freq slots ready : ℕ) (ss : List BoardSection) (os : List Orders)
    : Type 0 where
  pub tracked : AreTracked own clocks ready
  pub sections : All (IsSection clocks freq slots) ss
  pub row : AreInARow tracked.until ready ss
  pub orders : AreOrdersOf ss 0 os
  pub made : ready ≤ length os → (oid : ℕ) →
      All (λ s. of_stepper oid (units_of s.releases) ≢ [] → MakesIn oid (take ready os)) ss
