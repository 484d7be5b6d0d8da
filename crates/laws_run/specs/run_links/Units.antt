-- What the planner of a run puts for a board: the units of the sections that were begun, batch by batch.
use Rattle.std.specs.Prelude.{◌≡◌, ℕ, ◌+◌, ◌<◌, ◌≤◌, false, true, List, [], ◌∷◌, map, slice_index_or}
use Rattle.msg_code.specs.declared.unit.Batch.{Batch}
use Rattle.plan_types.specs.declared.machine.Machine.{Machine}
use Rattle.plan_types.specs.declared.plan.SectionKind.{SectionKind}
use Rattle.plan_types.specs.declared.plan.SectionKind.TheVariants.{Moves, Home}
use Rattle.plan_types.specs.Lines.{Clocks}
use Rattle.section_units.specs.Plans.{AreSentToOn, IsOnBoardBy}
use Rattle.step_feed.specs.Pacing.{Release, batch_at}
use Rattle.motion_work.specs.Feeds.{units_at}
use Rattle.motion_work.specs.Homes.{no_end}
use Rattle.motion_work.specs.Known.{lines_by}
use Rattle.motion_work.specs.Seen.{Started, planning_lines}

-- Batch k of a board: it has the units that the sections which were begun release in turn k, one section
-- behind the other, up to the turn from which on nothing is sent any more. From then on it has none; and
-- before it, it doesn't say that nothing follows.
pub record IsBatchOf (b : ℕ) (begun : List Started) (sent k : ℕ) (x : Batch) : Type 0 where
  pub turn : x.turn ≡ k
  pub units : k < sent → x.units ≡ units_at b k (map (λ s. s.boards) begun)
  pub goes_on : k < sent → x.end ≡ false
  pub none : sent ≤ k → x.units ≡ []

-- so some batches, of which this is the first one's number
abbrev pub AreBatchesOf : ℕ → List Started → ℕ → ℕ → List Batch → Type 0
AreBatchesOf b begun sent k [] = Unit {0}
AreBatchesOf b begun sent k (x ∷ batches) = IsBatchOf b begun sent k x × AreBatchesOf b begun sent (k + 1) batches

-- the units of a section on a board, each with the turn in which it is released
abbrev pub units_on : ℕ → Started → List Release
units_on b s = slice_index_or s.boards b []

-- The units of a section that homes on a board: they are those of its plan, by the clock lines that were
-- taken up by its end, which mean one step for each planned step, and none sets a clock; but from the turn of
-- its answer on none is released.
pub record IsHomedOn (m : Machine) (clocks : List Clocks) (b : ℕ) (s : Started) : Type 0 where
  pub planned : List Release
  pub are : IsOnBoardBy true m (map (lines_by (s.end + 276)) clocks) s.section.moves s.start b planned
  pub before : (k : ℕ) → k < s.end → batch_at k (units_on b s) ≡ batch_at k planned
  pub none : (k : ℕ) → s.end < no_end → s.end ≤ k → batch_at k (units_on b s) ≡ []

-- The units of a section of a kind on a board: their ticks fit its plan, and they mean one step for each planned step.
abbrev pub IsPlannedOn : SectionKind → Machine → List Clocks → ℕ → Started → Type 0
IsPlannedOn Moves m clocks b s = IsOnBoardBy false m clocks s.section.moves s.start b (units_on b s)
IsPlannedOn (Home axis) m clocks b s = IsHomedOn m clocks b s

-- A section on a board of which units are released before a turn: they are those of its plan; and those that
-- are released before it stand in the order of their first ticks, and no longer triple exists.
pub record IsPartOn (m : Machine) (clocks : List Clocks) (sent b : ℕ) (s : Started) : Type 0 where
  pub planned : IsPlannedOn s.section.kind m clocks b s
  pub longest : AreSentToOn m (planning_lines s.section.kind s.end clocks) s.section.moves s.start b sent (units_on b s)
