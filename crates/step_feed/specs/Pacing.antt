-- How the units of a board are spread over the turns: each in the first turn in which there is room for it, not long
-- before it is due and not before the unit that stands before it.
use Rattle.std.specs.Prelude.{ℕ, ◌+◌, ◌-◌, ◌==◌, ◌<◌, ◌≤◌, List, [], ◌∷◌, nat_lt, if◌then◌else◌}
use Rattle.plan_types.specs.Lines.{Clocks, lines_turn}
use Rattle.step_feed.specs.Units.{StepUnit, unit_bytes}

-- a unit and the turn in which it is released
pub record Release : Type 0 where
  pub unit : StepUnit
  pub turn : ℕ

-- by how many turns a unit may be released before it is due
abbrev pub lead : ℕ
lead = 250

-- how many bytes the units of a turn may have
abbrev pub turn_bytes : ℕ
turn_bytes = 210

-- no unit is due, and no steps are over, in a turn from this one on
abbrev pub turn_limit : ℕ
turn_limit = 17_800_000_000_000_000_000

-- the bytes of the units that are released in a turn
abbrev pub bytes_in : ℕ → List Release → ℕ
bytes_in k [] = 0
bytes_in k (r ∷ rs) = (if r.turn == k then unit_bytes r.unit else 0) + bytes_in k rs

-- the turn from which on the steps up to a tick count as made
abbrev pub over_turn : Clocks → ℕ → ℕ
over_turn clocks last = lines_turn clocks last + 5

-- 1 where the steps up to a tick aren't over in a turn
abbrev pub one_pending : Clocks → ℕ → ℕ → ℕ
one_pending clocks k last = if nat_lt k (over_turn clocks last) then 1 else 0

-- how many units of a stepper are released and not yet over in a turn
abbrev pub pending : Clocks → ℕ → ℕ → List Release → ℕ
pending clocks s k [] = 0
pending clocks s k (r ∷ rs) =
    (if r.unit.stepper == s then one_pending clocks k r.unit.last else 0) + pending clocks s k rs

-- in a turn there is room for a unit behind others
pub record HasRoom (clocks : Clocks) (slots : ℕ) (before : List Release) (u : StepUnit) (k : ℕ) : Type 0 where
  pub due : u.due ≤ k + lead
  pub bytes : bytes_in k before + unit_bytes u ≤ turn_bytes
  pub steps : pending clocks u.stepper k before < slots

-- a unit is released in the first turn, from one on, in which there is room for it
pub record IsReleased (clocks : Clocks) (slots from : ℕ) (before : List Release) (r : Release) : Type 0 where
  pub after : from ≤ r.turn
  pub room : HasRoom clocks slots before r.unit r.turn
  pub first : (k : ℕ) → from ≤ k → HasRoom clocks slots before r.unit k → r.turn ≤ k

-- the releases of units from a turn on, behind others, of which the last stands first
abbrev pub ArePaced : Clocks → ℕ → ℕ → List Release → List Release → Type 0
ArePaced clocks slots from before [] = Unit {0}
ArePaced clocks slots from before (r ∷ rs) =
    IsReleased clocks slots from before r × ArePaced clocks slots r.turn (r ∷ before) rs

-- the units of some releases
abbrev pub units_of : List Release → List StepUnit
units_of [] = []
units_of (r ∷ rs) = r.unit ∷ units_of rs

-- the units that are released in a turn
abbrev pub batch_at : ℕ → List Release → List StepUnit
batch_at k [] = []
batch_at k (r ∷ rs) = if r.turn == k then r.unit ∷ batch_at k rs else batch_at k rs

-- units that are released in one turn
abbrev pub at_turn : ℕ → List StepUnit → List Release
at_turn k [] = []
at_turn k (u ∷ us) = record { unit = u; turn = k } ∷ at_turn k us

-- by how many turns a unit that is released in a turn is behind the first one that it may have
abbrev pub spill_of : ℕ → ℕ → ℕ
spill_of turn due = turn + lead - due

-- units and their turns, place by place
abbrev pub releases : List StepUnit → List ℕ → List Release
releases [] turns = []
releases (u ∷ us) [] = []
releases (u ∷ us) (k ∷ turns) = record { unit = u; turn = k } ∷ releases us turns
