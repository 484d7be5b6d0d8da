-- What a stream of units has released, and what it still has.
use Rattle.std.specs.Prelude.{◌≡◌, ℕ, ◌+◌, ◌==◌, ◌<◌, ◌≤◌, List, [], ◌∷◌, ◌++◌, length, slice_index_or, if◌then◌else◌}
use Rattle.plan_types.specs.Lines.{Clocks}
use Rattle.step_feed.specs.declared.ring.Ring.{Ring}
use Rattle.step_feed.specs.Units.{StepUnit}
use Rattle.step_feed.specs.Pacing.{Release, ArePaced, HasRoom, bytes_in, turn_bytes, units_of}
use Rattle.step_feed.specs.Rings.{count_from, made_before, one_from}

-- releases behind others, the last one first
abbrev pub releases_behind : List Release → List Release → List Release
releases_behind before [] = before
releases_behind before (r ∷ rs) = releases_behind (r ∷ before) rs

-- the turn of the last release, or one before them all
abbrev pub last_release : ℕ → List Release → ℕ
last_release from [] = from
last_release from (r ∷ rs) = last_release r.turn rs

-- empty rings were added behind others, and all have so many slots
pub record AreGrown (slots : ℕ) (old new : List Ring) : Type 0 where
  pub longer : length old ≤ length new
  pub same : (s : ℕ) (d : Ring) → s < length old → slice_index_or new s d ≡ slice_index_or old s d
  pub empty : (s : ℕ) (d : Ring) → length old ≤ s → s < length new → (slice_index_or new s d).ends.items ≡ []
  pub slots_are : (s : ℕ) (d : Ring) → s < length new → (slice_index_or new s d).slots ≡ slots

-- how many units of a stepper have a last tick that is at least a tick
abbrev pub lasts_from : ℕ → ℕ → List Release → ℕ
lasts_from x s [] = 0
lasts_from x s (r ∷ rs) = (if r.unit.stepper == s then one_from x r.unit.last else 0) + lasts_from x s rs

-- the rings hold the last ticks of the units that are released and not over in a turn
pub record AreRings (clocks : Clocks) (next : ℕ) (rings : List Ring) (before : List Release) : Type 0 where
  pub held : (s x : ℕ) (d : Ring) → s < length rings → made_before clocks next ≤ x →
      count_from x (slice_index_or rings s d).ends.items ≡ lasts_from x s before
  pub others : (s x : ℕ) → length rings ≤ s → made_before clocks next ≤ x → lasts_from x s before ≡ 0

-- there is no room for the first of some units before a turn
abbrev pub IsNoSooner : Clocks → ℕ → ℕ → ℕ → List Release → List StepUnit → Type 0
IsNoSooner clocks slots next from before [] = Unit {0}
IsNoSooner clocks slots next from before (u ∷ us) = (k : ℕ) → from ≤ k → HasRoom clocks slots before u k → next ≤ k

-- there is no room for the first of some units in a turn
abbrev pub IsStuck : Clocks → ℕ → ℕ → List Release → List StepUnit → Type 0
IsStuck clocks slots next before [] = Unit {0}
IsStuck clocks slots next before (u ∷ us) = HasRoom clocks slots before u next → ⊥

-- Of the units that were pushed, the first ones were released, up to a turn, of whose bytes some are used;
-- the others wait.
pub record IsFed (clocks : Clocks) (slots next used : ℕ) (rings : List Ring) (waiting : List StepUnit) (from : ℕ)
    (pushed : List StepUnit) (released : List Release) : Type 0 where
  pub pushed_is : pushed ≡ units_of released ++ waiting
  pub paced : ArePaced clocks slots from [] released
  pub past : last_release from released ≤ next
  pub used_is : used ≡ bytes_in next (releases_behind [] released)
  pub later : (k : ℕ) → next < k → bytes_in k (releases_behind [] released) ≡ 0
  pub rings_are : AreRings clocks next rings (releases_behind [] released)
  pub no_sooner : IsNoSooner clocks slots next (last_release from released) (releases_behind [] released) waiting

-- the first turn, from one on, that has room for some bytes, where so many are used in the turn next and none
-- in a later one
pub record IsFitting (next turn used bytes found rest : ℕ) : Type 0 where
  pub after : turn ≤ found
  pub same : found ≡ next → rest ≡ used
  pub fresh : next < found → rest ≡ 0
  pub room : rest + bytes ≤ turn_bytes
  pub first : turn < found → (turn ≡ next) × (found ≡ next + 1) × (turn_bytes < used + bytes)
