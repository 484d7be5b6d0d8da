-- Sections that can be run, action by action.
use Rattle.std.specs.Prelude.{◌⊎◌, ℕ, ◌+◌, ◌*◌, ◌<◌, ◌≤◌, All, List, length}
use Rattle.plan_types.specs.declared.plan.Move.{Move}
use Rattle.plan_types.specs.declared.plan.Section.{Section}
use Rattle.plan_types.specs.Sections.{IsReachable, turns_of_move, turns_needed}
use Rattle.plan_types.specs.Valid.{IsValidMove}

-- a move between places within half a metre of the origin, or one of at most 1.5 m
abbrev pub IsShortOrNear : Move → Type 0
IsShortOrNear m = IsReachable m ⊎ (m.d ≤ 1_500_000_000)

-- sections that can be planned, those that home among them: their moves are valid and near, and they are not
-- too long together
pub record ArePlannable (sections : List Section) : Type 0 where
  pub some : All (λ s. 0 < length s.moves) sections
  pub valid : All (λ s. All IsValidMove s.moves) sections
  pub near : All (λ s. All IsShortOrNear s.moves) sections
  pub few : All (λ s. length s.moves ≤ 2_000_000) sections
  pub soon : turns_needed sections ≤ 2_000_000 * (turns_of_move + 260)

-- a section that can be run alone
pub record IsRunnable (s : Section) : Type 0 where
  pub some : 0 < length s.moves
  pub valid : All IsValidMove s.moves
  pub near : All IsShortOrNear s.moves
  pub few : length s.moves ≤ 2_000_000

-- the turns that so many actions may take at most
abbrev pub turns_of : ℕ → ℕ
turns_of count = count * (turns_of_move + 260)

-- sections that are ended, the moves of the one that is open, and the dwells before it, as so many actions make them
pub record AreSectionsHeld (sections : List Section) (moves : List Move) (dwell count : ℕ) : Type 0 where
  pub ended : All IsRunnable sections
  pub valid : All IsValidMove moves
  pub reachable : All IsReachable moves
  pub soon : turns_needed sections + dwell + turns_of (length moves) ≤ turns_of count
  pub few : count ≤ 2_000_000
