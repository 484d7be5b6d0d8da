-- What a stream of moves knows of the speeds at the junctions.
use Rattle.std.specs.Prelude.{◌≡◌, ◌⊎◌, ℕ, zero, suc, ◌+◌, ◌-◌, ◌<◌, ◌≤◌, ◌*◌, ◌^◌, List, drop, take, map, length, min, max, slice_index, slice_index_or, ◌++◌}
use Rattle.std.specs.VecDeque.{deque_len, deque_capacity}
use Rattle.plan_types.specs.declared.plan.Move.{Move}
use Rattle.plan_types.specs.Numbers.{gap, least_of}
use Rattle.plan_types.specs.Speeds.{caps, places, allowed_by, speed_change, greatest_speeds}
use Rattle.lookahead.specs.declared.lows.Low.{Low}
use Rattle.lookahead.specs.Lows.{no_low}
use Rattle.lookahead.specs.declared.stream.LookStream.{LookStream}

-- the caps that are known of a section that may go on: that of its start, and all others but that of its end
abbrev pub known_caps : List Move → ℕ → List ℕ
known_caps moves scv = take (max 1 (length moves)) (caps moves scv)

-- the place of junction k
abbrev pub junction_place : List ℕ → ℕ → ℕ
junction_place changes k = slice_index (places 0 changes) k

-- the squared speed that these caps allow at junction k
abbrev pub speed_by : List ℕ → List ℕ → ℕ → ℕ
speed_by changes caps k = least_of (allowed_by caps (places 0 changes) (junction_place changes k))

-- the squared speed that the caps up to junction j allow there
unfoldable pub rise : List ℕ → List ℕ → ℕ → ℕ
rise changes caps zero = slice_index caps 0
rise changes caps (suc j) = min (slice_index caps (suc j)) (rise changes caps j + slice_index changes j)

-- how high a junction stands: its squared speed plus its place
abbrev pub height : List ℕ → List ℕ → ℕ → ℕ
height changes caps j = rise changes caps j + junction_place changes j

-- the least heights of junctions from one on, so many in all, each with the last junction that has it
pub record AreLows (heights : ℕ → ℕ) (count from : ℕ) (lows : List Low) : Type 0 where
  pub each_from : (e : ℕ) → e < length lows → from ≤ (slice_index_or lows e no_low).at
  pub each_to : (e : ℕ) → e < length lows → (slice_index_or lows e no_low).at < count
  pub each_is : (e : ℕ) → e < length lows →
      (slice_index_or lows e no_low).height ≡ heights ((slice_index_or lows e no_low).at)
  pub rising : (e f : ℕ) → e < f → f < length lows →
      (slice_index_or lows e no_low).height < (slice_index_or lows f no_low).height
  pub onward : (e f : ℕ) → e < f → f < length lows →
      (slice_index_or lows e no_low).at < (slice_index_or lows f no_low).at
  pub covered : (j : ℕ) → from ≤ j → j < count →
      (e : ℕ) × (e < length lows) × (j ≤ (slice_index_or lows e no_low).at)
      × ((slice_index_or lows e no_low).height ≤ heights j)

-- a stream to which these moves were pushed, and which knows these caps
pub record IsStreamOf (s : LookStream) (scv : ℕ) (moves : List Move) (caps : List ℕ) : Type 0 where
  pub scv_is : s.scv ≡ scv
  pub waiting : s.moves.items ≡ drop s.taken moves
  pub pushed_is : s.pushed ≡ length moves
  pub caps_count : length caps ≤ length moves + 1
  pub taken_inside : s.taken < length caps
  pub taken_within : s.taken ≤ length moves
  pub passed_is : s.passed ≡ junction_place (map speed_change moves) s.taken
  pub reach_is : s.reach ≡ junction_place (map speed_change moves) s.pushed
  pub start_is : s.start ≡ speed_by (map speed_change moves) caps s.taken
  pub reach_small : s.reach ≤ s.pushed * 2 ^ 105
  pub few : length moves ≤ 2_000_000
  pub start_final : s.start + s.passed ≤ s.reach
  pub lows : AreLows (height (map speed_change moves) caps) (length caps) (s.taken + 1) s.lows.items

-- a stream to which these moves were pushed, and to which more may be
pub record IsOpenStreamOf (s : LookStream) (scv : ℕ) (moves : List Move) : Type 0 where
  pub stream : IsStreamOf s scv moves (known_caps moves scv)
  pub risen_is : 0 < s.pushed →
      s.risen
      ≡ rise (map speed_change moves) (known_caps moves scv) (s.pushed - 1)
      + slice_index (map speed_change moves) (s.pushed - 1)
  pub not_yet : s.pushed ≡ 0 → s.risen ≡ 0
  pub room : 0 < s.pushed → deque_len s.lows < deque_capacity s.lows

-- a stream to which these moves were pushed, and no more will be
abbrev pub IsEndedStreamOf : LookStream → ℕ → List Move → Type 0
IsEndedStreamOf s scv moves = IsStreamOf s scv moves (caps moves scv)

-- how many moves were taken out
abbrev pub settled_count : LookStream → ℕ
settled_count s = s.taken

-- the greatest squared speed at junction k of a section
abbrev pub speed_at : List Move → ℕ → ℕ → ℕ
speed_at moves scv k = slice_index (greatest_speeds moves scv) k

-- the greatest squared speed at junction k is this one, whatever moves follow
abbrev pub IsFinalSpeed : List Move → ℕ → ℕ → ℕ → Type 0
IsFinalSpeed moves scv k speed = (more : List Move) → speed_at (moves ++ more) scv k ≡ speed

-- The next move can't be given yet: there is none, or the cap at its end is not known, or the section would have to be
-- slower there, should it end behind the last move.
abbrev pub IsOpenEnd : List Move → ℕ → ℕ → Type 0
IsOpenEnd moves scv count =
    (length moves ≤ count + 1)
    ⊎ (speed_at moves scv (count + 1) < speed_by (map speed_change moves) (known_caps moves scv) (count + 1))
