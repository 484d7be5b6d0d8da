-- What a motion machine has seen and begun.
use Rattle.std.specs.Prelude.{◌≡◌, ◌⊎◌, ℕ, zero, suc, ◌+◌, ◌*◌, ◌^◌, ◌<◌, ◌≤◌, ◌==◌, Bool, true, false, All, List, [], ◌∷◌, ◌++◌, length, map, slice_index_or}
use Rattle.plan_types.specs.declared.machine.Machine.{Machine}
use Rattle.plan_types.specs.declared.plan.Section.{Section}
use Rattle.plan_types.specs.declared.plan.SectionKind.{SectionKind}
use Rattle.plan_types.specs.declared.plan.SectionKind.TheVariants.{Moves, Home}
use Rattle.plan_types.specs.Clock.{turn_ns}
use Rattle.plan_types.specs.Lines.{Clocks, lines_tick}
use Rattle.plan_types.specs.Machines.{board_at}
use Rattle.plan_types.specs.Plan.{max_error}
use Rattle.plan_types.specs.Sections.{clocks_at, section_end}
use Rattle.plan_types.specs.Valid.{IsValidLine}
use Rattle.section_feed.specs.Boards.{IsLasting}
use Rattle.section_units.specs.Sections.{BoardSection}
use Rattle.step_feed.specs.Pacing.{Release, batch_at}
use Rattle.motion_work.specs.Known.{lines_by}
use Rattle.motion_work.specs.Homes.{all_before, last_step, moving_in, no_end}
use Rattle.section_units.specs.Merged.{section_of}
use Rattle.section_units.specs.Plans.{AreOnBoards, AreOnBoardsBy, AreSentOn, AreSentToOn, plans_on}

-- A section that was begun: what the text says of it, the turns in which it starts and ends, and its units on
-- each board. Of a homing section also the turn of its last planned step, and which steppers move in it; its
-- end is `no_end` until it has an answer, and its units are those that are released before its end.
pub record Started : Type 0 where
  pub section : Section
  pub start : ℕ
  pub end : ℕ
  pub last : ℕ
  pub moving : ℕ
  pub boards : List (List Release)

-- it has no answer yet
abbrev pub waits : Started → Bool
waits s = s.end == no_end

-- a section of moves ends as its plan does, and its units on each board are those of its plan
pub record IsMoved (m : Machine) (clocks : List Clocks) (s : Started) : Type 0 where
  pub end : s.end ≡ section_end m clocks s.section.moves s.start
  pub known : s.end < no_end
  pub last : s.last ≡ 0
  pub moving : s.moving ≡ 0
  pub boards : AreOnBoards m clocks s.section.moves s.start s.boards

-- A homing section: the turn of its last step is that of its plan by the lines that hold by 17 turns behind
-- its start, which are those that were taken up when it was begun. Its units are those of its plan by the
-- lines that hold by 276 turns behind its end, which are those that were taken up by then, and none of them
-- sets a clock; where its end is known, they are those that are released before it, and end seven turns
-- before another line may hold, or earlier.
pub record IsHomed (m : Machine) (clocks : List Clocks) (s : Started) : Type 0 where
  pub late : s.start ≤ s.end
  pub last : s.last ≡ last_step m (map (lines_by (s.start + 17)) clocks) s.section.moves s.start
  pub soon : s.last < 2 ^ 61
  pub moving : s.moving ≡ moving_in m s.section.moves
  pub planned : List (List Release)
  pub are : AreOnBoardsBy true m (map (lines_by (s.end + 276)) clocks) s.section.moves s.start planned
  pub boards : ((s.end ≡ no_end) × (s.boards ≡ planned)) ⊎ ((s.end < no_end) × (s.boards ≡ all_before s.end planned))
  pub near : s.end < no_end → (b : ℕ) → b < length m.boards →
      All (λ r. r.unit.last + max_error (board_at m b).freq < lines_tick (clocks_at clocks b) ((s.end + 270) * turn_ns))
      (slice_index_or s.boards b [])

-- a section of a kind is planned
abbrev pub IsPlanned : SectionKind → Machine → List Clocks → Started → Type 0
IsPlanned Moves m clocks s = IsMoved m clocks s
IsPlanned (Home axis) m clocks s = IsHomed m clocks s

-- a section starts so many turns behind one, and is planned
pub record IsStarted (m : Machine) (clocks : List Clocks) (ready : ℕ) (s : Started) : Type 0 where
  pub start : s.start ≡ ready + s.section.dwell
  pub planned : IsPlanned s.section.kind m clocks s

-- sections one behind the other, each 260 turns after the end of the one before, and as many later as the
-- dwells before it have milliseconds
abbrev pub AreStarted : Machine → List Clocks → ℕ → List Started → Type 0
AreStarted m clocks ready [] = Unit {0}
AreStarted m clocks ready (s ∷ ss) = IsStarted m clocks ready s × AreStarted m clocks (s.end + 260) ss

-- the turn from which on the next section may start
abbrev pub ready_after : ℕ → List Started → ℕ
ready_after ready [] = ready
ready_after ready (s ∷ ss) = ready_after (s.end + 260) ss

-- sections that ended before a turn
abbrev pub AreDone : ℕ → List Started → Type 0
AreDone next [] = Unit {0}
AreDone next (s ∷ ss) = s.end < next × AreDone next ss

-- all sections ended before a turn, or all but the last
abbrev pub IsOpen : Bool → ℕ → List Started → Type 0
IsOpen false next begun = AreDone next begun
IsOpen true next begun =
    (past : List Started) × (s : Started) × (begun ≡ past ++ s ∷ []) × AreDone next past × (next ≤ s.end)
    × (s.start ≤ s.end)

-- a section ended by turn k, and none of its units on so many boards is released behind it
abbrev pub IsOut : ℕ → ℕ → Started → Type 0
IsOut boards k s = (s.end ≤ k) × ((b j : ℕ) → b < boards → k < j → batch_at j (slice_index_or s.boards b []) ≡ [])

-- so it is of the first ones of some sections, which are so many
abbrev pub AreOut : ℕ → ℕ → ℕ → List Started → Type 0
AreOut boards k zero begun = Unit {0}
AreOut boards k (suc n) [] = ⊥
AreOut boards k (suc n) (s ∷ begun) = IsOut boards k s × AreOut boards k n begun

-- the boards' clocks at the end of connecting, known before a turn
pub record AreClocks (m : Machine) (clocks : List Clocks) (ready : ℕ) : Type 0 where
  pub count : length clocks ≡ length m.boards
  pub valid : (b : ℕ) → b < length m.boards → IsValidLine (clocks_at clocks b).first
  pub alone : (b : ℕ) → b < length m.boards → (clocks_at clocks b).held ≡ []
  pub freq : (b : ℕ) → b < length m.boards → (clocks_at clocks b).first.freq ≡ (board_at m b).freq
  pub before : (b : ℕ) → b < length m.boards → (clocks_at clocks b).first.at ≤ ready * turn_ns

-- the boards' clocks with further lines behind the first ones, by which sections may go on
pub record AreBoardClocks (m : Machine) (clocks : List Clocks) (ready : ℕ) : Type 0 where
  pub count : length clocks ≡ length m.boards
  pub valid : (b : ℕ) → b < length m.boards → IsValidLine (clocks_at clocks b).first
  pub lasting : (b : ℕ) → b < length m.boards → (clocks_at clocks b).first.clock < 2 ^ 62 →
      IsLasting (clocks_at clocks b)
  pub freq : (b : ℕ) → b < length m.boards → (clocks_at clocks b).first.freq ≡ (board_at m b).freq
  pub before : (b : ℕ) → b < length m.boards → (clocks_at clocks b).first.at ≤ ready * turn_ns

-- the section that a board has of one that was begun
abbrev pub part_on : Machine → List Clocks → Started → ℕ → BoardSection
part_on m clocks s b =
    section_of s.start s.end (plans_on m clocks s.section.moves s.start b) (slice_index_or s.boards b [])

-- these sections are of moves, none homes
abbrev pub AreMoves : List Started → Type 0
AreMoves [] = Unit {0}
AreMoves (s ∷ begun) = (s.section.kind ≡ Moves) × AreMoves begun

-- The clock lines by which a section is planned that ends in a turn: where it homes those that hold by 276
-- turns behind it.
abbrev pub planning_lines : SectionKind → ℕ → List Clocks → List Clocks
planning_lines Moves end clocks = clocks
planning_lines (Home axis) end clocks = map (lines_by (end + 276)) clocks

-- the units of a section on each board are such as that is sent: in order, with triples that cover as many
-- steps as one can
abbrev pub IsSentOf : Machine → List Clocks → Started → Type 0
IsSentOf m clocks s =
    (b : ℕ) → b < length m.boards →
    AreSentOn m (planning_lines s.section.kind s.end clocks) s.section.moves s.start b (slice_index_or s.boards b [])

-- so they are in all of some sections
abbrev pub AreAllSent : Machine → List Clocks → List Started → Type 0
AreAllSent m clocks [] = Unit {0}
AreAllSent m clocks (s ∷ begun) = IsSentOf m clocks s × AreAllSent m clocks begun

-- so they are in all of some sections, as far as they are released before a turn
abbrev pub AreSentBy : Machine → List Clocks → ℕ → List Started → Type 0
AreSentBy m clocks next [] = Unit {0}
AreSentBy m clocks next (s ∷ begun) =
    ((b : ℕ) → b < length m.boards →
    AreSentToOn m (planning_lines s.section.kind s.end clocks) s.section.moves s.start b next
    (slice_index_or s.boards b []))
    × AreSentBy m clocks next begun
