-- What a motion machine has seen of a text that is read in pieces, and begun.
use Rattle.std.specs.Prelude.{◌≡◌, ℕ, ◌+◌, ◌*◌, ◌/◌, ◌<◌, ◌≤◌, Bool, false, not, List, [], ◌∷◌, ◌++◌, length, map, max, slice_index_or, Option, Some, None}
use Rattle.gcode_program.specs.declared.items.Item.{Item}
use Rattle.gcode_program.specs.declared.items.Item.TheVariants as items
use Rattle.gcode_program.specs.Items.{ending, items_of, moves_in}
use Rattle.gcode_program.specs.Readers.{section_with}
use Rattle.plan_types.specs.declared.machine.Machine.{Machine}
use Rattle.plan_types.specs.declared.plan.Move.{Move}
use Rattle.plan_types.specs.declared.plan.Section.{Section}
use Rattle.plan_types.specs.declared.plan.SectionKind.{SectionKind}
use Rattle.plan_types.specs.declared.plan.SectionKind.TheVariants.{Home, Moves}
use Rattle.plan_types.specs.Clock.{turn_ns}
use Rattle.plan_types.specs.Sections.{end_time}
use Rattle.plan_types.specs.Speeds.{greatest_speeds}
use Rattle.section_stream.specs.Looking.{IsFuture}
use Rattle.step_feed.specs.Pacing.{Release, batch_at}
use Rattle.motion_work.specs.Homes.{no_end}
use Rattle.motion_work.specs.declared.told.BoardLine.{BoardLine}
use Rattle.motion_work.specs.Seen.{Started}
use Rattle.motion_work.specs.Told.{Told}
use Rattle.motion_stream.specs.Texts.{MayBecome}

-- A section that was begun and whose end is not known: its kind, the dwells before it, the turn in which it
-- starts, its moves that were read, whether more may follow, of one that homes the turn of its last planned
-- step and which steppers move in it, and its units that were released on each board.
pub record Going : Type 0 where
  pub kind : SectionKind
  pub dwell : ℕ
  pub start : ℕ
  pub moves : List Move
  pub goes : Bool
  pub last : ℕ
  pub moving : ℕ
  pub released : ℕ → List Release

-- the text so far and whether it ended; whether it was told how it was read; what is known of connecting, and
-- the further clock lines of boards that words told since the last turn, once connecting had ended; the turn
-- whose batches are made next; the sections that were begun and are known whole; and the one behind them of
-- which the end is not known
pub record Seen : Type 0 where
  pub text : List ℕ
  pub ended : Bool
  pub read : Bool
  pub told : Option Told
  pub fresh : List BoardLine
  pub next : ℕ
  pub begun : List Started
  pub going : Option Going

-- before the first call nothing was seen
abbrev pub nothing_seen : Seen
nothing_seen =
    record { text = []; ended = false; read = false; told = None; fresh = []; next = 0; begun = []; going = None }

-- the sections of which some were begun
abbrev pub sections_in : List Started → List Section
sections_in begun = map (λ s. s.section) begun

-- what the text told of these sections
abbrev pub items_read : List Started → Option Going → List Item
items_read begun None = items_of (sections_in begun)
items_read begun (Some g) =
    items_of (sections_in begun) ++ (items.Begin g.kind g.dwell ∷ (moves_in g.moves ++ ending (not g.goes)))

-- how many were begun
abbrev pub count_of : List Started → Option Going → ℕ
count_of begun None = length begun
count_of begun (Some g) = length begun + 1

-- the turn in which the moves of a section end that starts in a turn; its last steps may come later
abbrev pub moves_end : Machine → List Move → ℕ → ℕ
moves_end m moves start = end_time m.cruise moves (greatest_speeds moves m.scv) (start * turn_ns) / turn_ns

-- A section of moves ends when they do or later, behind the next turn. One that homes ends in the next turn
-- or later, and not before it starts.
abbrev pub EndsBy : SectionKind → Machine → ℕ → Started → Type 0
EndsBy Moves m next s = (moves_end m s.section.moves s.start ≤ s.end) × (next < s.end) × (s.end < no_end)
EndsBy (Home axis) m next s = max next s.start ≤ s.end

-- A whole section that a section may become whose end is not known: it has the moves that were read and those
-- that may follow, it ends as one of its kind may, and what was released before the next turn is what it has
-- there. The boards' clock lines have no part in it, since more of them may come.
pub record IsContinued (m : Machine) (next : ℕ) (g : Going) (s : Started) : Type 0 where
  pub section : s.section ≡ section_with g.kind s.section.moves g.dwell
  pub moves : IsFuture g.goes g.moves s.section.moves
  pub start : s.start ≡ g.start
  pub ends : EndsBy g.kind m next s
  pub last : s.last ≡ g.last
  pub moving : s.moving ≡ g.moving
  pub same : (b k : ℕ) → b < length m.boards → k < next →
      batch_at k (slice_index_or s.boards b []) ≡ batch_at k (g.released b)

-- whole sections that those may become that were begun before a turn
abbrev pub AreWhole : Machine → Option Told → ℕ → List Started → Option Going → List Started → Type 0
AreWhole m told next begun None all = all ≡ begun
AreWhole m None next begun (Some g) all = ⊥
AreWhole m (Some t) next begun (Some g) all = (s : Started) × (all ≡ begun ++ s ∷ []) × IsContinued m next g s

-- a whole text, and whole sections of it, that what was seen may become
pub record MayBe (m : Machine) (seen : Seen) (whole : List ℕ) (all : List Started) : Type 0 where
  pub text : MayBecome seen.ended seen.text whole
  pub sections : AreWhole m seen.told seen.next seen.begun seen.going all
