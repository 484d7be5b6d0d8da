-- Where a motion machine is, by what it has seen.
use Rattle.std.specs.Prelude.{◌≡◌, ℕ, ◌+◌, ◌-◌, ◌^◌, ◌<◌, ◌≤◌, Bool, true, false, List, [], ◌∷◌, length, map, max, slice_index_or, Option, Some, None}
use Rattle.gcode_program.specs.declared.items.Item.{Item}
use Rattle.gcode_program.specs.declared.items.Item.TheVariants as items
use Rattle.plan_types.specs.declared.machine.Machine.{Machine}
use Rattle.plan_types.specs.declared.plan.Move.{Move}
use Rattle.plan_types.specs.declared.plan.ReadEnd.{ReadEnd}
use Rattle.plan_types.specs.declared.plan.SectionKind.{SectionKind}
use Rattle.plan_types.specs.declared.plan.SectionKind.TheVariants.{Home, Moves}
use Rattle.plan_types.specs.Lines.{Clocks}
use Rattle.plan_types.specs.Machines.{IsValidMachine}
use Rattle.plan_types.specs.Sections.{clocks_at, for_each_stepper, latest, section_end, stepper_end, is_home}
use Rattle.section_feed.specs.declared.section.SectionStream.{SectionStream}
use Rattle.section_feed.specs.On.{IsSectionOn}
use Rattle.section_feed.specs.Queues.{is_taking}
use Rattle.section_feed.specs.Rests.{AreAllRested}
use Rattle.section_feed.specs.Sections.{boards_in, next_of, queue_of}
use Rattle.section_stream.specs.Looking.{IsFuture}
use Rattle.section_units.specs.Sections.{AreBefore}
use Rattle.step_feed.specs.Units.{StepUnit}
use Rattle.motion_work.specs.Feeds.{units_at}
use Rattle.motion_work.specs.Homes.{last_step, moving_in}
use Rattle.motion_work.specs.declared.told.BoardLine.{BoardLine}
use Rattle.motion_work.specs.Known.{AreHeldBy, lines_by}
use Rattle.motion_work.specs.Seen.{AreAllSent, AreBoardClocks, AreDone, AreStarted, IsOpen, Started, ready_after}
use Rattle.motion_work.specs.Told.{Told}
use Rattle.motion_stream.specs.declared.course.Course.{Course}
use Rattle.motion_stream.specs.declared.course.Open.{Open}
use Rattle.motion_stream.specs.declared.course.Open.TheVariants as opens
use Rattle.motion_stream.specs.Seen.{Going, Seen, count_of, items_read}
use Rattle.motion_stream.specs.Texts.{IsSourceOf}

-- the units of a board in a turn, of some turns one behind the other
abbrev pub row_at : List (List (List StepUnit)) → ℕ → ℕ → List StepUnit
row_at rows i b = slice_index_or (slice_index_or rows i []) b []

-- the units that sections release from a turn on
pub record AreAhead (m : Machine) (rows : List (List (List StepUnit))) (next : ℕ) (begun : List Started) : Type 0 where
  pub units : (i b : ℕ) → b < length m.boards → units_at b (next + i) (map (λ s. s.boards) begun) ≡ row_at rows i b

-- no section goes on whose end is not known
pub record IsIdle (m : Machine) (c : Course) (begun : List Started) (going : Option Going) : Type 0 where
  pub none : going ≡ None
  pub goes : IsOpen c.goes c.next begun
  pub ahead : AreAhead m c.ahead.items c.next begun

-- A section of moves goes on: whatever moves follow, it ends behind the next turn.
pub record MovesOn (m : Machine) (clocks : List Clocks) (next : ℕ) (g : Going) : Type 0 where
  pub late : (all : List Move) → IsFuture g.goes g.moves all → next + 1 ≤ section_end m clocks all g.start
  pub last : g.last ≡ 0
  pub moving : g.moving ≡ 0

-- A section that homes goes on: it has all its moves, and it is known in which turn its last step is planned
-- by the lines that were taken up when it was begun.
pub record HomesOn (m : Machine) (clocks : List Clocks) (g : Going) : Type 0 where
  pub whole : g.goes ≡ false
  pub last : g.last ≡ last_step m (map (lines_by (g.start + 17)) clocks) g.moves g.start
  pub soon : g.last < 2 ^ 61
  pub moving : g.moving ≡ moving_in m g.moves

-- so does one of a kind
abbrev pub GoesAs : SectionKind → Machine → List Clocks → ℕ → Going → Type 0
GoesAs Moves m clocks next g = MovesOn m clocks next g
GoesAs (Home axis) m clocks next g = HomesOn m clocks g

-- A section goes on, whose stream has given what was released, and gives the next units in the next turn, or
-- 250 turns before the section starts.
pub record IsGoingOn (m : Machine) (s : SectionStream) (homes : Bool) (c : Course) (told : Option Told)
    (begun : List Started) (going : Option Going) : Type 0 where
  pub g : Going
  pub is : going ≡ Some g
  pub homes_is : homes ≡ is_home g.kind
  pub t : Told
  pub told_is : told ≡ Some t
  pub on : IsSectionOn m t.clocks g.start homes s g.moves g.released
  pub start : g.start ≡ ready_after t.first begun + g.dwell
  pub start_is : c.start ≡ g.start
  pub soon : g.start < c.next + 260
  pub takes : is_taking (queue_of s) ≡ g.goes
  pub next : next_of s ≡ max c.next (g.start - 250)
  pub done : AreDone c.next begun
  pub goes_as : GoesAs g.kind m t.clocks c.next g
  pub fresh : c.next + 250 ≤ g.start → (b : ℕ) → g.released b ≡ []
  pub rested : g.start < c.next + 250 → AreAllRested (next_of s + 250) (boards_in s)
  pub before : (b : ℕ) → AreBefore c.next (g.released b)
  pub ahead : AreAhead m c.ahead.items c.next begun

-- what goes on
abbrev pub IsGoing : Machine → Open → Course → Option Told → List Started → Option Going → Type 0
IsGoing m opens.Nothing c told begun going = IsIdle m c begun going
IsGoing m (opens.Goes s homes) c told begun going = IsGoingOn m s homes c told begun going

-- A section of moves starts in a turn or an earlier one, and so its last step is planned; one that homes
-- ended 268 turns before it, or earlier. And so of some sections.
abbrev pub IsLaid : SectionKind → Machine → List Clocks → ℕ → Started → Type 0
IsLaid Moves m clocks low s =
    (s.start ≤ low) × (latest (for_each_stepper m (stepper_end m clocks s.section.moves s.start)) ≤ low)
IsLaid (Home axis) m clocks low s = s.end + 268 ≤ low

-- so all sections that were begun
abbrev pub AreLaid : Machine → List Clocks → ℕ → List Started → Type 0
AreLaid m clocks low [] = Unit {0}
AreLaid m clocks low (s ∷ begun) = IsLaid s.section.kind m clocks low s × AreLaid m clocks low begun

-- what is known where connecting ended
pub record IsConnected (m : Machine) (c : Course) (t : Told) (begun : List Started) (going : Option Going)
    : Type 0 where
  pub connected : c.connected ≡ true
  pub lines : c.lines.each.items ≡ t.clocks
  pub ready : going ≡ None → c.ready ≡ ready_after t.first begun
  pub started : ∥ AreStarted m t.clocks t.first begun ∥₁
  pub sent : ∥ AreAllSent m t.clocks begun ∥₁
  pub clocks : AreBoardClocks m t.clocks t.first
  pub laid : AreLaid m t.clocks (c.next + 268) begun
  pub first : 1_260 ≤ t.first
  pub late : t.first ≤ ready_after t.first begun

-- what a machine knows of connecting, and the sections that it begun
abbrev pub KnowsConnecting : Machine → Course → Option Told → List Started → Option Going → Type 0
KnowsConnecting m c None begun going = (c.connected ≡ false) × (begun ≡ []) × (going ≡ None)
KnowsConnecting m c (Some t) begun going = IsConnected m c t begun going

-- The next section does not start before a turn: before one where it has begun in the text, and before
-- another where it has not, and still may.
abbrev pub IsLater : ℕ → ℕ → ℕ → Option ReadEnd → List Item → Type 0
IsLater turn free ready None [] = free ≤ ready
IsLater turn free ready (Some e) [] = Unit {0}
IsLater turn free ready end (items.Begin kind dwell ∷ rest) = turn ≤ ready + dwell
IsLater turn free ready end (other ∷ rest) = Unit {0}

-- what waits of the text is not a section's own: nothing, or the next section
abbrev pub IsStopped : List Item → Type 0
IsStopped [] = Unit {0}
IsStopped (items.Begin kind dwell ∷ rest) = Unit {0}
IsStopped (other ∷ rest) = ⊥

-- So it is where no section goes on. One that goes on, and may have more moves, has taken all of its own that was read.
abbrev pub BeginsNoEarlier : Open → ℕ → ℕ → Course → Type 0
BeginsNoEarlier opens.Nothing turn free c = c.connected ≡ true →
    IsLater turn free c.ready c.source.end c.source.items.items
BeginsNoEarlier (opens.Goes s homes) turn free c = is_taking (queue_of s) ≡ true → IsStopped c.source.items.items

-- The further lines that wait are those that words told since the last turn; none waits before connecting
-- ended; and each that was taken up holds by 16 turns behind another.
pub record IsUptake (c : Course) (free : ℕ) (fresh : List BoardLine) : Type 0 where
  pub waiting : c.lines.waiting.items ≡ fresh
  pub none : c.connected ≡ false → fresh ≡ []
  pub held : (b : ℕ) → b < length c.lines.each.items → AreHeldBy (free + 16) (clocks_at c.lines.each.items b).held

-- a machine has seen this, and the next section that it begins starts in a turn or later
pub record IsCourseBy (m : Machine) (c : Course) (seen : Seen) (turn free : ℕ) : Type 0 where
  pub machine : IsValidMachine m
  pub source : IsSourceOf m c.source seen.text seen.ended (items_read seen.begun seen.going)
  pub read : c.read ≡ seen.read
  pub told : KnowsConnecting m c seen.told seen.begun seen.going
  pub next : c.next ≡ seen.next
  pub small : c.next ≤ 2 ^ 42
  pub place : c.place ≡ count_of seen.begun seen.going
  pub few : c.place + 260 ≤ turn
  pub going : IsGoing m c.current c seen.told seen.begun seen.going
  pub early : BeginsNoEarlier c.current turn free c
  pub uptake : IsUptake c free seen.fresh

-- a machine has seen this
abbrev pub IsCourseOf : Machine → Course → Seen → Type 0
IsCourseOf m c seen = IsCourseBy m c seen (c.next + 260) (c.next + 260)

-- there is what it has seen
pub record IsSoundCourse (m : Machine) (c : Course) : Type 0 where
  pub seen : Seen
  pub is : IsCourseOf m c seen

-- so there is before turn k, where the lines were taken up that may be
pub record IsSoundBy (m : Machine) (c : Course) (k : ℕ) : Type 0 where
  pub seen : Seen
  pub is : IsCourseBy m c seen (k + 260) (k + 261)
