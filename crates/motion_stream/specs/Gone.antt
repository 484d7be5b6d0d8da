-- A section's stream that goes on.
use Rattle.std.specs.Prelude.{◌≡◌, ℕ, ◌+◌, ◌^◌, Bool, true, false, not, List, [], ◌∷◌, ◌++◌, ◌<◌, ◌≤◌, ◌/◌, All, length, max, slice_index_or}
use Rattle.gcode_program.specs.declared.items.Item.{Item}
use Rattle.gcode_program.specs.declared.items.Item.TheVariants as items
use Rattle.gcode_program.specs.Items.{IsGood, ending, moves_in}
use Rattle.plan_types.specs.declared.machine.Machine.{Machine}
use Rattle.plan_types.specs.declared.plan.Move.{Move}
use Rattle.plan_types.specs.Lines.{Clocks}
use Rattle.section_feed.specs.declared.section.SectionStream.{SectionStream}
use Rattle.section_feed.specs.Going.{IsPackedTo}
use Rattle.section_feed.specs.On.{IsSectionOn}
use Rattle.section_feed.specs.Rests.{AreAllRested}
use Rattle.motion_stream.specs.declared.course.Course.{Course}
use Rattle.motion_stream.specs.declared.course.Open.{Open}
use Rattle.motion_stream.specs.declared.course.Open.TheVariants as opens
use Rattle.motion_stream.specs.Rows.{AreJoined}
use Rattle.plan_types.specs.Clock.{turn_ns}
use Rattle.motion_work.specs.Homes.{last_step, moving_in, no_end}
use Rattle.motion_work.specs.Seen.{AreBoardClocks}
use Rattle.motion_stream.specs.Courses.{IsStopped}
use Rattle.plan_types.specs.declared.plan.SectionKind.{SectionKind}
use Rattle.plan_types.specs.declared.plan.SectionKind.TheVariants.{Home, Moves}
use Rattle.plan_types.specs.Machines.{IsValidMachine}
use Rattle.plan_types.specs.Sections.{clocks_at, is_home}
use Rattle.section_feed.specs.AllBoards.{ArePast, AreReleased, latest_packed}
use Rattle.section_feed.specs.Queues.{IsDrawn, drawn_to, is_taking}
use Rattle.section_feed.specs.Sections.{IsLeft, boards_in, next_of, queue_of}
use Rattle.step_feed.specs.Pacing.{Release, at_turn}
use Rattle.step_feed.specs.Units.{StepUnit}

-- how many moves wait before anything else
abbrev pub moves_ahead : List Item → ℕ
moves_ahead [] = 0
moves_ahead (items.Move one ∷ rest) = 1 + moves_ahead rest
moves_ahead (other ∷ rest) = 0

-- a stream that took moves, of those that wait the first ones, and maybe the section's end behind them
pub record HasTaken (old new : SectionStream) (waiting left : List Item) : Type 0 where
  pub more : List Move
  pub ends : Bool
  pub items_are : waiting ≡ (moves_in more ++ ending ends) ++ left
  pub takes : is_taking (queue_of new) ≡ not ends
  pub on : (m : Machine) (clocks : List Clocks) (turn : ℕ) (homing : Bool) (moves : List Move)
      (released : ℕ → List Release) → IsSectionOn m clocks turn homing old moves released →
      IsSectionOn m clocks turn homing new (moves ++ more) released
  pub next : next_of new ≡ next_of old
  pub boards : boards_in new ≡ boards_in old

-- and none of its own is left
pub record HasTakenAll (old new : SectionStream) (waiting left : List Item) : Type 0 where
  pub taken : HasTaken old new waiting left
  pub stops : is_taking (queue_of new) ≡ true → IsStopped left

-- a stream that took what waits for it, if its end was not read
abbrev pub HasHeardBy : Bool → SectionStream → SectionStream → List Item → List Item → Type 0
HasHeardBy true old new waiting left = HasTakenAll old new waiting left
HasHeardBy false old new waiting left = (new ≡ old) × (left ≡ waiting)

-- a section took the moves that waited, where it still takes some
abbrev pub HasHeard : SectionStream → SectionStream → List Item → List Item → Type 0
HasHeard old new waiting left = HasHeardBy (is_taking (queue_of old)) old new waiting left

-- A section may be opened that starts in a turn on a machine whose boards have these lines, and takes what waits.
pub record MayOpen (m : Machine) (clocks : List Clocks) (start : ℕ) (waiting : List Item) : Type 0 where
  pub machine : IsValidMachine m
  pub boards : AreBoardClocks m clocks start
  pub early : (b : ℕ) → b < length m.boards → (clocks_at clocks b).first.clock < 2 ^ 62
  pub late : 250 ≤ start
  pub small : start < 2 ^ 42 + 260
  pub good : All IsGood waiting
  pub few : moves_ahead waiting ≤ 2_000_000

-- of one that homes all moves are there, and it is known when its last step is planned and which steppers move in it
abbrev pub TellsAs : SectionKind → Machine → List Clocks → ℕ → List Move → Bool → ℕ → ℕ → Type 0
TellsAs Moves m clocks start moves ends last moving = (last ≡ 0) × (moving ≡ 0)
TellsAs (Home axis) m clocks start moves ends last moving =
    (ends ≡ true) × (last ≡ last_step m clocks moves start) × (last < 2 ^ 61) × (moving ≡ moving_in m moves)

-- A section of a kind was opened that starts in a turn: of what waits it took moves, and maybe its end behind them.
pub record HasOpened (m : Machine) (clocks : List Clocks) (kind : SectionKind) (start : ℕ) (waiting left : List Item)
    (s : SectionStream) (last moving : ℕ) : Type 0 where
  pub moves : List Move
  pub ends : Bool
  pub items_are : waiting ≡ (moves_in moves ++ ending ends) ++ left
  pub takes : is_taking (queue_of s) ≡ not ends
  pub on : IsSectionOn m clocks start (is_home kind) s moves (λ b. [])
  pub next : next_of s + 250 ≡ start
  pub tells : TellsAs kind m clocks start moves ends last moving
  pub stops : is_taking (queue_of s) ≡ true → IsStopped left

-- the units that a board releases in some turns one behind the other, of which this is the first
abbrev pub released_in : ℕ → List (List (List StepUnit)) → ℕ → List Release
released_in turn [] b = []
released_in turn (row ∷ rows) b = at_turn turn (slice_index_or row b []) ++ released_in (turn + 1) rows b

-- a stream that gave these units, from the next turn on
pub record HasGivenRows (old new : SectionStream) (turn : ℕ) (rows : List (List (List StepUnit))) : Type 0 where
  pub on : (m : Machine) (clocks : List Clocks) (start : ℕ) (homing : Bool) (moves : List Move)
      (released : ℕ → List Release) → IsSectionOn m clocks start homing old moves released →
      IsSectionOn m clocks start homing new moves (λ b. released b ++ released_in turn rows b)
  pub takes : is_taking (queue_of new) ≡ is_taking (queue_of old)

-- all moves of a section came, all its steps are planned and all its units are given, and so the turn is
-- known in which it ends
pub record HasEnded (s : SectionStream) (end : ℕ) : Type 0 where
  pub drawn : IsDrawn (queue_of s)
  pub released : AreReleased (boards_in s)
  pub past : ArePast end (boards_in s)
  pub value : end ≡ max (drawn_to (queue_of s) / turn_ns) (latest_packed (boards_in s))
  pub small : end < no_end

-- a section behind a turn whose units it gave
pub record HasDrawn (old new : SectionStream) (k : ℕ) (own : List (List StepUnit)) : Type 0 where
  pub on : (m : Machine) (clocks : List Clocks) (start : ℕ) (homing : Bool) (moves : List Move)
      (released : ℕ → List Release) → IsSectionOn m clocks start homing old moves released →
      IsSectionOn m clocks start homing new moves (λ b. released b ++ at_turn k (slice_index_or own b []))
  pub takes : is_taking (queue_of new) ≡ is_taking (queue_of old)
  pub next : next_of new ≡ k + 1
  pub rested : AreAllRested (next_of new + 250) (boards_in new)

-- A section behind its next turn, whose units it gave, and whether its end is known then: then all its steps
-- are packed, and it doesn't home.
pub record HasOwn (homes : Bool) (old new : SectionStream) (own : List (List StepUnit)) (over : Bool) : Type 0 where
  pub drawn : HasDrawn old new (next_of old) own
  pub packed : All (IsPackedTo (next_of new + 251)) (boards_in new)
  pub left : over ≡ false → homes ≡ false → IsLeft new
  pub moves : over ≡ true → homes ≡ false
  pub past : over ≡ true → (e : ℕ) × IsDrawn (queue_of new) × ArePast e (boards_in new)

-- a section that goes on gives its next units in a turn
abbrev pub GivesIn : ℕ → Open → Type 0
GivesIn k opens.Nothing = Unit {0}
GivesIn k (opens.Goes s homes) = next_of s ≡ k

-- and that is a turn of a run
abbrev pub GivesSoon : Open → Type 0
GivesSoon opens.Nothing = Unit {0}
GivesSoon (opens.Goes s homes) = next_of s < 2 ^ 43

-- a section that goes on gave the units of its next turn
abbrev pub GivesOwn : List (List StepUnit) → Bool → Open → Open → Type 0
GivesOwn own over opens.Nothing new = ⊥
GivesOwn own over (opens.Goes s homes) new =
    (t : SectionStream) × (new ≡ opens.Goes t homes) × HasOwn homes s t own over

-- a section that goes on has ended, of which all steps were packed: its units wait behind those of the others
pub record HasEndedOpen (boards : ℕ) (old new : Course) (s : SectionStream) : Type 0 where
  pub last : SectionStream
  pub rows : List (List (List StepUnit))
  pub end : ℕ
  pub given : HasGivenRows s last old.next rows
  pub ended : HasEnded last end
  pub joined : AreJoined boards old.ahead.items rows new.ahead.items
  pub others : new ≡ record old { ready = end + 260; goes = true; current = opens.Nothing; ahead = new.ahead }

-- so has what goes on
abbrev pub EndsOpen : ℕ → Course → Open → Course → Type 0
EndsOpen boards old opens.Nothing new = ⊥
EndsOpen boards old (opens.Goes s homes) new = HasEndedOpen boards old new s
