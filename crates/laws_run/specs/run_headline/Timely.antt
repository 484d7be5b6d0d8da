-- When no line of a whole run holds a command for long, and what the report then shows.
use Rattle.std.specs.Prelude.{◌≡◌, ◌≢◌, ◌⊎◌, ℕ, ◌+◌, ◌^◌, ◌<◌, ◌≤◌, true, All, List, [], ◌∷◌, ◌++◌, Option, None, Some, length, map, take}
use Rattle.gcode_program.specs.Programs.{program_end, program_sections}
use Rattle.plan_types.specs.declared.cause.Cause.{Cause}
use Rattle.plan_types.specs.declared.machine.Machine.{Machine}
use Rattle.plan_types.specs.declared.plan.Section.{Section}
use Rattle.plan_types.specs.declared.plan.SectionKind.TheVariants.{Moves}
use Rattle.plan_types.specs.Clock.{clock_of}
use Rattle.plan_types.specs.declared.plan.Held.{Held}
use Rattle.plan_types.specs.Lines.{Clocks, one_line}
use Rattle.clock_line.specs.Fits.{may_hold}
use Rattle.clock_line.specs.Kept.{AreKept, added}
use Rattle.plan_types.specs.Machines.{board_at}
use Rattle.plan_types.specs.Sections.{clocks_at}
use Rattle.wire_scene.specs.declared.scene.Scene.{Scene}
use Rattle.link_work.specs.Ends.{spoiled}
use Rattle.link_work.specs.Stands.{first_state}
use Rattle.link_work.specs.Switches.{pins_of}
use Rattle.link_work.specs.Turn.{LinkState}
use Rattle.host_reactor.specs.Running.{text_end}
use Rattle.motion_work.specs.Seen.{AreBoardClocks}
use Rattle.motion_work.specs.Told.{Told}
use Rattle.laws_board.specs.turns.Turns.{stands_after}
use Rattle.session_work.specs.declared.table.MotionTurn.{MotionTurn}
use Rattle.session_work.specs.declared.table.ReactorTurn.{ReactorTurn}
use Rattle.laws_board.specs.orders.Renewed.{NoneBefore}
use Rattle.laws_board.specs.sections.Links.{ends_of, steps_of, turns_told}
use Rattle.laws_board.specs.sections.Timely.{AllTimely}
use Rattle.board_world.specs.World.{new_world}
use Rattle.laws_run.specs.lanes.Boards.{IsInWhole, turns_behind, orders_of, states_of}
use Rattle.laws_board.specs.plans.Planned.{Plans, PlannerInput}
use Rattle.session_work.specs.Rows.{gather}
use Rattle.laws_run.specs.run_ends.Boards.{boards_of, lines_at}
use Rattle.laws_run.specs.run_headline.Near.{FollowsClock}

-- the link of a board of a scene, before turn 0
abbrev pub link_of : Machine → Scene → ℕ → LinkState
link_of m s b = first_state (board_at m b) (pins_of (board_at m b) b s.switches) b s.entries

-- A board in a whole run holds nothing long: the scene has no entries, or no busy stretch of its link has
-- more than 10,000 spoiled turns.
pub record HoldsLittle (m : Machine) (s : Scene) (b : ℕ) (planned : List MotionTurn) (first : ReactorTurn)
    (rest : List ReactorTurn)
    (w : IsInWhole m s.switches b (clock_of (board_at m b)) (link_of m s b) planned first rest) : Type 0 where
  pub few : (s.entries ≡ [])
      ⊎ ((k : ℕ) →
      spoiled (take k (ends_of (clock_of (board_at m b)) 0 (orders_of w.made) (link_of m s b)
      (stands_after (link_of m s b) (turns_behind [] w.made)) (turns_told (clock_of (board_at m b)) 0 (orders_of w.made)
      (states_of w.made) (link_of m s b) (stands_after (link_of m s b) (turns_behind [] w.made)) w.told))) ≤ 10_000)

-- A board in a whole run is timely: while it runs it takes no unit half a round of its 32-bit clock, 2^31
-- ticks, or more after the unit's first tick.
abbrev pub IsTimelyIn : (m : Machine) (s : Scene) (b : ℕ) (planned : List MotionTurn) (first : ReactorTurn)
    (rest : List ReactorTurn)
    (w : IsInWhole m s.switches b (clock_of (board_at m b)) (link_of m s b) planned first rest) → Type 0
IsTimelyIn m s b planned first rest w =
    AllTimely (new_world (board_at m b) (pins_of (board_at m b) b s.switches))
    (steps_of (clock_of (board_at m b)) 0 (orders_of w.made) (link_of m s b)
    (stands_after (link_of m s b) (turns_behind [] w.made))
    (turns_told (clock_of (board_at m b)) 0 (orders_of w.made) (states_of w.made) (link_of m s b)
    (stands_after (link_of m s b) (turns_behind [] w.made)) w.told))

-- so each board of a whole run of a text in which a section was begun, by the turns of the planner and of the reactor
abbrev pub AllAreTimely : Machine → Scene → List ℕ → List MotionTurn → List ReactorTurn → Type 0
AllAreTimely m s text planned [] = Unit {0}
AllAreTimely m s text planned (first ∷ rest) =
    (p : Plans m (length m.boards) planned) (b : ℕ) → p.seen.text ≡ text → p.seen.begun ≢ [] → b < length m.boards →
    (w : IsInWhole m s.switches b (clock_of (board_at m b)) (link_of m s b) planned first rest) →
    IsTimelyIn m s b planned first rest w

-- so each board of a whole run of a text, of which the planner made all turns, holds nothing long
abbrev pub HoldsNothingLong : Machine → Scene → List ℕ → List MotionTurn → List ReactorTurn → Type 0
HoldsNothingLong m s text planned [] = Unit {0}
HoldsNothingLong m s text planned (first ∷ rest) =
    (p : Plans m (length m.boards) planned) (t : Told) (b : ℕ) → p.seen.text ≡ text → p.seen.told ≡ Some t →
    b < length m.boards → length rest ≤ length p.made →
    (w : IsInWhole m s.switches b (clock_of (board_at m b)) (link_of m s b) planned first rest) →
    HoldsLittle m s b planned first rest w

-- the sections of a text are of moves
abbrev pub AreOfMoves : List Section → Type 0
AreOfMoves sections = All (λ s. s.kind ≡ Moves) sections

-- the boards' clock lines, as the planner heard them
abbrev pub AreHeard : List Clocks → PlannerInput → Type 0
AreHeard clocks seen = (t : Told) → seen.told ≡ Some t → t.clocks ≡ clocks

-- each of some further lines may hold behind those of a board and the ones before it
abbrev pub EachMayHold : Clocks → List Held → Type 0
EachMayHold clocks [] = Unit {0}
EachMayHold clocks (h ∷ held) = (may_hold clocks h.from h.line ≡ true) × EachMayHold (added clocks h.from h.line) held

-- The clock lines of all boards are sound: valid, of the boards' frequencies and from before the turn from
-- which on the first section may start, which is turn 1,260 or later; the further ones hold one after the
-- other, from that turn on or later. Each is that of a sample of its board's clock, and no further from it
-- than that.
pub record AreSound (m : Machine) (clocks : List Clocks) (ready : ℕ) : Type 0 where
  pub clocks_are : AreBoardClocks m clocks ready
  pub kept : (b : ℕ) → b < length m.boards → AreKept (clocks_at clocks b)
  pub may : (b : ℕ) → b < length m.boards → EachMayHold (one_line (clocks_at clocks b).first) (clocks_at clocks b).held
  pub behind : (b : ℕ) → b < length m.boards → NoneBefore ready (clocks_at clocks b).held
  pub late : 1_260 ≤ ready
  pub small : ready < 2 ^ 62
  pub near : (b : ℕ) → b < length m.boards → FollowsClock (clock_of (board_at m b)) (clocks_at clocks b).first
  pub all_near : (b : ℕ) → b < length m.boards →
      All (λ h. FollowsClock (clock_of (board_at m b)) h.line) (clocks_at clocks b).held

-- Before a turn the boards had their lines, and behind it there are none: each tells the frequency of the
-- board's clock line, and at which tick the turn begins by it from which on the first section may start.
pub record TellBoards (clocks : List Clocks) (ready : ℕ) (turns : List ReactorTurn) : Type 0 where
  pub past : List ReactorTurn
  pub later : List ReactorTurn
  pub are : turns ≡ past ++ later
  pub early : length past ≤ ready
  pub lines : boards_of (gather (λ t. t.lines) past) ≡ lines_at ready 0 clocks
  pub rest : boards_of (gather (λ t. t.lines) later) ≡ []

-- All sections of a text were begun, each ended five turns or more before a turn, and the cause is how the
-- reading ended.
pub record AreThrough (m : Machine) (seen : PlannerInput) (c : Cause) (turn : ℕ) : Type 0 where
  pub all : map (λ s. s.section) seen.begun ≡ program_sections m seen.text
  pub over : All (λ s. s.end + 5 ≤ turn) seen.begun
  pub cause_is : c ≡ text_end (program_end m seen.text).stop

-- the boards' clock lines, where the planner heard any
abbrev pub clocks_heard : Option Told → List Clocks
clocks_heard None = []
clocks_heard (Some t) = t.clocks

-- and the first turn in which a section may start
abbrev pub ready_heard : Option Told → ℕ
ready_heard None = 260
ready_heard (Some t) = t.first
