-- A board's part of a run in which axes home.
use Rattle.std.specs.Prelude.{◌≡◌, ◌≢◌, ℕ, ◌+◌, ◌-◌, ◌*◌, ◌%◌, ◌^◌, ◌<◌, ◌≤◌, ◌⊎◌, ◌++◌, Bool, true, false, List, [], ◌∷◌, All, length, take, Option, Some, None}
use Rattle.std.specs.List.{flat_map}
use Rattle.plan_types.specs.declared.clock.BoardClock.{BoardClock}
use Rattle.plan_types.specs.declared.levels.Level.{Level}
use Rattle.plan_types.specs.declared.machine.BoardDef.{BoardDef}
use Rattle.plan_types.specs.declared.plan.Pulse.{Pulse}
use Rattle.plan_types.specs.Clock.{clock_of, turn_ns}
use Rattle.plan_types.specs.Lines.{Clocks, lines_tick}
use Rattle.plan_types.specs.Machines.{IsValidBoard}
use Rattle.plan_types.specs.Plan.{AreSpaced, Fits}
use Rattle.msg_code.specs.declared.cmd.Cmd.{Cmd}
use Rattle.msg_code.specs.declared.cmd.Cmd.TheVariants as cmd
use Rattle.step_feed.specs.Pacing.{ArePaced, Release, batch_at, units_of}
use Rattle.section_units.specs.Sections.{AreBefore, AreBegunBy, BoardSection, IsSection, base_of, of_stepper, section_steps}
use Rattle.board_world.specs.World.{Step, run_world, new_world}
use Rattle.wire_scene.specs.declared.scene.Entry.{Entry}
use Rattle.link_work.specs.Runs.{AreTurns, queued_in}
use Rattle.link_work.specs.Stands.{first_state}
use Rattle.link_work.specs.Turn.{LinkState, Orders}
use Rattle.laws_board.specs.sections.Boards.{OnBoard}
use Rattle.laws_board.specs.sections.Courses.{IsFrom, IsSince, IsSettled, AreSettled, FindStopped, AllHeed, AreAllGood, BeginLostOn, AreMadeFor, Course, courses, course_parts}
use Rattle.laws_board.specs.sections.Courses as course
use Rattle.laws_board.specs.sections.Events.{AreOwn, AreTicks, AreTurnsOf}
use Rattle.laws_board.specs.sections.Known.{Sent, sent_at, sent_in}
use Rattle.laws_board.specs.sections.Links.{AreTold, steps_of, steps_of_turn, turns_told}
use Rattle.laws_board.specs.sections.Parts.{AreTracked, MakesIn}
use Rattle.laws_board.specs.sections.Runs.{Begins}
use Rattle.laws_board.specs.sections.Timely.{AllTimely}

-- a section on one board, and whether it homes an axis
pub record RunSection : Type 0 where
  pub section : BoardSection
  pub homes : Bool

-- A section of moves on a board, whose clock lines are near until a turn: no part of a stepper's steps that
-- is begun in its turns stops before they are over.
pub record IsMovesIn (clocks : Clocks) (freq slots until : ℕ) (stops : ℕ → Option ℕ) (s : BoardSection) : Type 0 where
  pub is : IsSection clocks freq slots s
  pub limit : s.end < until
  pub goes_on : (turn : ℕ) → s.start ≤ turn + 254 → turn ≤ s.end + 5 → stops turn ≡ None

-- A homing section on a board: its units are those that were released before its end, of a plan whose last
-- step is due in a turn; none sets a clock, which a command of its own sets to the section's first tick; and
-- the parts of its steppers' steps, which are begun 254 to 252 turns before its start, stop with its end.
pub record IsHomingIn (clocks : Clocks) (freq slots until : ℕ) (stops : ℕ → Option ℕ) (s : BoardSection) : Type 0 where
  pub spaced : (oid : ℕ) → AreSpaced (base_of clocks s) (s.plan oid)
  pub last : ℕ
  pub order : s.start ≤ last
  pub limit : last < until
  pub within : (oid : ℕ) → All (λ p. p.tick < lines_tick clocks ((last + 1) * turn_ns)) (s.plan oid)
  pub begun : (oid : ℕ) → AreBegunBy true clocks (base_of clocks s) (of_stepper oid (units_of s.releases))
  pub fits : (oid : ℕ) → Fits freq (base_of clocks s) (section_steps oid s) (s.plan oid)
  pub from : ℕ
  pub exact : from + 250 ≡ s.start
  pub paced : ArePaced clocks slots from [] s.releases
  pub released : AreBefore s.end s.releases
  pub stop : (turn : ℕ) → s.start ≤ turn + 254 → turn + 252 ≤ s.start → stops turn ≡ Some s.end

-- a board's part of a section, which homes an axis or not, with what holds of such a section
abbrev pub IsSectionBy : Bool → Clocks → ℕ → ℕ → ℕ → (ℕ → Option ℕ) → BoardSection → Type 0
IsSectionBy true clocks freq slots until stops s = IsHomingIn clocks freq slots until stops s
IsSectionBy false clocks freq slots until stops s = IsMovesIn clocks freq slots until stops s

-- sections one behind the other, each 260 turns or more after the end of the one before, or after a turn
abbrev pub AreInTurn : ℕ → List RunSection → Type 0
AreInTurn turn [] = Unit {0}
AreInTurn turn (s ∷ ss) =
    (turn + 260 ≤ s.section.start) × (s.section.start ≤ s.section.end) × AreInTurn s.section.end ss

-- in a turn one of some sections sets the clocks of its steppers, to its first tick: a homing section, 254 to
-- 252 turns before its start
abbrev pub SetsClock : Clocks → List RunSection → ℕ → ℕ → Type 0
SetsClock clocks [] turn clock = ⊥
SetsClock clocks (s ∷ ss) turn clock =
    ((s.homes ≡ true) × (s.section.start ≤ turn + 254) × (turn + 252 ≤ s.section.start)
    × (clock ≡ base_of clocks s.section % 2 ^ 32))
    ⊎ SetsClock clocks ss turn clock

-- A control command of a run in a turn: no step and no direction of a stepper, and its clock only where a
-- homing section sets it; and a stepper has one of a board's 256 numbers.
abbrev pub IsControlIn : Clocks → List RunSection → ℕ → Cmd → Type 0
IsControlIn clocks ss turn (cmd.QueueStep oid interval count add) = ⊥
IsControlIn clocks ss turn (cmd.SetNextStepDir oid dir) = ⊥
IsControlIn clocks ss turn (cmd.ResetStepClock oid clock) = SetsClock clocks ss turn clock
IsControlIn clocks ss turn (cmd.ConfigStepper oid step dir invert width) = oid < 256
IsControlIn clocks ss turn _ = Unit {0}

-- Each unit that is due before a turn and is released behind its due turn is so by four turns behind another turn.
abbrev pub AreOutBy : ℕ → ℕ → List Release → Type 0
AreOutBy turns end [] = Unit {0}
AreOutBy turns end (r ∷ rs) = (r.unit.due < turns → r.unit.due < r.turn → r.turn ≤ end + 4) × AreOutBy turns end rs

-- so the units of each section of moves are by four turns behind its end
abbrev pub AreOut : ℕ → List RunSection → Type 0
AreOut turns [] = Unit {0}
AreOut turns (s ∷ ss) = (s.homes ≡ false → AreOutBy turns s.section.end s.section.releases) × AreOut turns ss

-- all units of each section of moves are released by four turns behind its end
abbrev pub AreReleasedIn : List RunSection → Type 0
AreReleasedIn [] = Unit {0}
AreReleasedIn (s ∷ ss) = (s.homes ≡ false → AreBefore (s.section.end + 5) s.section.releases) × AreReleasedIn ss

-- what is queued in turns from a number on: control commands, and the units of the sections that are released
-- in the turn
abbrev pub AreOrdersIn : Clocks → List RunSection → ℕ → List Orders → Type 0
AreOrdersIn clocks ss turn [] = Unit {0}
AreOrdersIn clocks ss turn (o ∷ os) =
    All (IsControlIn clocks ss turn) o.control.commands
    × (o.batch.units ≡ flat_map (λ s. batch_at turn s.section.releases) ss) × AreOrdersIn clocks ss (turn + 1) os

-- a command sets the clock of a stepper
abbrev pub IsSetting : ℕ → Cmd → Type 0
IsSetting oid (cmd.ResetStepClock other clock) = other ≡ oid
IsSetting oid _ = ⊥

-- one of some commands sets the clock of a stepper
abbrev pub SomeSets : ℕ → List Cmd → Type 0
SomeSets oid [] = ⊥
SomeSets oid (c ∷ cs) = IsSetting oid c ⊎ SomeSets oid cs

-- a stepper's clock is set for a homing section in one of some turns, of which this is the first one's number
abbrev pub SetsIn : ℕ → BoardSection → ℕ → List Orders → Type 0
SetsIn oid s turn [] = ⊥
SetsIn oid s turn (o ∷ os) =
    ((s.start ≤ turn + 254) × (turn + 252 ≤ s.start) × SomeSets oid o.control.commands) ⊎ SetsIn oid s (turn + 1) os

-- so it is for each homing section that has units of it, where these turns come to them
abbrev pub AreSet : ℕ → List RunSection → ℕ → List Orders → Type 0
AreSet oid [] turn os = Unit {0}
AreSet oid (s ∷ ss) turn os =
    (s.homes ≡ true → of_stepper oid (units_of s.section.releases) ≢ [] → s.section.start ≤ turn + length os + 250 →
    SetsIn oid s.section turn os) × AreSet oid ss turn os

-- a stepper's clock is set by a control of some turns
abbrev pub SetsAny : ℕ → List Orders → Type 0
SetsAny oid [] = ⊥
SetsAny oid (o ∷ os) = SomeSets oid o.control.commands ⊎ SetsAny oid os

-- one of some sections has units of a stepper
abbrev pub HasUnits : ℕ → List RunSection → Type 0
HasUnits oid [] = ⊥
HasUnits oid (s ∷ ss) = (of_stepper oid (units_of s.section.releases) ≢ []) ⊎ HasUnits oid ss

-- A board's part of a run in which axes home: its own ticks and its clock lines, the sections, where the
-- parts of its steppers' steps stop, and what is queued turn by turn. A stepper that is used is made before
-- the boards are ready, and its clock is set before the units of a homing section.
pub record IsHomeRun (own : ℕ → ℕ) (clocks : Clocks) (freq slots ready : ℕ) (stops : ℕ → Option ℕ)
    (ss : List RunSection) (os : List Orders) : Type 0 where
  pub tracked : AreTracked own clocks ready
  pub sections : All (λ s. IsSectionBy s.homes clocks freq slots tracked.until stops s.section) ss
  pub row : AreInTurn ready ss
  pub orders : AreOrdersIn clocks ss 0 os
  pub set : (oid : ℕ) → AreSet oid ss 0 os
  pub made : ready ≤ length os → (oid : ℕ) → HasUnits oid ss ⊎ SetsAny oid os → MakesIn oid (take ready os)
  pub ahead : (turn : ℕ) → IsFrom turn (stops turn) → ⊥

-- Pulses of a stepper that are made section by section: for the first steps of each, in order, and before the
-- board's tick of the fifth turn behind its end.
abbrev pub AreFrontsIn : (ℕ → ℕ) → ℕ → List RunSection → List Pulse → Type 0
AreFrontsIn own oid [] ps = ps ≡ []
AreFrontsIn own oid (s ∷ ss) ps =
    (first rest : List Pulse) × (ps ≡ first ++ rest) × Begins first (section_steps oid s.section)
    × course.AreBefore (own (s.section.end + 5)) first × AreFrontsIn own oid ss rest

-- Of each section what is released by a turn is released by the fifth turn behind its end.
abbrev pub AreSoonBy : ℕ → ℕ → List Release → Type 0
AreSoonBy turn end [] = Unit {0}
AreSoonBy turn end (r ∷ rs) = (r.turn ≤ turn → r.turn ≤ end + 5) × AreSoonBy turn end rs

-- the same for each of a board's sections
abbrev pub AreSoon : ℕ → List RunSection → Type 0
AreSoon turn [] = Unit {0}
AreSoon turn (s ∷ ss) = AreSoonBy turn s.section.end s.section.releases × AreSoon turn ss

-- a triple of a stepper whose present part was begun in a turn or later
abbrev pub IsBegunFor : ℕ → (ℕ → Course) → Cmd → Type 0
IsBegunFor turn cs (cmd.QueueStep oid interval count add) = IsSince turn (cs oid).since
IsBegunFor turn cs _ = ⊥

-- The first triple that is left of some sections of moves five turns behind their end: it is queued in that
-- turn, and its stepper's clock was set 250 turns before the section's start or later; of the sections of
-- moves before it all units are released by four turns behind their end.
abbrev pub IsLeftOf : List RunSection → (ℕ → Course) → ℕ → Cmd → Type 0
IsLeftOf [] cs turn c = ⊥
IsLeftOf (s ∷ ss) cs turn c =
    ((s.homes ≡ false) × (turn ≡ s.section.end + 5) × IsBegunFor (s.section.start - 250) cs c)
    ⊎ ((s.homes ≡ false → AreBefore (s.section.end + 5) s.section.releases) × IsLeftOf ss cs turn c)

-- of each section of moves that is over five turns before the end of so many turns all units are released by four turns
-- behind its end
abbrev pub AreReleasedBy : ℕ → List RunSection → Type 0
AreReleasedBy turns [] = Unit {0}
AreReleasedBy turns (s ∷ ss) =
    (s.homes ≡ false → s.section.end + 5 < turns → AreBefore (s.section.end + 5) s.section.releases)
    × AreReleasedBy turns ss

-- commands of so many turns of which the first is that one; or there are none, and so no triple is left
abbrev pub BeginLeftOf : ℕ → List RunSection → (ℕ → Course) → List Sent → Type 0
BeginLeftOf turns ss cs [] = AreReleasedBy turns ss
BeginLeftOf turns ss cs (t ∷ tail) = IsLeftOf ss cs t.turn t.order.command

-- pulses before the board's tick of the turn in which the first of some commands was queued, where there is one
abbrev pub AreBeforeFirst : (ℕ → ℕ) → List Sent → List Pulse → Type 0
AreBeforeFirst own [] ps = Unit {0}
AreBeforeFirst own (t ∷ tail) ps = course.AreBefore (own t.turn) ps

-- What is queued in a run in which axes home: commands that are good, of whose parts pulses are made section
-- by section, and perhaps others behind them, of which the first is a triple of a section of moves that is
-- queued too late, the first that is left so, and by whose turn the pulses are over. There is none where all
-- units of moves are released soon.
pub record IsSplitIn (own : ℕ → ℕ) (stops : ℕ → Option ℕ) (slots : ℕ) (ss : List RunSection) (os : List Orders)
    : Type 0 where
  pub front : List Sent
  pub tail : List Sent
  pub are : front ++ tail ≡ sent_in 0 os
  pub good : AreAllGood own stops slots front
  pub lost : BeginLostOn own stops slots (courses front) tail
  pub begun : BeginLeftOf (length os) ss (courses front) tail
  pub fronts : (oid : ℕ) (ps : List Pulse) → AreMadeFor own stops (course_parts (courses front oid)) ps →
      AreFrontsIn own oid ss ps
  pub early : (oid : ℕ) (ps : List Pulse) → AreMadeFor own stops (course_parts (courses front oid)) ps →
      AreBeforeFirst own tail ps
  pub whole : AreReleasedIn ss → tail ≡ []

-- the turn in which the first of some commands was queued, or the end of so many turns where there is none
abbrev pub lost_at : ℕ → List Sent → ℕ
lost_at turns [] = turns
lost_at turns (t ∷ tail) = t.turn

-- the next section, where there is one, starts behind a turn
abbrev pub NextBehind : ℕ → List RunSection → Type 0
NextBehind turn [] = Unit {0}
NextBehind turn (s ∷ ss) = turn < s.section.start

-- sections that are five turns over by a turn
abbrev pub AreOverBy : ℕ → List RunSection → Type 0
AreOverBy turn [] = Unit {0}
AreOverBy turn (s ∷ ss) = (s.section.end + 5 ≤ turn) × AreOverBy turn ss

-- What happens on a board and its link in some turns of a run in which axes home, up to a turn, and on to another: no
-- unit is taken half a round of the 32-bit clock after its first tick; as each turn begins, a board that runs and took
-- no unit that is queued too late has begun the parts that stop by then, and halted their steppers; and where it takes
-- the first of those, that one's stepper isn't halted.
pub record IsHomeSpan (b : BoardDef) (pins : List (List Level)) (own : ℕ → ℕ) (clocks : Clocks) (ready : ℕ)
    (stops : ℕ → Option ℕ) (ss : List RunSection) (before during behind : List Orders) (first second : List Step)
    : Type 0 where
  pub ticks : AreTicks own
  pub begin : own 0 ≡ b.start
  pub run_is : IsHomeRun own clocks b.freq b.slots ready stops ss (before ++ (during ++ behind))
  pub split : IsSplitIn own stops b.slots ss (before ++ (during ++ behind))
  pub first_turns : AreTurnsOf own 0 before first
  pub second_turns : AreTurnsOf own (length before) during second
  pub timely : AllTimely (new_world b pins) (first ++ second)
  pub first_settled : AreSettled stops split.front own 0 [] before first (new_world b pins) first_turns
  pub second_settled : AreSettled stops split.front own (length before) (sent_in 0 before) during second
      (run_world first (new_world b pins)) second_turns
  pub heed : AllHeed split.front split.tail (new_world b pins) (first ++ second)

-- As each of some turns of a link begins, its board, where it took none behind a front of what is queued, has begun the
-- parts that stop by then, and it halts their steppers by then or before it takes a step of the part.
abbrev pub AreSettledOn : (stops : ℕ → Option ℕ) (front : List Sent) (clock : BoardClock) (turn : ℕ) (sent : List Sent)
    (os : List Orders) (l m : LinkState) → AreTurns clock turn os l m → Type 0
AreSettledOn stops front clock turn sent [] l m t = IsSettled stops front turn sent l.core
AreSettledOn stops front clock turn sent (o ∷ os) l m t =
    IsSettled stops front turn sent l.core
    × FindStopped stops front turn sent l.core (steps_of_turn clock turn o t.1.resent l)
    × AreSettledOn stops front clock (turn + 1) (sent ++ sent_at turn (queued_in o)) os t.0 m t.2

-- A board of a run of so many turns in which axes home, at a place among the boards, with its sections and
-- which of them home: its link took what it was given and told the states, its orders are those of its
-- sections, no unit is taken half a round of the 32-bit clock after its first tick, what stops is halted, and
-- where the board takes a first unit of moves that is queued too late, that one's stepper isn't halted. Its
-- ticks go on somehow behind the run.
pub record IsHomeBoard (place : ℕ) (entries : List Entry) (ready turns : ℕ) (ss : List RunSection) (x : OnBoard)
    : Type 0 where
  pub valid : IsValidBoard x.board
  pub stops : ℕ → Option ℕ
  pub own : ℕ → ℕ
  pub own_is : AreOwn x.board turns own
  pub run_is : IsHomeRun own x.clocks x.board.freq x.board.slots ready stops ss x.orders
  pub split : IsSplitIn own stops x.board.slots ss x.orders
  pub count : length x.orders ≡ turns
  pub end : LinkState
  pub told : AreTold (clock_of x.board) 0 x.orders x.states (first_state x.board x.pins place entries) end
  pub timely : AllTimely (new_world x.board x.pins) (steps_of (clock_of x.board) 0 x.orders
      (first_state x.board x.pins place entries) end
      (turns_told (clock_of x.board) 0 x.orders x.states (first_state x.board x.pins place entries) end told))
  pub settled : AreSettledOn stops split.front (clock_of x.board) 0 [] x.orders
      (first_state x.board x.pins place entries) end
      (turns_told (clock_of x.board) 0 x.orders x.states (first_state x.board x.pins place entries) end told)
  pub heed : AllHeed split.front split.tail (new_world x.board x.pins)
      (steps_of (clock_of x.board) 0 x.orders (first_state x.board x.pins place entries) end
      (turns_told (clock_of x.board) 0 x.orders x.states (first_state x.board x.pins place entries) end told))
