-- What a word does.
use Rattle.std.specs.Prelude.{ℕ, ◌≤◌, ◌+◌, ◌*◌, ◌/◌, ℤ, pos, negsuc, ◌+ℤ◌, ◌-ℤ◌, ◌*ℤ◌, Bool, true, false, ◌&&◌, ◌||◌, ◌==◌, nat_lt, nat_le, min, List, [], ◌∷◌, if◌then◌else◌, Option, Some, None, is_some, Result, Ok, Err, unsigned_abs, slice_index_or}
use Rattle.std.specs.Prelude.{int_lt, int_div}
use Rattle.gcode_text.specs.declared.word.Given.{Given}
use Rattle.gcode_text.specs.declared.word.Given.TheVariants.{Bare, Number}
use Rattle.gcode_text.specs.declared.word.Command.{Command}
use Rattle.gcode_text.specs.declared.word.Command.TheVariants as names
use Rattle.gcode_text.specs.declared.word.Word.{Word}
use Rattle.gcode_text.specs.declared.word.Word.TheVariants as words
use Rattle.gcode_text.specs.Lines.{given_of}
use Rattle.gcode_state.specs.declared.state.Axis.{Axis}
use Rattle.gcode_state.specs.declared.state.State.{State}
use Rattle.gcode_state.specs.declared.state.Target.{Target}
use Rattle.gcode_state.specs.declared.state.Aim.{Aim}
use Rattle.plan_types.specs.declared.plan.Move.{Move}
use Rattle.plan_types.specs.Moves.{move_length}
use Rattle.plan_types.specs.Sections.{IsReachable}
use Rattle.plan_types.specs.Valid.{IsValidMove}
use Rattle.gcode_state.specs.declared.state.Action.{Action}
use Rattle.gcode_state.specs.declared.state.Action.TheVariants as actions
use Rattle.gcode_state.specs.declared.state.StateFault.{StateFault}
use Rattle.gcode_state.specs.declared.state.StateFault.TheVariants.{OutOfRange, NotHomed, BadSpeed, MoveTooLong, TooMany}

-- the number in millionths that is given, 0 for a bare letter
abbrev pub millionths_of : Option Given → Option ℤ
millionths_of None = None
millionths_of (Some Bare) = None
millionths_of (Some (Number n)) = Some n

-- the number given behind a letter, where one is
abbrev pub given_number : List (Option Given) → ℕ → Option ℤ
given_number letters letter = millionths_of (given_of letters letter)

-- what a coordinate reads behind a word
abbrev pub reading_after : Bool → ℤ → Option ℤ → ℤ
reading_after relative reads None = reads
reading_after relative reads (Some n) = if relative then reads +ℤ n else n

-- where a word leads x, y or z, and what the coordinate reads then
abbrev pub target_of : Axis → Bool → Option ℤ → Target
target_of axis relative given = let reads = reading_after relative axis.reads given in
    record { at = axis.at +ℤ (reads -ℤ axis.reads); reads = reads }

-- a change of E by a factor in millionths of a percent, cut towards 0
unfoldable pub stretched : ℤ → ℕ → ℤ
stretched change factor = int_div (change *ℤ pos factor) (pos 100000000)

-- E is relative in G91 and in M83
unfoldable pub has_relative_e : State → Bool
has_relative_e s = s.relative || s.relative_e

-- where a word leads E, by the E factor, and what E reads then
abbrev pub e_target_of : State → Bool → Option ℤ → Target
e_target_of s relative given = let reads = reading_after relative s.e_reads given in
    record { at = s.e_at +ℤ stretched (reads -ℤ s.e_reads) s.e_factor; reads = reads }

-- two coordinates are not the same
abbrev pub differs : ℤ → ℤ → Bool
differs a b = int_lt a b || int_lt b a

-- an axis changes that is not homed
abbrev pub is_unhomed : Axis → Target → Bool
is_unhomed axis target = differs axis.at target.at && (if axis.homed then false else true)

-- an axis changes to a place outside its range
abbrev pub is_outside : Axis → Target → Bool
is_outside axis target = differs axis.at target.at && (int_lt target.at axis.min || int_lt axis.max target.at)

-- a speed below 0 counts as 0, which is too slow
abbrev pub feed_after : ℕ → Option ℤ → ℕ
feed_after feed None = feed
feed_after feed (Some (pos n)) = n
feed_after feed (Some (negsuc n)) = 0

-- the speed at a feed: times the speed factor, cut, and at most the machine's
abbrev pub speed_of : State → ℕ → ℕ
speed_of s feed = min (feed * s.speed_factor / 6000000000) s.top

-- where a G0 or G1 leads
unfoldable pub aim_of : State → List (Option Given) → Aim
aim_of s letters = record {
  x = target_of s.x s.relative (given_number letters 88);
  y = target_of s.y s.relative (given_number letters 89);
  z = target_of s.z s.relative (given_number letters 90);
  e = e_target_of s (has_relative_e s) (given_number letters 69);
  feed = feed_after s.feed (given_number letters 70);
}

-- some coordinate changes
unfoldable pub moves : State → Aim → Bool
moves s aim =
    differs s.x.at aim.x.at || (differs s.y.at aim.y.at || (differs s.z.at aim.z.at || differs s.e_at aim.e.at))

-- the first fault whose test holds
abbrev pub first_that_holds : List (Bool × StateFault) → Option StateFault
first_that_holds [] = None
first_that_holds (fault ∷ faults) = if fault.0 then Some fault.1 else first_that_holds faults

-- the speed is below 0.1 mm/s, in a line that moves something or sets a speed
unfoldable pub is_slow : State → Aim → Bool → Bool
is_slow s aim has_feed = nat_lt (speed_of s aim.feed) 100000 && (has_feed || moves s aim)

-- x, y or z changes without being homed
unfoldable pub is_any_unhomed : State → Aim → Bool
is_any_unhomed s aim = is_unhomed s.x aim.x || (is_unhomed s.y aim.y || is_unhomed s.z aim.z)

-- x, y or z changes to a place outside its range
unfoldable pub is_any_outside : State → Aim → Bool
is_any_outside s aim = is_outside s.x aim.x || (is_outside s.y aim.y || is_outside s.z aim.z)

-- E changes by more than 500 mm
unfoldable pub is_long : State → Aim → Bool
is_long s aim = nat_lt 500000000 (unsigned_abs (aim.e.at -ℤ s.e_at))

-- with this move the file has more than 2,000,000 moves, dwells and homed axes
unfoldable pub is_too_many : State → Aim → Bool
is_too_many s aim = moves s aim && nat_le 2000000 s.count

-- the first thing that is wrong with a G0 or G1, in the order of these five
unfoldable pub move_fault : State → Aim → Bool → Option StateFault
move_fault s aim has_feed =
    first_that_holds ((is_slow s aim has_feed, BadSpeed) ∷ (is_any_unhomed s aim, NotHomed) ∷
    (is_any_outside s aim, OutOfRange)
    ∷ (is_long s aim, MoveTooLong) ∷ (is_too_many s aim, TooMany) ∷ [])

-- an axis at its target
abbrev pub placed : Axis → Target → Axis
placed axis target = record axis { at = target.at; reads = target.reads }

-- the state behind a G0 or G1 without a fault
unfoldable pub moved : State → Aim → State
moved s aim =
    record s {
      x = placed s.x aim.x;
      y = placed s.y aim.y;
      z = placed s.z aim.z;
      e_at = aim.e.at;
      e_reads = aim.e.reads;
      feed = aim.feed;
      count = if moves s aim then s.count + 1 else s.count;
      lines = s.lines + 1;
    }

-- the coordinates of a state: x, y, z and e, in nanometres
abbrev pub coordinates_of : State → List ℤ
coordinates_of s = s.x.at ∷ s.y.at ∷ s.z.at ∷ s.e_at ∷ []

-- the move from one state to the next, with its length still open
unfoldable pub unmeasured : State → State → Move
unmeasured s t =
    record { from = coordinates_of s; to = coordinates_of t; d = 0; v = speed_of t t.feed; a = t.acceleration }

-- the move from one state to the next
abbrev pub move_of : State → State → Move
move_of s t = record (unmeasured s t) { d = move_length (unmeasured s t) }

-- a value, unless there is a fault
abbrev pub unless : {X : Type 0} → Option StateFault → X → Result X StateFault
unless None x = Ok x
unless (Some fault) x = Err fault

-- what G0 and G1 do
unfoldable pub linear : State → List (Option Given) → Result (State × Action) StateFault
linear s letters =
    let aim = aim_of s letters in
    unless (move_fault s aim (is_some (given_number letters 70)))
    (moved s aim, if moves s aim then actions.Move (move_of s (moved s aim)) else actions.None)

-- a number within a range, or what stands for none
abbrev pub in_range : ℕ → ℕ → ℕ → Option ℤ → Result ℕ StateFault
in_range low high default None = Ok default
in_range low high default (Some (pos n)) = if nat_le low n && nat_le n high then Ok n else Err OutOfRange
in_range low high default (Some (negsuc n)) = Err OutOfRange

infixl 10 ◌>>=◌
abbrev pub ◌>>=◌ : {A B : Type 0} → Result A StateFault → (A → Result B StateFault) → Result B StateFault
(Ok x) >>= f = f x
(Err e) >>= f = Err e

-- so many more actions, if the file may have them
abbrev pub with_count : State → ℕ → Result State StateFault
with_count s more = if nat_lt 2000000 (s.count + more) then Err TooMany else Ok (record s { count = s.count + more })

-- what G4 does, with P in millionths of a millisecond, rounded up
unfoldable pub dwell : State → List (Option Given) → Result (State × Action) StateFault
dwell s letters = do
  p ← in_range 0 3600000000000 0 (given_number letters 80)
  t ← with_count s 1
  Ok (t, actions.Dwell ((p + 999999) / 1000000))

-- a letter is given, bare or with a number
abbrev pub is_named : List (Option Given) → ℕ → Bool
is_named letters letter = is_some (given_of letters letter)

-- the axes among x, y, z that are named, all where none is
unfoldable pub axes_of : List (Option Given) → List Bool
axes_of letters = if is_named letters 88 || (is_named letters 89 || is_named letters 90)
    then is_named letters 88 ∷ is_named letters 89 ∷ is_named letters 90 ∷ [] else true ∷ true ∷ true ∷ []

-- an axis homed at its endstop, where it is named
abbrev pub homed_if : Bool → Axis → Axis
homed_if named axis = if named then record axis { homed = true; at = axis.endstop; reads = axis.endstop } else axis

-- 1 where something holds, else 0
abbrev pub one_if : Bool → ℕ
one_if named = if named then 1 else 0

-- the state in which some axes are homed
abbrev pub homed_by : State → List Bool → State
homed_by s axes =
    record s {
      x = homed_if (slice_index_or axes 0 false) s.x;
      y = homed_if (slice_index_or axes 1 false) s.y;
      z = homed_if (slice_index_or axes 2 false) s.z;
    }

-- how many axes are named
abbrev pub axes_in : List Bool → ℕ
axes_in axes =
    one_if (slice_index_or axes 0 false) + one_if (slice_index_or axes 1 false) + one_if (slice_index_or axes 2 false)

-- what G28 does
unfoldable pub home : State → List (Option Given) → Result (State × Action) StateFault
home s letters = do
  t ← with_count s (axes_in (axes_of letters))
  Ok (homed_by t (axes_of letters), actions.Home (axes_of letters))

-- what M220 does
unfoldable pub speed_factor : State → List (Option Given) → Result (State × Action) StateFault
speed_factor s letters = do
  factor ← in_range 1000000 1000000000 100000000 (given_number letters 83)
  Ok (record s { speed_factor = factor }, actions.None)

-- what M221 does
unfoldable pub e_factor : State → List (Option Given) → Result (State × Action) StateFault
e_factor s letters = do
  factor ← in_range 1000000 1000000000 100000000 (given_number letters 83)
  Ok (record s { e_factor = factor }, actions.None)

-- what M204 does, with S in millionths of a millimetre a second squared
unfoldable pub acceleration : State → List (Option Given) → Result (State × Action) StateFault
acceleration s letters = do
  a ← in_range 100000000 100000000000 s.acceleration (given_number letters 83)
  Ok (record s { acceleration = a }, actions.None)

-- G92: the named coordinates read as the given numbers, all as 0 where none is named
abbrev pub reading_set : Bool → ℤ → Option ℤ → ℤ
reading_set some reads None = if some then reads else pos 0
reading_set some reads (Some n) = n

-- an axis that reads as a G92 says
abbrev pub read_as : Bool → Axis → Option ℤ → Axis
read_as some axis given = record axis { reads = reading_set some axis.reads given }

-- a letter is given
abbrev pub is_set : List (Option Given) → ℕ → Bool
is_set letters letter = is_some (given_number letters letter)

-- a G92 names some coordinate
unfoldable pub sets_some : List (Option Given) → Bool
sets_some letters = is_set letters 88 || (is_set letters 89 || (is_set letters 90 || is_set letters 69))

-- G92: the state with what the coordinates read now
unfoldable pub readings_set : State → List (Option Given) → State
readings_set s letters = record s {
  x = read_as (sets_some letters) s.x (given_number letters 88);
  y = read_as (sets_some letters) s.y (given_number letters 89);
  z = read_as (sets_some letters) s.z (given_number letters 90);
  e_reads = reading_set (sets_some letters) s.e_reads (given_number letters 69);
}

-- what a command of the table does
abbrev pub commanded : State → Command → List (Option Given) → Result (State × Action) StateFault
commanded s names.G0 letters = linear s letters
commanded s names.G1 letters = linear s letters
commanded s names.G4 letters = dwell s letters
commanded s names.G28 letters = home s letters
commanded s names.G90 letters = Ok (record s { relative = false }, actions.None)
commanded s names.G91 letters = Ok (record s { relative = true }, actions.None)
commanded s names.G92 letters = Ok (readings_set s letters, actions.None)
commanded s names.M82 letters = Ok (record s { relative_e = false }, actions.None)
commanded s names.M83 letters = Ok (record s { relative_e = true }, actions.None)
commanded s names.M112 letters = Ok (s, actions.Stop)
commanded s names.M204 letters = acceleration s letters
commanded s names.M220 letters = speed_factor s letters
commanded s names.M221 letters = e_factor s letters
commanded s names.M400 letters = Ok (s, actions.Wait)

-- what a word does behind a state: the new state and the action, or the fault
abbrev pub applied : State → Word → Result (State × Action) StateFault
applied s words.Blank = Ok (s, actions.None)
applied s words.Passed = Ok (s, actions.None)
applied s (words.Command name letters) = commanded s name letters

-- the axis 0, 1 or 2
abbrev pub axis_of : State → ℕ → Axis
axis_of s k = if k == 0 then s.x else (if k == 1 then s.y else s.z)

-- an axis that stands homed here, and reads so, where it is the one
abbrev pub homed_here : Bool → Axis → ℤ → Axis
homed_here is_it axis at = if is_it then record axis { homed = true; at = at; reads = at } else axis

-- the axis 0, 1 or 2 homed: it stands here and reads so, whatever a G92 before it said
unfoldable pub homed_at : State → ℕ → ℤ → State
homed_at s k at =
    record s { x = homed_here (k == 0) s.x at; y = homed_here (k == 1) s.y at; z = homed_here (k == 2) s.z at }

-- what an action may hold
abbrev pub IsValidAction : Action → Type 0
IsValidAction (actions.Move m) = IsValidMove m × IsReachable m
IsValidAction (actions.Dwell ms) = ms ≤ 3600000
IsValidAction other = Unit {0}

-- for how much an action counts: one for a move or a dwell, and one for each homed axis
abbrev pub weight : Action → ℕ
weight (actions.Move m) = 1
weight (actions.Dwell ms) = 1
weight (actions.Home axes) = axes_in axes
weight other = 0
