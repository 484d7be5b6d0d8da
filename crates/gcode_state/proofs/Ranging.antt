-- The ranges that words keep whatever they say, where it is forgotten what the coordinates read.
use Rattle.std.proofs.Common.{◌≡◌, ℕ, ℤ, pos, negsuc, ◌+◌, ◌*◌, ◌/◌, ◌^◌, ◌≤◌, ◌-ℤ◌, ◌&&◌, Bool, true, false, List, Option, Some, None, Ok, Err, refl, arith, subst, ◌∙◌, nat_le, nat_lt, if◌then◌else◌}
use Rattle.std.proofs.lemmas.Bool.Decides.{nat_tests}
use Rattle.std.proofs.lemmas.Int.{ints}
use Rattle.std.specs.Prelude.{Result, IfOk, is_some, slice_index_or}
use Rattle.plan_types.specs.declared.plan.Move.{Move}
use Rattle.plan_types.specs.Sections.{IsReachable}
use Rattle.plan_types.specs.Valid.{IsValidMove}
use Rattle.gcode_text.specs.declared.word.Command.{Command}
use Rattle.gcode_text.specs.declared.word.Command.TheVariants as names
use Rattle.gcode_text.specs.declared.word.Given.{Given}
use Rattle.gcode_text.specs.declared.word.Word.{Word}
use Rattle.gcode_text.specs.declared.word.Word.TheVariants as words
use Rattle.gcode_state.specs.declared.state.Action.{Action}
use Rattle.gcode_state.specs.declared.state.Action.TheVariants as actions
use Rattle.gcode_state.specs.declared.state.Aim.{Aim}
use Rattle.gcode_state.specs.declared.state.Axis.{Axis}
use Rattle.gcode_state.specs.declared.state.State.{State}
use Rattle.gcode_state.specs.declared.state.StateFault.{StateFault}
use Rattle.gcode_state.specs.declared.state.StateFault.TheVariants.{OutOfRange, TooMany}
use Rattle.gcode_state.specs.Sound.{IsSound, IsSteady, IsWithin}
use Rattle.gcode_state.specs.States.{◌>>=◌, IsValidAction, acceleration, aim_of, applied, axes_in, axes_of, commanded, with_count, differs, dwell, e_factor, given_number, home, homed_by, homed_if, in_range, is_any_outside, is_any_unhomed, is_long, is_slow, is_too_many, linear, move_fault, move_of, moved, moves, readings_set, speed_factor, unless, unmeasured}
use Rattle.gcode_state.proofs.Accepted.{count_on, e_on, no_fault, same_place, stays, steady_behind}
use Rattle.gcode_state.proofs.Counted.{counted_sound}
use Rattle.gcode_state.proofs.ValidMoves.{reachable_move, valid_move}

-- an axis that reads where it stands
abbrev pub plain_axis : Axis → Axis
plain_axis a = record a { reads = a.at }

-- a state of which it is forgotten what its coordinates read, and behind how many lines it is
abbrev pub plain : State → State
plain s = record s { x = plain_axis s.x; y = plain_axis s.y; z = plain_axis s.z; e_reads = pos 0; lines = 0 }

-- the ranges of a state, but for what its coordinates read
abbrev pub IsRanged : State → Type 0
IsRanged s = IsSound (plain s)

-- what an accepted word leaves, and its action
pub record IsFine (s : State) (next : State × Action) : Type 0 where
  pub ranged : IsRanged next.0
  pub valid : IsValidAction next.1

-- with other modes
with_modes : (s : State) (relative relative_e : Bool) (speed e a : ℕ) → IsSound s → speed ≤ 1000000000 → e ≤ 1000000000 → 1000000 ≤ e → 100000000 ≤ a → a ≤ 100000000000
    → IsSound (record s { relative = relative; relative_e = relative_e; speed_factor = speed; e_factor = e; acceleration = a })
with_modes s relative relative_e speed e a h speed_high e_high e_low a_low a_high = record {
  x = h.x;
  y = h.y;
  z = h.z;
  top = h.top;
  speed_factor = speed_high;
  e_factor = e_high;
  e_factor_low = e_low;
  acceleration_low = a_low;
  acceleration_high = a_high;
  count = h.count;
  lines = h.lines;
  e_at = h.e_at;
  e_reads = h.e_reads;
}

pub zero_within : (n : ℕ) → IsWithin n (pos 0)
zero_within n = record { below = omega (arith, ints); above = omega (arith, ints) }

-- a move
abbrev plain_aim : Aim → Aim
plain_aim aim = record aim { x = record { at = aim.x.at; reads = aim.x.at }; y = record { at = aim.y.at; reads = aim.y.at }; z = record { at = aim.z.at; reads = aim.z.at }; e = record { at = aim.e.at; reads = pos 0 } }

no_change : (a b : ℤ) → b -ℤ b ≡ a -ℤ a
no_change a b = omega (arith, ints)

moved_plain : (s : State) (aim : Aim) (has_feed : Bool) → IsRanged s → move_fault s aim has_feed ≡ None → IsSound (moved (plain s) (plain_aim aim))
unfolding moved moves
moved_plain s aim has_feed h none =
    let n = no_fault s aim has_feed none in
    record {
      x = steady_behind (plain_axis s.x) (record { at = aim.x.at; reads = aim.x.at }) h.x n.x (no_change s.x.at aim.x.at);
      y = steady_behind (plain_axis s.y) (record { at = aim.y.at; reads = aim.y.at }) h.y n.y (no_change s.y.at aim.y.at);
      z = steady_behind (plain_axis s.z) (record { at = aim.z.at; reads = aim.z.at }) h.z n.z (no_change s.z.at aim.z.at);
      top = h.top;
      speed_factor = h.speed_factor;
      e_factor = h.e_factor;
      e_factor_low = h.e_factor_low;
      acceleration_low = h.acceleration_low;
      acceleration_high = h.acceleration_high;
      count = count_on (moves s aim) s.count h.count n.room;
      lines = omega arith;
      e_at = e_on s.count (moves s aim) s.e_at aim.e.at h.e_at n.short (λ t. same_place s.e_at aim.e.at (stays (differs s.x.at aim.x.at) (differs s.y.at aim.y.at) (differs s.z.at aim.z.at) (differs s.e_at aim.e.at) true t));
      e_reads = zero_within (2 ^ 63 + 2 ^ 36 * (0 + 1));
    }

moved_ranged : (s : State) (aim : Aim) → IsSound (moved (plain s) (plain_aim aim)) → IsRanged (moved s aim)
unfolding moved moves
moved_ranged s aim h = record {
  x = h.x;
  y = h.y;
  z = h.z;
  top = h.top;
  speed_factor = h.speed_factor;
  e_factor = h.e_factor;
  e_factor_low = h.e_factor_low;
  acceleration_low = h.acceleration_low;
  acceleration_high = h.acceleration_high;
  count = h.count;
  lines = omega arith;
  e_at = h.e_at;
  e_reads = zero_within (2 ^ 63 + 2 ^ 36 * 0);
}

fault_plain : (s : State) (aim : Aim) (has_feed : Bool) → move_fault (plain s) (plain_aim aim) has_feed ≡ move_fault s aim has_feed
unfolding move_fault is_slow is_any_unhomed is_any_outside is_long is_too_many moves
fault_plain s aim has_feed = refl

moves_plain : (s : State) (aim : Aim) → moves (plain s) (plain_aim aim) ≡ moves s aim
unfolding moves
moves_plain s aim = refl

move_plain : (s : State) (aim : Aim) → move_of (plain s) (moved (plain s) (plain_aim aim)) ≡ move_of s (moved s aim)
unfolding moved unmeasured
move_plain s aim = refl

either_action : (b : Bool) (m : Move) → (b ≡ true → IsValidMove m × IsReachable m) → IsValidAction (if b then actions.Move m else actions.None)
either_action true m h = h refl
either_action false m h = tt

unless_fine : (s : State) (fault : Option StateFault) (next : State × Action) → (fault ≡ None → IsFine s next) → IfOk (unless fault next) (IsFine s)
unless_fine s None next h = h refl
unless_fine s (Some fault) next h = tt

linear_fine : (s : State) (letters : List (Option Given)) → IsRanged s → IfOk (linear s letters) (IsFine s)
unfolding linear
linear_fine s letters h =
    let aim = aim_of s letters in
    let has_feed = is_some (given_number letters 70) in
    unless_fine s (move_fault s aim has_feed) (moved s aim, if moves s aim then actions.Move (move_of s (moved s aim)) else actions.None) (λ none.
    let after = moved_plain s aim has_feed h none in
    record {
      ranged = moved_ranged s aim after;
      valid = either_action (moves s aim) (move_of s (moved s aim)) (λ moving. subst (λ m. IsValidMove m × IsReachable m) (move_plain s aim)
          (valid_move (plain s) (plain_aim aim) has_feed h after (fault_plain s aim has_feed ∙ none) (moves_plain s aim ∙ moving), reachable_move (plain s) (plain_aim aim) h after));
    })

-- a number in a range
record IsBetween (low high n : ℕ) : Type 0 where
  from : low ≤ n
  to : n ≤ high

tested : (low high n : ℕ) (b c : Bool) → b ≡ nat_le low n → c ≡ nat_le n high → IfOk (if b && c then Ok n else Err OutOfRange) (IsBetween low high)
tested low high n true true h k = record { from = grind (arith, nat_tests); to = grind (arith, nat_tests) }
tested low high n true false h k = tt
tested low high n false c h k = tt

in_range_between : (low high default : ℕ) (given : Option ℤ) → low ≤ default → default ≤ high → IfOk (in_range low high default given) (IsBetween low high)
in_range_between low high default None from to = record { from = from; to = to }
in_range_between low high default (Some (pos n)) from to = tested low high n (nat_le low n) (nat_le n high) refl refl
in_range_between low high default (Some (negsuc n)) from to = tt

bound_fine : {A : Type 0} (s : State) (P : A → Type 0) (r : Result A StateFault) (f : A → Result (State × Action) StateFault) → IfOk r P → ((x : A) → P x → IfOk (f x) (IsFine s)) → IfOk (r >>= f) (IsFine s)
bound_fine s P (Ok x) f h k = k x h
bound_fine s P (Err fault) f h k = tt

more_counted : (s : State) (more : ℕ) (b : Bool) → b ≡ nat_lt 2000000 (s.count + more) → IsRanged s → IfOk (if b then Err TooMany else Ok (record s { count = s.count + more })) IsRanged
more_counted s more true e h = tt
more_counted s more false e h = counted_sound (plain s) more h (grind (arith, nat_tests))

counted_ranged : (s : State) (more : ℕ) → IsRanged s → IfOk (with_count s more) IsRanged
counted_ranged s more h = more_counted s more (nat_lt 2000000 (s.count + more)) refl h

short_dwell : (p : ℕ) → p ≤ 3600000000000 → (p + 999999) / 1000000 ≤ 3600000
short_dwell p h = omega arith

dwell_fine : (s : State) (letters : List (Option Given)) → IsRanged s → IfOk (dwell s letters) (IsFine s)
unfolding dwell
dwell_fine s letters h =
    bound_fine s (IsBetween 0 3600000000000) (in_range 0 3600000000000 0 (given_number letters 80)) _ (in_range_between 0 3600000000000 0 (given_number letters 80) (omega arith) (omega arith))
    (λ p between. bound_fine s IsRanged (with_count s 1) _ (counted_ranged s 1 h) (λ t ranged. record { ranged = ranged; valid = short_dwell p between.to }))

homed_steady : (named : Bool) (a : Axis) → IsSteady (plain_axis a) → IsSteady (plain_axis (homed_if named a))
homed_steady false a h = h
homed_steady true a h = record {
  min = h.min;
  max = h.max;
  order = h.order;
  endstop = h.endstop;
  at = h.endstop;
  reads = let e : a.endstop -ℤ a.endstop ≡ pos 0 = omega (arith, ints) in rw e (zero_within (2 ^ 65));
}

homed_ranged : (s : State) (axes : List Bool) → IsRanged s → IsRanged (homed_by s axes)
homed_ranged s axes h = record {
  x = homed_steady (slice_index_or axes 0 false) s.x h.x;
  y = homed_steady (slice_index_or axes 1 false) s.y h.y;
  z = homed_steady (slice_index_or axes 2 false) s.z h.z;
  top = h.top;
  speed_factor = h.speed_factor;
  e_factor = h.e_factor;
  e_factor_low = h.e_factor_low;
  acceleration_low = h.acceleration_low;
  acceleration_high = h.acceleration_high;
  count = h.count;
  lines = h.lines;
  e_at = h.e_at;
  e_reads = h.e_reads;
}

home_fine : (s : State) (letters : List (Option Given)) → IsRanged s → IfOk (home s letters) (IsFine s)
unfolding home
home_fine s letters h =
    bound_fine s IsRanged (with_count s (axes_in (axes_of letters))) _ (counted_ranged s (axes_in (axes_of letters)) h) (λ t ranged. record { ranged = homed_ranged t (axes_of letters) ranged; valid = tt })

speed_fine : (s : State) (letters : List (Option Given)) → IsRanged s → IfOk (speed_factor s letters) (IsFine s)
unfolding speed_factor
speed_fine s letters h =
    bound_fine s (IsBetween 1000000 1000000000) (in_range 1000000 1000000000 100000000 (given_number letters 83)) _ (in_range_between 1000000 1000000000 100000000 (given_number letters 83) (omega arith) (omega arith))
    (λ f between. record { ranged = with_modes (plain s) s.relative s.relative_e f s.e_factor s.acceleration h between.to h.e_factor h.e_factor_low h.acceleration_low h.acceleration_high; valid = tt })

e_fine : (s : State) (letters : List (Option Given)) → IsRanged s → IfOk (e_factor s letters) (IsFine s)
unfolding e_factor
e_fine s letters h =
    bound_fine s (IsBetween 1000000 1000000000) (in_range 1000000 1000000000 100000000 (given_number letters 83)) _ (in_range_between 1000000 1000000000 100000000 (given_number letters 83) (omega arith) (omega arith))
    (λ f between. record { ranged = with_modes (plain s) s.relative s.relative_e s.speed_factor f s.acceleration h h.speed_factor between.to between.from h.acceleration_low h.acceleration_high; valid = tt })

acceleration_fine : (s : State) (letters : List (Option Given)) → IsRanged s → IfOk (acceleration s letters) (IsFine s)
unfolding acceleration
acceleration_fine s letters h =
    bound_fine s (IsBetween 100000000 100000000000) (in_range 100000000 100000000000 s.acceleration (given_number letters 83)) _ (in_range_between 100000000 100000000000 s.acceleration (given_number letters 83) h.acceleration_low h.acceleration_high)
    (λ a between. record { ranged = with_modes (plain s) s.relative s.relative_e s.speed_factor s.e_factor a h h.speed_factor h.e_factor h.e_factor_low between.from between.to; valid = tt })

set_fine : (s : State) (letters : List (Option Given)) → IsRanged s → IsFine s (readings_set s letters, actions.None)
unfolding readings_set
set_fine s letters h = record { ranged = h; valid = tt }

mode_fine : (s : State) (relative relative_e : Bool) → IsRanged s → IsFine s (record s { relative = relative; relative_e = relative_e }, actions.None)
mode_fine s relative relative_e h = record { ranged = with_modes (plain s) relative relative_e s.speed_factor s.e_factor s.acceleration h h.speed_factor h.e_factor h.e_factor_low h.acceleration_low h.acceleration_high; valid = tt }

command_fine : (s : State) (name : Command) (letters : List (Option Given)) → IsRanged s → IfOk (commanded s name letters) (IsFine s)
command_fine s names.G0 letters h = linear_fine s letters h
command_fine s names.G1 letters h = linear_fine s letters h
command_fine s names.G4 letters h = dwell_fine s letters h
command_fine s names.G28 letters h = home_fine s letters h
command_fine s names.G90 letters h = mode_fine s false s.relative_e h
command_fine s names.G91 letters h = mode_fine s true s.relative_e h
command_fine s names.G92 letters h = set_fine s letters h
command_fine s names.M82 letters h = mode_fine s s.relative false h
command_fine s names.M83 letters h = mode_fine s s.relative true h
command_fine s names.M112 letters h = record { ranged = h; valid = tt }
command_fine s names.M204 letters h = acceleration_fine s letters h
command_fine s names.M220 letters h = speed_fine s letters h
command_fine s names.M221 letters h = e_fine s letters h
command_fine s names.M400 letters h = record { ranged = h; valid = tt }

-- what any word leaves is in range again
pub word_fine : (s : State) (word : Word) → IsRanged s → IfOk (applied s word) (IsFine s)
word_fine s words.Blank h = record { ranged = h; valid = tt }
word_fine s words.Passed h = record { ranged = h; valid = tt }
word_fine s (words.Command name letters) h = command_fine s name letters h
