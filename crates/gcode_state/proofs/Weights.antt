-- How the count of a file rises with each action.
use Rattle.std.proofs.Common.{◌≡◌, ℕ, ◌+◌, Bool, true, false, List, Option, Some, None, refl, sym, subst, ap, arith, if◌then◌else◌, nat_lt}
use Rattle.std.specs.Prelude.{Result, Ok, Err, IfOk, is_some}
use Rattle.gcode_text.specs.declared.word.Given.{Given}
use Rattle.gcode_text.specs.declared.word.Command.{Command}
use Rattle.gcode_text.specs.declared.word.Command.TheVariants as names
use Rattle.gcode_text.specs.declared.word.Word.{Word}
use Rattle.gcode_text.specs.declared.word.Word.TheVariants as words
use Rattle.gcode_state.specs.declared.state.State.{State}
use Rattle.gcode_state.specs.declared.state.Action.{Action}
use Rattle.gcode_state.specs.declared.state.Action.TheVariants as actions
use Rattle.gcode_state.specs.declared.state.StateFault.{StateFault}
use Rattle.gcode_state.specs.declared.state.StateFault.TheVariants.{TooMany}
use Rattle.gcode_state.specs.States.{given_number, aim_of, moves, move_fault, moved, move_of, unless, linear, in_range, ◌>>=◌, dwell, axes_of, axes_in, home, speed_factor, e_factor, acceleration, readings_set, commanded, applied, weight}

-- where a word is accepted, the count rises by the weight of its action
abbrev pub IsCounted : State → Result (State × Action) StateFault → Type 0
IsCounted s r = IfOk r (λ next. next.0.count ≡ s.count + weight next.1)

stays : (s t : State) → t.count ≡ s.count → t.count ≡ s.count + 0
stays s t h = omega arith

unless_counted : (s : State) (fault : Option StateFault) (next : State × Action) → next.0.count ≡ s.count + weight next.1 → IsCounted s (unless fault next)
unless_counted s None next h = h
unless_counted s (Some fault) next h = tt

after_move : (s t : State) (m : Action) (b : Bool) → weight m ≡ 1 → t.count ≡ (if b then s.count + 1 else s.count) → t.count ≡ s.count + weight (if b then m else actions.None)
after_move s t m true one h = rw one h
after_move s t m false one h = stays s t h

linear_counted : (s : State) (letters : List (Option Given)) → IsCounted s (linear s letters)
unfolding linear moved
linear_counted s letters =
    let aim = aim_of s letters in
    unless_counted s (move_fault s aim (is_some (given_number letters 70))) (moved s aim, if moves s aim then actions.Move (move_of s (moved s aim)) else actions.None)
    (after_move s (moved s aim) (actions.Move (move_of s (moved s aim))) (moves s aim) refl refl)

bound_counted : {A : Type 0} (s : State) (r : Result A StateFault) (f : A → Result (State × Action) StateFault) → ((x : A) → IsCounted s (f x)) → IsCounted s (r >>= f)
bound_counted s (Ok x) f h = h x
bound_counted s (Err fault) f h = tt

more_counted : (s : State) (more : ℕ) (b : Bool) (f : State → Result (State × Action) StateFault) → IsCounted s (f (record s { count = s.count + more }))
    → IsCounted s ((if b then Err TooMany else Ok (record s { count = s.count + more })) >>= f)
more_counted s more true f h = tt
more_counted s more false f h = h

dwell_counted : (s : State) (letters : List (Option Given)) → IsCounted s (dwell s letters)
unfolding dwell
dwell_counted s letters = bound_counted s (in_range 0 3600000000000 0 (given_number letters 80)) _
    (λ p. more_counted s 1 (nat_lt 2000000 (s.count + 1)) _ refl)

home_counted : (s : State) (letters : List (Option Given)) → IsCounted s (home s letters)
unfolding home
home_counted s letters = more_counted s (axes_in (axes_of letters)) (nat_lt 2000000 (s.count + axes_in (axes_of letters))) _ refl

speed_counted : (s : State) (letters : List (Option Given)) → IsCounted s (speed_factor s letters)
unfolding speed_factor
speed_counted s letters = bound_counted s (in_range 1000000 1000000000 100000000 (given_number letters 83)) _ (λ factor. omega arith)

e_counted : (s : State) (letters : List (Option Given)) → IsCounted s (e_factor s letters)
unfolding e_factor
e_counted s letters = bound_counted s (in_range 1000000 1000000000 100000000 (given_number letters 83)) _ (λ factor. omega arith)

acceleration_counted : (s : State) (letters : List (Option Given)) → IsCounted s (acceleration s letters)
unfolding acceleration
acceleration_counted s letters = bound_counted s (in_range 100000000 100000000000 s.acceleration (given_number letters 83)) _ (λ a. omega arith)

readings_counted : (s : State) (letters : List (Option Given)) → (readings_set s letters).count ≡ s.count + 0
unfolding readings_set
readings_counted s letters = omega arith

command_counted : (s : State) (name : Command) (letters : List (Option Given)) → IsCounted s (commanded s name letters)
command_counted s names.G0 letters = linear_counted s letters
command_counted s names.G1 letters = linear_counted s letters
command_counted s names.G4 letters = dwell_counted s letters
command_counted s names.G28 letters = home_counted s letters
command_counted s names.G90 letters = omega arith
command_counted s names.G91 letters = omega arith
command_counted s names.G92 letters = readings_counted s letters
command_counted s names.M82 letters = omega arith
command_counted s names.M83 letters = omega arith
command_counted s names.M112 letters = omega arith
command_counted s names.M204 letters = acceleration_counted s letters
command_counted s names.M220 letters = speed_counted s letters
command_counted s names.M221 letters = e_counted s letters
command_counted s names.M400 letters = omega arith

word_counted : (s : State) (word : Word) → IsCounted s (applied s word)
word_counted s words.Blank = omega arith
word_counted s words.Passed = omega arith
word_counted s (words.Command name letters) = command_counted s name letters

pub accepted_counted : (s u t : State) (a : Action) (word : Word) → u ≡ s → Ok (t, a) ≡ applied u word → t.count ≡ s.count + weight a
accepted_counted s u t a word same accepted =
    let h : t.count ≡ u.count + weight a = subst (λ (r : Result (State × Action) StateFault). IsCounted u r) (sym accepted) (word_counted u word) in
    rw (ap (λ (v : State). v.count) same) at h
