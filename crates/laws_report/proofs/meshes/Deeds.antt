-- What the lines of the input do, as far as what is written for them depends on it.
use Rattle.std.proofs.Common.{◌≡◌, ℕ, ◌+◌, ◌≤◌, Bool, true, false, List, [], ◌∷◌, refl, subst, arith, if◌then◌else◌, nat_lt, rules}
use Rattle.std.specs.Prelude.{Result, Ok, Err, IfOk, ℤ, Option, Some, None, is_some, ◌||◌}
use Rattle.laws_board.proofs.Names.{nat_tests, Move}
use Rattle.std.proofs.lemmas.Int.{ints}
use Rattle.gcode_text.specs.declared.fault.FaultKind.{FaultKind}
use Rattle.gcode_text.specs.declared.word.Given.{Given}
use Rattle.gcode_text.specs.declared.word.Command.{Command}
use Rattle.gcode_text.specs.declared.word.Command.TheVariants as names
use Rattle.gcode_text.specs.declared.word.Word.{Word}
use Rattle.gcode_text.specs.declared.word.Word.TheVariants as words
use Rattle.gcode_text.specs.Lines.{reading}
use Rattle.gcode_state.specs.declared.state.State.{State}
use Rattle.gcode_state.specs.declared.state.Action.{Action}
use Rattle.gcode_state.specs.declared.state.Action.TheVariants as actions
use Rattle.gcode_state.specs.declared.state.StateFault.{StateFault}
use Rattle.gcode_state.specs.declared.state.StateFault.TheVariants.{TooMany}
use Rattle.gcode_state.specs.States.{given_number, aim_of, differs, moves, moved, move_fault, move_of, unless, unmeasured, linear, in_range, ◌>>=◌, dwell, axes_of, axes_in, home, is_named, speed_factor, e_factor, acceleration, readings_set, commanded, applied}
use Rattle.gcode_program.specs.Readings.{applied_line, applied_reading, as_kind}
use Rattle.bed_mesh.specs.BentLines.{at}
use Rattle.gcode_state.proofs.Accepted.{same_place}

-- a move goes on from where E stands, and is no faster than the machine
pub record IsDrawn (s t : State) (m : Move) : Type 0 where
  pub from : at m.from 3 ≡ s.e_at
  pub to : at m.to 3 ≡ t.e_at
  pub speed : m.v ≤ s.top

-- some axis is named
abbrev pub AreSome : List Bool → Type 0
AreSome axes = (x : Bool) × (y : Bool) × (z : Bool) × (axes ≡ x ∷ y ∷ z ∷ []) × ((x || (y || z)) ≡ true)

abbrev pub IsDone : State → State → Action → Type 0
IsDone s t (actions.Move m) = IsDrawn s t m
IsDone s t (actions.Home axes) = AreSome axes × (t.e_at ≡ s.e_at)
IsDone s t other = t.e_at ≡ s.e_at

-- what an accepted line does
pub record IsDeed (s t : State) (a : Action) : Type 0 where
  pub top : t.top ≡ s.top
  pub done : IsDone s t a

abbrev pub Does : State → Result (State × Action) StateFault → Type 0
Does s r = IfOk r (λ next. IsDeed s next.0 next.1)

unless_does : (s : State) (fault : Option StateFault) (next : State × Action) → IsDeed s next.0 next.1 → Does s (unless fault next)
unless_does s None next h = h
unless_does s (Some fault) next h = tt

stays : (a b c d : Bool) → (a || (b || (c || d))) ≡ false → d ≡ false
stays a b c d h = grind (arith, nat_tests)

slow : (n top : ℕ) → n ≤ top → n ≤ top
slow n top h = h

after_move : (s t : State) (m : Move) (b : Bool) → t.top ≡ s.top → IsDrawn s t m → (b ≡ false → t.e_at ≡ s.e_at) → IsDeed s t (if b then actions.Move m else actions.None)
after_move s t m true top drawn stays_there = record { top = top; done = drawn }
after_move s t m false top drawn stays_there = record { top = top; done = stays_there refl }

linear_does : (s : State) (letters : List (Option Given)) → Does s (linear s letters)
unfolding linear moved moves unmeasured
linear_does s letters =
    let aim = aim_of s letters in
    unless_does s (move_fault s aim (is_some (given_number letters 70))) (moved s aim, if moves s aim then actions.Move (move_of s (moved s aim)) else actions.None)
    (after_move s (moved s aim) (move_of s (moved s aim)) (moves s aim) refl (record { from = refl; to = refl; speed = omega arith })
    (λ h. same_place s.e_at aim.e.at (stays (differs s.x.at aim.x.at) (differs s.y.at aim.y.at) (differs s.z.at aim.z.at) (differs s.e_at aim.e.at) h)))

bound_does : {A : Type 0} (s : State) (r : Result A StateFault) (f : A → Result (State × Action) StateFault) → ((x : A) → Does s (f x)) → Does s (r >>= f)
bound_does s (Ok x) f h = h x
bound_does s (Err fault) f h = tt

more_does : (s : State) (more : ℕ) (b : Bool) (f : State → Result (State × Action) StateFault) → Does s (f (record s { count = s.count + more }))
    → Does s ((if b then Err TooMany else Ok (record s { count = s.count + more })) >>= f)
more_does s more true f h = tt
more_does s more false f h = h

dwell_does : (s : State) (letters : List (Option Given)) → Does s (dwell s letters)
unfolding dwell
dwell_does s letters = bound_does s (in_range 0 3600000000000 0 (given_number letters 80)) _
    (λ p. more_does s 1 (nat_lt 2000000 (s.count + 1)) _ (record { top = refl; done = refl }))

some_axes : (letters : List (Option Given)) → AreSome (axes_of letters)
unfolding axes_of
some_axes letters = go (is_named letters 88) (is_named letters 89) (is_named letters 90) where
  go : (x y z : Bool) → AreSome (if x || (y || z) then x ∷ y ∷ z ∷ [] else true ∷ true ∷ true ∷ [])
  go true y z = (true, y, z, refl, refl)
  go false true z = (false, true, z, refl, refl)
  go false false true = (false, false, true, refl, refl)
  go false false false = (true, true, true, refl, refl)

home_does : (s : State) (letters : List (Option Given)) → Does s (home s letters)
unfolding home
home_does s letters = more_does s (axes_in (axes_of letters)) (nat_lt 2000000 (s.count + axes_in (axes_of letters))) _ (record { top = refl; done = (some_axes letters, refl) })

speed_does : (s : State) (letters : List (Option Given)) → Does s (speed_factor s letters)
unfolding speed_factor
speed_does s letters = bound_does s (in_range 1000000 1000000000 100000000 (given_number letters 83)) _ (λ factor. record { top = refl; done = refl })

e_does : (s : State) (letters : List (Option Given)) → Does s (e_factor s letters)
unfolding e_factor
e_does s letters = bound_does s (in_range 1000000 1000000000 100000000 (given_number letters 83)) _ (λ factor. record { top = refl; done = refl })

acceleration_does : (s : State) (letters : List (Option Given)) → Does s (acceleration s letters)
unfolding acceleration
acceleration_does s letters = bound_does s (in_range 100000000 100000000000 s.acceleration (given_number letters 83)) _ (λ a. record { top = refl; done = refl })

readings_does : (s : State) (letters : List (Option Given)) → IsDeed s (readings_set s letters) actions.None
unfolding readings_set
readings_does s letters = record { top = refl; done = refl }

command_does : (s : State) (name : Command) (letters : List (Option Given)) → Does s (commanded s name letters)
command_does s name letters = search (rules, linear_does, dwell_does, home_does, readings_does, acceleration_does, speed_does, e_does)

word_does : (s : State) (word : Word) → Does s (applied s word)
word_does s (words.Command name letters) = command_does s name letters
word_does s c = record { top = refl; done = refl }

from_kind : (s t : State) (a : Action) (r : Result (State × Action) StateFault) → Does s r → as_kind r ≡ Ok (t, a) → IsDeed s t a
from_kind s t a (Ok next) h e = (let f : next.0 ≡ t = cc in let g : next.1 ≡ a = cc in subst (λ (b : Action). IsDeed s t b) g (subst (λ (u : State). IsDeed s u next.1) f h))
from_kind s t a (Err fault) h e = absurd cc

pub line_does : (s t : State) (line : List ℕ) (a : Action) → applied_line s line ≡ Ok (t, a) → IsDeed s t a
unfolding applied_line
line_does s t line a h = go (reading line) h where
  go : (r : Result Word FaultKind) → applied_reading s r ≡ Ok (t, a) → IsDeed s t a
  go (Ok word) e = from_kind s t a (applied s word) (word_does s word) e
  go (Err kind) e = absurd cc
