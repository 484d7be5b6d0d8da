-- The sections of a text that home do so with one of the three axes.
use Rattle.std.proofs.Common.{◌≡◌, ℕ, zero, suc, ◌+◌, ◌<◌, Bool, true, false, ℤ, List, [], ◌∷◌, ◌++◌, map, take, sym, subst, arith, rules}
use Rattle.laws_board.proofs.Names.{Machine, Move, Section, SectionKind, Home, Moves, Started}
use Rattle.gcode_state.specs.declared.state.Action.{Action}
use Rattle.gcode_state.specs.declared.state.Action.TheVariants as actions
use Rattle.gcode_state.specs.declared.state.State.{State}
use Rattle.gcode_state.specs.States.{coordinates_of}
use Rattle.gcode_program.specs.Cuts.{closed, home_of, homes, is_named, dwell_left, dwell_behind_home, left_by_homes, sections_by, sections_of}
use Rattle.gcode_program.specs.Homes.{stood}
use Rattle.gcode_program.specs.Readings.{Deed}

-- a section of moves, or of one of three axes
abbrev pub HasAxis : SectionKind → Type 0
HasAxis Moves = Unit {0}
HasAxis (Home axis) = axis < 3

abbrev pub HaveAxes : List Section → Type 0
HaveAxes [] = Unit {0}
HaveAxes (s ∷ sections) = HasAxis s.kind × HaveAxes sections

axes_both : (xs ys : List Section) → HaveAxes xs → HaveAxes ys → HaveAxes (xs ++ ys)
axes_both [] ys a b = b
axes_both (x ∷ xs) ys a b = (a.0, axes_both xs ys a.1 b)

closed_axes : (dwell : ℕ) (moves : List Move) → HaveAxes (closed dwell moves)
closed_axes dwell [] = tt
closed_axes dwell (m ∷ moves) = (tt, tt)

home_axes : (m : Machine) (at : List ℤ) (a dwell axis : ℕ) (named : Bool) → axis < 3 → HaveAxes (home_of m at a dwell axis named)
home_axes m at a dwell axis true low = (low, tt)
home_axes m at a dwell axis false low = tt

homes_axes : (m : Machine) (at : List ℤ) (a dwell : ℕ) (axes : List Bool) → HaveAxes (homes m at a dwell axes)
homes_axes m at a dwell axes = search (rules, axes_both, home_axes)

by_axes : (m : Machine) (dwell : ℕ) (moves : List Move) (s : State) (a : Action) (rest : ℕ → List Move → List Section) → ((d : ℕ) (ms : List Move) → HaveAxes (rest d ms)) → HaveAxes (sections_by m dwell moves s a rest)
by_axes m dwell moves s a rest p6 = search (rules, axes_both, closed_axes, homes_axes)

-- those that are cut from deeds
pub have_axes : (m : Machine) (dwell : ℕ) (moves : List Move) (deeds : List Deed) → HaveAxes (sections_of m dwell moves deeds)
have_axes m dwell moves [] = closed_axes dwell moves
have_axes m dwell moves (d ∷ deeds) = by_axes m dwell moves d.before d.action (λ left_dwell left_moves. sections_of m left_dwell left_moves deeds) (λ e ms. have_axes m e ms deeds)

take_axes : (n : ℕ) (ss : List Section) → HaveAxes ss → HaveAxes (take n ss)
take_axes zero ss h = tt
take_axes (suc n) [] h = tt
take_axes (suc n) (s ∷ ss) h = (h.0, take_axes n ss h.1)

axis_in : (past : List Started) (s : Started) (later : List Started) (axis : ℕ) → HaveAxes (map (λ x. x.section) (past ++ s ∷ later)) → s.section.kind ≡ Home axis → axis < 3
axis_in [] s later axis h home = subst HasAxis home h.0
axis_in (x ∷ past) s later axis h home = axis_in past s later axis h.1 home

-- that of a section that was begun
pub axis_low : (m : Machine) (n : ℕ) (deeds : List Deed) (past : List Started) (s : Started) (later : List Started) (axis : ℕ) → map (λ x. x.section) (past ++ s ∷ later) ≡ take n (sections_of m 0 [] deeds) → s.section.kind ≡ Home axis → axis < 3
axis_low m n deeds past s later axis are home = axis_in past s later axis (subst HaveAxes (sym are) (take_axes n (sections_of m 0 [] deeds) (have_axes m 0 [] deeds))) home
