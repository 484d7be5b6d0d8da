-- Sections that are cut action by action.
use Rattle.std.specs.Prelude.{ℕ, ℤ, ◌+◌, Bool, List, [], ◌∷◌, ◌++◌}
use Rattle.plan_types.specs.declared.machine.Machine.{Machine}
use Rattle.gcode_state.specs.declared.state.Action.{Action}
use Rattle.gcode_state.specs.declared.state.Action.TheVariants as actions
use Rattle.gcode_state.specs.declared.state.State.{State}
use Rattle.gcode_state.specs.States.{coordinates_of}
use Rattle.gcode_program.specs.declared.cut.Cut.{Cut}
use Rattle.gcode_program.specs.Cuts.{closed, dwell_left, home_of, dwell_behind_home, is_named}
use Rattle.gcode_program.specs.Homes.{stood}

-- nothing cut yet
abbrev pub no_cut : Cut
no_cut = record { sections = []; moves = []; dwell = 0 }

-- the open piece ended
abbrev pub closed_cut : Cut → Cut
closed_cut c = record {
  sections = c.sections ++ closed c.dwell c.moves;
  moves = [];
  dwell =
      dwell_left c.dwell c.moves;
}

-- a section that homes one axis, where it is named
abbrev pub homed_one : Machine → List ℤ → ℕ → Cut → ℕ → Bool → Cut
homed_one m at acceleration c axis named =
    record {
      sections = c.sections ++ home_of m at acceleration c.dwell axis named;
      moves = c.moves;
      dwell = dwell_behind_home c.dwell named;
    }

-- the sections of a home
abbrev pub homed_cut : Machine → List ℤ → ℕ → Cut → List Bool → Cut
homed_cut m at acceleration c axes =
    let x = is_named axes 0 in
    let y = is_named axes 1 in
    homed_one m (stood m (stood m at 0 x) 1 y) acceleration
    (homed_one m (stood m at 0 x) acceleration (homed_one m at acceleration c 0 x) 1 y) 2 (is_named axes 2)

-- the cut behind one more action, before which the lines left a state
abbrev pub taken : Machine → Cut → State → Action → Cut
taken m c s actions.None = c
taken m c s (actions.Move one) = record c { moves = c.moves ++ one ∷ [] }
taken m c s (actions.Dwell ms) =
    record { sections = c.sections ++ closed c.dwell c.moves; moves = []; dwell = dwell_left c.dwell c.moves + ms }
taken m c s actions.Wait = closed_cut c
taken m c s actions.Stop = closed_cut c
taken m c s (actions.Home axes) = homed_cut m (coordinates_of s) s.acceleration (closed_cut c) axes
