-- The sections of any text can be planned.
use Rattle.std.proofs.Common.{◌≡◌, ℕ, ◌+◌, Bool, true, false, List, [], ◌∷◌, ◌++◌, length, Ok, Err, refl, subst, sym, arith}
use Rattle.std.specs.Prelude.{IfOk, Result}
use Rattle.text_core.specs.Lines.{lines_of}
use Rattle.plan_types.specs.declared.cause.LineKind.{LineKind}
use Rattle.plan_types.specs.declared.machine.Machine.{Machine}
use Rattle.plan_types.specs.declared.plan.Section.{Section}
use Rattle.plan_types.specs.Machines.{IsValidMachine}
use Rattle.gcode_state.specs.declared.state.Action.{Action}
use Rattle.gcode_state.specs.declared.state.Action.TheVariants as actions
use Rattle.gcode_state.specs.declared.state.State.{State}
use Rattle.gcode_state.specs.Starts.{initial}
use Rattle.gcode_program.specs.declared.cut.Cut.{Cut}
use Rattle.gcode_program.specs.Cuts.{closed, dwell_left, sections_of}
use Rattle.gcode_program.specs.Held.{ArePlannable, AreSectionsHeld}
use Rattle.gcode_program.specs.Programs.{outcome_of, program_sections}
use Rattle.gcode_program.specs.Readings.{Outcome, behind_action, behind_line, is_passed, is_stop, line_result, outcome}
use Rattle.gcode_program.specs.Taken.{no_cut, taken}
use Rattle.gcode_program.proofs.Behind.{goes_on, taken_joined}
use Rattle.gcode_program.proofs.Holding.{closed_held, nothing_held, plannable, taken_held}
use Rattle.gcode_program.proofs.Homing.{state_room}
use Rattle.gcode_state.proofs.Ranging.{IsRanged}
use Rattle.gcode_program.proofs.Ranging.{IsAccepted, initial_ranged, line_accepted}

-- the sections of a cut, and of the deeds behind it
abbrev sections_on : Machine → Cut → Outcome → List Section
sections_on m c o = c.sections ++ sections_of m c.dwell c.moves o.deeds

-- what lines behind a state and a cut make can be planned
abbrev CanGoOn : Machine → (State → Outcome) → Type 0
CanGoOn m rest = (t : State) (c : Cut) → IsRanged t → AreSectionsHeld c.sections c.moves c.dwell t.count → ArePlannable (sections_on m c (rest t))

cut_plannable : (c : Cut) (count : ℕ) → AreSectionsHeld c.sections c.moves c.dwell count → ArePlannable (c.sections ++ closed c.dwell c.moves)
cut_plannable c count held = plannable (c.sections ++ closed c.dwell c.moves) (dwell_left c.dwell c.moves) count (closed_held c.sections c.moves c.dwell count held)

by_action : (m : Machine) (number : ℕ) (p : Bool) (s t : State) (a : Action) (c : Cut) (rest : State → Outcome) (stops : Bool) → is_stop a ≡ stops → IsRanged t → AreSectionsHeld (taken m c s a).sections (taken m c s a).moves (taken m c s a).dwell t.count → CanGoOn m rest → ArePlannable (sections_on m c (behind_action number p s a (rest t)))
by_action m number p s t a c rest false e ranged held ih =
    subst (λ (o : Outcome). ArePlannable (sections_on m c o)) (sym (goes_on number p s a (rest t) e)) (subst ArePlannable (taken_joined m c s a (rest t).deeds) (ih t (taken m c s a) ranged held))
by_action m number p s t actions.Stop c rest true e ranged held ih = subst ArePlannable (taken_joined m c s actions.Stop []) (cut_plannable (taken m c s actions.Stop) t.count held)
by_action m number p s t actions.None c rest true e ranged held ih = absurd cc
by_action m number p s t (actions.Move one) c rest true e ranged held ih = absurd cc
by_action m number p s t (actions.Dwell ms) c rest true e ranged held ih = absurd cc
by_action m number p s t actions.Wait c rest true e ranged held ih = absurd cc
by_action m number p s t (actions.Home axes) c rest true e ranged held ih = absurd cc

by_line : (m : Machine) (number : ℕ) (p : Bool) (s : State) (r : Result (State × Action) LineKind) (c : Cut) (rest : State → Outcome) → IsValidMachine m → IsRanged s → AreSectionsHeld c.sections c.moves c.dwell s.count → IfOk r (IsAccepted s) → CanGoOn m rest → ArePlannable (sections_on m c (behind_line number p s r rest))
by_line m number p s (Err kind) c rest valid ranged held accepted ih = cut_plannable c s.count held
by_line m number p s (Ok next) c rest valid ranged held accepted ih =
    let d = taken m c s next.1 in
    let few = accepted.ranged.count in
    let count = accepted.count in
    by_action m number p s next.0 next.1 c rest (is_stop next.1) refl accepted.ranged
    (subst (λ n. AreSectionsHeld d.sections d.moves d.dwell n) (sym count) (taken_held m c s next.1 s.count valid (state_room _ ranged) held accepted.valid (omega (arith, few, count)))) ih

lines_plannable : (m : Machine) (size : ℕ) → IsValidMachine m → (lines : List (List ℕ)) (number start : ℕ) → CanGoOn m (λ s. outcome size s number start lines)
lines_plannable m size valid [] number start = λ s c ranged held. cut_plannable c s.count held
lines_plannable m size valid (line ∷ lines) number start = λ s c ranged held.
    by_line m number (is_passed line) s (line_result size start s line) c (λ t. outcome size t (number + 1) (start + (length line + 1)) lines) valid ranged held (line_accepted size start s line ranged) (lines_plannable m size valid lines (number + 1) (start + (length line + 1)))

-- Whatever bytes a text has, its sections can be planned.
pub sections_plannable : (m : Machine) (text : List ℕ) → IsValidMachine m → ArePlannable (program_sections m text)
unfolding outcome_of initial
sections_plannable m text valid = lines_plannable m (length text) valid (lines_of text) 1 0 (initial m) no_cut (initial_ranged m valid) nothing_held
