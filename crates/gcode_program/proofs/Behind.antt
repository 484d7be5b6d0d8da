-- How far a reading has come.
use Rattle.std.proofs.Common.{◌≡◌, ℕ, ◌+◌, ◌≤◌, ◌<◌, ◌*◌, ◌-◌, ◌^◌, Bool, true, false, List, [], ◌∷◌, ◌++◌, length, refl, sym, ap, ◌∙◌, arith, append_assoc, Ok}
use Rattle.gcode_state.specs.States.{one_if}
use Rattle.plan_types.specs.declared.cause.LineKind.{LineKind}
use Rattle.plan_types.specs.declared.machine.Machine.{Machine}
use Rattle.plan_types.specs.declared.plan.Move.{Move}
use Rattle.plan_types.specs.declared.plan.Section.{Section}
use Rattle.plan_types.specs.declared.plan.ReadStop.{ReadStop}
use Rattle.gcode_state.specs.declared.state.State.{State}
use Rattle.gcode_state.specs.declared.state.Action.{Action}
use Rattle.gcode_state.specs.declared.state.Action.TheVariants as actions
use Rattle.gcode_program.specs.declared.cut.Cut.{Cut}
use Rattle.gcode_program.specs.Readings.{Deed, Outcome, behind_action, deed_of, outcome, line_result, is_passed, is_stop}
use Rattle.gcode_program.specs.Cuts.{sections_of}
use Rattle.gcode_program.specs.Taken.{taken}

-- an action that is taken, and those behind it
pub taken_joined : (m : Machine) (c : Cut) (s : State) (a : Action) (rest : List Deed) → (taken m c s a).sections ++ sections_of m (taken m c s a).dwell (taken m c s a).moves rest ≡ c.sections ++ sections_of m c.dwell c.moves (deed_of s a ∷ rest)
taken_joined m c s actions.None rest = refl
taken_joined m c s (actions.Move one) rest = refl
taken_joined m c s (actions.Dwell ms) rest = simp append_assoc
taken_joined m c s actions.Wait rest = simp append_assoc
taken_joined m c s actions.Stop rest = simp append_assoc
taken_joined m c s (actions.Home axes) rest = simp append_assoc

-- what is read so far, and what is still to come, are the whole
pub record IsBehind (m : Machine) (whole coming : Outcome) (c : Cut) (lines passed : ℕ) : Type 0 where
  pub sections : c.sections ++ sections_of m c.dwell c.moves coming.deeds ≡ sections_of m 0 [] whole.deeds
  pub count : lines + length coming.deeds ≡ length whole.deeds
  pub passed_is : passed + coming.passed ≡ whole.passed
  pub stop : coming.stop ≡ whole.stop

pub goes_on : (number : ℕ) (p : Bool) (s : State) (a : Action) (o : Outcome) → is_stop a ≡ false → behind_action number p s a o ≡ record { deeds = deed_of s a ∷ o.deeds; passed = one_if p + o.passed; stop = o.stop }
goes_on number p s actions.None o h = refl
goes_on number p s (actions.Move m) o h = refl
goes_on number p s (actions.Dwell ms) o h = refl
goes_on number p s actions.Wait o h = refl
goes_on number p s (actions.Home axes) o h = refl
goes_on number p s actions.Stop o h = absurd cc

pub stepped : (m : Machine) (whole o : Outcome) (c : Cut) (s : State) (a : Action) (p : Bool) (number lines passed : ℕ) → is_stop a ≡ false → IsBehind m whole (behind_action number p s a o) c lines passed → IsBehind m whole o (taken m c s a) (lines + 1) (passed + one_if p)
stepped m whole o c s a p number lines passed on was =
    let e = goes_on number p s a o on in
    record {
      sections = taken_joined m c s a o.deeds ∙ rw e at was.sections;
      count = let h = rw e at was.count in omega arith;
      passed_is = let h = rw e at was.passed_is in omega arith;
      stop = rw e at was.stop;
    }

-- a line that is accepted and asks for no stop
pub line_stepped : (m : Machine) (size start : ℕ) (s t : State) (line : List ℕ) (more all : List (List ℕ)) (whole : Outcome) (c : Cut) (a : Action) (p : Bool) (lines passed : ℕ) → all ≡ line ∷ more
    → line_result size start s line ≡ Ok (t, a) → p ≡ is_passed line → is_stop a ≡ false → IsBehind m whole (outcome size s (lines + 1) start all) c lines passed
    → IsBehind m whole (outcome size t (lines + 1 + 1) (start + (length line + 1)) more) (taken m c s a) (lines + 1) (passed + one_if p)
line_stepped m size start s t line more all whole c a p lines passed split accepted is on was =
    rw is (stepped m whole (outcome size t (lines + 1 + 1) (start + (length line + 1)) more) c s a (is_passed line) (lines + 1) lines passed on (rw (split, accepted) at was))
