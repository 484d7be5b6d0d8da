-- The plan of a stepper, from what is found at its places.
use Rattle.std.proofs.Common.{◌≡◌, ℕ, ◌*◌, ◌<◌, List, [], length, subst, sym, map, get_or, refl, ap, ◌∙◌, arith}
use Rattle.std.proofs.lemmas.List.{get_or_default}
use Rattle.plan_types.specs.declared.machine.Machine.{Machine}
use Rattle.plan_types.specs.declared.machine.StepperDef.{StepperDef}
use Rattle.plan_types.specs.declared.plan.Move.{Move}
use Rattle.plan_types.specs.Clock.{turn_ns}
use Rattle.plan_types.specs.Lines.{Clocks, lines_tick, one_line}
use Rattle.plan_types.specs.Machines.{stepper_at, no_stepper}
use Rattle.plan_types.specs.Plan.{planned_steps}
use Rattle.plan_types.specs.Sections.{clocks_at, segment_of, stepper_plan, timed_moves}
use Rattle.plan_types.specs.Speeds.{greatest_speeds}
use Rattle.section_plan.specs.Runs.{HaveOneLine, IsPlannable, IsReadyBoard}

same-plan : (m : Machine) (clocks : List Clocks) (moves : List Move) (speeds : List ℕ) (turn s : ℕ) (stepper : StepperDef) (lines : Clocks) → stepper ≡ stepper_at m s → lines ≡ clocks_at clocks (stepper_at m s).board → speeds ≡ greatest_speeds moves m.scv → planned_steps stepper.gear lines (map (segment_of m.corexy stepper.drive lines.first) (timed_moves m.cruise moves speeds (turn * turn_ns))) (lines_tick lines (turn * turn_ns)) ≡ stepper_plan m clocks moves turn s
same-plan m clocks moves speeds turn s stepper lines a b e = rw (b, a, e) refl

-- the clock lines of a stepper's board
board-found : (m : Machine) (clocks : List Clocks) (moves : List Move) (turn s : ℕ) (stepper : StepperDef) (lines : Clocks) → IsPlannable m clocks moves turn → s < length m.steppers → stepper ≡ get_or m.steppers s stepper → lines ≡ get_or clocks stepper.board lines → lines ≡ clocks_at clocks (stepper_at m s).board
board-found m clocks moves turn s stepper lines ready there read clock =
    let here : stepper ≡ stepper_at m s = read ∙ get_or_default m.steppers s stepper no_stepper there in
    let board : stepper.board ≡ (stepper_at m s).board = ap (λ (t : StepperDef). t.board) here in
    let low = (ready.machine.steppers s there).board in
    let count = ready.boards in
    clock ∙ get_or_default clocks stepper.board lines (one_line (record { at = 0; clock = 0; freq = 0 })) (omega (arith, board, low, count)) ∙ ap (clocks_at clocks) board

pub board-ready : (m : Machine) (clocks : List Clocks) (moves : List Move) (turn s : ℕ) (stepper : StepperDef) (lines : Clocks) → IsPlannable m clocks moves turn → s < length m.steppers → stepper ≡ get_or m.steppers s stepper → lines ≡ get_or clocks stepper.board lines → IsReadyBoard lines turn (length moves)
board-ready m clocks moves turn s stepper lines ready there read clock =
    subst (λ (l : Clocks). IsReadyBoard l turn (length moves)) (sym (board-found m clocks moves turn s stepper lines ready there read clock)) (ready.lines (stepper_at m s).board (ready.machine.steppers s there).board).board

pub board-alone : (m : Machine) (clocks : List Clocks) (moves : List Move) (turn s : ℕ) (stepper : StepperDef) (lines : Clocks) → IsPlannable m clocks moves turn → s < length m.steppers → stepper ≡ get_or m.steppers s stepper → lines ≡ get_or clocks stepper.board lines → HaveOneLine m clocks → lines.held ≡ []
board-alone m clocks moves turn s stepper lines ready there read clock have =
    ap (λ (l : Clocks). l.held) (board-found m clocks moves turn s stepper lines ready there read clock) ∙ have (stepper_at m s).board (ready.machine.steppers s there).board

pub plan-is : (m : Machine) (clocks : List Clocks) (moves : List Move) (speeds : List ℕ) (turn s : ℕ) (stepper : StepperDef) (lines : Clocks) → IsPlannable m clocks moves turn → s < length m.steppers → stepper ≡ get_or m.steppers s stepper → lines ≡ get_or clocks stepper.board lines → speeds ≡ greatest_speeds moves m.scv → planned_steps stepper.gear lines (map (segment_of m.corexy stepper.drive lines.first) (timed_moves m.cruise moves speeds (turn * turn_ns))) (lines_tick lines (turn * turn_ns)) ≡ stepper_plan m clocks moves turn s
plan-is m clocks moves speeds turn s stepper lines ready there read clock e =
    same-plan m clocks moves speeds turn s stepper lines (read ∙ get_or_default m.steppers s stepper no_stepper there) (board-found m clocks moves turn s stepper lines ready there read clock) e
