-- In a run in which axes home the stepper of the first unit that comes too late isn't halted when its board takes that.
use Rattle.std.proofs.Common.{◌≡◌, ℕ, ◌+◌, ◌-◌, ◌≤◌, false, List, [], ◌∷◌, ◌++◌, length, refl, ap, sym, subst, arith, inl, inr}
use Rattle.plan_types.specs.Sections.{is_home}
use Rattle.laws_board.proofs.Names.{Level, Machine, Planned, SectionKind, Home, Moves, clock_of, Clocks, IsValidMachine, board_at, Cmd, State, Entry, Switch, Release, new_world, BoardSection, AreTurns, first_state, LinkState, Came, Started}
use Rattle.laws_board.specs.turns.Turns.{BoardTurn}
use Rattle.laws_board.specs.clocks.Runs.{IsInRun, orders_in}
use Rattle.laws_board.proofs.clocks.Orders.{order_length}
use Rattle.laws_board.specs.sections.Courses.{AllHeed, Course, courses}
use Rattle.laws_board.specs.sections.Homes.{BeginLeftOf, IsBegunFor, IsHomeRun, IsLeftOf, IsSplitIn, lost_at}
use Rattle.laws_board.specs.sections.Known.{Sent, sent_in}
use Rattle.laws_board.specs.sections.Links.{steps_of}
use Rattle.laws_board.proofs.sections.Stepping.{none_heed}
use Rattle.laws_board.specs.plans.Homed.{stops_of}
use Rattle.laws_homing.specs.home_parts.Cuts.{cuts_on}
use Rattle.laws_homing.specs.home_plans.Notes.{CameNotes}
use Rattle.laws_board.specs.plans.Rows.{AreInARow}
use Rattle.laws_homing.specs.home_runs.Ended.{AreToldIn}
use Rattle.laws_homing.proofs.home_runs.Homed.{all_homed}
use Rattle.laws_board.proofs.plans.Rows.{row_from}
use Rattle.laws_run.specs.home_wholes.Still.{IsStillIn}
use Rattle.laws_run.proofs.home_wholes.Between.{still_between}
use Rattle.laws_run.proofs.home_wholes.Heeding.{still_heeds}
use Rattle.laws_run.proofs.home_wholes.Phases.{AllBefore}
use Rattle.laws_run.proofs.home_wholes.Section.{among_before, before_in}
use Rattle.motion_stream.proofs.ByKind.{moves_kind}

-- the section of that unit
pub record Left (m : Machine) (clocks : List Clocks) (until b : ℕ) (begun : List Started) (cs : ℕ → Course) (turn : ℕ) (c : Cmd) : Type 0 where
  pub past : List Started
  pub x : Started
  pub later : List Started
  pub are : begun ≡ past ++ x ∷ later
  pub moves : x.section.kind ≡ Moves
  pub at : turn ≡ x.end + 5
  pub begins : IsBegunFor (x.start - 250) cs c

pub left_at : (m : Machine) (clocks : List Clocks) (until b : ℕ) (begun : List Started) (cs : ℕ → Course) (turn : ℕ) (c : Cmd) → IsLeftOf (cuts_on m clocks until begun b) cs turn c → Left m clocks until b begun cs turn c
left_at m clocks until b [] cs turn c l = absurd l
left_at m clocks until b (x ∷ begun) cs turn c (inl l) = record { past = []; x = x; later = begun; are = refl; moves = moves_kind x.section.kind l.0; at = l.1; begins = l.2 }
left_at m clocks until b (x ∷ begun) cs turn c (inr l) =
    let y = left_at m clocks until b begun cs turn c l.1 in
    record { past = x ∷ y.past; x = y.x; later = y.later; are = ap (λ (z : List Started). x ∷ z) y.are; moves = y.moves; at = y.at; begins = y.begins }

-- A board in a run, whose part of it is one in which axes home, and whose homing sections that have ended were told of.
module _ (m : Machine) (v : IsValidMachine m) (switches : List Switch) (pins : List (List Level)) (entries : List Entry) (b freq slots ready first until : ℕ) (own : ℕ → ℕ) (line : Clocks) (clocks : List Clocks) (begun : List Started) (came : List Came)
    (turns : List BoardTurn) (home : IsHomeRun own line freq slots ready (stops_of begun) (cuts_on m clocks until begun b) (orders_in turns)) (split : IsSplitIn own (stops_of begun) slots (cuts_on m clocks until begun b) (orders_in turns))
    (told : AreToldIn m switches pins entries b (stops_of begun) (cuts_on m clocks until begun b) turns) (run : IsInRun m switches pins entries b came turns) (notes : CameNotes begun came) (far : 260 ≤ first) (row : AreInARow first begun) where
  -- it is still in a section of moves before the first unit that comes too late
  pub still_at : (past : List Started) (x : Started) (later : List Started) → begun ≡ past ++ x ∷ later → x.section.kind ≡ Moves → x.start ≤ length turns + 250 → x.start ≤ lost_at (length (orders_in turns)) split.tail + 250
      → (sections : List BoardSection) (plan : ℕ → List Planned) (releases : List Release) (states : List State)
      → IsStillIn b entries (record { start = x.start; end = x.end; plan = plan; releases = releases }) (record { board = board_at m b; pins = pins; clocks = line; sections = sections; orders = orders_in turns; states = states })
  still_at past x later are moves upto soon sections plan releases states =
      still_between m switches pins entries b first begun past x later came turns v run notes far row (lost_at (length (orders_in turns)) split.tail)
      (all_homed m switches pins entries b freq slots ready own line (stops_of begun) (cuts_on m clocks until begun b) turns home split told) are moves upto soon line sections plan releases states

  heeds_by : (front tail : List Sent) → front ++ tail ≡ sent_in 0 (orders_in turns) → split.tail ≡ tail → BeginLeftOf (length (orders_in turns)) (cuts_on m clocks until begun b) (courses front) tail
      → (end : LinkState) (t : AreTurns (clock_of (board_at m b)) 0 (orders_in turns) (first_state (board_at m b) pins b entries) end)
      → AllHeed front tail (new_world (board_at m b) pins) (steps_of (clock_of (board_at m b)) 0 (orders_in turns) (first_state (board_at m b) pins b entries) end t)
  heeds_by front [] are at left end t = none_heed front [] (steps_of (clock_of (board_at m b)) 0 (orders_in turns) (first_state (board_at m b) pins b entries) end t) (new_world (board_at m b) pins) refl
  heeds_by front (s ∷ tail) are at left end t =
      let y = left_at m clocks until b begun (courses front) s.turn s.order.command left in
      let turn = y.at in
      let now = ap (lost_at (length (orders_in turns))) at in
      let Row : List Started → Type 0 = λ z. AreInARow first z in
      let order = (row_from first y.past y.x y.later (subst Row y.are row)).1 in
      let size = order_length turns in
      let n = length (orders_in turns) in
      let here = among_before n front s tail (subst (λ (z : List Sent). AllBefore n z) (sym are) (before_in 0 n (orders_in turns) (omega arith))) in
      let still = still_at y.past y.x y.later y.are y.moves (omega (arith, here, size, turn, order)) (omega (arith, turn, now, order)) [] (λ _. []) [] [] in
      still_heeds b entries (record { board = board_at m b; pins = pins; clocks = line; sections = []; orders = orders_in turns; states = [] }) (record { start = y.x.start; end = y.x.end; plan = λ _. []; releases = [] }) still front tail s are turn order y.begins end t

  -- so what its board takes first of the units that come too late finds its stepper free
  pub board_heeds : (end : LinkState) (t : AreTurns (clock_of (board_at m b)) 0 (orders_in turns) (first_state (board_at m b) pins b entries) end)
      → AllHeed split.front split.tail (new_world (board_at m b) pins) (steps_of (clock_of (board_at m b)) 0 (orders_in turns) (first_state (board_at m b) pins b entries) end t)
  board_heeds end t = heeds_by split.front split.tail split.are refl split.begun end t
