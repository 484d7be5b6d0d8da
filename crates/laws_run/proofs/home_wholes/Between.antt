-- Between homing sections, a board is still in the turns of a section of moves.
use Rattle.std.proofs.Common.{◌≡◌, ℕ, ◌+◌, ◌-◌, ◌≤◌, List, ◌∷◌, ◌++◌, length, take, ap, sym, ◌∙◌, subst, arith}
use Rattle.laws_board.proofs.Names.{Level, Machine, Planned, Moves, clock_of, Clocks, IsValidMachine, board_at, State, Entry, Switch, Release, BoardSection, AreTurns, first_state, LinkState, Orders, Came, Started}
use Rattle.laws_board.specs.turns.Turns.{BoardTurn, stands_after}
use Rattle.laws_board.specs.clocks.Runs.{IsInRun, orders_in}
use Rattle.laws_board.proofs.clocks.Lines.{as_long}
use Rattle.laws_board.specs.plans.Homed.{stops_of}
use Rattle.laws_homing.specs.home_runs.Settled.{AreHomed}
use Rattle.laws_homing.specs.home_plans.Notes.{CameNotes}
use Rattle.laws_board.specs.plans.Rows.{AreInARow}
use Rattle.laws_board.proofs.plans.Rows.{row_from}
use Rattle.laws_run.specs.home_wholes.Still.{IsStillAt, IsStillIn}
use Rattle.laws_run.proofs.home_wholes.Places.{Prefix, answered, brought, orders_front, prefix_of, stands_so, still_turns}
use Rattle.laws_run.proofs.home_wholes.Resting.{rests_at}
use Rattle.laws_homing.proofs.home_runs.Along.{homed_before}

module _ (m : Machine) (switches : List Switch) (pins : List (List Level)) (entries : List Entry) (b ready : ℕ) (begun past : List Started) (x : Started) (later : List Started) (came : List Came) (turns : List BoardTurn) (v : IsValidMachine m)
    (run : IsInRun m switches pins entries b came turns) (notes : CameNotes begun came) (far : 260 ≤ ready) (row : AreInARow ready begun) (until : ℕ) (homed : AreHomed m switches pins entries b until (stops_of begun) turns) (cut : begun ≡ past ++ x ∷ later)
    (moves : x.section.kind ≡ Moves) (upto : x.start ≤ length turns + 250) (soon : x.start ≤ until + 250) where
  front : Prefix m switches pins entries b (x.start - 250) begun turns
  front = prefix_of m switches pins entries b (x.start - 250) begun came turns run notes (omega (arith, upto))

  rests : IsStillAt (stands_after (first_state (board_at m b) pins b entries) front.past).core
  rests =
      let AreAt : List BoardTurn → Type 0 = λ z. AreHomed m switches pins entries b until (stops_of begun) z in
      let Row : List Started → Type 0 = λ z. AreInARow ready z in
      let before = homed_before m switches pins entries b until (stops_of begun) front.later front.past (subst AreAt front.are homed) in
      let r = front.run_is in
      let size = as_long m switches b front.came front.past r.both in
      let long = front.long in
      let starts = row_from ready past x later (subst Row cut row) in
      let start = starts.0 in
      let order = starts.1 in
      let all = answered m switches pins entries b ready begun past x later far row cut moves front.came (length front.past) r.goes_on front.notes (omega (arith, size)) (omega (arith, long, order)) (omega (arith, long, start, far)) in
      rests_at m switches pins entries b until (stops_of begun) front.came front.past (omega (arith, long, soon)) v r before all

  pub still_between : (clocks : Clocks) (sections : List BoardSection) (plan : ℕ → List Planned) (releases : List Release) (states : List State)
      → IsStillIn b entries (record { start = x.start; end = x.end; plan = plan; releases = releases }) (record { board = board_at m b; pins = pins; clocks = clocks; sections = sections; orders = orders_in turns; states = states })
  still_between clocks sections plan releases states = record {
    begins = λ l are.
        let clock = clock_of (board_at m b) in
        let first = first_state (board_at m b) pins b entries in
        let Turns : List Orders → Type 0 = λ os. AreTurns clock 0 os first l in
        let e : take (x.start - 250) (orders_in turns) ≡ orders_in front.past =
        ap (λ (z : List BoardTurn). take (x.start - 250) (orders_in z)) front.are ∙ ap (λ (k : ℕ). take k (orders_in (front.later ++ front.past))) (sym front.long) ∙ orders_front front.later front.past in
        let same = stands_so clock first front.past l front.run_is.turns_are (subst Turns e are) in
        let At : LinkState → Type 0 = λ z. IsStillAt z.core in
        subst At (sym same) rests;
    goes_on = λ n low high.
        brought (x.start - 250) n (orders_in turns) (still_turns m switches pins entries b ready begun past x later far row cut moves (x.start - 250) n (omega arith) high came turns run notes) low;
  }
