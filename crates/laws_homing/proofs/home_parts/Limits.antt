-- The units of a turn keep their limit in a run in which axes home.
use Rattle.std.proofs.Common.{ℕ, ◌+◌, ◌≤◌, List, [], ◌∷◌, ◌++◌, length, Option, subst, arith}
use Rattle.laws_board.proofs.Names.{Clocks, orders, Orders}
use Rattle.link_work.proofs.Limits.{units_bytes}
use Rattle.laws_board.specs.turns.Turns.{BoardTurn}
use Rattle.laws_board.specs.clocks.Runs.{UnitsFit, orders_in}
use Rattle.laws_board.proofs.clocks.Orders.{order_length}
use Rattle.laws_board.specs.sections.Homes.{AreSoon, IsHomeRun, RunSection}
use Rattle.laws_board.proofs.sections.HomeLimits.{home_few}
use Rattle.laws_board.proofs.sections.Latest.{AreFew}
use Rattle.laws_board.proofs.sections.Limiting.{text_sum}
use Rattle.laws_homing.proofs.home_runs.Settled.{later_orders}

few_both : (xs ys : List Orders) → AreFew (xs ++ ys) → AreFew xs × AreFew ys
few_both [] ys a = (tt, a)
few_both (x ∷ xs) ys a = let r = few_both xs ys a.1 in ((a.0, r.0), r.1)

fit_of : (turns : List BoardTurn) → AreFew (orders_in turns) → UnitsFit turns
fit_of [] a = tt
fit_of (t ∷ before) a =
    let r = few_both (orders_in before) (orders t.control t.batch ∷ []) a in
    let us = t.batch.units in
    ((let few = r.1.0 in omega (arith, few, units_bytes us, text_sum us)), fit_of before r.0)

pub turns_fit : (own : ℕ → ℕ) (clocks : Clocks) (freq slots ready by : ℕ) (stops : ℕ → Option ℕ) (ss : List RunSection) (later turns : List BoardTurn) → IsHomeRun own clocks freq slots ready stops ss (orders_in (later ++ turns)) → AreSoon by ss
    → length turns ≤ by + 1 → UnitsFit turns
turns_fit own clocks freq slots ready by stops ss later turns h soon low =
    let more = later_orders later turns in
    let long = order_length turns in
    fit_of turns (home_few own clocks freq slots ready by stops ss (orders_in turns) more.0 (subst (λ (os : List Orders). IsHomeRun own clocks freq slots ready stops ss os) more.1 h) soon (omega (arith, long, low)))
