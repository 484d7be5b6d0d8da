-- As a homing section starts its board is less than half a round of the 32-bit clock past the turn in which its readings were ordered.
use Rattle.std.proofs.Common.{◌≡◌, ℕ, ◌+◌, ◌-◌, ◌*◌, ◌^◌, ◌<◌, ◌≤◌, List, [], ◌∷◌, ◌++◌, length, subst, arith}
use Rattle.laws_board.proofs.Names.{Machine, board_tick, clock_of, turn_ns, Clocks, lines_tick, IsValidMachine, board_at, clocks_at, Started}
use Rattle.laws_board.proofs.sections.HeededLinks.{ten_seconds}
use Rattle.laws_board.proofs.orders.Going.{own_on}
use Rattle.laws_homing.specs.home_parts.Cuts.{AreOverBefore}
use Rattle.laws_homing.specs.home_parts.Known.{StartInRange}
use Rattle.laws_board.specs.plans.Rows.{AreInARow}
use Rattle.laws_homing.proofs.home_parts.Cut.{over_late}
use Rattle.laws_board.proofs.plans.Rows.{row_from}
use Rattle.laws_run.proofs.clock_ages.Own.{Own}
use Rattle.laws_run.proofs.run_headline.Boarded.{valid_at}
use Rattle.laws_run.proofs.home_headline.Board.{Followed, end_at}
use Rattle.laws_homing.proofs.home_parts.Controls.{range_at}

pub starts_near : (m : Machine) (v : IsValidMachine m) (b turns ready first : ℕ) (clocks : List Clocks) (begun : List Started) → b < length m.boards → Followed m b turns clocks ready begun → AreInARow first begun → ready + 260 ≤ first
    → (past : List Started) (x : Started) (later : List Started) → begun ≡ past ++ x ∷ later → x.start ≤ turns + 1 → lines_tick (clocks_at clocks b) (x.start * turn_ns) < board_tick (clock_of (board_at m b)) (x.start - 250) + 2 ^ 31
starts_near m v b turns ready first clocks begun there l row early past x later cut within =
    let Row : List Started → Type 0 = λ z. AreInARow first z in
    let Ends : List Started → Type 0 = λ z. AreOverBefore m clocks l.tracked.until z in
    let at = row_from first past x later (subst Row cut row) in
    let start = at.0 in
    let over = end_at m clocks l.tracked.until past x later (subst Ends cut l.over) in
    let after = over_late x.section.kind m clocks x at.1 in
    let own = Own m b turns in
    let upto = own_on (board_at m b) (turns + 349) (turns + 349) (valid_at m.boards b there v.boards) (omega arith) in
    let same = upto.same (x.start - 250) (omega (arith, within)) in
    let ahead = l.tracked.ahead x.start (omega (arith, early, start)) (omega (arith, over, after)) in
    let far : x.start - 250 + (247 + 7) ≡ x.start + 4 = omega (arith, early, start) in
    let few = subst (λ (n : ℕ). own n < own (x.start - 250) + 2 ^ 31) far (ten_seconds (board_at m b) (turns + 349) 247 own upto (omega arith) (x.start - 250)) in
    omega (arith, same, ahead, few)
