-- A move within reach is short.
use Rattle.std.proofs.Common.{ℕ, ℤ, pos, ◌<◌, ◌≤◌, Bool, true, false, cond, eqb, List, get_or, length, All, arith, ◌-ℤ◌}
use Rattle.std.specs.Prelude.{unsigned_abs, slice_index_or}
use Rattle.std.proofs.Math.Nat.{mul-le-mul}
use Rattle.std.proofs.lemmas.Int.{ints}
use Rattle.plan_types.specs.declared.plan.Move.{Move}
use Rattle.plan_types.specs.Moves.{change, squared_distance}
use Rattle.plan_types.specs.Numbers.{square_root}
use Rattle.plan_types.specs.Sections.{IsReachable, IsReady}
use Rattle.plan_types.specs.Valid.{IsValidMove}
use Rattle.plan_types.proofs.MoveBounds.{root_below}
use Rattle.plan_types.specs.declared.machine.Machine.{Machine}
use Rattle.plan_types.specs.Lines.{Clocks}
use Rattle.section_plan.specs.Runs.{IsPlannable, IsShortMove}
use Rattle.section_plan.proofs.Boards.{one-ready}

apart-small : (x y : ℤ) → unsigned_abs x ≤ 500_000_000 → unsigned_abs y ≤ 500_000_000 → unsigned_abs (x -ℤ y) ≤ 1_000_000_000
apart-small x y h k = omega (arith, ints)

change-within : (m : Move) (k : ℕ) → IsReachable m → k < 3 → unsigned_abs (change m k) ≤ 1_000_000_000
change-within m k reach h = apart-small (slice_index_or m.to k (pos 0)) (slice_index_or m.from k (pos 0)) (reach.to_within k h) (reach.from_within k h)

either-below : (b : Bool) (e r k : ℕ) → e ≤ k → r ≤ k → cond b e r ≤ k
either-below true e r k h l = h
either-below false e r k h l = l

pub short-move : (m : Move) → IsValidMove m → IsReachable m → IsShortMove m
short-move m valid reach =
    let x = change-within m 0 reach (omega arith) in
    let y = change-within m 1 reach (omega arith) in
    let z = change-within m 2 reach (omega arith) in
    let xx = mul-le-mul x x in
    let yy = mul-le-mul y y in
    let zz = mul-le-mul z z in
    let near = root_below (squared_distance m) 1_740_000_001 (omega arith) in
    let e = valid.e_change in
    let is = valid.length_is in
    let most = either-below (eqb (squared_distance m) 0) (unsigned_abs (change m 3)) (square_root (squared_distance m)) 1_740_000_000 (omega arith) (omega arith) in
    record { valid = valid; short = omega arith }

pub short-moves : (moves : List Move) → All IsValidMove moves → All IsReachable moves → All IsShortMove moves
short-moves moves valid reach = λ k d h. short-move (get_or moves k d) (valid k d h) (reach k d h)

pub ready-plannable : (m : Machine) (clocks : List Clocks) (moves : List Move) (turn : ℕ) → IsReady m clocks moves turn → IsPlannable m clocks moves turn
ready-plannable m clocks moves turn ready = record {
  machine = ready.machine;
  boards = ready.boards;
  lines = λ b inside. one-ready m clocks turn (length moves) b ready.turn_small ready.some (ready.lines b inside);
  short = short-moves moves ready.valid ready.reachable;
  few = ready.few;
  some = ready.some;
  turn_small = ready.turn_small;
}
