-- Earlier turns of a board, and a board that nothing was told.
use Rattle.std.proofs.Common.{◌≡◌, ℕ, zero, suc, ◌+◌, ◌≤◌, List, [], ◌∷◌, length, Option, Some, None, refl, ap, arith}
use Rattle.std.specs.Prelude.{slice_index_or}
use Rattle.laws_board.proofs.Names.{Level, Machine, board_tick, clock_of, board_at, Entry, Switch, Slot, orders, Came}
use Rattle.board_sim.specs.Rig.{no_objects}
use Rattle.laws_board.specs.turns.Turns.{BoardTurn}
use Rattle.laws_board.specs.clocks.Runs.{orders_in}
use Rattle.laws_board.proofs.clocks.Lines.{run_before}
use Rattle.link_work.proofs.Late.{limits_split}
use Rattle.laws_homing.specs.clear_groups.Sections.{IsPlain}

pub none_at : (n oid : ℕ) → slice_index_or (no_objects {A = Slot} n) oid None ≡ None
none_at zero oid = refl
none_at (suc n) zero = refl
none_at (suc n) (suc oid) = none_at n oid

pub none_some : (o : Option Slot) (s : Slot) → o ≡ None → o ≡ Some s → ⊥
none_some None s e f = cc
none_some (Some x) s e f = cc

-- earlier turns of a board
pub turn_before : (m : Machine) (switches : List Switch) (pins : List (List Level)) (entries : List Entry) (b : ℕ) (d : Came) (past : List Came) (t : BoardTurn) (turns : List BoardTurn)
    → ((k : ℕ) → board_tick (clock_of (board_at m b)) k ≤ board_tick (clock_of (board_at m b)) (k + 1)) → IsPlain m switches pins entries b (d ∷ past) (t ∷ turns) → IsPlain m switches pins entries b past turns
turn_before m switches pins entries b d past t turns rise p =
    let own : ℕ → ℕ = λ k. board_tick (clock_of (board_at m b)) k in
    let up = rise (length turns) in
    let e : length turns + 1 ≡ suc (length turns) = omega arith in
    let same : own (length turns + 1) ≡ own (suc (length turns)) = ap own e in
    let range = p.in_range in
    record {
      run = run_before m switches pins entries b d past t turns p.run;
      limits = (limits_split (orders_in turns) (orders t.control t.batch ∷ []) p.limits).0;
      none_shut = p.none_shut.1;
      in_range = omega (arith, up, same, range);
    }
