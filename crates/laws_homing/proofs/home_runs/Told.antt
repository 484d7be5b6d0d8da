-- Behind a turn in which the host was told of a trigger that it can't trigger, the trigger stands as told.
use Rattle.std.proofs.Common.{ℕ, List, ◌∷◌, ◌++◌, sym, ◌∙◌, arith}
use Rattle.laws_board.proofs.Names.{Level, BoardDef, clock_of, Entry, first_state}
use Rattle.msg_code.specs.declared.cmd.Cmd.TheVariants as cmd
use Rattle.laws_board.specs.turns.Turns.{AreBoardTurns, BoardTurn, stands_after}
use Rattle.laws_homing.specs.home_runs.Guards.{ReasonFits, StandsFired}
use Rattle.laws_homing.specs.home_runs.Windows.{BringCalm, HasAnswer, IsWatched}
use Rattle.laws_homing.proofs.home_runs.Watching.{read_now, watched}
use Rattle.laws_homing.proofs.home_runs.Windows.{begun, watch_after}

pub told_stands : (b : BoardDef) (pins : List (List Level)) (board : ℕ) (entries : List Entry) (t : BoardTurn) (earlier past : List BoardTurn) (i j oid reason clock : ℕ)
    → AreBoardTurns (clock_of b) (first_state b pins board entries) (t ∷ (earlier ++ past)) → IsWatched i j (stands_after (first_state b pins board entries) past).core → BringCalm i j (t ∷ earlier)
    → ReasonFits j t.after.core.board → HasAnswer (cmd.TrsyncState oid 0 reason clock) t.state.news → StandsFired j reason clock t.after.core.board
told_stands b pins board entries t earlier past i j oid reason clock are set calm fits told =
    let first = first_state b pins board entries in
    let start = watch_after b pins board entries past i j (begun (clock_of b) first earlier past are.1) set in
    let old = watched (clock_of b) first i j earlier past are.1 calm.1 start in
    let read = read_now (clock_of b) first i j t (earlier ++ past) are.0 calm.0 old.watch_is oid reason clock told in
    let s = read.stands in
    let is = s.reason_is in
    let small = fits s.slot s.is in
    let same = read.read (omega (arith, is, small)) in
    record { slot = s.slot; is = s.is; fired = s.fired; none = s.none; reason_is = s.reason_is ∙ sym same.0; clock_is = s.clock_is ∙ sym same.1 }
