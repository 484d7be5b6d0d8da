-- The ticks of a board in a run, which go on behind it, and its clock lines, which follow them.
use Rattle.std.proofs.Common.{◌≡◌, ℕ, ◌+◌, ◌*◌, ◌≤◌, List, arith}
use Rattle.laws_board.proofs.Names.{Machine, board_tick, clock_of, turn_ns, Clocks, board_at, AreKept}
use Rattle.plan_types.specs.Machines.{IsValidFreq}
use Rattle.laws_board.specs.turns.Turns.{BoardTurn}
use Rattle.laws_board.specs.clocks.Samples.{IsSampled}
use Rattle.laws_board.specs.sections.Parts.{AreTracked}
use Rattle.laws_board.specs.orders.Renewed.{AreSampled, NoneBefore, go_on}
use Rattle.laws_board.proofs.orders.Followed.{lines_in_time}
use Rattle.laws_board.proofs.orders.Going.{goes_tracked}
use Rattle.laws_run.specs.clock_ages.Renewed.{StayYoung}

-- the ticks of a board in a run of so many turns behind the first
abbrev pub Own : Machine → ℕ → ℕ → (ℕ → ℕ)
Own m b turns = go_on (clock_of (board_at m b)) (turns + 349)

-- its clock lines, each of which is that of a sample
pub record AreRenewed (m : Machine) (b turns ready : ℕ) (clocks : Clocks) : Type 0 where
  pub all : List BoardTurn
  pub freq : IsValidFreq (board_at m b).freq
  pub kept : AreKept clocks
  pub first : IsSampled (clock_of (board_at m b)) all clocks.first
  pub held : AreSampled (clock_of (board_at m b)) all clocks.held
  pub early : clocks.first.at ≤ ready * turn_ns
  pub none : NoneBefore ready clocks.held
  pub order : ready ≤ turns
  pub renewed : StayYoung m b clocks turns

-- they follow these ticks for good
pub follow_on : (m : Machine) (b turns ready any : ℕ) (clocks : Clocks) → AreRenewed m b turns ready clocks → (x : AreTracked (Own m b turns) clocks ready) × (x.until ≡ any)
follow_on m b turns ready any clocks r =
    let order = r.order in
    goes_tracked (clock_of (board_at m b)) r.all clocks ready (turns + 345) (turns + 349) (turns + 400) any r.freq r.kept r.first r.held r.early r.none r.renewed.1 r.renewed.0 (omega (arith, order)) (omega arith) (omega arith)

-- and up to 400 turns behind the last turn its clock
pub follow_to : (m : Machine) (b turns ready : ℕ) (clocks : Clocks) → AreRenewed m b turns ready clocks → (x : AreTracked (board_tick (clock_of (board_at m b))) clocks ready) × (x.until ≡ turns + 400)
follow_to m b turns ready clocks r = lines_in_time (clock_of (board_at m b)) r.all clocks ready (turns + 400) r.freq r.kept r.first r.held r.early r.none r.renewed.1
