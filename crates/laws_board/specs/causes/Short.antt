-- When connecting ends: what the boards tell of themselves, and that each of them is in the run.
use Rattle.std.specs.Prelude.{ℕ, ◌<◌, ◌*◌, List, length}
use Rattle.plan_types.specs.declared.levels.Level.{Level}
use Rattle.plan_types.specs.declared.machine.BoardDef.{BoardDef}
use Rattle.plan_types.specs.declared.machine.Machine.{Machine}
use Rattle.plan_types.specs.Machines.{board_at}
use Rattle.wire_scene.specs.declared.scene.Entry.{Entry}
use Rattle.wire_scene.specs.declared.scene.Switch.{Switch}
use Rattle.board_sim.specs.Board.{new_controller}
use Rattle.host_reactor.specs.Runs.{Came}
use Rattle.laws_board.specs.turns.Turns.{BoardTurn}
use Rattle.laws_board.specs.clocks.Runs.{IsInRun}

-- the bytes of a board's dictionary, which it tells of itself piece by piece
abbrev pub dictionary_of : BoardDef → List ℕ
dictionary_of board = (new_controller board).dictionary

-- the dictionary of each board comes in at most 59 pieces of 40 bytes, of which the last one is shorter
abbrev pub HaveShortDictionaries : Machine → Type 0
HaveShortDictionaries m = (b : ℕ) → b < length m.boards → length (dictionary_of (board_at m b)) < 59 * 40

-- each board of a machine is in a run, with its own levels and turns
abbrev pub AreInRun : Machine → List Switch → (ℕ → List (List Level)) → List Entry → List Came → (ℕ → List BoardTurn) →
    Type 0
AreInRun m switches pins entries came turns =
    (b : ℕ) → b < length m.boards → IsInRun m switches (pins b) entries b came (turns b)
