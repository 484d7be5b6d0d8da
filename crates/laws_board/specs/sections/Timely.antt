-- No unit is taken half a round of the 32-bit clock after its first tick.
use Rattle.std.specs.Prelude.{◌≡◌, ℕ, ◌+◌, ◌-◌, ◌^◌, ◌<◌, ◌≤◌, List, [], ◌∷◌, ◌++◌, map, slice_index, take}
use Rattle.std.specs.List.{flat_map}
use Rattle.plan_types.specs.declared.plan.BoardState.TheVariants.{Running}
use Rattle.msg_code.specs.declared.cmd.Cmd.{Cmd}
use Rattle.msg_code.specs.declared.cmd.Cmd.TheVariants as cmd
use Rattle.board_sim.specs.Fair.{Meant}
use Rattle.board_world.specs.World.{Core, Step, Do, Turn, takes_in, world_after, run_world}
use Rattle.board_world.specs.Orders.{plain}
use Rattle.board_world.specs.World.{on_wire}
use Rattle.link_work.specs.Limits.{bytes_in, closing_in}
use Rattle.link_work.specs.Turn.{Orders}
use Rattle.link_work.specs.Runs.{queued_in}
use Rattle.laws_board.specs.sections.Events.{AreTurnsOf}

-- a triple that is taken at a tick: its first step is less than half a round of the clock before
abbrev pub IsTimely : ℕ → Cmd → List ℕ → Type 0
IsTimely now (cmd.QueueStep oid interval count add) ticks = now < slice_index ticks 0 + 2 ^ 31
IsTimely now _ ticks = Unit {0}

-- some commands that are taken at a tick
abbrev pub AreTimely : ℕ → List Meant → Type 0
AreTimely now [] = Unit {0}
AreTimely now (m ∷ ms) = IsTimely now m.command m.ticks × AreTimely now ms

-- the units that a running board takes in a step are timely
abbrev pub IsTimelyAt : Core → Step → Type 0
IsTimelyAt h (Do e) = h.board.controller.state ≡ Running → AreTimely h.board.controller.tick (takes_in h e)
IsTimelyAt h (Turn turn) = Unit {0}

-- the units that a running board takes in some steps are timely
abbrev pub AllTimely : Core → List Step → Type 0
AllTimely h [] = Unit {0}
AllTimely h (s ∷ steps) = IsTimelyAt h s × AllTimely (world_after h s) steps

-- as each of some turns begins, a board has taken all that was queued n turns before it or earlier
abbrev pub TakesSoon : (n : ℕ) (all : List Orders) (own : ℕ → ℕ) (turn : ℕ) (os : List Orders) (steps : List Step)
    (h : Core) → AreTurnsOf own turn os steps → Type 0
TakesSoon n all own turn [] steps h t = Unit {0}
TakesSoon n all own turn (o ∷ os) steps h t =
    ((more : List Meant) × (flat_map queued_in (take (turn - n) all) ++ more ≡ h.taken))
    × TakesSoon n all own (turn + 1) os t.1 (run_world t.0 h) t.4

-- the control commands of some turns keep the limits of a turn: 42 bytes, and one at most closes its block
abbrev pub ControlsKeep : List Orders → Type 0
ControlsKeep [] = Unit {0}
ControlsKeep (o ∷ os) =
    (bytes_in (map on_wire (map plain o.control.commands)) ≤ 42)
    × (closing_in (map on_wire (map plain o.control.commands)) ≤ 1) × ControlsKeep os
