-- When no trigger of a board can halt a stepper.
use Rattle.std.specs.Prelude.{◌≡◌, ℕ, ◌+◌, ◌-◌, ◌≤◌, ◌++◌, List, [], ◌∷◌, drop, take}
use Rattle.plan_types.specs.declared.plan.BoardState.TheVariants.{Running}
use Rattle.plan_types.specs.Clock.{clock_of}
use Rattle.msg_code.specs.declared.cmd.Cmd.{Cmd}
use Rattle.msg_code.specs.declared.cmd.Cmd.TheVariants as cmd
use Rattle.wire_scene.specs.declared.scene.Entry.{Entry}
use Rattle.board_sim.specs.Fair.{Meant, commands_of}
use Rattle.board_world.specs.World.{Core}
use Rattle.section_units.specs.Sections.{BoardSection}
use Rattle.link_work.specs.Runs.{AreTurns}
use Rattle.link_work.specs.Stands.{first_state}
use Rattle.link_work.specs.Turn.{LinkState, Orders}
use Rattle.laws_board.specs.sections.Boards.{OnBoard}
use Rattle.laws_homing.specs.clear_groups.Resting.{EachTame}
use Rattle.laws_homing.specs.clear_boards.Limited.{AllFired}

-- a command starts no trigger and binds no stepper to one
abbrev pub IsStill : Cmd → Type 0
IsStill (cmd.TrsyncStart oid clock every reason) = ⊥
IsStill (cmd.StepperStopOnTrigger oid other) = ⊥
IsStill c = Unit {0}

-- so some commands
abbrev pub EachStill : List Cmd → Type 0
EachStill [] = Unit {0}
EachStill (c ∷ cs) = IsStill c × EachStill cs

-- and the controls of some turns
abbrev pub BringStill : List Orders → Type 0
BringStill [] = Unit {0}
BringStill (o ∷ os) = EachStill o.control.commands × BringStill os

-- As a turn begins, no trigger of a board that runs can trigger, and what is left in the queue starts none.
abbrev pub IsStillAt : Core → Type 0
IsStillAt h =
    h.board.controller.state ≡ Running → (left : List Meant) → h.taken ++ left ≡ h.queued →
    AllFired h.board × EachTame (commands_of left)

-- A board is still in a section's turns: as the first turn begins in which units of the section may be
-- released, and up to six turns behind its end no control starts a trigger or binds a stepper.
pub record IsStillIn (place : ℕ) (entries : List Entry) (s : BoardSection) (x : OnBoard) : Type 0 where
  pub begins : (m : LinkState) →
      AreTurns (clock_of x.board) 0 (take (s.start - 250) x.orders) (first_state x.board x.pins place entries) m →
      IsStillAt m.core
  pub goes_on : (turn : ℕ) → s.start - 250 ≤ turn → turn ≤ s.end + 6 →
      BringStill (take (turn - (s.start - 250)) (drop (s.start - 250) x.orders))
