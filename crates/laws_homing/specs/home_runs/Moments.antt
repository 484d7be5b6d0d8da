-- When a board's trigger could trigger, and how soon the host hears of it.
use Rattle.std.specs.Prelude.{◌≡◌, ◌<◌, ◌≤◌, ◌+◌, ◌^◌, ℕ, false, List, [], ◌∷◌, ◌++◌, Some, length}
use Rattle.plan_types.specs.declared.levels.Level.{Level}
use Rattle.plan_types.specs.declared.machine.Machine.{Machine}
use Rattle.plan_types.specs.Clock.{board_tick, clock_of}
use Rattle.plan_types.specs.Machines.{board_at}
use Rattle.wire_scene.specs.declared.scene.Entry.{Entry}
use Rattle.wire_scene.specs.declared.scene.Switch.{Switch}
use Rattle.board_sim.specs.Rig.{Rig, Slot, slot_at}
use Rattle.link_work.specs.Stands.{first_state}
use Rattle.host_reactor.specs.Runs.{Came}
use Rattle.laws_board.specs.turns.Turns.{BoardTurn, stands_after}
use Rattle.laws_board.specs.clocks.Runs.{IsInRun}
use Rattle.laws_homing.specs.home_runs.Timeouts.{tick_in}

-- A trigger of a board could trigger at a tick that is past: where it can't trigger as it stands here, it can't since
-- this tick or a later one.
pub record CouldAt (oid tick : ℕ) (r : Rig) : Type 0 where
  pub came : tick < r.controller.tick
  pub slot : Slot
  pub is : slot_at r oid ≡ Some slot
  pub fired : slot.trigger.can ≡ false → tick ≤ slot.trigger.tick

-- each trigger of a board (it has one) can't trigger, since a tick before this one
abbrev pub AllFiredBefore : ℕ → Rig → Type 0
AllFiredBefore tick r =
    (oid : ℕ) (s : Slot) → slot_at r oid ≡ Some s → (s.trigger.can ≡ false) × (s.trigger.tick < tick)

-- in each turn from a number on a board's clock lines that are known then have a turn begin at this tick or later
abbrev pub BeginsFrom : Machine → List Switch → ℕ → ℕ → ℕ → ℕ → List Came → Type 0
BeginsFrom m switches b from turn tick [] = Unit {0}
BeginsFrom m switches b from turn tick (c ∷ before) =
    (from ≤ length before → tick ≤ tick_in m switches b c before turn) × BeginsFrom m switches b from turn tick before

-- What a board told in its latest turn comes soon: by its clock lines that are known as it comes, this turn begins less
-- than half a round of the 32-bit clock behind a turn as which began nothing that the board had said was under way.
pub record ComesSoon (m : Machine) (switches : List Switch) (pins : List (List Level)) (entries : List Entry) (b : ℕ)
    (c : Came) (before : List Came) (turns : List BoardTurn) : Type 0 where
  pub latest : BoardTurn
  pub middle : List BoardTurn
  pub past : List BoardTurn
  pub are : turns ≡ latest ∷ (middle ++ past)
  pub none : (stands_after (first_state (board_at m b) pins b entries) past).core.link.up ≡ []
  pub soon : tick_in m switches b c before (length (middle ++ past))
      < board_tick (clock_of (board_at m b)) (length past) + 2 ^ 31

-- so all that it told in the turn in front of a section's start or later; it comes in the turn behind its own
abbrev pub AllComeSoon : Machine → List Switch → List (List Level) → List Entry → ℕ → ℕ → List Came
    → List BoardTurn → Type 0
AllComeSoon m switches pins entries b start [] turns = Unit {0}
AllComeSoon m switches pins entries b start (c ∷ before) [] = Unit {0}
AllComeSoon m switches pins entries b start (c ∷ before) (t ∷ turns) =
    (start ≤ length turns → ComesSoon m switches pins entries b c before turns)
    × AllComeSoon m switches pins entries b start before turns

-- A board's trigger triggered in a turn or before, as a run of it ends: it can't trigger since a tick before that at
-- which the turn behind this one begins, by the clock lines that are known from a section's start on; and what it told
-- since then comes soon.
pub record HasTriggeredIn (m : Machine) (switches : List Switch) (pins : List (List Level)) (entries : List Entry)
    (b start turn : ℕ) (came : List Came) (turns : List BoardTurn) : Type 0 where
  pub run_is : IsInRun m switches pins entries b came turns
  pub tick : ℕ
  pub fired : AllFiredBefore tick (stands_after (first_state (board_at m b) pins b entries) turns).core.board
  pub before : BeginsFrom m switches b start (turn + 1) tick came
  pub soon : AllComeSoon m switches pins entries b start came turns
