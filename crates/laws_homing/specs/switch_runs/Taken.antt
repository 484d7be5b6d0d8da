-- When a board took the command that begins a homing section's readings, and the trigger tick of the section.
use Rattle.std.specs.Prelude.{◌≡◌, ◌<◌, ◌≤◌, ◌+◌, ◌-◌, ℕ, List, [], ◌∷◌, ◌++◌, length}
use Rattle.plan_types.specs.declared.levels.Level.{Level}
use Rattle.plan_types.specs.declared.machine.Machine.{Machine}
use Rattle.plan_types.specs.Clock.{board_tick, clock_of}
use Rattle.plan_types.specs.Machines.{board_at}
use Rattle.msg_code.specs.declared.cmd.Cmd.{Cmd}
use Rattle.msg_code.specs.declared.cmd.Cmd.TheVariants as cmd
use Rattle.wire_scene.specs.declared.scene.Entry.{Entry}
use Rattle.wire_scene.specs.declared.scene.Switch.{Switch}
use Rattle.board_sim.specs.Fair.{Meant}
use Rattle.link_work.specs.Stands.{first_state}
use Rattle.link_work.specs.Turn.{LinkState}
use Rattle.host_reactor.specs.Runs.{Came}
use Rattle.laws_board.specs.turns.Turns.{BoardTurn, stands_after}
use Rattle.laws_homing.specs.home_runs.Sections.{queued_in_turns}
use Rattle.laws_homing.specs.switch_runs.Runs.{IsReadAt}

-- a command begins no readings
abbrev pub IsBlind : Cmd → Type 0
IsBlind (cmd.EndstopHome oid clock sample count rest value other reason) = ⊥
IsBlind c = Unit {0}

-- and some commands begin none
abbrev pub AreBlind : List Meant → Type 0
AreBlind [] = Unit {0}
AreBlind (m ∷ ms) = IsBlind m.command × AreBlind ms

-- In the turn with this number a board took the command that begins the readings of a homing section with this start.
-- It was queued in the turn 250 turns in front of the start, and is the only one that begins any of all that was
-- queued from that turn on. As the turn with this number began, that one or a later one, it wasn't taken yet, and as
-- it ended it was.
pub record TookHome (first : LinkState) (start : ℕ) (turns : List BoardTurn) (turn : ℕ) : Type 0 where
  -- the turn in which it was queued, those before it and those behind it
  pub up : List BoardTurn
  pub order : BoardTurn
  pub early : List BoardTurn
  pub ordered_in : turns ≡ up ++ order ∷ early
  pub set_up : length early + 250 ≡ start
  -- what was queued from that turn on
  pub front : List Meant
  pub home : Meant
  pub rest : List Meant
  pub queue : queued_in_turns turns ≡ queued_in_turns early ++ (front ++ home ∷ rest)
  pub ordered : length (queued_in_turns early ++ front) < length (queued_in_turns (order ∷ early))
  pub reads : IsBlind home.command → ⊥
  pub sole : AreBlind front × AreBlind rest
  -- the turn in which it was taken, and those behind it
  pub later : List BoardTurn
  pub took : BoardTurn
  pub since : List BoardTurn
  pub taken_in : turns ≡ later ++ took ∷ (since ++ early)
  pub at : length (since ++ early) ≡ turn
  pub not_yet : length (stands_after first (since ++ early)).core.taken ≤ length (queued_in_turns early ++ front)
  pub taken : length (queued_in_turns early ++ front) < length took.after.core.taken

-- The trigger tick of a homing section: of the groups of readings that begin with the section's command, as the board
-- took it (as one of its turns began), from the section's start on, the last reading of the first group that shows
-- the switch pressed throughout.
pub record IsTriggerOf (m : Machine) (switches : List Switch) (pins : List (List Level)) (entries : List Entry)
    (b start axis : ℕ) (came : List Came) (turns : List BoardTurn) (tick : ℕ) : Type 0 where
  pub turn : ℕ
  pub took : TookHome (first_state (board_at m b) pins b entries) start turns turn
  pub read : IsReadAt m switches pins b (start - 250) start axis came (board_tick (clock_of (board_at m b)) turn) tick
