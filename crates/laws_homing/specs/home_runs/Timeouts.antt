-- The timeouts of a homing section, as its group sends them and a board takes them.
use Rattle.std.specs.Prelude.{◌≡◌, ◌⊎◌, ◌<◌, ◌≤◌, ◌+◌, ◌%◌, ◌^◌, ℕ, List, [], ◌∷◌, ◌++◌, Some, length}
use Rattle.plan_types.specs.declared.machine.Machine.{Machine}
use Rattle.plan_types.specs.declared.levels.Level.{Level}
use Rattle.plan_types.specs.Clock.{board_tick, clock_of}
use Rattle.plan_types.specs.Machines.{board_at}
use Rattle.plan_types.specs.Sections.{clocks_at}
use Rattle.clock_line.specs.Early.{turn_tick}
use Rattle.msg_code.specs.declared.cmd.Cmd.TheVariants.{TrsyncSetTimeout}
use Rattle.msg_code.specs.declared.talk.State.{State}
use Rattle.wire_scene.specs.declared.scene.Entry.{Entry}
use Rattle.wire_scene.specs.declared.scene.Switch.{Switch}
use Rattle.board_sim.specs.Fair.{Meant}
use Rattle.link_work.specs.Answers.{IsAmong}
use Rattle.link_work.specs.Stands.{first_state}
use Rattle.link_work.specs.Turn.{LinkState}
use Rattle.trigger_group.specs.declared.order.Order.TheVariants.{Timeout}
use Rattle.axis_homing.specs.declared.homing.Homing.{Homing}
use Rattle.axis_homing.specs.Homing.{homing_turn}
use Rattle.board_asking.specs.Machine.{trigger_of}
use Rattle.host_reactor.specs.declared.ordered.Known.{Known}
use Rattle.host_reactor.specs.Notes.{noted}
use Rattle.host_reactor.specs.Runs.{Came, known_by, state_at}
use Rattle.laws_board.specs.turns.Turns.{BoardTurn, stands_after}
use Rattle.laws_homing.specs.clear_boards.Hearing.{TellAble}
use Rattle.laws_homing.specs.home_runs.Sections.{queued_in_turns}

-- what the reactor knows in a turn, behind the note that came in it
abbrev pub known_in : Machine → List Switch → Came → List Came → Known
known_in m switches c before = noted m c.note (known_by m switches before)

-- the tick of a turn, by a board's clock lines that are known in another turn
abbrev pub tick_in : Machine → List Switch → ℕ → Came → List Came → ℕ → ℕ
tick_in m switches b c before turn = turn_tick (clocks_at (known_in m switches c before).clocks b) turn

-- In a turn of the reactor the group of the homing section that is known sends a board a timeout, of a turn with this
-- tick.
pub record IsTimeout (m : Machine) (switches : List Switch) (b tick : ℕ) (c : Came) (before : List Came) : Type 0 where
  pub turn : ℕ
  pub sent : IsAmong (record { board = b; what = Timeout turn })
      (homing_turn (known_in m switches c before).clocks (length before) c.states
      (known_in m switches c before).homing).ctls.items
  pub at : tick ≡ tick_in m switches b c before turn

-- so in one of some turns, from a number on
abbrev pub SendsTimeout : Machine → List Switch → ℕ → ℕ → ℕ → List Came → Type 0
SendsTimeout m switches b from tick [] = ⊥
SendsTimeout m switches b from tick (c ∷ before) =
    ((from ≤ length before) × IsTimeout m switches b tick c before) ⊎ SendsTimeout m switches b from tick before

-- No timeout of a trigger is taken half a round of the 32-bit clock after its tick: each that a board takes in some
-- turns, but for its first n commands, where such a tick was sent.
abbrev pub TakesInTime : (own : ℕ → ℕ) → ℕ → ℕ → (sent : ℕ → Type 0) → LinkState → List BoardTurn → Type 0
TakesInTime own trigger n sent first [] = Unit {0}
TakesInTime own trigger n sent first (t ∷ before) =
    ((front : List Meant) (m : Meant) (behind : List Meant) (tick : ℕ) → t.after.core.taken ≡ front ++ m ∷ behind
    → length (stands_after first before).core.taken ≤ length front → n ≤ length front
    → m.command ≡ TrsyncSetTimeout trigger (tick % 2 ^ 32) → sent tick → own (length before) < tick + 2 ^ 31)
    × TakesInTime own trigger n sent first before

-- so those of a board that its section's group sends it, behind what was queued in some turns before
abbrev pub TakesSent : Machine → List Switch → List (List Level) → List Entry → ℕ → List Came → List BoardTurn
    → List BoardTurn → Type 0
TakesSent m switches pins entries b came turns early =
    TakesInTime (board_tick (clock_of (board_at m b))) (trigger_of m b) (length (queued_in_turns early))
    (λ tick. SendsTimeout m switches b (length early) tick came) (first_state (board_at m b) pins b entries) turns

-- in each turn from a number on this is the last turn of the homing section that is known
abbrev pub EndsWith : Machine → List Switch → ℕ → ℕ → List Came → Type 0
EndsWith m switches from last [] = Unit {0}
EndsWith m switches from last (c ∷ before) =
    (from ≤ length before → (h : Homing) → (known_in m switches c before).homing ≡ Some h → h.group.last ≡ last)
    × EndsWith m switches from last before

-- in each turn from a number on a board's clock lines that are known then have a turn begin at this tick or before
abbrev pub BeginsBy : Machine → List Switch → ℕ → ℕ → ℕ → ℕ → List Came → Type 0
BeginsBy m switches b from turn tick [] = Unit {0}
BeginsBy m switches b from turn tick (c ∷ before) =
    (from ≤ length before → tick_in m switches b c before turn ≤ tick) × BeginsBy m switches b from turn tick before

-- what a board told in the turn in front of a section's start or later of a trigger that could trigger counts in no
-- turn behind this one
abbrev pub CouldUpTo : Machine → List Switch → ℕ → ℕ → ℕ → List Came → Type 0
CouldUpTo m switches b start turn [] = Unit {0}
CouldUpTo m switches b start turn (c ∷ before) =
    ((s : State) (when : ℕ) → state_at b c.states ≡ s ∷ [] → start ≤ s.turn + 1
    → TellAble (clocks_at (known_in m switches c before).clocks b) s.turn when s.news → when ≤ turn)
    × CouldUpTo m switches b start turn before
