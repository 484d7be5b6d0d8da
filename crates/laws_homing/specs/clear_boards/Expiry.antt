-- What a board told whose trigger triggered by its timeout.
use Rattle.std.specs.Prelude.{◌≡◌, ◌⊎◌, ◌≤◌, ◌+◌, ℕ, List, [], ◌∷◌, Some}
use Rattle.plan_types.specs.declared.machine.Machine.{Machine}
use Rattle.plan_types.specs.Board.{nearest}
use Rattle.plan_types.specs.Lines.{Clocks}
use Rattle.plan_types.specs.Sections.{clocks_at}
use Rattle.clock_line.specs.Early.{turn_in_run, turn_tick}
use Rattle.msg_code.specs.declared.cmd.Cmd.{Cmd}
use Rattle.msg_code.specs.declared.cmd.Cmd.TheVariants as cmd
use Rattle.msg_code.specs.declared.talk.News.{News}
use Rattle.msg_code.specs.declared.talk.State.{State}
use Rattle.wire_scene.specs.declared.scene.Switch.{Switch}
use Rattle.trigger_group.specs.Group.{by_timeout}
use Rattle.host_reactor.specs.Notes.{noted}
use Rattle.host_reactor.specs.Runs.{Came, known_by, state_at}

-- an answer in a turn tells of a trigger that its timeout passed, at a tick that lies in a turn by these clock lines
abbrev pub IsExpiry : Clocks → ℕ → ℕ → Cmd → Type 0
IsExpiry clocks turn when (cmd.TrsyncState oid can reason clock) =
    (can ≡ 0) × (reason ≡ by_timeout) × (turn_in_run clocks (nearest (turn_tick clocks turn) clock) ≡ Some when)
IsExpiry clocks turn when answer = ⊥

-- so some answers
abbrev pub TellExpiry : Clocks → ℕ → ℕ → List News → Type 0
TellExpiry clocks turn when [] = ⊥
TellExpiry clocks turn when (n ∷ news) = IsExpiry clocks turn when n.answer ⊎ TellExpiry clocks turn when news

-- In one of the reactor's turns a state of a board came, of the turn before another or later, that tells so,
-- by the clock lines that the reactor knew in it.
abbrev pub CameExpiry : Machine → List Switch → ℕ → ℕ → ℕ → List Came → Type 0
CameExpiry m switches b start when [] = ⊥
CameExpiry m switches b start when (c ∷ before) =
    ((s : State) × (state_at b c.states ≡ s ∷ []) × (start ≤ s.turn + 1)
    × TellExpiry (clocks_at (noted m c.note (known_by m switches before)).clocks b) s.turn when s.news)
    ⊎ CameExpiry m switches b start when before
