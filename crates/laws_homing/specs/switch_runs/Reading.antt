-- The readings that trigger a board's trigger, in whatever order commands come, and what the board tells of it.
use Rattle.std.specs.Prelude.{◌≡◌, ◌<◌, ◌%◌, ◌^◌, ℕ, List, [], ◌∷◌, Some, slice_index_or}
use Rattle.plan_types.specs.declared.levels.Level.{Level}
use Rattle.board_trig.specs.declared.sampling.Homing.{Homing}
use Rattle.board_trig.specs.declared.sampling.Sampling.{Sampling}
use Rattle.board_trig.specs.Sampling.{IsTriggerTick}
use Rattle.board_trig.specs.Trigger.{first_sampling}
use Rattle.msg_code.specs.declared.cmd.Cmd.{Cmd}
use Rattle.msg_code.specs.declared.cmd.Cmd.TheVariants as cmd
use Rattle.msg_code.specs.declared.talk.News.{News}
use Rattle.board_sim.specs.Fair.{Meant}
use Rattle.link_work.specs.Runs.{queued_in}
use Rattle.link_work.specs.Stands.{orders}
use Rattle.trigger_group.specs.Group.{by_switch}
use Rattle.laws_board.specs.turns.Turns.{BoardTurn}

-- A tick at which the readings of a pin with these levels are complete, which began with a homing command that a
-- board took at another.
pub record IsComplete (levels : List Level) (home : Homing) (now tick : ℕ) : Type 0 where
  pub sampling : Sampling
  pub begun : first_sampling now home ≡ Some sampling
  pub complete : IsTriggerTick levels sampling tick

-- What is asked of a command: an endstop that it makes has this pin; it triggers a trigger by no reading's
-- reason (1), nor lets a timeout do so; and the readings that it begins for this reason, where a board takes
-- it at a tick, are complete at such ticks alone.
abbrev pub IsFitReading : (ℕ → (ℕ → Type 0)) → (ℕ → (ℕ → Type 0)) → List (List Level) → Cmd → Type 0
IsFitReading E F pins (cmd.ConfigEndstop oid pin pull) = E oid pin
IsFitReading E F pins (cmd.TrsyncTrigger oid reason) = (reason < 2 ^ 8) × (reason ≡ by_switch → ⊥)
IsFitReading E F pins (cmd.TrsyncStart oid clock every reason) = (reason < 2 ^ 8) × (reason ≡ by_switch → ⊥)
IsFitReading E F pins (cmd.EndstopHome oid clock sample count rest value other reason) =
    (reason < 2 ^ 8) × (reason ≡ by_switch → (pin now tick : ℕ) → E oid pin →
    IsComplete (slice_index_or pins pin []) (record {
      clock = clock;
      sample_ticks = sample;
      sample_count = count;
      rest_ticks = rest;
      pin_value = value;
      reason = reason;
    }) now tick → F now tick)
IsFitReading E F pins c = Unit {0}

-- so each of some commands that come to a board
abbrev pub AreFit : (ℕ → (ℕ → Type 0)) → (ℕ → (ℕ → Type 0)) → List (List Level) → List Meant → Type 0
AreFit E F pins [] = Unit {0}
AreFit E F pins (m ∷ ms) = IsFitReading E F pins m.command × AreFit E F pins ms

-- so the commands that come to it in each of some turns, the latest turn first
abbrev pub BringFit : (ℕ → (ℕ → Type 0)) → (ℕ → (ℕ → Type 0)) → List (List Level) → List BoardTurn → Type 0
BringFit E F pins [] = Unit {0}
BringFit E F pins (t ∷ before) = AreFit E F pins (queued_in (orders t.control t.batch)) × BringFit E F pins before

-- the clock of an answer is the lower 32 bits of a tick of which this holds
pub record TellsOf (F : ℕ → Type 0) (clock : ℕ) : Type 0 where
  pub tick : ℕ
  pub clock_is : clock ≡ tick % 2 ^ 32
  pub complete : F tick

-- an answer that tells that readings triggered a trigger tells of such a tick
abbrev pub TellsTrue : (ℕ → Type 0) → Cmd → Type 0
TellsTrue F (cmd.TrsyncState oid can reason clock) = can ≡ 0 → reason ≡ by_switch → TellsOf F clock
TellsTrue F answer = Unit {0}

-- so does each of some answers
abbrev pub TellTrue : (ℕ → Type 0) → List News → Type 0
TellTrue F [] = Unit {0}
TellTrue F (n ∷ news) = TellsTrue F n.answer × TellTrue F news

-- so do the answers of each of some turns
abbrev pub AllTellTrue : (ℕ → Type 0) → List BoardTurn → Type 0
AllTellTrue F [] = Unit {0}
AllTellTrue F (t ∷ before) = TellTrue F t.state.news × AllTellTrue F before
