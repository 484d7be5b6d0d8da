-- What the host knows of a stepper from the commands that it queued, and which commands are good behind others.
use Rattle.std.specs.Prelude.{◌≡◌, ℕ, ◌+◌, ◌^◌, ◌<◌, ◌≤◌, ◌==◌, Bool, true, false, List, [], ◌∷◌, ◌++◌, map, slice_index, if◌then◌else◌}
use Rattle.plan_types.specs.declared.plan.Pulse.{Pulse}
use Rattle.plan_types.specs.declared.plan.Triple.{Triple}
use Rattle.plan_types.specs.Board.{last_of, steps_of, AreTicksOf, Continues, TicksRise}
use Rattle.msg_code.specs.declared.cmd.Cmd.{Cmd}
use Rattle.msg_code.specs.declared.cmd.Cmd.TheVariants as cmd
use Rattle.plan_types.specs.Plan.{pulse_of}
use Rattle.board_sim.specs.Fair.{Meant}
use Rattle.step_feed.specs.Rings.{count_from}
use Rattle.link_work.specs.Turn.{Orders}
use Rattle.link_work.specs.Runs.{queued_in}

-- a command and the turn in which it was queued
pub record Sent : Type 0 where
  pub turn : ℕ
  pub order : Meant

-- commands that were queued in one turn
abbrev pub sent_at : ℕ → List Meant → List Sent
sent_at turn [] = []
sent_at turn (m ∷ ms) = record { turn = turn; order = m } ∷ sent_at turn ms

-- what is queued in turns from a number on
abbrev pub sent_in : ℕ → List Orders → List Sent
sent_in turn [] = []
sent_in turn (o ∷ os) = sent_at turn (queued_in o) ++ sent_in (turn + 1) os

-- commands that were queued by a turn
abbrev pub AreQueued : ℕ → List Sent → Type 0
AreQueued turn [] = Unit {0}
AreQueued turn (s ∷ ss) = (s.turn ≤ turn) × AreQueued turn ss

-- the commands without their turns
abbrev pub orders_sent : List Sent → List Meant
orders_sent [] = []
orders_sent (s ∷ ss) = s.order ∷ orders_sent ss

-- a stepper, as some commands make it
pub record Known : Type 0 where
  pub made : Bool
  -- the direction of its next steps
  pub up : Bool
  -- the tick from which its next interval counts
  pub clock : ℕ
  -- the last ticks of its triples, the last triple first
  pub ends : List ℕ
  -- the steps of all its triples, in order
  pub steps : List Pulse

-- a stepper of which nothing was said
abbrev pub unknown : Known
unknown = record { made = false; up = false; clock = 0; ends = []; steps = [] }

-- a stepper with the steps of one more triple
abbrev pub more_steps : ℕ → Known → List ℕ → Known
more_steps oid k ticks = record k {
  clock = last_of k.clock ticks;
  ends = last_of 0 ticks ∷ k.ends;
  steps = k.steps ++ map (pulse_of oid) (steps_of k.up ticks);
}

-- what a command makes of a stepper
abbrev pub knows_of : ℕ → Known → Cmd → List ℕ → Known
knows_of oid k (cmd.ConfigStepper other step dir invert width) ticks =
    if other == oid then record k { made = true } else k
knows_of oid k (cmd.QueueStep other interval count add) ticks = if other == oid then more_steps oid k ticks else k
knows_of oid k (cmd.SetNextStepDir other dir) ticks = if other == oid then record k { up = dir == 1 } else k
knows_of oid k (cmd.ResetStepClock other clock) ticks = if other == oid then record k { clock = clock } else k
knows_of oid k _ ticks = k

-- what is known behind a command
abbrev pub knows : ℕ → Known → Meant → Known
knows oid k m = knows_of oid k m.command m.ticks

-- what some commands make of it
abbrev pub known_from : ℕ → Known → List Sent → Known
known_from oid k [] = k
known_from oid k (s ∷ ss) = known_from oid (knows oid k s.order) ss

-- what is known of each stepper behind some commands
abbrev pub known_steppers : List Sent → ℕ → Known
known_steppers ss oid = known_from oid unknown ss

-- all numbers are below a number
abbrev pub AreBelow : ℕ → List ℕ → Type 0
AreBelow x [] = Unit {0}
AreBelow x (e ∷ es) = (e < x) × AreBelow x es

-- A triple is good for a stepper when it is queued in a turn: the whole ticks are its own, rise, go on behind the steps
-- before it, and don't begin too late; and of the triples before it fewer than there are slots have steps at or after
-- the board's tick of that turn.
pub record IsGoodTriple (own : ℕ → ℕ) (slots turn : ℕ) (k : Known) (t : Triple) (ticks : List ℕ) : Type 0 where
  pub made : k.made ≡ true
  pub small : t.interval < 2 ^ 32
  pub ticks_of : AreTicksOf t ticks
  pub rise : TicksRise ticks
  pub continues : Continues k.clock t.interval (slice_index ticks 0)
  pub near : slice_index ticks 0 ≤ own turn + 2 ^ 31
  pub behind : k.clock < slice_index ticks 0
  pub room : count_from (own turn) k.ends < slots

-- the clock of a stepper is set where all its steps are before the board's tick of that turn
pub record IsGoodReset (own : ℕ → ℕ) (turn : ℕ) (k : Known) : Type 0 where
  pub made : k.made ≡ true
  pub before : AreBelow (own turn) k.ends

-- a command that is queued in a turn is good for a stepper
abbrev pub IsGoodFor : (ℕ → ℕ) → ℕ → ℕ → ℕ → Known → Cmd → List ℕ → Type 0
IsGoodFor own slots oid turn k (cmd.QueueStep other interval count add) ticks =
    other ≡ oid → IsGoodTriple own slots turn k (record { interval = interval; count = count; add = add }) ticks
IsGoodFor own slots oid turn k (cmd.ResetStepClock other clock) ticks = other ≡ oid → IsGoodReset own turn k
IsGoodFor own slots oid turn k (cmd.SetNextStepDir other dir) ticks = other ≡ oid → k.made ≡ true
IsGoodFor own slots oid turn k (cmd.ConfigStepper other step dir invert width) ticks = other < 256
IsGoodFor own slots oid turn k (cmd.StepperStopOnTrigger other trigger) ticks = ⊥
IsGoodFor own slots oid turn k _ ticks = Unit {0}

-- a command with its turn
abbrev pub IsGood : (ℕ → ℕ) → ℕ → ℕ → Known → Sent → Type 0
IsGood own slots oid k s = IsGoodFor own slots oid s.turn k s.order.command s.order.ticks

-- commands that are good for a stepper, one behind the other
abbrev pub AreGoodFrom : (ℕ → ℕ) → ℕ → ℕ → Known → List Sent → Type 0
AreGoodFrom own slots oid k [] = Unit {0}
AreGoodFrom own slots oid k (s ∷ ss) = IsGood own slots oid k s × AreGoodFrom own slots oid (knows oid k s.order) ss

-- commands that are good for every stepper
abbrev pub AreGood : (ℕ → ℕ) → ℕ → List Sent → Type 0
AreGood own slots ss = (oid : ℕ) → AreGoodFrom own slots oid unknown ss

-- a triple is queued too late: its first step is before the board's tick of that turn, as are all steps before it
abbrev pub IsLostFor : (ℕ → ℕ) → ℕ → (ℕ → Known) → Cmd → List ℕ → Type 0
IsLostFor own turn ks (cmd.QueueStep other interval count add) ticks =
    (slice_index ticks 0 < own turn) × AreBelow (own turn) (ks other).ends
IsLostFor own turn ks _ ticks = ⊥

-- commands of which the first one is a triple that is queued too late
abbrev pub BeginLost : (ℕ → ℕ) → ℕ → (ℕ → Known) → List Sent → Type 0
BeginLost own slots ks [] = Unit {0}
BeginLost own slots ks (s ∷ ss) =
    ((oid : ℕ) → IsGood own slots oid (ks oid) s) × IsLostFor own s.turn ks s.order.command s.order.ticks
