-- For how many turns a reactor has nothing to order, whatever the boards tell.
use Rattle.std.specs.Prelude.{◌≡◌, ℕ, ◌+◌, ◌-◌, ◌%◌, ◌^◌, ◌==◌, ◌&&◌, ◌||◌, ◌≤◌, ◌<◌, ◌⊎◌, Bool, true, false, not, List, [], ◌∷◌, min, Option, Some, None, if◌then◌else◌}
use Rattle.plan_types.specs.declared.machine.Machine.{Machine}
use Rattle.plan_types.specs.declared.machine.BoardDef.{BoardDef}
use Rattle.board_asking.specs.declared.asking.Asking.{Asking}
use Rattle.axis_homing.specs.declared.homing.Homing.{Homing}
use Rattle.host_reactor.specs.declared.ordered.Phase.{Phase}
use Rattle.host_reactor.specs.declared.ordered.Phase.TheVariants.{Running}
use Rattle.host_reactor.specs.declared.ordered.Known.{Known}
use Rattle.board_asking.specs.Asking.{is_out}
use Rattle.board_asking.specs.Drift.{drifts}
use Rattle.host_reactor.specs.Running.{all_ended}
use Rattle.plan_types.specs.Machines.{board_at}
use Rattle.plan_types.specs.declared.cause.Cause.{Cause}
use Rattle.msg_code.specs.declared.unit.Control.{Control}
use Rattle.msg_code.specs.declared.talk.State.{State}
use Rattle.host_reactor.specs.declared.ordered.Ordered.{Ordered}
use Rattle.host_reactor.specs.Reactor.{Reacted}

-- connecting has ended, and no order to stop was given
abbrev pub is_running : Phase → Bool
is_running Running = true
is_running phase = false

-- no asking of a board is out or waits
abbrev pub rests : Asking → Bool
rests a = not (is_out a.since) && not a.waits

-- no asking of any board is out or waits
abbrev pub all_rest : List Asking → Bool
all_rest [] = true
all_rest (a ∷ askings) = rests a && all_rest askings

-- the clock of some board drifts
abbrev pub any_drifts : List BoardDef → Bool
any_drifts [] = false
any_drifts (b ∷ boards) = drifts b.drift || any_drifts boards

-- the run goes on, no asking is out, and a section is still to end or the text's end still to be read
abbrev pub is_quiet : Known → Bool
is_quiet r = is_running r.phase && (all_rest r.askings.items && not (all_ended r.done r.reading))

-- of some turns from this one on, those before the first controls of a homing section, which go out 254 turns
-- before its start
abbrev pub before_homing : Option Homing → ℕ → ℕ → ℕ
before_homing None turn count = count
before_homing (Some h) turn count = min count (h.start - 254 - turn)

-- of some turns from this one on, those before the next asking for clocks, where some board drifts: boards
-- are asked in every thousandth turn
abbrev pub before_asking : Bool → ℕ → ℕ → ℕ
before_asking false turn count = count
before_asking true turn count = min count ((1_000 - turn % 1_000) % 1_000)

-- the turns from this one on that take notes without news, by the next turn whose note may have some: the note
-- of a turn is taken in the next one
abbrev pub clear_turns : ℕ → ℕ → ℕ
clear_turns clear turn = min (clear + 1 - turn) (2 ^ 64 - 1)

-- for how many turns, from this one on, a reactor has nothing to order, whatever the boards tell, unless it
-- ends the run
abbrev pub free_turns : Machine → Known → ℕ → ℕ
free_turns m r turn =
    if is_quiet r then before_asking (any_drifts m.boards) turn (before_homing r.homing turn (clear_turns r.clear turn))
    else 0

-- no asking is out, and none waits
abbrev pub Resting : List Asking → Type 0
Resting [] = Unit {0}
Resting (a ∷ askings) = (a.since ≡ None) × (a.waits ≡ false) × Resting askings

-- a homing section has its first controls in this turn or later
abbrev pub HomesFrom : Option Homing → ℕ → Type 0
HomesFrom None turn = Unit {0}
HomesFrom (Some h) turn = (turn + 254 ≤ h.start) × (h.group.start ≡ h.start)

-- no board that drifts is asked in this turn
abbrev pub AsksNone : Machine → ℕ → Type 0
AsksNone m turn = (b : ℕ) → (drifts (board_at m b).drift && (turn % 1_000 == 0)) ≡ false

-- a reactor rests for some turns, from this one on
pub record IsAtRest (m : Machine) (r : Known) (turn count : ℕ) : Type 0 where
  pub phase : r.phase ≡ Running
  pub resting : Resting r.askings.items
  pub going : all_ended r.done r.reading ≡ false
  pub homing : HomesFrom r.homing (turn + count)
  pub asking : (i : ℕ) → i < count → AsksNone m (turn + i)

-- the states are those of the turn before this one
abbrev pub AreOf : ℕ → List State → Type 0
AreOf turn [] = Unit {0}
AreOf turn (s ∷ states) = (s.turn + 1 ≡ turn) × AreOf turn states

-- no control has a command
abbrev pub AreEmpty : List Control → Type 0
AreEmpty [] = Unit {0}
AreEmpty (c ∷ controls) = (c.commands ≡ []) × AreEmpty controls

-- the controls have no commands, and the word has no news
pub record OrdersNothing (o : Ordered) : Type 0 where
  pub controls : AreEmpty o.controls
  pub word : o.word.news ≡ []

-- the run ends, or nothing is ordered and the reactor rests on
abbrev pub EndsOrRests : Machine → ℕ → ℕ → Reacted → Type 0
EndsOrRests m turn count x =
    ((cause : Cause) × (x.ordered.end ≡ Some cause)) ⊎ (OrdersNothing x.ordered × IsAtRest m x.known turn count)
