-- A board whose triggers expire at one tick only.
use Rattle.std.specs.Prelude.{◌≡◌, ◌<◌, ◌≤◌, ◌⊎◌, ◌%◌, ◌^◌, ◌++◌, ℕ, false, List, [], ◌∷◌, Some, None}
use Rattle.plan_types.specs.Board.{nearest}
use Rattle.board_trig.specs.declared.sampling.Sampling.{Sampling}
use Rattle.board_trig.specs.Kept.{MovesOn}
use Rattle.board_trig.specs.Nexts.{ExpiresAt}
use Rattle.msg_code.specs.declared.cmd.Cmd.{Cmd}
use Rattle.msg_code.specs.declared.cmd.Cmd.TheVariants as cmd
use Rattle.board_sim.specs.Rig.{Rig, Slot, slot_at, takes, pass}
use Rattle.board_sim.specs.RigRuns.{RigStep, Takes, Passes, rig_after}
use Rattle.trigger_group.specs.Group.{by_timeout}

-- an answer that tells that a trigger's timeout passed (reason 2) tells of this tick
abbrev pub TellsOnly : ℕ → Cmd → Type 0
TellsOnly tick (cmd.TrsyncState oid can reason clock) = can ≡ 0 → reason ≡ by_timeout → clock ≡ tick % 2 ^ 32
TellsOnly tick answer = Unit {0}

-- so some answers
abbrev pub AllTellOnly : ℕ → List Cmd → Type 0
AllTellOnly tick [] = Unit {0}
AllTellOnly tick (c ∷ cs) = TellsOnly tick c × AllTellOnly tick cs

-- of a trigger all is told, its readings move on, its switch triggers it for another reason, and where its
-- timeout passed it did so at this tick
pub record IsTriggerHeld (tick : ℕ) (s : Slot) : Type 0 where
  pub told : s.trigger.untold ≡ None
  pub moves : MovesOn s.trigger.sampling
  pub other : (y : Sampling) → s.trigger.sampling ≡ Some y → y.reason ≡ by_timeout → ⊥
  pub expiry : s.trigger.can ≡ false → s.trigger.reason ≡ by_timeout → s.trigger.tick ≡ tick

-- so all triggers of a board
abbrev pub AllHeld : ℕ → Rig → Type 0
AllHeld tick r = (oid : ℕ) (s : Slot) → slot_at r oid ≡ Some s → IsTriggerHeld tick s

-- the timeout of each trigger is at a tick or later, but where it is at this one
abbrev pub AllFar : ℕ → ℕ → Rig → Type 0
AllFar until tick r =
    (oid : ℕ) (s : Slot) → slot_at r oid ≡ Some s → (x : ℕ) → ExpiresAt s.trigger x → (until ≤ x) ⊎ (x ≡ tick)

-- a timeout that a command sets is later than the board's tick, and a trigger that it triggers, or lets a
-- switch trigger, does so for another reason
abbrev pub IsFitCommand : ℕ → Cmd → Type 0
IsFitCommand now (cmd.TrsyncSetTimeout oid clock) = now < nearest now clock
IsFitCommand now (cmd.TrsyncTrigger oid reason) = reason ≡ by_timeout → ⊥
IsFitCommand now (cmd.EndstopHome oid clock sample count rest value other reason) = reason ≡ by_timeout → ⊥
IsFitCommand now c = Unit {0}

-- so the commands that a board takes, and no stretch of time goes past a timeout, but where it is at this tick
abbrev pub AreFit : ℕ → Rig → List RigStep → Type 0
AreFit tick r [] = Unit {0}
AreFit tick r (Takes c ∷ ss) = IsFitCommand r.controller.tick c × AreFit tick (rig_after r (Takes c)) ss
AreFit tick r (Passes n t ∷ ss) = AllFar t tick r × AreFit tick (rig_after r (Passes n t)) ss

-- what a board answers to a command or in a stretch of time
abbrev pub answers_in : Rig → RigStep → List Cmd
answers_in r (Takes c) = (takes r c).answers
answers_in r (Passes n t) = (pass n r t).answers

-- what a board answers in all of some steps, one after the other
abbrev pub all_answers : List RigStep → Rig → List Cmd
all_answers [] r = []
all_answers (s ∷ ss) r = answers_in r s ++ all_answers ss (rig_after r s)
