-- A step queue beside the clocked stepper that it stands for, over any list of calls.
use Rattle.std.specs.Prelude.{◌≡◌, ℕ, ◌^◌, ◌<◌, Bool, true, false, List, [], ◌∷◌, ◌++◌, if◌then◌else◌}
use Rattle.plan_types.specs.declared.plan.Triple.{Triple}
use Rattle.plan_types.specs.declared.plan.Planned.{Planned}
use Rattle.plan_types.specs.Board.{Clocked, with_group, clocked_to, steps_before}
use Rattle.board_step.specs.Steps.{Pending, IsFair, ticks_at, first_tick, queue_to}

-- a call that is not refused
pub data StepperCall : Type 0 where
  Direction : Bool → StepperCall
  -- a reset to a clock
  Clock : ℕ → StepperCall
  -- a triple that comes at a tick, its direction and its whole ticks
  Add : ℕ → Triple → Bool → List ℕ → StepperCall
  Stop : StepperCall
  -- every step before a tick is made
  Run : ℕ → StepperCall

-- the queue after a call
abbrev pub queue_after : Pending → StepperCall → Pending
queue_after q (Direction up) = record q { up = up }
queue_after q (Clock clock) = record q { last = clock; halted = false }
queue_after q (Add now t up ticks) = record q {
  groups =
      if q.halted then q.groups
      else q.groups ++ record { up = q.up; ticks = ticks_at (first_tick now q.last t.interval q.groups) t } ∷ [];
}
queue_after q Stop = record q { groups = []; halted = true }
queue_after q (Run t) = queue_to t q

-- the clocked stepper after it, which knows whole ticks alone
abbrev pub clocked_after : Clocked → StepperCall → Clocked
clocked_after s (Direction up) = s
clocked_after s (Clock clock) = record s { halted = false }
clocked_after s (Add now t up ticks) = with_group s (record { up = up; ticks = ticks })
clocked_after s Stop = record s { groups = []; halted = true }
clocked_after s (Run t) = clocked_to t s

-- the steps that the queue makes in a call
abbrev pub makes : Pending → StepperCall → List Planned
makes q (Run t) = steps_before t q.groups
makes q _ = []

-- the triple's whole ticks are fair where it is not ignored, and its direction is the one that was set
abbrev pub IsFairCall : Pending → StepperCall → Type 0
IsFairCall q (Add now t up ticks) = q.halted ≡ false → (q.up ≡ up) × (t.interval < 2 ^ 32) × IsFair now q t ticks
IsFairCall q _ = Unit {0}

-- every call of a list is fair when it comes
abbrev pub AreFairCalls : Pending → List StepperCall → Type 0
AreFairCalls q [] = Unit {0}
AreFairCalls q (c ∷ cs) = IsFairCall q c × AreFairCalls (queue_after q c) cs

-- the queue after a list of calls
abbrev pub queue_after_all : Pending → List StepperCall → Pending
queue_after_all q [] = q
queue_after_all q (c ∷ cs) = queue_after_all (queue_after q c) cs

-- the clocked stepper after them
abbrev pub clocked_after_all : Clocked → List StepperCall → Clocked
clocked_after_all s [] = s
clocked_after_all s (c ∷ cs) = clocked_after_all (clocked_after s c) cs

-- the steps that the queue makes in them
abbrev pub makes_all : Pending → List StepperCall → List Planned
makes_all q [] = []
makes_all q (c ∷ cs) = makes q c ++ makes_all (queue_after q c) cs

-- a queue that made these steps stands for a clocked stepper
pub record QueueStandsFor (q : Pending) (made : List Planned) (s : Clocked) : Type 0 where
  pub halted : q.halted ≡ s.halted
  pub groups : q.groups ≡ s.groups
  pub steps : made ≡ s.made
