-- Lists of pushes and advances.
use Rattle.std.specs.Prelude.{ℕ, ◌<◌, ◌≤◌, Bool, false, List, [], ◌∷◌, ◌++◌, Option, Some, None, Result, Ok, Err, if◌then◌else◌}
use Rattle.plan_types.specs.Board.{nearest}
use Rattle.plan_types.specs.Clock.{tick_limit}
use Rattle.digital_out.specs.declared.want.Want.{Want}
use Rattle.digital_out.specs.declared.queue.OutEvent.{OutEvent}
use Rattle.digital_out.specs.declared.queue.OutRefusal.{OutRefusal}
use Rattle.digital_out.specs.Outputs.{Output, output_behind, event_next, pushed}

-- a push at a time of a command with a clock, or an advance to a tick
pub data OutputCall : Type 0 where
  Push : ℕ → ℕ → Bool → OutputCall
  Advance : ℕ → OutputCall

-- an empty queue
abbrev pub new_queue : ℕ → ℕ → Output
new_queue room longest =
    record { slots = room; max = longest; time = 0; pending = []; level = false; last = 0; missed = false }

-- the queue behind a push: as it was, where that is refused
abbrev pub after_push : Output → Result Output OutRefusal → Output
after_push q (Ok next) = next
after_push q (Err refusal) = q

-- the queue behind a call
abbrev pub after_call : Output → OutputCall → Output
after_call q (Push now clock on) = after_push q (pushed q now clock on)
after_call q (Advance until) = output_behind until q

-- the queue behind some calls, one after the other
abbrev pub after_all : Output → List OutputCall → Output
after_all q [] = q
after_all q (c ∷ cs) = after_all (after_call q c) cs

-- the time of a call, in ticks
abbrev pub call_time : OutputCall → ℕ
call_time (Push now clock on) = now
call_time (Advance until) = until

-- the times of some calls don't fall, and are small
abbrev pub AreFair : Output → List OutputCall → Type 0
AreFair q [] = Unit {0}
AreFair q (c ∷ cs) = (q.time ≤ call_time c) × (call_time c < tick_limit) × AreFair (after_call q c) cs

-- the command of a push, where that is not refused
abbrev pub accepted_by : ℕ → Bool → Result Output OutRefusal → List Want
accepted_by at level (Ok next) = record { tick = at; on = level } ∷ []
accepted_by at level (Err refusal) = []

-- the command of a call, where it is neither refused nor ignored
abbrev pub accepted_one : Output → OutputCall → List Want
accepted_one q (Push now clock on) = if q.missed then [] else accepted_by (nearest now clock) on (pushed q now clock on)
accepted_one q (Advance until) = []

-- the commands that were neither refused nor ignored
abbrev pub accepted_wants : Output → List OutputCall → List Want
accepted_wants q [] = []
accepted_wants q (c ∷ cs) = accepted_one q c ++ accepted_wants (after_call q c) cs

-- what is told, as a list
abbrev pub event_items : Option OutEvent → List OutEvent
event_items None = []
event_items (Some e) = e ∷ []

-- what a call tells
abbrev pub made_one : Output → OutputCall → List OutEvent
made_one q (Push now clock on) = []
made_one q (Advance until) = event_items (event_next until q)

-- what all calls tell
abbrev pub made : Output → List OutputCall → List OutEvent
made q [] = []
made q (c ∷ cs) = made_one q c ++ made (after_call q c) cs
