-- What contracts see of the queue of a digital output.
use Rattle.std.specs.Prelude.{ℕ, ◌+◌, ◌||◌, Bool, true, false, List, [], ◌∷◌, ◌++◌, length, nat_le, nat_lt, if◌then◌else◌, Option, Some, None, Result, Ok, Err}
use Rattle.circular_buffer.specs.Buffer.{last_item}
use Rattle.plan_types.specs.Board.{nearest}
use Rattle.digital_out.specs.declared.want.Want.{Want}
use Rattle.digital_out.specs.declared.queue.OutEvent.{OutEvent}
use Rattle.digital_out.specs.declared.queue.OutWhat.TheVariants.{On, Off, Missed}
use Rattle.digital_out.specs.declared.queue.OutRefusal.{OutRefusal}
use Rattle.digital_out.specs.declared.queue.OutRefusal.TheVariants.{Overflow, TooClose}

-- a queue as contracts see it
pub record Output : Type 0 where
  -- how many commands may pend
  pub slots : ℕ
  -- how many ticks the output stays on without a further command
  pub max : ℕ
  -- the time up to which it was run, or at which a command came last
  pub time : ℕ
  -- the commands that pend
  pub pending : List Want
  pub level : Bool
  -- the tick of the last command that was carried out
  pub last : ℕ
  pub missed : Bool

-- a queue that was run up to a time
abbrev pub with_time : Output → ℕ → Output
with_time q now = record q { time = now }

-- a queue with one command more, which came at a time
abbrev pub with_want : Output → ℕ → Want → Output
with_want q now w = record q { time = now; pending = q.pending ++ w ∷ [] }

-- a tick is not behind that of a command, where there is one
abbrev pub not_behind : Option Want → ℕ → Bool
not_behind None tick = false
not_behind (Some w) tick = nat_le tick w.tick

-- a tick is before now, or not behind the last command that pends
abbrev pub is_too_close : List Want → ℕ → ℕ → Bool
is_too_close pending now tick = nat_lt tick now || not_behind (last_item pending) tick

-- a command that comes now, at the tick nearest to now that has its clock
abbrev pub pushed_at : Output → ℕ → ℕ → Bool → Result Output OutRefusal
pushed_at q now at level =
    if nat_le q.slots (length q.pending) then Err Overflow
    else (if is_too_close q.pending now at then Err TooClose
    else Ok (with_want q now (record { tick = at; on = level })))

-- what a command that comes now makes of a queue, or why it is refused; an output that was missed ignores it
abbrev pub pushed : Output → ℕ → ℕ → Bool → Result Output OutRefusal
pushed q now clock level = if q.missed then Ok (with_time q now) else pushed_at q now (nearest now clock) level

-- the tick at which an output is missed that has a level since a tick, where no further command comes
abbrev pub missed_of : ℕ → Bool → ℕ → Option ℕ
missed_of max true last = Some (last + max)
missed_of max false last = None

-- a command comes behind the tick at which the output is missed, where there is one
abbrev pub comes_late : Option ℕ → ℕ → Bool
comes_late None tick = false
comes_late (Some at) tick = nat_lt at tick

-- what carrying out a command is
abbrev pub event_of : Want → OutEvent
event_of w = record { tick = w.tick; what = if w.on then On else Off }

-- one thing that may happen to a queue, and what is left behind it
pub record Turn : Type 0 where
  pub event : Option OutEvent
  pub left : Output

-- the output is missed, where that is before a tick
abbrev pub miss_turn : ℕ → Output → Option ℕ → Turn
miss_turn until q None = record { event = None; left = q }
miss_turn until q (Some at) =
    if nat_lt at until
    then record {
      event = Some (record { tick = at; what = Missed });
      left = record q { pending = []; level = false; missed = true };
    }
    else record { event = None; left = q }

-- a command is carried out, where its tick is before a tick
abbrev pub want_turn : ℕ → Output → Want → List Want → Turn
want_turn until q w ws =
    if nat_lt w.tick until
    then record { event = Some (event_of w); left = record q { pending = ws; level = w.on; last = w.tick } }
    else record { event = None; left = q }

-- what happens next to a queue with these commands that pend, which is missed at a tick unless one comes
-- before
abbrev pub turn_by : ℕ → Output → Option ℕ → List Want → Turn
turn_by until q miss [] = miss_turn until q miss
turn_by until q miss (w ∷ ws) = if comes_late miss w.tick then miss_turn until q miss else want_turn until q w ws

-- what happens next to a queue that is run to a tick: the first command that pends is carried out, or the
-- output is missed where no command comes in time; nothing where neither is before the tick, or where it was
-- missed already
abbrev pub output_turn : ℕ → Output → Turn
output_turn until q =
    if q.missed then record { event = None; left = q } else turn_by until q (missed_of q.max q.level q.last) q.pending

-- what is told next as a queue is run to a tick
abbrev pub event_next : ℕ → Output → Option OutEvent
event_next until q = (output_turn until (with_time q until)).event

-- the queue behind that
abbrev pub output_behind : ℕ → Output → Output
output_behind until q = (output_turn until (with_time q until)).left
