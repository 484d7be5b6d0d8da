-- What commands say of the level of an output.
use Rattle.std.specs.Prelude.{ℕ, Bool, false, List, [], ◌∷◌, nat_lt, if◌then◌else◌, Option, Some, None}
use Rattle.plan_types.specs.Numbers.{tick_before}
use Rattle.digital_out.specs.declared.want.Want.{Want}
use Rattle.digital_out.specs.declared.queue.OutEvent.{OutEvent}
use Rattle.digital_out.specs.declared.queue.OutWhat.{OutWhat}
use Rattle.digital_out.specs.declared.queue.OutWhat.TheVariants.{On, Off, Missed}
use Rattle.digital_out.specs.Outputs.{comes_late, missed_of}

-- The tick at which an output is missed that has a level since a tick, with these commands to come: so many
-- ticks behind the first command that leaves it on where no command falls at or before that tick.
abbrev pub first_miss : ℕ → Bool → ℕ → List Want → Option ℕ
first_miss max level last [] = missed_of max level last
first_miss max level last (w ∷ ws) =
    if comes_late (missed_of max level last) w.tick then missed_of max level last else first_miss max w.on w.tick ws

-- the level of the last command before a tick, and at first this one
abbrev pub last_level : Bool → ℕ → List Want → Bool
last_level level until [] = level
last_level level until (w ∷ ws) = if nat_lt w.tick until then last_level w.on until ws else level

-- a level, but off where the output was missed
abbrev pub level_unless : Option ℕ → Bool → Bool
level_unless None level = level
level_unless (Some at) level = false

-- the level before a tick of an output that is off at first: that of the last command before it, and off
-- where it was missed
abbrev pub level_at : ℕ → ℕ → List Want → Bool
level_at max until ws = level_unless (tick_before until (first_miss max false 0 ws)) (last_level false until ws)

-- the tick at which an output is missed by what is told: by this one, or by a later one
abbrev pub missed_by : ℕ → OutWhat → Option ℕ → Option ℕ
missed_by tick Missed later = Some tick
missed_by tick On later = later
missed_by tick Off later = later

-- the tick of the first event that tells that the output was missed
abbrev pub missed_at : List OutEvent → Option ℕ
missed_at [] = None
missed_at (e ∷ es) = missed_by e.tick e.what (missed_at es)
