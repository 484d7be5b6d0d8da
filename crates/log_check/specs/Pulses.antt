-- A pulse of a stepper, judged by the planned step of its place.
use Rattle.std.specs.Prelude.{ℕ, zero, suc, ◌-◌, Bool, List, [], ◌∷◌, length, max, nat_lt, slice_index_or, if◌then◌else◌, Option, Some, None}
use Rattle.plan_types.specs.declared.cause.MisfitKind.{MisfitKind}
use Rattle.plan_types.specs.declared.cause.MisfitKind.TheVariants.{Direction, Early, Late, Extra}
use Rattle.plan_types.specs.declared.plan.Planned.{Planned}
use Rattle.plan_types.specs.declared.plan.Pulse.{Pulse}
use Rattle.plan_types.specs.Plan.{opposite, window, no_step}
use Rattle.log_check.specs.declared.tally.Tally.{Tally}

-- the tick of the planned step before that of a place, and before the first one that at which the section begins
abbrev pub tick_before : ℕ → List Planned → ℕ → ℕ
tick_before base plan zero = base
tick_before base plan (suc i) = (slice_index_or plan i no_step).tick

-- Why a pulse isn't made for a planned step: it goes the other way, or is before the step's window, or behind its tick.
abbrev pub step_fault : ℕ → ℕ → Planned → ℕ → Bool → Option MisfitKind
step_fault freq before step tick up =
    if opposite step.up up then Some Direction
    else (if nat_lt tick (window freq before step.tick) then Some Early
    else (if nat_lt step.tick tick then Some Late else None))

-- Why a pulse behind so many others of its stepper isn't made for the planned step of its place, or that there is none.
abbrev pub pulse_fault : ℕ → ℕ → List Planned → ℕ → ℕ → Bool → Option MisfitKind
pulse_fault freq base plan i tick up =
    if nat_lt i (length plan) then step_fault freq (tick_before base plan i) (slice_index_or plan i no_step) tick up
    else Some Extra

-- by how many ticks a pulse is before the planned tick of its place
abbrev pub ahead : List Planned → ℕ → ℕ → ℕ
ahead plan i tick = if nat_lt i (length plan) then (slice_index_or plan i no_step).tick - tick else 0

-- by how many it is behind that
abbrev pub ticks_late : List Planned → ℕ → ℕ → ℕ
ticks_late plan i tick = if nat_lt i (length plan) then tick - (slice_index_or plan i no_step).tick else 0

-- the greatest number of ticks by which one of some pulses, the last one first, is before its planned tick
abbrev pub most_early : List Planned → List Pulse → ℕ
most_early plan [] = 0
most_early plan (p ∷ pulses) = max (most_early plan pulses) (ahead plan (length pulses) p.tick)

-- the greatest number of ticks by which one is behind it
abbrev pub most_late : List Planned → List Pulse → ℕ
most_late plan [] = 0
most_late plan (p ∷ pulses) = max (most_late plan pulses) (ticks_late plan (length pulses) p.tick)

-- how some pulses stand to a plan
abbrev pub tally_of : List Planned → List Pulse → Tally
tally_of plan pulses = record { made = length pulses; early = most_early plan pulses; late = most_late plan pulses }

-- the same with one more pulse
abbrev pub with_pulse : List Planned → Tally → ℕ → Tally
with_pulse plan t tick =
    record {
      made = suc t.made;
      early = max t.early (ahead plan t.made tick);
      late = max t.late (ticks_late plan t.made tick);
    }
