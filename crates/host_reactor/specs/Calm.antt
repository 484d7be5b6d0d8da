-- A running turn in which nothing is ordered, nothing but pulses is told, and what is known stays as it is.
use Rattle.std.specs.Prelude.{ℕ, ◌%◌, ◌==◌, ◌&&◌, Bool, true, false, not, is_some, List, [], ◌∷◌, Option, Some, None}
use Rattle.plan_types.specs.Lines.{Clocks}
use Rattle.msg_code.specs.declared.unit.Control.{Control}
use Rattle.msg_code.specs.declared.talk.State.{State}
use Rattle.board_asking.specs.declared.asking.Asking.{Asking}
use Rattle.axis_homing.specs.declared.homing.Homing.{Homing}
use Rattle.board_asking.specs.Connecting.{control}
use Rattle.host_reactor.specs.declared.ordered.Begun.{Begun}
use Rattle.host_reactor.specs.declared.ordered.Known.{Known}
use Rattle.host_reactor.specs.Free.{is_quiet}

-- no axis homes
abbrev pub homes_none : Option Homing → Bool
homes_none None = true
homes_none (Some h) = false

-- a list of numbers has none
abbrev pub is_none : List ℕ → Bool
is_none [] = true
is_none (n ∷ numbers) = false

-- a link has its memory, its board is not shut down, and no asking for a clock was put on its line
abbrev pub says_none : State → Bool
says_none s = not s.out && (not (is_some s.shut) && is_none s.asked)

-- all links say none of this
abbrev pub all_say_none : List State → Bool
all_say_none [] = true
all_say_none (s ∷ states) = says_none s && all_say_none states

-- a section's line stands in this turn
abbrev pub tells_start : ℕ → Option Begun → Bool
tells_start k None = false
tells_start k (Some b) = b.turn == k

-- the run goes on, no asking is out, nothing homes, and no end was told
abbrev pub is_still : Known → Bool
is_still r = is_quiet r && (homes_none r.homing && not (is_some r.stopped))

-- the reactor is still, no asking begins, and nothing but pulses is told
abbrev pub is_calm : Known → ℕ → List State → Bool
is_calm r k states =
    is_still r && (not (tells_start k r.begun) && (all_say_none states && not (k % 1_000 == 0)))

-- the controls of a calm turn
abbrev pub calm_controls : ℕ → List Clocks → List Asking → List Control
calm_controls k clocks [] = []
calm_controls k [] (a ∷ askings) = calm_controls k [] askings
calm_controls k (c ∷ clocks) (a ∷ askings) = control k [] true false ∷ calm_controls k clocks askings
