-- A trace while a board plays it.
use Rattle.std.specs.Prelude.{◌≡◌, ℕ, ◌+◌, ◌%◌, Bool, false, List, [], ◌∷◌, ◌++◌}
use Rattle.plan_types.specs.declared.machine.BoardDef.{BoardDef}
use Rattle.plan_types.specs.declared.plan.Pulse.{Pulse}
use Rattle.msg_dict.specs.Own.{own_formats}
use Rattle.board_sim.specs.Rig.{Rig, new_rig, takes_all}
use Rattle.board_sim.specs.Turn.{Simulated, IsTurn}
use Rattle.arrayvec.specs.ArrayVec.{ArrayVec}
use Rattle.plan_types.specs.Clock.{board_tick, clock_of}
use Rattle.frame_dump.specs.declared.trace.TraceTurn.{TraceTurn}
use Rattle.frame_dump.specs.Replays.{AreGiven, Given, Played, plays, with_pulses}

-- the turn up to which a board runs behind this one
abbrev pub run_until : ℕ → List TraceTurn → ℕ
run_until turn [] = turn + 1_001
run_until turn (t ∷ turns) = t.turn

-- what a board that stands at the next turn makes of it and of those that follow
abbrev pub plays_on : BoardDef → Rig → List Given → Played
plays_on b r [] = record { rig = r; pulses = [] }
plays_on b r (g ∷ gs) = plays b g.turn (takes_all r g.commands).rig gs

-- the first turns of a trace were played, and these are left
pub record PlayedSofar (b : BoardDef) (turns rest : List TraceTurn) (s : Simulated) (pulses : List Pulse) : Type 0 where
  pub given : List Given
  pub taken : ℕ
  pub expected : s.station.expected ≡ taken % 16
  pub more : (gs : List Given) → AreGiven own_formats taken s.dropping s.left rest gs →
      AreGiven own_formats 0 false [] turns (given ++ gs)
  pub same : (gs : List Given) → AreGiven own_formats taken s.dropping s.left rest gs →
      plays b 0 (new_rig b []) (given ++ gs) ≡ with_pulses pulses (plays_on b s.station.rig gs)

-- a board took the bytes of a turn and ran to a tick, and its pulses were added
pub record PlaysTurn (old : Simulated) (bytes : List ℕ) (until : ℕ) (new : Simulated) (before after : List Pulse)
    : Type 0 where
  pub pulses : List Pulse
  pub blocks : List (ArrayVec ℕ)
  pub turn : IsTurn old bytes until new pulses blocks
  pub added : after ≡ before ++ pulses

-- a board stands at its own tick of the first of some turns, whose numbers rise; or there are none
abbrev pub StandsAt : BoardDef → ℕ → List TraceTurn → Type 0
StandsAt b tick [] = Unit {0}
StandsAt b tick (t ∷ turns) = tick ≡ board_tick (clock_of b) t.turn
