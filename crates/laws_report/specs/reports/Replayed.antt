-- What the commands mean that a board takes in a replay.
use Rattle.std.specs.Prelude.{ℕ, List, [], ◌∷◌, ◌++◌, map}
use Rattle.plan_types.specs.declared.machine.BoardDef.{BoardDef}
use Rattle.plan_types.specs.declared.plan.Pulse.{Pulse}
use Rattle.board_sim.specs.Rig.{Rig, takes_all}
use Rattle.board_sim.specs.Fair.{AreFair, Meant, commands_of}
use Rattle.board_sim.specs.Halted.{meant_behind}
use Rattle.board_world.specs.Units.{FindSteppers}
use Rattle.frame_dump.specs.Replays.{Given, plays_to}

-- a turn, and the commands that are taken in it, each with the whole ticks that the host means by it
pub record MeantIn : Type 0 where
  pub turn : ℕ
  pub meant : List Meant

-- the turns with the commands alone
abbrev pub turns_given : List MeantIn → List Given
turns_given ms = map (λ m. record { turn = m.turn; commands = commands_of m.meant }) ms

-- all commands, one turn behind the other
abbrev pub all_meant : List MeantIn → List Meant
all_meant [] = []
all_meant (m ∷ ms) = m.meant ++ all_meant ms

-- a board as it stands in a turn, once it took the turn's commands
abbrev pub behind_turn : BoardDef → Rig → MeantIn → Rig
behind_turn b r m = (takes_all (plays_to b m.turn r).rig (commands_of m.meant)).rig

-- the units of each turn are fair when they are taken
abbrev pub TurnsAreFair : BoardDef → Rig → List MeantIn → Type 0
TurnsAreFair b r [] = Unit {0}
TurnsAreFair b r (m ∷ ms) = AreFair (plays_to b m.turn r).rig m.meant × TurnsAreFair b (behind_turn b r m) ms

-- each unit is taken after its stepper was made, and neither it nor a reset while that is halted
abbrev pub TurnsFind : BoardDef → Rig → List MeantIn → Type 0
TurnsFind b r [] = Unit {0}
TurnsFind b r (m ∷ ms) = FindSteppers (plays_to b m.turn r).rig m.meant × TurnsFind b (behind_turn b r m) ms

-- The steps that are meant behind such turns, where some were made and some are meant already: those of the
-- units that are taken come to them, and of a stepper that was halted the rest of those before its next reset
-- is left out.
abbrev pub steps_meant : BoardDef → Rig → List Pulse → List Pulse → List MeantIn → List Pulse
steps_meant b r made meant [] = meant
steps_meant b r made meant (m ∷ ms) =
    let before = plays_to b m.turn r in
    steps_meant b (behind_turn b r m) (made ++ before.pulses)
    (meant_behind before.rig (made ++ before.pulses) meant m.meant) ms
