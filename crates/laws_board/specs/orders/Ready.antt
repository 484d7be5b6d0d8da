-- When connecting ends in a run.
use Rattle.std.specs.Prelude.{ℕ, Bool, true, false, List, [], ◌∷◌, length, if◌then◌else◌}
use Rattle.plan_types.specs.declared.machine.Machine.{Machine}
use Rattle.wire_scene.specs.declared.scene.Switch.{Switch}
use Rattle.host_reactor.specs.declared.ordered.Phase.{Phase}
use Rattle.host_reactor.specs.declared.ordered.Phase.TheVariants.{Connecting}
use Rattle.host_reactor.specs.Runs.{Came, known_by}

-- a run has not ended connecting
abbrev pub is_connecting : Phase → Bool
is_connecting Connecting = true
is_connecting phase = false

-- the turn in which connecting ended; while it lasts, the latest turn
abbrev pub ready_turn : Machine → List Switch → List Came → ℕ
ready_turn m switches [] = 0
ready_turn m switches (c ∷ before) =
    if is_connecting (known_by m switches before).phase then length before else ready_turn m switches before
