-- The axes of the homing sections that a reactor knows.
use Rattle.std.specs.Prelude.{◌≡◌, ◌<◌, List, [], ◌∷◌, Some, length}
use Rattle.plan_types.specs.declared.machine.Machine.{Machine}
use Rattle.wire_scene.specs.declared.scene.Switch.{Switch}
use Rattle.axis_homing.specs.declared.homing.Homing.{Homing}
use Rattle.host_reactor.specs.Notes.{noted}
use Rattle.host_reactor.specs.Runs.{Came, known_by}

-- each homing section that is known in some turns is of an axis of the machine
abbrev pub AxesLow : Machine → List Switch → List Came → Type 0
AxesLow m switches [] = Unit {0}
AxesLow m switches (c ∷ before) =
    ((h : Homing) → (noted m c.note (known_by m switches before)).homing ≡ Some h → h.axis < length m.axes)
    × AxesLow m switches before
