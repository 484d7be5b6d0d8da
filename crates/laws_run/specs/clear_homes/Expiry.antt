-- A run that ends as a board expired.
use Rattle.std.specs.Prelude.{◌≡◌, ◌≤◌, ℕ, List, [], ◌∷◌, Some}
use Rattle.plan_types.specs.declared.machine.Machine.{Machine}
use Rattle.wire_scene.specs.declared.scene.Switch.{Switch}
use Rattle.axis_homing.specs.declared.homing.Homing.{Homing}
use Rattle.host_reactor.specs.Notes.{noted}
use Rattle.host_reactor.specs.Runs.{known_by}
use Rattle.session_work.specs.declared.table.ReactorTurn.{ReactorTurn}
use Rattle.session_run.specs.Boards.{came_from, came_in}
use Rattle.laws_homing.specs.clear_boards.Expiry.{CameExpiry}

-- A run that ends as a board expired in a turn, by the reactor's turns and the last one: the homing section
-- that was under way, of which that turn isn't past the last one, and a state that tells so, of the turn in
-- front of the section's start or later.
abbrev pub IsExpired : Machine → List Switch → ℕ → ℕ → List ReactorTurn → ReactorTurn → Type 0
IsExpired m switches board turn turns last =
    (h : Homing) × ((noted m last.note (known_by m switches (came_from [] turns))).homing ≡ Some h)
    × (turn ≤ h.group.last) × CameExpiry m switches board h.start turn (came_in last ∷ came_from [] turns)
