-- The scenes that a run may have.
use Rattle.std.specs.Prelude.{◌≡◌, ◌⊎◌, ℕ, List, Ok, []}
use Rattle.plan_types.specs.declared.machine.Machine.{Machine}
use Rattle.wire_scene.specs.declared.scene.Scene.{Scene}
use Rattle.wire_scene.specs.Reading as scenes

-- the scene without entries and without switches
abbrev pub no_scene : Scene
no_scene = record { entries = []; switches = [] }

-- a scene of a run: the one without entries and switches, where no scene is asked for, or one that a text
-- tells for the machine
abbrev pub IsSceneFor : Machine → Scene → Type 0
IsSceneFor m s = (s ≡ no_scene) ⊎ ((text : List ℕ) × (scenes.scene_of_text m text ≡ Ok s))
