-- The moves of the text of a load: from each place to the next one.
use Rattle.std.specs.Prelude.{ℕ, zero, suc, ◌*◌, ◌/◌, ◌%◌, ℤ, pos, List, [], ◌∷◌, ◌++◌, if◌then◌else◌}
use Rattle.plan_types.specs.declared.plan.Move.{Move}
use Rattle.plan_types.specs.declared.plan.ReadEnd.{ReadEnd}
use Rattle.plan_types.specs.declared.plan.ReadStop.TheVariants.{End}
use Rattle.generated_load.specs.Text.{next_random, upper}
use Rattle.laws_report.specs.meshes.Bent.{differ, measured}

-- the place that a number stands for, in nanometres: x and y are whole micrometres from 0 to 200 mm
abbrev pub load_place : ℕ → List ℤ
load_place u = pos (u % 200_001 * 1_000) ∷ pos (u / 200_001 % 200_001 * 1_000) ∷ pos 0 ∷ pos 0 ∷ []

-- a move from one place to another at 100 mm/s, with the acceleration of the load's printer
abbrev pub load_move : List ℤ → List ℤ → Move
load_move from to = measured (record { from = from; to = to; d = 0; v = 100_000_000; a = 3_000_000_000 })

-- The moves of so many lines, from a place on and behind a state of the generator: each leads to the place of the
-- generator's next number; one to where it begins is left out.
abbrev pub load_path : ℕ → ℕ → List ℤ → List Move
load_path zero state from = []
load_path (suc lines) state from =
    let to = load_place (upper (next_random state)) in
    (if differ from to then load_move from to ∷ [] else []) ++ load_path lines (next_random state) to

-- a text of so many lines is accepted to its end, and none of them is passed over
abbrev pub accepted_whole : ℕ → ReadEnd
accepted_whole lines = record { lines = lines; passed = 0; stop = End }
