-- Lines that are written and read back.
use Rattle.std.specs.Prelude.{◌≡◌, ℕ, ◌+◌, ◌≤◌, ◌^◌, ℤ, List, ◌++◌, length, Result, Ok, Err, unsigned_abs, ⊤}
use Rattle.plan_types.specs.declared.cause.LineKind.{LineKind}
use Rattle.gcode_state.specs.declared.state.State.{State}
use Rattle.bed_mesh.specs.declared.back.Halt.{Halt}
use Rattle.bed_mesh.specs.declared.back.Halt.TheVariants.{Memory, Refused}
use Rattle.bed_mesh.specs.Files.{accepted_state}
use Rattle.bed_mesh.specs.BentLines.{at, joined_lines}

-- there is room behind a text for one more line, and no more lines of it move something than it has bytes
pub record HasLineRoom (start : ℕ) (s : State) (text : List ℕ) : Type 0 where
  pub few : s.lines ≤ start + length text
  pub near : start + length text ≤ 1_073_741_825

-- these lines were written behind a text, before which so many bytes stand, and were all accepted
pub record AreWritten (start : ℕ) (s : State) (old : List ℕ) (lines : List (List ℕ)) (t : State) (new : List ℕ)
    : Type 0 where
  pub accepted_is : accepted_state (start + length old) s lines ≡ Ok t
  pub text : new ≡ old ++ joined_lines lines
  pub room : HasLineRoom start t new

-- why lines were not all written
abbrev pub IsWhy : Halt → Result State LineKind → Type 0
IsWhy Memory r = ⊤
IsWhy (Refused kind) r = r ≡ Err kind

-- a place near a bed
pub record IsNearPlace (place : List ℤ) : Type 0 where
  pub x : unsigned_abs (at place 0) ≤ 2 ^ 40
  pub y : unsigned_abs (at place 1) ≤ 2 ^ 40
  pub z : unsigned_abs (at place 2) ≤ 2 ^ 40
  pub e : unsigned_abs (at place 3) ≤ 2 ^ 61
