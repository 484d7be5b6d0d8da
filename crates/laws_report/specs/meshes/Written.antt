-- Files that are written for a text of G-code, as they are read.
use Rattle.std.specs.Prelude.{◌≡◌, ◌⊎◌, ℕ, ◌+◌, ◌≤◌, Ok, Err, List, [], ◌∷◌, ◌++◌, length, take}
use Rattle.text_core.specs.Lines.{lines_of}
use Rattle.plan_types.specs.declared.cause.LineKind.{LineKind}
use Rattle.plan_types.specs.declared.machine.Machine.{Machine}
use Rattle.plan_types.specs.declared.plan.ReadEnd.{ReadEnd}
use Rattle.plan_types.specs.declared.plan.ReadStop.{ReadStop}
use Rattle.plan_types.specs.declared.plan.ReadStop.TheVariants.{End, Refused, Stop}
use Rattle.plan_types.specs.declared.plan.Section.{Section}
use Rattle.gcode_state.specs.declared.state.State.{State}
use Rattle.gcode_state.specs.Starts.{initial}
use Rattle.gcode_program.specs.Cuts.{sections_of}
use Rattle.gcode_program.specs.Programs.{outcome_of}
use Rattle.gcode_program.specs.Reader.{HasNoEnd}
use Rattle.gcode_program.specs.Readings.{Deed}
use Rattle.bed_mesh.specs.declared.mesh.Mesh.{Mesh}
use Rattle.bed_mesh.specs.Files.{accepted_state, mesh_code, mesh_end}
use Rattle.bed_mesh.specs.BentLines.{lines_by}
use Rattle.laws_report.specs.meshes.Bent.{bent_sections, origin}

-- a line that is a comment: it begins with `;`, and has at most 1,024 bytes before its LF
pub record IsComment (text : List ℕ) : Type 0 where
  pub said : List ℕ
  pub is : text ≡ 59 ∷ (said ++ 10 ∷ [])
  pub one : HasNoEnd said
  pub short : length said ≤ 1_023

-- what stands behind the code of a file: nothing, or one more line that is a comment
abbrev pub IsEnding : List ℕ → Type 0
IsEnding end = (end ≡ []) ⊎ IsComment end

-- a whole file is small enough to be read
abbrev pub IsSmallFile : List ℕ → Type 0
IsSmallFile file = length file ≤ 1_073_741_824

-- How a file is read that is accepted, by how the reading of the text stops for which it is written: with all
-- its lines to its end, where that isn't at a line that asks for a stop; and else to such a line, which is
-- the last of its code. No line of it is passed over.
abbrev pub accepted_end : ReadStop → List (List ℕ) → List (List ℕ) → ReadEnd
accepted_end (Stop number) code all = record { lines = length code; passed = 0; stop = Stop (length code) }
accepted_end other code all = record { lines = length all; passed = 0; stop = End }

-- A text is read no further for a file, though its next line is accepted: what would be written for that is
-- refused behind the code, and so is the line.
pub record IsRefusedThere (m : Machine) (t : Mesh) (text : List ℕ) : Type 0 where
  pub before : List Deed
  pub next : Deed
  pub behind : List Deed
  pub modes : State
  pub kind : LineKind
  pub deeds : (outcome_of m text).deeds ≡ before ++ next ∷ behind
  pub count : (mesh_end m t text).lines ≡ length before
  pub stop : (mesh_end m t text).stop ≡ Refused (1 + length before) kind
  pub goes : accepted_state 0 (initial m) (lines_of (mesh_code m t text)) ≡ Ok modes
  pub refused : accepted_state (length (mesh_code m t text)) modes (lines_by t modes.acceleration next.action)
      ≡ Err kind

-- the sections that a text's first so many accepted lines make
abbrev pub first_sections : ℕ → Machine → List ℕ → List Section
first_sections count m text = sections_of m 0 [] (take count (outcome_of m text).deeds)

-- the sections over a bed that those lines of a text make for which a file is written
abbrev pub bent_program : Machine → Mesh → List ℕ → List Section
bent_program m t text = bent_sections m t origin m.a 0 (first_sections (mesh_end m t text).lines m text)
