-- A file that is written line by line.
use Rattle.std.proofs.Common.{◌≡◌, ◌∙◌, ℕ, ◌+◌, ◌++◌, Bool, true, List, [], ◌∷◌, length, length-append, refl, ap, sym, subst, arith, append_assoc, append-nil, Ok, Err}
use Rattle.std.specs.Prelude.{Result}
use Rattle.plan_types.specs.declared.cause.LineKind.{LineKind}
use Rattle.plan_types.specs.declared.plan.ReadStop.{ReadStop}
use Rattle.gcode_state.specs.declared.state.State.{State}
use Rattle.gcode_state.specs.declared.state.Action.{Action}
use Rattle.bed_mesh.specs.declared.mesh.Mesh.{Mesh}
use Rattle.bed_mesh.specs.Files.{Pen, Sheet, head_text, sheet, sheet_behind}

pub begin : (t : Mesh) (size : ℕ) (code : List ℕ) (s u : State) (p q : Pen) (lines : List (List ℕ)) → code ≡ head_text → p ≡ q → s ≡ u → sheet_behind code 0 0 (sheet t size s p 1 0 lines) ≡ sheet_behind head_text 0 0 (sheet t size u q 1 0 lines)
begin t size code s u p q lines c e f = rw (c, e, f) refl
