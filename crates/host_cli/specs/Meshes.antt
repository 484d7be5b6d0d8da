-- What `mesh` writes: a G-code over a measured bed.
use Rattle.std.specs.Prelude.{◌≡◌, ◌≢◌, ◌⊎◌, ℕ, List, [], ◌++◌, codes, Option, Some, Ok, Err}
use Rattle.bed_mesh.specs.declared.fault.MeshFault.TheVariants as fault
use Rattle.bed_mesh.specs.declared.mesh.Mesh.{Mesh}
use Rattle.bed_mesh.specs.Tables as tables
use Rattle.plan_types.specs.declared.cause.Cause.{Cause}
use Rattle.plan_types.specs.declared.cause.Cause.TheVariants as cause
use Rattle.plan_types.specs.declared.cause.MeshKind.{MeshKind}
use Rattle.plan_types.specs.declared.machine.Machine.{Machine}
use Rattle.report_text.specs.Text.{end_text}
use Rattle.report_text.specs.Written.{WritesAll, WritesFront}
use Rattle.session_run.specs.declared.ended.Report.{Report}
use Rattle.session_run.specs.Ends.{IsBare}
use Rattle.session_run.specs.Reported.{GivenFor}
use Rattle.host_cli.specs.Promises.{EndsAlone, IsAlone}

-- the end line of a cause as a comment
abbrev pub mark : Machine → Cause → List ℕ
mark names c = codes "; " ++ end_text names c

-- a code with that behind it
abbrev pub marked : Machine → List ℕ → Cause → List ℕ
marked names code c = code ++ mark names c

-- A code and the end line of a cause are written, a front of them where memory was wanted or a write failed.
-- The end lines of this command name no board, so that the machine by whose names they are written doesn't
-- matter. The report is the end line alone.
pub record WritesMarked (code : List ℕ) (c : Cause) (old new : Option (List ℕ)) (given : Cause) (r : Report)
    : Type 0 where
  pub names : Machine
  pub given_is : GivenFor c given
  pub front : WritesFront old new (marked names code c)
  pub all : given ≢ cause.Memory → given ≢ cause.WriteFault → WritesAll old new (marked names code c)
  pub alone : IsAlone c r.lines
  pub bare : IsBare r

-- these are written; or, for want of memory or a file that can't be read, the end line of that alone
abbrev pub ShowsMarked : List ℕ → Cause → Option (List ℕ) → Option (List ℕ) → Cause → Report → Type 0
ShowsMarked code c old new given r =
    WritesMarked code c old new given r
    ⊎ (WritesMarked [] cause.Memory old new given r ⊎ WritesMarked [] cause.ReadFault old new given r)

-- the same; or the end line of a want of memory that is met while the words are read
abbrev pub ShowsMesh : List ℕ → Cause → Option (List ℕ) → Option (List ℕ) → Cause → Report → Type 0
ShowsMesh code c old new given r = ShowsMarked code c old new given r ⊎ EndsAlone cause.Memory old new given r

-- the bed of a table, where its bytes are told
abbrev pub IsMeshIn : Option (List ℕ) → Mesh → Type 0
IsMeshIn told t = (text : List ℕ) → told ≡ Some text → tables.mesh_of_text text ≡ Ok t

-- the cause why there is no bed: its table's first fault, where its bytes are told; or want of memory; or
-- that it can't be read
abbrev pub IsTableFault : Option (List ℕ) → Cause → Type 0
IsTableFault told c =
    ((line : ℕ) × (kind : MeshKind) × (c ≡ cause.Mesh line kind)
    × ((text : List ℕ) → told ≡ Some text → tables.mesh_of_text text ≡ Err (fault.At line kind)))
    ⊎ ((c ≡ cause.Memory) ⊎ (c ≡ cause.ReadFault))
