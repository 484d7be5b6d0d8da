-- A file that follows a bed: its words, and what is written.
use Rattle.std.proofs.Common.{◌≡◌, ◌≢◌, ◌∙◌, ◌⊎◌, inl, inr, ℕ, ◌+◌, ◌<◌, ◌≤◌, List, [], ◌∷◌, ◌++◌, length, take, Option, Some, None, refl, ap, sym, subst, arith, true, append-nil}
use Rattle.std.specs.Prelude.{Ok, Err, nat_lt}
use Rattle.std.proofs.lemmas.Bool.{cases_lt}
use Rattle.std.proofs.lemmas.List.{take_all, length-take-le}
use Rattle.std.proofs.lemmas.Bool.Decides.{nat_tests}
use Rattle.bed_mesh.specs.declared.fault.MeshFault.TheVariants as fault
use Rattle.bed_mesh.specs.declared.mesh.Mesh.{Mesh}
use Rattle.bed_mesh.specs.Tables as tables
use Rattle.cfg_lines.specs.declared.fault.CfgFault.TheVariants.{At}
use Rattle.cfg_text.specs.Reading.{machine_of_text}
use Rattle.plan_types.specs.declared.cause.Cause.{Cause}
use Rattle.plan_types.specs.declared.cause.Cause.TheVariants as cause
use Rattle.plan_types.specs.declared.cause.CfgKind.{CfgKind}
use Rattle.plan_types.specs.declared.cause.MeshKind.{MeshKind}
use Rattle.plan_types.specs.declared.machine.Machine.{Machine}
use Rattle.session_run.specs.declared.ended.Report.{Report}
use Rattle.session_run.specs.Ends.{IsBare}
use Rattle.host_cli.specs.Meshes.{IsMeshIn, IsTableFault, ShowsMarked, WritesMarked, marked}
use Rattle.bed_mesh.specs.Files.{mesh_code, mesh_end}
use Rattle.plan_types.specs.declared.plan.ReadEnd.{ReadEnd}
use Rattle.laws_report.specs.reports.Body.{cause_of}
use Rattle.host_cli.proofs.Scened.{NoMachine}
use Rattle.host_cli.proofs.Cuts.{is-large}

pub table-cut : (t : List ℕ) → tables.mesh_of_text (take (1_048_576 + 1) t) ≡ tables.mesh_of_text t
unfolding tables.mesh_of_text
table-cut t = elim (cases_lt 1_048_576 (length t)) [
  | inl large ↦ (
      let count : length (take 1_048_577 t) ≡ 1_048_577 = length-take-le 1_048_577 t (omega arith) in
      let one = is-large (length (take 1_048_577 t)) (omega arith) in
      let two = is-large (length t) large in
      rw (one, two) refl)
  | inr small ↦ ap tables.mesh_of_text (take_all 1_048_577 t (omega arith))
]

-- nothing is written where memory is wanted for the end line
pub none-marked : (names : Machine) (old : Option (List ℕ)) (given : Cause) (shown : Report) → given ≡ cause.Memory → shown.lines ≡ [] → IsBare shown → WritesMarked [] cause.Memory old old given shown
none-marked names old given shown is none bare = record {
  names = names;
  given_is = inl is;
  front = λ before e. ([], e ∙ ap Some (sym (append-nil before)), (marked names [] cause.Memory, refl));
  all = λ memory write. absurd (memory is);
  alone = inr (none, refl);
  bare = bare;
}

-- why there is no bed
pub table-named : (told : Option (List ℕ)) (c : Cause) → IsTableFault told c → c ≢ cause.Usage
table-named told c (inl x) u = let q = sym u ∙ x.2 in cc
table-named told c (inr (inl x)) u = let q = sym u ∙ x in cc
table-named told c (inr (inr x)) u = let q = sym u ∙ x in cc

pub table-unwritten : (told : Option (List ℕ)) (c : Cause) → IsTableFault told c → c ≢ cause.WriteFault
table-unwritten told c (inl x) u = let q = sym u ∙ x.2 in cc
table-unwritten told c (inr (inl x)) u = let q = sym u ∙ x in cc
table-unwritten told c (inr (inr x)) u = let q = sym u ∙ x in cc

module _ (old new : Option (List ℕ)) (given : Cause) (shown : Report) where
  -- an end line alone, of a cause or of want of memory
  abbrev Marked : Cause → Type 0
  Marked c = WritesMarked [] c old new given shown ⊎ WritesMarked [] cause.Memory old new given shown

  -- a want of memory or a file that can't be read
  any-marked : (code : List ℕ) (wanted c : Cause) → (c ≡ cause.Memory) ⊎ (c ≡ cause.ReadFault) → Marked c → ShowsMarked code wanted old new given shown
  any-marked code wanted c (inl e) (inl w) = inr (inl (subst (λ (d : Cause). WritesMarked [] d old new given shown) e w))
  any-marked code wanted c (inr e) (inl w) = inr (inr (subst (λ (d : Cause). WritesMarked [] d old new given shown) e w))
  any-marked code wanted c st (inr w) = inr (inl w)

  own-marked : (wanted c : Cause) → c ≡ wanted → Marked c → ShowsMarked [] wanted old new given shown
  own-marked wanted c e (inl w) = inl (subst (λ (d : Cause). WritesMarked [] d old new given shown) e w)
  own-marked wanted c e (inr w) = inr (inl w)

  pub table-unread : (told : Option (List ℕ)) (c wanted : Cause) (code text : List ℕ) (t : Mesh) → IsTableFault told c → Marked c → told ≡ Some text → tables.mesh_of_text text ≡ Ok t → ShowsMarked code wanted old new given shown
  table-unread told c wanted code text t (inl x) w seen is = absurd (let q = sym is ∙ x.3 text seen in cc)
  table-unread told c wanted code text t (inr st) w seen is = any-marked code wanted c st w

  pub table-refused : (told : Option (List ℕ)) (c : Cause) (text : List ℕ) (line : ℕ) (kind : MeshKind) → IsTableFault told c → Marked c → told ≡ Some text → tables.mesh_of_text text ≡ Err (fault.At line kind)
      → ShowsMarked [] (cause.Mesh line kind) old new given shown
  table-refused told c text line kind (inl x) w seen is =
      let same : cause.Mesh x.0 x.1 ≡ cause.Mesh line kind = (let q = sym (x.3 text seen) ∙ is in cc) in
      own-marked (cause.Mesh line kind) c (x.2 ∙ same) w
  table-refused told c text line kind (inr st) w seen is = any-marked [] (cause.Mesh line kind) c st w

  pub machine-unmarked : (told : Option (List ℕ)) (c wanted : Cause) (code printer : List ℕ) (m : Machine) → NoMachine told c → Marked c → told ≡ Some printer → machine_of_text printer ≡ Ok m → ShowsMarked code wanted old new given shown
  machine-unmarked told c wanted code printer m (inl x) w seen is = absurd (let e = sym is ∙ x.3 printer seen in cc)
  machine-unmarked told c wanted code printer m (inr st) w seen is = any-marked code wanted c st w

  pub config-marked : (told : Option (List ℕ)) (c : Cause) (printer : List ℕ) (line : ℕ) (kind : CfgKind) → NoMachine told c → Marked c → told ≡ Some printer → machine_of_text printer ≡ Err (At line kind)
      → ShowsMarked [] (cause.Config line kind) old new given shown
  config-marked told c printer line kind (inl x) w seen is =
      let same : cause.Config x.0 x.1 ≡ cause.Config line kind = (let e = sym (x.3 printer seen) ∙ is in cc) in
      own-marked (cause.Config line kind) c (x.2 ∙ same) w
  config-marked told c printer line kind (inr st) w seen is = any-marked [] (cause.Config line kind) c st w

pub one-bed : (told : Option (List ℕ)) (x t : Mesh) (text : List ℕ) → IsMeshIn told x → told ≡ Some text → tables.mesh_of_text text ≡ Ok t → x ≡ t
one-bed told x t text is seen r = let q = sym (is text seen) ∙ r in cc

pub no-bed : (told : Option (List ℕ)) (x : Mesh) (text : List ℕ) (line : ℕ) (kind : MeshKind) → IsMeshIn told x → told ≡ Some text → tables.mesh_of_text text ≡ Err (fault.At line kind) → ⊥
no-bed told x text line kind is seen r = let q = sym (is text seen) ∙ r in cc

-- the file of a text that was read whole
pub shown-file : (m : Machine) (t : Mesh) (read text code : List ℕ) (end : ReadEnd) (c : Cause) (old new : Option (List ℕ)) (given : Cause) (shown : Report) → read ≡ text → code ≡ mesh_code m t read → end ≡ mesh_end m t read → c ≡ cause_of end.stop
    → WritesMarked code c old new given shown ⊎ WritesMarked [] cause.Memory old new given shown → ShowsMarked (mesh_code m t text) (cause_of (mesh_end m t text).stop) old new given shown
shown-file m t read text code end c old new given shown same coded ended caused (inr w) = inr (inl w)
shown-file m t read text code end c old new given shown same coded ended caused (inl w) =
    let k : code ≡ mesh_code m t text = coded ∙ ap (mesh_code m t) same in
    let d : c ≡ cause_of (mesh_end m t text).stop = caused ∙ ap (λ (e : ReadEnd). cause_of e.stop) (ended ∙ ap (mesh_end m t) same) in
    inl (subst (λ (x : Cause). WritesMarked (mesh_code m t text) x old new given shown) d (subst (λ (x : List ℕ). WritesMarked x c old new given shown) k w))
