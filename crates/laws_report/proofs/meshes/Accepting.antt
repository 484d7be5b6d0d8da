-- A whole file that is written, as it is read.
use Rattle.std.proofs.Common.{◌≡◌, ◌∙◌, ℕ, zero, suc, ◌+◌, ◌≤◌, ◌<◌, false, codes, get_or, List, [], ◌∷◌, ◌++◌, length, length-append, refl, sym, subst, ap, arith, append-nil, inl, inr, ◌⊎◌, rules}
use Rattle.std.specs.Prelude.{Ok}
use Rattle.text_core.specs.Lines.{lines_of}
use Rattle.gcode_text.specs.Lines.{no_words}
use Rattle.gcode_text.specs.declared.word.Command.TheVariants as names
use Rattle.laws_board.proofs.Names.{Machine, ReadStop}
use Rattle.plan_types.specs.declared.plan.ReadEnd.{ReadEnd}
use Rattle.plan_types.specs.declared.plan.ReadStop.TheVariants.{End, Stop, Refused}
use Rattle.gcode_state.specs.declared.state.State.{State}
use Rattle.gcode_state.specs.declared.state.Action.TheVariants as actions
use Rattle.gcode_state.specs.Starts.{initial}
use Rattle.gcode_state.specs.States.{coordinates_of}
use Rattle.gcode_program.specs.Cuts.{sections_of}
use Rattle.gcode_program.specs.Programs.{outcome_of, program_end, program_sections}
use Rattle.gcode_program.specs.Readings.{Deed, Outcome, applied_line, deed_of, is_passed, outcome, with_front}
use Rattle.gcode_program.proofs.Lining.{whole_line}
use Rattle.bed_mesh.specs.declared.mesh.Mesh.{Mesh}
use Rattle.bed_mesh.specs.Files.{accepted_state, begun, first_pen, head_text, mesh_code, mesh_end, mesh_sheet, with_absolute, with_relative_e}
use Rattle.bed_mesh.specs.BentLines.{lines_by, joined_lines}
use Rattle.bed_mesh.proofs.Head.{absolute, after_absolute, after_relative, relative}
use Rattle.bed_mesh.proofs.Writing.{both_ok, texts_both}
use Rattle.laws_report.specs.meshes.Bent.{origin}
use Rattle.laws_report.specs.meshes.Written.{IsComment, IsEnding, IsRefusedThere, IsSmallFile, accepted_end, bent_program}
use Rattle.laws_report.proofs.meshes.Acting.{IsTied}
use Rattle.laws_report.proofs.meshes.Filing.{IsAll, IsCut, Told, end_of, file_told}
use Rattle.laws_report.proofs.meshes.Making.{AreIdle}
use Rattle.laws_report.proofs.meshes.Reading.{comment_read}
use Rattle.laws_report.proofs.meshes.Telling.{AllPlain, AreRead, AreTold, both_read, lines_back, lines_fit, most, one_read, plain_lines, read_told, result_of}
use Rattle.laws_report.proofs.meshes.Writing.{not_passed}

-- the first lines
abbrev pub head_lines : List (List ℕ)
head_lines = codes "G90" ∷ codes "M83" ∷ []

absolute_applied : (s : State) → applied_line s (codes "G90") ≡ Ok (with_absolute s, actions.None)
unfolding applied_line
absolute_applied s = rw absolute refl

relative_applied : (s : State) → applied_line s (codes "M83") ≡ Ok (with_relative_e s, actions.None)
unfolding applied_line
relative_applied s = rw relative refl

abbrev head_deeds : State → List Deed
head_deeds s = deed_of s actions.None ∷ deed_of (with_absolute s) actions.None ∷ []

head_read : (s : State) → AreRead s head_lines (with_relative_e (with_absolute s)) (head_deeds s)
head_read s =
    let a = with_absolute s in
    both_read s a (with_relative_e a) (codes "G90" ∷ []) (codes "M83" ∷ []) (deed_of s actions.None ∷ []) (deed_of a actions.None ∷ [])
    (one_read s a (codes "G90") actions.None (absolute_applied s) (not_passed (codes "G90") names.G90 no_words absolute) refl)
    (one_read a (with_relative_e a) (codes "M83") actions.None (relative_applied a) (not_passed (codes "M83") names.M83 no_words relative) refl)

head_plain : AllPlain head_lines
head_plain = ((refl, (refl, (refl, tt))), ((refl, (refl, (refl, tt))), tt))

begun_tied : (m : Machine) → IsTied m (initial m) (begun m) m.a
unfolding initial
begun_tied m = record {
  writing = record { relative = refl; relative_e = refl; e_factor = refl; speed_factor = refl; x = refl; y = refl; z = refl; x_end = refl; y_end = refl; z_end = refl; acceleration = refl };
  top = refl;
  e = refl;
}

begun_place : (m : Machine) → coordinates_of (begun m) ≡ origin
unfolding initial
begun_place m = refl

-- what stands behind a code does nothing
abbrev pub IsTail : List (List ℕ) → Type 0
IsTail tail = (size number start : ℕ) (u : State) → size ≤ most → (idle : List Deed) × AreIdle idle × (outcome size u number start tail ≡ record { deeds = idle; passed = 0; stop = End }) × (length idle ≡ length tail)

comment_applied : (s : State) (said : List ℕ) → length said ≤ 1023 → applied_line s (59 ∷ said) ≡ Ok (s, actions.None)
unfolding applied_line
comment_applied s said short = rw (comment_read said short) refl

comment_passed : (said : List ℕ) → length said ≤ 1023 → is_passed (59 ∷ said) ≡ false
unfolding is_passed
comment_passed said short = rw (comment_read said short) refl

comment_line : (text : List ℕ) (c : IsComment text) → lines_of text ≡ (59 ∷ c.said) ∷ []
comment_line text c = search (rules, whole_line)

ending_tail : (end : List ℕ) → IsEnding end → IsTail (lines_of end)
ending_tail end (inl none) = subst (λ (l : List ℕ). IsTail (lines_of l)) (sym none) (λ size number start u few. ([], tt, refl, refl))
ending_tail end (inr c) = subst (λ (l : List (List ℕ)). IsTail l) (sym (comment_line end c)) (λ size number start u few.
    (let r = result_of size start u u (59 ∷ c.said) actions.None few (comment_applied u c.said c.short) in
    (deed_of u actions.None ∷ [], (refl, tt), rw (comment_passed c.said c.short, r) refl, refl)))

-- how lines are read, with what stands behind them
pub record IsReadSo (stop : ReadStop) (o : Outcome) (all tail : List (List ℕ)) (deeds : List Deed) : Type 0 where
  pub idle : List Deed
  pub nothing : AreIdle idle
  pub deeds_are : o.deeds ≡ deeds ++ idle
  pub end_is : record { lines = length o.deeds; passed = o.passed; stop = o.stop } ≡ accepted_end stop all (all ++ tail)

abbrev end_with : ℕ → ReadStop → ReadEnd
end_with lines stop = record { lines = lines; passed = 0; stop = stop }

goes_so : (w : State) (all tail : List (List ℕ)) (deeds : List Deed) (size : ℕ) (stop : ReadStop) → ((u : State) × AreRead w all u deeds) → accepted_end stop all (all ++ tail) ≡ end_with (length (all ++ tail)) End → IsTail tail → size ≤ most
    → IsReadSo stop (outcome size w 1 0 (all ++ tail)) all tail deeds
goes_so w all tail deeds size stop told so last few =
    let r = told.1 in
    let t = last size (0 + length all + 1) (0 + length (joined_lines all)) told.0 few in
    let e = r.same size 0 0 tail few ∙ ap (λ (o : Outcome). with_front deeds 0 o) t.2 in
    let n : length (deeds ++ t.0) ≡ length (all ++ tail) = (let x = r.count in let y = t.3 in let l = length-append deeds t.0 in let k = length-append all tail in omega arith) in
    record {
      idle = t.0;
      nothing = t.1;
      deeds_are = ap (λ (o : Outcome). o.deeds) e;
      end_is = ap end_of e ∙ ap (λ (k : ℕ). end_with k End) n ∙ sym so;
    }

told_so : (stop : ReadStop) (w : State) (all tail : List (List ℕ)) (deeds : List Deed) (size : ℕ) → AreTold stop w all deeds → IsTail tail → size ≤ most → IsReadSo stop (outcome size w 1 0 (all ++ tail)) all tail deeds
told_so (Stop n) w all tail deeds size told last few =
    let e = told.0 size 0 0 tail few in
    let k : 0 + length all ≡ length all = omega arith in
    record {
      idle = [];
      nothing = tt;
      deeds_are = ap (λ (o : Outcome). o.deeds) e ∙ sym (append-nil deeds);
      end_is = ap end_of e ∙ ap (λ (i : ℕ). end_with i (Stop (0 + length all))) told.1 ∙ ap (λ (i : ℕ). end_with (length all) (Stop i)) k;
    }
told_so c w all tail deeds size told last few = goes_so w all tail deeds size c told refl last few

-- the code alone
head_goes : (m : Machine) → accepted_state 0 (initial m) head_lines ≡ Ok (begun m)
head_goes m = both_ok (codes "G90" ∷ []) (codes "M83" ∷ []) 0 (initial m) (with_absolute (initial m)) (after_absolute (initial m)) ∙ after_relative (with_absolute (initial m))

-- a whole file
pub record IsReadFile (m : Machine) (t : Mesh) (text end : List ℕ) : Type 0 where
  pub accepted : program_end m (mesh_code m t text ++ end) ≡ accepted_end (mesh_end m t text).stop (lines_of (mesh_code m t text)) (lines_of (mesh_code m t text ++ end))
  pub sections : program_sections m (mesh_code m t text ++ end) ≡ bent_program m t text

lines_are : (code end : List ℕ) (lines : List (List ℕ)) → code ≡ joined_lines lines → AllPlain lines → lines_of ((head_text ++ code) ++ end) ≡ (head_lines ++ lines) ++ lines_of end
lines_are code end lines is plain =
    ap (λ (l : List ℕ). lines_of ((head_text ++ l) ++ end)) is ∙ ap (λ (l : List ℕ). lines_of (l ++ end)) (sym (texts_both head_lines lines)) ∙ lines_back (head_lines ++ lines) end (plain_lines head_lines lines head_plain plain)

code_lines : (code : List ℕ) (lines : List (List ℕ)) → code ≡ joined_lines lines → AllPlain lines → lines_of (head_text ++ code) ≡ head_lines ++ lines
code_lines code lines is plain = ap lines_of (sym (append-nil (head_text ++ code))) ∙ lines_are code [] lines is plain ∙ append-nil (head_lines ++ lines)

outcome_is : (m : Machine) (text : List ℕ) → outcome_of m text ≡ outcome (length text) (initial m) 1 0 (lines_of text)
unfolding outcome_of
outcome_is m text = refl

code_told : (m : Machine) (t : Mesh) (text : List ℕ) → Told m t 8 (begun m) m.a 1 (mesh_sheet m t text) (outcome (length text) (initial m) 1 0 (lines_of text))
unfolding mesh_sheet
code_told m t text = file_told m t (length text) (initial m) (first_pen m) 1 0 (lines_of text) (begun_tied m)

pub file_read : (m : Machine) (t : Mesh) (text end : List ℕ) → IsEnding end → IsSmallFile (mesh_code m t text ++ end) → IsReadFile m t text end
unfolding outcome_of
file_read m t text end ending fits =
    let s = mesh_sheet m t text in
    let file = mesh_code m t text ++ end in
    let told = code_told m t text in
    let all = head_lines ++ told.lines in
    let deeds = head_deeds (initial m) ++ told.deeds in
    let lines : lines_of file ≡ all ++ lines_of end = lines_are s.code end told.lines told.text told.plain in
    let so = told_so s.stop (initial m) all (lines_of end) deeds (length file) (read_told s.stop (initial m) (begun m) head_lines told.lines (head_deeds (initial m)) told.deeds (head_read (initial m)) told.told) (ending_tail end ending) fits in
    let e : outcome_of m file ≡ outcome (length file) (initial m) 1 0 (all ++ lines_of end) = ap (λ (l : List (List ℕ)). outcome (length file) (initial m) 1 0 l) lines in
    record {
      accepted = ap end_of e ∙ so.end_is ∙ ap (λ (l : List (List ℕ)). accepted_end s.stop all l) (sym lines) ∙ ap (λ (l : List (List ℕ)). accepted_end s.stop l (lines_of file)) (sym (code_lines s.code told.lines told.text told.plain));
      sections = ap (λ (o : Outcome). sections_of m 0 [] o.deeds) e ∙ ap (λ (l : List Deed). sections_of m 0 [] l) so.deeds_are ∙ told.bent so.idle so.nothing origin m.a 0 0 [] (begun_place m) refl;
    }

-- how the text is read for the file
either_end : (m : Machine) (t : Mesh) (text : List ℕ) (o : Outcome) (lines : List (List ℕ)) → outcome_of m text ≡ o → (mesh_sheet m t text).code ≡ joined_lines lines → AllPlain lines → IsAll (mesh_sheet m t text) o ⊎ IsCut t 8 (begun m) lines 1 (mesh_sheet m t text) o
    → (mesh_end m t text ≡ program_end m text) ⊎ IsRefusedThere m t text
either_end m t text o lines is code plain (inl all) = inl (all ∙ ap end_of (sym is))
either_end m t text o lines is code plain (inr cut) =
    let size : length (mesh_code m t text) ≡ 8 + length (joined_lines lines) = ap (λ (l : List ℕ). length (head_text ++ l)) code ∙ length-append head_text (joined_lines lines) in
    inr (record {
      before = cut.before;
      next = cut.next;
      behind = cut.behind;
      modes = cut.modes;
      kind = cut.kind;
      deeds = ap (λ (x : Outcome). x.deeds) is ∙ cut.deeds;
      count = cut.count;
      stop = cut.stop;
      goes = ap (λ (l : List (List ℕ)). accepted_state 0 (initial m) l) (code_lines (mesh_sheet m t text).code lines code plain) ∙ both_ok head_lines lines 0 (initial m) (begun m) (head_goes m) ∙ cut.goes;
      refused = ap (λ (n : ℕ). accepted_state n cut.modes (lines_by t cut.modes.acceleration cut.next.action)) size ∙ cut.refused;
    })

pub text_read : (m : Machine) (t : Mesh) (text : List ℕ) → (mesh_end m t text ≡ program_end m text) ⊎ IsRefusedThere m t text
text_read m t text = let told = code_told m t text in either_end m t text (outcome (length text) (initial m) 1 0 (lines_of text)) told.lines (outcome_is m text) told.text told.plain told.ends

-- the code alone is small enough to be read
pub code_fits : (m : Machine) (t : Mesh) (text : List ℕ) → IsSmallFile (mesh_code m t text)
code_fits m t text =
    let told = code_told m t text in
    let few : 8 ≤ most = omega arith in
    let fits = lines_fit 8 (begun m) told.goes.0 told.lines few told.goes.1 in
    let size = ap (λ (l : List ℕ). length (head_text ++ l)) told.text ∙ length-append head_text (joined_lines told.lines) in
    omega (arith, fits, size)
