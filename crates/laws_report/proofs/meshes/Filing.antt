-- A file that is written line by line, as it is read.
use Rattle.std.proofs.Common.{◌≡◌, ◌∙◌, ℕ, suc, ◌+◌, Bool, true, false, codes, List, [], ◌∷◌, ◌++◌, length, length-append, take, inl, inr, ◌⊎◌, refl, sym, ap, arith, append_assoc, if◌then◌else◌}
use Rattle.std.specs.Prelude.{Result, Ok, Err}
use Rattle.plan_types.specs.declared.cause.LineKind.{LineKind}
use Rattle.plan_types.specs.declared.cause.LineKind.TheVariants as kinds
use Rattle.laws_board.proofs.Names.{Machine, ReadStop, Section}
use Rattle.plan_types.specs.declared.plan.ReadEnd.{ReadEnd}
use Rattle.plan_types.specs.declared.plan.ReadStop.TheVariants.{End, Stop, Refused}
use Rattle.gcode_state.specs.declared.state.State.{State}
use Rattle.gcode_state.specs.declared.state.Action.{Action}
use Rattle.gcode_state.specs.declared.state.Action.TheVariants as actions
use Rattle.gcode_state.specs.States.{coordinates_of, one_if}
use Rattle.gcode_program.specs.Cuts.{closed, dwell_left, sections_of}
use Rattle.gcode_program.specs.Readings.{Deed, Outcome, applied_line, deed_of, is_large, is_passed, is_stop, line_result, outcome}
use Rattle.gcode_program.specs.Readings as readings
use Rattle.bed_mesh.specs.declared.mesh.Mesh.{Mesh}
use Rattle.bed_mesh.specs.Cuts.{cut_ends}
use Rattle.bed_mesh.specs.Files.{Pen, Sheet, accepted_state, behind_action, behind_line, behind_lines, moved_pen, refused, sheet, sheet_behind}
use Rattle.bed_mesh.proofs.Writing.{both_ok, texts_both}
use Rattle.bed_mesh.specs.BentLines.{last_by, lines_by, joined_lines}
use Rattle.laws_report.specs.meshes.Bent.{bent_moves, bent_sections}
use Rattle.laws_report.proofs.meshes.Bending.{closed_bent}
use Rattle.laws_report.proofs.meshes.Deeds.{IsDeed, line_does}
use Rattle.laws_report.proofs.meshes.Acting.{IsTied, IsWritten, action_written, stop_written}
use Rattle.laws_report.proofs.meshes.Making.{AreBent, AreIdle, closed_last, idle_closed}
use Rattle.laws_report.proofs.meshes.Telling.{AllPlain, AreTold, none_read, plain_lines, read_told, stop_told}

abbrev pub end_of : Outcome → ReadEnd
end_of o = record { lines = length o.deeds; passed = o.passed; stop = o.stop }

-- a text is read to its end for what is written
abbrev pub IsAll : Sheet → Outcome → Type 0
IsAll s o = record { lines = s.lines; passed = s.passed; stop = s.stop } ≡ end_of o

-- or the lines for what its next accepted line does are refused
pub record IsCut (t : Mesh) (start : ℕ) (w : State) (lines : List (List ℕ)) (number : ℕ) (s : Sheet) (o : Outcome) : Type 0 where
  pub before : List Deed
  pub next : Deed
  pub behind : List Deed
  pub modes : State
  pub kind : LineKind
  pub deeds : o.deeds ≡ before ++ next ∷ behind
  pub count : s.lines ≡ length before
  pub stop : s.stop ≡ Refused (number + length before) kind
  pub goes : accepted_state start w lines ≡ Ok modes
  pub refused : accepted_state (start + length (joined_lines lines)) modes (lines_by t modes.acceleration next.action) ≡ Err kind

-- what is written for lines is read, and makes over the bed what the lines make
pub record Told (m : Machine) (t : Mesh) (start : ℕ) (w : State) (last number : ℕ) (s : Sheet) (o : Outcome) : Type 0 where
  pub lines : List (List ℕ)
  pub deeds : List Deed
  pub text : s.code ≡ joined_lines lines
  pub plain : AllPlain lines
  pub goes : (u : State) × (accepted_state start w lines ≡ Ok u)
  pub told : AreTold s.stop w lines deeds
  pub bent : (idle : List Deed) → AreIdle idle → AreBent m t (coordinates_of w) last (deeds ++ idle) (take s.lines o.deeds)
  pub ends : IsAll s o ⊎ IsCut t start w lines number s o

abbrev empty : ReadStop → Sheet
empty stop = record { code = []; lines = 0; passed = 0; stop = stop }

-- nothing is written
none_told : (m : Machine) (t : Mesh) (start : ℕ) (w : State) (last number : ℕ) (stop : ReadStop) (o : Outcome) → AreTold stop w [] [] → IsAll (empty stop) o ⊎ IsCut t start w [] number (empty stop) o → Told m t start w last number (empty stop) o
none_told m t start w last number stop o h ends = record {
  lines = [];
  deeds = [];
  text = refl;
  plain = tt;
  goes = (w, refl);
  told = h;
  bent = λ idle nothing place a carry dwell moves is slow. idle_closed m (carry + dwell) (bent_moves t place moves) idle nothing ∙ closed_last m t place a carry dwell moves;
  ends = ends;
}

one_more : (n : ℕ) → 1 + n ≡ suc n
one_more n = omega arith

abbrev end_with : ℕ → ℕ → ReadStop → ReadEnd
end_with lines passed stop = record { lines = lines; passed = passed; stop = stop }

front_ends : (t : Mesh) (start : ℕ) (w u : State) (number passed : ℕ) (a b : List (List ℕ)) (s : Sheet) (d : Deed) (o : Outcome) → accepted_state start w a ≡ Ok u → IsAll s o ⊎ IsCut t (start + length (joined_lines a)) u b (number + 1) s o
    → IsAll (sheet_behind (joined_lines a) 1 passed s) (readings.with_front (d ∷ []) passed o) ⊎ IsCut t start w (a ++ b) number (sheet_behind (joined_lines a) 1 passed s) (readings.with_front (d ∷ []) passed o)
front_ends t start w u number passed a b s d o h (inl all) =
    inl (ap (λ (e : ReadEnd). end_with (1 + e.lines) (passed + e.passed) e.stop) all ∙ ap (λ (n : ℕ). end_with n (passed + o.passed) o.stop) (one_more (length o.deeds)))
front_ends t start w u number passed a b s d o h (inr cut) = inr (record {
  before = d ∷ cut.before;
  next = cut.next;
  behind = cut.behind;
  modes = cut.modes;
  kind = cut.kind;
  deeds = ap (λ (l : List Deed). d ∷ l) cut.deeds;
  count = (let e = cut.count in omega arith);
  stop = cut.stop ∙ ap (λ (n : ℕ). Refused n cut.kind) (let n : number + 1 + length cut.before ≡ number + length (d ∷ cut.before) = omega arith in n);
  goes = both_ok a b start w u h ∙ cut.goes;
  refused = ap (λ (n : ℕ). accepted_state n cut.modes (lines_by t cut.modes.acceleration cut.next.action)) (let n : start + length (joined_lines (a ++ b)) ≡ start + length (joined_lines a) + length (joined_lines b) = (let l = ap length (texts_both a b) ∙ length-append (joined_lines a) (joined_lines b) in omega arith) in n) ∙ cut.refused;
})

-- the lines of an action before others
front_told : (m : Machine) (t : Mesh) (s v w u : State) (start last number passed : ℕ) (action : Action) (rest : Sheet) (o : Outcome) → accepted_state start w (lines_by t last action) ≡ Ok u → IsWritten m t s v w u last action
    → Told m t (start + length (joined_lines (lines_by t last action))) u (last_by last action) (number + 1) rest o
    → Told m t start w last number (sheet_behind (joined_lines (lines_by t last action)) 1 passed rest) (readings.with_front (deed_of s action ∷ []) passed o)
front_told m t s v w u start last number passed action rest o h is told =
    let lines = lines_by t last action in
    record {
      lines = lines ++ told.lines;
      deeds = is.deeds ++ told.deeds;
      text = ap (λ (l : List ℕ). joined_lines lines ++ l) told.text ∙ sym (texts_both lines told.lines);
      plain = plain_lines lines told.lines is.plain told.plain;
      goes = (told.goes.0, both_ok lines told.lines start w u h ∙ told.goes.1);
      told = read_told rest.stop w u lines told.lines is.deeds told.deeds is.read told.told;
      bent = λ idle nothing place a carry dwell moves at slow.
          ap (λ (l : List Deed). sections_of m (carry + dwell) (bent_moves t place moves) l) (append_assoc is.deeds told.deeds idle)
          ∙ is.bent (told.deeds ++ idle) (take rest.lines o.deeds) (told.bent idle nothing) place a carry dwell moves at slow
          ∙ ap (λ (n : ℕ). bent_sections m t place a carry (sections_of m dwell moves (take n (deed_of s action ∷ o.deeds)))) (sym (one_more rest.lines));
      ends = front_ends t start w u number passed lines told.lines rest (deed_of s action) o h told.ends;
    }

-- the line of a stop is the last one
stop_told_last : (m : Machine) (t : Mesh) (s w u : State) (start last number passed : ℕ) → accepted_state start w (codes "M112" ∷ []) ≡ Ok u
    → Told m t start w last number (record { code = joined_lines (codes "M112" ∷ []); lines = 1; passed = passed; stop = Stop number }) (record { deeds = deed_of s actions.Stop ∷ []; passed = passed; stop = Stop number })
stop_told_last m t s w u start last number passed h =
    let k = stop_written w u start h in
    record {
      lines = codes "M112" ∷ [];
      deeds = deed_of w actions.Stop ∷ [];
      text = refl;
      plain = ((refl, (refl, (refl, (refl, tt)))), tt);
      goes = (u, h);
      told = stop_told number w w (codes "M112") k.0 k.1;
      bent = λ idle nothing place a carry dwell moves is slow. ap (λ (l : List Section). closed (carry + dwell) (bent_moves t place moves) ++ l) (idle_closed m (dwell_left (carry + dwell) (bent_moves t place moves)) [] idle nothing)
          ∙ sym (closed_bent m t place a carry dwell moves []);
      ends = inl refl;
    }

action_told : (m : Machine) (t : Mesh) (s v w u : State) (start last number : ℕ) (passed : Bool) (action : Action) (rest : Sheet) (o : Outcome) → IsTied m s w last → IsDeed s v action → accepted_state start w (lines_by t last action) ≡ Ok u
    → (IsTied m v u (last_by last action) → Told m t (start + length (joined_lines (lines_by t last action))) u (last_by last action) (number + 1) rest o)
    → Told m t start w last number (behind_action number passed (joined_lines (lines_by t last action)) action rest) (readings.behind_action number passed s action o)
action_told m t s v w u start last number passed actions.Stop rest o tie does h later = stop_told_last m t s w u start last number (one_if passed) h
action_told m t s v w u start last number passed c rest o tie does h later =
    let is = action_written m t s v w u start last c refl tie does h in front_told m t s v w u start last number (one_if passed) c rest o h is (later is.tied)

pub line_applied : (size start : ℕ) (s : State) (line : List ℕ) (next : State × Action) → line_result size start s line ≡ Ok next → applied_line s line ≡ Ok (next.0, next.1)
unfolding line_result
line_applied size start s line next h = go (is_large size start line) (applied_line s line) refl h where
  go : (large : Bool) (r : Result (State × Action) LineKind) → applied_line s line ≡ r → (if large then Err kinds.TooLarge else r) ≡ Ok next → applied_line s line ≡ Ok (next.0, next.1)
  go true r is e = absurd cc
  go false (Err kind) is e = absurd cc
  go false (Ok other) is e = is ∙ e

-- the first deed of an outcome
some_deed : (number : ℕ) (passed : Bool) (s : State) (action : Action) (o : Outcome) → (behind : List Deed) × ((readings.behind_action number passed s action o).deeds ≡ deed_of s action ∷ behind)
some_deed number passed s actions.Stop o = ([], refl)
some_deed number passed s c o = (o.deeds, refl)

-- the lines for an action are refused
refused_told : (m : Machine) (t : Mesh) (s w : State) (start last number : ℕ) (passed : Bool) (action : Action) (o : Outcome) (kind : LineKind) → w.acceleration ≡ last → accepted_state start w (lines_by t last action) ≡ Err kind
    → Told m t start w last number (refused number kind) (readings.behind_action number passed s action o)
refused_told m t s w start last number passed action o kind same h =
    let d = some_deed number passed s action o in
    let n : number + 0 ≡ number = omega arith in
    let k : start + 0 ≡ start = omega arith in
    none_told m t start w last number (Refused number kind) (readings.behind_action number passed s action o) (w, none_read w) (inr (record {
      before = [];
      next = deed_of s action;
      behind = d.0;
      modes = w;
      kind = kind;
      deeds = d.1;
      count = refl;
      stop = ap (λ (i : ℕ). Refused i kind) (sym n);
      goes = refl;
      refused = ap (λ (i : ℕ). accepted_state i w (lines_by t w.acceleration action)) k ∙ ap (λ (a : ℕ). accepted_state start w (lines_by t a action)) same ∙ h;
    }))

-- the whole file
pub file_told : (m : Machine) (t : Mesh) (size : ℕ) (s : State) (p : Pen) (number start : ℕ) (lines : List (List ℕ)) → IsTied m s p.modes p.last → Told m t p.start p.modes p.last number (sheet t size s p number start lines) (outcome size s number start lines)
file_told m t size s p number start [] tie = none_told m t p.start p.modes p.last number End _ (p.modes, none_read p.modes) (inl refl)
file_told m t size s p number start (line ∷ lines) tie =
    by (line_result size start s line) refl (λ v q tied. file_told m t size v q (number + 1) (start + (length line + 1)) lines tied)
  where
    written : (next : State × Action) → line_result size start s line ≡ Ok next → (r : Result State LineKind) → accepted_state p.start p.modes (lines_by t p.last next.1) ≡ r
        → ((v : State) (q : Pen) → IsTied m v q.modes q.last → Told m t q.start q.modes q.last (number + 1) (sheet t size v q (number + 1) (start + (length line + 1)) lines) (outcome size v (number + 1) (start + (length line + 1)) lines))
        → Told m t p.start p.modes p.last number (behind_lines number (is_passed line) p (lines_by t p.last next.1) next.1 r (λ q. sheet t size next.0 q (number + 1) (start + (length line + 1)) lines))
        (readings.behind_action number (is_passed line) s next.1 (outcome size next.0 (number + 1) (start + (length line + 1)) lines))
    written next is (Err kind) h more =
        refused_told m t s p.modes p.start p.last number (is_passed line) next.1 (outcome size next.0 (number + 1) (start + (length line + 1)) lines) kind (tie.writing.acceleration) h
    written next is (Ok u) h more =
        let q = moved_pen p (lines_by t p.last next.1) u next.1 in
        action_told m t s next.0 p.modes u p.start p.last number (is_passed line) next.1 (sheet t size next.0 q (number + 1) (start + (length line + 1)) lines) (outcome size next.0 (number + 1) (start + (length line + 1)) lines)
        tie (line_does s next.0 line next.1 (line_applied size start s line next is)) h (more next.0 q)

    by : (r : Result (State × Action) LineKind) → line_result size start s line ≡ r
        → ((v : State) (q : Pen) → IsTied m v q.modes q.last → Told m t q.start q.modes q.last (number + 1) (sheet t size v q (number + 1) (start + (length line + 1)) lines) (outcome size v (number + 1) (start + (length line + 1)) lines))
        → Told m t p.start p.modes p.last number (behind_line t number (is_passed line) p r (λ v q. sheet t size v q (number + 1) (start + (length line + 1)) lines))
        (readings.behind_line number (is_passed line) s r (λ v. outcome size v (number + 1) (start + (length line + 1)) lines))
    by (Err kind) is more = none_told m t p.start p.modes p.last number (Refused number kind) _ (p.modes, none_read p.modes) (inl refl)
    by (Ok next) is more = written next is (accepted_state p.start p.modes (lines_by t p.last next.1)) refl more
