-- Turns of a run that go on tell of a switch where a homing section ended; the last of them also of one whose answer the planner did not hear.
use Rattle.std.proofs.Common.{◌≡◌, ℕ, suc, ◌+◌, ◌<◌, ◌≤◌, ◌⊎◌, Bool, All, List, [], ◌∷◌, ◌++◌, map, length, Option, Some, None, refl, ap, sym, ◌∙◌, subst, arith, inl, inr, append_assoc, append-nil, length-append}
use Rattle.std.specs.Prelude.{◌==◌, if◌then◌else◌}
use Rattle.laws_board.proofs.Names.{eqb_tells, leb_tells, length-map, All-head, All-tail, Cause, Machine, Home, IsValidMachine, Note, NoteNews, Scene, Switch, Homing, noted, told_all, machine_line, Came, known_by, last_reacted, Started, MotionTurn, ReactorTurn, gather}
use Rattle.msg_code.specs.declared.talk.NoteNews.TheVariants as news
use Rattle.report_text.specs.declared.line.ReportLine.TheVariants as report
use Rattle.motion_work.specs.Homes.{no_end}
use Rattle.motion_work.specs.Puts.{begun_notes}
use Rattle.motion_work.specs.Turns.{done_notes}
use Rattle.session_run.specs.Boards.{AreReactorTurns, IsReactorTurn, came_from, came_in}
use Rattle.laws_board.specs.plans.Lines.{TellTurns, TookEach, starts_at}
use Rattle.laws_board.specs.plans.Planned.{AreBare, Plans, put_of}
use Rattle.laws_board.proofs.plans.Beginning.{Spread}
use Rattle.laws_board.proofs.plans.Spreading.{plans_spread}
use Rattle.laws_homing.specs.home_runs.Words.{TellsHomed}
use Rattle.laws_homing.proofs.home_runs.Knowing.{all_none}
use Rattle.laws_homing.specs.home_plans.Notes.{CameNotes, IsNoteOf, WasBegun}
use Rattle.laws_board.specs.plans.Rows.{AreInARow}
use Rattle.laws_homing.proofs.home_plans.Knowing.{now_was}
use Rattle.laws_homing.proofs.home_plans.Noting.{done_none}
use Rattle.laws_homing.specs.home_parts.Answers.{IsPlannedBy}
use Rattle.laws_homing.proofs.home_parts.Ends.{ends_low, ends_told, in_row, ready}
use Rattle.laws_board.proofs.plans.Rows.{row_from, row_later}
use Rattle.laws_homing.proofs.home_parts.Known.{known_silent, none_tells, tells_known}
use Rattle.laws_run.specs.home_headline.Cuts.{EndsIn, TellEnds, TellsCut, TellsNone, TellsSwitch, cuts_of}
use Rattle.laws_run.proofs.home_headline.Cuts.{told_cut, turn_cuts}
use Rattle.laws_run.proofs.home_headline.Planned.{all_notes, planned_by}
use Rattle.laws_run.proofs.home_headline.Switches.{came_snoc, ends_snoc, turns_tell}
use Rattle.laws_run.proofs.run_headline.Heard.{notes_cut}
use Rattle.laws_run.proofs.run_headline.Joining.{row_none}
use Rattle.laws_run.proofs.run_headline.Showing.{Facts, came_long, each, few, hears, in_none, none_out, notes_are, notes_before, notes_of, took_noted, took_notes, turns_cut, untold_alone}
use Rattle.laws_homing.proofs.fired_runs.Heard.{some_same}

-- Some turns tell of a switch where a homing section ended, by sections that start as those that were begun, each behind the end of the one before.
pub record AreSwitched (m : Machine) (switches : List Switch) (begun : List Started) (ts : List ReactorTurn) : Type 0 where
  pub known : List Started
  pub same : map (λ s. s.section) known ≡ map (λ s. s.section) begun
  pub spread : Spread 260 known
  pub at : ℕ
  pub row : AreInARow at known
  pub lines : TellTurns m known 0 ts
  pub ends : TellEnds m switches known 0 ts

-- a section, as if it ended in a turn
abbrev ended : ℕ → Started → Started
ended n s = record s { end = n }

spread_ended : (n x : ℕ) (past : List Started) (s : Started) → Spread x (past ++ s ∷ []) → Spread x (past ++ ended n s ∷ [])
spread_ended n x [] s h = h
spread_ended n x (y ∷ past) s h = (h.0, spread_ended n (y.start + 260) past s h.1)

row_ended : (n at : ℕ) (past : List Started) (s : Started) → s.start ≤ n → AreInARow at (past ++ s ∷ []) → AreInARow at (past ++ ended n s ∷ [])
row_ended n at [] s low r = (r.0, low, tt)
row_ended n at (y ∷ past) s low r = (r.0, r.1, row_ended n (y.end + 260) past s low r.2)

sections_ended : (n : ℕ) (past : List Started) (s : Started) → map (λ x. x.section) (past ++ ended n s ∷ []) ≡ map (λ x. x.section) (past ++ s ∷ [])
sections_ended n [] s = refl
sections_ended n (y ∷ past) s = ap (λ z. y.section ∷ z) (sections_ended n past s)

starts_ended : (n k i : ℕ) (past : List Started) (s : Started) → starts_at k i (past ++ ended n s ∷ []) ≡ starts_at k i (past ++ s ∷ [])
starts_ended n k i [] s = refl
starts_ended n k i (y ∷ past) s = ap (λ z. (if y.start == k then report.Section i k y.section.kind ∷ [] else []) ++ z) (starts_ended n k (i + 1) past s)

tell_ended : (m : Machine) (n k : ℕ) (past : List Started) (s : Started) (ts : List ReactorTurn) → TellTurns m (past ++ s ∷ []) k ts → TellTurns m (past ++ ended n s ∷ []) k ts
tell_ended m n k past s [] h = tt
tell_ended m n k past s (t ∷ ts) h =
    let one = h.0 in
    (record { rest = one.rest; are = one.are ∙ ap (λ z. machine_line m k ++ (z ++ one.rest)) (sym (starts_ended n k 0 past s)); heads = one.heads; pulses = one.pulses }, tell_ended m n (k + 1) past s ts h.1)

not_last : (xs : List Started) (x : Started) (ys : List Started) → [] ≡ xs ++ x ∷ ys → ⊥
not_last [] x ys e = cc
not_last (z ∷ xs) x ys e = cc

-- a section among some, of which the last is another one
other_last : (past : List Started) (s z : Started) (xs : List Started) (x : Started) (ys : List Started) → past ++ s ∷ [] ≡ xs ++ x ∷ ys → (x ≡ s → ⊥) → (zs : List Started) × (past ++ z ∷ [] ≡ xs ++ x ∷ zs)
other_last [] s z [] x ys e not = absurd (not (let f : s ∷ [] ≡ x ∷ ys = e in cc))
other_last [] s z (y ∷ xs) x ys e not = absurd (not_last xs x ys (let f : s ∷ [] ≡ y ∷ (xs ++ x ∷ ys) = e in cc))
other_last (p ∷ past) s z [] x ys e not =
    let f : p ∷ (past ++ s ∷ []) ≡ x ∷ ys = e in
    let same : p ≡ x = cc in
    (past ++ z ∷ [], ap (λ w. w ∷ (past ++ z ∷ [])) same)
other_last (p ∷ past) s z (y ∷ xs) x ys e not =
    let f : p ∷ (past ++ s ∷ []) ≡ y ∷ (xs ++ x ∷ ys) = e in
    let same : p ≡ y = cc in
    let behind : past ++ s ∷ [] ≡ xs ++ x ∷ ys = cc in
    let rest = other_last past s z xs x ys behind not in
    (rest.0, ap (λ w. w ∷ (past ++ z ∷ [])) same ∙ ap (λ w. y ∷ w) rest.1)

ends_other : (past : List Started) (s z : Started) (j number axis : ℕ) → (s.end ≡ j → ⊥) → EndsIn (past ++ s ∷ []) j number axis → EndsIn (past ++ z ∷ []) j number axis
ends_other past s z j number axis not e =
    let o = other_last past s z e.past e.s e.later e.cut (λ same. not (ap (λ (x : Started). x.end) (sym same) ∙ e.end)) in
    record { past = e.past; s = e.s; later = o.0; cut = o.1; number_is = e.number_is; home = e.home; end = e.end }

-- turns before it ended
tells_ended : (m : Machine) (switches : List Switch) (n k : ℕ) (past : List Started) (s : Started) (ts : List ReactorTurn) → k + length ts ≤ n → n ≤ s.end → TellEnds m switches (past ++ s ∷ []) k ts → TellEnds m switches (past ++ ended n s ∷ []) k ts
tells_ended m switches n k past s [] low late h = tt
tells_ended m switches n k past s (t ∷ ts) low late h = (
  elim h.0 [
    | inl x ↦ inl (record { number = x.number; axis = x.axis; ended = ends_other past s (ended n s) k x.number x.axis (λ e. omega (arith, e, low, late)) x.ended; tick = x.tick; lines_are = x.lines_are })
    | inr x ↦ inr (record { none = λ number axis e. x.none number axis (ends_other past (ended n s) s k number axis (λ f. omega (arith, f, low)) e); lines_are = x.lines_are })
  ],
  tells_ended m switches n (k + 1) past s ts (omega (arith, low)) late h.1,
)

-- a planner's notes
last_note : (notes : List Note) (n : Note) (rs : List ReactorTurn) (end : ReactorTurn) → length notes ≡ length rs → TookEach (notes ++ n ∷ []) (rs ++ end ∷ []) → end.note ≡ Some n
last_note [] n [] end e t = t.0
last_note [] n (r ∷ rs) end e t = absurd (omega (arith, e))
last_note (x ∷ notes) n [] end e t = absurd (omega (arith, e))
last_note (x ∷ notes) n (r ∷ rs) end e t = last_note notes n rs end (omega (arith, e)) t.1

begun_none : (k i : ℕ) (ss : List Started) → All (λ (x : Started). x.start < k + 260) ss → begun_notes k i ss ≡ []
begun_none k i [] a = refl
begun_none k i (s ∷ ss) a = elim (eqb_tells s.start (k + 260)) [
  | inl p ↦ absurd (let h = All-head (λ (x : Started). x.start < k + 260) s ss a in let is = p.1 in omega (arith, h, is))
  | inr p ↦
      let rest = begun_notes k (i + 1) ss in
      ap (λ (b : Bool). if b then news.Start i s.section.kind s.start s.last s.moving ∷ rest else rest) p.0 ∙ begun_none k (i + 1) ss (All-tail (λ (x : Started). x.start < k + 260) s ss a)
]

soon_behind : (n : ℕ) (past xs : List Started) → All (λ (x : Started). x.start < n) (past ++ xs) → All (λ (x : Started). x.start < n) xs
soon_behind n [] xs a = a
soon_behind n (y ∷ past) xs a = soon_behind n past xs (All-tail (λ (x : Started). x.start < n) y (past ++ xs) a)

module _ (m : Machine) (v : IsValidMachine m) (s : Scene) (ts : List MotionTurn) (p : Plans m (length m.boards) ts) (end : ReactorTurn) (c : Cause) where
  module _ (first : ReactorTurn) (rest : List ReactorTurn) (f : Facts m s ts (first ∷ rest) end c) (goes : IsReactorTurn m s.switches (came_from [] (first ∷ rest)) end) (lines : TellTurns m p.seen.begun 0 (first ∷ (rest ++ end ∷ []))) where
    abbrev came : List Came
    came = came_from [] (first ∷ rest)

    count : length came ≡ length (first ∷ rest)
    count = let e = came_long [] (first ∷ rest) in omega (arith, e)

    planned : IsPlannedBy m s.switches (length m.boards) ts p came
    planned =
        let size = length-append rest (end ∷ []) in
        let l = few m v s ts p end c first rest f in
        planned_by m s.switches (length m.boards) f.ahead ts p first rest f.words_left f.turns f.words (notes_before m v s ts p end c first rest f) (omega (arith, l, size))

    -- the note of the last turn, or one that makes the same homing section known, is one of the planner
    record IsNoted : Type 0 where
      last : Came
      notes : CameNotes p.seen.begun (last ∷ came)
      same : (noted m last.note (known_by m s.switches came)).homing ≡ (noted m end.note (known_by m s.switches came)).homing

    long_noted : length (rest ++ end ∷ []) ≤ length p.made → IsNoted
    long_noted long =
        let Notes : List Came → Type 0 = λ z. CameNotes p.seen.begun z in
        record {
          last = came_in end;
          notes = subst Notes (came_snoc [] (first ∷ rest) end) (all_notes m p.seen.text p.seen.begun p.made first (rest ++ end ∷ []) p.put (took_notes m v s ts p end c first rest f long));
          same = refl;
        }

    bare_noted : length p.made < length (rest ++ end ∷ []) → (bare : List MotionTurn) → p.bare ≡ bare → IsNoted
    bare_noted more [] are =
        let notes = map (λ (x : MotionTurn). x.note) p.made in
        let whole = sym (notes_cut p.made []) ∙ ap (λ z. gather (λ (x : MotionTurn). x.note ∷ []) (p.made ++ z)) (sym are) ∙ ap (gather (λ (x : MotionTurn). x.note ∷ [])) (sym p.are) ∙ notes_are m v s ts p end c first rest f in
        let o = none_out (rest ++ end ∷ []) (each m v s ts p end c first rest f) in
        let long = ap length whole in
        absurd (omega (arith, more, long, length-append notes [], length-append (notes_of (rest ++ end ∷ [])) f.notes_left, length-map p.made (λ (x : MotionTurn). x.note), o.1))
    bare_noted more (d ∷ bare) are =
        let begun = p.seen.begun in
        let notes = map (λ (x : MotionTurn). x.note) p.made in
        let left = gather (λ (x : MotionTurn). x.note ∷ []) bare in
        let Bare : List MotionTurn → Type 0 = λ z. AreBare (length m.boards) (0 + length p.made) z in
        let quiet : d.note.news ≡ [] = ap (λ (x : Note). x.news) (subst Bare are p.are_bare).0.3 in
        let cut : (notes ++ d.note ∷ []) ++ left ≡ notes_of (rest ++ end ∷ []) ++ f.notes_left =
        append_assoc notes (d.note ∷ []) left ∙ sym (notes_cut p.made (d ∷ bare)) ∙ ap (λ z. gather (λ (x : MotionTurn). x.note ∷ []) (p.made ++ z)) (sym are) ∙ ap (gather (λ (x : MotionTurn). x.note ∷ [])) (sym p.are) ∙ notes_are m v s ts p end c first rest f in
        let most = few m v s ts p end c first rest f in
        let made = length-map p.made (λ (x : MotionTurn). x.note) in
        let puts = length-map p.made put_of in
        let size = length-append rest (end ∷ []) in
        let took : TookEach (notes ++ d.note ∷ []) (rest ++ end ∷ []) = took_noted (rest ++ end ∷ []) (notes ++ d.note ∷ []) left f.notes_left (each m v s ts p end c first rest f) (omega (arith, most, made, length-append notes (d.note ∷ []))) cut in
        let is : end.note ≡ Some d.note = last_note notes d.note rest end (omega (arith, made, most, more, size)) took in
        let k = length rest in
        let number : length (map put_of p.made) + 260 ≡ k + 260 = omega (arith, puts, most, more, size) in
        let Soon : ℕ → Type 0 = λ j. All (λ (x : Started). x.start < j) begun in
        let starts = begun_none k 0 begun (subst Soon number p.started) in
        let done = done_notes k 0 begun in
        let note : Note = record d.note { news = done } in
        let r = known_by m s.switches came in
        let Of : ℕ → Type 0 = λ n. IsNoteOf begun n (Some note) in
        let here : IsNoteOf begun (suc k) (Some note) = (note, [], refl, sym (append-nil done) ∙ ap (λ z. done ++ (z ++ [])) (sym starts), tt) in
        let at : suc k ≡ length came = (let n = count in omega (arith, n)) in
        record {
          last = record { states = end.states; note = Some note };
          notes = (subst Of at here, planned.notes);
          same = all_none m done r (done_none k 0 begun) ∙ sym (ap (λ (o : Option Note). (noted m o r).homing) is ∙ ap (λ (ns : List NoteNews). (told_all m ns r).homing) quiet);
        }

    is_noted : IsNoted
    is_noted = elim (leb_tells (length (rest ++ end ∷ [])) (length p.made)) [ inl q ↦ long_noted q.1 | inr q ↦ bare_noted q.1 p.bare refl ]

    before_last : TellEnds m s.switches p.seen.begun 0 (first ∷ rest)
    before_last =
        let many = count in
        let size = length-append rest (end ∷ []) in
        let l = hears m v s ts p end c first rest f in
        turns_tell m s.switches (length m.boards) ts p came planned (omega (arith, l, size, many)) [] (first ∷ rest) f.turns refl

    -- a section without an end is the last one
    alone : (past : List Started) (x : Started) (later : List Started) → p.seen.begun ≡ past ++ x ∷ later → x.end ≡ no_end → later ≡ []
    alone past x [] cut endless = refl
    alone past x (y ∷ later) cut endless =
        let at = ready m s.switches (length m.boards) ts p came planned in
        let Row : List Started → Type 0 = λ z. AreInARow at z in
        let n = length (map put_of p.made) + 260 in
        let Soon : List Started → Type 0 = λ z. All (λ (w : Started). w.start < n) z in
        let far = row_later at y past x (y ∷ later) (subst Row cut (in_row m s.switches (length m.boards) ts p came planned)) (inl refl) in
        let soon = All-head (λ (w : Started). w.start < n) y later (All-tail (λ (w : Started). w.start < n) x (y ∷ later) (soon_behind n past (x ∷ y ∷ later) (subst Soon cut p.started))) in
        let small = p.small in
        absurd (omega (arith, far, soon, small, endless))

    -- the last turn tells of the answer of one that homes, which is then its end
    record IsAnswered : Type 0 where
      past : List Started
      x : Started
      cut : p.seen.begun ≡ past ++ x ∷ []
      endless : x.end ≡ no_end
      low : x.start ≤ length came
      tells : TellsSwitch m s.switches (past ++ ended (length came) x ∷ []) (length came) end.lines

    answered_by : (told : TellsCut m s.switches (came_in end) came) (past : List Started) (x : Started) (later : List Started) (axis : ℕ) → p.seen.begun ≡ past ++ x ∷ later → x.section.kind ≡ Home axis → told.homing.start ≡ x.start → told.homing.section ≡ length past → told.homing.axis ≡ axis
        → told.homing.start ≤ length came → IsAnswered
    answered_by told past x later axis cut home start number axis_is late =
        let sw = s.switches in
        let n = length m.boards in
        let h = is_noted in
        let at = ready m sw n ts p came planned in
        let Row : List Started → Type 0 = λ z. AreInARow at z in
        let order = (row_from at past x later (subst Row cut (in_row m sw n ts p came planned))).1 in
        let endless : x.end ≡ no_end = elim (eqb_tells x.end no_end) [
          | inl q ↦ q.1
          | inr q ↦ absurd (
              let ends = ends_told m sw n ts p came past x later axis planned cut home (ends_low m sw n ts p came past x later axis planned cut home q.1) in
              let silent = known_silent m sw p.seen.begun h.last came told.homing x.end (x.end + 1) planned.goes_on h.notes (h.same ∙ told.known) (omega (arith, start, order)) in
              none_tells m sw x.end (x.end + 1) x.end came silent (omega arith) (omega arith) ends)
        ] in
        record {
          past = past;
          x = x;
          cut = cut ∙ ap (λ z. past ++ x ∷ z) (alone past x later cut endless);
          endless = endless;
          low = omega (arith, start, late);
          tells = record {
            number = told.homing.section;
            axis = told.homing.axis;
            ended = record { past = past; s = ended (length came) x; later = []; cut = refl; number_is = number; home = home ∙ ap Home (sym axis_is); end = refl };
            tick = told.tick;
            lines_are = ap cuts_of goes.lines_are ∙ told.lines;
          };
        }

    answered : TellsHomed (last_reacted m s.switches (came_in end) came).ordered.word.news → IsAnswered
    answered t =
        let h = is_noted in
        let told = told_cut m s.switches (came_in end) came goes.goes_on t in
        let Was : Option Homing → Type 0 = λ o. WasBegun p.seen.begun o in
        let was : WasBegun p.seen.begun (Some told.homing) = subst Was (h.same ∙ told.known) (now_was m s.switches p.seen.begun h.last came planned.goes_on h.notes) in
        let known = tells_known m s.switches (came_in end) came goes.goes_on t in
        let same = ap (λ (z : Homing). z.start) (some_same known.0 told.homing (sym known.1 ∙ told.known)) in
        let late = known.2 in
        answered_by told was.0 was.1 was.2 was.3 was.4 was.5 was.6 was.8 was.9 (omega (arith, same, late))

    -- none that the planner knows to have ended did so in it
    none_ended : (number axis : ℕ) → EndsIn p.seen.begun (length came) number axis → ⊥
    none_ended number axis e =
        let at = e.end in
        let most = planned.long in
        let made = length-map p.made put_of in
        let small = p.small in
        let low = ends_low m s.switches (length m.boards) ts p came e.past e.s e.later axis planned e.cut e.home (λ q. omega (arith, q, at, most, made, small)) in
        omega (arith, low, at)

    front_switched : AreSwitched m s.switches p.seen.begun (first ∷ (rest ++ end ∷ []))
    front_switched =
        let sw = s.switches in
        let n = length m.boards in
        let turns = first ∷ (rest ++ end ∷ []) in
        let e : length came ≡ 0 + length (first ∷ rest) = (let many = count in omega (arith, many)) in
        elim (turn_cuts m sw (known_by m sw came) (length came) end.states end.note goes.goes_on) [
          | inr u ↦
              let At : ℕ → Type 0 = λ i. TellsSwitch m sw p.seen.begun i end.lines ⊎ TellsNone p.seen.begun i end.lines in
              record {
                known = p.seen.begun;
                same = refl;
                spread = plans_spread m n ts p;
                at = ready m sw n ts p came planned;
                row = in_row m sw n ts p came planned;
                lines = lines;
                ends = ends_snoc m sw p.seen.begun 0 (first ∷ rest) end before_last (subst At e (inr (record { none = none_ended; lines_are = ap cuts_of goes.lines_are ∙ u.lines })));
              }
          | inl t ↦
              let a = answered t.tells in
              let k = length came in
              let known = a.past ++ ended k a.x ∷ [] in
              let at = ready m sw n ts p came planned in
              let Apart : List Started → Type 0 = λ z. Spread 260 z in
              let Row : List Started → Type 0 = λ z. AreInARow at z in
              let Lines : List Started → Type 0 = λ z. TellTurns m z 0 turns in
              let Ends : List Started → Type 0 = λ z. TellEnds m sw z 0 (first ∷ rest) in
              let At : ℕ → Type 0 = λ i. TellsSwitch m sw known i end.lines ⊎ TellsNone known i end.lines in
              let many = count in
              let most = planned.long in
              let made = length-map p.made put_of in
              let small = p.small in
              let endless = a.endless in
              record {
                known = known;
                same = sections_ended k a.past a.x ∙ ap (map (λ (z : Started). z.section)) (sym a.cut);
                spread = spread_ended k 260 a.past a.x (subst Apart a.cut (plans_spread m n ts p));
                at = at;
                row = row_ended k at a.past a.x a.low (subst Row a.cut (in_row m sw n ts p came planned));
                lines = tell_ended m k 0 a.past a.x turns (subst Lines a.cut lines);
                ends = ends_snoc m sw known 0 (first ∷ rest) end (tells_ended m sw k 0 a.past a.x (first ∷ rest) (omega (arith, many)) (omega (arith, endless, most, made, small)) (subst Ends a.cut before_last)) (subst At e (inl a.tells));
              }
        ]

  -- a run of one turn
  alone_switched : Facts m s ts [] end c → IsReactorTurn m s.switches [] end → TellTurns m p.seen.begun 0 (end ∷ []) → AreSwitched m s.switches p.seen.begun (end ∷ [])
  alone_switched f goes lines =
      let none = none_begun p.seen.begun refl in
      record {
        known = p.seen.begun;
        same = refl;
        spread = plans_spread m (length m.boards) ts p;
        at = 0;
        row = subst (λ (z : List Started). AreInARow 0 z) (sym none) tt;
        lines = lines;
        ends = (
          inr (record {
            none = λ number axis e. in_none e.past e.s e.later p.seen.begun none e.cut;
            lines_are = ap cuts_of goes.lines_are ∙ uncut;
          }),
          tt,
        );
      }
    where
      none_begun : (begun : List Started) → p.seen.begun ≡ begun → p.seen.begun ≡ []
      none_begun [] e = e
      none_begun (x ∷ begun) e = absurd (untold_alone m v s ts p end c p.seen.told refl f (λ none. (let g : x ∷ begun ≡ [] = sym e ∙ none in cc)))

      uncut : cuts_of (last_reacted m s.switches (came_in end) []).ordered.lines ≡ []
      uncut = elim (turn_cuts m s.switches (known_by m s.switches []) 0 end.states end.note goes.goes_on) [
        | inr u ↦ u.lines
        | inl t ↦
            let known = tells_known m s.switches (came_in end) [] goes.goes_on t.tells in
            let note = row_none (length m.boards) end goes.row in
            let g : None ≡ Some known.0 = ap (λ (o : Option Note). (noted m o (known_by m s.switches [])).homing) (sym note) ∙ known.1 in
            cc
      ]

  pub turns_switched : (rs : List ReactorTurn) → Facts m s ts rs end c → AreReactorTurns m s.switches [] (rs ++ end ∷ []) → TellTurns m p.seen.begun 0 (rs ++ end ∷ []) → AreSwitched m s.switches p.seen.begun (rs ++ end ∷ [])
  turns_switched [] f turns lines = alone_switched f turns.0 lines
  turns_switched (first ∷ rest) f turns lines = front_switched first rest f (turns_cut m s.switches [] (first ∷ rest) (end ∷ []) turns).1.0 lines
