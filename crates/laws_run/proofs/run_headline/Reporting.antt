-- The further clock lines that the lines of a whole run tell.
use Rattle.std.proofs.Common.{◌≡◌, ℕ, suc, ◌+◌, ◌*◌, ◌<◌, ◌≤◌, ◌⊎◌, List, [], ◌∷◌, ◌++◌, map, length, None, Some, refl, ap, sym, ◌∙◌, subst, arith, inl, inr, append_assoc, append-nil, length-append}
use Rattle.laws_board.proofs.Names.{eqb_tells, leb_tells, Cause, Machine, Held, Line, turn_ns, Clocks, IsValidMachine, clocks_at, Note, NoteNews, WordMsg, ReportLine, Scene, Switch, Connecting, news_of, Came, known_by, Told, MotionTurn, ReactorTurn, gather, cons_same}
use Rattle.msg_code.specs.declared.talk.NoteNews.TheVariants as news
use Rattle.report_text.specs.declared.line.ReportLine.TheVariants as report
use Rattle.host_reactor.specs.declared.ordered.Phase.TheVariants.{Running}
use Rattle.host_reactor.specs.Report.{drift_line, drift_lines}
use Rattle.motion_work.specs.Further.{WasHeard, noted_lines}
use Rattle.motion_work.specs.Told.{lines_in}
use Rattle.session_work.specs.Rows.{option_items}
use Rattle.session_run.specs.Boards.{AreReactorTurns, came_from, came_in}
use Rattle.laws_board.specs.plans.Lines.{drift_in, drifts_of}
use Rattle.laws_board.specs.plans.Planned.{AreBare, AreKnown, Plans, words_in}
use Rattle.laws_run.specs.run_ends.Boards.{boards_of}
use Rattle.laws_run.proofs.run_ends.Connecting.{after_boards, before_boards, boards_append}
use Rattle.laws_run.specs.run_headline.Further.{AreNamed, BoardsFirst, TellFurther, TellsFurther}
use Rattle.section_feed.specs.Fewer.{HoldBehind}
use Rattle.laws_run.proofs.run_headline.Asked.{asked_late}
use Rattle.laws_run.proofs.run_headline.Boarded.{Ready, ready}
use Rattle.laws_run.proofs.run_headline.Drifts.{drifts_append, reacts_drifts}
use Rattle.laws_run.proofs.run_headline.Further.{EachHeld, EachTold, noted_grown, noted_long, told_more}
use Rattle.laws_run.proofs.run_headline.Heard.{notes_cut}
use Rattle.laws_run.proofs.run_headline.Noting.{AllNoted, IsNoted, all_noted, heard_running, noted_between, noted_front, noted_later, word_said}
use Rattle.laws_run.proofs.run_headline.Facts.{EachNoted, Facts, came_long, goes_noted, last_boards, noted_so, notes_of, turns_cut}
use Rattle.laws_run.proofs.run_headline.Joining.{row_none}
use Rattle.laws_run.proofs.run_headline.Words.{Said, line_is, made_numbered, news_in}
use Rattle.laws_run.proofs.run_lines.Further.{first_front, named_front}
use Rattle.motion_stream.proofs.Uptaking.{noted_both}

-- lines that tell none of any board
abbrev TellNone : List ReportLine → Type 0
TellNone lines = (b : ℕ) → drifts_of b lines ≡ []

-- lines behind such lines, and lines before that name no board
none_first : (lines : List ReportLine) → boards_of lines ≡ [] → BoardsFirst lines
none_first [] e = tt
none_first (report.Machine corexy boards steppers ∷ lines) e = none_first lines e
none_first (report.Board board freq turn tick ∷ lines) e = absurd (cons_none e)
  where
    cons_none : {l : ReportLine} {ls : List ReportLine} → l ∷ ls ≡ [] → ⊥
    cons_none e = cc
none_first (report.Section i turn kind ∷ lines) e = none_first lines e
none_first (report.Pulse board stepper tick up ∷ lines) e = none_first lines e
none_first (report.Cut i board pin tick from ∷ lines) e = none_first lines e
none_first (report.Drift board sent clock from ∷ lines) e = (e, none_first lines e)
none_first (report.Lines accepted passed ∷ lines) e = none_first lines e
none_first (report.Out board pin tick on ∷ lines) e = none_first lines e
none_first (report.Made seed moves ∷ lines) e = none_first lines e
none_first (report.Count stepper pulses ∷ lines) e = none_first lines e
none_first (report.Fit section stepper pulses planned early late ∷ lines) e = none_first lines e
none_first (report.End c ∷ lines) e = none_first lines e

one_some : (board sent clock from : ℕ) (rest : List ReportLine) → drift_in board (report.Drift board sent clock from) ++ rest ≡ [] → ⊥
one_some board sent clock from rest e = elim (eqb_tells board board) [
  | inl p ↦ (let own : drift_in board (report.Drift board sent clock from) ≡ report.Drift board sent clock from ∷ [] = rw p.0 refl in let f : report.Drift board sent clock from ∷ rest ≡ [] = sym (ap (λ x. x ++ rest) own) ∙ e in cc)
  | inr p ↦ absurd (p.1 refl)
]

first_behind : (xs ys : List ReportLine) → TellNone xs → BoardsFirst ys → BoardsFirst (xs ++ ys)
first_behind [] ys n f = f
first_behind (report.Machine corexy boards steppers ∷ xs) ys n f = first_behind xs ys n f
first_behind (report.Board board freq turn tick ∷ xs) ys n f = first_behind xs ys n f
first_behind (report.Section i turn kind ∷ xs) ys n f = first_behind xs ys n f
first_behind (report.Pulse board stepper tick up ∷ xs) ys n f = first_behind xs ys n f
first_behind (report.Cut i board pin tick from ∷ xs) ys n f = first_behind xs ys n f
first_behind (report.Drift board sent clock from ∷ xs) ys n f = absurd (one_some board sent clock from (drifts_of board xs) (n board))
first_behind (report.Lines accepted passed ∷ xs) ys n f = first_behind xs ys n f
first_behind (report.Out board pin tick on ∷ xs) ys n f = first_behind xs ys n f
first_behind (report.Made seed moves ∷ xs) ys n f = first_behind xs ys n f
first_behind (report.Count stepper pulses ∷ xs) ys n f = first_behind xs ys n f
first_behind (report.Fit section stepper pulses planned early late ∷ xs) ys n f = first_behind xs ys n f
first_behind (report.End c ∷ xs) ys n f = first_behind xs ys n f

-- each line names a board that is there, where none of another is told
right_none : (b : ℕ) (l : ReportLine) (lines : List ReportLine) → drift_in b l ++ drifts_of b lines ≡ [] → drifts_of b lines ≡ []
right_none b l lines e = by (drift_in b l) e
  where
    by : (xs : List ReportLine) → xs ++ drifts_of b lines ≡ [] → drifts_of b lines ≡ []
    by [] f = f
    by (x ∷ xs) f = absurd (none f)
      where
        none : x ∷ (xs ++ drifts_of b lines) ≡ [] → ⊥
        none g = cc

named_by : (m : Machine) (lines : List ReportLine) → ((b : ℕ) → length m.boards ≤ b → drifts_of b lines ≡ []) → AreNamed m lines
named_by m [] n = tt
named_by m (report.Machine corexy boards steppers ∷ lines) n = named_by m lines n
named_by m (report.Board board freq turn tick ∷ lines) n = named_by m lines n
named_by m (report.Section i turn kind ∷ lines) n = named_by m lines n
named_by m (report.Pulse board stepper tick up ∷ lines) n = named_by m lines n
named_by m (report.Cut i board pin tick from ∷ lines) n = named_by m lines n
named_by m (report.Drift board sent clock from ∷ lines) n = (
  elim (leb_tells (suc board) (length m.boards)) [
    | inl p ↦ p.1
    | inr p ↦ absurd (let far = p.1 in one_some board sent clock from (drifts_of board lines) (n board (omega (arith, far))))
  ],
  named_by m lines (λ b high. right_none b (report.Drift board sent clock from) lines (n b high)),
)
named_by m (report.Lines accepted passed ∷ lines) n = named_by m lines n
named_by m (report.Out board pin tick on ∷ lines) n = named_by m lines n
named_by m (report.Made seed moves ∷ lines) n = named_by m lines n
named_by m (report.Count stepper pulses ∷ lines) n = named_by m lines n
named_by m (report.Fit section stepper pulses planned early late ∷ lines) n = named_by m lines n
named_by m (report.End c ∷ lines) n = named_by m lines n

-- the lines that news tell
lines_append : (xs ys : List NoteNews) → drift_lines (xs ++ ys) ≡ drift_lines xs ++ drift_lines ys
lines_append [] ys = refl
lines_append (x ∷ xs) ys = ap (λ z. drift_line x ++ z) (lines_append xs ys) ∙ sym (append_assoc (drift_line x) (drift_lines xs) (drift_lines ys))

pub not_told : (b : ℕ) (ns : List NoteNews) → EachTold (λ board line from. board ≡ b → ⊥) ns → drifts_of b (drift_lines ns) ≡ []
not_told b [] a = refl
not_told b (news.Start section kind turn last moving ∷ ns) a = not_told b ns a
not_told b (news.Done section turn ∷ ns) a = not_told b ns a
not_told b (news.Read end sections ∷ ns) a = not_told b ns a
not_told b (news.Line board line from ∷ ns) a =
    elim (eqb_tells board b) [ inl p ↦ absurd (a.0 p.1) | inr p ↦ rw p.0 (not_told b ns a.1) ]

pub none_noted : (ns : List NoteNews) (clocks : List Clocks) → EachTold (λ board line from. ⊥) ns → noted_lines ns clocks ≡ clocks
none_noted [] clocks a = refl
none_noted (news.Start section kind turn last moving ∷ ns) clocks a = none_noted ns clocks a
none_noted (news.Done section turn ∷ ns) clocks a = none_noted ns clocks a
none_noted (news.Read end sections ∷ ns) clocks a = none_noted ns clocks a
none_noted (news.Line board line from ∷ ns) clocks a = absurd a.0

pub told_left : (P : ℕ → Line → ℕ → Type 0) (xs ys : List NoteNews) → EachTold P (xs ++ ys) → EachTold P xs
told_left P [] ys a = tt
told_left P (news.Start section kind turn last moving ∷ xs) ys a = told_left P xs ys a
told_left P (news.Done section turn ∷ xs) ys a = told_left P xs ys a
told_left P (news.Read end sections ∷ xs) ys a = told_left P xs ys a
told_left P (news.Line board line from ∷ xs) ys a = (a.0, told_left P xs ys a.1)

pub news_append : (xs ys : List MotionTurn) → news_in (xs ++ ys) ≡ news_in xs ++ news_in ys
news_append [] ys = refl
news_append (x ∷ xs) ys = ap (λ z. x.note.news ++ z) (news_append xs ys) ∙ sym (append_assoc x.note.news (news_in xs) (news_in ys))

-- turns of the reactor that took the news of these turns of the planner, one of each, and then none
abbrev pub TakeNews : List ReactorTurn → List MotionTurn → Type 0
TakeNews [] [] = Unit {0}
TakeNews [] (d ∷ ds) = ⊥
TakeNews (r ∷ rs) [] = (news_of r.note ≡ []) × TakeNews rs []
TakeNews (r ∷ rs) (d ∷ ds) = (news_of r.note ≡ d.note.news) × TakeNews rs ds

pub record Taken (rs : List ReactorTurn) (made : List MotionTurn) : Type 0 where
  pub front : List MotionTurn
  pub back : List MotionTurn
  pub are : made ≡ front ++ back
  pub takes : TakeNews rs front
  pub long : (back ≡ []) ⊎ (length front ≡ length rs)

-- so did the first ones of them
taken_front : (xs ys : List ReactorTurn) (made front back : List MotionTurn) → made ≡ front ++ back → TakeNews (xs ++ ys) front → (back ≡ []) ⊎ (length front ≡ length (xs ++ ys)) → Taken xs made
taken_front [] ys made front back are takes long = record { front = []; back = made; are = refl; takes = tt; long = inr refl }
taken_front (x ∷ xs) ys made [] back are takes (inl none) = record { front = []; back = back; are = are; takes = (takes.0, none_front xs ys takes.1); long = inl none }
  where
    none_front : (xs ys : List ReactorTurn) → TakeNews (xs ++ ys) [] → TakeNews xs []
    none_front [] ys takes = tt
    none_front (x ∷ xs) ys takes = (takes.0, none_front xs ys takes.1)
taken_front (x ∷ xs) ys made [] back are takes (inr long) = absurd (omega (arith, long))
taken_front (x ∷ xs) ys made (d ∷ front) back are takes long =
    let r = taken_front xs ys (front ++ back) front back refl takes.1 (elim long [ inl e ↦ inl e | inr e ↦ inr (omega (arith, e)) ]) in
    record { front = d ∷ r.front; back = r.back; are = are ∙ ap (λ z. d ∷ z) r.are; takes = (takes.0, r.takes); long = elim r.long [ inl e ↦ inl e | inr e ↦ inr (ap suc e) ] }

note_is : (r : ReactorTurn) (x d : Note) → r.note ≡ Some x → x ≡ d → news_of r.note ≡ d.news
note_is r x d e f = ap news_of e ∙ ap (λ (n : Note). n.news) f

bare_taken : (n k : ℕ) (rs : List ReactorTurn) (bare : List MotionTurn) (left : List Note) → AreBare n k bare → EachNoted rs → gather (λ t. t.note ∷ []) bare ≡ notes_of rs ++ left → TakeNews rs []
bare_taken n k [] bare left b h e = tt
bare_taken n k (r ∷ rs) [] left b h e =
    let cut : [] ≡ h.0.0 ∷ (notes_of rs ++ left) = e ∙ ap (λ x. (option_items x ++ notes_of rs) ++ left) h.0.1 in
    absurd (none cut)
  where
    none : {x : Note} {xs : List Note} → [] ≡ x ∷ xs → ⊥
    none f = cc
bare_taken n k (r ∷ rs) (d ∷ bare) left b h e =
    let cut : d.note ∷ gather (λ (t : MotionTurn). t.note ∷ []) bare ≡ h.0.0 ∷ (notes_of rs ++ left) = e ∙ ap (λ x. (option_items x ++ notes_of rs) ++ left) h.0.1 in
    let same = cons_same d.note h.0.0 (gather (λ (t : MotionTurn). t.note ∷ []) bare) (notes_of rs ++ left) cut in
    (note_is r h.0.0 d.note h.0.1 (sym same.0) ∙ ap (λ (x : Note). x.news) b.0.3, bare_taken n (k + 1) rs bare left b.1 h.1 same.1)

taken : (n k : ℕ) (rs : List ReactorTurn) (made bare : List MotionTurn) (left : List Note) → AreBare n k bare → EachNoted rs → map (λ t. t.note) made ++ gather (λ t. t.note ∷ []) bare ≡ notes_of rs ++ left → Taken rs made
taken n k [] made bare left b h e = record { front = []; back = made; are = refl; takes = tt; long = inr refl }
taken n k (r ∷ rs) [] bare left b h e = record { front = []; back = []; are = refl; takes = bare_taken n k (r ∷ rs) bare left b h e; long = inl refl }
taken n k (r ∷ rs) (d ∷ made) bare left b h e =
    let others = map (λ (t : MotionTurn). t.note) made ++ gather (λ (t : MotionTurn). t.note ∷ []) bare in
    let cut : d.note ∷ others ≡ h.0.0 ∷ (notes_of rs ++ left) = e ∙ ap (λ x. (option_items x ++ notes_of rs) ++ left) h.0.1 in
    let same = cons_same d.note h.0.0 others (notes_of rs ++ left) cut in
    let rest = taken n k rs made bare left b h.1 same.1 in
    record {
      front = d ∷ rest.front;
      back = rest.back;
      are = ap (λ x. d ∷ x) rest.are;
      takes = (note_is r h.0.0 d.note h.0.1 (sym same.0), rest.takes);
      long = elim rest.long [ inl e ↦ inl e | inr e ↦ inr (ap suc e) ];
    }

-- each turn's lines tell what its note told
abbrev DriftsTold : List ReactorTurn → Type 0
DriftsTold [] = Unit {0}
DriftsTold (r ∷ rs) = ((b : ℕ) → drifts_of b r.lines ≡ drifts_of b (drift_lines (news_of r.note))) × DriftsTold rs

drifts_both : (xs ys : List ReactorTurn) → DriftsTold xs → DriftsTold ys → DriftsTold (xs ++ ys)
drifts_both [] ys a b = b
drifts_both (x ∷ xs) ys a b = (a.0, drifts_both xs ys a.1 b)

drifts_front : (xs ys : List ReactorTurn) → DriftsTold (xs ++ ys) → DriftsTold xs
drifts_front [] ys d = tt
drifts_front (x ∷ xs) ys d = (d.0, drifts_front xs ys d.1)

turns_drift : (m : Machine) (switches : List Switch) (before : List Came) (rs : List ReactorTurn) → AreReactorTurns m switches before rs → DriftsTold rs
turns_drift m switches before [] h = tt
turns_drift m switches before (r ∷ rs) h =
    ((λ b. ap (drifts_of b) h.0.lines_are ∙ reacts_drifts m switches (known_by m switches before) (length before) r.states r.note b), turns_drift m switches (came_in r ∷ before) rs h.1)

drifts_are : (b : ℕ) (rs : List ReactorTurn) (ds : List MotionTurn) → DriftsTold rs → TakeNews rs ds → drifts_of b (gather (λ t. t.lines) rs) ≡ drifts_of b (drift_lines (news_in ds))
drifts_are b [] [] h t = refl
drifts_are b [] (d ∷ ds) h t = absurd t
drifts_are b (r ∷ rs) [] h t =
    drifts_append b r.lines (gather (λ (x : ReactorTurn). x.lines) rs) ∙ ap (λ z. z ++ drifts_of b (gather (λ (x : ReactorTurn). x.lines) rs)) (h.0 b ∙ ap (λ ns. drifts_of b (drift_lines ns)) t.0) ∙ drifts_are b rs [] h.1 t.1
drifts_are b (r ∷ rs) (d ∷ ds) h t =
    let lines = gather (λ (x : ReactorTurn). x.lines) rs in
    drifts_append b r.lines lines ∙ ap (λ z. z ++ drifts_of b lines) (h.0 b ∙ ap (λ ns. drifts_of b (drift_lines ns)) t.0) ∙ ap (λ z. drifts_of b (drift_lines d.note.news) ++ z) (drifts_are b rs ds h.1 t.1)
    ∙ sym (ap (drifts_of b) (lines_append d.note.news (news_in ds)) ∙ drifts_append b (drift_lines d.note.news) (drift_lines (news_in ds)))

-- the first turns of the reactor tell none, where the planner's notes told none by then
none_taken : (xs ys : List ReactorTurn) (front back past later : List MotionTurn) → length xs ≤ length past → front ++ back ≡ past ++ later → TakeNews (xs ++ ys) front → DriftsTold xs → EachTold (λ board line from. ⊥) (news_in past) → TellNone (gather (λ t. t.lines) xs)
none_taken [] ys front back past later few e t d a = λ b. refl
none_taken (x ∷ xs) ys [] back past later few e t d a =
    λ b. drifts_append b x.lines (gather (λ (y : ReactorTurn). y.lines) xs) ∙ ap (λ z. z ++ drifts_of b (gather (λ (y : ReactorTurn). y.lines) xs)) (d.0 b ∙ ap (λ ns. drifts_of b (drift_lines ns)) t.0)
    ∙ bare_none xs ys t.1 d.1 b
  where
    bare_none : (xs ys : List ReactorTurn) → TakeNews (xs ++ ys) [] → DriftsTold xs → TellNone (gather (λ t. t.lines) xs)
    bare_none [] ys t d = λ b. refl
    bare_none (x ∷ xs) ys t d = λ b. drifts_append b x.lines (gather (λ (y : ReactorTurn). y.lines) xs) ∙ ap (λ z. z ++ drifts_of b (gather (λ (y : ReactorTurn). y.lines) xs)) (d.0 b ∙ ap (λ ns. drifts_of b (drift_lines ns)) t.0)
        ∙ bare_none xs ys t.1 d.1 b
none_taken (x ∷ xs) ys (f ∷ front) back [] later few e t d a = absurd (omega (arith, few))
none_taken (x ∷ xs) ys (f ∷ front) back (p ∷ past) later few e t d a =
    let same = cons_turn f p (front ++ back) (past ++ later) e in
    let own : drift_lines (news_of x.note) ≡ drift_lines p.note.news = ap drift_lines (t.0 ∙ ap (λ (y : MotionTurn). y.note.news) same.0) in
    let here = told_left (λ board line from. ⊥) p.note.news (news_in past) a in
    let rest = told_right (λ board line from. ⊥) p.note.news (news_in past) a in
    λ b. drifts_append b x.lines (gather (λ (y : ReactorTurn). y.lines) xs) ∙ ap (λ z. z ++ drifts_of b (gather (λ (y : ReactorTurn). y.lines) xs))
    (d.0 b ∙ ap (drifts_of b) own ∙ not_told b p.note.news (told_more (λ board line from. ⊥) (λ board line from. board ≡ b → ⊥) p.note.news (λ board line from z. absurd z) here))
    ∙ none_taken xs ys front back past later (omega (arith, few)) same.1 t.1 d.1 rest b
  where
    cons_turn : (x y : MotionTurn) (xs ys : List MotionTurn) → x ∷ xs ≡ y ∷ ys → (x ≡ y) × (xs ≡ ys)
    cons_turn x y xs ys e = (cc, cc)

    told_right : (P : ℕ → Line → ℕ → Type 0) (xs ys : List NoteNews) → EachTold P (xs ++ ys) → EachTold P ys
    told_right P [] ys a = a
    told_right P (news.Start section kind turn last moving ∷ xs) ys a = told_right P xs ys a
    told_right P (news.Done section turn ∷ xs) ys a = told_right P xs ys a
    told_right P (news.Read end sections ∷ xs) ys a = told_right P xs ys a
    told_right P (news.Line board line from ∷ xs) ys a = told_right P xs ys a.1

-- the front of a list that goes on as another
pub list_cut : {A : Type 0} (xs : List A) (x : A) (ys zs ws : List A) → xs ++ x ∷ ys ≡ zs ++ ws → length xs < length zs → (mid : List A) × (zs ≡ xs ++ x ∷ mid)
list_cut [] x ys [] ws e less = absurd (omega (arith, less))
list_cut [] x ys (z ∷ zs) ws e less = (let first : x ≡ z = cc in (zs, ap (λ y. y ∷ zs) (sym first)))
list_cut (y ∷ xs) x ys [] ws e less = absurd (omega (arith, less))
list_cut (y ∷ xs) x ys (z ∷ zs) ws e less =
    let first : y ≡ z = cc in
    let then : xs ++ x ∷ ys ≡ zs ++ ws = cc in
    let r = list_cut xs x ys zs ws then (omega (arith, less)) in
    (r.0, ap (λ u. u ∷ zs) (sym first) ∙ ap (λ u. y ∷ u) r.1)

hold_behind : (turn : ℕ) (held : List Held) → EachHeld (λ line from. turn * turn_ns < from) held → HoldBehind turn held
hold_behind turn [] a = tt
hold_behind turn (h ∷ held) a = (a.0, hold_behind turn held a.1)

module _ (m : Machine) (v : IsValidMachine m) (s : Scene) (ts : List MotionTurn) (p : Plans m (length m.boards) ts) (end : ReactorTurn) (c : Cause) (first : ReactorTurn) (rest : List ReactorTurn) (f : Facts m s ts (first ∷ rest) end c) where
  abbrev pub Behind_first : List ReactorTurn
  Behind_first = rest ++ end ∷ []

  abbrev pub All_lines : List ReportLine
  All_lines = gather (λ (r : ReactorTurn). r.lines) (first ∷ Behind_first)

  -- each turn behind the first took a note
  each : EachNoted Behind_first
  each =
      let last = noted_so m (length (came_from [] (first ∷ rest))) end (let e = came_long [] (first ∷ rest) in omega (arith, e)) f.row f.clear in
      goes_noted m s.switches (came_in first ∷ []) rest (end ∷ []) (omega arith) f.turns.1 (last, tt)

  none : first.note ≡ None
  none = row_none (length m.boards) first f.turns.0.row

  notes_are : gather (λ x. x.note ∷ []) ts ≡ notes_of Behind_first ++ f.notes_left
  notes_are = f.notes ∙ ap (λ o. (option_items o ++ notes_of Behind_first) ++ f.notes_left) none

  pub notes_all : AllNoted (words_in p.made) 0 p.made
  notes_all = all_noted m p.seen.text p.seen.begun 0 0 None [] p.made refl p.put p.lines p.ahead (made_numbered m s.switches f.ahead (first ∷ rest) ts p.made p.bare f.words_left p.are f.turns f.words)

  all_drift : DriftsTold (first ∷ Behind_first)
  all_drift =
      drifts_both (first ∷ rest) (end ∷ []) (turns_drift m s.switches [] (first ∷ rest) f.turns)
      ((λ b. ap (drifts_of b) f.lines_are ∙ reacts_drifts m s.switches f.known (length (came_from [] (first ∷ rest))) end.states end.note b), tt)

  pub took : Taken Behind_first p.made
  took =
      let cut = sym (notes_cut p.made p.bare) ∙ ap (gather (λ (d : MotionTurn). d.note ∷ [])) (sym p.are) ∙ notes_are in
      taken (length m.boards) (0 + length p.made) Behind_first p.made p.bare f.notes_left p.are_bare each cut

  -- the lines of the first turn tell none
  first_tells : TellNone first.lines
  first_tells b = all_drift.0 b ∙ ap (λ o. drifts_of b (drift_lines (news_of o))) none

  pub lines_told : (b : ℕ) → drifts_of b All_lines ≡ drifts_of b (drift_lines (news_in took.front))
  lines_told b =
      drifts_append b first.lines (gather (λ (r : ReactorTurn). r.lines) Behind_first) ∙ ap (λ z. z ++ drifts_of b (gather (λ (r : ReactorTurn). r.lines) Behind_first)) (first_tells b)
      ∙ drifts_are b Behind_first took.front all_drift.1 took.takes

module _ (m : Machine) (v : IsValidMachine m) (s : Scene) (ts : List MotionTurn) (p : Plans m (length m.boards) ts) (end : ReactorTurn) (c : Cause) (first : ReactorTurn) (rest : List ReactorTurn) (f : Facts m s ts (first ∷ rest) end c) (t : Told) (told : p.seen.told ≡ Some t) where
  abbrev Behind : List ReactorTurn
  Behind = rest ++ end ∷ []

  abbrev Lines : List ReportLine
  Lines = gather (λ (r : ReactorTurn). r.lines) (first ∷ (rest ++ end ∷ []))

  Notes_all : AllNoted (words_in p.made) 0 p.made
  Notes_all = notes_all m v s ts p end c first rest f

  abbrev Took : Taken (rest ++ end ∷ []) p.made
  Took = took m v s ts p end c first rest f

  Lines_told : (b : ℕ) → drifts_of b Lines ≡ drifts_of b (drift_lines (news_in Took.front))
  Lines_told b = lines_told m v s ts p end c first rest f b

  All_drift : DriftsTold (first ∷ Behind)
  All_drift = all_drift m v s ts p end c first rest f

  First_tells : TellNone first.lines
  First_tells b = first_tells m v s ts p end c first rest f b

  ready_here : Ready m v s ts p t first rest end told
  ready_here = ready m v s ts p t first rest end told f.ahead f.words_left f.turns f.words

  -- a further line of the planner's was told by a word of the reactor
  said_by : (low high board : ℕ) (line : Line) (from : ℕ) → IsNoted (words_in p.made) low high board line from → (w : WordMsg) × Said m s.switches [] (first ∷ rest) w × WasHeard board line (lines_in w.news) × (w.turn < high)
  said_by low high board line from x =
      let soon = x.is.soon in
      let over = x.over in
      (x.is.word, word_said m s.switches f.ahead ts p.made p.bare (first ∷ rest) f.words_left p.are f.turns f.words x.is.word board line x.is.among x.is.heard, x.is.heard, omega (arith, soon, over))

  there : (low high board : ℕ) (line : Line) (from : ℕ) → IsNoted (words_in p.made) low high board line from → board < length m.boards
  there low high board line from x =
      let w = said_by low high board line from x in
      let by = w.1 in
      let Heard : WordMsg → Type 0 = λ y. WasHeard board line (lines_in y.news) in
      (asked_late m s.switches (came_in by.turn) (came_from [] by.past) by.went_on by.goes_on board line (subst Heard by.word_is w.2)).1

  -- none is told by a note that was made before connecting ended
  none_early : EachTold (λ board line from. ⊥) (news_in ready_here.heard.past)
  none_early =
      let r = ready_here in
      let h = r.heard in
      let words = words_in p.made in
      let front = noted_front words 0 h.past (h.turn ∷ h.later) (subst (AllNoted words 0) h.are Notes_all) in
      told_more (IsNoted words 0 (length h.past)) (λ board line from. ⊥) (news_in h.past) (λ board line from x.
      let w = said_by 0 (length h.past) board line from x in
      let by = w.1 in
      let Heard : WordMsg → Type 0 = λ y. WasHeard board line (lines_in y.news) in
      let running = heard_running m s.switches (came_in by.turn) (came_from [] by.past) board line by.goes_on (subst Heard by.word_is w.2) in
      let soon = w.3 in
      let number = by.number in
      let long = came_long [] by.past in
      let far = came_long [] r.past in
      let at = r.number in
      let cut = list_cut by.past by.turn by.later r.past (r.turn ∷ r.later) (sym by.are ∙ r.are) (omega (arith, soon, number, long, far, at)) in
      let Turns : List ReactorTurn → Type 0 = λ z. AreReactorTurns m s.switches [] z in
      let upto = (turns_cut m s.switches [] r.past (r.turn ∷ r.later) (subst Turns r.are f.turns)).0 in
      let parts = turns_cut m s.switches [] by.past (by.turn ∷ cut.0) (subst Turns cut.1 upto) in
      let Phase : List Came → Type 0 = λ z. (known_by m s.switches z).phase ≡ Connecting in
      let at_end = subst Phase (ap (came_from []) cut.1 ∙ came_both [] by.past (by.turn ∷ cut.0)) r.is.phase in
      let before = before_boards m s.switches (came_from [] by.past) (by.turn ∷ cut.0) parts.1 at_end in
      let clash : Running ≡ Connecting = sym running ∙ before.0 in
      cc)
      (noted_between words 0 0 (length h.past) h.past (omega arith) (omega arith) front)
    where
      came_both : (before : List Came) (xs ys : List ReactorTurn) → came_from before (xs ++ ys) ≡ came_from (came_from before xs) ys
      came_both before [] ys = refl
      came_both before (x ∷ xs) ys = came_both (came_in x ∷ before) xs ys

  named : AreNamed m Lines
  named =
      let words = words_in p.made in
      let front = noted_front words 0 Took.front Took.back (subst (AllNoted words 0) Took.are Notes_all) in
      let boards = noted_between words 0 0 (length Took.front) Took.front (omega arith) (omega arith) front in
      named_by m Lines (λ b high. Lines_told b ∙ not_told b (news_in Took.front) (told_more (IsNoted words 0 (length Took.front)) (λ board line from. board ≡ b → ⊥) (news_in Took.front)
      (λ board line from x same. let low = there 0 (length Took.front) board line from x in omega (arith, low, same, high)) boards))

  -- those that are left untold hold from behind a turn on, where so does each that a note tells that was not taken
  told_to : (xs : List ReactorTurn) (had : Taken xs p.made) (lines : List ReportLine) (turn : ℕ) → ((b : ℕ) → drifts_of b lines ≡ drifts_of b (drift_lines (news_in had.front)))
      → ((front back : List MotionTurn) → p.made ≡ front ++ back → length front ≡ length xs → EachTold (λ board line from. turn * turn_ns < from) (news_in back)) → (b : ℕ) → b < length m.boards → TellsFurther b (clocks_at t.clocks b).held turn lines
  told_to xs had lines turn lines_tell left b inside =
      let r = ready_here in
      let h = r.heard in
      let All : ℕ → Line → ℕ → Type 0 = λ board line from. Unit {0} in
      let Late : ℕ → Line → ℕ → Type 0 = λ board line from. turn * turn_ns < from in
      let known = subst (AreKnown m) told p.known in
      let whole : t.clocks ≡ noted_lines (news_in had.back) (noted_lines (news_in had.front) h.clocks) =
      h.on ∙ ap (noted_lines (news_in (h.turn ∷ h.later))) (sym (none_noted (news_in h.past) h.clocks none_early)) ∙ sym (noted_both (news_in h.past) (news_in (h.turn ∷ h.later)) h.clocks)
      ∙ ap (λ ns. noted_lines ns h.clocks) (sym (news_append h.past (h.turn ∷ h.later)) ∙ ap news_in (sym h.are ∙ had.are) ∙ news_append had.front had.back) ∙ noted_both (news_in had.front) (news_in had.back) h.clocks in
      let mid = noted_lines (news_in had.front) h.clocks in
      let long_mid = noted_long (news_in had.front) h.clocks in
      let long_all = ap length whole ∙ noted_long (news_in had.back) mid in
      let many = known.0.count in
      let own = line_of_first b inside in
      let g = noted_grown All (news_in had.front) h.clocks b (omega (arith, inside, many, long_all, long_mid)) (any (news_in had.front)) in
      let late : EachTold Late (news_in had.back) = elim had.long [
        | inl e ↦ subst (λ ds. EachTold Late (news_in ds)) (sym e) tt
        | inr e ↦ left had.front had.back had.are e
      ] in
      let k = noted_grown Late (news_in had.back) mid b (omega (arith, inside, many, long_all)) late in
      record {
        told = g.more;
        rest = k.more;
        are = ap (λ (cs : List Clocks). (clocks_at cs b).held) whole ∙ k.held ∙ ap (λ hs. hs ++ k.more) (g.held ∙ ap (λ hs. hs ++ g.more) own);
        lines_are = lines_tell b ∙ sym g.lines;
        later = hold_behind turn k.more k.each;
      }
    where
      any : (ns : List NoteNews) → EachTold (λ board line from. Unit {0}) ns
      any [] = tt
      any (news.Start section kind turn last moving ∷ ns) = any ns
      any (news.Done section turn ∷ ns) = any ns
      any (news.Read end sections ∷ ns) = any ns
      any (news.Line board line from ∷ ns) = (tt, any ns)

      line_of_first : (b : ℕ) → b < length m.boards → (clocks_at ready_here.heard.clocks b).held ≡ []
      line_of_first b inside =
          let r = ready_here in
          let own = line_is (length (came_from [] r.past)) b m.boards r.is.lines r.is.fit inside in
          ap (λ (x : Clocks). x.held) (ap (λ cs. clocks_at cs b) r.is.clocks_are ∙ own.2)

  -- what is told by notes behind some of them holds from behind a turn on
  late : (turn : ℕ) (front back : List MotionTurn) → p.made ≡ front ++ back → turn ≤ length front + 276 → EachTold (λ board line from. turn * turn_ns < from) (news_in back)
  late turn front back are soon =
      let words = words_in p.made in
      let Late : ℕ → Line → ℕ → Type 0 = λ board line from. turn * turn_ns < from in
      let at_front : 0 + length front ≡ length front = omega arith in
      let all = subst (λ i. AllNoted words i back) at_front (noted_later words 0 front back (subst (AllNoted words 0) are Notes_all)) in
      let size = ap length are ∙ length-append front back in
      told_more (IsNoted words (length front) (length p.made)) Late (news_in back) (λ board line from x. (let far = x.late in let at = x.is.from_is in omega (arith, far, at, soon)))
      (noted_between words (length front) (length front) (length p.made) back (omega arith) (omega (arith, size)) all)

  -- so do the first turns: each line that is told behind them holds from behind the 275th turn behind them on
  further : (front later : List ReactorTurn) → first ∷ Behind ≡ front ++ later → (turn : ℕ) → turn ≤ length front + 275 → (b : ℕ) → b < length m.boards → TellsFurther b (clocks_at t.clocks b).held turn (gather (λ z. z.lines) front)
  further [] later are turn soon b inside =
      told_to [] (record { front = []; back = p.made; are = refl; takes = tt; long = inr refl }) [] turn (λ b. refl) (λ front back are long. late turn front back are (omega (arith, soon, long))) b inside
  further (y ∷ xs) later are turn soon b inside =
      let same : first ≡ y = cc in
      let then : Behind ≡ xs ++ later = cc in
      let Takes : List ReactorTurn → Type 0 = λ z. TakeNews z Took.front in
      let Long : List ReactorTurn → Type 0 = λ z. (Took.back ≡ []) ⊎ (length Took.front ≡ length z) in
      let Drifts : List ReactorTurn → Type 0 = λ z. DriftsTold z in
      let own = taken_front xs later p.made Took.front Took.back Took.are (subst Takes then Took.takes) (subst Long then Took.long) in
      let none = λ (b : ℕ). ap (λ (r : ReactorTurn). drifts_of b r.lines) (sym same) ∙ First_tells b in
      let tells = λ (b : ℕ).
      drifts_append b y.lines (gather (λ (r : ReactorTurn). r.lines) xs) ∙ ap (λ z. z ++ drifts_of b (gather (λ (r : ReactorTurn). r.lines) xs)) (none b) ∙ drifts_are b xs own.front (drifts_front xs later (subst Drifts then All_drift.1)) own.takes in
      told_to xs own (gather (λ (z : ReactorTurn). z.lines) (y ∷ xs)) turn tells (λ front back are long. late turn front back are (omega (arith, soon, long))) b inside

  lines_cut : (xs ys : List ReactorTurn) → gather (λ z. z.lines) (xs ++ ys) ≡ gather (λ z. z.lines) xs ++ gather (λ z. z.lines) ys
  lines_cut [] ys = refl
  lines_cut (x ∷ xs) ys = ap (λ z. x.lines ++ z) (lines_cut xs ys) ∙ sym (append_assoc x.lines (gather (λ (z : ReactorTurn). z.lines) xs) (gather (λ (z : ReactorTurn). z.lines) ys))

  -- behind the turn that ended connecting no board has its line
  later_none : boards_of (gather (λ z. z.lines) (ready_here.later ++ end ∷ [])) ≡ []
  later_none =
      let r = ready_here in
      let lines = λ (zs : List ReactorTurn). gather (λ (z : ReactorTurn). z.lines) zs in
      let Turns : List ReactorTurn → Type 0 = λ z. AreReactorTurns m s.switches [] z in
      let parts = turns_cut m s.switches [] r.past (r.turn ∷ r.later) (subst Turns r.are f.turns) in
      let on : (known_by m s.switches (came_in r.turn ∷ came_from [] r.past)).phase ≡ Connecting → ⊥ = λ e. let g : Running ≡ Connecting = sym r.is.then ∙ e in cc in
      let after = after_boards m s.switches (came_in r.turn ∷ came_from [] r.past) r.later parts.1.1 on in
      let last = last_boards m s ts first rest end c f r.past r.turn r.later r.are on in
      ap boards_of (lines_cut r.later (end ∷ [])) ∙ boards_append (lines r.later) (lines (end ∷ [])) ∙ ap (λ z. z ++ boards_of (lines (end ∷ []))) after ∙ ap boards_of (append-nil end.lines) ∙ last

  -- and up to it none is told
  none_upto : (past : List ReactorTurn) (turn : ReactorTurn) (later : List ReactorTurn) → first ∷ rest ≡ past ++ turn ∷ later → length past ≡ length ready_here.heard.past → TellNone (gather (λ z. z.lines) (past ++ turn ∷ []))
  none_upto [] turn later are few =
      let same : first ≡ turn = cc in
      let Told_in : ReactorTurn → Type 0 = λ (r : ReactorTurn). TellNone (r.lines ++ []) in
      subst Told_in same (λ b. ap (drifts_of b) (append-nil first.lines) ∙ First_tells b)
  none_upto (x ∷ past) turn later are few =
      let h = ready_here.heard in
      let same : first ≡ x = cc in
      let then : rest ≡ past ++ turn ∷ later = cc in
      let upto = past ++ turn ∷ [] in
      let others = later ++ end ∷ [] in
      let cut : Behind ≡ upto ++ others = ap (λ z. z ++ end ∷ []) then ∙ append_assoc past (turn ∷ later) (end ∷ []) ∙ sym (append_assoc past (turn ∷ []) others) in
      let Takes : List ReactorTurn → Type 0 = λ z. TakeNews z Took.front in
      let size = length-append past (turn ∷ []) in
      let rest_none = none_taken upto others Took.front Took.back h.past (h.turn ∷ h.later) (omega (arith, few, size)) (sym Took.are ∙ h.are) (subst Takes cut Took.takes) (drifts_front upto others (subst DriftsTold cut All_drift.1)) none_early in
      let First : ReactorTurn → Type 0 = λ (r : ReactorTurn). TellNone (r.lines ++ gather (λ (z : ReactorTurn). z.lines) upto) in
      subst First same (λ b. drifts_append b first.lines (gather (λ (z : ReactorTurn). z.lines) upto) ∙ ap (λ z. z ++ drifts_of b (gather (λ (y : ReactorTurn). y.lines) upto)) (First_tells b) ∙ rest_none b)

  -- no board has its line behind a further one
  boards_first : BoardsFirst Lines
  boards_first =
      let r = ready_here in
      let upto = r.past ++ r.turn ∷ [] in
      let others = r.later ++ end ∷ [] in
      let lines = λ (zs : List ReactorTurn). gather (λ (z : ReactorTurn). z.lines) zs in
      let are : first ∷ Behind ≡ upto ++ others = ap (λ z. z ++ end ∷ []) r.are ∙ append_assoc r.past (r.turn ∷ r.later) (end ∷ []) ∙ sym (append_assoc r.past (r.turn ∷ []) others) in
      let number = r.number in
      let long = came_long [] r.past in
      subst BoardsFirst (sym (ap lines are ∙ lines_cut upto others))
      (first_behind (lines upto) (lines others) (none_upto r.past r.turn r.later r.are (omega (arith, number, long))) (none_first (lines others) later_none))

  pub told_further : (front later : List ReactorTurn) → first ∷ Behind ≡ front ++ later → (turn : ℕ) → turn ≤ length front + 275 → TellFurther m t.clocks turn (gather (λ z. z.lines) front)
  told_further front later are turn soon =
      let lines = λ (zs : List ReactorTurn). gather (λ (z : ReactorTurn). z.lines) zs in
      let cut = ap lines are ∙ lines_cut front later in
      record {
        first = first_front (lines front) (lines later) (subst BoardsFirst cut boards_first);
        named = named_front m (lines front) (lines later) (subst (AreNamed m) cut named);
        further = further front later are turn soon;
      }
