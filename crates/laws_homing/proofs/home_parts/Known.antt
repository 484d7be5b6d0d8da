-- While the reactor knows a homing section no word tells of an answer; and one that tells of it is that of a section that was begun.
use Rattle.std.proofs.Common.{◌≡◌, ℕ, zero, suc, ◌+◌, ◌<◌, ◌≤◌, ◌⊎◌, true, false, List, [], ◌∷◌, ◌++◌, length, Option, Some, None, refl, ap, sym, ◌∙◌, subst, arith, inl, inr}
use Rattle.laws_board.proofs.Names.{leb_tells, Machine, SectionKind, Home, Moves, Clocks, axis_at, Note, NoteNews, State, WordMsg, Switch, End, GroupState, turned_group, Homing, answer_in, by_answer, goes_on_homing, hears_all, homing_after, homing_turn, members_from, Started, Known, news_of, noted, known_behind, told_all, Reacted, Came, GoesOn, known_by, last_reacted, item}
use Rattle.msg_code.specs.declared.talk.NoteNews.TheVariants as news
use Rattle.msg_code.specs.declared.talk.WordNews.{WordNews}
use Rattle.msg_code.specs.declared.talk.WordNews.TheVariants as word
use Rattle.trigger_group.specs.declared.order.End.TheVariants.{Endstop}
use Rattle.trigger_group.specs.Kept.{group_where}
use Rattle.axis_homing.specs.Homing.{homing_of, homing_with}
use Rattle.motion_work.specs.Told.{tells_homed}
use Rattle.laws_board.proofs.clocks.Turning.{goes}
use Rattle.laws_homing.specs.home_runs.Words.{TellsHomed}
use Rattle.laws_homing.proofs.home_runs.Knowing.{cut_of, switch_answer}
use Rattle.laws_homing.specs.home_plans.Notes.{CameNotes, IsNoteOf, WasBegun}
use Rattle.laws_homing.proofs.home_plans.Knowing.{now_was}
use Rattle.laws_homing.proofs.home_plans.Starting.{StartAt, note_starts}
use Rattle.laws_homing.specs.home_parts.Answers.{AreOfTurns, TellNone, TellsIn}
use Rattle.plan_types.proofs.Facts.{none_some}

-- words that tell of an answer
pub tells_so : (ns : List WordNews) → tells_homed ns ≡ true → TellsHomed ns
tells_so [] e = absurd (let f : false ≡ true = e in cc)
tells_so (word.Homed ∷ ns) e = tt
tells_so (word.Lines lines ∷ ns) e = tells_so ns e
tells_so (word.Line b line ∷ ns) e = tells_so ns e

pub so_tells : (ns : List WordNews) → TellsHomed ns → tells_homed ns ≡ true
so_tells [] t = absurd t
so_tells (word.Homed ∷ ns) t = refl
so_tells (word.Lines lines ∷ ns) t = so_tells ns t
so_tells (word.Line b line ∷ ns) t = so_tells ns t

-- what news that begin sections of one start make known
homing_start : (m : Machine) (section turn last moving : ℕ) (kind : SectionKind) (h : Homing) → homing_of m section kind turn last moving ≡ Some h → h.start ≡ turn
homing_start m section turn last moving Moves h e = absurd (let f : None ≡ Some h = e in cc)
homing_start m section turn last moving (Home axis) h e = by (group_where (members_from m (axis_at m axis) moving 0 m.boards) turn last) e
  where
    by : (o : Option GroupState) → homing_with section axis turn o ≡ Some h → h.start ≡ turn
    by None f = absurd (let g : None ≡ Some h = f in cc)
    by (Some group) f = let same : record { section = section; axis = axis; start = turn; group = group } ≡ h = cc in sym (ap (λ (x : Homing). x.start) same)

told_start : (m : Machine) (at : ℕ) (ns : List NoteNews) (r : Known) (h : Homing) → StartAt at ns → (told_all m ns r).homing ≡ Some h → (h.start ≡ at) ⊎ (r.homing ≡ Some h)
told_start m at [] r h a e = inr e
told_start m at (news.Start section kind turn last moving ∷ ns) r h a e = elim (told_start m at ns (known_behind m r (news.Start section kind turn last moving)) h a.1 e) [
  | inl same ↦ inl same
  | inr now ↦ inl (homing_start m section turn last moving kind h now ∙ a.0)
]
told_start m at (news.Done section turn ∷ ns) r h a e = told_start m at ns (known_behind m r (news.Done section turn)) h a e
told_start m at (news.Read end sections ∷ ns) r h a e = told_start m at ns (known_behind m r (news.Read end sections)) h a e
told_start m at (news.Line board line from ∷ ns) r h a e = told_start m at ns (known_behind m r (news.Line board line from)) h a e

noted_start : (m : Machine) (begun : List Started) (k : ℕ) (given : Option Note) (r : Known) (h : Homing) → IsNoteOf begun k given → (noted m given r).homing ≡ Some h → (h.start ≡ k + 259) ⊎ (r.homing ≡ Some h)
noted_start m begun zero given r h is e = inr (subst (λ (o : Option Note). (noted m o r).homing ≡ Some h) is e)
noted_start m begun (suc k) given r h is e =
    let here : (told_all m is.0.news r).homing ≡ Some h = subst (λ (o : Option Note). (noted m o r).homing ≡ Some h) is.2 e in
    elim (told_start m (k + 260) is.0.news r h (subst (λ (o : Option Note). StartAt (k + 260) (news_of o)) is.2 (note_starts begun k given is)) here) [ inl at ↦ inl (omega (arith, at)) | inr old ↦ inr old ]

-- the section behind a turn
after_by : (k : ℕ) (g h : Homing) (o : Option End) → goes_on_homing k g o ≡ Some h → (g.start ≡ h.start) × ((by_answer k g o).cut ≡ None)
after_by k g h None e = let same : record g { group = turned_group g.group k } ≡ h = cc in (ap (λ (x : Homing). x.start) same, refl)
after_by k g h (Some end) e = absurd (let f : None ≡ Some h = e in cc)

after_start : (clocks : List Clocks) (k : ℕ) (states : List State) (o : Option Homing) (h : Homing) → homing_after clocks k states o ≡ Some h → (g : Homing) × (o ≡ Some g) × (g.start ≡ h.start) × ((homing_turn clocks k states o).cut ≡ None)
after_start clocks k states None h e = absurd (let f : None ≡ Some h = e in cc)
after_start clocks k states (Some g) h e =
    let heard = hears_all clocks states g in
    let a = after_by k heard h (answer_in k heard.start heard.group) e in
    (g, refl, a.0, a.1)

-- before the note that begins it
none_early : (m : Machine) (switches : List Switch) (from to : ℕ) (came : List Came) → length came ≤ from → TellNone m switches from to came
none_early m switches from to [] low = tt
none_early m switches from to (c ∷ before) low = (λ late soon. absurd (omega (arith, late, low)), none_early m switches from to before (omega (arith, low)))

-- what a turn leaves known was known in it, and its word tells of no answer
record WasKnown (m : Machine) (switches : List Switch) (c : Came) (before : List Came) (h : Homing) : Type 0 where
  old : Homing
  is : (noted m c.note (known_by m switches before)).homing ≡ Some old
  start : old.start ≡ h.start
  none : TellsHomed (last_reacted m switches c before).ordered.word.news → ⊥

was_known : (m : Machine) (switches : List Switch) (c : Came) (before : List Came) (h : Homing) → (last_reacted m switches c before).ordered.end ≡ None → (known_by m switches (c ∷ before)).homing ≡ Some h → WasKnown m switches c before h
was_known m switches c before h g e =
    let r = known_by m switches before in
    let n = noted m c.note r in
    let k = length before in
    let x = last_reacted m switches c before in
    let Of : Reacted → Type 0 = λ y. y.known.homing ≡ Some h in
    let No : Reacted → Type 0 = λ y. TellsHomed y.ordered.word.news → ⊥ in
    elim (goes m switches r k c.states c.note g) [
      | inl a ↦ record { old = h; is = subst Of a.is e; start = refl; none = subst No (sym a.is) (λ t. t) }
      | inr later ↦ elim later [
        | inl a ↦ record { old = h; is = subst Of a.is e; start = refl; none = subst No (sym a.is) (λ t. t) }
        | inr a ↦
            let f = after_start n.clocks k c.states n.homing h (subst Of a.is e) in
            record {
              old = f.0;
              is = f.1;
              start = f.2;
              none = λ t. let cut = cut_of m n k c.states x a t in none_some cut.0 (sym f.3 ∙ cut.1);
            }
      ]
    ]

pub known_silent : (m : Machine) (switches : List Switch) (begun : List Started) (c : Came) (before : List Came) (h : Homing) (from to : ℕ) → GoesOn m switches before → CameNotes begun (c ∷ before)
    → (noted m c.note (known_by m switches before)).homing ≡ Some h → h.start ≤ from + 259 → TellNone m switches from to before
known_silent m switches begun c [] h from to g notes e late = tt
known_silent m switches begun c (d ∷ before) h from to g notes e late = elim (noted_start m begun (length (d ∷ before)) c.note (known_by m switches (d ∷ before)) h notes.0 e) [
  | inl at ↦ none_early m switches from to (d ∷ before) (omega (arith, at, late))
  | inr old ↦
      let w = was_known m switches d before h g.0 old in
      let same = w.start in
      (λ far soon. w.none, known_silent m switches begun d before w.old from to g.1 notes.1 w.is (omega (arith, same, late)))
]

-- a word that tells of an answer
pub answer_late : (k start : ℕ) (g : GroupState) (end : End) → answer_in k start g ≡ Some end → start ≤ k
answer_late k start g end e = elim (leb_tells start k) [ inl p ↦ p.1 | inr p ↦ absurd (none_some end (rw p.0 at e)) ]

pub tells_known : (m : Machine) (switches : List Switch) (c : Came) (before : List Came) → (last_reacted m switches c before).ordered.end ≡ None → TellsHomed (last_reacted m switches c before).ordered.word.news
    → (h : Homing) × ((noted m c.note (known_by m switches before)).homing ≡ Some h) × (h.start ≤ length before)
tells_known m switches c before g t =
    let r = known_by m switches before in
    let n = noted m c.note r in
    let k = length before in
    let x = last_reacted m switches c before in
    let So : Reacted → Type 0 = λ y. TellsHomed y.ordered.word.news in
    elim (goes m switches r k c.states c.note g) [
      | inl a ↦ absurd (subst So a.is t)
      | inr later ↦ elim later [ inl a ↦ absurd (subst So a.is t) | inr a ↦ let cut = cut_of m n k c.states x a t in by n.homing refl cut.0 cut.1 ]
    ]
  where
    by : (o : Option Homing) → (noted m c.note (known_by m switches before)).homing ≡ o → (tick : ℕ)
        → (homing_turn (noted m c.note (known_by m switches before)).clocks (length before) c.states (noted m c.note (known_by m switches before)).homing).cut ≡ Some tick
        → (h : Homing) × ((noted m c.note (known_by m switches before)).homing ≡ Some h) × (h.start ≤ length before)
    by None e tick cut =
        let clocks = (noted m c.note (known_by m switches before)).clocks in
        let is : (homing_turn clocks (length before) c.states None).cut ≡ Some tick = subst (λ (o : Option Homing). (homing_turn clocks (length before) c.states o).cut ≡ Some tick) e cut in
        absurd (none_some tick is)
    by (Some h) e tick cut =
        let clocks = (noted m c.note (known_by m switches before)).clocks in
        let heard = hears_all clocks c.states h in
        let is : (homing_turn clocks (length before) c.states (Some h)).cut ≡ Some tick = subst (λ (o : Option Homing). (homing_turn clocks (length before) c.states o).cut ≡ Some tick) e cut in
        (h, e, answer_late (length before) heard.start heard.group (Endstop tick) (switch_answer (length before) tick heard (answer_in (length before) heard.start heard.group) is))

-- turns that tell
pub tells_low : (m : Machine) (switches : List Switch) (j : ℕ) (came : List Came) → TellsIn m switches j came → j < length came
tells_low m switches j [] t = absurd t
tells_low m switches j (c ∷ before) (inl t) = let at = t.0 in omega (arith, at)
tells_low m switches j (c ∷ before) (inr t) = let low = tells_low m switches j before t in omega (arith, low)

pub none_tells : (m : Machine) (switches : List Switch) (from to j : ℕ) (came : List Came) → TellNone m switches from to came → from ≤ j → j < to → TellsIn m switches j came → ⊥
none_tells m switches from to j [] n late soon t = t
none_tells m switches from to j (c ∷ before) n late soon (inl t) = let at = t.0 in n.0 (omega (arith, late, at)) (omega (arith, soon, at)) t.1
none_tells m switches from to j (c ∷ before) n late soon (inr t) = none_tells m switches from to j before n.1 late soon t

-- the section of which a turn tells: it has started, and no word told of an answer since the note that began it
pub record IsToldOf (m : Machine) (switches : List Switch) (begun : List Started) (j : ℕ) (came : List Came) : Type 0 where
  pub past : List Started
  pub s : Started
  pub later : List Started
  pub axis : ℕ
  pub cut : begun ≡ past ++ s ∷ later
  pub home : s.section.kind ≡ Home axis
  pub late : s.start ≤ j
  pub none : (i : ℕ) → s.start ≤ i + 259 → i < j → TellsIn m switches i came → ⊥

pub told_at : (m : Machine) (switches : List Switch) (begun : List Started) (j : ℕ) (came : List Came) → GoesOn m switches came → CameNotes begun came → TellsIn m switches j came → IsToldOf m switches begun j came
told_at m switches begun j [] g notes t = absurd t
told_at m switches begun j (c ∷ before) g notes (inl t) =
    let known = tells_known m switches c before g.0 t.1 in
    let Was : Option Homing → Type 0 = λ o. WasBegun begun o in
    let was : WasBegun begun (Some known.0) = subst Was known.1 (now_was m switches begun c before g.1 notes) in
    let at = t.0 in
    let start = was.6 in
    let late = known.2 in
    record {
      past = was.0;
      s = was.1;
      later = was.2;
      axis = was.3;
      cut = was.4;
      home = was.5;
      late = omega (arith, at, start, late);
      none = λ i from soon other. elim other [
        | inl u ↦ let same = u.0 in omega (arith, same, at, soon)
        | inr u ↦ none_tells m switches i (suc i) i before (known_silent m switches begun c before known.0 i (suc i) g.1 notes known.1 (omega (arith, from, start))) (omega arith) (omega arith) u
      ];
    }
told_at m switches begun j (c ∷ before) g notes (inr t) =
    let r = told_at m switches begun j before g.1 notes.1 t in
    let low = tells_low m switches j before t in
    record {
      past = r.past;
      s = r.s;
      later = r.later;
      axis = r.axis;
      cut = r.cut;
      home = r.home;
      late = r.late;
      none = λ i from soon other. elim other [ inl u ↦ let same = u.0 in omega (arith, same, low, soon) | inr u ↦ r.none i from soon u ];
    }

-- the words of turns
pub word_tells : (m : Machine) (switches : List Switch) (words : List WordMsg) (j : ℕ) (came : List Came) (w : WordMsg) → AreOfTurns m switches words came → j < length came → item j words ≡ w ∷ [] → tells_homed w.news ≡ true → TellsIn m switches j came
word_tells m switches words j [] w a low is tells = absurd (omega (arith, low))
word_tells m switches words j (c ∷ before) w a low is tells = elim (leb_tells (suc j) (length before)) [
  | inl p ↦ inr (word_tells m switches words j before w a.1 p.1 is tells)
  | inr p ↦
      let far = p.1 in
      let at : length before ≡ j = omega (arith, far, low) in
      let same = a.0 w (ap (λ i. item i words) at ∙ is) in
      inl (at, subst (λ (x : WordMsg). TellsHomed x.news) same (tells_so w.news tells))
]

pub turn_tells : (m : Machine) (switches : List Switch) (words : List WordMsg) (j : ℕ) (came : List Came) (w : WordMsg) → AreOfTurns m switches words came → TellsIn m switches j came → item j words ≡ w ∷ [] → tells_homed w.news ≡ true
turn_tells m switches words j [] w a t is = absurd t
turn_tells m switches words j (c ∷ before) w a (inl t) is =
    let same = a.0 w (ap (λ i. item i words) t.0 ∙ is) in
    so_tells w.news (subst (λ (x : WordMsg). TellsHomed x.news) (sym same) t.1)
turn_tells m switches words j (c ∷ before) w a (inr t) is = turn_tells m switches words j before w a.1 t is

-- a section is known from the note that begins it on
pub known_start : (m : Machine) (switches : List Switch) (begun : List Started) (c : Came) (before : List Came) (h : Homing) → GoesOn m switches before → CameNotes begun (c ∷ before) → (noted m c.note (known_by m switches before)).homing ≡ Some h
    → h.start ≤ length before + 259
known_start m switches begun c [] h g notes e = elim (noted_start m begun 0 c.note (known_by m switches []) h notes.0 e) [ inl at ↦ omega (arith, at) | inr old ↦ absurd (none_some h old) ]
known_start m switches begun c (d ∷ before) h g notes e = elim (noted_start m begun (length (d ∷ before)) c.note (known_by m switches (d ∷ before)) h notes.0 e) [
  | inl at ↦ omega (arith, at)
  | inr old ↦
      let w = was_known m switches d before h g.0 old in
      let same = w.start in
      let low = known_start m switches begun d before w.old g.1 notes.1 w.is in
      omega (arith, same, low)
]
