-- Turns that are clear stay so.
use Rattle.std.proofs.Common.{◌≡◌, ℕ, ◌+◌, ◌<◌, ◌≤◌, All, Bool, true, false, max, List, [], ◌∷◌, ◌++◌, length, get_or, append-nil, length-append, refl, ap, sym, subst, ◌∙◌, arith, inl, inr}
use Rattle.std.proofs.Math.Logic.{∥∥₁_elim}
use Rattle.std.proofs.Props.{props}
use Rattle.std.proofs.lemmas.Bool.Decides.{eqb_tells}
use Rattle.std.proofs.lemmas.List.Elements.{All-head, All-nil, All-tail}
use Rattle.std.specs.Prelude.{Option, Some, None}
use Rattle.plan_types.specs.Sections.{first_start}
use Rattle.msg_code.specs.declared.talk.Note.{Note}
use Rattle.msg_code.specs.declared.talk.NoteNews.{NoteNews}
use Rattle.msg_code.specs.declared.talk.NoteNews.TheVariants as news
use Rattle.msg_code.specs.declared.talk.WordMsg.{WordMsg}
use Rattle.msg_code.specs.declared.unit.Batch.{Batch}
use Rattle.plan_types.specs.declared.machine.Machine.{Machine}
use Rattle.plan_types.specs.Lines.{Clocks}
use Rattle.motion_work.specs.Further.{AreFurther, noted_lines, told_on}
use Rattle.motion_work.specs.Puts.{IsPut, IsReadNews, Put, begun_notes}
use Rattle.motion_work.specs.Seen.{AreStarted, Started, ready_after}
use Rattle.motion_work.specs.Told.{Told, heard, told_at, told_of}
use Rattle.motion_work.specs.Turns.{done_notes}
use Rattle.motion_work.proofs.Putting.{started_last, begun_before}
use Rattle.motion_work.proofs.Turning.{none_behind}
use Rattle.motion_stream.specs.declared.course.Course.{Course}
use Rattle.motion_stream.specs.Clear.{EndsOutside, IsClearTo, tells_sections}
use Rattle.motion_stream.specs.Courses.{IsCourseOf, KnowsConnecting}
use Rattle.motion_stream.specs.Motions.{CanTurnPlanner, IsMore, IsPlannerOf, Makes, Planner, begun_with, ended_in, going_with, read_on, with_answer, with_lines, with_word}
use Rattle.motion_stream.specs.Puts.{ArePutBy, HaveBegun, IsSeenBehind}
use Rattle.motion_stream.specs.Seen.{AreWhole, Going, Seen, count_of, sections_in}
use Rattle.motion_stream.specs.Texts.{MayBecome}
use Rattle.motion_stream.specs.Wholes.{AreOf, IsToldOf}
use Rattle.motion_stream.proofs.Drawing.{whole_none}
use Rattle.motion_stream.proofs.Laying.{answer_whole, heard_none, none_going, sooner_text, sooner_whole}
use Rattle.motion_stream.proofs.Planning.{split_last, told_all}
use Rattle.motion_stream.proofs.Wholing.{are_there}
use Rattle.plan_types.proofs.Facts.{some_same, none_is_some}

-- a piece of the text
pub text_clear : (m : Machine) (seen : Seen) (bytes : List ℕ) (end : Bool) (going : Option Going) (n : ℕ) → IsMore seen.going going → IsClearTo m seen n → IsClearTo m (read_on seen bytes end going) n
text_clear m seen bytes end going n more cl = record {
  ends = λ all w. cl.ends all (sooner_whole m seen.told seen.next seen.begun all seen.going going more w);
  begins = λ t whole all others s told may w e. cl.begins t whole all others s told (sooner_text seen.ended end seen.text bytes whole may) (sooner_whole m seen.told seen.next seen.begun all seen.going going more w) e;
  unheard = cl.unheard;
}

-- lines that a word tells
first_late : (next turn : ℕ) (o : Option (List Clocks)) (t : Told) → told_at (max next turn) o ≡ Some t → next + 260 ≤ t.first
first_late next turn None t e = absurd (none_is_some e)
first_late next turn (Some clocks) t e = (let f : first_start (max next turn) ≡ t.first = ap (λ (x : Told). x.first) (some_same (record { first = first_start (max next turn); clocks = clocks }) t e) in omega (arith, f))

lines_clear : (m : Machine) (c : Course) (seen : Seen) (w : WordMsg) (n : ℕ) (told : Option Told) → seen.told ≡ told → KnowsConnecting m c told seen.begun seen.going → IsClearTo m seen n → IsClearTo m (with_lines m seen w) n
lines_clear m c seen w n (Some t) e h cl =
    let same : heard m seen.next w seen.told ≡ seen.told = ap (heard m seen.next w) e ∙ sym e in
    record {
      ends = λ all a. cl.ends all (subst (λ o. AreWhole m o seen.next seen.begun seen.going all) same a);
      begins = λ u whole all others s told may a is. cl.begins u whole all others s (sym same ∙ told) may (subst (λ o. AreWhole m o seen.next seen.begun seen.going all) same a) is;
      unheard = λ none. cl.unheard (sym same ∙ none);
    }
lines_clear m c seen w n None e h cl =
    let le = cl.unheard e in
    let is : (all : List Started) → AreWhole m (heard m seen.next w seen.told) seen.next seen.begun seen.going all → all ≡ [] = λ all a. whole_none m (heard m seen.next w seen.told) seen.next seen.begun all seen.going h.2 a ∙ h.1 in
    record {
      ends = λ all a. subst (All (EndsOutside seen.next n)) (sym (is all a)) (All-nil (EndsOutside seen.next n));
      begins = λ u whole all others s told may a x. (let f = first_late seen.next w.turn (told_of m w) u (sym (ap (heard m seen.next w) e) ∙ told) in let r = ap (ready_after u.first) (is all a) in omega (arith, le, f, r));
      unheard = λ none. le;
    }

-- an answer
answer_clear : (p : Planner) (seen : Seen) (w : WordMsg) (n : ℕ) → (seen.told ≡ None → seen.going ≡ None) → IsClearTo p.machine seen n → IsClearTo p.machine (with_answer p.machine seen w) n
answer_clear p seen w n none cl =
    let m = p.machine in
    let was : (all : List Started) → AreWhole m seen.told seen.next (begun_with seen.begun (ended_in m seen w)) (going_with seen.going (ended_in m seen w)) all → AreWhole m seen.told seen.next seen.begun seen.going all = answer_whole m seen w none in
    record {
      ends = λ all a. cl.ends all (was all a);
      begins = λ t whole all others s told may a e. cl.begins t whole all others s told may (was all a) e;
      unheard = cl.unheard;
    }

pub word_clear : (p : Planner) (seen : Seen) (w : WordMsg) (n : ℕ) → IsPlannerOf p seen → IsClearTo p.machine seen n → IsClearTo p.machine (with_word p.machine seen w) n
word_clear p seen w n h cl =
    let c = answer_clear p (with_lines p.machine seen w) w n (heard_none p.machine seen.next w seen.told seen.going (none_going p.machine p.course seen.told seen.begun seen.going h.told)) (lines_clear p.machine p.course seen w n seen.told refl h.told cl) in
    record { ends = c.ends; begins = c.begins; unheard = c.unheard }

-- a turn
whole_count : (m : Machine) (told : Option Told) (next : ℕ) (begun all : List Started) (going : Option Going) → AreWhole m told next begun going all → length all ≡ count_of begun going
whole_count m told next begun all None w = ap length w
whole_count m None next begun all (Some g) w = absurd w
whole_count m (Some t) next begun all (Some g) w = ap length w.1 ∙ length-append begun (w.0 ∷ [])

pub own_text : (ended : Bool) (text : List ℕ) → MayBecome ended text text
own_text true text = refl
own_text false text = ([], sym (append-nil text))

-- further lines change nothing else of what is known
told_first : (ns : List NoteNews) (o : Option Told) (t : Told) → told_on ns o ≡ Some t → (u : Told) × (o ≡ Some u) × (u.first ≡ t.first)
told_first ns None t e = absurd (let f : None ≡ Some t = e in cc)
told_first ns (Some u) t e = (u, refl, ap (λ (x : Told). x.first) (some_same (record { first = u.first; clocks = noted_lines ns u.clocks }) t e))

told_none : (ns : List NoteNews) (o : Option Told) → told_on ns o ≡ None → o ≡ None
told_none ns None e = refl
told_none ns (Some u) e = absurd (none_is_some (sym e))

-- no section is begun in a turn that is clear
not_begun : (m : Machine) (c : Course) (seen next : Seen) (k n : ℕ) (ns : List NoteNews) → IsCourseOf m c next → IsSeenBehind m seen next k ns → IsClearTo m seen n → k < n → count_of next.begun next.going ≡ count_of seen.begun seen.going
not_begun m c seen next k n ns h is cl lt = ∥∥₁_elim (are_there P next next.text h (own_text next.ended next.text)) (hlevel props) (λ w. ∥∥₁_elim (told_all P next next.text w.0 next.told next.going refl refl h h.told w.1.may.sections w.1) (hlevel props) (λ told. by_told next.told refl w.0 w.1 told)) where
  P : Planner
  P = record { machine = m; course = c }

  started : (t : Told) (old : List Started) (s : Started) → AreStarted m t.clocks t.first (old ++ s ∷ []) → s.start ≡ ready_after t.first old + s.section.dwell
  started t old s a = (started_last m t.clocks t.first old s a).start

  by_told : (told : Option Told) → next.told ≡ told → (all : List Started) → AreOf m next next.text all → IsToldOf m next.told all → count_of next.begun next.going ≡ count_of seen.begun seen.going
  by_told told e all of is_told =
      let g = is.grown all of.may.sections in
      let one = whole_count m next.told next.next next.begun all next.going of.may.sections in
      let two = whole_count m seen.told seen.next seen.begun g.old seen.going g.whole in
      elim g.are [
        | inl same ↦ sym one ∙ ap length same ∙ two
        | inr new ↦ absurd (never_new told e all of is_told g.old g.whole new.0 new.1 new.2.start)
      ]
    where
      never_new : (told : Option Told) → next.told ≡ told → (all : List Started) → AreOf m next next.text all → IsToldOf m next.told all → (old : List Started) → AreWhole m seen.told seen.next seen.begun seen.going old → (s : Started) → all ≡ old ++ s ∷ [] → s.start ≡ k + 260 → ⊥
      never_new None e all of is_told old w s are start = none_behind old s (sym (subst (λ o. IsToldOf m o all) e is_told) ∙ are)
      never_new (Some t) e all of is_told old w s are start =
          let a = (subst (λ o. IsToldOf m o all) e is_told).0 in
          let at = started t old s (subst (AreStarted m t.clocks t.first) are a) in
          let may : MayBecome seen.ended seen.text next.text = subst (λ x. MayBecome x seen.text next.text) is.ended (subst (λ (x : List ℕ). MayBecome next.ended x next.text) is.text (own_text next.ended next.text)) in
          let z = told_first ns seen.told t (sym is.told ∙ e) in
          let low = cl.begins z.0 next.text old of.others s.section z.1 may w (split_last m old s all next.text of.others are of.sections) in
          let r = ap (λ x. ready_after x old) z.2 in
          omega (arith, low, at, start, lt, r)

behind_clear : (m : Machine) (c : Course) (seen next : Seen) (k n : ℕ) (ns : List NoteNews) → k ≡ seen.next → IsCourseOf m c next → IsSeenBehind m seen next k ns → IsClearTo m seen n → k < n → IsClearTo m next n
behind_clear m c seen next k n ns at h is cl lt = record {
  ends = λ all w. (let o = same all w in subst (All (EndsOutside next.next n)) (sym o.2) (λ i d l. later (get_or o.0 i d) (cl.ends o.0 o.1 i d l)));
  begins = λ t whole all others s told may w e.
      let o = same all w in
      let z = told_first ns seen.told t (sym is.told ∙ told) in
      let low = cl.begins z.0 whole o.0 others s z.1 (subst (λ x. MayBecome x seen.text whole) is.ended (subst (λ (x : List ℕ). MayBecome next.ended x whole) is.text may)) o.1 (e ∙ ap (λ (b : List Started). sections_in b ++ s ∷ others) o.2) in
      let r = ap (ready_after t.first) o.2 in
      let f = ap (λ x. ready_after x o.0) z.2 in
      omega (arith, low, r, f);
  unheard = λ e. (let u = cl.unheard (told_none ns seen.told (sym is.told ∙ e)) in let a = is.next in omega (arith, u, a));
} where
  counts : count_of next.begun next.going ≡ count_of seen.begun seen.going
  counts = not_begun m c seen next k n ns h is cl lt

  same : (all : List Started) → AreWhole m next.told next.next next.begun next.going all → (old : List Started) × AreWhole m seen.told seen.next seen.begun seen.going old × (all ≡ old)
  same all w =
      let g = is.grown all w in
      let one = whole_count m next.told next.next next.begun all next.going w in
      let two = whole_count m seen.told seen.next seen.begun g.old seen.going g.whole in
      (g.old, g.whole, elim g.are [ inl e ↦ e | inr new ↦ absurd (let l = ap length new.1 ∙ length-append g.old (new.0 ∷ []) in omega (arith, l, one, two, counts)) ])

  later : (s : Started) → EndsOutside seen.next n s → EndsOutside next.next n s
  later s o = elim o [ inl before ↦ inl (let a = is.next in omega (arith, before, a)) | inr le ↦ inr le ]

-- the note of a turn that is clear
no_done : (k n i : ℕ) (all : List Started) → k < n → All (EndsOutside k n) all → done_notes k i all ≡ []
no_done k n i [] lt h = refl
no_done k n i (s ∷ all) lt h = elim (eqb_tells s.end k) [
  | inl p ↦ absurd (let e = p.1 in elim (All-head (EndsOutside k n) s all h) [ inl before ↦ omega (arith, before, e) | inr le ↦ omega (arith, le, e, lt) ])
  | inr p ↦ rw p.0 (no_done k n (i + 1) all lt (All-tail (EndsOutside k n) s all h))
]

further_none : (k : ℕ) (ns : List NoteNews) → AreFurther k ns → tells_sections ns ≡ false
further_none k [] h = refl
further_none k (news.Line board line from ∷ ns) h = further_none k ns h.1
further_none k (news.Start section kind turn last moving ∷ ns) h = absurd h
further_none k (news.Done section turn ∷ ns) h = absurd h
further_none k (news.Read end sections ∷ ns) h = absurd h

read_none : (m : Machine) (whole : List ℕ) (ns more : List NoteNews) (k : ℕ) → IsReadNews m whole ns → AreFurther k more → tells_sections (ns ++ more) ≡ false
read_none m whole ns more k h f = elim h [ inl e ↦ ap (λ x. tells_sections (x ++ more)) e ∙ further_none k more f | inr e ↦ ap (λ x. tells_sections (x ++ more)) e ∙ further_none k more f ]

pub turn_clear : (p q : Planner) (seen : Seen) (ps : List Put) (k n : ℕ) (batches : List Batch) (note : Note) → IsPlannerOf p seen → ArePutBy p.machine seen ps → CanTurnPlanner p k → Makes p k batches note q → IsClearTo p.machine seen n → k < n
    → (next : Seen) × IsPlannerOf q next × IsClearTo q.machine next n × (tells_sections note.news ≡ false)
turn_clear p q seen ps k n batches note h put can makes cl lt =
    let m = p.machine in
    let t = makes.1 seen h in
    let next = t.0 in
    let at : k ≡ seen.next = sym can.next ∙ h.next in
    let P : Planner = record { machine = m; course = q.course } in
    let counts = not_begun m q.course seen next k n note.news t.3 t.1 cl lt in
    let cl' = behind_clear m q.course seen next k n note.news at t.3 t.1 cl lt in
    let text : (whole : List ℕ) → MayBecome next.ended next.text whole → MayBecome seen.ended seen.text whole = λ whole may. subst (λ e. MayBecome e seen.text whole) t.1.ended (subst (λ (x : List ℕ). MayBecome next.ended x whole) t.1.text may) in
    let quiet : tells_sections note.news ≡ false = ∥∥₁_elim (are_there P next next.text t.3 (own_text next.ended next.text)) (hlevel props) (λ w.
    let all = w.0 in
    let may = w.1.may in
    let begun : HaveBegun m seen k = λ other o. subst (λ x. All (λ (s : Started). s.start < x + 260) other) (sym at) (put.started next.text other (record { text = text next.text may.text; sections = o })) in
    let one : IsPut m next.text all k (record { batches = batches; note = note }) = t.2 begun next.text all may in
    let g = t.1.grown all may.sections in
    let same : all ≡ g.old = (let a = whole_count m next.told next.next next.begun all next.going may.sections in let b = whole_count m seen.told seen.next seen.begun g.old seen.going g.whole in elim g.are [ inl e ↦ e | inr new ↦ absurd (let l = ap length new.1 ∙ length-append g.old (new.0 ∷ []) in omega (arith, l, a, b, counts)) ]) in
    let ends : All (EndsOutside k n) all = subst (All (EndsOutside k n)) (sym same) (subst (λ x. All (EndsOutside x n) g.old) (sym at) (cl.ends g.old g.whole)) in
    let early : All (λ (s : Started). s.start < k + 260) all = subst (All (λ (s : Started). s.start < k + 260)) (sym same) (begun g.old g.whole) in
    let rest = one.read ++ one.further in
    let is : note.news ≡ rest = one.news_are ∙ ap (λ x. x ++ (begun_notes k 0 all ++ rest)) (no_done k n 0 all lt ends) ∙ ap (λ x. x ++ rest) (begun_before k 0 all early) in
    ap tells_sections is ∙ read_none m next.text one.read one.further k one.is_read one.are_further) in
    (next, subst (λ x. IsCourseOf x q.course next) (sym makes.0) t.3, subst (λ x. IsClearTo x next n) (sym makes.0) cl', quiet)
