-- Which section the reactor knows to be begun, by the planner's notes.
use Rattle.std.proofs.Common.{◌≡◌, ℕ, suc, Bool, ◌+◌, ◌<◌, ◌≤◌, List, [], ◌∷◌, ◌++◌, Option, Some, None, refl, ap, sym, ◌∙◌, subst, arith, inl, inr, append-nil, rules}
use Rattle.laws_board.proofs.Names.{leb_tells, eqb_tells, Machine, Clocks, Note, NoteNews, Known, noted, known_behind, told_all, AreStarted, Started}
use Rattle.std.specs.Prelude.{◌==◌, nat_lt, if◌then◌else◌}
use Rattle.msg_code.specs.declared.talk.NoteNews.TheVariants as news
use Rattle.report_text.specs.declared.line.ReportLine.TheVariants as report
use Rattle.host_reactor.specs.declared.ordered.Begun.{Begun}
use Rattle.host_reactor.specs.Report.{section_line}
use Rattle.motion_work.specs.Further.{AreFurther}
use Rattle.motion_work.specs.Puts.{IsReadNews, begun_notes}
use Rattle.motion_work.specs.Turns.{done_notes}
use Rattle.motion_work.proofs.Turning.{planned_late}
use Rattle.laws_board.specs.plans.Lines.{starts_at}

abbrev begun_of : ℕ → Started → Begun
begun_of i s = record { section = i; kind = s.section.kind; turn = s.start }

-- the last section that is begun by a turn, behind one that was begun before
abbrev pub upto : ℕ → ℕ → List Started → Option Begun → Option Begun
upto k i [] b = b
upto k i (s ∷ ss) b = if nat_lt s.start (k + 260) then upto k (i + 1) ss (Some (begun_of i s)) else b

-- sections that start 260 turns one behind the other, the first one in a turn or later
abbrev pub Spread : ℕ → List Started → Type 0
Spread x [] = Unit {0}
Spread x (s ∷ ss) = (x ≤ s.start) × Spread (s.start + 260) ss

pub spread_of : (m : Machine) (clocks : List Clocks) (ready x : ℕ) (ss : List Started) → AreStarted m clocks ready ss → x ≤ ready → Spread x ss
spread_of m clocks ready x [] a h = tt
spread_of m clocks ready x (s ∷ ss) a h =
    let start = a.0.start in
    let late = planned_late s.section.kind m clocks s a.0.planned in
    (omega (arith, start, h), spread_of m clocks (s.end + 260) (s.start + 260) ss a.1 (omega (arith, late)))

-- what the notes of a turn make of it
abbrev pub latest : ℕ → ℕ → List Started → Option Begun → Option Begun
latest k i [] b = b
latest k i (s ∷ ss) b = if s.start == k + 260 then latest k (i + 1) ss (Some (begun_of i s)) else latest k (i + 1) ss b

pub all_append : (m : Machine) (xs ys : List NoteNews) (r : Known) → told_all m (xs ++ ys) r ≡ told_all m ys (told_all m xs r)
all_append m [] ys r = refl
all_append m (x ∷ xs) ys r = all_append m xs ys (known_behind m r x)

done_keeps : (m : Machine) (k i : ℕ) (ss : List Started) (r : Known) → (told_all m (done_notes k i ss) r).begun ≡ r.begun
done_keeps m k i [] r = refl
done_keeps m k i (s ∷ ss) r =
    elim (eqb_tells s.end k) [
      | inl p ↦ rw p.0 (done_keeps m k (i + 1) ss (known_behind m r (news.Done i k)))
      | inr p ↦ rw p.0 (done_keeps m k (i + 1) ss r)
    ]

read_keeps : (m : Machine) (text : List ℕ) (ns : List NoteNews) (r : Known) → IsReadNews m text ns → (told_all m ns r).begun ≡ r.begun
read_keeps m text ns r (inl e) = ap (λ x. (told_all m x r).begun) e
read_keeps m text ns r (inr e) = ap (λ x. (told_all m x r).begun) e

further_keeps : (m : Machine) (k : ℕ) (ns : List NoteNews) (r : Known) → AreFurther k ns → (told_all m ns r).begun ≡ r.begun
further_keeps m k [] r h = refl
further_keeps m k (news.Line board line from ∷ ns) r h = further_keeps m k ns (known_behind m r (news.Line board line from)) h.1
further_keeps m k (news.Start section kind turn last moving ∷ ns) r h = absurd h
further_keeps m k (news.Done section turn ∷ ns) r h = absurd h
further_keeps m k (news.Read end sections ∷ ns) r h = absurd h

begun_sets : (m : Machine) (k i : ℕ) (ss : List Started) (r : Known) → (told_all m (begun_notes k i ss) r).begun ≡ latest k i ss r.begun
begun_sets m k i [] r = refl
begun_sets m k i (s ∷ ss) r =
    elim (eqb_tells s.start (k + 260)) [
      | inl p ↦ rw p.0 (begun_sets m k (i + 1) ss (known_behind m r (news.Start i s.section.kind s.start s.last s.moving)))
      | inr p ↦ rw p.0 (begun_sets m k (i + 1) ss r)
    ]

-- the note of a turn
pub note_begins : (m : Machine) (text : List ℕ) (k : ℕ) (ss : List Started) (note : Note) (read further : List NoteNews) (r : Known) → IsReadNews m text read → AreFurther k further
    → note.news ≡ done_notes k 0 ss ++ (begun_notes k 0 ss ++ (read ++ further)) → (noted m (Some note) r).begun ≡ latest k 0 ss r.begun
note_begins m text k ss note read further r is are e = search (rules, told_all, all_append, further_keeps, read_keeps, begun_sets, done_keeps)

latest_none : (k i x : ℕ) (ss : List Started) (b : Option Begun) → Spread x ss → k + 260 < x → latest k i ss b ≡ b
latest_none k i x [] b s h = refl
latest_none k i x (t ∷ ss) b s h =
    elim (eqb_tells t.start (k + 260)) [
      | inl p ↦ absurd (omega (arith, p.1, s.0, h))
      | inr p ↦ rw p.0 (latest_none k (i + 1) (t.start + 260) ss b s.1 (omega (arith, s.0, h)))
    ]

upto_none : (k i x : ℕ) (ss : List Started) (b : Option Begun) → Spread x ss → k + 260 ≤ x → upto k i ss b ≡ b
upto_none k i x [] b s h = refl
upto_none k i x (t ∷ ss) b s h = elim (leb_tells (suc t.start) (k + 260)) [ inl p ↦ absurd (omega (arith, p.1, s.0, h)) | inr p ↦ rw p.0 refl ]

pub upto_next : (k i x : ℕ) (ss : List Started) (b : Option Begun) → Spread x ss → latest k i ss (upto k i ss b) ≡ upto (k + 1) i ss b
upto_next k i x [] b s = refl
upto_next k i x (t ∷ ss) b s =
    elim (leb_tells (suc t.start) (k + 260)) [
      | inl p ↦ elim (eqb_tells t.start (k + 260)) [
        | inl q ↦ absurd (omega (arith, p.1, q.1))
        | inr q ↦ elim (leb_tells (suc t.start) (k + 1 + 260)) [
          | inl r ↦ rw (p.0, q.0, r.0) (upto_next k (i + 1) (t.start + 260) ss (Some (begun_of i t)) s.1)
          | inr r ↦ absurd (omega (arith, p.1, r.1))
        ]
      ]
      | inr p ↦ elim (eqb_tells t.start (k + 260)) [
        | inl q ↦ elim (leb_tells (suc t.start) (k + 1 + 260)) [
          | inl r ↦
              let some : Option Begun = Some (begun_of i t) in
              let none = latest_none k (i + 1) (t.start + 260) ss some s.1 (omega (arith, q.1)) in
              let still = upto_none (k + 1) (i + 1) (t.start + 260) ss some s.1 (omega (arith, q.1)) in
              rw (p.0, q.0, r.0) (none ∙ sym still)
          | inr r ↦ absurd (omega (arith, q.1, r.1))
        ]
        | inr q ↦ elim (leb_tells (suc t.start) (k + 1 + 260)) [
          | inl r ↦ absurd (omega (arith, p.1, q.1, r.1))
          | inr r ↦ rw (p.0, q.0, r.0) (latest_none k (i + 1) (t.start + 260) ss b s.1 (omega (arith, p.1, q.1)))
        ]
      ]
    ]

pub upto_first : (x : ℕ) (ss : List Started) → Spread x ss → 260 ≤ x → upto 0 0 ss None ≡ None
upto_first x ss s h = upto_none 0 0 x ss None s (omega (arith, h))

-- the line of a section in a turn
none_at : (k i x : ℕ) (ss : List Started) → Spread x ss → k < x → starts_at k i ss ≡ []
none_at k i x [] s h = refl
none_at k i x (t ∷ ss) s h =
    elim (eqb_tells t.start k) [
      | inl p ↦ absurd (omega (arith, p.1, s.0, h))
      | inr p ↦ rw p.0 (none_at k (i + 1) (t.start + 260) ss s.1 (omega (arith, s.0, h)))
    ]

-- an earlier section has no line in this turn
abbrev Earlier : ℕ → Option Begun → Type 0
Earlier x None = Unit {0}
Earlier x (Some b) = b.turn + 260 ≤ x

no_line : (k x : ℕ) (b : Option Begun) → Earlier x b → x < k + 260 → section_line k b ≡ []
no_line k x None e h = refl
no_line k x (Some b) e h = elim (eqb_tells b.turn k) [ inl p ↦ absurd (omega (arith, p.1, e, h)) | inr p ↦ rw p.0 refl ]

own_line : (k i : ℕ) (t : Started) → section_line k (Some (begun_of i t)) ≡ (if t.start == k then report.Section i k t.section.kind ∷ [] else [])
own_line k i t = elim (eqb_tells t.start k) [ inl p ↦ rw p.0 (ap (λ n. report.Section i n t.section.kind ∷ []) p.1) | inr p ↦ rw p.0 refl ]

line_is : (k i x : ℕ) (ss : List Started) (b : Option Begun) → Spread x ss → Earlier x b → section_line k (upto k i ss b) ≡ section_line k b ++ starts_at k i ss
line_is k i x [] b s e = sym (append-nil (section_line k b))
line_is k i x (t ∷ ss) b s e =
    let more = starts_at k (i + 1) ss in
    elim (leb_tells (suc t.start) (k + 260)) [
      | inl p ↦
          let rest = line_is k (i + 1) (t.start + 260) ss (Some (begun_of i t)) s.1 (omega arith) in
          let none = no_line k x b e (omega (arith, p.1, s.0)) in
          let own : (if t.start == k then report.Section i k t.section.kind ∷ [] else []) ≡ section_line k (Some (begun_of i t)) = sym (own_line k i t) in
          let At : Bool → Type 0 = λ c. section_line k (if c then upto k (i + 1) ss (Some (begun_of i t)) else b) ≡ section_line k b ++ starts_at k i (t ∷ ss) in
          subst At (sym p.0) (rest ∙ ap (λ y. y ++ more) (sym own) ∙ ap (λ y. y ++ starts_at k i (t ∷ ss)) (sym none))
      | inr p ↦
          let At : Bool → Type 0 = λ c. section_line k (if c then upto k (i + 1) ss (Some (begun_of i t)) else b) ≡ section_line k b ++ starts_at k i (t ∷ ss) in
          let here : starts_at k i (t ∷ ss) ≡ [] = none_at k i t.start (t ∷ ss) (omega arith, s.1) (omega (arith, p.1)) in
          subst At (sym p.0) (sym (ap (λ y. section_line k b ++ y) here ∙ append-nil (section_line k b)))
    ]

pub first_line_is : (k x : ℕ) (ss : List Started) → Spread x ss → section_line k (upto k 0 ss None) ≡ starts_at k 0 ss
first_line_is k x ss s = line_is k 0 x ss None s tt
