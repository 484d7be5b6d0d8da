-- How many sections ended, by the planner's notes.
use Rattle.std.proofs.Common.{◌≡◌, ◌≢◌, ◌⊎◌, ℕ, suc, ◌+◌, ◌<◌, ◌≤◌, List, [], ◌∷◌, ◌++◌, All, length, map, Option, Some, None, refl, ap, sym, ◌∙◌, subst, arith, inl, inr}
use Rattle.laws_board.proofs.Names.{eqb_tells, leb_tells, All-cons, All-head, All-nil, All-tail, Machine, Note, NoteNews, Switch, Known, noted, known_behind, told_all, Came, known_by, Started, MotionTurn, ReactorTurn}
use Rattle.std.specs.Prelude.{◌==◌, if◌then◌else◌, nat_lt}
use Rattle.gcode_program.specs.Programs.{program_sections}
use Rattle.msg_code.specs.declared.talk.NoteNews.TheVariants as news
use Rattle.host_reactor.specs.declared.ordered.Reading.{Reading}
use Rattle.motion_work.specs.Further.{AreFurther}
use Rattle.motion_work.specs.Puts.{ArePut, IsReadNews, begun_notes}
use Rattle.motion_work.specs.Seen.{AreOut}
use Rattle.motion_work.specs.Turns.{done_notes}
use Rattle.laws_board.specs.plans.Lines.{TookEach, TookNotes, came_in}
use Rattle.laws_board.specs.plans.Planned.{puts_of}
use Rattle.session_run.specs.Boards.{came_from}
use Rattle.laws_run.specs.run_ends.Ends.{Counts, ended_by, reading_of}
use Rattle.laws_run.proofs.run_ends.Keeping.{keeps}
use Rattle.laws_board.proofs.plans.Beginning.{all_append}

-- how many end in a turn
abbrev ending_at : ℕ → List Started → ℕ
ending_at k [] = 0
ending_at k (s ∷ ss) = (if s.end == k then 1 else 0) + ending_at k ss

one_by : (e k : ℕ) → (if nat_lt e (k + 1) then 1 else 0) ≡ (if nat_lt e k then 1 else 0) + (if e == k then 1 else 0)
one_by e k = elim (leb_tells (suc e) k) [
  | inl p ↦ elim (eqb_tells e k) [
    | inl q ↦ absurd (omega (arith, p.1, q.1))
    | inr q ↦ elim (leb_tells (suc e) (k + 1)) [ inl r ↦ rw (p.0, q.0, r.0) refl | inr r ↦ absurd (omega (arith, p.1, r.1)) ]
  ]
  | inr p ↦ elim (eqb_tells e k) [
    | inl q ↦ elim (leb_tells (suc e) (k + 1)) [ inl r ↦ rw (p.0, q.0, r.0) refl | inr r ↦ absurd (omega (arith, q.1, r.1)) ]
    | inr q ↦ elim (leb_tells (suc e) (k + 1)) [ inl r ↦ absurd (q.1 (omega (arith, p.1, r.1))) | inr r ↦ rw (p.0, q.0, r.0) refl ]
  ]
]

by_next : (k : ℕ) (ss : List Started) → ended_by (k + 1) ss ≡ ended_by k ss + ending_at k ss
by_next k [] = refl
by_next k (s ∷ ss) = let one = one_by s.end k in let rest = by_next k ss in omega (arith, one, rest)

-- the notes of ends
done_few : (m : Machine) (k i : ℕ) (ss : List Started) (r : Known) → (told_all m (done_notes k i ss) r).done ≤ r.done + ending_at k ss
done_few m k i [] r = omega arith
done_few m k i (s ∷ ss) r = elim (eqb_tells s.end k) [
  | inl p ↦ let rest = done_few m k (i + 1) ss (known_behind m r (news.Done i k)) in rw p.0 (omega (arith, rest))
  | inr p ↦ let rest = done_few m k (i + 1) ss r in rw p.0 (omega (arith, rest))
]

-- the last end told
done_last : (m : Machine) (k i : ℕ) (ss : List Started) (r : Known) → ((told_all m (done_notes k i ss) r).ended ≡ k) ⊎ (((told_all m (done_notes k i ss) r).ended ≡ r.ended) × All (λ s. s.end ≢ k) ss)
done_last m k i [] r = inr (refl, All-nil (λ (s : Started). s.end ≢ k))
done_last m k i (s ∷ ss) r = elim (eqb_tells s.end k) [
  | inl p ↦ elim (done_last m k (i + 1) ss (known_behind m r (news.Done i k))) [ inl e ↦ rw p.0 (inl e) | inr e ↦ rw p.0 (inl e.0) ]
  | inr p ↦ elim (done_last m k (i + 1) ss r) [ inl e ↦ rw p.0 (inl e) | inr e ↦ rw p.0 (inr (e.0, All-cons (λ (x : Started). x.end ≢ k) s ss p.1 e.1)) ]
]

last_all : (k n : ℕ) (ss : List Started) → n ≡ k → All (λ s. s.end < k + 1 → s.end ≤ n) ss
last_all k n [] e = All-nil (λ (s : Started). s.end < k + 1 → s.end ≤ n)
last_all k n (s ∷ ss) e = All-cons (λ (x : Started). x.end < k + 1 → x.end ≤ n) s ss (λ h. omega (arith, h, e)) (last_all k n ss e)

last_same : (k n p : ℕ) (ss : List Started) → n ≡ p → All (λ s. s.end ≢ k) ss → All (λ s. s.end < k → s.end ≤ p) ss → All (λ s. s.end < k + 1 → s.end ≤ n) ss
last_same k n p [] e a h = All-nil (λ (s : Started). s.end < k + 1 → s.end ≤ n)
last_same k n p (s ∷ ss) e a h =
    let not_now = All-head (λ (x : Started). x.end ≢ k) s ss a in
    let old = All-head (λ (x : Started). x.end < k → x.end ≤ p) s ss h in
    All-cons (λ (x : Started). x.end < k + 1 → x.end ≤ n) s ss (λ l. elim (leb_tells (suc s.end) k) [
      | inl q ↦ let o = old q.1 in omega (arith, o, e)
      | inr q ↦ absurd (not_now (omega (arith, l, q.1)))
    ]) (last_same k n p ss e (All-tail (λ (x : Started). x.end ≢ k) s ss a) (All-tail (λ (x : Started). x.end < k → x.end ≤ p) s ss h))

done_read : (m : Machine) (k i : ℕ) (ss : List Started) (r : Known) → (told_all m (done_notes k i ss) r).reading ≡ r.reading
done_read m k i [] r = refl
done_read m k i (s ∷ ss) r = elim (eqb_tells s.end k) [ inl p ↦ rw p.0 (done_read m k (i + 1) ss (known_behind m r (news.Done i k))) | inr p ↦ rw p.0 (done_read m k (i + 1) ss r) ]

-- the notes of starts leave all this
abbrev Same : Known → Known → Type 0
Same r s = (s.done ≡ r.done) × (s.ended ≡ r.ended) × (s.reading ≡ r.reading)

begun_same : (m : Machine) (k i : ℕ) (ss : List Started) (r : Known) → Same r (told_all m (begun_notes k i ss) r)
begun_same m k i [] r = (refl, refl, refl)
begun_same m k i (s ∷ ss) r = elim (eqb_tells s.start (k + 260)) [
  | inl p ↦ rw p.0 (begun_same m k (i + 1) ss (known_behind m r (news.Start i s.section.kind s.start s.last s.moving)))
  | inr p ↦ rw p.0 (begun_same m k (i + 1) ss r)
]

-- and those of further clock lines
further_same : (m : Machine) (k : ℕ) (ns : List NoteNews) (r : Known) → AreFurther k ns → Same r (told_all m ns r)
further_same m k [] r h = (refl, refl, refl)
further_same m k (news.Line board line from ∷ ns) r h = further_same m k ns (known_behind m r (news.Line board line from)) h.1
further_same m k (news.Start section kind turn last moving ∷ ns) r h = absurd h
further_same m k (news.Done section turn ∷ ns) r h = absurd h
further_same m k (news.Read end sections ∷ ns) r h = absurd h

-- and that of the reading
abbrev ReadBy : Machine → List ℕ → Known → Type 0
ReadBy m text r = (r.reading ≡ None) ⊎ (r.reading ≡ Some (reading_of m text))

read_same : (m : Machine) (text : List ℕ) (ns : List NoteNews) (r : Known) → IsReadNews m text ns → ReadBy m text r → ((told_all m ns r).done ≡ r.done) × ((told_all m ns r).ended ≡ r.ended) × ReadBy m text (told_all m ns r)
read_same m text ns r (inl e) h =
    let At : List NoteNews → Type 0 = λ x. ((told_all m x r).done ≡ r.done) × ((told_all m x r).ended ≡ r.ended) × ReadBy m text (told_all m x r) in
    subst At (sym e) (refl, refl, h)
read_same m text ns r (inr e) h =
    let At : List NoteNews → Type 0 = λ x. ((told_all m x r).done ≡ r.done) × ((told_all m x r).ended ≡ r.ended) × ReadBy m text (told_all m x r) in
    subst At (sym e) (refl, refl, inr refl)

-- the note of a turn
note_counts : (m : Machine) (text : List ℕ) (k : ℕ) (ss : List Started) (note : Note) (read further : List NoteNews) (r : Known) → IsReadNews m text read → (read ≡ []) ⊎ AreOut (length m.boards) k (length (program_sections m text)) ss → AreFurther k further → note.news ≡ done_notes k 0 ss ++ (begun_notes k 0 ss ++ (read ++ further))
    → Counts m text ss k r → Counts m text ss (k + 1) (noted m (Some note) r)
note_counts m text k ss note read further r is out are e c =
    let first = told_all m (done_notes k 0 ss) r in
    let second = told_all m (begun_notes k 0 ss) first in
    let third = told_all m read second in
    let whole : told_all m note.news r ≡ told_all m further third =
    ap (λ x. told_all m x r) e ∙ all_append m (done_notes k 0 ss) (begun_notes k 0 ss ++ (read ++ further)) r ∙ all_append m (begun_notes k 0 ss) (read ++ further) first ∙ all_append m read further second in
    let on = further_same m k further third are in
    let begun = begun_same m k 0 ss first in
    let reading : second.reading ≡ r.reading = begun.2 ∙ done_read m k 0 ss r in
    let Read : Option _ → Type 0 = λ o. (o ≡ None) ⊎ (o ≡ Some (reading_of m text)) in
    let last = read_same m text read second is (subst Read (sym reading) c.reading) in
    let done : (noted m (Some note) r).done ≡ first.done = ap (λ (x : Known). x.done) whole ∙ on.0 ∙ last.0 ∙ begun.0 in
    let ended : (noted m (Some note) r).ended ≡ first.ended = ap (λ (x : Known). x.ended) whole ∙ on.1 ∙ last.1 ∙ begun.1 in
    let few = done_few m k 0 ss r in
    record {
      few = omega (arith, done, few, c.few, by_next k ss);
      behind = elim (done_last m k 0 ss r) [
        | inl f ↦ last_all k (noted m (Some note) r).ended ss (ended ∙ f)
        | inr f ↦ last_same k (noted m (Some note) r).ended r.ended ss (ended ∙ f.0) f.1 c.behind
      ];
      reading = subst Read (sym (ap (λ (x : Known). x.reading) whole ∙ on.2)) last.2;
      out = elim out [
        | inl none ↦
            let same : (noted m (Some note) r).reading ≡ r.reading = ap (λ (x : Known). x.reading) whole ∙ on.2 ∙ ap (λ ns. (told_all m ns second).reading) none ∙ reading in
            elim c.out [ inl e ↦ inl (same ∙ e) | inr o ↦ (let low = o.1 in inr (o.0, omega (arith, low), o.2)) ]
        | inr all ↦ inr (k, omega arith, all)
      ];
    }

-- the turns behind the first
kept_counts : (m : Machine) (text : List ℕ) (switches : List Switch) (ss : List Started) (k : ℕ) (before : List Came) (c : Came) → k ≤ length before → Counts m text ss k (noted m c.note (known_by m switches before))
    → Counts m text ss k (known_by m switches (c ∷ before))
kept_counts m text switches ss k before c late h =
    let r = known_by m switches before in
    let x = keeps m switches r (length before) c.states c.note in
    let Read : Option _ → Type 0 = λ o. (o ≡ None) ⊎ (o ≡ Some (reading_of m text)) in
    record {
      few = omega (arith, x.done, h.few);
      behind = elim x.ended [ inl e ↦ all_as k _ _ ss e h.behind | inr e ↦ all_late k _ ss (omega (arith, e, late)) ];
      reading = subst Read (sym x.reading) h.reading;
      out = elim h.out [ inl e ↦ inl (x.reading ∙ e) | inr o ↦ inr o ];
    }
  where
    all_as : (k n p : ℕ) (ss : List Started) → n ≡ p → All (λ s. s.end < k → s.end ≤ p) ss → All (λ s. s.end < k → s.end ≤ n) ss
    all_as k n p ss e h = subst (λ (q : ℕ). All (λ s. s.end < k → s.end ≤ q) ss) (sym e) h

    all_late : (k n : ℕ) (ss : List Started) → k ≤ n → All (λ s. s.end < k → s.end ≤ n) ss
    all_late k n [] l = All-nil (λ (s : Started). s.end < k → s.end ≤ n)
    all_late k n (s ∷ ss) l = All-cons (λ (x : Started). x.end < k → x.end ≤ n) s ss (λ h. omega (arith, h, l)) (all_late k n ss l)

-- what a turn knows behind the note of the planner's turn before it
pub took_counts : (m : Machine) (text : List ℕ) (switches : List Switch) (ss : List Started) (k : ℕ) (d : MotionTurn) (before : List Came) (note : Option Note) → note ≡ Some d.note
    → (read further : List NoteNews) → IsReadNews m text read → (read ≡ []) ⊎ AreOut (length m.boards) k (length (program_sections m text)) ss → AreFurther k further → d.note.news ≡ done_notes k 0 ss ++ (begun_notes k 0 ss ++ (read ++ further)) → Counts m text ss k (known_by m switches before) → Counts m text ss (k + 1) (noted m note (known_by m switches before))
took_counts m text switches ss k d before note e read further is out are news c =
    let r = known_by m switches before in
    let At : Option Note → Type 0 = λ o. Counts m text ss (k + 1) (noted m o r) in
    subst At (sym e) (note_counts m text k ss d.note read further r is out are news c)

-- turns up to one, and that one behind its note
pub each_counts : (m : Machine) (text : List ℕ) (switches : List Switch) (ss : List Started) (k : ℕ) (made : List MotionTurn) (rs : List ReactorTurn) (last : ReactorTurn) (before : List Came) → length before ≡ k + 1
    → Counts m text ss k (known_by m switches before) → ArePut m text ss k (puts_of made) → TookEach (map (λ t. t.note) made) (rs ++ last ∷ [])
    → Counts m text ss (k + length rs + 1) (noted m last.note (known_by m switches (came_from before rs)))
each_counts m text switches ss k [] [] last before long c put took = absurd took
each_counts m text switches ss k [] (t ∷ rs) last before long c put took = absurd took
each_counts m text switches ss k (d ∷ made) [] last before long c put took =
    let one = put.0 in
    let now = took_counts m text switches ss k d before last.note took.0 one.read one.further one.is_read one.out one.are_further one.news_are c in
    let number : k + 1 ≡ k + 0 + 1 = omega arith in
    let Number : ℕ → Type 0 = λ n. Counts m text ss n (noted m last.note (known_by m switches before)) in
    subst Number number now
each_counts m text switches ss k (d ∷ made) (t ∷ rs) last before long c put took =
    let one = put.0 in
    let now = took_counts m text switches ss k d before t.note took.0 one.read one.further one.is_read one.out one.are_further one.news_are c in
    let next = kept_counts m text switches ss (k + 1) before (came_in t) (omega (arith, long)) now in
    let number : k + 1 + length rs + 1 ≡ k + length (t ∷ rs) + 1 = omega arith in
    let Number : ℕ → Type 0 = λ n. Counts m text ss n (noted m last.note (known_by m switches (came_from (came_in t ∷ before) rs))) in
    subst Number number (each_counts m text switches ss (k + 1) made rs last (came_in t ∷ before) (omega (arith, long)) next put.1 took.1)

-- before any note nothing ended
none_by : (ss : List Started) (n : ℕ) → All (λ s. s.end < 0 → s.end ≤ n) ss
none_by [] n = All-nil (λ (s : Started). s.end < 0 → s.end ≤ n)
none_by (s ∷ ss) n = All-cons (λ (x : Started). x.end < 0 → x.end ≤ n) s ss (λ h. absurd (omega (arith, h))) (none_by ss n)

-- all turns of a run, of which the first takes no note
pub run_counts : (m : Machine) (text : List ℕ) (switches : List Switch) (ss : List Started) (made : List MotionTurn) (first : ReactorTurn) (rs : List ReactorTurn) (last : ReactorTurn) → ArePut m text ss 0 (puts_of made)
    → TookNotes (map (λ t. t.note) made) (first ∷ rs ++ last ∷ []) → Counts m text ss (length (first ∷ rs)) (noted m last.note (known_by m switches (came_from [] (first ∷ rs))))
run_counts m text switches ss made first rs last put took =
    let none : Counts m text ss 0 (noted m first.note (known_by m switches [])) =
    (let At : Option Note → Type 0 = λ o. Counts m text ss 0 (noted m o (known_by m switches [])) in
    subst At (sym took.0) (record { few = omega arith; behind = none_by ss (known_by m switches []).ended; reading = inl refl; out = inl refl })) in
    let now = kept_counts m text switches ss 0 [] (came_in first) (omega arith) none in
    let number : 0 + length rs + 1 ≡ length (first ∷ rs) = omega arith in
    let Number : ℕ → Type 0 = λ n. Counts m text ss n (noted m last.note (known_by m switches (came_from (came_in first ∷ []) rs))) in
    subst Number number (each_counts m text switches ss 0 made rs last (came_in first ∷ []) refl now put took.1)

-- what is known of the reading stays known
abbrev pub IsRead : Option Reading → Type 0
IsRead None = ⊥
IsRead (Some reading) = Unit {0}

told_read : (m : Machine) (ns : List NoteNews) (r : Known) → IsRead r.reading → IsRead (told_all m ns r).reading
told_read m [] r h = h
told_read m (news.Start section kind turn last moving ∷ ns) r h = told_read m ns (known_behind m r (news.Start section kind turn last moving)) h
told_read m (news.Done section turn ∷ ns) r h = told_read m ns (known_behind m r (news.Done section turn)) h
told_read m (news.Read end sections ∷ ns) r h = told_read m ns (known_behind m r (news.Read end sections)) tt
told_read m (news.Line board line from ∷ ns) r h = told_read m ns (known_behind m r (news.Line board line from)) h

pub read_note : (m : Machine) (note : Option Note) (r : Known) → IsRead r.reading → IsRead (noted m note r).reading
read_note m None r h = h
read_note m (Some note) r h = told_read m note.news r h

pub read_turn : (m : Machine) (switches : List Switch) (c : Came) (before : List Came) → IsRead (noted m c.note (known_by m switches before)).reading → IsRead (known_by m switches (c ∷ before)).reading
read_turn m switches c before h = subst IsRead (sym (keeps m switches (known_by m switches before) (length before) c.states c.note).reading) h
