-- The lines of the reactor's turns, section by section.
use Rattle.std.proofs.Common.{◌≡◌, ℕ, ◌+◌, ◌<◌, ◌≤◌, All, List, [], ◌∷◌, ◌++◌, length, map, Option, Some, None, refl, ap, sym, ◌∙◌, subst, arith, inl, inr, append_assoc, append-nil}
use Rattle.laws_board.proofs.Names.{eqb_tells, flat_map-append, All-head, All-tail, Machine, Pulse, Note, NoteNews, State, ReportLine, flat_map, Switch, Known, noted, news_of, known_behind, told_all, reacts, first_lines, machine_line, Came, known_by, Started, MotionTurn, ReactorTurn}
use Rattle.msg_code.specs.declared.talk.NoteNews.TheVariants as news
use Rattle.report_text.specs.declared.line.ReportLine.TheVariants as report
use Rattle.host_reactor.specs.declared.ordered.Begun.{Begun}
use Rattle.host_reactor.specs.Report.{drift_line, drift_lines, pulse_at, pulse_line, pulse_lines, stepper_place, section_line}
use Rattle.motion_work.specs.Puts.{ArePut}
use Rattle.laws_board.specs.plans.Lines.{AreLinesOf, TellTurns, TellsTurn, TookEach, TookNotes, came_in, head_in, heads_of, pulse_in, pulses_of, starts_at}
use Rattle.laws_board.specs.plans.Planned.{puts_of}
use Rattle.laws_board.proofs.plans.Shaping.{ArePlain, IsPlain, shaped}
use Rattle.laws_board.proofs.plans.Beginning.{Spread, first_line_is, latest, note_begins, upto, upto_first, upto_next}

-- plain lines
one_plain : (place : ℕ) (l : ReportLine) → IsPlain l → (head_in l ≡ []) × (pulse_in place l ≡ [])
one_plain place (report.Section section turn kind) p = absurd p
one_plain place (report.Pulse board stepper tick up) p = absurd p
one_plain place _ p = (refl, refl)

plain_heads : (lines : List ReportLine) → ArePlain lines → heads_of lines ≡ []
plain_heads [] p = refl
plain_heads (l ∷ lines) p = ap (λ x. x ++ heads_of lines) (one_plain 0 l p.0).0 ∙ plain_heads lines p.1

plain_pulses : (place : ℕ) (lines : List ReportLine) → ArePlain lines → pulses_of place lines ≡ []
plain_pulses place [] p = refl
plain_pulses place (l ∷ lines) p = ap (λ x. x ++ pulses_of place lines) (one_plain place l p.0).1 ∙ plain_pulses place lines p.1

drift_plain : (n : NoteNews) → ArePlain (drift_line n)
drift_plain (news.Line board line from) = (tt, tt)
drift_plain c = tt

plain_both : (xs ys : List ReportLine) → ArePlain xs → ArePlain ys → ArePlain (xs ++ ys)
plain_both [] ys a b = b
plain_both (x ∷ xs) ys a b = (a.0, plain_both xs ys a.1 b)

drifts_plain : (ns : List NoteNews) → ArePlain (drift_lines ns)
drifts_plain [] = tt
drifts_plain (n ∷ ns) = plain_both (drift_line n) (drift_lines ns) (drift_plain n) (drifts_plain ns)

-- pulses begin no section
pub heads_append : (xs ys : List ReportLine) → heads_of (xs ++ ys) ≡ heads_of xs ++ heads_of ys
heads_append xs ys = flat_map-append head_in xs ys

pub pulses_append : (place : ℕ) (xs ys : List ReportLine) → pulses_of place (xs ++ ys) ≡ pulses_of place xs ++ pulses_of place ys
pulses_append place xs ys = flat_map-append (pulse_in place) xs ys

no_head : (m : Machine) (b : ℕ) (p : Pulse) (o : Option ℕ) → heads_of (pulse_at m b p o) ≡ []
no_head m b p None = refl
no_head m b p (Some place) = refl

no_heads : (m : Machine) (b : ℕ) (ps : List Pulse) → heads_of (flat_map (pulse_line m b) ps) ≡ []
no_heads m b [] = refl
no_heads m b (p ∷ ps) =
    heads_append (pulse_line m b p) (flat_map (pulse_line m b) ps) ∙ ap (λ x. x ++ heads_of (flat_map (pulse_line m b) ps)) (no_head m b p (stepper_place 0 b p.stepper m.steppers)) ∙ no_heads m b ps

states_no_heads : (m : Machine) (b : ℕ) (states : List State) → heads_of (pulse_lines m b states) ≡ []
states_no_heads m b [] = refl
states_no_heads m b (s ∷ states) =
    heads_append (flat_map (pulse_line m b) s.pulses) (pulse_lines m (b + 1) states) ∙ ap (λ x. x ++ heads_of (pulse_lines m (b + 1) states)) (no_heads m b s.pulses) ∙ states_no_heads m (b + 1) states

-- a turn of the reactor, by what is known to be begun in it
turn_tells : (m : Machine) (switches : List Switch) (ss : List Started) (x k : ℕ) (before : List Came) (t : ReactorTurn) (r : Known) → Spread x ss → length before ≡ k
    → t.lines ≡ (reacts m switches r (length before) t.states t.note).ordered.lines → (noted m t.note r).begun ≡ upto k 0 ss None → TellsTurn m ss k t
turn_tells m switches ss x k before t r spread long lines begun =
    let s = noted m t.note r in
    let n = length before in
    let h = shaped m switches r n t.states t.note in
    let drift = drift_lines (news_of t.note) in
    let pulses = pulse_lines m 0 t.states in
    let rest = (drift ++ pulses) ++ h.extra in
    let starts : section_line k s.begun ≡ starts_at k 0 ss = ap (section_line k) begun ∙ first_line_is k x ss spread in
    let first : first_lines m s k (news_of t.note) t.states ≡ machine_line m k ++ (starts_at k 0 ss ++ (drift ++ pulses)) = ap (λ y. machine_line m k ++ (y ++ (drift ++ pulses))) starts in
    let plain = drifts_plain (news_of t.note) in
    record {
      rest = rest;
      are = lines ∙ h.are ∙ ap (λ i. first_lines m s i (news_of t.note) t.states ++ h.extra) long ∙ ap (λ y. y ++ h.extra) first
          ∙ append_assoc (machine_line m k) (starts_at k 0 ss ++ (drift ++ pulses)) h.extra ∙ ap (λ y. machine_line m k ++ y) (append_assoc (starts_at k 0 ss) (drift ++ pulses) h.extra);
      heads = heads_append (drift ++ pulses) h.extra ∙ ap (λ y. y ++ heads_of h.extra) (heads_append drift pulses ∙ ap (λ y. y ++ heads_of pulses) (plain_heads drift plain) ∙ states_no_heads m 0 t.states)
          ∙ plain_heads h.extra h.plain;
      pulses = λ place.
          pulses_append place (drift ++ pulses) h.extra ∙ ap (λ y. pulses_of place (drift ++ pulses) ++ y) (plain_pulses place h.extra h.plain) ∙ append-nil (pulses_of place (drift ++ pulses))
          ∙ pulses_append place drift pulses ∙ ap (λ y. y ++ pulses_of place pulses) (plain_pulses place drift plain);
    }

-- which section was begun is known by that which was known to be, and the note
all_begun : (m : Machine) (ns : List NoteNews) (r q : Known) → r.begun ≡ q.begun → (told_all m ns r).begun ≡ (told_all m ns q).begun
all_begun m [] r q e = e
all_begun m (news.Start section kind turn last moving ∷ ns) r q e = all_begun m ns (known_behind m r (news.Start section kind turn last moving)) (known_behind m q (news.Start section kind turn last moving)) refl
all_begun m (news.Done section turn ∷ ns) r q e = all_begun m ns (known_behind m r (news.Done section turn)) (known_behind m q (news.Done section turn)) e
all_begun m (news.Read end sections ∷ ns) r q e = all_begun m ns (known_behind m r (news.Read end sections)) (known_behind m q (news.Read end sections)) e
all_begun m (news.Line board line from ∷ ns) r q e = all_begun m ns (known_behind m r (news.Line board line from)) (known_behind m q (news.Line board line from)) e

note_begun : (m : Machine) (note : Option Note) (r q : Known) → r.begun ≡ q.begun → (noted m note r).begun ≡ (noted m note q).begun
note_begun m None r q e = e
note_begun m (Some note) r q e = all_begun m note.news r q e

-- what is known behind it
known_then : (m : Machine) (switches : List Switch) (before : List Came) (t : ReactorTurn) → (known_by m switches (came_in t ∷ before)).begun ≡ (noted m t.note (known_by m switches before)).begun
known_then m switches before t = (shaped m switches (known_by m switches before) (length before) t.states t.note).begun

-- the notes of some turns, from one on, begin the sections that start 260 turns behind them
abbrev pub Begin : Machine → List Started → ℕ → List Note → Type 0
Begin m ss k [] = Unit {0}
Begin m ss k (n ∷ notes) = ((r : Known) → (noted m (Some n) r).begun ≡ latest k 0 ss r.begun) × Begin m ss (k + 1) notes

pub put_begin : (m : Machine) (text : List ℕ) (ss : List Started) (k : ℕ) (made : List MotionTurn) → ArePut m text ss k (puts_of made) → Begin m ss k (map (λ t. t.note) made)
put_begin m text ss k [] put = tt
put_begin m text ss k (d ∷ made) put =
    let one = put.0 in
    (λ r. note_begins m text k ss d.note one.read one.further r one.is_read one.are_further one.news_are, put_begin m text ss (k + 1) made put.1)

-- one that tells nothing does where no section starts so late
latest_late : (k i : ℕ) (ss : List Started) (b : Option Begun) → All (λ s. s.start < k + 260) ss → latest k i ss b ≡ b
latest_late k i [] b soon = refl
latest_late k i (s ∷ ss) b soon =
    let here = All-head (λ (y : Started). y.start < k + 260) s ss soon in
    elim (eqb_tells s.start (k + 260)) [ inl p ↦ absurd (let at = p.1 in omega (arith, here, at)) | inr p ↦ rw p.0 (latest_late k (i + 1) ss b (All-tail (λ (y : Started). y.start < k + 260) s ss soon)) ]

pub begin_snoc : (m : Machine) (ss : List Started) (k : ℕ) (notes : List Note) (n : Note) → Begin m ss k notes → n.news ≡ [] → All (λ s. s.start < k + length notes + 260) ss → Begin m ss k (notes ++ n ∷ [])
begin_snoc m ss k [] n begin none soon =
    let same : k + 0 + 260 ≡ k + 260 = omega arith in
    let Soon : ℕ → Type 0 = λ j. All (λ (s : Started). s.start < j) ss in
    (λ r. ap (λ z. (told_all m z r).begun) none ∙ sym (latest_late k 0 ss r.begun (subst Soon same soon)), tt)
begin_snoc m ss k (x ∷ notes) n begin none soon =
    let same : k + length (x ∷ notes) + 260 ≡ k + 1 + length notes + 260 = omega arith in
    let Soon : ℕ → Type 0 = λ j. All (λ (s : Started). s.start < j) ss in
    (begin.0, begin_snoc m ss (k + 1) notes n begin.1 none (subst Soon same soon))

-- the later turns
each_tells : (m : Machine) (switches : List Switch) (ss : List Started) (x k : ℕ) (notes : List Note) (rs : List ReactorTurn) (before : List Came) → Spread x ss → length before ≡ k + 1
    → (known_by m switches before).begun ≡ upto k 0 ss None → Begin m ss k notes → TookEach notes rs → AreLinesOf m switches before rs → TellTurns m ss (k + 1) rs
each_tells m switches ss x k notes [] before spread long begun begin took lines = tt
each_tells m switches ss x k [] (t ∷ rs) before spread long begun begin took lines = absurd took
each_tells m switches ss x k (n ∷ notes) (t ∷ rs) before spread long begun begin took lines =
    let r = known_by m switches before in
    let noted_as : (noted m t.note r).begun ≡ (noted m (Some n) r).begun = ap (λ o. (noted m o r).begun) took.0 in
    let now : (noted m t.note r).begun ≡ upto (k + 1) 0 ss None = noted_as ∙ begin.0 r ∙ ap (latest k 0 ss) begun ∙ upto_next k 0 x ss None spread in (
      turn_tells m switches ss x (k + 1) before t lines.0.0 spread long lines.0.2 (note_begun m t.note lines.0.0 r lines.0.1 ∙ now),
      each_tells m switches ss x (k + 1) notes rs (came_in t ∷ before) spread (omega (arith, long)) (known_then m switches before t ∙ now) begin.1 took.1 lines.1,
    )

-- all turns
pub notes_tell : (m : Machine) (switches : List Switch) (ss : List Started) (x : ℕ) (notes : List Note) (rs : List ReactorTurn) → Spread x ss → 260 ≤ x → Begin m ss 0 notes → TookNotes notes rs → AreLinesOf m switches [] rs → TellTurns m ss 0 rs
notes_tell m switches ss x notes [] spread late begin took lines = tt
notes_tell m switches ss x notes (t ∷ rs) spread late begin took lines =
    let none : (noted m t.note (known_by m switches [])).begun ≡ None = ap (λ o. (noted m o (known_by m switches [])).begun) took.0 in
    let now = none ∙ sym (upto_first x ss spread late) in (
      turn_tells m switches ss x 0 [] t lines.0.0 spread refl lines.0.2 (note_begun m t.note lines.0.0 (known_by m switches []) lines.0.1 ∙ now),
      each_tells m switches ss x 0 notes rs (came_in t ∷ []) spread refl (known_then m switches [] t ∙ now) begin took.1 lines.1,
    )

pub all_tell : (m : Machine) (switches : List Switch) (text : List ℕ) (ss : List Started) (x : ℕ) (made : List MotionTurn) (rs : List ReactorTurn) → Spread x ss → 260 ≤ x → ArePut m text ss 0 (puts_of made)
    → TookNotes (map (λ t. t.note) made) rs → AreLinesOf m switches [] rs → TellTurns m ss 0 rs
all_tell m switches text ss x made rs spread late put took lines = notes_tell m switches ss x (map (λ (t : MotionTurn). t.note) made) rs spread late (put_begin m text ss 0 made put) took lines
