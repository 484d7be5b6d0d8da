-- The homing section that the reactor knows was begun by a note of the planner.
use Rattle.std.proofs.Common.{◌≡◌, ℕ, zero, suc, ◌+◌, ◌==◌, Bool, true, false, cond, List, [], ◌∷◌, ◌++◌, length, map, Option, Some, None, refl, ap, sym, ◌∙◌, subst, inl, inr, append_assoc, length-append, arith, rules}
use Rattle.laws_board.proofs.Names.{Machine, SectionKind, Home, Moves, Clocks, axis_at, Note, NoteNews, State, Switch, End, Member, phase, unseen, Homing, answer_in, goes_on_homing, hears_all, homing_after, members_from, Started, Known, noted, known_behind, told_all, Reacted, Came, GoesOn, known_by}
use Rattle.msg_code.specs.declared.talk.NoteNews.TheVariants as news
use Rattle.trigger_group.specs.Group.{new_group}
use Rattle.trigger_group.specs.Kept.{may_be}
use Rattle.axis_homing.specs.Homing.{homing_of, homing_with}
use Rattle.motion_work.specs.Puts.{begun_notes}
use Rattle.motion_work.specs.Turns.{done_notes}
use Rattle.laws_board.proofs.clocks.Controls.{states_start}
use Rattle.laws_board.proofs.clocks.Turning as turning
use Rattle.laws_homing.proofs.home_runs.Knowing.{all_none}
use Rattle.laws_homing.specs.home_plans.Notes.{CameNotes, IsNoteOf, WasBegun}
use Rattle.laws_homing.proofs.home_plans.Noting.{done_none}
use Rattle.laws_homing.proofs.clear_boards.Keeping.{hears_keep}
use Rattle.trigger_group.proofs.Knows.{after_last}
use Rattle.axis_homing.proofs.Starts.{in_start}
use Rattle.laws_board.proofs.plans.Beginning.{all_append}

-- one of some sections
abbrev Is : List Started → ℕ → SectionKind → ℕ → ℕ → Type 0
Is begun i kind turn last = (past : List Started) × (s : Started) × (later : List Started) × (begun ≡ past ++ s ∷ later) × (kind ≡ s.section.kind) × (turn ≡ s.start) × (i ≡ length past) × (last ≡ s.last)

-- news that begin such sections alone
abbrev AreOf : List Started → List NoteNews → Type 0
AreOf begun [] = Unit {0}
AreOf begun (news.Start section kind turn last moving ∷ ns) = Is begun section kind turn last × AreOf begun ns
AreOf begun (n ∷ ns) = AreOf begun ns

of_if : (c : Bool) (begun : List Started) (i last moving : ℕ) (kind : SectionKind) (turn : ℕ) (ns : List NoteNews) → Is begun i kind turn last → AreOf begun ns → AreOf begun (cond c (news.Start i kind turn last moving ∷ ns) ns)
of_if true begun i last moving kind turn ns is a = (is, a)
of_if false begun i last moving kind turn ns is a = a

notes_of : (begun : List Started) (k i : ℕ) (past ss : List Started) → begun ≡ past ++ ss → i ≡ length past → AreOf begun (begun_notes k i ss)
notes_of begun k i past [] e at = tt
notes_of begun k i past (s ∷ ss) e at =
    of_if (s.start == k + 260) begun i s.last s.moving s.section.kind s.start (begun_notes k (i + 1) ss) (past, s, ss, e, refl, refl, at, refl)
    (notes_of begun k (i + 1) (past ++ s ∷ []) ss (e ∙ sym (append_assoc past (s ∷ []) ss)) (let more = length-append past (s ∷ []) in omega (arith, at, more)))

-- what such news make known
with_if : (c : Bool) (begun : List Started) (section axis turn start last : ℕ) (ms : List Member) (past : List Started) (s : Started) (later : List Started) → begun ≡ past ++ s ∷ later → s.section.kind ≡ Home axis → turn ≡ s.start → start ≡ s.start → section ≡ length past → last ≡ s.last
    → WasBegun begun (homing_with section axis turn (cond c (Some (new_group ms start last)) None))
with_if true begun section axis turn start last ms past s later e kind at also number end = (past, s, later, axis, e, kind, at, also, number, refl, end)
with_if false begun section axis turn start last ms past s later e kind at also number end = tt

of_kind : (m : Machine) (begun : List Started) (section turn last moving : ℕ) (kind : SectionKind) → Is begun section kind turn last → WasBegun begun (homing_of m section kind turn last moving)
of_kind m begun section turn last moving kind p7 = search (rules, members_from, axis_at, with_if, unseen)

told_was : (m : Machine) (begun : List Started) (ns : List NoteNews) (r : Known) → AreOf begun ns → WasBegun begun r.homing → WasBegun begun (told_all m ns r).homing
told_was m begun [] r a w = w
told_was m begun (news.Start section kind turn last moving ∷ ns) r a w = told_was m begun ns (known_behind m r (news.Start section kind turn last moving)) a.1 (of_kind m begun section turn last moving kind a.0)
told_was m begun (news.Done section turn ∷ ns) r a w = told_was m begun ns (known_behind m r (news.Done section turn)) a w
told_was m begun (news.Read x sections ∷ ns) r a w = told_was m begun ns (known_behind m r (news.Read x sections)) a w
told_was m begun (news.Line board line from ∷ ns) r a w = told_was m begun ns (known_behind m r (news.Line board line from)) a w

pub noted_was : (m : Machine) (begun : List Started) (k : ℕ) (given : Option Note) (r : Known) → IsNoteOf begun k given → WasBegun begun r.homing → WasBegun begun (noted m given r).homing
noted_was m begun zero given r is w = subst (λ (o : Option Note). WasBegun begun (noted m o r).homing) (sym is) w
noted_was m begun (suc k) given r is w =
    let done = done_notes k 0 begun in
    let starts = begun_notes k 0 begun in
    let first = told_all m done r in
    let one : WasBegun begun first.homing = subst (λ (o : Option Homing). WasBegun begun o) (sym (all_none m done r (done_none k 0 begun))) w in
    let two = told_was m begun starts first (notes_of begun k 0 [] begun refl refl) one in
    let three : WasBegun begun (told_all m is.1 (told_all m starts first)).homing = subst (λ (o : Option Homing). WasBegun begun o) (sym (all_none m is.1 (told_all m starts first) is.4)) two in
    let same : told_all m is.0.news r ≡ told_all m is.1 (told_all m starts first) =
    ap (λ (l : List NoteNews). told_all m l r) is.3 ∙ all_append m done (starts ++ is.1) r ∙ all_append m starts is.1 first in
    subst (λ (o : Option Note). WasBegun begun (noted m o r).homing) (sym is.2) (subst (λ (x : Known). WasBegun begun x.homing) (sym same) three)

goes_was : (begun : List Started) (k : ℕ) (h : Homing) (o : Option End) → WasBegun begun (Some h) → WasBegun begun (goes_on_homing k h o)
goes_was begun k h None w = (w.0, w.1, w.2, w.3, w.4, w.5, w.6, in_start (phase h.group.start h.group.last k) h.group k ∙ w.7, w.8, w.9, after_last h.group k ∙ w.10)
goes_was begun k h (Some end) w = tt

after_was : (begun : List Started) (clocks : List Clocks) (k : ℕ) (states : List State) (o : Option Homing) → WasBegun begun o → WasBegun begun (homing_after clocks k states o)
after_was begun clocks k states o p5 = search (rules, hears_all, goes_was, answer_in, states_start, hears_keep)

pub known_was : (m : Machine) (switches : List Switch) (begun : List Started) (came : List Came) → GoesOn m switches came → CameNotes begun came → WasBegun begun (known_by m switches came).homing
known_was m switches begun [] g notes = tt
known_was m switches begun (c ∷ before) g notes =
    let known = known_by m switches before in
    let n = noted m c.note known in
    let was = noted_was m begun (length before) c.note known notes.0 (known_was m switches begun before g.1 notes.1) in
    let So : Reacted → Type 0 = λ y. WasBegun begun y.known.homing in
    elim (turning.goes m switches known (length before) c.states c.note g.0) [
      | inl x ↦ subst So (sym x.is) was
      | inr later ↦ elim later [ inl x ↦ subst So (sym x.is) was | inr x ↦ subst So (sym x.is) (after_was begun n.clocks (length before) c.states n.homing was) ]
    ]

pub now_was : (m : Machine) (switches : List Switch) (begun : List Started) (c : Came) (before : List Came) → GoesOn m switches before → CameNotes begun (c ∷ before) → WasBegun begun (noted m c.note (known_by m switches before)).homing
now_was m switches begun c before g notes = noted_was m begun (length before) c.note (known_by m switches before) notes.0 (known_was m switches begun before g notes.1)
