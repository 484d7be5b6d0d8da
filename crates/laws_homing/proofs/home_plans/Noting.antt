-- The notes of a planner begin its homing sections.
use Rattle.std.proofs.Common.{◌≡◌, ℕ, zero, suc, ◌+◌, ◌-◌, ◌<◌, ◌≤◌, ◌==◌, Bool, true, false, cond, List, [], ◌∷◌, ◌++◌, length, map, Option, Some, None, refl, ap, sym, ◌∙◌, subst, arith, inl, inr}
use Rattle.laws_board.proofs.Names.{eq-eqb, eqb_tells, Machine, SectionKind, Home, axis_at, Note, NoteNews, Switch, Member, unseen, Homing, members_from, Started, Known, news_of, noted, known_behind, told_all, Came, known_by}
use Rattle.msg_code.specs.declared.talk.NoteNews.TheVariants as news
use Rattle.trigger_group.specs.Group.{new_group}
use Rattle.trigger_group.specs.Kept.{group_where, may_be}
use Rattle.axis_homing.specs.Homing.{homing_of, homing_with}
use Rattle.motion_work.specs.Puts.{begun_notes}
use Rattle.motion_work.specs.Turns.{done_notes}
use Rattle.laws_homing.specs.home_runs.Sections.{IsOf}
use Rattle.laws_homing.specs.home_runs.Words.{BeginsNone, IsBegunIn}
use Rattle.laws_homing.proofs.home_runs.Knowing.{all_none}
use Rattle.laws_homing.specs.home_plans.Notes.{CameNotes, IsNoteOf, IsSilentFrom}
use Rattle.laws_board.specs.plans.Rows.{AreInARow}
use Rattle.plan_types.proofs.Facts.{not_equal}
use Rattle.laws_board.proofs.plans.Beginning.{all_append}
use Rattle.axis_homing.proofs.Rises.{unseen-members}

pub none_both : (xs ys : List NoteNews) → BeginsNone xs → BeginsNone ys → BeginsNone (xs ++ ys)
none_both [] ys a b = b
none_both (news.Start section kind turn last moving ∷ xs) ys a b = absurd a
none_both (news.Done section turn ∷ xs) ys a b = none_both xs ys a b
none_both (news.Read x sections ∷ xs) ys a b = none_both xs ys a b
none_both (news.Line board line from ∷ xs) ys a b = none_both xs ys a b

done_if : (c : Bool) (i k : ℕ) (ns : List NoteNews) → BeginsNone ns → BeginsNone (cond c (news.Done i k ∷ ns) ns)
done_if true i k ns b = b
done_if false i k ns b = b

pub done_none : (k i : ℕ) (ss : List Started) → BeginsNone (done_notes k i ss)
done_none k i [] = tt
done_none k i (s ∷ ss) = done_if (s.end == k) i k (done_notes k (i + 1) ss) (done_none k (i + 1) ss)

skip : (k i : ℕ) (s : Started) (ss : List Started) → (s.start ≡ k + 260 → ⊥) → begun_notes k i (s ∷ ss) ≡ begun_notes k (i + 1) ss
skip k i s ss d =
    ap (λ (c : Bool). cond c (news.Start i s.section.kind s.start s.last s.moving ∷ begun_notes k (i + 1) ss) (begun_notes k (i + 1) ss)) (not_equal s.start (k + 260) d)

late_begun : (k i ready : ℕ) (ss : List Started) → AreInARow ready ss → k + 260 < ready → begun_notes k i ss ≡ []
late_begun k i ready [] row l = refl
late_begun k i ready (s ∷ ss) row l =
    let a = row.0 in
    let b = row.1 in
    skip k i s ss (λ e. omega (arith, e, a, l)) ∙ late_begun k (i + 1) (s.end + 260) ss row.2 (omega (arith, a, b, l))

start_behind : (ready : ℕ) (past : List Started) (s : Started) (later : List Started) → AreInARow ready (past ++ s ∷ later) → ready ≤ s.start
start_behind ready [] s later row = row.0
start_behind ready (x ∷ past) s later row = let a = row.0 in let b = row.1 in let c = start_behind (x.end + 260) past s later row.2 in omega (arith, a, b, c)

only_one : (k i ready : ℕ) (past : List Started) (s : Started) (later : List Started) → AreInARow ready (past ++ s ∷ later) → s.start ≤ k + 260 → k < s.end
    → (j : ℕ) × (begun_notes k i (past ++ s ∷ later) ≡ cond (s.start == k + 260) (news.Start j s.section.kind s.start s.last s.moving ∷ []) [])
only_one k i ready [] s later row soon early =
    let rest = late_begun k (i + 1) (s.end + 260) later row.2 (omega (arith, early)) in
    (i, ap (λ (l : List NoteNews). cond (s.start == k + 260) (news.Start i s.section.kind s.start s.last s.moving ∷ l) l) rest)
only_one k i ready (x ∷ past) s later row soon early =
    let behind = start_behind (x.end + 260) past s later row.2 in
    let b = row.1 in
    let rest = only_one k (i + 1) (x.end + 260) past s later row.2 soon early in
    (rest.0, skip k i x (past ++ s ∷ later) (λ e. omega (arith, e, b, behind, soon)) ∙ rest.1)

-- a later given
note_none : (given : Option Note) (n : Note) → given ≡ Some n → BeginsNone n.news → BeginsNone (news_of given)
note_none given n e b = subst (λ (o : Option Note). BeginsNone (news_of o)) (sym e) b

pub none_later : (ready from k : ℕ) (past : List Started) (s : Started) (later : List Started) (given : Option Note) → AreInARow ready (past ++ s ∷ later) → IsNoteOf (past ++ s ∷ later) k given → from + 259 ≡ s.start
    → from < k → k ≤ s.end → BeginsNone (news_of given)
none_later ready from zero past s later given row is e far early = absurd (omega (arith, far))
none_later ready from (suc k) past s later given row is e far early =
    let begun = past ++ s ∷ later in
    let one = only_one k 0 ready past s later row (omega (arith, e, far)) (omega (arith, early)) in
    let none : begun_notes k 0 begun ≡ [] = one.1 ∙ ap (λ (c : Bool). cond c (news.Start one.0 s.section.kind s.start s.last s.moving ∷ []) []) (not_equal s.start (k + 260) (λ f. omega (arith, e, f, far))) in
    let rest : BeginsNone (begun_notes k 0 begun ++ is.1) = subst (λ (l : List NoteNews). BeginsNone (l ++ is.1)) (sym none) is.4 in
    note_none given is.0 is.2 (subst BeginsNone (sym is.3) (none_both (done_notes k 0 begun) (begun_notes k 0 begun ++ is.1) (done_none k 0 begun) rest))

begun_of : (m : Machine) (section at turn last moving : ℕ) (ms : List Member) → may_be (map unseen ms) turn last ≡ true → IsOf turn ms (homing_with section at turn (group_where ms turn last))
begun_of m section at turn last moving ms may =
    subst (λ (c : Bool). IsOf turn ms (homing_with section at turn (cond c (Some (new_group ms turn last)) None))) (sym may) (refl, refl, unseen-members ms)

kind_of : (m : Machine) (section axis turn last moving : ℕ) (kind : SectionKind) → kind ≡ Home axis → may_be (map unseen (members_from m (axis_at m axis) moving 0 m.boards)) turn last ≡ true
    → IsOf turn (members_from m (axis_at m axis) moving 0 m.boards) (homing_of m section kind turn last moving)
kind_of m section axis turn last moving kind e may =
    let ms = members_from m (axis_at m axis) moving 0 m.boards in
    subst (λ (k : SectionKind). IsOf turn ms (homing_of m section k turn last moving)) (sym e) (begun_of m section axis turn last moving ms may)

now_of : (m : Machine) (ready k axis : ℕ) (past : List Started) (s : Started) (later : List Started) (given : Option Note) (r : Known) → AreInARow ready (past ++ s ∷ later) → IsNoteOf (past ++ s ∷ later) (suc k) given → s.start ≡ k + 260 → k < s.end
    → s.section.kind ≡ Home axis → may_be (map unseen (members_from m (axis_at m axis) s.moving 0 m.boards)) s.start s.last ≡ true → IsOf s.start (members_from m (axis_at m axis) s.moving 0 m.boards) (noted m given r).homing
now_of m ready k axis past s later given r row is at early kind may =
    let begun = past ++ s ∷ later in
    let ms = members_from m (axis_at m axis) s.moving 0 m.boards in
    let one = only_one k 0 ready past s later row (omega (arith, at)) early in
    let start = news.Start one.0 s.section.kind s.start s.last s.moving in
    let here : begun_notes k 0 begun ≡ start ∷ [] = one.1 ∙ ap (λ (c : Bool). cond c (start ∷ []) []) (eq-eqb s.start (k + 260) at) in
    let done = done_notes k 0 begun in
    let all : is.0.news ≡ done ++ (start ∷ is.1) = is.3 ∙ ap (λ (l : List NoteNews). done ++ (l ++ is.1)) here in
    let before = told_all m done r in
    let known : (told_all m is.0.news r).homing ≡ homing_of m one.0 s.section.kind s.start s.last s.moving =
    ap (λ (l : List NoteNews). (told_all m l r).homing) all ∙ ap (λ (x : Known). x.homing) (all_append m done (start ∷ is.1) r) ∙ all_none m is.1 (known_behind m before start) is.4 in
    subst (λ (o : Option Note). IsOf s.start ms (noted m o r).homing) (sym is.2) (subst (λ (o : Option Homing). IsOf s.start ms o) (sym known) (kind_of m one.0 axis s.start s.last s.moving s.section.kind kind may))

-- over turns
at_turn : (begun : List Started) (k n : ℕ) (given : Option Note) → k ≡ n → IsNoteOf begun k given → IsNoteOf begun n given
at_turn begun k n given e is = subst (λ (i : ℕ). IsNoteOf begun i given) e is

pub begun_in : (m : Machine) (switches : List Switch) (ready from axis : ℕ) (past : List Started) (s : Started) (later : List Started) (came : List Came) → AreInARow ready (past ++ s ∷ later) → s.section.kind ≡ Home axis
    → may_be (map unseen (members_from m (axis_at m axis) s.moving 0 m.boards)) s.start s.last ≡ true → CameNotes (past ++ s ∷ later) came → IsSilentFrom m switches from came → from + 259 ≡ s.start → 1 ≤ from → length came ≤ s.end + 1
    → IsBegunIn m switches from s.start (members_from m (axis_at m axis) s.moving 0 m.boards) came
begun_in m switches ready from axis past s later [] row kind may notes silent e some l = tt
begun_in m switches ready from axis past s later (c ∷ before) row kind may notes silent e some l =
    let k = from - 1 in
    let next : suc k ≡ from = omega (arith, some) in
    let order : s.start ≤ s.end = own_order ready past row in (
      λ at.
          let now = silent.0 (omega (arith, at)) in
          (now.0, now_of m ready k axis past s later c.note (known_by m switches before) row (at_turn (past ++ s ∷ later) (length before) (suc k) c.note (at ∙ sym next) notes.0) (omega (arith, e, next)) (omega (arith, e, next, order)) kind may),
      λ far. none_later ready from (length before) past s later c.note row notes.0 e far (omega (arith, l)),
      λ far. (silent.0 far).1,
      begun_in m switches ready from axis past s later before row kind may notes.1 silent.1 e some (omega (arith, l)),
    )
  where
    own_order : (n : ℕ) (xs : List Started) → AreInARow n (xs ++ s ∷ later) → s.start ≤ s.end
    own_order n [] q = q.1
    own_order n (x ∷ xs) q = own_order (x.end + 260) xs q.2
