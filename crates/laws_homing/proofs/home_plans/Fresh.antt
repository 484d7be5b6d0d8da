-- What the notes of a planner begin, and make known.
use Rattle.std.proofs.Common.{◌≡◌, ◌⊎◌, ℕ, zero, suc, ◌+◌, Bool, true, false, cond, List, [], ◌∷◌, ◌++◌, map, Option, Some, None, refl, ap, sym, ◌∙◌, subst, arith, inl, inr, append_assoc, rules}
use Rattle.laws_board.proofs.Names.{eqb_tells, Machine, SectionKind, Home, Moves, axis_at, Note, NoteNews, Member, unseen, Homing, members_from, Started, Known, news_of, noted, known_behind, told_all}
use Rattle.msg_code.specs.declared.talk.NoteNews.TheVariants as news
use Rattle.trigger_group.specs.Group.{new_group}
use Rattle.trigger_group.specs.Kept.{may_be}
use Rattle.axis_homing.specs.Homing.{homing_of, homing_with}
use Rattle.motion_work.specs.Puts.{begun_notes}
use Rattle.motion_work.specs.Turns.{done_notes}
use Rattle.laws_homing.specs.home_runs.Words.{BeginsNone}
use Rattle.laws_homing.proofs.home_runs.Knowing.{all_none}
use Rattle.laws_homing.specs.home_plans.Notes.{IsNoteOf}
use Rattle.laws_homing.proofs.home_plans.Noting.{done_none, none_both}
use Rattle.laws_board.proofs.plans.Beginning.{all_append}

-- what is known is of a section that was begun and starts in a turn, with its last turn
abbrev pub IsFresh : List Started → ℕ → Option Homing → Type 0
IsFresh begun at None = Unit {0}
IsFresh begun at (Some h) =
    (past : List Started) × (s : Started) × (later : List Started) × (axis : ℕ) × (begun ≡ past ++ s ∷ later) × (s.section.kind ≡ Home axis) × (s.start ≡ at) × (h.start ≡ s.start) × (h.group.last ≡ s.last)

fresh_if : (c : Bool) (begun : List Started) (at section axis : ℕ) (ms : List Member) (past : List Started) (s : Started) (later : List Started) → begun ≡ past ++ s ∷ later → s.section.kind ≡ Home axis → s.start ≡ at
    → IsFresh begun at (homing_with section axis s.start (cond c (Some (new_group ms s.start s.last)) None))
fresh_if true begun at section axis ms past s later cut kind is = (past, s, later, axis, cut, kind, is, refl, refl)
fresh_if false begun at section axis ms past s later cut kind is = tt

fresh_kind : (m : Machine) (begun : List Started) (at section : ℕ) (past : List Started) (s : Started) (later : List Started) (kind : SectionKind) → s.section.kind ≡ kind → begun ≡ past ++ s ∷ later → s.start ≡ at
    → IsFresh begun at (homing_of m section kind s.start s.last s.moving)
fresh_kind m begun at section past s later kind p8 p9 p10 = search (rules, members_from, axis_at, fresh_if, unseen)

fresh_notes : (m : Machine) (begun : List Started) (k i : ℕ) (past ss : List Started) (r : Known) → begun ≡ past ++ ss → IsFresh begun (k + 260) r.homing → IsFresh begun (k + 260) (told_all m (begun_notes k i ss) r).homing
fresh_notes m begun k i past [] r cut f = f
fresh_notes m begun k i past (s ∷ ss) r cut f =
    let more : begun ≡ (past ++ s ∷ []) ++ ss = cut ∙ sym (append_assoc past (s ∷ []) ss) in
    elim (eqb_tells s.start (k + 260)) [
      | inl p ↦
          rw p.0
          (fresh_notes m begun k (i + 1) (past ++ s ∷ []) ss (known_behind m r (news.Start i s.section.kind s.start s.last s.moving)) more (fresh_kind m begun (k + 260) i past s ss s.section.kind refl cut p.1))
      | inr p ↦ rw p.0 (fresh_notes m begun k (i + 1) (past ++ s ∷ []) ss r more f)
    ]

-- a section that some news begin, and what they make known
record Begun (m : Machine) (begun : List Started) (k : ℕ) (r : Known) (ns : List NoteNews) : Type 0 where
  past : List Started
  s : Started
  later : List Started
  are : begun ≡ past ++ s ∷ later
  start : s.start ≡ k + 260
  fresh : IsFresh begun (k + 260) (told_all m ns r).homing

begun_or : (m : Machine) (begun : List Started) (k i : ℕ) (past ss : List Started) (r : Known) → begun ≡ past ++ ss → (begun_notes k i ss ≡ []) ⊎ Begun m begun k r (begun_notes k i ss)
begun_or m begun k i past [] r cut = inl refl
begun_or m begun k i past (s ∷ ss) r cut =
    let more : begun ≡ (past ++ s ∷ []) ++ ss = cut ∙ sym (append_assoc past (s ∷ []) ss) in
    elim (eqb_tells s.start (k + 260)) [
      | inl p ↦
          rw p.0
          (inr (record {
            past = past;
            s = s;
            later = ss;
            are = cut;
            start = p.1;
            fresh = fresh_notes m begun k (i + 1) (past ++ s ∷ []) ss (known_behind m r (news.Start i s.section.kind s.start s.last s.moving)) more (fresh_kind m begun (k + 260) i past s ss s.section.kind refl cut p.1);
          }))
      | inr p ↦ rw p.0 (begun_or m begun k (i + 1) (past ++ s ∷ []) ss r more)
    ]

-- A section that a note begins, and what it makes known.
pub record NoteBegins (m : Machine) (begun : List Started) (k : ℕ) (given : Option Note) (r : Known) : Type 0 where
  pub past : List Started
  pub s : Started
  pub later : List Started
  pub are : begun ≡ past ++ s ∷ later
  pub start : s.start ≡ k + 259
  pub fresh : IsFresh begun (k + 259) (noted m given r).homing

pub note_begins : (m : Machine) (begun : List Started) (k : ℕ) (given : Option Note) (r : Known) → IsNoteOf begun k given → BeginsNone (news_of given) ⊎ NoteBegins m begun k given r
note_begins m begun zero given r is = inl (subst (λ (o : Option Note). BeginsNone (news_of o)) (sym is) tt)
note_begins m begun (suc k) given r is =
    let done = done_notes k 0 begun in
    let starts = begun_notes k 0 begun in
    let first = told_all m done r in
    elim (begun_or m begun k 0 [] begun first refl) [
      | inl none ↦
          let rest : BeginsNone (starts ++ is.1) = subst (λ (l : List NoteNews). BeginsNone (l ++ is.1)) (sym none) is.4 in
          inl (subst (λ (o : Option Note). BeginsNone (news_of o)) (sym is.2) (subst BeginsNone (sym is.3) (none_both done (starts ++ is.1) (done_none k 0 begun) rest)))
      | inr f ↦
          let same : told_all m is.0.news r ≡ told_all m is.1 (told_all m starts first) = ap (λ (l : List NoteNews). told_all m l r) is.3 ∙ all_append m done (starts ++ is.1) r ∙ all_append m starts is.1 first in
          let homing : (told_all m is.0.news r).homing ≡ (told_all m starts first).homing = ap (λ (x : Known). x.homing) same ∙ all_none m is.1 (told_all m starts first) is.4 in
          let at : k + 260 ≡ suc k + 259 = omega arith in
          let fresh : IsFresh begun (suc k + 259) (told_all m is.0.news r).homing =
          subst (λ (n : ℕ). IsFresh begun n (told_all m is.0.news r).homing) at (subst (λ (o : Option Homing). IsFresh begun (k + 260) o) (sym homing) f.fresh) in
          let start = f.start in
          inr (record { past = f.past; s = f.s; later = f.later; are = f.are; start = omega (arith, start); fresh = subst (λ (o : Option Note). IsFresh begun (suc k + 259) (noted m o r).homing) (sym is.2) fresh })
    ]
