-- The member of a homing group with the endstop is the board of the section's axis.
use Rattle.std.proofs.Common.{◌≡◌, ◌⊎◌, ℕ, ◌+◌, ◌<◌, ◌≤◌, ◌==◌, Bool, true, false, cond, List, [], ◌∷◌, ◌++◌, length, map, Option, Some, None, refl, ap, sym, ◌∙◌, subst, arith, inl, inr}
use Rattle.std.specs.Prelude.{nat_lt, ◌||◌}
use Rattle.laws_board.proofs.Names.{eqb_tells, AxisDef, BoardDef, Machine, SectionKind, Home, Moves, Clocks, axis_at, Note, NoteNews, State, Switch, End, Member, Seen, unseen, Homing, answer_in, goes_on_homing, hears_all, homing_after, members_from, members_of, Known, noted, known_behind, told_all, Reacted, Came, GoesOn, known_by, states-kept}
use Rattle.msg_code.specs.declared.talk.NoteNews.TheVariants as news
use Rattle.trigger_group.specs.Group.{new_group}
use Rattle.trigger_group.specs.Kept.{may_be}
use Rattle.trigger_group.proofs.Knows.{after_members}
use Rattle.axis_homing.specs.Homing.{homing_of, homing_with, member_where, moving_on}
use Rattle.laws_board.proofs.clocks.Turning.{goes}
use Rattle.laws_homing.specs.missed_groups.Ticks.{IsReader}
use Rattle.plan_types.proofs.Facts.{was_equal}
use Rattle.axis_homing.proofs.Rises.{unseen-members}

-- of some members
abbrev pub OfBoard : ℕ → ℕ → List Member → Type 0
OfBoard own boards ms = ((b : ℕ) → IsReader b ms → own ≡ b) × (own < boards → IsReader own ms)

abbrev pub OfAxis : Machine → Option Homing → Type 0
OfAxis m None = Unit {0}
OfAxis m (Some h) = OfBoard (axis_at m h.axis).board (length m.boards) (members_of h.group)

front_reader : (b : ℕ) (xs ys : List Member) → IsReader b xs → IsReader b (xs ++ ys)
front_reader b [] ys k = absurd k
front_reader b (x ∷ xs) ys (inl k) = inl k
front_reader b (x ∷ xs) ys (inr k) = inr (front_reader b xs ys k)

behind_reader : (b : ℕ) (xs ys : List Member) → IsReader b ys → IsReader b (xs ++ ys)
behind_reader b [] ys k = k
behind_reader b (x ∷ xs) ys k = inr (behind_reader b xs ys k)

either_reader : (b : ℕ) (xs ys : List Member) → IsReader b (xs ++ ys) → IsReader b xs ⊎ IsReader b ys
either_reader b [] ys k = inr k
either_reader b (x ∷ xs) ys (inl k) = inl (inl k)
either_reader b (x ∷ xs) ys (inr k) = elim (either_reader b xs ys k) [ inl a ↦ inl (inr a) | inr z ↦ inr z ]

where_reads : (b k : ℕ) (e c : Bool) (moving own : ℕ) → (e ≡ true → own ≡ k) → IsReader b (cond c (record { board = k; endstop = e; moving = moving } ∷ []) []) → own ≡ b
where_reads b k e true moving own is (inl x) = is x.1 ∙ x.0
where_reads b k e true moving own is (inr x) = absurd x
where_reads b k e false moving own is x = absurd x

all_read : (m : Machine) (axis : AxisDef) (moving b k : ℕ) (boards : List BoardDef) → IsReader b (members_from m axis moving k boards) → axis.board ≡ b
all_read m axis moving b k [] x = absurd x
all_read m axis moving b k (d ∷ boards) x =
    let few = moving_on k moving m.steppers in
    elim (either_reader b (member_where k (axis.board == k) few) (members_from m axis moving (k + 1) boards) x) [
      | inl one ↦ where_reads b k (axis.board == k) ((axis.board == k) || nat_lt 0 few) few axis.board (was_equal axis.board k) one
      | inr more ↦ all_read m axis moving b (k + 1) boards more
    ]

there : (k : ℕ) (e : Bool) (moving : ℕ) → e ≡ true → IsReader k (member_where k e moving)
there k true moving e = inl (refl, refl)
there k false moving e = absurd (cc)

one_reads : (m : Machine) (axis : AxisDef) (moving k : ℕ) (boards : List BoardDef) → k ≤ axis.board → axis.board < k + length boards → IsReader axis.board (members_from m axis moving k boards)
one_reads m axis moving k [] from low = absurd (omega (arith, from, low))
one_reads m axis moving k (d ∷ boards) from low =
    let few = moving_on k moving m.steppers in
    elim (eqb_tells axis.board k) [
      | inl p ↦
          let here : IsReader k (member_where k (axis.board == k) few) = there k (axis.board == k) few p.0 in
          front_reader axis.board (member_where k (axis.board == k) few) (members_from m axis moving (k + 1) boards) (subst (λ (n : ℕ). IsReader n (member_where k (axis.board == k) few)) (sym p.1) here)
      | inr p ↦
          let other : (axis.board ≡ k) → ⊥ = p.1 in
          behind_reader axis.board (member_where k (axis.board == k) few) (members_from m axis moving (k + 1) boards) (one_reads m axis moving (k + 1) boards (next axis.board k from other) (omega (arith, low)))
    ]
  where
    next : (a k : ℕ) → k ≤ a → (a ≡ k → ⊥) → k + 1 ≤ a
    next a k l n = elim (lt_or a k) [ inl x ↦ x | inr x ↦ absurd (n (omega (arith, x, l))) ]
      where
        lt_or : (a k : ℕ) → (k + 1 ≤ a) ⊎ (a ≤ k)
        lt_or a k = grind arith

begun_if : (m : Machine) (c : Bool) (section axis turn last : ℕ) (ms : List Member) → OfBoard (axis_at m axis).board (length m.boards) ms → OfAxis m (homing_with section axis turn (cond c (Some (new_group ms turn last)) None))
begun_if m true section axis turn last ms of = subst (OfBoard (axis_at m axis).board (length m.boards)) (sym (unseen-members ms)) of
begun_if m false section axis turn last ms of = tt

begun_of : (m : Machine) (section : ℕ) (kind : SectionKind) (turn last moving : ℕ) → OfAxis m (homing_of m section kind turn last moving)
begun_of m section Moves turn last moving = tt
begun_of m section (Home axis) turn last moving =
    let ms = members_from m (axis_at m axis) moving 0 m.boards in
    begun_if m (may_be (map unseen ms) turn last) section axis turn last ms
    ((λ b x. all_read m (axis_at m axis) moving b 0 m.boards x), λ low. one_reads m (axis_at m axis) moving 0 m.boards (omega arith) (omega (arith, low)))

told_of : (m : Machine) (r : Known) (n : NoteNews) → OfAxis m r.homing → OfAxis m (known_behind m r n).homing
told_of m r (news.Start section kind turn last moving) k = begun_of m section kind turn last moving
told_of m r c k = k

all_of : (m : Machine) (ns : List NoteNews) (r : Known) → OfAxis m r.homing → OfAxis m (told_all m ns r).homing
all_of m [] r k = k
all_of m (n ∷ ns) r k = all_of m ns (known_behind m r n) (told_of m r n k)

noted_of : (m : Machine) (note : Option Note) (r : Known) → OfAxis m r.homing → OfAxis m (noted m note r).homing
noted_of m None r k = k
noted_of m (Some note) r k = all_of m note.news r k

goes_of : (m : Machine) (k : ℕ) (h : Homing) (o : Option End) → OfAxis m (Some h) → OfAxis m (goes_on_homing k h o)
goes_of m k h None a = subst (OfBoard (axis_at m h.axis).board (length m.boards)) (sym (ap (λ (xs : List Seen). map (λ (x : Seen). x.member) xs) (after_members h.group k))) a
goes_of m k h (Some end) a = tt

after_of : (m : Machine) (clocks : List Clocks) (k : ℕ) (states : List State) (o : Option Homing) → OfAxis m o → OfAxis m (homing_after clocks k states o)
after_of m clocks k states None a = tt
after_of m clocks k states (Some h) a =
    let g = hears_all clocks states h in
    goes_of m k g (answer_in k g.start g.group) (subst (OfBoard (axis_at m h.axis).board (length m.boards)) (sym (states-kept clocks 0 h.start states h.group)) a)

known_of : (m : Machine) (switches : List Switch) (came : List Came) → GoesOn m switches came → OfAxis m (known_by m switches came).homing
known_of m switches [] g = tt
known_of m switches (c ∷ before) g =
    let known = known_by m switches before in
    let n = noted m c.note known in
    let was = noted_of m c.note known (known_of m switches before g.1) in
    let So : Reacted → Type 0 = λ y. OfAxis m y.known.homing in
    elim (goes m switches known (length before) c.states c.note g.0) [
      | inl x ↦ subst So (sym x.is) was
      | inr more ↦ elim more [ inl x ↦ subst So (sym x.is) was | inr x ↦ subst So (sym x.is) (after_of m n.clocks (length before) c.states n.homing was) ]
    ]

pub of_axis : (m : Machine) (switches : List Switch) (c : Came) (before : List Came) → GoesOn m switches before → (h : Homing) → (noted m c.note (known_by m switches before)).homing ≡ Some h → OfAxis m (Some h)
of_axis m switches c before g h is = subst (OfAxis m) is (noted_of m c.note (known_by m switches before) (known_of m switches before g))
