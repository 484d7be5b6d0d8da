-- The members of a homing section are those of its axis, and the steppers that move on a board are the board's.
use Rattle.std.proofs.Common.{◌≡◌, ℕ, ◌+◌, ◌<◌, ◌==◌, inl, inr, Bool, true, false, cond, List, [], ◌∷◌, ◌++◌, length, map, Option, Some, None, refl, ap, sym, ◌∙◌, subst, arith, rules}
use Rattle.std.specs.Prelude.{nat_lt, ◌||◌}
use Rattle.laws_board.proofs.Names.{AxisDef, BoardDef, Machine, SectionKind, Moves as MovesKind, Home as HomeKind, Clocks, axis_at, stepper_at, Note, NoteNews, State, Switch, End, Member, Goes, Rests, Sends, Seen, GroupState, all_fired, phase, steppers, unseen, Homing, answer_in, goes_on_homing, hears_all, homing_after, members_from, members_of, Known, noted, known_behind, told_all, Reacted, Came, GoesOn, known_by, states-kept}
use Rattle.msg_code.specs.declared.talk.NoteNews.TheVariants as news
use Rattle.trigger_group.specs.declared.round.Phase.{Phase}
use Rattle.trigger_group.specs.Group.{after_in, new_group}
use Rattle.trigger_group.specs.Kept.{may_be}
use Rattle.axis_homing.specs.Homing.{homing_of, homing_with, moving_on}
use Rattle.laws_board.specs.clocks.Samples.{IsAmong}
use Rattle.laws_board.proofs.clocks.Turning as turning
use Rattle.laws_homing.specs.home_runs.Sections.{Moves}
use Rattle.laws_homing.proofs.home_runs.Resetting.{is_there, on_board}
use Rattle.axis_homing.proofs.Rises.{unseen-members, in-kept}

-- the members of a homing section are those of some steppers of its axis
abbrev pub IsFormed : Machine → Option Homing → Type 0
IsFormed m None = Unit {0}
IsFormed m (Some h) = (axis : AxisDef) × (moving : ℕ) × (members_of h.group ≡ members_from m axis moving 0 m.boards) × (axis ≡ axis_at m h.axis)

formed_if : (c : Bool) (m : Machine) (section at turn start last moving : ℕ) (axis : AxisDef) → axis ≡ axis_at m at → IsFormed m (homing_with section at turn (cond c (Some (new_group (members_from m axis moving 0 m.boards) start last)) None))
formed_if true m section at turn start last moving axis e = (axis, moving, unseen-members (members_from m axis moving 0 m.boards), e)
formed_if false m section at turn start last moving axis e = tt

begun_formed : (m : Machine) (section : ℕ) (what : SectionKind) (turn last moving : ℕ) → IsFormed m (homing_of m section what turn last moving)
begun_formed m section what turn last moving = search (rules, members_from, axis_at, formed_if, unseen)

told_formed : (m : Machine) (r : Known) (n : NoteNews) → IsFormed m r.homing → IsFormed m (known_behind m r n).homing
told_formed m r (news.Start section kind turn last moving) h = begun_formed m section kind turn last moving
told_formed m r c h = h

all_formed : (m : Machine) (ns : List NoteNews) (r : Known) → IsFormed m r.homing → IsFormed m (told_all m ns r).homing
all_formed m [] r h = h
all_formed m (n ∷ ns) r h = all_formed m ns (known_behind m r n) (told_formed m r n h)

pub noted_formed : (m : Machine) (note : Option Note) (r : Known) → IsFormed m r.homing → IsFormed m (noted m note r).homing
noted_formed m None r h = h
noted_formed m (Some note) r h = all_formed m note.news r h

group_either : (c : Bool) (x g : GroupState) → members_of x ≡ members_of g → members_of (cond c g x) ≡ members_of g
group_either true x g e = refl
group_either false x g e = e

goes_formed : (m : Machine) (k : ℕ) (h : Homing) (o : Option End) → IsFormed m (Some h) → IsFormed m (goes_on_homing k h o)
goes_formed m k h None f = (f.0, f.1, in-kept (phase h.group.start h.group.last k) h.group k ∙ f.2, f.3)
goes_formed m k h (Some end) f = tt

after_formed : (m : Machine) (clocks : List Clocks) (k : ℕ) (states : List State) (o : Option Homing) → IsFormed m o → IsFormed m (homing_after clocks k states o)
after_formed m clocks k states o p5 = search (rules, hears_all, goes_formed, answer_in, states-kept)

pub known_formed : (m : Machine) (switches : List Switch) (came : List Came) → GoesOn m switches came → IsFormed m (known_by m switches came).homing
known_formed m switches [] g = tt
known_formed m switches (c ∷ before) g =
    let known = known_by m switches before in
    let n = noted m c.note known in
    let was = noted_formed m c.note known (known_formed m switches before g.1) in
    let So : Reacted → Type 0 = λ y. IsFormed m y.known.homing in
    elim (turning.goes m switches known (length before) c.states c.note g.0) [
      | inl x ↦ subst So (sym x.is) was
      | inr later ↦ elim later [ inl x ↦ subst So (sym x.is) was | inr x ↦ subst So (sym x.is) (after_formed m n.clocks (length before) c.states n.homing was) ]
    ]

-- a stepper that moves on a board is the board's
abbrev pub Is : Machine → ℕ → ℕ → Type 0
Is m b s = (s < length m.steppers) × ((stepper_at m s).board ≡ b)

one_is : (m : Machine) (b moving s : ℕ) (e : Bool) → IsAmong s (steppers (unseen (record { board = b; endstop = e; moving = moving_on b moving m.steppers }))) → Is m b s
unfolding steppers
one_is m b moving s e is =
    let found = on_board b 0 16 s moving m.steppers is in
    let there = is_there b found.0 m.steppers found.2 in
    let same : found.0 ≡ s = omega (arith, found.1) in
    subst (λ (n : ℕ). Is m b n) same there

where_is : (c : Bool) (m : Machine) (b n moving s : ℕ) (e : Bool) (rest : List Member) → Moves b s (cond c (record { board = n; endstop = e; moving = moving_on n moving m.steppers } ∷ []) [] ++ rest) → (Moves b s rest → Is m b s) → Is m b s
where_is true m b n moving s e rest (inl is) more = subst (λ (x : ℕ). Is m x s) is.0 (one_is m n moving s e is.1)
where_is true m b n moving s e rest (inr is) more = more is
where_is false m b n moving s e rest is more = more is

from_is : (m : Machine) (axis : AxisDef) (b n moving s : ℕ) (boards : List BoardDef) → Moves b s (members_from m axis moving n boards) → Is m b s
from_is m axis b n moving s [] is = absurd is
from_is m axis b n moving s (d ∷ boards) is =
    where_is ((axis.board == n) || nat_lt 0 (moving_on n moving m.steppers)) m b n moving s (axis.board == n) (members_from m axis moving (n + 1) boards) is (from_is m axis b (n + 1) moving s boards)

pub moves_is : (m : Machine) (h : Homing) (b s : ℕ) → IsFormed m (Some h) → Moves b s (members_of h.group) → Is m b s
moves_is m h b s f moves = from_is m f.0 b 0 f.1 s m.boards (subst (λ (l : List Member). Moves b s l) f.2 moves)
