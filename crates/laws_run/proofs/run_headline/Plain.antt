-- While a run has sections of moves alone, no board homes.
use Rattle.std.proofs.Common.{◌≡◌, ℕ, ◌+◌, Bool, true, false, cond, List, [], ◌∷◌, ◌++◌, All, map, length, Option, Some, None, refl, ap, sym, ◌∙◌, subst, inl, inr}
use Rattle.std.specs.Prelude.{◌==◌}
use Rattle.laws_board.proofs.Names.{All-head, All-tail, Machine, SectionKind, Moves, Note, NoteNews, State, Switch, homing_after, Known, noted, known_behind, told_all, Reacted, reacts, Came, GoesOn, known_by, Started, MotionTurn, ReactorTurn}
use Rattle.msg_code.specs.declared.talk.NoteNews.TheVariants as news
use Rattle.axis_homing.specs.Homing.{homing_of}
use Rattle.laws_board.proofs.clocks.Turning.{Goes, goes}
use Rattle.motion_work.specs.Further.{AreFurther}
use Rattle.motion_work.specs.Puts.{ArePut, IsReadNews, begun_notes}
use Rattle.motion_work.specs.Turns.{done_notes}
use Rattle.session_run.specs.Boards.{came_from, came_in}
use Rattle.laws_board.specs.plans.Lines.{TookEach, TookNotes}
use Rattle.laws_board.specs.plans.Planned.{puts_of}

-- news of sections of moves
abbrev pub OfMoves : List NoteNews → Type 0
OfMoves [] = Unit {0}
OfMoves (news.Start section kind turn last moving ∷ ns) = (kind ≡ Moves) × OfMoves ns
OfMoves (n ∷ ns) = OfMoves ns

abbrev pub NotesMoves : Option Note → Type 0
NotesMoves None = Unit {0}
NotesMoves (Some note) = OfMoves note.news

abbrev pub AllMoves : List Came → Type 0
AllMoves [] = Unit {0}
AllMoves (c ∷ before) = NotesMoves c.note × AllMoves before

moves_both : (xs ys : List NoteNews) → OfMoves xs → OfMoves ys → OfMoves (xs ++ ys)
moves_both [] ys a b = b
moves_both (news.Start section kind turn last moving ∷ xs) ys a b = (a.0, moves_both xs ys a.1 b)
moves_both (news.Done section turn ∷ xs) ys a b = moves_both xs ys a b
moves_both (news.Read end sections ∷ xs) ys a b = moves_both xs ys a b
moves_both (news.Line board line from ∷ xs) ys a b = moves_both xs ys a b

-- what a note of the planner tells
done_moves : (k i : ℕ) (ss : List Started) → OfMoves (done_notes k i ss)
done_moves k i [] = tt
done_moves k i (s ∷ ss) = one (s.end == k) (done_moves k (i + 1) ss)
  where
    one : (b : Bool) → OfMoves (done_notes k (i + 1) ss) → OfMoves (cond b (news.Done i k ∷ done_notes k (i + 1) ss) (done_notes k (i + 1) ss))
    one true rest = rest
    one false rest = rest

begun_moves : (k i : ℕ) (ss : List Started) → All (λ s. s.section.kind ≡ Moves) ss → OfMoves (begun_notes k i ss)
begun_moves k i [] a = tt
begun_moves k i (s ∷ ss) a = one (s.start == k + 260) (begun_moves k (i + 1) ss (All-tail (λ (x : Started). x.section.kind ≡ Moves) s ss a))
  where
    one : (b : Bool) → OfMoves (begun_notes k (i + 1) ss) → OfMoves (cond b (news.Start i s.section.kind s.start s.last s.moving ∷ begun_notes k (i + 1) ss) (begun_notes k (i + 1) ss))
    one true rest = (All-head (λ (x : Started). x.section.kind ≡ Moves) s ss a, rest)
    one false rest = rest

read_moves : (m : Machine) (text : List ℕ) (ns : List NoteNews) → IsReadNews m text ns → OfMoves ns
read_moves m text ns (inl e) = subst OfMoves (sym e) tt
read_moves m text ns (inr e) = subst OfMoves (sym e) tt

further_moves : (k : ℕ) (ns : List NoteNews) → AreFurther k ns → OfMoves ns
further_moves k [] h = tt
further_moves k (news.Line board line from ∷ ns) h = further_moves k ns h.1
further_moves k (news.Start section kind turn last moving ∷ ns) h = absurd h
further_moves k (news.Done section turn ∷ ns) h = absurd h
further_moves k (news.Read end sections ∷ ns) h = absurd h

each_moves : (m : Machine) (text : List ℕ) (begun : List Started) (k : ℕ) (made : List MotionTurn) (before : List Came) (rs : List ReactorTurn) → All (λ s. s.section.kind ≡ Moves) begun → ArePut m text begun k (puts_of made)
    → TookEach (map (λ t. t.note) made) rs → AllMoves before → AllMoves (came_from before rs)
each_moves m text begun k made before [] kinds put took all = all
each_moves m text begun k [] before (t ∷ rs) kinds put took all = absurd took
each_moves m text begun k (d ∷ made) before (t ∷ rs) kinds put took all =
    let one = put.0 in
    let now : OfMoves d.note.news = subst OfMoves (sym one.news_are)
    (moves_both (done_notes k 0 begun) (begun_notes k 0 begun ++ (one.read ++ one.further)) (done_moves k 0 begun)
    (moves_both (begun_notes k 0 begun) (one.read ++ one.further) (begun_moves k 0 begun kinds) (moves_both one.read one.further (read_moves m text one.read one.is_read) (further_moves k one.further one.are_further)))) in
    each_moves m text begun (k + 1) made (came_in t ∷ before) rs kinds put.1 took.1 (subst NotesMoves (sym took.0) now, all)

pub all_moves : (m : Machine) (text : List ℕ) (begun : List Started) (made : List MotionTurn) (first : ReactorTurn) (rest : List ReactorTurn) → All (λ s. s.section.kind ≡ Moves) begun → ArePut m text begun 0 (puts_of made)
    → TookNotes (map (λ t. t.note) made) (first ∷ rest) → AllMoves (came_from [] (first ∷ rest))
all_moves m text begun made first rest kinds put took =
    each_moves m text begun 0 made (came_in first ∷ []) rest kinds put took.1 (subst NotesMoves (sym took.0) tt, tt)

-- so no board homes
told_none : (m : Machine) (ns : List NoteNews) (r : Known) → r.homing ≡ None → OfMoves ns → (told_all m ns r).homing ≡ None
told_none m [] r e h = e
told_none m (news.Start section kind turn last moving ∷ ns) r e h =
    told_none m ns (known_behind m r (news.Start section kind turn last moving)) (ap (λ (k : SectionKind). homing_of m section k turn last moving) h.0) h.1
told_none m (news.Done section turn ∷ ns) r e h = told_none m ns (known_behind m r (news.Done section turn)) e h
told_none m (news.Read end sections ∷ ns) r e h = told_none m ns (known_behind m r (news.Read end sections)) e h
told_none m (news.Line board line from ∷ ns) r e h = told_none m ns (known_behind m r (news.Line board line from)) e h

pub noted_none : (m : Machine) (note : Option Note) (r : Known) → r.homing ≡ None → NotesMoves note → (noted m note r).homing ≡ None
noted_none m None r e h = e
noted_none m (Some note) r e h = told_none m note.news r e h

goes_none : (m : Machine) (r : Known) (k : ℕ) (states : List State) (x : Reacted) → r.homing ≡ None → Goes m r k states x → x.known.homing ≡ None
goes_none m r k states x e (inl a) = ap (λ (y : Reacted). y.known.homing) a.is ∙ e
goes_none m r k states x e (inr (inl a)) = ap (λ (y : Reacted). y.known.homing) a.is ∙ e
goes_none m r k states x e (inr (inr a)) = ap (λ (y : Reacted). y.known.homing) a.is ∙ ap (homing_after r.clocks k states) e

pub known_none : (m : Machine) (switches : List Switch) (came : List Came) → GoesOn m switches came → AllMoves came → (known_by m switches came).homing ≡ None
known_none m switches [] g h = refl
known_none m switches (c ∷ before) g h =
    let r = known_by m switches before in
    goes_none m (noted m c.note r) (length before) c.states (reacts m switches r (length before) c.states c.note) (noted_none m c.note r (known_none m switches before g.1 h.1) h.0)
    (goes m switches r (length before) c.states c.note g.0)
