-- The sections that a note of the planner begins all start 259 turns behind the turn in which it comes.
use Rattle.std.proofs.Common.{◌≡◌, ◌≤◌, ◌+◌, ◌++◌, ℕ, zero, suc, List, [], ◌∷◌, length, Option, sym, subst, arith, inl, inr, rules}
use Rattle.laws_board.proofs.Names.{eqb_tells, Machine, IsValidMachine, Note, NoteNews, Switch, Started, news_of, Came}
use Rattle.msg_code.specs.declared.talk.NoteNews.TheVariants as news
use Rattle.motion_work.specs.Puts.{begun_notes}
use Rattle.motion_work.specs.Turns.{done_notes}
use Rattle.host_reactor.specs.Room.{BeginFar, HaveRoom, StartFar}
use Rattle.host_reactor.proofs.Roomy.{all-have}
use Rattle.laws_homing.specs.home_runs.Words.{BeginsNone}
use Rattle.laws_homing.specs.home_plans.Notes.{CameNotes, IsNoteOf}
use Rattle.laws_homing.proofs.home_plans.Noting.{done_none}

-- news that begin sections of one start alone
abbrev pub StartAt : ℕ → List NoteNews → Type 0
StartAt at [] = Unit {0}
StartAt at (news.Start section kind turn last moving ∷ ns) = (turn ≡ at) × StartAt at ns
StartAt at (n ∷ ns) = StartAt at ns

none_start : (at : ℕ) (ns : List NoteNews) → BeginsNone ns → StartAt at ns
none_start at [] b = tt
none_start at (news.Start section kind turn last moving ∷ ns) b = absurd b
none_start at (news.Done section turn ∷ ns) b = none_start at ns b
none_start at (news.Read end sections ∷ ns) b = none_start at ns b
none_start at (news.Line board line from ∷ ns) b = none_start at ns b

start_both : (at : ℕ) (xs ys : List NoteNews) → StartAt at xs → StartAt at ys → StartAt at (xs ++ ys)
start_both at [] ys a b = b
start_both at (news.Start section kind turn last moving ∷ xs) ys a b = (a.0, start_both at xs ys a.1 b)
start_both at (news.Done section turn ∷ xs) ys a b = start_both at xs ys a b
start_both at (news.Read end sections ∷ xs) ys a b = start_both at xs ys a b
start_both at (news.Line board line from ∷ xs) ys a b = start_both at xs ys a b

begun_start : (k i : ℕ) (ss : List Started) → StartAt (k + 260) (begun_notes k i ss)
begun_start k i [] = tt
begun_start k i (s ∷ ss) = elim (eqb_tells s.start (k + 260)) [ inl p ↦ rw p.0 (p.1, begun_start k (i + 1) ss) | inr p ↦ rw p.0 (begun_start k (i + 1) ss) ]

-- so a planner's note, which comes a turn behind that in which it was made
pub note_starts : (begun : List Started) (k : ℕ) (given : Option Note) → IsNoteOf begun (suc k) given → StartAt (k + 260) (news_of given)
note_starts begun k given is = search (rules, start_both, none_start, done_none, begun_start, news_of)

-- so they start far off
start_far : (at k : ℕ) (ns : List NoteNews) → k + 255 ≤ at → StartAt at ns → StartFar k ns
start_far at k [] l a = tt
start_far at k (news.Start section kind turn last moving ∷ ns) l a = (let e = a.0 in omega (arith, e, l), start_far at k ns l a.1)
start_far at k (news.Done section turn ∷ ns) l a = start_far at k ns l a
start_far at k (news.Read end sections ∷ ns) l a = start_far at k ns l a
start_far at k (news.Line board line from ∷ ns) l a = start_far at k ns l a

note_far : (begun : List Started) (k : ℕ) (given : Option Note) → IsNoteOf begun k given → StartFar k (news_of given)
note_far begun zero given is = subst (λ (o : Option Note). StartFar 0 (news_of o)) (sym is) tt
note_far begun (suc k) given is = start_far (k + 260) (suc k) (news_of given) (omega arith) (note_starts begun k given is)

pub all_far : (begun : List Started) (came : List Came) → CameNotes begun came → BeginFar came
all_far begun [] notes = tt
all_far begun (c ∷ before) notes = (note_far begun (length before) c.note notes.0, all_far begun before notes.1)

pub all_room : (m : Machine) (switches : List Switch) (b : ℕ) (begun : List Started) (came : List Came) → IsValidMachine m → CameNotes begun came → HaveRoom m switches b came
all_room m switches b begun came v notes = all-have m switches b came v (all_far begun came notes)
