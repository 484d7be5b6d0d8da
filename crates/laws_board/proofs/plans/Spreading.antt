-- The sections of a planner stand 260 turns apart.
use Rattle.std.proofs.Common.{ℕ, ◌+◌, ◌≤◌, List, [], ◌∷◌, Option, Some, None, sym, subst, arith}
use Rattle.std.specs.Prelude.{max}
use Rattle.plan_types.specs.Sections.{first_start}
use Rattle.laws_board.proofs.Names.{Machine, Clocks, NoteNews, WordMsg, Started, Told, MotionTurn}
use Rattle.motion_work.specs.Further.{told_on}
use Rattle.motion_work.specs.Told.{heard, told_at}
use Rattle.motion_work.specs.Told as told
use Rattle.laws_board.specs.plans.Planned.{AreToldBy, Plans, connecting_heard, told_behind, told_of}
use Rattle.laws_board.proofs.plans.Beginning.{Spread, spread_of}

-- no section starts before turn 1,260
abbrev pub IsLate : Option Told → Type 0
IsLate None = Unit {0}
IsLate (Some t) = 1_260 ≤ t.first

at_late : (turn : ℕ) (o : Option (List Clocks)) → IsLate (told_at turn o)
at_late turn None = tt
at_late turn (Some clocks) = omega arith

heard_late : (m : Machine) (k : ℕ) (w : WordMsg) (o : Option Told) → IsLate o → IsLate (heard m k w o)
heard_late m k w None l = at_late (max k w.turn) (told.told_of m w)
heard_late m k w (Some t) l = l

words_late : (m : Machine) (k : ℕ) (ws : List WordMsg) (o : Option Told) → IsLate o → IsLate (connecting_heard m k ws o)
words_late m k [] o l = l
words_late m k (w ∷ ws) o l = words_late m k ws (heard m k w o) (heard_late m k w o l)

on_late : (ns : List NoteNews) (o : Option Told) → IsLate o → IsLate (told_on ns o)
on_late ns None l = l
on_late ns (Some t) l = l

pub turns_late : (m : Machine) (k : ℕ) (ts : List MotionTurn) (o : Option Told) → IsLate o → IsLate (told_of m k ts o)
turns_late m k [] o l = l
turns_late m k (t ∷ ts) o l = turns_late m (k + 1) ts (told_behind m k t o) (on_late t.note.news (connecting_heard m k t.words o) (words_late m k t.words o l))

told_spread : (m : Machine) (o : Option Told) (begun : List Started) → AreToldBy m o begun → IsLate o → Spread 260 begun
told_spread m None begun h l = subst (Spread 260) (sym h) tt
told_spread m (Some t) begun h l = spread_of m t.clocks t.first 260 begun h (omega (arith, l))

pub plans_spread : (m : Machine) (n : ℕ) (ts : List MotionTurn) (p : Plans m n ts) → Spread 260 p.seen.begun
plans_spread m n ts p = told_spread m p.seen.told p.seen.begun p.sections (subst IsLate (sym p.told_is) (turns_late m 0 p.made None tt))
