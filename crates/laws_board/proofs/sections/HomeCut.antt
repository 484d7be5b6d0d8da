-- Where the first unit that is queued too late stands, in a run in which axes home, and what is over by its turn.
use Rattle.std.proofs.Common.{◌≡◌, ℕ, zero, suc, Bool, true, false, ◌+◌, ◌<◌, ◌≤◌, ◌⊎◌, List, [], ◌∷◌, ◌++◌, All, length, Option, sym, ◌∙◌, subst, arith, inl, inr, append-nil}
use Rattle.laws_board.proofs.Names.{leb_tells, All-head, All-tail, Clocks, Cmd, Release, AreBefore, Orders, queued_in}
use Rattle.laws_board.specs.sections.Courses.{Course}
use Rattle.laws_board.specs.sections.Known.{AreQueued, Sent, sent_at, sent_in}
use Rattle.laws_board.specs.sections.Homes.{RunSection, IsSectionBy, AreInTurn, AreReleasedBy, AreSoonBy, AreSoon, BeginLeftOf, IsLeftOf, lost_at}
use Rattle.laws_board.proofs.sections.HomeLimits.{released_by}
use Rattle.laws_board.proofs.sections.HomeSections.{split_from, split_on, split_over, split_until}
use Rattle.laws_board.proofs.sections.Lists.{up_append, up_at}
use Rattle.laws_board.proofs.sections.Releasing.{after_turn}
use Rattle.laws_board.proofs.sections.Sectioning.{before_back}
use Rattle.laws_board.proofs.sections.Shutting.{AreSorted, sorted_in, up_to}

-- sections that are not over by a turn
released_later : (turns e : ℕ) (ss : List RunSection) → AreInTurn e ss → turns ≤ e + 5 → AreReleasedBy turns ss
released_later turns e [] row h = tt
released_later turns e (s ∷ ss) row h = (λ _ l. absurd (omega (arith, l, row.0, row.1, h)), released_later turns s.section.end ss row.2 (omega (arith, row.0, row.1, h)))

-- where none comes too late, what is left of a section is released by four turns behind its end, and so it is of those behind it
section_out : (turns : ℕ) (s : RunSection) (later : List RunSection) → AreInTurn s.section.end later
    → ((os : List Orders) (turn : ℕ) → turn + length os ≡ turns → turn ≤ s.section.end + 5 → (split_from later turn os).tail ≡ [] → AreReleasedBy turns later)
    → (os : List Orders) (turn : ℕ) (rs : List Release) → turn + length os ≡ turns → turn ≤ s.section.end + 5 → (split_on (split_from later) s.section.end rs turn os).tail ≡ []
    → (s.section.end + 5 < turns → AreBefore (s.section.end + 5) rs) × AreReleasedBy turns later
section_out turns s later row next [] turn rs long within = λ _. (λ h. absurd (omega (arith, long, within, h)), released_later turns s.section.end later row (omega (arith, long, within)))
section_out turns s later row next (o ∷ os) turn rs long within =
    elim (leb_tells (suc (s.section.end + 4)) turn) [
      | inl p ↦ rw p.0 (over rs)
      | inr p ↦ rw p.0 (λ e. (let y = section_out turns s later row next os (turn + 1) (after_turn turn rs) (omega (arith, long)) (omega (arith, p.1)) e in (λ h. before_back (s.section.end + 5) turn rs (omega (arith, p.1)) (y.0 h), y.1)))
    ]
  where
    some : {x : Sent} {xs : List Sent} → x ∷ xs ≡ [] → ⊥
    some e = cc

    over : (rs : List Release) → (split_over (split_from later) rs turn o os).tail ≡ [] → (s.section.end + 5 < turns → AreBefore (s.section.end + 5) rs) × AreReleasedBy turns later
    over [] = λ e. (λ _. tt, next (o ∷ os) turn long within e)
    over (r ∷ rs) = λ e. absurd (some e)

sections_out : (turns : ℕ) (ss : List RunSection) (e : ℕ) → AreInTurn e ss → (os : List Orders) (turn : ℕ) → turn + length os ≡ turns → turn ≤ e + 5 → (split_from ss turn os).tail ≡ [] → AreReleasedBy turns ss
sections_out turns [] e row os turn long within = λ _. tt
sections_out turns (s ∷ ss) e row os turn long within = λ none.
    let y = section_out turns s ss row.2 (λ ps k l h. sections_out turns ss s.section.end row.2 ps k l h) os turn s.section.releases long (omega (arith, within, row.0, row.1)) none in
    (λ _ h. y.0 h, y.1)

-- from a run's first turn on
pub until_out : (turns : ℕ) (ss : List RunSection) (ready : ℕ) → AreInTurn ready ss → (m : ℕ) (os : List Orders) (turn : ℕ) → turn + m ≡ ready → turn + length os ≡ turns → (split_until ss m turn os).tail ≡ [] → AreReleasedBy turns ss
until_out turns ss ready row m [] turn at long = λ _. released_later turns ready ss row (omega (arith, at, long))
until_out turns ss ready row zero (o ∷ os) turn at long = sections_out turns ss ready row (o ∷ os) turn long (omega (arith, at))
until_out turns ss ready row (suc m) (o ∷ os) turn at long = until_out turns ss ready row m os (turn + 1) (omega (arith, at)) (omega (arith, long))

-- by it all that stands before it was queued
queued_up : (turn until : ℕ) (ss : List Sent) → turn ≤ until → AreQueued turn ss → AreQueued until ss
queued_up turn until [] h a = tt
queued_up turn until (s ∷ ss) h a = (omega (arith, a.0, h), queued_up turn until ss h a.1)

all_queued : (turn until : ℕ) (os : List Orders) → turn + length os ≤ until → AreQueued until (sent_in turn os)
all_queued turn until [] h = tt
all_queued turn until (o ∷ os) h =
    up_append until (sent_at turn (queued_in o)) (sent_in (turn + 1) os) (queued_up turn until (sent_at turn (queued_in o)) (omega (arith, h)) (up_at turn (queued_in o))) (all_queued (turn + 1) until os (omega (arith, h)))

pub front_queued : (os : List Orders) (front tail : List Sent) → front ++ tail ≡ sent_in 0 os → AreQueued (lost_at (length os) tail) front
front_queued os front [] are = let At : List Sent → Type 0 = λ x. AreQueued (length os) x in subst At (sym are ∙ append-nil front) (all_queued 0 (length os) os (omega arith))
front_queued os front (t ∷ tail) are = let At : List Sent → Type 0 = λ x. AreSorted x in up_to front t tail (subst At (sym are) (sorted_in 0 os))

-- and by it what is released of a section is so by the fifth turn behind its end
soon_by : (until end : ℕ) (rs : List Release) → until ≤ end + 5 → AreSoonBy until end rs
soon_by until end [] h = tt
soon_by until end (r ∷ rs) h = (λ a. omega (arith, a, h), soon_by until end rs h)

soon_later : (until e : ℕ) (ss : List RunSection) → AreInTurn e ss → until ≤ e + 5 → AreSoon until ss
soon_later until e [] row h = tt
soon_later until e (s ∷ ss) row h =
    let far : until ≤ s.section.end + 5 = omega (arith, row.0, row.1, h) in
    (soon_by until s.section.end s.section.releases far, soon_later until s.section.end ss row.2 far)

module _ (clocks : Clocks) (freq slots last : ℕ) (stops : ℕ → Option ℕ) (until : ℕ) where
  abbrev Is : RunSection → Type 0
  Is s = IsSectionBy s.homes clocks freq slots last stops s.section

  out_soon : (ss : List RunSection) → All Is ss → AreReleasedBy until ss → AreSoon until ss
  out_soon [] i w = tt
  out_soon (s ∷ ss) i w = (
    elim (leb_tells (suc (s.section.end + 5)) until) [
      | inl p ↦ released_by clocks freq slots last until stops s.homes s.section (All-head Is s ss i) (λ moves. w.0 moves p.1)
      | inr p ↦ soon_by until s.section.end s.section.releases (omega (arith, p.1))
    ],
    out_soon ss (All-tail Is s ss i) w.1,
  )

  left_soon : (e : ℕ) (ss : List RunSection) (cs : ℕ → Course) (c : Cmd) → AreInTurn e ss → All Is ss → IsLeftOf ss cs until c → AreSoon until ss
  left_soon e [] cs c row i left = absurd left
  left_soon e (s ∷ ss) cs c row i (inl left) = (soon_by until s.section.end s.section.releases (omega (arith, left.1)), soon_later until s.section.end ss row.2 (omega (arith, left.1)))
  left_soon e (s ∷ ss) cs c row i (inr left) = (released_by clocks freq slots last until stops s.homes s.section (All-head Is s ss i) left.0, left_soon s.section.end ss cs c row.2 (All-tail Is s ss i) left.1)

pub split_soon : (clocks : Clocks) (freq slots last turns e : ℕ) (stops : ℕ → Option ℕ) (ss : List RunSection) (cs : ℕ → Course) (tail : List Sent) → AreInTurn e ss
    → All (λ s. IsSectionBy s.homes clocks freq slots last stops s.section) ss → BeginLeftOf turns ss cs tail → AreSoon (lost_at turns tail) ss
split_soon clocks freq slots last turns e stops ss cs [] row i begun = out_soon clocks freq slots last stops turns ss i begun
split_soon clocks freq slots last turns e stops ss cs (t ∷ tail) row i begun = left_soon clocks freq slots last stops t.turn e ss cs t.order.command row i begun

-- a homing section of which a part was begun by that turn has ended by then
later_past : (until e : ℕ) (ss : List RunSection) (cs : ℕ → Course) (c : Cmd) → AreInTurn e ss → IsLeftOf ss cs until c → e + 265 ≤ until
later_past until e [] cs c row i = absurd i
later_past until e (s ∷ ss) cs c row (inl i) = omega (arith, row.0, row.1, i.1)
later_past until e (s ∷ ss) cs c row (inr i) = omega (arith, row.0, row.1, later_past until s.section.end ss cs c row.2 i.1)

pub start_behind : (e : ℕ) (past : List RunSection) (s : RunSection) (later : List RunSection) → AreInTurn e (past ++ s ∷ later) → e + 260 ≤ s.section.start
start_behind e [] s later row = row.0
start_behind e (x ∷ past) s later row = omega (arith, row.0, row.1, start_behind x.section.end past s later row.2)

moves_apart : (until e : ℕ) (past : List RunSection) (s : RunSection) (later : List RunSection) (cs : ℕ → Course) (c : Cmd) → AreInTurn e (past ++ s ∷ later) → s.homes ≡ true → IsLeftOf (past ++ s ∷ later) cs until c
    → (until + 255 ≤ s.section.start) ⊎ (s.section.end + 265 ≤ until)
moves_apart until e [] s later cs c row home (inl i) = absurd (clash s.homes home i.0)
  where
    clash : (b : Bool) → b ≡ true → b ≡ false → ⊥
    clash true x y = cc
    clash false x y = cc
moves_apart until e [] s later cs c row home (inr i) = inr (later_past until s.section.end later cs c row.2 i.1)
moves_apart until e (x ∷ past) s later cs c row home (inl i) = inl (omega (arith, i.1, start_behind x.section.end past s later row.2))
moves_apart until e (x ∷ past) s later cs c row home (inr i) = moves_apart until x.section.end past s later cs c row.2 home i.1

pub ended_by : (turns e : ℕ) (past : List RunSection) (s : RunSection) (later : List RunSection) (cs : ℕ → Course) (tail : List Sent) → AreInTurn e (past ++ s ∷ later) → BeginLeftOf turns (past ++ s ∷ later) cs tail → s.homes ≡ true
    → s.section.start ≤ lost_at turns tail + 254 → s.section.end ≤ turns → s.section.end ≤ lost_at turns tail
ended_by turns e past s later cs [] row begun home low within = within
ended_by turns e past s later cs (t ∷ tail) row begun home low within =
    elim (moves_apart t.turn e past s later cs t.order.command row home begun) [ inl far ↦ absurd (omega (arith, far, low)) | inr over ↦ omega (arith, over) ]
