-- Notes that begin sections begin them where no homing section is known.
use Rattle.std.proofs.Common.{◌≡◌, ◌⊎◌, ℕ, suc, ◌+◌, ◌-◌, ◌*◌, ◌<◌, ◌≤◌, List, [], ◌∷◌, ◌++◌, length, append_assoc, length-append, Option, Some, None, refl, ap, sym, ◌∙◌, subst, arith, inl, inr}
use Rattle.laws_board.proofs.Names.{eqb_tells, Machine, Home, board_tick, clock_of, turn_ns, Clocks, lines_tick, board_at, clocks_at, AreKept, State, Switch, End, Homing, answer_in, goes_on_homing, hears_all, homing_after, Connecting, news_of, noted, Reacted, Came, GoesOn, known_by, last_reacted, Started, MotionTurn}
use Rattle.laws_board.proofs.clocks.Turning.{goes}
use Rattle.laws_board.specs.plans.Planned.{Plans}
use Rattle.laws_homing.specs.home_runs.Words.{BeginsNone}
use Rattle.laws_homing.proofs.home_runs.Knowing.{noted_none}
use Rattle.laws_homing.specs.home_plans.Notes.{CameNotes, IsNoteOf, WasBegun}
use Rattle.laws_board.specs.plans.Rows.{AreInARow}
use Rattle.laws_homing.proofs.home_plans.Fresh.{IsFresh, note_begins}
use Rattle.laws_homing.proofs.home_plans.Knowing.{now_was}
use Rattle.laws_homing.specs.home_parts.Answers.{ArePastConnecting, IsPlannedBy, TellsIn}
use Rattle.laws_homing.specs.home_parts.Known.{KnowsLately}
use Rattle.laws_homing.proofs.home_parts.Ends.{ends_told}
use Rattle.laws_homing.proofs.home_parts.Held.{tick_known}
use Rattle.laws_homing.proofs.home_parts.Told.{past_tail, tells_now, tells_tail}
use Rattle.laws_board.proofs.plans.Rows.{row_from}
use Rattle.laws_homing.proofs.clear_groups.Over.{told_over}
use Rattle.laws_homing.specs.fired_runs.Since.{AreNotAhead, BeginsApart}

-- what is known is of a homing section that starts by one turn, and doesn't end before another
abbrev pub IsOpen : List Started → ℕ → ℕ → Option Homing → Type 0
IsOpen begun by from None = Unit {0}
IsOpen begun by from (Some h) =
    (past : List Started) × (s : Started) × (later : List Started) × (axis : ℕ) × (begun ≡ past ++ s ∷ later) × (s.section.kind ≡ Home axis) × (s.start ≤ by) × (from ≤ s.end)

open_by : (begun : List Started) (by by' from : ℕ) (o : Option Homing) → by ≤ by' → IsOpen begun by from o → IsOpen begun by' from o
open_by begun by by' from None l i = tt
open_by begun by by' from (Some h) l i = let low = i.6 in (i.0, i.1, i.2, i.3, i.4, i.5, omega (arith, low, l), i.7)

-- sections in a row
pub row_of : (first : ℕ) (begun past : List Started) (s : Started) (later : List Started) → AreInARow first begun → begun ≡ past ++ s ∷ later → (first ≤ s.start) × (s.start ≤ s.end)
row_of first begun past s later row cut = let Row : List Started → Type 0 = λ ss. AreInARow first ss in row_from first past s later (subst Row cut row)

apart : (first : ℕ) (xs : List Started) (s : Started) (ys past : List Started) (x : Started) (later : List Started) → AreInARow first (xs ++ s ∷ ys) → xs ++ s ∷ ys ≡ past ++ x ∷ later → s.start < x.start → s.end + 260 ≤ x.start
apart first [] s ys [] x later row cut l = absurd (let same : s ≡ x = cc in let e = ap (λ (z : Started). z.start) same in omega (arith, e, l))
apart first [] s ys (y ∷ past) x later row cut l =
    let rest : ys ≡ past ++ x ∷ later = cc in
    (row_of (s.end + 260) ys past x later row.2 rest).0
apart first (z ∷ xs) s ys [] x later row cut l =
    let same : z ≡ x = cc in
    let e = ap (λ (w : Started). w.start) same in
    let order = row.1 in
    let behind = (row_from (z.end + 260) xs s ys row.2).0 in
    absurd (omega (arith, e, l, order, behind))
apart first (z ∷ xs) s ys (y ∷ past) x later row cut l =
    let rest : xs ++ s ∷ ys ≡ past ++ x ∷ later = cc in
    apart (z.end + 260) xs s ys past x later row.2 rest l

-- over a turn
fresh_open : (first : ℕ) (begun : List Started) (k : ℕ) (o : Option Homing) → AreInARow first begun → IsFresh begun (k + 259) o → IsOpen begun (k + 259) k o
fresh_open first begun k None row f = tt
fresh_open first begun k (Some h) row f =
    let start = f.6 in
    let order = (row_of first begun f.0 f.1 f.2 row f.4).1 in
    (f.0, f.1, f.2, f.3, f.4, f.5, omega (arith, start), omega (arith, start, order))

goes_open : (begun : List Started) (by from k : ℕ) (h : Homing) (o : Option End) → IsOpen begun by from (Some h) → IsOpen begun by from (goes_on_homing k h o)
goes_open begun by from k h None i = i
goes_open begun by from k h (Some end) i = tt

after_open : (begun : List Started) (by from : ℕ) (clocks : List Clocks) (k : ℕ) (states : List State) (o : Option Homing) → IsOpen begun by from o → IsOpen begun by from (homing_after clocks k states o)
after_open begun by from clocks k states None i = tt
after_open begun by from clocks k states (Some h) i = let g = hears_all clocks states h in goes_open begun by from k g (answer_in k g.start g.group) i

-- where a section's end is the turn, none is known behind it
ended_open : (begun : List Started) (by k : ℕ) (o : Option Homing) → ((past : List Started) (s : Started) (later : List Started) (axis : ℕ) → begun ≡ past ++ s ∷ later → s.section.kind ≡ Home axis → s.end ≡ k → o ≡ None) → IsOpen begun by k o → IsOpen begun by (suc k) o
ended_open begun by k None over i = tt
ended_open begun by k (Some h) over i =
    let late = i.7 in
    elim (eqb_tells i.1.end k) [
      | inl p ↦ absurd (let f : Some h ≡ None = over i.0 i.1 i.2 i.3 i.4 i.5 p.1 in cc)
      | inr p ↦ (let other = p.1 in (i.0, i.1, i.2, i.3, i.4, i.5, i.6, by_other i.1.end late other))
    ]
  where
    by_other : (n : ℕ) → k ≤ n → (n ≡ k → ⊥) → suc k ≤ n
    by_other n l other = elim (eqb_tells n k) [ inl p ↦ absurd (other p.1) | inr p ↦ (let q = p.1 in omega (arith, l, q)) ]

module _ (m : Machine) (switches : List Switch) (ts : List MotionTurn) (p : Plans m (length m.boards) ts) (ready first : ℕ) (early : ready + 260 ≤ first) (row : AreInARow first p.seen.begun) (came : List Came)
    (by : IsPlannedBy m switches (length m.boards) ts p came) (connected : ArePastConnecting m switches ready came) where
  over_at : (ahead : List Came) (c : Came) (before : List Came) → came ≡ ahead ++ c ∷ before → (past : List Started) (s : Started) (later : List Started) (axis : ℕ) → p.seen.begun ≡ past ++ s ∷ later → s.section.kind ≡ Home axis → s.end ≡ length before
      → GoesOn m switches (c ∷ before) → (known_by m switches (c ∷ before)).homing ≡ None
  over_at ahead c before are past s later axis cut home end on =
      let size = ap length are ∙ length-append ahead (c ∷ before) in
      let order = row_of first p.seen.begun past s later row cut in
      let start = order.0 in
      let late = order.1 in
      let Tells : List Came → Type 0 = λ z. TellsIn m switches s.end z in
      let Past : List Came → Type 0 = λ z. ArePastConnecting m switches ready z in
      let told = tells_tail m switches s.end ahead (c ∷ before) (omega (arith, end)) (subst Tells are (ends_told m switches (length m.boards) ts p came past s later axis by cut home (omega (arith, size, end)))) in
      told_over m switches c before on ((past_tail m switches ready ahead (c ∷ before) (subst Past are connected)).0 (omega (arith, end, start, late, early))) (tells_now m switches s.end c before (sym end) told)

  one_open : (c : Came) (before : List Came) → (last_reacted m switches c before).ordered.end ≡ None → IsNoteOf p.seen.begun (length before) c.note → IsOpen p.seen.begun (length before + 258) (length before) (known_by m switches before).homing
      → IsOpen p.seen.begun (length before + 259) (length before) (known_by m switches (c ∷ before)).homing
  one_open c before on is i =
      let k = length before in
      let known = known_by m switches before in
      let Now : Option Homing → Type 0 = λ o. IsOpen p.seen.begun (k + 259) k o in
      let now : Now (noted m c.note known).homing = elim (note_begins m p.seen.begun k c.note known is) [
        | inl none ↦ subst Now (sym (noted_none m c.note known none)) (open_by p.seen.begun (k + 258) (k + 259) k known.homing (omega arith) i)
        | inr x ↦ fresh_open first p.seen.begun k (noted m c.note known).homing row x.fresh
      ] in
      let So : Reacted → Type 0 = λ y. Now y.known.homing in
      elim (goes m switches known k c.states c.note on) [
        | inl x ↦ subst So (sym x.is) now
        | inr later ↦ elim later [ inl x ↦ subst So (sym x.is) now | inr x ↦ subst So (sym x.is) (after_open p.seen.begun (k + 259) k (noted m c.note known).clocks k c.states (noted m c.note known).homing now) ]
      ]

  pub open_in : (ahead behind : List Came) → came ≡ ahead ++ behind → GoesOn m switches behind → CameNotes p.seen.begun behind → IsOpen p.seen.begun (length behind + 258) (length behind) (known_by m switches behind).homing
  open_in ahead [] are on notes = tt
  open_in ahead (c ∷ before) are on notes =
      let k = length before in
      let rest : came ≡ (ahead ++ c ∷ []) ++ before = are ∙ sym (append_assoc ahead (c ∷ []) before) in
      let i = one_open c before on.0 notes.0 (open_in (ahead ++ c ∷ []) before rest on.1 notes.1) in
      let next = ended_open p.seen.begun (k + 259) k (known_by m switches (c ∷ before)).homing (λ past s later axis cut home end. over_at ahead c before are past s later axis cut home end on) i in
      open_by p.seen.begun (k + 259) (suc k + 258) (suc k) (known_by m switches (c ∷ before)).homing (omega arith) next

  pub none_open : (k : ℕ) (o : Option Homing) (past : List Started) (s : Started) (later : List Started) → p.seen.begun ≡ past ++ s ∷ later → s.start ≡ k + 259 → IsOpen p.seen.begun (k + 258) k o → o ≡ None
  none_open k None past s later cut start i = refl
  none_open k (Some h) past s later cut start i =
      let low = i.6 in
      let late = i.7 in
      let Row : List Started → Type 0 = λ ss. AreInARow first ss in
      let far = apart first i.0 i.1 i.2 past s later (subst Row i.4 row) (sym i.4 ∙ cut) (omega (arith, low, start)) in
      absurd (omega (arith, far, late, start))

  one_apart : (c : Came) (before : List Came) → IsNoteOf p.seen.begun (length before) c.note → IsOpen p.seen.begun (length before + 258) (length before) (known_by m switches before).homing
      → (ready < length before → (known_by m switches before).phase ≡ Connecting → ⊥)
      → BeginsNone (news_of c.note) ⊎ (((known_by m switches before).homing ≡ None)
      × ((h : Homing) → (noted m c.note (known_by m switches before)).homing ≡ Some h → ((known_by m switches before).phase ≡ Connecting → ⊥) × (length before + 251 ≤ h.start)))
  one_apart c before is i past = elim (note_begins m p.seen.begun (length before) c.note (known_by m switches before) is) [
    | inl none ↦ inl none
    | inr x ↦ inr (none_open (length before) (known_by m switches before).homing x.past x.s x.later x.are x.start i, λ h e. begins h (subst (λ (o : Option Homing). IsFresh p.seen.begun (length before + 259) o) e x.fresh))
  ]
    where
      begins : (h : Homing) → IsFresh p.seen.begun (length before + 259) (Some h) → ((known_by m switches before).phase ≡ Connecting → ⊥) × (length before + 251 ≤ h.start)
      begins h f =
          let at = f.6 in
          let start = f.7 in
          let after = (row_of first p.seen.begun f.0 f.1 f.2 row f.4).0 in
          (past (omega (arith, at, after, early)), omega (arith, at, start))

  pub all_apart : (ahead behind : List Came) → came ≡ ahead ++ behind → GoesOn m switches behind → CameNotes p.seen.begun behind → ArePastConnecting m switches ready behind → BeginsApart m switches behind
  all_apart ahead [] are on notes past = tt
  all_apart ahead (c ∷ before) are on notes past =
      let rest : came ≡ (ahead ++ c ∷ []) ++ before = are ∙ sym (append_assoc ahead (c ∷ []) before) in
      (one_apart c before notes.0 (open_in (ahead ++ c ∷ []) before rest on.1 notes.1) past.0, all_apart (ahead ++ c ∷ []) before rest on.1 notes.1 past.1)

  -- so do all notes up to the turn behind these
  pub begin_apart : (c : Came) → IsNoteOf p.seen.begun (length came) c.note → ((known_by m switches came).phase ≡ Connecting → ⊥) → BeginsApart m switches (c ∷ came)
  begin_apart c is past = (one_apart c came is (open_in [] came refl by.goes_on by.notes) (λ low. past), all_apart [] came refl by.goes_on by.notes connected)

-- the turns before the latest one
abbrev behind_one : List Came → List Came
behind_one [] = []
behind_one (c ∷ before) = before

goes_front : (m : Machine) (switches : List Switch) (rest : List Came) → GoesOn m switches rest → GoesOn m switches (behind_one rest)
goes_front m switches [] g = tt
goes_front m switches (d ∷ rest) g = g.1

-- as each of the planner's homing sections starts, a board that its clock lines track is no more than a turn ahead of those that are known
module _ (m : Machine) (switches : List Switch) (b ready first : ℕ) (begun : List Started) (clocks : List Clocks) (early : ready + 1 ≤ first) (row : AreInARow first begun) (kept : AreKept (clocks_at clocks b)) where
  abbrev pub Starts : ℕ → Type 0
  Starts n = (past : List Started) (s : Started) (later : List Started) (axis : ℕ) → begun ≡ past ++ s ∷ later → s.section.kind ≡ Home axis → s.start ≤ n
      → board_tick (clock_of (board_at m b)) (s.start - 1) ≤ lines_tick (clocks_at clocks b) (s.start * turn_ns)

  pub one_behind : (c : Came) (before : List Came) → GoesOn m switches before → CameNotes begun (c ∷ before) → KnowsLately m switches clocks (c ∷ before) → (ready < length before → (known_by m switches before).phase ≡ Connecting → ⊥) → Starts (length before)
      → (h : Homing) → (noted m c.note (known_by m switches before)).homing ≡ Some h → h.start ≤ length before
      → board_tick (clock_of (board_at m b)) (h.start - 1) ≤ lines_tick (clocks_at (noted m c.note (known_by m switches before)).clocks b) (h.start * turn_ns)
  one_behind c before on notes knows past starts h is late =
      let n = noted m c.note (known_by m switches before) in
      let was : WasBegun begun (Some h) = subst (λ (o : Option Homing). WasBegun begun o) is (now_was m switches begun c before on notes) in
      let begin = was.6 in
      let after = (row_of first begun was.0 was.1 was.2 row was.4).0 in
      let order = starts was.0 was.1 was.2 was.3 was.4 was.5 (omega (arith, begin, late)) in
      let open_it = past (omega (arith, begin, after, late, early)) in
      let same = tick_known n.clocks clocks (length before + 276) b was.1.start (knows.0 open_it) kept (omega (arith, begin, late)) in
      let At : ℕ → Type 0 = λ k. board_tick (clock_of (board_at m b)) (k - 1) ≤ lines_tick (clocks_at n.clocks b) (k * turn_ns) in
      subst At (sym begin) (omega (arith, order, same))

  pub all_behind : (came : List Came) → GoesOn m switches (behind_one came) → CameNotes begun came → KnowsLately m switches clocks came → ArePastConnecting m switches ready came → Starts (length came) → AreNotAhead m switches b came
  all_behind [] on notes knows past starts = tt
  all_behind (c ∷ before) on notes knows past starts =
      let low : Starts (length before) = λ xs s ys axis cut kind l. starts xs s ys axis cut kind (omega (arith, l)) in
      (one_behind c before on notes knows past.0 low, all_behind before (goes_front m switches before on) notes.1 knows.1 past.1 low)

-- so in a planner's run
pub so_begun : (m : Machine) (switches : List Switch) (b : ℕ) (ts : List MotionTurn) (p : Plans m (length m.boards) ts) (ready first : ℕ) (clocks : List Clocks) (came : List Came) → ready + 260 ≤ first → AreInARow first p.seen.begun
    → IsPlannedBy m switches (length m.boards) ts p came → ArePastConnecting m switches ready came → AreKept (clocks_at clocks b) → KnowsLately m switches clocks came
    → ((past : List Started) (s : Started) (later : List Started) (axis : ℕ) → p.seen.begun ≡ past ++ s ∷ later → s.section.kind ≡ Home axis → s.start ≤ length came
    → board_tick (clock_of (board_at m b)) (s.start - 1) ≤ lines_tick (clocks_at clocks b) (s.start * turn_ns)) → BeginsApart m switches came × AreNotAhead m switches b came
so_begun m switches b ts p ready first clocks came early row by connected kept knows starts = (
  all_apart m switches ts p ready first early row came by connected [] came refl by.goes_on by.notes connected,
  all_behind m switches b ready first p.seen.begun clocks (omega (arith, early)) row kept came (goes_front m switches came by.goes_on) by.notes knows connected starts,
)
