-- Sections in a row.
use Rattle.std.proofs.Common.{◌≡◌, ◌≤◌, ◌+◌, ◌⊎◌, ℕ, List, [], ◌∷◌, ◌++◌, ap, arith, inl, inr, refl, subst, sym}
use Rattle.laws_board.proofs.Names.{Machine, Clocks, AreStarted, Started}
use Rattle.motion_work.proofs.Turning.{planned_late}
use Rattle.laws_board.specs.plans.Rows.{AreInARow}

-- sections in a row
abbrev pub Among : Started → List Started → Type 0
Among x [] = ⊥
Among x (s ∷ ss) = (x ≡ s) ⊎ Among x ss

pub among_here : (past : List Started) (x : Started) (later : List Started) → Among x (past ++ x ∷ later)
among_here [] x later = inl refl
among_here (y ∷ past) x later = inr (among_here past x later)

pub among_parts : (x : Started) (past : List Started) (s : Started) (later : List Started) → Among x (past ++ s ∷ later) → Among x past ⊎ ((x ≡ s) ⊎ Among x later)
among_parts x [] s later a = inr a
among_parts x (y ∷ past) s later (inl e) = inl (inl e)
among_parts x (y ∷ past) s later (inr a) = elim (among_parts x past s later a) [ inl b ↦ inl (inr b) | inr b ↦ inr b ]

pub row_from : (ready : ℕ) (past : List Started) (s : Started) (later : List Started) → AreInARow ready (past ++ s ∷ later) → (ready ≤ s.start) × (s.start ≤ s.end)
row_from ready [] s later r = (r.0, r.1)
row_from ready (y ∷ past) s later r = let a = r.0 in let b = r.1 in let c = row_from (y.end + 260) past s later r.2 in let d = c.0 in (omega (arith, a, b, d), c.1)

pub row_past : (ready : ℕ) (x : Started) (past : List Started) (s : Started) (later : List Started) → AreInARow ready (past ++ s ∷ later) → Among x past → (x.start ≤ x.end) × (x.end + 260 ≤ s.start)
row_past ready x [] s later r a = absurd a
row_past ready x (y ∷ past) s later r (inl e) =
    let Of : Started → Type 0 = λ z. (z.start ≤ z.end) × (z.end + 260 ≤ s.start) in
    subst Of (sym e) (r.1, (row_from (y.end + 260) past s later r.2).0)
row_past ready x (y ∷ past) s later r (inr a) = row_past (y.end + 260) x past s later r.2 a

row_all : (ready : ℕ) (x : Started) (ss : List Started) → AreInARow ready ss → Among x ss → ready ≤ x.start
row_all ready x [] r a = absurd a
row_all ready x (s ∷ ss) r (inl e) = let a = r.0 in let same = ap (λ (z : Started). z.start) e in omega (arith, a, same)
row_all ready x (s ∷ ss) r (inr a) = let b = r.0 in let c = r.1 in let d = row_all (s.end + 260) x ss r.2 a in omega (arith, b, c, d)

pub row_later : (ready : ℕ) (x : Started) (past : List Started) (s : Started) (later : List Started) → AreInARow ready (past ++ s ∷ later) → Among x later → s.end + 260 ≤ x.start
row_later ready x [] s later r a = row_all (s.end + 260) x later r.2 a
row_later ready x (y ∷ past) s later r a = row_later (y.end + 260) x past s later r.2 a

-- the sections that a planner began
pub begun_row : (m : Machine) (clocks : List Clocks) (ready : ℕ) (begun : List Started) → AreStarted m clocks ready begun → AreInARow ready begun
begun_row m clocks ready [] a = tt
begun_row m clocks ready (s ∷ ss) a =
    let start = a.0.start in
    (omega (arith, start), planned_late s.section.kind m clocks s a.0.planned, begun_row m clocks (s.end + 260) ss a.1)
