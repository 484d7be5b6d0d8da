-- No section of a run starts late.
use Rattle.std.proofs.Common.{◌≡◌, ◌⊎◌, ℕ, zero, suc, ◌+◌, ◌^◌, ◌<◌, ◌≤◌, Bool, true, false, List, [], ◌∷◌, ◌++◌, All, get_or, length, refl, ap, sym, ◌∙◌, subst, arith, inl, inr, rules}
use Rattle.std.specs.Prelude.{◌==◌, if◌then◌else◌}
use Rattle.laws_board.proofs.Names.{eqb_tells, leb_tells, flat_map-append, length-map, Machine, Note, NoteNews, ReportLine, Started, machine_line, MotionTurn, ReactorTurn, gather}
use Rattle.msg_code.specs.declared.talk.NoteNews.TheVariants as news
use Rattle.report_text.specs.declared.line.ReportLine.TheVariants as report
use Rattle.motion_work.specs.Puts.{ArePut, begun_notes}
use Rattle.motion_work.specs.Turns.{done_notes}
use Rattle.session_work.specs.declared.seat.Seat.{Seat}
use Rattle.session_work.specs.Motions.{MotionStep}
use Rattle.session_work.specs.Turns.{Goes}
use Rattle.session_run.specs.declared.motion.Planning.{Planning}
use Rattle.session_run.specs.Machines.{planner}
use Rattle.laws_board.specs.plans.Lines.{TellTurns, TellsTurn, head_in, heads_of, starts_at}
use Rattle.laws_board.specs.plans.Planned.{Plans, put_of, puts_of}
use Rattle.laws_board.proofs.plans.Beginning.{Spread}
use Rattle.laws_board.proofs.plans.Spreading.{plans_spread}
use Rattle.laws_run.specs.run_limits.Limits.{AreLow, start_limit}

-- a planner has news in turns before 2^42 alone
abbrev AreEarly : ℕ → List MotionTurn → Type 0
AreEarly k [] = Unit {0}
AreEarly k (t ∷ ts) = ((t.note.news ≡ []) ⊎ (k < 2 ^ 42)) × AreEarly (k + 1) ts

turn_early : (n k : ℕ) (x : Seat Planning) (t : MotionTurn) (y : Seat Planning) → MotionStep planner n k x t y → (t.note.news ≡ []) ⊎ (k < 2 ^ 42)
turn_early n k x t y (a, b, hearing, heard, feeding, fed, (same, halted, count, inl made)) = let (awake, loud, still, out, note, made_by) = made in inr made_by.0.small
turn_early n k x t y (a, b, hearing, heard, feeding, fed, (same, halted, count, inr bare)) = let (batches, note, how) = bare in inl (ap (λ (z : Note). z.news) note)

turns_early : (n k : ℕ) (ts : List MotionTurn) (x e : Seat Planning) → Goes (MotionStep planner n) k x ts e → AreEarly k ts
turns_early n k [] x e h = tt
turns_early n k (t ∷ ts) x e (y, step, more) = (turn_early n k x t y step, turns_early n (k + 1) ts y e more)

early_front : (k : ℕ) (xs ys : List MotionTurn) → AreEarly k (xs ++ ys) → AreEarly k xs
early_front k [] ys h = tt
early_front k (x ∷ xs) ys h = (h.0, early_front (k + 1) xs ys h.1)

-- in the turn in which it begins a section it has some
begun_some : (k i n : ℕ) (ss : List Started) (d : Started) → n < length ss → (get_or ss n d).start ≡ k + 260 → begun_notes k i ss ≡ [] → ⊥
begun_some k i n [] d lt e none = absurd (omega (arith, lt))
begun_some k i zero (s ∷ ss) d lt e none =
    let At : Bool → Type 0 = λ b. (if b then news.Start i s.section.kind s.start s.last s.moving ∷ begun_notes k (i + 1) ss else begun_notes k (i + 1) ss) ≡ [] in
    elim (eqb_tells s.start (k + 260)) [ inl p ↦ (let f = subst At p.0 none in cc) | inr p ↦ p.1 e ]
begun_some k i (suc n) (s ∷ ss) d lt e none =
    let At : Bool → Type 0 = λ b. (if b then news.Start i s.section.kind s.start s.last s.moving ∷ begun_notes k (i + 1) ss else begun_notes k (i + 1) ss) ≡ [] in
    elim (eqb_tells s.start (k + 260)) [ inl p ↦ (let f = subst At p.0 none in cc) | inr p ↦ begun_some k (i + 1) n ss d (omega (arith, lt)) e (subst At p.0 none) ]

none_right : (xs ys : List NoteNews) → xs ++ ys ≡ [] → ys ≡ []
none_right [] ys e = e
none_right (x ∷ xs) ys e = cc

none_left : (xs ys : List NoteNews) → xs ++ ys ≡ [] → xs ≡ []
none_left [] ys e = refl
none_left (x ∷ xs) ys e = cc

begun_early : (m : Machine) (text : List ℕ) (begun : List Started) (k : ℕ) (made : List MotionTurn) (n : ℕ) (d : Started) → n < length begun → ArePut m text begun k (puts_of made) → AreEarly k made → k + 260 ≤ (get_or begun n d).start
    → (get_or begun n d).start < k + length made + 260 → (get_or begun n d).start < start_limit
begun_early m text begun k [] n d lt put early low high = absurd (omega (arith, low, high))
begun_early m text begun k (t ∷ made) n d lt put early low high = elim (leb_tells (suc (k + 260)) (get_or begun n d).start) [
  | inl p ↦ begun_early m text begun (k + 1) made n d lt put.1 early.1 (omega (arith, p.1)) (omega (arith, high))
  | inr p ↦
      let now : (get_or begun n d).start ≡ k + 260 = omega (arith, p.1, low) in
      elim early.0 [
        | inl none ↦
            let one = put.0 in
            let e = sym one.news_are ∙ none in
            absurd (begun_some k 0 n begun d lt now (none_left (begun_notes k 0 begun) (one.read ++ one.further) (none_right (done_notes k 0 begun) (begun_notes k 0 begun ++ (one.read ++ one.further)) e)))
        | inr small ↦ omega (arith, now, small)
      ]
]

spread_late : (x n : ℕ) (ss : List Started) (d : Started) → Spread x ss → n < length ss → x ≤ (get_or ss n d).start
spread_late x n [] d h lt = absurd (omega (arith, lt))
spread_late x zero (s ∷ ss) d h lt = h.0
spread_late x (suc n) (s ∷ ss) d h lt = (let later = spread_late (s.start + 260) n ss d h.1 (omega (arith, lt)) in omega (arith, later, h.0))

-- so no section that was begun starts late
pub starts_early : (m : Machine) (n : ℕ) (ts : List MotionTurn) (p : Plans m n ts) (boards : ℕ) (x e : Seat Planning) → Goes (MotionStep planner boards) 0 x ts e → All (λ s. s.start < start_limit) p.seen.begun
starts_early m n ts p boards x e goes = search (rules, early_front, turns_early, length-map, begun_early, spread_late, plans_spread)

pub low_both : (xs ys : List ReportLine) → AreLow xs → AreLow ys → AreLow (xs ++ ys)
low_both [] ys a b = b
low_both (x ∷ xs) ys a b = (a.0, low_both xs ys a.1 b)

-- and none has a greater number than its turn
starts_low : (k i x : ℕ) (ss : List Started) → i ≤ x → Spread x ss → All (λ s. s.start < start_limit) ss → AreLow (heads_of (starts_at k i ss))
starts_low k i x [] low spread early = tt
starts_low k i x (s ∷ ss) low spread early =
    let At : Bool → Type 0 = λ b. AreLow (heads_of ((if b then report.Section i k s.section.kind ∷ [] else []) ++ starts_at k (i + 1) ss)) in
    let late = spread.0 in
    let here = early 0 s (omega arith) in
    let rest = starts_low k (i + 1) (s.start + 260) ss (omega (arith, low, late)) spread.1 (λ n d lt. early (suc n) d (omega (arith, lt))) in
    elim (eqb_tells s.start k) [
      | inl p ↦ subst At (sym p.0) ((omega (arith, low, late, p.1), omega (arith, here, p.1)), rest)
      | inr p ↦ subst At (sym p.0) rest
    ]

pub machine_none : (m : Machine) (k : ℕ) → heads_of (machine_line m k) ≡ []
machine_none m k = by (k == 0) where
  by : (b : Bool) → heads_of (if b then report.Machine m.corexy (length m.boards) (length m.steppers) ∷ [] else []) ≡ []
  by true = refl
  by false = refl

turn_low : (m : Machine) (ss : List Started) (k : ℕ) (t : ReactorTurn) → Spread 260 ss → All (λ s. s.start < start_limit) ss → TellsTurn m ss k t → AreLow (heads_of t.lines)
turn_low m ss k t spread early h = search (rules, flat_map-append, machine_line, machine_none, low_both, starts_low)

pub heads_low : (m : Machine) (ss : List Started) (k : ℕ) (ts : List ReactorTurn) → Spread 260 ss → All (λ s. s.start < start_limit) ss → TellTurns m ss k ts → AreLow (heads_of (gather (λ t. t.lines) ts))
heads_low m ss k [] spread early h = tt
heads_low m ss k (t ∷ ts) spread early h =
    let lines = gather (λ (x : ReactorTurn). x.lines) ts in
    subst AreLow (sym (flat_map-append head_in t.lines lines)) (low_both (heads_of t.lines) (heads_of lines) (turn_low m ss k t spread early h.0) (heads_low m ss (k + 1) ts spread early h.1))
