-- The steppers that move, by their bits.
use Rattle.std.proofs.Common.{◌≡◌, ℕ, zero, suc, ◌+◌, ◌*◌, ◌/◌, ◌%◌, ◌<◌, ◌≤◌, Bool, true, false, cond, List, [], ◌∷◌, ◌++◌, get_or, length, map, refl, ap, sym, ◌∙◌, subst, arith, inl, inr}
use Rattle.std.specs.Prelude.{◌==◌, ◌&&◌, ◌||◌, nat_lt}
use Rattle.laws_board.proofs.Names.{eq-eqb, eqb_tells, leb_tells, nat_tests, AxisDef, BoardDef, Machine, Move, Member, steppers, unseen, members_from}
use Rattle.plan_types.specs.declared.machine.StepperDef.{StepperDef}
use Rattle.plan_types.specs.Machines.{no_stepper}
use Rattle.trigger_group.specs.Group.{bits}
use Rattle.trigger_group.specs.Kept.{movers}
use Rattle.axis_homing.specs.Homing.{moving_on}
use Rattle.laws_board.specs.clocks.Samples.{IsAmong}
use Rattle.motion_work.specs.Homes.{moving_among, one_moving}
use Rattle.laws_board.proofs.plans.Placing.{count_on}
use Rattle.laws_homing.specs.home_runs.Sections.{Moves}
use Rattle.plan_types.proofs.Facts.{first_of_both}
use Rattle.axis_homing.proofs.Room.{either-few}

-- a bit of a word
abbrev pub HasBit : ℕ → ℕ → Type 0
HasBit zero word = word % 2 ≡ 1
HasBit (suc k) word = HasBit k (word / 2)

-- a word by its lowest bit
low_of : (bit rest : ℕ) → bit ≤ 1 → ((bit + 2 * rest) % 2 ≡ bit) × ((bit + 2 * rest) / 2 ≡ rest)
low_of bit rest h = (omega (arith, h), omega (arith, h))

-- the steppers that a move moves
pub moving_bit : (corexy : Bool) (one : Move) (drive : ℕ) → one_moving corexy one drive ≤ 1
moving_bit corexy one drive = either-few _

pub among_bit : (corexy : Bool) (one : Move) (k : ℕ) (ss : List StepperDef) → k < length ss → one_moving corexy one (get_or ss k no_stepper).drive ≡ 1 → HasBit k (moving_among corexy one ss)
among_bit corexy one k [] h e = absurd (omega (arith, h))
among_bit corexy one zero (s ∷ ss) h e = (low_of (one_moving corexy one s.drive) (moving_among corexy one ss) (moving_bit corexy one s.drive)).0 ∙ e
among_bit corexy one (suc k) (s ∷ ss) h e =
    let half = (low_of (one_moving corexy one s.drive) (moving_among corexy one ss) (moving_bit corexy one s.drive)).1 in
    subst (HasBit k) (sym half) (among_bit corexy one k ss (omega (arith, h)) e)

-- of which those of a board
behind_if : (b : Bool) (i s : ℕ) (rest : List ℕ) → IsAmong s rest → IsAmong s (cond b (i ∷ []) [] ++ rest)
behind_if true i s rest a = inr a
behind_if false i s rest a = a

here_if : (b : Bool) (i : ℕ) (rest : List ℕ) → b ≡ true → IsAmong i (cond b (i ∷ []) [] ++ rest)
here_if true i rest e = inl refl
here_if false i rest e = absurd (let f : false ≡ true = e in cc)

pub on_bit : (b i n k word : ℕ) (ss : List StepperDef) → k < n → k < length ss → (get_or ss k no_stepper).board ≡ b → HasBit k word → IsAmong (i + k) (bits i n (moving_on b word ss))
on_bit b i zero k word ss low h on bit = absurd (omega (arith, low))
on_bit b i (suc n) k word [] low h on bit = absurd (omega (arith, h))
on_bit b i (suc n) zero word (x ∷ ss) low h on bit =
    let c = (x.board == b) && (word % 2 == 1) in
    let rest = moving_on b (word / 2) ss in
    let w = moving_on b word (x ∷ ss) in
    let yes : c ≡ true = rw (eq-eqb x.board b on, eq-eqb (word % 2) 1 bit) refl in
    let one : w % 2 ≡ 1 = (low_of (cond c 1 0) rest (either-few c)).0 ∙ ap (λ (z : Bool). cond z 1 0) yes in
    let same : i ≡ i + 0 = omega arith in
    subst (λ z. IsAmong z (bits i (suc n) w)) same (here_if (w % 2 == 1) i (bits (i + 1) n (w / 2)) (eq-eqb (w % 2) 1 one))
on_bit b i (suc n) (suc k) word (x ∷ ss) low h on bit =
    let c = (x.board == b) && (word % 2 == 1) in
    let rest = moving_on b (word / 2) ss in
    let w = moving_on b word (x ∷ ss) in
    let half : w / 2 ≡ rest = (low_of (cond c 1 0) rest (either-few c)).1 in
    let same : i + 1 + k ≡ i + suc k = omega arith in
    let later = on_bit b (i + 1) n k (word / 2) ss (omega (arith, low)) (omega (arith, h)) on bit in
    let At : ℕ → Type 0 = λ z. IsAmong (i + 1 + k) (bits (i + 1) n z) in
    subst (λ z. IsAmong z (bits i (suc n) w)) same (behind_if (w % 2 == 1) i (i + 1 + k) (bits (i + 1) n (w / 2)) (subst At (sym half) later))

pub no_bits : (i n s : ℕ) → IsAmong s (bits i n 0) → ⊥
no_bits i zero s a = a
no_bits i (suc n) s a = no_bits (i + 1) n s a

-- the members
unfold_steppers : (b moving s : ℕ) (e : Bool) → IsAmong s (bits 0 16 moving) → IsAmong s (steppers (unseen (record { board = b; endstop = e; moving = moving })))
unfolding steppers
unfold_steppers b moving s e a = a

pub moves_from : (m : Machine) (axis : AxisDef) (b moving s n : ℕ) (boards : List BoardDef) → n ≤ b → b < n + length boards → IsAmong s (bits 0 16 (moving_on b moving m.steppers)) → Moves b s (members_from m axis moving n boards)
moves_from m axis b moving s n [] low high a = absurd (omega (arith, low, high))
moves_from m axis b moving s n (d ∷ boards) low high a = elim (leb_tells (suc n) b) [
  | inl p ↦ later ((axis.board == n) || nat_lt 0 (moving_on n moving m.steppers)) (moves_from m axis b moving s (n + 1) boards (let far = p.1 in omega (arith, far)) (omega (arith, high)) a)
  | inr p ↦
      let same : b ≡ n = (let near = p.1 in omega (arith, near, low)) in
      let Of : ℕ → Type 0 = λ z. IsAmong s (bits 0 16 (moving_on z moving m.steppers)) in
      let To : ℕ → Type 0 = λ z. Moves z s (members_from m axis moving n (d ∷ boards)) in
      subst To (sym same) (here (axis.board == n) (moving_on n moving m.steppers) (subst Of same a))
]
  where
    rest : List Member
    rest = members_from m axis moving (n + 1) boards

    own : Member
    own = record { board = n; endstop = axis.board == n; moving = moving_on n moving m.steppers }

    later : (c : Bool) → Moves b s rest → Moves b s (cond c (own ∷ []) [] ++ rest)
    later true x = inr x
    later false x = x

    here_some : (c : Bool) (word : ℕ) → c ≡ true → IsAmong s (bits 0 16 word) → Moves n s (cond c (record { board = n; endstop = false; moving = word } ∷ []) [] ++ rest)
    here_some true word e x = inl (refl, unfold_steppers n word s false x)
    here_some false word e x = absurd (let f : false ≡ true = e in cc)

    here : (e : Bool) (word : ℕ) → IsAmong s (bits 0 16 word) → Moves n s (cond (e || nat_lt 0 word) (record { board = n; endstop = e; moving = word } ∷ []) [] ++ rest)
    here true word x = inl (refl, unfold_steppers n word s true x)
    here false zero x = absurd (no_bits 0 16 s x)
    here false (suc word) x = here_some (nat_lt 0 (suc word)) (suc word) (grind (arith, nat_tests)) x

-- and at most as many steppers move as there are
one_count : (c d : Bool) (i n v w count rest : ℕ) → (c ≡ true → d ≡ true) → v ≡ cond c 1 0 → w ≡ rest → length (bits (i + 1) n rest) ≤ count → length (cond (v == 1) (i ∷ []) [] ++ bits (i + 1) n w) ≤ cond d (1 + count) count
one_count true true i n v w count rest f e g h = rw (e, g) (omega (arith, h))
one_count true false i n v w count rest f e g h = absurd (let x : false ≡ true = f refl in cc)
one_count false true i n v w count rest f e g h = rw (e, g) (omega (arith, h))
one_count false false i n v w count rest f e g h = rw (e, g) h

none_long : (i n : ℕ) → length (bits i n 0) ≤ 0
none_long i zero = omega arith
none_long i (suc n) = none_long (i + 1) n

count_bits : (i n b word : ℕ) (ss : List StepperDef) → length (bits i n (moving_on b word ss)) ≤ count_on b ss
count_bits i zero b word ss = omega arith
count_bits i (suc n) b word [] = none_long (i + 1) n
count_bits i (suc n) b word (x ∷ ss) =
    let c = (x.board == b) && (word % 2 == 1) in
    let rest = moving_on b (word / 2) ss in
    let w = moving_on b word (x ∷ ss) in
    let low = low_of (cond c 1 0) rest (either-few c) in
    one_count c (x.board == b) i n (w % 2) (w / 2) (count_on b ss) rest (first_of_both (x.board == b) (word % 2 == 1)) low.0 low.1 (count_bits (i + 1) n b (word / 2) ss)

-- of all boards
abbrev Sum : ℕ → List BoardDef → List StepperDef → ℕ
Sum n [] ss = 0
Sum n (d ∷ boards) ss = count_on n ss + Sum (n + 1) boards ss

other_count : (n : ℕ) (x : StepperDef) (ss : List StepperDef) → x.board < n → count_on n (x ∷ ss) ≡ count_on n ss
other_count n x ss h = elim (eqb_tells x.board n) [ inl p ↦ absurd (let e = p.1 in omega (arith, e, h)) | inr p ↦ rw p.0 refl ]

sum_other : (n : ℕ) (boards : List BoardDef) (x : StepperDef) (ss : List StepperDef) → x.board < n → Sum n boards (x ∷ ss) ≤ Sum n boards ss
sum_other n [] x ss h = omega arith
sum_other n (d ∷ boards) x ss h =
    let a = other_count n x ss h in
    let r = sum_other (n + 1) boards x ss (omega (arith, h)) in
    omega (arith, a, r)

sum_more : (n : ℕ) (boards : List BoardDef) (x : StepperDef) (ss : List StepperDef) → Sum n boards (x ∷ ss) ≤ 1 + Sum n boards ss
sum_more n [] x ss = omega arith
sum_more n (d ∷ boards) x ss = elim (eqb_tells x.board n) [
  | inl p ↦
      let at = p.1 in
      let one : count_on n (x ∷ ss) ≡ 1 + count_on n ss = rw p.0 refl in
      let r = sum_other (n + 1) boards x ss (omega (arith, at)) in
      omega (arith, one, r)
  | inr p ↦
      let none : count_on n (x ∷ ss) ≡ count_on n ss = rw p.0 refl in
      let r = sum_more (n + 1) boards x ss in
      omega (arith, none, r)
]

sum_none : (n : ℕ) (boards : List BoardDef) → Sum n boards [] ≤ 0
sum_none n [] = omega arith
sum_none n (d ∷ boards) = let r = sum_none (n + 1) boards in omega (arith, r)

sum_all : (n : ℕ) (boards : List BoardDef) (ss : List StepperDef) → Sum n boards ss ≤ length ss
sum_all n boards [] = sum_none n boards
sum_all n boards (x ∷ ss) = let a = sum_more n boards x ss in let r = sum_all n boards ss in omega (arith, a, r)

steppers_long : (b moving : ℕ) (e : Bool) → length (steppers (unseen (record { board = b; endstop = e; moving = moving }))) ≡ length (bits 0 16 moving)
unfolding steppers
steppers_long b moving e = refl

movers_if : (c : Bool) (n word : ℕ) (e : Bool) (count more : ℕ) (rest : List Member) → length (bits 0 16 word) ≤ count → movers (map unseen rest) ≤ more → movers (map unseen (cond c (record { board = n; endstop = e; moving = word } ∷ []) [] ++ rest)) ≤ count + more
movers_if true n word e count more rest h r = let a = steppers_long n word e in omega (arith, a, h, r)
movers_if false n word e count more rest h r = omega (arith, r)

movers_from : (m : Machine) (axis : AxisDef) (moving n : ℕ) (boards : List BoardDef) → movers (map unseen (members_from m axis moving n boards)) ≤ Sum n boards m.steppers
movers_from m axis moving n [] = omega arith
movers_from m axis moving n (d ∷ boards) =
    let word = moving_on n moving m.steppers in
    movers_if ((axis.board == n) || nat_lt 0 word) n word (axis.board == n) (count_on n m.steppers) (Sum (n + 1) boards m.steppers) (members_from m axis moving (n + 1) boards) (count_bits 0 16 n moving m.steppers) (movers_from m axis moving (n + 1) boards)

pub movers_few : (m : Machine) (axis : AxisDef) (moving : ℕ) → movers (map unseen (members_from m axis moving 0 m.boards)) ≤ length m.steppers
movers_few m axis moving =
    let a = movers_from m axis moving 0 m.boards in
    let b = sum_all 0 m.boards m.steppers in
    omega (arith, a, b)
