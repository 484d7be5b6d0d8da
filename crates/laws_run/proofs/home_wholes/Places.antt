-- Where the sections that home stand to one of moves, and the set-ups of which homing sections a board is sent around it.
use Rattle.std.proofs.Common.{◌≡◌, ℕ, zero, suc, true, false, cond, ◌+◌, ◌-◌, ◌<◌, ◌≤◌, ◌⊎◌, inl, inr, Bool, List, [], ◌∷◌, ◌++◌, length, take, drop, Option, Some, refl, ap, sym, ◌∙◌, subst, arith, rules}
use Rattle.std.specs.Prelude.{◌&&◌}
use Rattle.laws_board.proofs.Names.{eqb_tells, leb_tells, BoardClock, Level, Machine, Home, Moves, Entry, Switch, AreTurns, orders, IsTurn, LinkState, Orders, Homing, noted, Came, GoesOn, known_by, Started}
use Rattle.std.proofs.lemmas.List.{take-append-le, take_all}
use Rattle.plan_types.specs.Sections.{is_home}
use Rattle.laws_board.specs.turns.Turns.{AreBoardTurns, BoardTurn, stands_after}
use Rattle.laws_board.specs.clocks.Runs.{IsInRun, orders_in}
use Rattle.laws_board.proofs.clocks.Lines.{as_long, run_before}
use Rattle.laws_board.proofs.clocks.Orders.{order_length}
use Rattle.laws_board.specs.plans.Homed.{is_set_in, stops_of}
use Rattle.laws_homing.proofs.home_runs.Settled.{later_orders}
use Rattle.laws_homing.specs.home_plans.Notes.{CameNotes, WasBegun}
use Rattle.laws_board.specs.plans.Rows.{AreInARow}
use Rattle.laws_homing.proofs.home_plans.Knowing.{now_was}
use Rattle.laws_board.proofs.plans.Rows.{Among, among_here, row_from, row_later, row_past}
use Rattle.laws_run.proofs.home_wholes.Resting.{AllAnswered}
use Rattle.laws_run.specs.home_wholes.Still.{BringStill, EachStill}
use Rattle.laws_run.proofs.home_wholes.Starting.{IsSettingUp, control_either}
use Rattle.link_work.proofs.Shut.{one_turn}

-- a section among others, by one of them
pub place_of : (past : List Started) (x : Started) (later us : List Started) (u : Started) (vs : List Started) → past ++ x ∷ later ≡ us ++ u ∷ vs → Among u past ⊎ ((u ≡ x) ⊎ Among u later)
place_of [] x later [] u vs e = inr (inl (let f : x ≡ u = cc in sym f))
place_of [] x later (y ∷ us) u vs e = inr (inr (let f : later ≡ us ++ u ∷ vs = cc in subst (λ (l : List Started). Among u l) (sym f) (among_here us u vs)))
place_of (y ∷ past) x later [] u vs e = inl (inl (let f : y ≡ u = cc in sym f))
place_of (y ∷ past) x later (z ∷ us) u vs e =
    let f : past ++ x ∷ later ≡ us ++ u ∷ vs = cc in
    elim (place_of past x later us u vs f) [ inl a ↦ inl (inr a) | inr b ↦ inr b ]

kinds_differ : (axis : ℕ) → Home axis ≡ Moves → ⊥
kinds_differ axis e = cc

-- where the part of a homing section's steps stops that is begun in a turn
set_before : (x y turn : ℕ) → x + 260 ≤ y → y ≤ turn + 254 → is_set_in x turn ≡ false
set_before x y turn h l = search (rules, leb_tells)

set_now : (x turn : ℕ) → x ≤ turn + 254 → turn + 252 ≤ x → is_set_in x turn ≡ true
set_now x turn h l = search (rules, leb_tells)

stop_if : (a c : Bool) (x y : Option ℕ) → a ≡ true → c ≡ true → cond (a && c) x y ≡ x
stop_if true true x y e f = refl
stop_if true false x y e f = cc
stop_if false c x y e f = cc

stop_not : (a c : Bool) (x y : Option ℕ) → c ≡ false → cond (a && c) x y ≡ y
stop_not true true x y f = cc
stop_not true false x y f = refl
stop_not false c x y f = refl

stops_at : (ready turn : ℕ) (xs : List Started) (x : Started) (ys : List Started) → AreInARow ready (xs ++ x ∷ ys) → is_home x.section.kind ≡ true → x.start ≤ turn + 254 → turn + 252 ≤ x.start → stops_of (xs ++ x ∷ ys) turn ≡ Some x.end
stops_at ready turn [] x ys row home h l = stop_if (is_home x.section.kind) (is_set_in x.start turn) (Some x.end) (stops_of ys turn) home (set_now x.start turn h l)
stops_at ready turn (y ∷ xs) x ys row home h l =
    let at = row_past ready y (y ∷ xs) x ys row (inl refl) in
    stop_not (is_home y.section.kind) (is_set_in y.start turn) (Some y.end) (stops_of (xs ++ x ∷ ys) turn) (set_before y.start x.start turn (omega (arith, at.0, at.1)) h)
    ∙ stops_at (y.end + 260) turn xs x ys row.2 home h l

module _ (m : Machine) (switches : List Switch) (pins : List (List Level)) (entries : List Entry) (b ready : ℕ) (begun : List Started) (past : List Started) (s : Started)
    (later : List Started) (far : 260 ≤ ready) (row : AreInARow ready begun) (cut : begun ≡ past ++ s ∷ later) (moves : s.section.kind ≡ Moves) where
  -- the section that is set up was begun, and what stops with it
  found : (k : ℕ) (o : Option Homing) → WasBegun begun o → (u : IsSettingUp b k o) → k ≤ s.end + 5
      → (q : ℕ) × (end : ℕ) × (stops_of begun q ≡ Some end) × (q + 252 ≡ u.homing.group.start) × (end + 260 ≤ s.start) × (u.homing.group.start ≤ end)
  found k o w u near =
      let (xs, x, ys, axis, are, home, start, group, number, same_axis, same_last) = subst (λ (y : Option Homing). WasBegun begun y) u.known w in
      let u_soon = u.soon in
      let u_late = u.late in
      let Row : List Started → Type 0 = λ z. AreInARow ready z in
      let rows = subst Row cut row in
      let q = x.start - 252 in
      let first = (row_from ready xs x ys (subst Row are row)).0 in
      let at_q : q + 252 ≡ x.start = omega (arith, first, far) in
      let stop : stops_of begun q ≡ Some x.end = ap (λ (z : List Started). stops_of z q) are ∙ stops_at ready q xs x ys (subst Row are row) (ap is_home home) (omega (arith, at_q)) (omega (arith, at_q)) in
      elim (place_of past s later xs x ys (sym cut ∙ are)) [
        | inl a ↦
            let at = row_past ready x past s later rows a in
            (q, x.end, stop, at_q ∙ sym group, at.1, omega (arith, group, at.0))
        | inr other ↦ elim other [
          | inl same ↦ absurd (kinds_differ axis (sym home ∙ ap (λ (z : Started). z.section.kind) same ∙ moves))
          | inr a ↦ let far = row_later ready x past s later rows a in absurd (omega (arith, far, u_soon, group, near))
        ]
      ]

  -- so all that was set up by the turn in which the section's units may be released has ended
  pub answered : (came : List Came) (n : ℕ) → GoesOn m switches came → CameNotes begun came → length came ≤ n → n ≤ s.end + 6 → s.start ≤ n + 260 → AllAnswered m switches b (stops_of begun) n came
  answered [] n goes notes low high start = tt
  answered (c ∷ before) n goes notes low high start = (
    λ u.
        let f = found (length before) (noted m c.note (known_by m switches before)).homing (now_was m switches begun c before goes.1 notes) u (omega (arith, low, high)) in
        (f.0, f.1, f.2, f.3, omega (arith, f.4, start)),
    answered before n goes.1 notes.1 (omega (arith, low)) high start,
  )

  -- and none is set up in the section's turns
  still_in : (c : Came) (before : List Came) (t : BoardTurn) (turns : List BoardTurn) → IsInRun m switches pins entries b (c ∷ before) (t ∷ turns) → CameNotes begun (c ∷ before) → s.start ≤ length turns + 250 → length turns ≤ s.end + 5 → EachStill t.control.commands
  still_in c before t turns r notes low high =
      let long = as_long m switches b before turns r.both.2 in
      elim (control_either m switches pins entries b c before t turns r) [
        | inl x ↦ x
        | inr u ↦
            let f = found (length before) (noted m c.note (known_by m switches before)).homing (now_was m switches begun c before r.goes_on.1 notes) u (omega (arith, high, long)) in
            let late = u.late in
            absurd (omega (arith, f.4, f.5, late, low, long))
      ]

-- commands at their places
abbrev pub StillIn : ℕ → ℕ → ℕ → List Orders → Type 0
StillIn low high n [] = Unit {0}
StillIn low high n (o ∷ os) = (low ≤ n → n < high → EachStill o.control.commands) × StillIn low high (n + 1) os

still_append : (low high n : ℕ) (xs ys : List Orders) → StillIn low high n xs → StillIn low high (n + length xs) ys → StillIn low high n (xs ++ ys)
still_append low high n [] ys a c = let e : n + 0 ≡ n = omega arith in subst (λ (k : ℕ). StillIn low high k ys) e c
still_append low high n (x ∷ xs) ys a c =
    let e : n + length (x ∷ xs) ≡ n + 1 + length xs = omega arith in
    (a.0, still_append low high (n + 1) xs ys a.1 (subst (λ (k : ℕ). StillIn low high k ys) e c))

still_drop : (low high n d : ℕ) (os : List Orders) → StillIn low high n os → StillIn low high (n + d) (drop d os)
still_drop low high n zero os a = let e : n ≡ n + 0 = omega arith in subst (λ (k : ℕ). StillIn low high k os) e a
still_drop low high n (suc d) [] a = tt
still_drop low high n (suc d) (o ∷ os) a =
    let e : n + 1 + d ≡ n + suc d = omega arith in
    subst (λ (k : ℕ). StillIn low high k (drop d os)) e (still_drop low high (n + 1) d os a.1)

still_take : (low high n d : ℕ) (os : List Orders) → low ≤ n → n + d ≤ high → StillIn low high n os → BringStill (take d os)
still_take low high n zero os l h a = tt
still_take low high n (suc d) [] l h a = tt
still_take low high n (suc d) (o ∷ os) l h a = (a.0 l (omega (arith, h)), still_take low high (n + 1) d os (omega (arith, l)) (omega (arith, h)) a.1)

pub still_turns : (m : Machine) (switches : List Switch) (pins : List (List Level)) (entries : List Entry) (b ready : ℕ) (begun past : List Started) (s : Started) (later : List Started) → 260 ≤ ready → AreInARow ready begun → begun ≡ past ++ s ∷ later → s.section.kind ≡ Moves
    → (low high : ℕ) → s.start ≤ low + 250 → high ≤ s.end + 6 → (came : List Came) (turns : List BoardTurn) → IsInRun m switches pins entries b came turns → CameNotes begun came → StillIn low high 0 (orders_in turns)
still_turns m switches pins entries b ready begun past s later far row cut moves low high l h [] [] r notes = tt
still_turns m switches pins entries b ready begun past s later far row cut moves low high l h [] (t ∷ turns) r notes = absurd r.both
still_turns m switches pins entries b ready begun past s later far row cut moves low high l h (c ∷ before) [] r notes = absurd r.both
still_turns m switches pins entries b ready begun past s later far row cut moves low high l h (c ∷ before) (t ∷ turns) r notes =
    let size = order_length turns in
    still_append low high 0 (orders_in turns) (orders t.control t.batch ∷ [])
    (still_turns m switches pins entries b ready begun past s later far row cut moves low high l h before turns (run_before m switches pins entries b c before t turns r) notes.1)
    (λ a d. still_in m switches pins entries b ready begun past s later far row cut moves c before t turns r notes (omega (arith, a, size, l)) (omega (arith, d, size, h)), tt)

pub brought : (low n : ℕ) (os : List Orders) → StillIn low n 0 os → low ≤ n → BringStill (take (n - low) (drop low os))
brought low n os a l =
    let e : 0 + low ≡ low = omega arith in
    still_take low n low (n - low) (drop low os) (omega arith) (omega (arith, l)) (subst (λ (k : ℕ). StillIn low n k (drop low os)) e (still_drop low n 0 low os a))

-- a link behind some turns

last_turns : (clock : BoardClock) (turn : ℕ) (os : List Orders) (o : Orders) (l m : LinkState) → AreTurns clock turn (os ++ o ∷ []) l m → (mid : LinkState) × AreTurns clock turn os l mid × IsTurn clock (turn + length os) o mid m
last_turns clock turn [] o l m t =
    let e : turn ≡ turn + 0 = omega arith in
    (l, refl, subst (λ (k : ℕ). IsTurn clock k o l m) e (subst (λ (y : LinkState). IsTurn clock turn o l y) (sym t.2) t.1))
last_turns clock turn (x ∷ os) o l m t =
    let rest = last_turns clock (turn + 1) os o t.0 m t.2 in
    let e : turn + 1 + length os ≡ turn + length (x ∷ os) = omega arith in
    (rest.0, (t.0, t.1, rest.1), subst (λ (k : ℕ). IsTurn clock k o rest.0 m) e rest.2)

pub stands_so : (clock : BoardClock) (first : LinkState) (turns : List BoardTurn) (m : LinkState) → AreBoardTurns clock first turns → AreTurns clock 0 (orders_in turns) first m → m ≡ stands_after first turns
stands_so clock first [] m are t = t
stands_so clock first (x ∷ turns) m are t =
    let o = orders x.control x.batch in
    let last = last_turns clock 0 (orders_in turns) o first m t in
    let same = stands_so clock first turns last.0 are.1 last.1 in
    let e : 0 + length (orders_in turns) ≡ length turns = (let f = order_length turns in omega (arith, f)) in
    let here = subst (λ (k : ℕ). IsTurn clock k o last.0 m) e last.2 in
    let now = subst (λ (y : LinkState). IsTurn clock (length turns) o y m) same here in
    one_turn clock (length turns) o (stands_after first turns) m x.after now are.0.0

-- the first turns of a run
pub record Prefix (m : Machine) (switches : List Switch) (pins : List (List Level)) (entries : List Entry) (b n : ℕ) (begun : List Started) (turns : List BoardTurn) : Type 0 where
  pub later : List BoardTurn
  pub past : List BoardTurn
  pub came : List Came
  pub are : turns ≡ later ++ past
  pub long : length past ≡ n
  pub run_is : IsInRun m switches pins entries b came past
  pub notes : CameNotes begun came

pub prefix_of : (m : Machine) (switches : List Switch) (pins : List (List Level)) (entries : List Entry) (b n : ℕ) (begun : List Started) (came : List Came) (turns : List BoardTurn) → IsInRun m switches pins entries b came turns → CameNotes begun came → n ≤ length turns
    → Prefix m switches pins entries b n begun turns
prefix_of m switches pins entries b n begun [] [] r notes h = record { later = []; past = []; came = []; are = refl; long = omega (arith, h); run_is = r; notes = notes }
prefix_of m switches pins entries b n begun [] (t ∷ turns) r notes h = absurd r.both
prefix_of m switches pins entries b n begun (c ∷ before) [] r notes h = absurd r.both
prefix_of m switches pins entries b n begun (c ∷ before) (t ∷ turns) r notes h =
    elim (eqb_tells (length (t ∷ turns)) n) [
      | inl p ↦ record { later = []; past = t ∷ turns; came = c ∷ before; are = refl; long = p.1; run_is = r; notes = notes }
      | inr p ↦
          let ne = p.1 in
          let rest = prefix_of m switches pins entries b n begun before turns (run_before m switches pins entries b c before t turns r) notes.1 (omega (arith, h, ne)) in
          record { later = t ∷ rest.later; past = rest.past; came = rest.came; are = ap (λ (l : List BoardTurn). t ∷ l) rest.are; long = rest.long; run_is = rest.run_is; notes = rest.notes }
    ]

pub orders_front : (later past : List BoardTurn) → take (length past) (orders_in (later ++ past)) ≡ orders_in past
orders_front later past =
    let more = later_orders later past in
    let size = order_length past in
    ap (take (length past)) more.1 ∙ take-append-le (length past) (orders_in past) more.0 (omega (arith, size)) ∙ take_all (length past) (orders_in past) (omega (arith, size))
