-- Over four turns in which a link is clear, what was queued in the first of them is answered.
use Rattle.std.proofs.Common.{◌≡◌, ℕ, zero, suc, ◌+◌, ◌<◌, ◌≤◌, ◌⊎◌, inl, inr, List, [], ◌∷◌, ◌++◌, length, refl, ap, sym, ◌∙◌, subst, arith, append-nil, rules}
use Rattle.laws_board.proofs.Names.{leb_tells, BoardClock, Level, BoardDef, clock_of, State, Entry, Meant, IsOrdered, Core, queued_in, first_state, orders, IsTurn, LinkState, Orders, turns_are_steps}
use Rattle.std.proofs.lemmas.List.{length-take}
use Rattle.wire_scene.specs.Wire.{Copy, Line}
use Rattle.link_core.specs.Core.{Command}
use Rattle.board_world.proofs.Runs.{all_orders}
use Rattle.link_work.specs.Answers.{AnsweredSo, AreClear, IsAnswered, IsClear, TellSo}
use Rattle.link_work.specs.Ends.{Ended}
use Rattle.link_work.specs.Taking.{HasTaken}
use Rattle.link_work.specs.Told.{IsTold}
use Rattle.link_work.proofs.Answered.{asked_in_four, begins}
use Rattle.laws_board.specs.turns.Turns.{AreBoardTurns, BoardTurn, stands_after}
use Rattle.laws_board.specs.clocks.Runs.{orders_in}
use Rattle.laws_board.proofs.clocks.Orders.{order_length, turns_in_order}
use Rattle.laws_board.specs.causes.Causes.{IsDisturbed, IsHindered, IsTouched, before_turn, link_at}
use Rattle.laws_board.proofs.causes.Turns.{Next, are_before, before_length, next_turn}

-- a line is touched, or it is clear
abbrev LineClear : ℕ → Line → Type 0
LineClear since l = (l.calm ≤ since + 4) × (l.copies ≡ [])

none_held : (cs : List Copy) → length cs < 1 → cs ≡ []
none_held [] h = refl
none_held (c ∷ cs) h = absurd (omega arith)

line_or : (since : ℕ) (l : Line) → IsTouched since l ⊎ LineClear since l
line_or since l = search (rules, leb_tells, none_held)

pub link_or : (since : ℕ) (l : LinkState) → IsDisturbed since l ⊎ IsClear since l
link_or since l = elim (line_or since l.down) [
  | inl d ↦ inl (inl d)
  | inr d ↦ elim (line_or since l.up) [
    | inl u ↦ inl (inr u)
    | inr u ↦ inr (record { down = d.0; up = u.0; none_down = d.1; none_up = u.1 })
  ]
]

pub none_wait : (cs : List Command) → length cs < 1 → cs ≡ []
none_wait [] h = refl
none_wait (c ∷ cs) h = absurd (omega arith)

-- an asking was hindered, or its four turns were clear and nothing waited behind the first one
pub record NotHindered (first : LinkState) (turns : List BoardTurn) (k : ℕ) : Type 0 where
  pub clear : (j : ℕ) → j ≤ 3 → IsClear k (link_at first (k + j) turns)
  pub none : (link_at first k turns).core.link.waiting ≡ []

clear_to : (first : LinkState) (turns : List BoardTurn) (k n : ℕ) → n ≤ 4
    → ((j : ℕ) × (j ≤ 3) × IsDisturbed k (link_at first (k + j) turns)) ⊎ ((j : ℕ) → j < n → IsClear k (link_at first (k + j) turns))
clear_to first turns k zero h = inr (λ j l. absurd (omega arith))
clear_to first turns k (suc n) h = elim (clear_to first turns k n (omega arith)) [
  | inl d ↦ inl d
  | inr c ↦ elim (link_or k (link_at first (k + n) turns)) [
    | inl d ↦ inl (n, omega arith, d)
    | inr now ↦ inr (λ j l. elim (leb_tells (j + 1) n) [
      | inl p ↦ let q = p.1 in c j (omega arith)
      | inr p ↦ let q = p.1 in let same : n ≡ j = omega arith in subst (λ (i : ℕ). IsClear k (link_at first (k + i) turns)) same now
    ])
  ]
]

pub hindered_or : (first : LinkState) (turns : List BoardTurn) (k : ℕ) → IsHindered first turns k ⊎ NotHindered first turns k
hindered_or first turns k = elim (clear_to first turns k 4 (omega arith)) [
  | inl d ↦ inl (inl d)
  | inr c ↦ elim (leb_tells 1 (length (link_at first k turns).core.link.waiting)) [
    | inl p ↦ inl (inr p.1)
    | inr p ↦ inr (record { clear = λ j l. c j (omega arith); none = none_wait (link_at first k turns).core.link.waiting p.1 })
  ]
]

-- what was queued in some turns
abbrev pub queued_of : List BoardTurn → List Meant
queued_of [] = []
queued_of (t ∷ turns) = queued_of turns ++ queued_in (orders t.control t.batch)

pub turn_queued : (clock : BoardClock) (turn : ℕ) (o : Orders) (l m : LinkState) → IsTurn clock turn o l m → m.core.queued ≡ l.core.queued ++ queued_in o
turn_queued clock turn o l m t =
    let steps = turns_are_steps clock turn (o ∷ []) l m (m, t, refl) in
    ap (λ (h : Core). h.queued) steps.1 ∙ all_orders steps.0 l.core ∙ ap (λ (ms : List Meant). l.core.queued ++ ms) (steps.2 ∙ append-nil (queued_in o))

pub all_queued : (b : BoardDef) (pins : List (List Level)) (board : ℕ) (entries : List Entry) (turns : List BoardTurn) → AreBoardTurns (clock_of b) (first_state b pins board entries) turns
    → (stands_after (first_state b pins board entries) turns).core.queued ≡ queued_of turns
all_queued b pins board entries [] are = refl
all_queued b pins board entries (t ∷ before) are =
    let o = orders t.control t.batch in
    turn_queued (clock_of b) (length before) o (stands_after (first_state b pins board entries) before) t.after are.0.0
    ∙ ap (λ (ms : List Meant). ms ++ queued_in o) (all_queued b pins board entries before are.1)

pub is_ordered : (b : BoardDef) (pins : List (List Level)) (board : ℕ) (entries : List Entry) (turns : List BoardTurn) → AreBoardTurns (clock_of b) (first_state b pins board entries) turns
    → IsOrdered (stands_after (first_state b pins board entries) turns).core
is_ordered b pins board entries turns are =
    let first = first_state b pins board entries in
    (begins b pins board entries (orders_in turns) (stands_after first turns) (turns_in_order (clock_of b) first turns are)).in_time.0

not_taken : (h : Core) (place : ℕ) → IsOrdered h → length h.queued ≤ place → place < length h.taken → ⊥
not_taken h place o low high = absurd (omega (arith, ap length o.first, length-take (length h.link.taken) h.queued))

-- a turn of a link, which starts as the turn before it ended
abbrev TurnSo : BoardClock → ℕ → LinkState → BoardTurn → Type 0
TurnSo clock n l t = (i : IsTurn clock n (orders t.control t.batch) l t.after) × IsTold clock n (orders t.control t.batch) l i.resent t.after.core t.state

turn_at : (clock : BoardClock) (n k : ℕ) (l : LinkState) (t : BoardTurn) → k ≡ n → TurnSo clock k l t → TurnSo clock n l t
turn_at clock n k l t e s = subst (λ (x : ℕ). TurnSo clock x l t) e s

abbrev ended : ℕ → BoardTurn → Ended
ended n t = record { turn = n; link = t.after }

-- what comes in four turns, how they end, and what is told of them
abbrev order_of : BoardTurn → Orders
order_of t = orders t.control t.batch

abbrev orders_behind : BoardTurn → BoardTurn → BoardTurn → List Orders
orders_behind t1 t2 t3 = order_of t1 ∷ (order_of t2 ∷ (order_of t3 ∷ []))

abbrev ends_behind : ℕ → BoardTurn → BoardTurn → BoardTurn → List Ended
ends_behind n t1 t2 t3 = ended (n + 1) t1 ∷ (ended (n + 1 + 1) t2 ∷ (ended (n + 1 + 1 + 1) t3 ∷ []))

abbrev states_in : BoardTurn → BoardTurn → BoardTurn → BoardTurn → List State
states_in t0 t1 t2 t3 = t0.state ∷ (t1.state ∷ (t2.state ∷ (t3.state ∷ [])))

told_four : (clock : BoardClock) (first : LinkState) (n : ℕ) (t0 t1 t2 t3 : BoardTurn) (before : List BoardTurn) → length before ≡ n → AreBoardTurns clock first (t3 ∷ (t2 ∷ (t1 ∷ (t0 ∷ before))))
    → TellSo clock n (order_of t0 ∷ orders_behind t1 t2 t3) (stands_after first before) (ended n t0 ∷ ends_behind n t1 t2 t3) (states_in t0 t1 t2 t3)
told_four clock first n t0 t1 t2 t3 before e are = (
  refl,
  turn_at clock n (length before) (stands_after first before) t0 e are.1.1.1.0,
  (
    refl,
    turn_at clock (n + 1) (suc (length before)) t0.after t1 (omega arith) are.1.1.0,
    (
      refl,
      turn_at clock (n + 1 + 1) (suc (suc (length before))) t1.after t2 (omega arith) are.1.0,
      (refl, turn_at clock (n + 1 + 1 + 1) (suc (suc (suc (length before)))) t2.after t3 (omega arith) are.0, tt),
    ),
  ),
)

-- they answer what was queued in the first of them
four_answer : (b : BoardDef) (pins : List (List Level)) (board : ℕ) (entries : List Entry) (n place : ℕ) (t0 t1 t2 t3 : BoardTurn) (before : List BoardTurn) → length before ≡ n
    → AreBoardTurns (clock_of b) (first_state b pins board entries) (t3 ∷ (t2 ∷ (t1 ∷ (t0 ∷ before)))) → IsClear n t0.after → IsClear n t1.after → IsClear n t2.after → IsClear n t3.after
    → t0.after.core.link.waiting ≡ [] → length (queued_of before) ≤ place → place < length (queued_of (t0 ∷ before))
    → AnsweredSo (clock_of b) n place (ended n t0 ∷ ends_behind n t1 t2 t3) (states_in t0 t1 t2 t3)
four_answer b pins board entries n place t0 t1 t2 t3 before size are c0 c1 c2 c3 none low high =
    let clock = clock_of b in
    let first = first_state b pins board entries in
    let l = stands_after first before in
    let was = are.1.1.1.1 in
    let os = orders_in before in
    let many : length os ≡ n = order_length before ∙ size in
    let Tell : ℕ → Type 0 = λ i. TellSo clock i (order_of t0 ∷ orders_behind t1 t2 t3) l (ended n t0 ∷ ends_behind n t1 t2 t3) (states_in t0 t1 t2 t3) in
    let Clear : ℕ → Type 0 = λ i. AreClear i (ended n t0 ∷ ends_behind n t1 t2 t3) in
    let At : ℕ → Type 0 = λ i. AnsweredSo clock i place (ended n t0 ∷ ends_behind n t1 t2 t3) (states_in t0 t1 t2 t3) in
    let not : HasTaken l place → ⊥ = not_taken l.core place (is_ordered b pins board entries before was) (omega (arith, ap length (all_queued b pins board entries before was))) in
    let told = told_four clock first n t0 t1 t2 t3 before size are in
    let queued = ap length (all_queued b pins board entries (t0 ∷ before) are.1.1.1) in
    subst At many (asked_in_four b pins board entries os (order_of t0) (orders_behind t1 t2 t3) l (ended n t0) (ends_behind n t1 t2 t3) (states_in t0 t1 t2 t3) (turns_in_order clock first before was)
    (subst Tell (sym many) told) refl (subst Clear (sym many) (c0, (c1, (c2, (c3, tt))))) none place not (omega arith))

-- what was queued in a turn is answered in one of four
pub record AnsweredIn (clock : BoardClock) (turns : List BoardTurn) (k place : ℕ) : Type 0 where
  pub j : ℕ
  pub few : j ≤ 3
  pub next : Next (k + j) turns
  pub answered : IsAnswered clock (k + j) next.t.after place next.t.state.news

at_turn : (clock : BoardClock) (n m place : ℕ) (t : BoardTurn) → n ≡ m → IsAnswered clock n t.after place t.state.news → IsAnswered clock m t.after place t.state.news
at_turn clock n m place t e a = subst (λ (x : ℕ). IsAnswered clock x t.after place t.state.news) e a

in_one : (clock : BoardClock) (turns : List BoardTurn) (k place : ℕ) (n0 : Next (k + 0) turns) (n1 : Next (k + 1) turns) (n2 : Next (k + 2) turns) (n3 : Next (k + 3) turns)
    → AnsweredSo clock k place (ended k n0.t ∷ ends_behind k n1.t n2.t n3.t) (states_in n0.t n1.t n2.t n3.t) → AnsweredIn clock turns k place
in_one clock turns k place n0 n1 n2 n3 (inl a) = record { j = 0; few = omega arith; next = n0; answered = at_turn clock k (k + 0) place n0.t (omega arith) a }
in_one clock turns k place n0 n1 n2 n3 (inr (inl a)) = record { j = 1; few = omega arith; next = n1; answered = a }
in_one clock turns k place n0 n1 n2 n3 (inr (inr (inl a))) = record { j = 2; few = omega arith; next = n2; answered = at_turn clock (k + 1 + 1) (k + 2) place n2.t (omega arith) a }
in_one clock turns k place n0 n1 n2 n3 (inr (inr (inr (inl a)))) = record { j = 3; few = omega arith; next = n3; answered = at_turn clock (k + 1 + 1 + 1) (k + 3) place n3.t (omega arith) a }
in_one clock turns k place n0 n1 n2 n3 (inr (inr (inr (inr a)))) = absurd a

link_is : (first : LinkState) (turns : List BoardTurn) (k j : ℕ) (n : Next (k + j) turns) → link_at first (k + j) turns ≡ n.t.after
link_is first turns k j n = ap (stands_after first) n.is

pub answered_in : (b : BoardDef) (pins : List (List Level)) (board : ℕ) (entries : List Entry) (turns : List BoardTurn) (k place : ℕ) → AreBoardTurns (clock_of b) (first_state b pins board entries) turns
    → k + 4 ≤ length turns → NotHindered (first_state b pins board entries) turns k → length (queued_of (before_turn k turns)) ≤ place
    → place < length (queued_of (before_turn (k + 1) turns)) → AnsweredIn (clock_of b) turns k place
answered_in b pins board entries turns k place are long clear low high =
    let clock = clock_of b in
    let first = first_state b pins board entries in
    let before = before_turn k turns in
    let n0 = next_turn (k + 0) turns (omega arith) in
    let n1 = next_turn (k + 1) turns (omega arith) in
    let n2 = next_turn (k + 2) turns (omega arith) in
    let n3 = next_turn (k + 3) turns (omega arith) in
    let zero_more : before_turn (k + 0) turns ≡ before = ap (λ (n : ℕ). before_turn n turns) (omega arith) in
    let all1 : before_turn (k + 1) turns ≡ n0.t ∷ before = ap (λ (n : ℕ). before_turn n turns) (omega arith) ∙ n0.is ∙ ap (λ (l : List BoardTurn). n0.t ∷ l) zero_more in
    let all2 : before_turn (k + 2) turns ≡ n1.t ∷ (n0.t ∷ before) = ap (λ (n : ℕ). before_turn n turns) (omega arith) ∙ n1.is ∙ ap (λ (l : List BoardTurn). n1.t ∷ l) all1 in
    let all3 : before_turn (k + 3) turns ≡ n2.t ∷ (n1.t ∷ (n0.t ∷ before)) = ap (λ (n : ℕ). before_turn n turns) (omega arith) ∙ n2.is ∙ ap (λ (l : List BoardTurn). n2.t ∷ l) all2 in
    let all4 : before_turn (k + 4) turns ≡ n3.t ∷ (n2.t ∷ (n1.t ∷ (n0.t ∷ before))) = ap (λ (n : ℕ). before_turn n turns) (omega arith) ∙ n3.is ∙ ap (λ (l : List BoardTurn). n3.t ∷ l) all3 in
    let those : AreBoardTurns clock first (n3.t ∷ (n2.t ∷ (n1.t ∷ (n0.t ∷ before)))) = subst (λ (l : List BoardTurn). AreBoardTurns clock first l) all4 (are_before clock first (k + 4) turns are) in
    let size : length before ≡ k = before_length k turns (omega arith) in
    let cl = clear.clear in
    let at : (j : ℕ) → j ≤ 3 → (n : Next (k + j) turns) → IsClear k n.t.after = λ j l n. subst (λ (x : LinkState). IsClear k x) (link_is first turns k j n) (cl j l) in
    let none0 : n0.t.after.core.link.waiting ≡ [] = ap (λ (l : List BoardTurn). (stands_after first l).core.link.waiting) (sym all1) ∙ clear.none in
    in_one clock turns k place n0 n1 n2 n3
    (four_answer b pins board entries k place n0.t n1.t n2.t n3.t before size those (at 0 (omega arith) n0) (at 1 (omega arith) n1) (at 2 (omega arith) n2) (at 3 (omega arith) n3) none0 low
    (omega (arith, ap (λ (l : List BoardTurn). length (queued_of l)) all1)))
