-- The turns of a board, one by one.
use Rattle.std.proofs.Common.{◌≡◌, ℕ, suc, ◌+◌, ◌<◌, ◌≤◌, Bool, cond, List, [], ◌∷◌, length, inl, inr, refl, ap, sym, ◌∙◌, subst, arith}
use Rattle.std.proofs.lemmas.Bool.{le-leb, lt-leb}
use Rattle.laws_board.proofs.Names.{leb_tells, BoardClock, board_tick, State, LinkState, Came}
use Rattle.plan_types.proofs.OwnTicks.{rise}
use Rattle.board_asking.specs.Turns.{states_come}
use Rattle.laws_board.specs.turns.Turns.{AreBoardTurns, BoardTurn}
use Rattle.laws_board.specs.causes.Causes.{before_turn, came_by_turn}

pub before_all : (k : ℕ) (turns : List BoardTurn) → length turns ≤ k → before_turn k turns ≡ turns
before_all k [] h = refl
before_all k (t ∷ turns) h = ap (λ (b : Bool). cond b (before_turn k turns) (t ∷ turns)) (lt-leb k (length turns) (omega arith))

pub before_less : (k : ℕ) (t : BoardTurn) (turns : List BoardTurn) → k ≤ length turns → before_turn k (t ∷ turns) ≡ before_turn k turns
before_less k t turns h = ap (λ (b : Bool). cond b (before_turn k turns) (t ∷ turns)) (le-leb k (length turns) h)

pub before_length : (k : ℕ) (turns : List BoardTurn) → k ≤ length turns → length (before_turn k turns) ≡ k
before_length k [] h = omega arith
before_length k (t ∷ turns) h = elim (leb_tells k (length turns)) [
  | inl p ↦ ap length (before_less k t turns p.1) ∙ before_length k turns p.1
  | inr p ↦ let q = p.1 in omega (arith, ap length (before_all k (t ∷ turns) (omega arith)))
]

-- the turn k of a board, behind those before it
pub record Next (k : ℕ) (turns : List BoardTurn) : Type 0 where
  pub t : BoardTurn
  pub is : before_turn (k + 1) turns ≡ t ∷ before_turn k turns

pub next_turn : (k : ℕ) (turns : List BoardTurn) → k < length turns → Next k turns
next_turn k [] h = absurd (omega arith)
next_turn k (t ∷ turns) h = elim (leb_tells (k + 1) (length turns)) [
  | inl p ↦
      let q = p.1 in
      let n = next_turn k turns (omega arith) in
      record { t = n.t; is = before_less (k + 1) t turns p.1 ∙ n.is ∙ ap (λ (l : List BoardTurn). n.t ∷ l) (sym (before_less k t turns (omega arith))) }
  | inr p ↦
      let q = p.1 in
      record {
        t = t;
        is = before_all (k + 1) (t ∷ turns) (omega arith) ∙ ap (λ (l : List BoardTurn). t ∷ l) (sym (before_less k t turns (omega arith) ∙ before_all k turns (omega arith)));
      }
]

-- what was told in these turns, the latest first
abbrev pub states_of : List BoardTurn → List State
states_of [] = []
states_of (t ∷ turns) = t.state ∷ states_of turns

pub states_length : (turns : List BoardTurn) → length (states_of turns) ≡ length turns
states_length [] = refl
states_length (t ∷ turns) = ap suc (states_length turns)

pub states_before : (k : ℕ) (turns : List BoardTurn) → states_come k (states_of turns) ≡ states_of (before_turn k turns)
states_before k [] = refl
states_before k (t ∷ turns) =
    elim (leb_tells k (length turns)) [
      | inl p ↦ ap (λ (b : Bool). cond b (states_come k (states_of turns)) (t.state ∷ states_of turns)) (le-leb k (length (states_of turns)) (omega (arith, states_length turns, p.1)))
          ∙ states_before k turns ∙ ap states_of (sym (before_less k t turns p.1))
      | inr p ↦ let q = p.1 in
          ap (λ (b : Bool). cond b (states_come k (states_of turns)) (t.state ∷ states_of turns)) (lt-leb k (length (states_of turns)) (omega (arith, states_length turns)))
          ∙ ap states_of (sym (before_all k (t ∷ turns) (omega arith)))
    ]

-- what holds of all turns holds of those before one
pub are_before : (clock : BoardClock) (first : LinkState) (k : ℕ) (turns : List BoardTurn) → AreBoardTurns clock first turns → AreBoardTurns clock first (before_turn k turns)
are_before clock first k [] are = tt
are_before clock first k (t ∷ turns) are = elim (leb_tells k (length turns)) [
  | inl p ↦ subst (λ (l : List BoardTurn). AreBoardTurns clock first l) (sym (before_less k t turns p.1)) (are_before clock first k turns are.1)
  | inr p ↦ let q = p.1 in subst (λ (l : List BoardTurn). AreBoardTurns clock first l) (sym (before_all k (t ∷ turns) (omega arith))) are
]

pub ticks_before : (clock : BoardClock) (k n limit : ℕ) → k ≤ n → board_tick clock n < limit → board_tick clock k < limit
ticks_before clock k n limit h l = let r = rise clock.start clock.freq k n clock.drift h in omega (arith, r, l)

-- what came, in the same way
pub came_all : (k : ℕ) (came : List Came) → length came ≤ k → came_by_turn k came ≡ came
came_all k [] h = refl
came_all k (c ∷ came) h = ap (λ (b : Bool). cond b (came_by_turn k came) (c ∷ came)) (lt-leb k (length came) (omega arith))

pub came_less : (k : ℕ) (c : Came) (came : List Came) → k ≤ length came → came_by_turn k (c ∷ came) ≡ came_by_turn k came
came_less k c came h = ap (λ (b : Bool). cond b (came_by_turn k came) (c ∷ came)) (le-leb k (length came) h)

pub came_behind : (n : ℕ) (all before : List Came) (c : Came) → c ∷ before ≡ came_by_turn (suc n) all → n ≡ length before → before ≡ came_by_turn n all
came_behind n [] before c e h = cc
came_behind n (x ∷ all) before c e h = elim (leb_tells (suc n) (length all)) [
  | inl p ↦ came_behind n all before c (e ∙ came_less (suc n) x all p.1) h ∙ sym (came_less n x all (let q = p.1 in omega arith))
  | inr p ↦
      let q = p.1 in
      let same : c ∷ before ≡ x ∷ all = e ∙ came_all (suc n) (x ∷ all) (omega arith) in
      let tail : before ≡ all = cc in
      let size = ap length tail in
      tail ∙ sym (came_less n x all (omega arith) ∙ came_all n all (omega arith))
]
