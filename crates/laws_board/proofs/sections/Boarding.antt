-- A board of a run of several, cut at two turns.
use Rattle.std.proofs.Common.{◌≡◌, ℕ, true, ◌+◌, ◌-◌, List, [], ◌∷◌, ◌++◌, length, take, drop, Option, Some, None, refl, ap, sym, ◌∙◌, subst, arith}
use Rattle.laws_board.proofs.Names.{BoardClock, BoardState, Running, Shut, ShutNews, State, Core, LinkState, Orders}
use Rattle.link_core.specs.Core.{sent}
use Rattle.link_work.specs.Told.{IsShutNews}
use Rattle.laws_board.specs.sections.Links.{AreTold}

-- as many states are told as there are turns
pub told_count : (clock : BoardClock) (turn : ℕ) (os : List Orders) (states : List State) (l m : LinkState) → AreTold clock turn os states l m → length states ≡ length os
told_count clock turn [] states l m t = ap length t.0
told_count clock turn (o ∷ os) [] l m t = absurd t
told_count clock turn (o ∷ os) (s ∷ states) l m t = omega (arith, told_count clock (turn + 1) os states t.0 m t.3)

-- the states of some turns
pub states_between : (xs ys zs all : List State) (from to : ℕ) → all ≡ xs ++ (ys ++ zs) → length xs ≡ from → length xs + length ys ≡ to → take (to - from) (drop from all) ≡ ys
states_between xs ys zs all from to e f t =
    let rest : drop from all ≡ ys ++ zs = ap (drop from) e ∙ drop_front xs (ys ++ zs) from f in
    ap (take (to - from)) rest ∙ take_front ys zs (to - from) (omega (arith, f, t))
  where
    drop_front : (xs ys : List State) (n : ℕ) → length xs ≡ n → drop n (xs ++ ys) ≡ ys
    drop_front [] ys n e = rw (← e) refl
    drop_front (x ∷ xs) ys n e = rw (← e) (drop_front xs ys (length xs) refl)

    take_front : (xs ys : List State) (n : ℕ) → length xs ≡ n → take n (xs ++ ys) ≡ xs
    take_front [] ys n e = rw (← e) refl
    take_front (x ∷ xs) ys n e = rw (← e) (ap (λ t. x ∷ t) (take_front xs ys (length xs) refl))

-- what the last state tells
abbrev Ends : State → Core → Type 0
Ends s h = (s.idle ≡ true → (h.link.waiting ≡ []) × (h.link.acked ≡ sent h.link)) × IsShutNews h.board.controller.state s.shut

pub last_told : (clock : BoardClock) (turn : ℕ) (os : List Orders) (rest : List State) (s : State) (l m : LinkState) → AreTold clock turn os (rest ++ s ∷ []) l m → Ends s m.core
last_told clock turn [] [] s l m t = absurd (some_states s [] t.0)
  where
    some_states : (s : State) (rest : List State) → s ∷ rest ≡ [] → ⊥
    some_states s rest e = cc
last_told clock turn [] (r ∷ rest) s l m t = absurd (some_states r (rest ++ s ∷ []) t.0)
  where
    some_states : (s : State) (rest : List State) → s ∷ rest ≡ [] → ⊥
    some_states s rest e = cc
last_told clock turn (o ∷ os) [] s l m t =
    let (mid, is, told, more) = t in
    let same : m ≡ mid = ended clock (turn + 1) os mid m more in
    let At : LinkState → Type 0 = λ y. Ends s y.core in
    subst At (sym same) (told.idle.0, told.shut)
  where
    ended : (clock : BoardClock) (turn : ℕ) (os : List Orders) (l m : LinkState) → AreTold clock turn os [] l m → m ≡ l
    ended clock turn [] l m t = t.1
    ended clock turn (o ∷ os) l m t = absurd t
last_told clock turn (o ∷ os) (r ∷ rest) s l m t = last_told clock (turn + 1) os rest s t.0 m t.3

-- a board of which no shutdown is told runs
pub runs_on : (state : BoardState) (o : Option ShutNews) → IsShutNews state o → o ≡ None → state ≡ Running
runs_on Running o i e = refl
runs_on (Shut reason tick first) o i e = absurd (clash i.0 (sym i.1 ∙ e)) where
  clash : (n : ShutNews) → Some n ≡ None → ⊥
  clash n e = cc
