-- Boards to which no units are sent, and what a reactor's turn takes of its boards.
use Rattle.std.proofs.Common.{◌≡◌, ℕ, suc, ◌+◌, ◌*◌, ◌^◌, ◌<◌, ◌≤◌, ℤ, pos, negsuc, ◌≤ℤ◌, Bool, true, false, cond, List, [], ◌∷◌, ◌++◌, length, map, Option, Some, None, refl, ap, sym, subst, arith}
use Rattle.std.specs.Prelude.{◌==◌, if◌then◌else◌}
use Rattle.laws_board.proofs.Names.{eqb-true, Cause, BoardDef, Machine, board_tick, clock_of, ShutNews, State, Switch, Asking, listen_all, stale, units_orders, StepUnit, orders, Orders, Came, GoesOn, ReactorTurn, item}
use Rattle.std.proofs.lemmas.Int.{ints}
use Rattle.std.proofs.Math.Nat.{mul-le-mul, mul-le-mul_left}
use Rattle.plan_types.specs.declared.cause.Cause.TheVariants as cause
use Rattle.plan_types.specs.Clock.{own_tick, rate, tick_limit}
use Rattle.plan_types.specs.Machines.{IsValidBoard}
use Rattle.board_asking.specs.Drift.{gives_up}
use Rattle.board_world.specs.World.{on_wire}
use Rattle.link_work.specs.Limits.{bytes_in}
use Rattle.host_reactor.specs.Running.{late, late_of, or_cause}
use Rattle.host_reactor.specs.Runs.{HaveStates}
use Rattle.laws_board.specs.turns.Turns.{BoardTurn, latest_state}
use Rattle.laws_board.specs.clocks.Runs.{UnitsFit, orders_in}
use Rattle.session_run.specs.Boards.{AreReactorTurns, came_from, came_in}
use Rattle.laws_board.specs.sections.Parts.{AreOrdersOf}
use Rattle.laws_run.specs.lanes.Boards.{turns_behind}
use Rattle.laws_run.proofs.run_headline.Boarded.{AllFit, fit_of}
use Rattle.laws_board.specs.causes.Causes.{BringNoSteps}
use Rattle.laws_run.proofs.clear_runs.Punctual.{NoUnits}
use Rattle.host_reactor.proofs.Rowing.{listened}

-- the batches of a planner that begun no section
pub unbegun_units : (turn : ℕ) (os : List Orders) → AreOrdersOf [] turn os → NoUnits os
unbegun_units turn [] a = tt
unbegun_units turn (o ∷ os) a = (a.1, unbegun_units (turn + 1) os a.2)

none_fit : (os : List Orders) → NoUnits os → AllFit os
none_fit [] n = tt
none_fit (o ∷ os) n =
    let Few : List StepUnit → Type 0 = λ us. bytes_in (map on_wire (units_orders us)) ≤ 210 in
    (subst Few (sym n.0) (omega arith), none_fit os n.1)

pub units_fit : (turns : List BoardTurn) → NoUnits (orders_in turns) → UnitsFit turns
units_fit turns n = fit_of turns (none_fit (orders_in turns) n)

none_split : (xs ys : List Orders) → NoUnits (xs ++ ys) → NoUnits xs × NoUnits ys
none_split [] ys n = (tt, n)
none_split (x ∷ xs) ys n = let r = none_split xs ys n.1 in ((n.0, r.0), r.1)

pub no_steps : (turns : List BoardTurn) → NoUnits (orders_in turns) → BringNoSteps turns
no_steps [] n = tt
no_steps (t ∷ turns) n = let both = none_split (orders_in turns) (orders t.control t.batch ∷ []) n in (both.1.0, no_steps turns both.0)

-- what a board told last
no_states : (s : State) (xs ys : List State) → [] ≡ xs ++ s ∷ ys → ⊥
no_states s [] ys e = cc
no_states s (x ∷ xs) ys e = cc

pub latest_behind : (turns made : List BoardTurn) (front : List State) (s : State) → map (λ t. t.state) made ≡ front ++ s ∷ [] → latest_state (turns_behind turns made) ≡ s ∷ []
latest_behind turns [] front s e = absurd (no_states s front [] e)
latest_behind turns (t ∷ []) [] s e = e
latest_behind turns (t ∷ []) (f ∷ front) s e = absurd (no_states s front [] (let g : [] ≡ front ++ s ∷ [] = cc in g))
latest_behind turns (t ∷ (u ∷ made)) [] s e = absurd (omega (arith, ap length e))
latest_behind turns (t ∷ (u ∷ made)) (f ∷ front) s e =
    let rest : map (λ (x : BoardTurn). x.state) (u ∷ made) ≡ front ++ s ∷ [] = cc in
    latest_behind (t ∷ turns) (u ∷ made) front s rest

-- a turn of the reactor behind others
pub goes_of : (m : Machine) (switches : List Switch) (before : List Came) (rs : List ReactorTurn) → AreReactorTurns m switches before rs → GoesOn m switches before → GoesOn m switches (came_from before rs)
goes_of m switches before [] h g = g
goes_of m switches before (r ∷ rs) h g = goes_of m switches (came_in r ∷ before) rs h.1 (h.0.goes_on, g)

pub have_more : (m : Machine) (c : Came) (came : List Came) → 0 < length came → length c.states ≡ length m.boards → HaveStates m came → HaveStates m (c ∷ came)
have_more m c [] some e h = absurd (omega (arith, some))
have_more m c (d ∷ before) some e h = (e, h)

pub stale_low : (k i : ℕ) (askings : List Asking) (board turn : ℕ) → stale k i askings ≡ Some (cause.Stale board turn) → board < i + length askings
stale_low k i [] board turn e = absurd (let f : None ≡ Some (cause.Stale board turn) = e in cc)
stale_low k i (a ∷ askings) board turn e = by (gives_up k a) (λ f. stale_low k (i + 1) askings board turn f) e
  where
    by : (b : Bool) → (stale k (i + 1) askings ≡ Some (cause.Stale board turn) → board < i + 1 + length askings) → cond b (Some (cause.Stale i a.first)) (stale k (i + 1) askings) ≡ Some (cause.Stale board turn)
        → board < i + length (a ∷ askings)
    by true rec f = let same : i ≡ board = cc in omega (arith, same)
    by false rec f = omega (arith, rec f)

-- which board is late
pub record LateAt (states : List State) : Type 0 where
  pub b : ℕ
  pub low : b < length states
  pub state : State
  pub at : item b states ≡ state ∷ []
  pub news : ShutNews
  pub shut : state.shut ≡ Some news
  pub one : news.reason ≡ 1

late_more : (s : State) (states : List State) → LateAt states → LateAt (s ∷ states)
late_more s states l = record { b = suc l.b; low = omega (arith, l.low); state = l.state; at = l.at; news = l.news; shut = l.shut; one = l.one }

pub late_at : (i : ℕ) (states : List State) (c : Cause) → late i states ≡ Some c → LateAt states
late_at i [] c e = absurd (let f : None ≡ Some c = e in cc)
late_at i (s ∷ states) c e = by s.shut (λ f. late_more s states (late_at (i + 1) states c f)) refl e
  where
    known : (n : ShutNews) (b : Bool) → (late (i + 1) states ≡ Some c → LateAt (s ∷ states)) → s.shut ≡ Some n → (n.reason == 1) ≡ b → or_cause (if b then Some (cause.Late i n.first n.tick n.spoiled n.spill) else None) (late (i + 1) states) ≡ Some c
        → LateAt (s ∷ states)
    known n true rec is one f = record { b = 0; low = omega arith; state = s; at = refl; news = n; shut = is; one = eqb-true n.reason 1 one }
    known n false rec is one f = rec f

    by : (o : Option ShutNews) → (late (i + 1) states ≡ Some c → LateAt (s ∷ states)) → s.shut ≡ o → or_cause (late_of i o) (late (i + 1) states) ≡ Some c → LateAt (s ∷ states)
    by None rec is f = rec f
    by (Some n) rec is f = known n (n.reason == 1) rec is refl f

-- a board whose ticks are in range has few turns
rate_least : (d : ℤ) → negsuc 199 ≤ℤ d → 999_800 ≤ rate d
rate_least (pos n) h = omega arith
rate_least (negsuc n) h = omega (arith, ints, h)

pub few_turns : (b : BoardDef) (n : ℕ) → IsValidBoard b → board_tick (clock_of b) n < tick_limit → n < 2 ^ 59
unfolding own_tick
few_turns b n v h =
    let ticks : n * 1_000_000 ≤ n * b.freq = mul-le-mul_left n v.freq.low in
    let all : n * 1_000_000 * 999_800 ≤ n * b.freq * rate b.drift = mul-le-mul ticks (rate_least b.drift v.drift_low) in
    omega (arith, all, h)
