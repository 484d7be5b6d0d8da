-- Sections that go on are told by whole ones.
use Rattle.std.proofs.Common.{◌≡◌, ℕ, zero, suc, ◌+◌, ◌<◌, ◌≤◌, Bool, true, false, cond, eqb, List, [], ◌∷◌, ◌++◌, length, get_or, All, arith, refl, ap, ◌∙◌}
use Rattle.std.proofs.Math.Logic.{∥∥₁_elim, ∥∥₁_map, ∥∥₁_prop}
use Rattle.std.proofs.lemmas.Bool.{eq-eqb, ne_eqb}
use Rattle.std.proofs.lemmas.Grind.{merely}
use Rattle.std.proofs.lemmas.List.{append-nil}
use Rattle.std.proofs.lemmas.List.Elements.{All-head, All-tail}
use Rattle.plan_types.specs.declared.machine.Machine.{Machine}
use Rattle.plan_types.specs.declared.plan.Move.{Move}
use Rattle.plan_types.specs.Lines.{Clocks}
use Rattle.step_feed.specs.Pacing.{Release, at_turn, batch_at}
use Rattle.step_feed.specs.Units.{StepUnit}
use Rattle.section_units.specs.Plans.{AreSentToOn, IsOnBoardBy}
use Rattle.section_units.specs.Sections.{AreBefore}
use Rattle.section_feed.specs.On.{CanComplete, IsToldBy}

pub batch-join : (k : ℕ) (rs ss : List Release) → batch_at k (rs ++ ss) ≡ batch_at k rs ++ batch_at k ss
batch-join k [] ss = refl
batch-join k (r ∷ rs) ss = by-test (eqb r.turn k) (batch-join k rs ss)
  where
    by-test : (t : Bool) → batch_at k (rs ++ ss) ≡ batch_at k rs ++ batch_at k ss → cond t (r.unit ∷ batch_at k (rs ++ ss)) (batch_at k (rs ++ ss)) ≡ cond t (r.unit ∷ batch_at k rs) (batch_at k rs) ++ batch_at k ss
    by-test true e = ap (λ us. r.unit ∷ us) e
    by-test false e = e

-- in a turn before these releases nothing is released, nor in one behind them
pub batch-before : (k next : ℕ) (rs : List Release) → k < next → All (λ r. next ≤ r.turn) rs → batch_at k rs ≡ []
batch-before k next [] h all = refl
batch-before k next (r ∷ rs) h all =
    let P : Release → Type 0 = λ q. next ≤ q.turn in
    let late : next ≤ r.turn = All-head P r rs all in
    let e = ne_eqb r.turn k (λ same. absurd (omega (arith, same, late, h))) in
    rw e (batch-before k next rs h (All-tail P r rs all))

pub batch-behind : (k next : ℕ) (rs : List Release) → next ≤ k → AreBefore next rs → batch_at k rs ≡ []
batch-behind k next [] h all = refl
batch-behind k next (r ∷ rs) h all =
    let early : r.turn < next = all.0 in
    let e = ne_eqb r.turn k (λ same. absurd (omega (arith, same, early, h))) in
    rw e (batch-behind k next rs h all.1)

-- the units of one turn
pub batch-own : (k : ℕ) (us : List StepUnit) → batch_at k (at_turn k us) ≡ us
batch-own k [] = refl
batch-own k (u ∷ us) = let e : eqb k k ≡ true = eq-eqb k k refl in rw e (ap (λ vs. u ∷ vs) (batch-own k us))

pub batch-other : (k next : ℕ) (us : List StepUnit) → k < next → batch_at k (at_turn next us) ≡ []
batch-other k next [] h = refl
batch-other k next (u ∷ us) h = let e = ne_eqb next k (λ same. absurd (omega (arith, same, h))) in rw e (batch-other k next us h)

before-join : (turn : ℕ) (rs ss : List Release) → AreBefore turn rs → AreBefore turn ss → AreBefore turn (rs ++ ss)
before-join turn [] ss h k = k
before-join turn (r ∷ rs) ss h k = (h.0, before-join turn rs ss h.1 k)

before-next : (turn : ℕ) (rs : List Release) → AreBefore turn rs → AreBefore (turn + 1) rs
before-next turn [] h = tt
before-next turn (r ∷ rs) h = (let l = h.0 in omega arith, before-next turn rs h.1)

before-own : (turn : ℕ) (us : List StepUnit) → AreBefore (turn + 1) (at_turn turn us)
before-own turn [] = tt
before-own turn (u ∷ us) = (omega arith, before-own turn us)

pub batch-here : (next : ℕ) (rs : List Release) (us : List StepUnit) → AreBefore next rs → batch_at next (rs ++ at_turn next us) ≡ us
batch-here next rs us before = batch-join next rs (at_turn next us) ∙ ap (λ vs. vs ++ batch_at next (at_turn next us)) (batch-behind next next rs (omega arith) before) ∙ batch-own next us

pub batch-earlier : (k next : ℕ) (rs : List Release) (us : List StepUnit) → k < next → batch_at k (rs ++ at_turn next us) ≡ batch_at k rs
batch-earlier k next rs us h = batch-join k rs (at_turn next us) ∙ ap (λ vs. batch_at k rs ++ vs) (batch-other k next us h) ∙ append-nil (batch_at k rs)

pub before-more : (next : ℕ) (rs : List Release) (us : List StepUnit) → AreBefore next rs → AreBefore (next + 1) (rs ++ at_turn next us)
before-more next rs us before = before-join (next + 1) rs (at_turn next us) (before-next next rs before) (before-own next us)

-- releases for each of some boards
pub record HasEach (P : ℕ → List Release → Type 0) (n : ℕ) : Type 0 where
  pub boards : List (List Release)
  pub count : length boards ≡ n
  pub each : (b : ℕ) → b < n → P b (get_or boards b [])

one-each : (P : ℕ → List Release → Type 0) (n : ℕ) (x : List Release) → P 0 x → HasEach (λ b. P (suc b)) n → HasEach P (suc n)
one-each P n x here rest = record { boards = x ∷ rest.boards; count = ap (λ k. suc k) rest.count; each = at }
  where
    at : (b : ℕ) → b < suc n → P b (get_or (x ∷ rest.boards) b [])
    at zero h = here
    at (suc b) h = rest.each b (omega arith)

pub has-each : (P : ℕ → List Release → Type 0) (n : ℕ) → ((b : ℕ) → b < n → ∥ ((x : List Release) × P b x) ∥₁) → ∥ HasEach P n ∥₁
has-each P zero all = merely (record { boards = []; count = refl; each = λ b h. absurd (omega arith) })
has-each P (suc n) all = ∥∥₁_elim (all 0 (omega arith)) ∥∥₁_prop (λ x. ∥∥₁_map (has-each (λ b. P (suc b)) n (λ b h. all (suc b) (omega arith))) (one-each P n x.0 x.1))

pub told-whole : (homing : Bool) (m : Machine) (clocks : List Clocks) (moves : List Move) (turn next : ℕ) (released : ℕ → List Release) → ((b : ℕ) → b < length m.boards → ∥ CanComplete homing m clocks moves turn b next (released b) ∥₁) → ∥ ((boards : List (List Release)) × IsToldBy homing m clocks moves turn next released boards) ∥₁
told-whole homing m clocks moves turn next released can =
    let P : ℕ → List Release → Type 0 = λ b x. IsOnBoardBy homing m clocks moves turn b x × ((k : ℕ) → k < next → batch_at k x ≡ batch_at k (released b)) × AreSentToOn m clocks moves turn b next x in
    ∥∥₁_map (has-each P (length m.boards) (λ b h. ∥∥₁_map (can b h) (λ c. (
      released b ++ c.more,
      (c.whole, λ k early. batch-join k (released b) c.more ∙ ap (λ us. batch_at k (released b) ++ us) (batch-before k next c.more early c.later) ∙ append-nil (batch_at k (released b)), record { sent = released b; later = c.more; are = refl; behind = c.later; is = c.sent }),
    ))))
    (λ all. (all.boards, record { are = record { count = all.count; each = λ b h. (all.each b h).0 }; same = λ b k h early. (all.each b h).1 k early; sent = λ b h. (all.each b h).2 }))
