-- Lines of a board behind which more are taken up.
use Rattle.std.proofs.Common.{◌≡◌, ℕ, ℤ, ◌+◌, ◌*◌, ◌<◌, ◌≤◌, List, [], ◌∷◌, ◌++◌, arith, inr, le-div_iff_mul-le}
use Rattle.laws_board.proofs.Names.{BoardClock, Held, Line, turn_ns}
use Rattle.plan_types.specs.Lines.{AreHeld, last_from}
use Rattle.clock_line.specs.Samples.{ppm_size}
use Rattle.laws_board.specs.turns.Turns.{BoardTurn}
use Rattle.laws_board.specs.clocks.Samples.{IsSampled}
use Rattle.laws_board.specs.orders.Renewed.{AreSampled, ComeInTime, NoneBefore, line_age}
use Rattle.laws_run.proofs.run_headline.Further.{EachHeld}
use Rattle.laws_run.proofs.clock_ages.Accepts.{last_line}

-- each line holds at most 4,900 turns behind the sample of the one before it
abbrev pub AreYoung : Line → List Held → Type 0
AreYoung line [] = Unit {0}
AreYoung line (h ∷ held) = (h.from ≤ line.at + 4_900 * turn_ns) × AreYoung h.line held

-- which is young enough for a board that drifts by 200 millionths or less
pub age_least : (drift : ℤ) → 0 < ppm_size drift → ppm_size drift ≤ 200 → 4_900 ≤ line_age drift
age_least drift some few = (le-div_iff_mul-le {k = ppm_size drift} {x = 4_900} {y = 980_000} some).1 (omega (arith, few))

older : (a at n : ℕ) → 4_900 ≤ n → a ≤ at + 4_900 * turn_ns → a ≤ at + n * turn_ns
older a at n more le = omega (arith, more, le)

pub come_young : (drift : ℤ) (line : Line) (held : List Held) (until : ℕ) → 4_900 ≤ line_age drift → AreYoung line held → until * turn_ns ≤ (last_line line held).at + 4_900 * turn_ns → ComeInTime drift line held until
come_young drift line [] until age y l = older (until * turn_ns) line.at (line_age drift) age l
come_young drift line (h ∷ held) until age y l = inr (older h.from line.at (line_age drift) age y.0, come_young drift h.line held until age y.1 l)

-- a line that is taken up in turn k: it holds 277 turns later, and is that of a sample that was sent 68 turns before at most
pub record IsTaken (clock : BoardClock) (turns : List BoardTurn) (k : ℕ) (line : Line) (from : ℕ) : Type 0 where
  pub from_is : from ≡ (k + 277) * turn_ns
  pub sampled : IsSampled clock turns line
  pub fresh : k * turn_ns ≤ line.at + 68 * turn_ns

pub each_held : (P Q : Line → ℕ → Type 0) (held : List Held) → ((line : Line) (from : ℕ) → P line from → Q line from) → EachHeld P held → EachHeld Q held
each_held P Q [] f a = tt
each_held P Q (h ∷ held) f a = (f h.line h.from a.0, each_held P Q held f a.1)

-- lines that are taken up in one turn, alone
young_on : (clock : BoardClock) (turns : List BoardTurn) (k : ℕ) (line : Line) (more : List Held) → (k + 277) * turn_ns ≤ line.at + 4_900 * turn_ns → EachHeld (IsTaken clock turns k) more → AreYoung line more
young_on clock turns k line [] l e = tt
young_on clock turns k line (h ∷ more) l e =
    let from = e.0.from_is in
    let fresh = e.0.fresh in
    (omega (arith, from, l), young_on clock turns k h.line more (omega (arith, fresh)) e.1)

sampled_on : (clock : BoardClock) (turns : List BoardTurn) (k : ℕ) (more : List Held) → EachHeld (IsTaken clock turns k) more → AreSampled clock turns more
sampled_on clock turns k [] e = tt
sampled_on clock turns k (h ∷ more) e = (e.0.sampled, sampled_on clock turns k more e.1)

last_on : (clock : BoardClock) (turns : List BoardTurn) (k from : ℕ) (line : Line) (h : Held) (more : List Held) → EachHeld (IsTaken clock turns k) (h ∷ more) → (last_from from (h ∷ more) ≡ (k + 277) * turn_ns) × (k * turn_ns ≤ (last_line line (h ∷ more)).at + 68 * turn_ns)
last_on clock turns k from line h [] e = (e.0.from_is, e.0.fresh)
last_on clock turns k from line h (g ∷ more) e = last_on clock turns k h.from h.line g more e.1

-- and behind others
pub young_more : (clock : BoardClock) (turns : List BoardTurn) (k : ℕ) (line : Line) (held more : List Held) → AreYoung line held → (k + 277) * turn_ns ≤ (last_line line held).at + 4_900 * turn_ns → EachHeld (IsTaken clock turns k) more
    → AreYoung line (held ++ more)
young_more clock turns k line [] more y l e = young_on clock turns k line more l e
young_more clock turns k line (h ∷ held) more y l e = (y.0, young_more clock turns k h.line held more y.1 l e)

pub sampled_more : (clock : BoardClock) (turns : List BoardTurn) (k : ℕ) (held more : List Held) → AreSampled clock turns held → EachHeld (IsTaken clock turns k) more → AreSampled clock turns (held ++ more)
sampled_more clock turns k [] more s e = sampled_on clock turns k more e
sampled_more clock turns k (h ∷ held) more s e = (s.0, sampled_more clock turns k held more s.1 e)

pub none_more : (clock : BoardClock) (turns : List BoardTurn) (k ready : ℕ) (held more : List Held) → ready ≤ k → NoneBefore ready held → EachHeld (IsTaken clock turns k) more → NoneBefore ready (held ++ more)
none_more clock turns k ready [] [] low n e = tt
none_more clock turns k ready [] (h ∷ more) low n e = let from = e.0.from_is in omega (arith, from, low)
none_more clock turns k ready (h ∷ held) more low n e = n

-- the last of them is one of those
pub last_more : (clock : BoardClock) (turns : List BoardTurn) (k from : ℕ) (line : Line) (held : List Held) (h : Held) (more : List Held) → EachHeld (IsTaken clock turns k) (h ∷ more)
    → (last_from from (held ++ h ∷ more) ≡ (k + 277) * turn_ns) × (k * turn_ns ≤ (last_line line (held ++ h ∷ more)).at + 68 * turn_ns)
last_more clock turns k from line [] h more e = last_on clock turns k from line h more e
last_more clock turns k from line (g ∷ held) h more e = last_more clock turns k g.from g.line held h more e

-- the first ones of lines that hold one behind the other
pub held_front : (first line : Line) (from most : ℕ) (told rest : List Held) → AreHeld first line from most (told ++ rest) → AreHeld first line from most told
held_front first line from most [] rest a = tt
held_front first line from most (h ∷ told) rest a = (a.0, a.1, a.2, a.3, held_front first h.line h.from h.most told rest a.4, a.5)
