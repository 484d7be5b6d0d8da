-- What all boards did, turn by turn, from what each of them did.
use Rattle.std.proofs.Common.{◌≡◌, ℕ, zero, suc, ◌<◌, ◌≤◌, List, [], ◌∷◌, length, refl, ap, arith}
use Rattle.laws_board.proofs.Names.{Clocks}
use Rattle.laws_board.specs.turns.Turns.{BoardTurn}
use Rattle.laws_board.specs.sections.Parts.{AreTracked}
use Rattle.laws_homing.specs.clear_groups.Sections.{turns_of}

abbrev first_of : BoardTurn → List BoardTurn → BoardTurn
first_of d [] = d
first_of d (t ∷ turns) = t

abbrev past_of : List BoardTurn → List BoardTurn
past_of [] = []
past_of (t ∷ turns) = turns

abbrev joined : ℕ → BoardTurn → (ℕ → List BoardTurn) → List (ℕ → BoardTurn)
joined zero d turns = []
joined (suc n) d turns = (λ b. first_of d (turns b)) ∷ joined n d (λ b. past_of (turns b))

joined_long : (n : ℕ) (d : BoardTurn) (turns : ℕ → List BoardTurn) → length (joined n d turns) ≡ n
joined_long zero d turns = refl
joined_long (suc n) d turns = let rest = joined_long n d (λ b. past_of (turns b)) in omega (arith, rest)

one_joined : (n : ℕ) (d : BoardTurn) (turns : List BoardTurn) (rest : List BoardTurn) → length turns ≡ suc n → rest ≡ past_of turns → first_of d turns ∷ rest ≡ turns
one_joined n d [] rest e same = absurd (omega (arith, e))
one_joined n d (t ∷ turns) rest e same = ap (λ (ts : List BoardTurn). t ∷ ts) same

past_long : (n : ℕ) (turns : List BoardTurn) → length turns ≡ suc n → length (past_of turns) ≡ n
past_long n [] e = absurd (omega (arith, e))
past_long n (t ∷ turns) e = omega (arith, e)

none_long : (turns : List BoardTurn) → length turns ≡ 0 → [] ≡ turns
none_long [] e = refl
none_long (t ∷ turns) e = absurd (omega (arith, e))

joined_of : (n b : ℕ) (d : BoardTurn) (turns : ℕ → List BoardTurn) → length (turns b) ≡ n → turns_of b (joined n d turns) ≡ turns b
joined_of zero b d turns e = none_long (turns b) e
joined_of (suc n) b d turns e = one_joined n d (turns b) (turns_of b (joined n d (λ i. past_of (turns i)))) e (joined_of n b d (λ i. past_of (turns i)) (past_long n (turns b) e))

pub join : (boards n : ℕ) (d : BoardTurn) (turns : ℕ → List BoardTurn) → ((b : ℕ) → b < boards → length (turns b) ≡ n) → (all : List (ℕ → BoardTurn)) × (length all ≡ n) × ((b : ℕ) → b < boards → turns_of b all ≡ turns b)
join boards n d turns long = (joined n d turns, joined_long n d turns, λ b l. joined_of n b d turns (long b l))

-- clock lines track a board from any later turn on
pub tracked_later : (own : ℕ → ℕ) (clocks : Clocks) (early late : ℕ) → early ≤ late → (k : AreTracked own clocks early) → (x : AreTracked own clocks late) × (x.until ≡ k.until)
tracked_later own clocks early late l k =
    let x : AreTracked own clocks late = record { until = k.until; kept = k.kept; behind = λ n low soon. k.behind n (omega (arith, low, l)) soon; ahead = λ n low soon. k.ahead n (omega (arith, low, l)) soon } in
    (x, refl)
