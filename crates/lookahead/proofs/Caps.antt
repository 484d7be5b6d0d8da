-- The list of caps, junction by junction.
use Rattle.std.proofs.Common.{◌≡◌, ℕ, zero, suc, ◌+◌, ◌<◌, List, [], ◌∷◌, ◌++◌, length, get_or, drop, arith, refl, ap, append_assoc, add-one}
use Rattle.std.proofs.lemmas.List.{append-nil}
use Rattle.plan_types.specs.declared.plan.Move.{Move}
use Rattle.plan_types.specs.Speeds.{caps, later_caps, junction_cap}

pub later_caps-next : (moves : List Move) (scv i : ℕ) (d : Move) → i + 1 < length moves → later_caps (drop i moves) scv ≡ junction_cap (get_or moves i d) (get_or moves (i + 1) d) scv ∷ later_caps (drop (i + 1) moves) scv
later_caps-next [] scv i d h = absurd (omega arith)
later_caps-next (m ∷ []) scv i d h = absurd (omega arith)
later_caps-next (m ∷ n ∷ moves) scv zero d h = refl
later_caps-next (m ∷ n ∷ moves) scv (suc i) d h = rw add-one (rw add-one at (later_caps-next (n ∷ moves) scv i d (omega arith)))

pub later_caps-last : (moves : List Move) (scv i : ℕ) → length moves ≡ i + 1 → later_caps (drop i moves) scv ≡ 0 ∷ []
later_caps-last [] scv i h = absurd (omega arith)
later_caps-last (m ∷ []) scv zero h = refl
later_caps-last (m ∷ []) scv (suc i) h = absurd (omega arith)
later_caps-last (m ∷ n ∷ moves) scv zero h = absurd (omega arith)
later_caps-last (m ∷ n ∷ moves) scv (suc i) h = later_caps-last (n ∷ moves) scv i (omega arith)

pub length-later_caps : (moves : List Move) (scv : ℕ) → length (later_caps moves scv) ≡ length moves
length-later_caps [] scv = refl
length-later_caps (m ∷ []) scv = refl
length-later_caps (m ∷ n ∷ moves) scv = ap suc (length-later_caps (n ∷ moves) scv)

-- one more cap is made
pub caps-more : (moves : List Move) (scv i j x : ℕ) (d : Move) (made : List ℕ) → j ≡ i + 1 → j < length moves → made ++ later_caps (drop i moves) scv ≡ caps moves scv → x ≡ junction_cap (get_or moves i d) (get_or moves j d) scv → (made ++ x ∷ []) ++ later_caps (drop j moves) scv ≡ caps moves scv
caps-more moves scv i j x d made e h whole is =
    let next = later_caps-next moves scv i d (omega arith) in
    rw (append_assoc, e, is, e) (rw next at whole)

pub caps-last : (moves : List Move) (scv i : ℕ) (made : List ℕ) → length moves ≡ i + 1 → made ++ later_caps (drop i moves) scv ≡ caps moves scv → made ++ 0 ∷ [] ≡ caps moves scv
caps-last moves scv i made h whole = rw (later_caps-last moves scv i h) at whole

pub caps-none : (scv i : ℕ) (moves : List Move) (made : List ℕ) → length moves ≡ 0 → made ++ later_caps (drop i moves) scv ≡ caps moves scv → made ≡ caps moves scv
caps-none scv zero [] made h whole = rw append-nil at whole
caps-none scv (suc i) [] made h whole = rw append-nil at whole
caps-none scv i (m ∷ moves) made h whole = absurd (omega arith)

pub length-caps : (moves : List Move) (scv : ℕ) → length (caps moves scv) ≡ length moves + 1
length-caps moves scv = let later = length-later_caps moves scv in omega arith
