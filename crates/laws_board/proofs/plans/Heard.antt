-- The turns whose words a planner heard.
use Rattle.std.proofs.Common.{◌≡◌, ℕ, ◌+◌, ◌≤◌, List, [], ◌∷◌, ◌++◌, length, Option, ap, sym, ◌∙◌, subst, arith, inl, inr, append_assoc, append-nil, length-append, rules}
use Rattle.laws_board.proofs.Names.{Machine, Started, Told, MotionTurn}
use Rattle.laws_board.specs.plans.Answers.{TookNoneAhead}
use Rattle.laws_board.specs.plans.Planned.{Plans, StopsAt, words_in}

-- they are the first ones of all its turns, and no word is taken ahead of its turn in them
pub record AreHeard (ts heard : List MotionTurn) : Type 0 where
  pub later : List MotionTurn
  pub are : ts ≡ heard ++ later
  pub ahead : TookNoneAhead 0 0 heard

ahead_snoc : (k taken : ℕ) (ts : List MotionTurn) (t : MotionTurn) → taken + length (words_in ts) + length t.words ≤ k + length ts + 1 → TookNoneAhead k taken ts → TookNoneAhead k taken (ts ++ t ∷ [])
ahead_snoc k taken [] t low a = (omega (arith, low), tt)
ahead_snoc k taken (x ∷ ts) t low a =
    let size = length-append x.words (words_in ts) in
    (a.0, ahead_snoc (k + 1) (taken + length x.words) ts t (omega (arith, low, size)) a.1)

no_more : (ts made bare : List MotionTurn) (last : List MotionTurn) → ts ≡ made ++ bare → TookNoneAhead 0 0 made → last ≡ [] → AreHeard ts (made ++ last)
no_more ts made bare last are ahead none =
    let Of : List MotionTurn → Type 0 = λ z. AreHeard ts z in
    subst Of (sym (ap (λ z. made ++ z) none ∙ append-nil made)) (record { later = bare; are = are; ahead = ahead })

by_stops : (ts made bare : List MotionTurn) (last : List MotionTurn) (told : Option Told) (begun : List Started) → ts ≡ made ++ bare → TookNoneAhead 0 0 made → StopsAt (0 + length made) (0 + length (words_in made)) told begun bare last → AreHeard ts (made ++ last)
by_stops ts made [] last told begun are ahead none = no_more ts made [] last are ahead none
by_stops ts made (t ∷ bare) last told begun are ahead (inl dead) = no_more ts made (t ∷ bare) last are ahead dead.1
by_stops ts made (t ∷ bare) last told begun are ahead (inr unread) =
    let low = unread.0.low in
    let Of : List MotionTurn → Type 0 = λ z. AreHeard ts (made ++ z) in
    subst Of (sym unread.1) (record { later = bare; are = are ∙ sym (append_assoc made (t ∷ []) bare); ahead = ahead_snoc 0 0 made t (omega (arith, low)) ahead })

pub heard_all : (m : Machine) (n : ℕ) (ts : List MotionTurn) (p : Plans m n ts) → AreHeard ts (p.made ++ p.last)
heard_all m n ts p = by_stops ts p.made p.bare p.last p.seen.told p.seen.begun p.are p.ahead p.stops

-- they are those that it made, and one more at most
pub heard_few : (m : Machine) (n : ℕ) (ts : List MotionTurn) (p : Plans m n ts) → length (p.made ++ p.last) ≤ length p.made + 1
heard_few m n ts p = search (rules, length-append)
