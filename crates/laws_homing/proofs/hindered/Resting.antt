-- A link is hindered in a turn, or it rests in each.
use Rattle.std.proofs.Common.{◌≡◌, ◌⊎◌, ℕ, ◌+◌, ◌≤◌, inl, inr, Bool, true, false, List, [], ◌∷◌, length, refl, subst, arith}
use Rattle.laws_board.proofs.Names.{leb_tells, LinkState, Member}
use Rattle.link_core.specs.Core.{Command}
use Rattle.link_work.specs.Ends.{is_quiet, none_wait}
use Rattle.laws_board.specs.turns.Turns.{BoardTurn}
use Rattle.laws_homing.specs.home_runs.Told.{IsMember}
use Rattle.laws_homing.specs.clear_boards.Rests.{LinkRests, RestsFrom}
use Rattle.laws_homing.specs.clear_groups.Sections.{turns_of}
use Rattle.laws_homing.specs.hindered.Hindered.{HinderedIn, IsHinderedTurn, SomeHinderedIn}
use Rattle.link_work.proofs.Bounds.{nothing_waits}

-- a turn
rest_or : (turn : ℕ) (l : LinkState) → IsHinderedTurn turn l ⊎ LinkRests turn l
rest_or turn l = by (is_quiet (record { turn = turn; link = l })) (none_wait l.core.link.waiting) refl refl
  where
    by : (q w : Bool) → is_quiet (record { turn = turn; link = l }) ≡ q → none_wait l.core.link.waiting ≡ w → IsHinderedTurn turn l ⊎ LinkRests turn l
    by true true q w = inr (record { quiet = q; empty = nothing_waits l.core.link.waiting w })
    by true false q w = inl (inr w)
    by false w q e = inl (inl q)

-- turn by turn
abbrev AtRestFrom : ℕ → List BoardTurn → Type 0
AtRestFrom from [] = Unit {0}
AtRestFrom from (t ∷ before) = (from ≤ length before → LinkRests (length before) t.after) × AtRestFrom from before

at_rest_or : (from to : ℕ) (turns : List BoardTurn) → length turns ≤ to + 1 → HinderedIn from to turns ⊎ AtRestFrom from turns
at_rest_or from to [] low = inr tt
at_rest_or from to (t ∷ before) low = elim (at_rest_or from to before (omega (arith, low))) [
  | inl h ↦ inl (inr h)
  | inr k ↦ elim (leb_tells from (length before)) [
    | inl p ↦ elim (rest_or (length before) t.after) [ inl h ↦ inl (inl (p.1, omega (arith, low), h)) | inr r ↦ inr (λ l. r, k) ]
    | inr p ↦ let far = p.1 in inr (λ l. absurd (omega (arith, far, l)), k)
  ]
]

rests_by : (from : ℕ) (turns : List BoardTurn) → AtRestFrom from turns → RestsFrom (from + 1) turns
rests_by from [] k = tt
rests_by from (t ∷ []) k = (λ l. absurd (omega (arith, l)), tt)
rests_by from (t ∷ u ∷ more) k = (λ l. (k.1.0 (omega (arith, l)), k.0 (omega (arith, l))), rests_by from (u ∷ more) k.1)

pub rests_or : (from to : ℕ) (turns : List BoardTurn) → length turns ≤ to + 1 → HinderedIn from to turns ⊎ RestsFrom (from + 1) turns
rests_or from to turns low = elim (at_rest_or from to turns low) [ inl h ↦ inl h | inr k ↦ inr (rests_by from turns k) ]

-- of some boards
pub turns_long : (b : ℕ) (all : List (ℕ → BoardTurn)) → length (turns_of b all) ≡ length all
turns_long b [] = refl
turns_long b (j ∷ js) = let rest = turns_long b js in omega (arith, rest)

pub some_or : (from to : ℕ) (members : List Member) (all : List (ℕ → BoardTurn)) → length all ≤ to + 1 → SomeHinderedIn from to members all ⊎ ((b : ℕ) → IsMember b members → RestsFrom (from + 1) (turns_of b all))
some_or from to [] all low = inr (λ b on. absurd on)
some_or from to (x ∷ xs) all low = elim (rests_or from to (turns_of x.board all) (let same = turns_long x.board all in omega (arith, low, same))) [
  | inl h ↦ inl (inl h)
  | inr r ↦ elim (some_or from to xs all low) [
    | inl h ↦ inl (inr h)
    | inr k ↦ inr (λ b on. elim on [ inl e ↦ subst (λ (n : ℕ). RestsFrom (from + 1) (turns_of n all)) e r | inr more ↦ k b more ])
  ]
]

-- and of more turns
pub some_more : (from to : ℕ) (members : List Member) (j : ℕ → BoardTurn) (js : List (ℕ → BoardTurn)) → SomeHinderedIn from to members js → SomeHinderedIn from to members (j ∷ js)
some_more from to [] j js h = h
some_more from to (x ∷ xs) j js (inl h) = inl (inr h)
some_more from to (x ∷ xs) j js (inr h) = inr (some_more from to xs j js h)
