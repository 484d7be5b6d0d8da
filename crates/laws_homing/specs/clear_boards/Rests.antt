-- Links that rest, whatever else a scene does with them.
use Rattle.std.specs.Prelude.{◌≡◌, ◌≤◌, ℕ, true, List, [], ◌∷◌, length}
use Rattle.link_work.specs.Ends.{is_quiet}
use Rattle.link_work.specs.Turn.{LinkState}
use Rattle.laws_board.specs.turns.Turns.{BoardTurn}

-- A link rests as a turn ends: the turn was quiet (nothing is held on its lines, and no entry was used in it or in
-- the four turns before), and nothing that was queued waits.
pub record LinkRests (turn : ℕ) (l : LinkState) : Type 0 where
  pub quiet : is_quiet (record { turn = turn; link = l }) ≡ true
  pub empty : l.core.link.waiting ≡ []

-- so behind some turns; before the first one it does
abbrev pub RestsBehind : List BoardTurn → Type 0
RestsBehind [] = Unit {0}
RestsBehind (t ∷ before) = LinkRests (length before) t.after

-- so as a turn begins, and as it ends
abbrev pub RestsOver : BoardTurn → List BoardTurn → Type 0
RestsOver t before = RestsBehind before × RestsBehind (t ∷ before)

-- so in each turn from a number on
abbrev pub RestsFrom : ℕ → List BoardTurn → Type 0
RestsFrom from [] = Unit {0}
RestsFrom from (t ∷ before) = (from ≤ length before → RestsOver t before) × RestsFrom from before
