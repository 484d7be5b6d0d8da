-- What a homing group was told of its members.
use Rattle.std.specs.Prelude.{◌≡◌, ◌≤◌, ◌⊎◌, ◌+◌, ℕ, List, [], ◌∷◌, length}
use Rattle.trigger_group.specs.declared.order.Member.{Member}
use Rattle.laws_board.specs.turns.Turns.{BoardTurn}
use Rattle.laws_homing.specs.home_runs.Windows.{SayFired}

-- a board is among some members
abbrev pub IsMember : ℕ → List Member → Type 0
IsMember b [] = ⊥
IsMember b (m ∷ ms) = (m.board ≡ b) ⊎ IsMember b ms

-- in one of some turns, from the one before another on, it was told of a trigger that it can't trigger
abbrev pub TellFiredFrom : ℕ → List BoardTurn → Type 0
TellFiredFrom start [] = ⊥
TellFiredFrom start (t ∷ before) = ((start ≤ length before + 1) × SayFired t.state.news) ⊎ TellFiredFrom start before
