-- A board's asking over the turns of connecting, whatever states came.
use Rattle.std.specs.Prelude.{◌≡◌, ℕ, ◌+◌, ◌*◌, ◌<◌, ◌≤◌, ◌⊎◌, nat_le, List, [], ◌∷◌, length, Some, if◌then◌else◌}
use Rattle.msg_code.specs.declared.talk.State.{State}
use Rattle.board_asking.specs.declared.asking.Asking.{Asking}
use Rattle.board_asking.specs.declared.asking.Stage.{Stage}
use Rattle.board_asking.specs.declared.asking.Stage.TheVariants.{Configure, Connected}
use Rattle.board_asking.specs.declared.setup.Setup.{Setup}
use Rattle.board_asking.specs.Asking.{new_asking, listens, ready, asks, after_asks, question}
use Rattle.board_asking.specs.Laws.{WasConfigured}

-- a board's asking behind turn k
abbrev pub asking_in_turn : List Setup → ℕ → Asking → Asking
asking_in_turn setups k a = after_asks setups k a a.stage

-- a board's asking as the next turn begins, by the states of the turns from 0 on, of which the latest stands first
abbrev pub heard : List Setup → List State → Asking
heard setups [] = ready setups new_asking
heard setups (s ∷ states) = ready setups (listens (asking_in_turn setups (length states) (heard setups states)) s)

-- of these states those that have come as turn k begins
abbrev pub states_come : ℕ → List State → List State
states_come k [] = []
states_come k (s ∷ states) = if nat_le k (length states) then states_come k states else s ∷ states

-- the asking of a board as turn k begins
abbrev pub heard_at : List Setup → ℕ → List State → Asking
heard_at setups k states = heard setups (states_come k states)

-- a board is asked in a turn: the commands to it are the question of its stage
abbrev pub AsksOf : Stage → Type 0
AsksOf (Configure n) = ⊥
AsksOf Connected = ⊥
AsksOf stage = Unit {0}

-- a board was asked the question of its stage in a turn
pub record WasAsked (setups : List Setup) (k : ℕ) (a : Asking) : Type 0 where
  pub stage : AsksOf a.stage
  pub commands : asks setups k a a.stage ≡ question a.stage

-- what was asked in a turn is unanswered four turns later
abbrev pub IsOutBehind : List Setup → ℕ → List State → Type 0
IsOutBehind setups asked states =
    (j : ℕ) → 1 ≤ j → j ≤ 4 → asked + j ≤ length states → (heard_at setups (asked + j) states).since ≡ Some asked

-- so many askings in a row from this turn on, four turns apart, were unanswered
pub record AreUnanswered (setups : List Setup) (states : List State) (first count : ℕ) : Type 0 where
  pub until : first + 4 * count ≡ length states
  pub asked : (i : ℕ) → i < count → WasAsked setups (first + 4 * i) (heard_at setups (first + 4 * i) states)
  pub out : (i : ℕ) → i < count → IsOutBehind setups (first + 4 * i) states

-- in one of these states the board said that its configuration is complete
abbrev pub OnceConfigured : List State → Type 0
OnceConfigured [] = ⊥
OnceConfigured (s ∷ states) = WasConfigured s.news ⊎ OnceConfigured states
