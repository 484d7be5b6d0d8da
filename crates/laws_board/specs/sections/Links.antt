-- The steps of a link's turns.
use Rattle.std.specs.Prelude.{◌≡◌, ℕ, ◌+◌, Bool, List, [], ◌∷◌, ◌++◌}
use Rattle.std.specs.List.{flat_map}
use Rattle.plan_types.specs.declared.plan.Pulse.{Pulse}
use Rattle.msg_code.specs.declared.talk.State.{State}
use Rattle.plan_types.specs.declared.clock.BoardClock.{BoardClock}
use Rattle.wire_scene.specs.declared.scene.Way.TheVariants.{Up}
use Rattle.board_world.specs.World.{Step}
use Rattle.link_work.specs.Ends.{Ended}
use Rattle.link_work.specs.Turn.{LinkState, Orders, IsTurn, after_board, after_host, board_steps, come, host_steps}
use Rattle.link_work.specs.Runs.{AreTurns}
use Rattle.link_work.specs.Told.{IsTold}

-- the steps of a turn: the host's part, the board's part, and the replies that come
abbrev pub steps_of_turn : BoardClock → ℕ → Orders → Bool → LinkState → List Step
steps_of_turn clock turn o resent l =
    let m = after_host turn o resent l in
    host_steps turn o resent
    ++ (board_steps clock turn m.down.copies ++ come Up turn (after_board clock turn m).up.copies)

-- the steps of turns
abbrev pub steps_of : (clock : BoardClock) (turn : ℕ) (os : List Orders) (l m : LinkState) →
    AreTurns clock turn os l m → List Step
steps_of clock turn [] l m t = []
steps_of clock turn (o ∷ os) l m t = steps_of_turn clock turn o t.1.resent l ++ steps_of clock (turn + 1) os t.0 m t.2

-- how turns end
abbrev pub ends_of : (clock : BoardClock) (turn : ℕ) (os : List Orders) (l m : LinkState) → AreTurns clock turn os l m →
    List Ended
ends_of clock turn [] l m t = []
ends_of clock turn (o ∷ os) l m t = record { turn = turn; link = t.0 } ∷ ends_of clock (turn + 1) os t.0 m t.2

-- turns from a number on, of each of which the link tells a state
abbrev pub AreTold : BoardClock → ℕ → List Orders → List State → LinkState → LinkState → Type 0
AreTold clock turn [] states before after = (states ≡ []) × (after ≡ before)
AreTold clock turn (o ∷ os) [] before after = ⊥
AreTold clock turn (o ∷ os) (s ∷ states) before after =
    (middle : LinkState) × (t : IsTurn clock turn o before middle) × IsTold clock turn o before t.resent middle.core s
    × AreTold clock (turn + 1) os states middle after

-- the pulses that some states tell
abbrev pub pulses_in : List State → List Pulse
pulses_in states = flat_map (λ s. s.pulses) states

-- such turns, whatever they tell
abbrev pub turns_told : (clock : BoardClock) (turn : ℕ) (os : List Orders) (states : List State) (l m : LinkState) →
    AreTold clock turn os states l m → AreTurns clock turn os l m
turns_told clock turn [] states l m t = t.1
turns_told clock turn (o ∷ os) [] l m t = absurd t
turns_told clock turn (o ∷ os) (s ∷ states) l m t = (t.0, t.1, turns_told clock (turn + 1) os states t.0 m t.3)
