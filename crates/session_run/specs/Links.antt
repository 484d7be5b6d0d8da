-- A board with its link in a turn of a run.
use Rattle.std.specs.Prelude.{◌≡◌, ℕ, ◌+◌, ◌^◌, ◌<◌, ◌&&◌, if◌then◌else◌, []}
use Rattle.plan_types.specs.declared.plan.BoardState.{BoardState}
use Rattle.plan_types.specs.Clock.{board_tick, tick_limit}
use Rattle.msg_code.specs.declared.unit.Batch.{Batch}
use Rattle.msg_code.specs.declared.unit.Control.{Control}
use Rattle.msg_code.specs.declared.talk.State.{State}
use Rattle.link_work.specs.Ends.{is_quiet_line}
use Rattle.link_work.specs.Held.{IsCounted, hold, lead_of, spoiled_with}
use Rattle.link_work.specs.Late.{HasCause, TakesInTime, TellsCause}
use Rattle.link_work.specs.Stands.{CanTurn, SpoiledGoOn, IsKnown, SeenLink, StandsFor, orders}
use Rattle.link_work.specs.Told.{IsShutNews, IsTold}
use Rattle.link_work.specs.Turn.{IsTurn, LinkState}

-- a turn is a link's next one, and nothing in it passes a limit
abbrev pub CanTurnLink : SeenLink → ℕ → Type 0
CanTurnLink x k = IsKnown x × CanTurn x k

-- A turn of a link, for every state of its board and lines that it stands for: what is queued in it is the
-- control and the batch, and what is told is the state.
pub record TurnsLink (x : SeenLink) (k : ℕ) (c : Control) (b : Batch) (s : State) (y : SeenLink) : Type 0 where
  pub turned : (l : LinkState) → StandsFor x l →
      (m : LinkState) × (t : IsTurn x.clock k (orders c b) l m) × StandsFor y m
      × IsTold x.clock k (orders c b) l t.resent m.core s × SpoiledGoOn x.spoiled y.spoiled k m
  pub late : (state : BoardState) → IsShutNews state s.shut → HasCause x k (orders c b) state
  -- what is held of units in the busy stretch, and what is told of a board that shut down: the spoiled turns
  -- and the spill of the first unit that may have come too late; and this is its cause
  pub held : y.held ≡ (if s.idle then [] else hold x.held k b.units)
  pub counted : IsCounted (lead_of x.clock.drift)
      (spoiled_with x.spoiled k (is_quiet_line y.down k && is_quiet_line y.up k)) (hold x.held k b.units) s.shut
  pub cause : TellsCause x k (orders c b) s.shut
  -- what the board hasn't taken is younger than the stretch's spoiled turns are many
  pub in_time : TakesInTime x k (orders c b) y.spoiled
  pub clock : y.clock ≡ x.clock
  pub turn : y.turn ≡ k + 1
  pub few : k < 2 ^ 59
  pub in_range : board_tick x.clock (k + 1) < tick_limit
