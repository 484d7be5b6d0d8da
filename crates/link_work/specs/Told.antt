-- What a link tells of a turn: what was asked, what the host hears, and why the board shut down.
use Rattle.std.specs.Prelude.{◌≡◌, ◌↔◌, ℕ, Bool, true, false, List, [], ◌∷◌, ◌++◌, ◌&&◌, nat_lt, take, Option, Some, None, if◌then◌else◌}
use Rattle.plan_types.specs.declared.clock.BoardClock.{BoardClock}
use Rattle.plan_types.specs.declared.plan.BoardState.{BoardState}
use Rattle.plan_types.specs.declared.plan.BoardState.TheVariants.{Running, Shut}
use Rattle.msg_code.specs.declared.cmd.Cmd.{Cmd}
use Rattle.msg_code.specs.declared.talk.News.{News}
use Rattle.msg_code.specs.declared.talk.ShutNews.{ShutNews}
use Rattle.msg_code.specs.declared.talk.State.{State}
use Rattle.link_core.specs.Core.{Reply, sent}
use Rattle.link_core.specs.Stands.{last_closes}
use Rattle.wire_scene.specs.declared.scene.Way.TheVariants.{Up}
use Rattle.board_world.specs.declared.event.Event.TheVariants as event
use Rattle.board_world.specs.Stands.{IsAnswer}
use Rattle.board_world.specs.World.{Core, Step, Do, world_after, after_event}
use Rattle.link_work.specs.Turn.{LinkState, Orders, after_board, after_host, come, host_steps}

-- a block that is put and ends with a get_uptime: its number
abbrev pub asked_by : Core → Core → List ℕ
asked_by before after =
    if nat_lt (sent before.link) (sent after.link) && last_closes false after.link.blocks then sent before.link ∷ []
    else []

-- what is asked in a step
abbrev pub asked_at : Step → Core → List ℕ
asked_at (Do event.Send) h = asked_by h (after_event h event.Send)
asked_at _ h = []

-- the numbers of the blocks that are first put in these steps and end with a get_uptime
abbrev pub asked_in : List Step → Core → List ℕ
asked_in [] h = []
asked_in (s ∷ steps) h = asked_at s h ++ asked_in steps (world_after h s)

-- the reply that comes to the host in a step
abbrev pub heard_at : Step → Core → List Reply
heard_at (Do event.Reply) h = take 1 h.link.up
heard_at _ h = []

-- the replies that come to the host in these steps
abbrev pub heard_in : List Step → Core → List Reply
heard_in [] h = []
heard_in (s ∷ steps) h = heard_at s h ++ heard_in steps (world_after h s)

-- the news of a reply with this answer
abbrev pub news_of : Reply → Option Cmd → List News
news_of r None = []
news_of r (Some c) = record { number = r.number; answer = c } ∷ []

-- the answers in replies, each with its reply's number
abbrev pub AreNews : List Reply → List News → Type 0
AreNews [] news = news ≡ []
AreNews (r ∷ rs) news =
    (o : Option Cmd) × (rest : List News) × IsAnswer r o × AreNews rs rest × (news ≡ news_of r o ++ rest)

-- news and the answers in replies behind them
abbrev pub AddsNews : List News → List News → List Reply → Type 0
AddsNews before now rs = (more : List News) × (now ≡ before ++ more) × AreNews rs more

-- a shutdown is told as it stands in the board
abbrev pub IsShutNews : BoardState → Option ShutNews → Type 0
IsShutNews Running o = o ≡ None
IsShutNews (Shut reason tick first) o =
    (n : ShutNews) × (o ≡ Some n) × (n.reason ≡ reason) × (n.tick ≡ tick) × (n.first ≡ first)

-- the link as the board's part of a turn leaves it
abbrev pub before_replies : BoardClock → ℕ → Orders → Bool → LinkState → LinkState
before_replies clock turn o resent before = after_board clock turn (after_host turn o resent before)

-- what is told of a turn: the pulses made in it, the answers that came, the numbers of the blocks first put
-- that end with a get_uptime, why the board is shut down after it, and whether nothing waits or is
-- outstanding
pub record IsTold (clock : BoardClock) (k : ℕ) (o : Orders) (before : LinkState) (resent : Bool) (after : Core)
    (s : State) : Type 0 where
  pub turn : s.turn ≡ k
  pub pulses : before.core.made ++ s.pulses ≡ after.made
  pub news : AreNews (heard_in (come Up k (before_replies clock k o resent before).up.copies)
      (before_replies clock k o resent before).core)
      s.news
  pub asked : s.asked ≡ asked_in (host_steps k o resent) before.core
  pub shut : IsShutNews after.board.controller.state s.shut
  pub idle : (s.idle ≡ true) ↔ (after.link.waiting ≡ []) × (after.link.acked ≡ sent after.link)
  pub in_memory : s.out ≡ false
