-- The turns of a whole run: those of the reactor, and those of a link as a view shows it.
use Rattle.std.specs.Prelude.{◌≡◌, ◌<◌, ◌+◌, ◌^◌, ℕ, false, List, [], ◌∷◌, None, length}
use Rattle.plan_types.specs.declared.machine.Machine.{Machine}
use Rattle.plan_types.specs.Clock.{board_tick, tick_limit}
use Rattle.msg_code.specs.declared.unit.Batch.{Batch}
use Rattle.msg_code.specs.declared.unit.Control.{Control}
use Rattle.msg_code.specs.declared.talk.State.{State}
use Rattle.wire_scene.specs.declared.scene.Switch.{Switch}
use Rattle.link_work.specs.Stands.{SeenLink, StandsFor, orders}
use Rattle.link_work.specs.Told.{IsTold}
use Rattle.link_work.specs.Turn.{IsTurn, LinkState}
use Rattle.host_reactor.specs.Runs.{Came, last_reacted}
use Rattle.host_reactor.specs.Running.{any_out}
use Rattle.session_work.specs.declared.table.ReactorTurn.{ReactorTurn}
use Rattle.session_work.specs.Heads.{IsRow}
use Rattle.session_run.specs.Boards.{came_in}

-- what came in all but the last of some turns, the latest first, behind what came before
abbrev pub came_before : List Came → List ReactorTurn → List Came
came_before before [] = before
came_before before (t ∷ []) = before
came_before before (t ∷ (u ∷ ts)) = came_before (came_in t ∷ before) (u ∷ ts)

-- a turn of the reactor that goes on: a state of each board came, but in the first turn, and its controls,
-- one for each board, are those of its function
pub record GoesOnIn (m : Machine) (switches : List Switch) (before : List Came) (t : ReactorTurn) : Type 0 where
  pub row : IsRow (length m.boards) (length before) t.states t.note
  pub count : length t.controls ≡ length m.boards
  pub controls_are : t.controls ≡ (last_reacted m switches (came_in t) before).ordered.controls
  pub goes_on : (last_reacted m switches (came_in t) before).ordered.end ≡ None

-- turns of the reactor, each behind those before
abbrev pub AllGoOn : Machine → List Switch → List Came → List ReactorTurn → Type 0
AllGoOn m switches before [] = Unit {0}
AllGoOn m switches before (t ∷ ts) = GoesOnIn m switches before t × AllGoOn m switches (came_in t ∷ before) ts

-- The last turn of a reactor that does not end for want of memory: a state of each board came, and no link
-- wanted memory.
pub record IsLastTurn (m : Machine) (t : ReactorTurn) : Type 0 where
  pub count : length t.states ≡ length m.boards
  pub in_memory : any_out t.states ≡ false

-- each of some turns of the reactor has a control for each of n boards
abbrev pub AllHaveControls : ℕ → List ReactorTurn → Type 0
AllHaveControls n [] = Unit {0}
AllHaveControls n (t ∷ ts) = (length t.controls ≡ n) × AllHaveControls n ts

module _ {L : Type 0} (turns : L → ℕ → Control → Batch → State → L → Type 0) where
  -- a link's turns are those of a board with its link, of which a view shows how it stands
  pub record ShowsLink (view : L → SeenLink) : Type 0 where
    pub turned : (x : L) (k : ℕ) (c : Control) (b : Batch) (s : State) (y : L) → turns x k c b s y → (l : LinkState) →
        StandsFor (view x) l →
        (m : LinkState) × (t : IsTurn (view x).clock k (orders c b) l m) × StandsFor (view y) m
        × IsTold (view x).clock k (orders c b) l t.resent m.core s
    pub in_range : (x : L) (k : ℕ) (c : Control) (b : Batch) (s : State) (y : L) → turns x k c b s y →
        board_tick (view x).clock (k + 1) < tick_limit
    pub few : (x : L) (k : ℕ) (c : Control) (b : Batch) (s : State) (y : L) → turns x k c b s y → k < 2 ^ 59
    pub clock : (x : L) (k : ℕ) (c : Control) (b : Batch) (s : State) (y : L) → turns x k c b s y →
        (view y).clock ≡ (view x).clock
