-- A board and its link behind the set-up of a homing section, and what it tells of its trigger.
use Rattle.std.specs.Prelude.{◌≡◌, ◌⊎◌, ℕ, List, [], ◌∷◌, ◌++◌}
use Rattle.msg_code.specs.declared.cmd.Cmd.{Cmd}
use Rattle.msg_code.specs.declared.cmd.Cmd.TheVariants as cmd
use Rattle.msg_code.specs.declared.talk.News.{News}
use Rattle.board_sim.specs.Fair.{Meant}
use Rattle.board_world.specs.World.{Core}
use Rattle.link_work.specs.Runs.{queued_in}
use Rattle.link_work.specs.Stands.{orders}
use Rattle.laws_board.specs.turns.Turns.{BoardTurn}
use Rattle.laws_homing.specs.home_runs.Guards.{AreCalm, IsGuarded, IsSole}

-- an answer tells of a trigger that it can't trigger
abbrev pub IsFired : Cmd → Type 0
IsFired (cmd.TrsyncState oid can reason clock) = can ≡ 0
IsFired answer = ⊥

-- some news have this answer
abbrev pub HasAnswer : Cmd → List News → Type 0
HasAnswer c [] = ⊥
HasAnswer c (n ∷ news) = (n.answer ≡ c) ⊎ HasAnswer c news

-- some news tell of a trigger that it can't trigger
abbrev pub SayFired : List News → Type 0
SayFired [] = ⊥
SayFired (n ∷ news) = IsFired n.answer ⊎ SayFired news

-- in one of some turns it was told of a trigger that it can't trigger
abbrev pub TellFired : List BoardTurn → Type 0
TellFired [] = ⊥
TellFired (t ∷ before) = SayFired t.state.news ⊎ TellFired before

-- what comes to a board in some turns is calm
abbrev pub BringCalm : ℕ → ℕ → List BoardTurn → Type 0
BringCalm stepper trigger [] = Unit {0}
BringCalm stepper trigger (t ∷ before) =
    AreCalm stepper trigger (queued_in (orders t.control t.batch)) × BringCalm stepper trigger before

-- A link whose board's only trigger this is: what was queued and the board has not taken is calm, and nothing
-- that it said before is still under way.
pub record IsWatched (stepper trigger : ℕ) (h : Core) : Type 0 where
  pub sole : IsSole trigger h.board
  pub left : List Meant
  pub rest : h.taken ++ left ≡ h.queued
  pub calm : AreCalm stepper trigger left
  pub heard : h.link.up ≡ []

-- A board took the set-up of a homing section: a stepper is bound to its only trigger, and halted where that
-- can't trigger; what was queued and it has not taken is calm; and nothing that it said before is still under
-- way.
pub record IsSetUp (stepper trigger : ℕ) (h : Core) : Type 0 where
  pub guarded : IsGuarded stepper trigger h.board
  pub sole : IsSole trigger h.board
  pub left : List Meant
  pub rest : h.taken ++ left ≡ h.queued
  pub calm : AreCalm stepper trigger left
  pub heard : h.link.up ≡ []
