-- What is heard of the commands that a board takes.
use Rattle.std.specs.Prelude.{◌≡◌, ℕ, ◌+◌, ◌<◌, ◌≤◌, ◌⊎◌, List, [], ◌∷◌, ◌++◌, length, take}
use Rattle.std.specs.List.{flat_map}
use Rattle.plan_types.specs.declared.clock.BoardClock.{BoardClock}
use Rattle.plan_types.specs.Clock.{board_tick}
use Rattle.msg_dict.specs.Own.{own_formats}
use Rattle.msg_code.specs.declared.cmd.Cmd.{Cmd}
use Rattle.msg_code.specs.declared.talk.News.{News}
use Rattle.msg_code.specs.declared.talk.State.{State}
use Rattle.msg_code.specs.Text.{IsText}
use Rattle.link_core.specs.Core.{Command, sent}
use Rattle.wire_scene.specs.Wire.{Copy, Line}
use Rattle.board_sim.specs.Fair.{Meant}
use Rattle.board_sim.specs.Rig.{Rig, takes}
use Rattle.board_world.specs.World.{wire_text}
use Rattle.link_work.specs.Turn.{LinkState, Orders, IsTurn}
use Rattle.link_work.specs.Ends.{Ended}
use Rattle.link_work.specs.Told.{IsTold}

-- one of some things
abbrev pub IsAmong : {A : Type 0} → A → List A → Type 0
IsAmong x [] = ⊥
IsAmong x (y ∷ ys) = (y ≡ x) ⊎ IsAmong x ys

-- the number of the block that has the command at this place
pub record IsInBlock (blocks : List (List Command)) (place n : ℕ) : Type 0 where
  pub sent : n < length blocks
  pub from : length (flat_map (λ cs. cs) (take n blocks)) ≤ place
  pub before : place < length (flat_map (λ cs. cs) (take (n + 1) blocks))

-- the command at this place was taken by a board that stood at its tick of a turn, and all that the board
-- answers is among the news: each answer that can be told in bytes, with the number of the block behind that
-- of the command
pub record IsAnswered (clock : BoardClock) (turn : ℕ) (l : LinkState) (place : ℕ) (news : List News) : Type 0 where
  pub number : ℕ
  pub block : IsInBlock l.core.link.blocks place number
  pub front : List Meant
  pub command : Meant
  pub rest : List Meant
  pub queued : l.core.queued ≡ front ++ command ∷ rest
  pub at : length front ≡ place
  pub board : Rig
  pub in_time : board.controller.tick ≡ board_tick clock turn
  pub heard : (answer : Cmd) → IsAmong answer (takes board command.command).answers →
      IsText own_formats answer (wire_text answer) → IsAmong (record { number = number + 1; answer = answer }) news

-- no entry of a line was used in a turn or later
abbrev pub IsCalm : ℕ → Line → Type 0
IsCalm turn l = l.calm ≤ turn + 4

-- no entry of a link was used in a turn or later, and nothing is held on its lines
pub record IsClear (turn : ℕ) (l : LinkState) : Type 0 where
  pub down : IsCalm turn l.down
  pub up : IsCalm turn l.up
  pub none_down : l.down.copies ≡ []
  pub none_up : l.up.copies ≡ []

-- turns from a number on, each with what is queued in it, end so, and this is told of them
abbrev pub TellSo : BoardClock → ℕ → List Orders → LinkState → List Ended → List State → Type 0
TellSo clock turn [] before [] [] = Unit {0}
TellSo clock turn [] before [] (s ∷ states) = ⊥
TellSo clock turn [] before (e ∷ ends) states = ⊥
TellSo clock turn (o ∷ os) before [] states = ⊥
TellSo clock turn (o ∷ os) before (e ∷ ends) [] = ⊥
TellSo clock turn (o ∷ os) before (e ∷ ends) (s ∷ states) =
    (e.turn ≡ turn) × ((t : IsTurn clock turn o before e.link) × IsTold clock turn o before t.resent e.link.core s)
    × TellSo clock (turn + 1) os e.link ends states

-- in these turns no entry was used from a turn on, and nothing is held at the end of each
abbrev pub AreClear : ℕ → List Ended → Type 0
AreClear since [] = Unit {0}
AreClear since (e ∷ ends) = IsClear since e.link × AreClear since ends

-- the command at this place is taken and answered in one of these turns, from a number on
abbrev pub AnsweredSo : BoardClock → ℕ → ℕ → List Ended → List State → Type 0
AnsweredSo clock turn place [] states = ⊥
AnsweredSo clock turn place (e ∷ ends) [] = ⊥
AnsweredSo clock turn place (e ∷ ends) (s ∷ states) =
    IsAnswered clock turn e.link place s.news ⊎ AnsweredSo clock (turn + 1) place ends states

-- all commands that were queued by the end of a turn were sent in it
abbrev pub SentAll : Ended → Type 0
SentAll e = e.link.core.link.waiting ≡ []
