-- Why an asking of a board stays unanswered: what happened on its link in the four turns in which an answer
-- would count.
use Rattle.std.specs.Prelude.{◌≡◌, ℕ, zero, suc, ◌+◌, ◌-◌, ◌*◌, ◌<◌, ◌≤◌, ◌⊎◌, List, [], ◌∷◌, length, nat_le, Option, Some, None, if◌then◌else◌}
use Rattle.plan_types.specs.declared.machine.Machine.{Machine}
use Rattle.wire_scene.specs.declared.scene.Switch.{Switch}
use Rattle.wire_scene.specs.Wire.{Line}
use Rattle.link_work.specs.Turn.{LinkState}
use Rattle.board_asking.specs.declared.asking.Asking.{Asking}
use Rattle.board_asking.specs.Connecting.{listen_all}
use Rattle.host_reactor.specs.Laws.{uptimes}
use Rattle.host_reactor.specs.Runs.{Came, known_by}
use Rattle.laws_board.specs.turns.Turns.{BoardTurn, stands_after}

-- those of a board's turns that come before turn k; of all of them the latest stands first
abbrev pub before_turn : ℕ → List BoardTurn → List BoardTurn
before_turn k [] = []
before_turn k (t ∷ turns) = if nat_le k (length turns) then before_turn k turns else t ∷ turns

-- how a link that began so stood at the end of turn k
abbrev pub link_at : LinkState → ℕ → List BoardTurn → LinkState
link_at first k turns = stands_after first (before_turn (k + 1) turns)

-- an entry of the scene was used on a line in this turn or later, or a copy is held on it
abbrev pub IsTouched : ℕ → Line → Type 0
IsTouched since l = (since + 4 < l.calm) ⊎ (1 ≤ length l.copies)

-- the same of one of the two lines of a link
abbrev pub IsDisturbed : ℕ → LinkState → Type 0
IsDisturbed since l = IsTouched since l.down ⊎ IsTouched since l.up

-- The asking of turn k was hindered: in one of the four turns from k on an entry of the link was used, or a
-- copy was held at its end; or at the end of turn k something still waited, since twelve blocks were
-- outstanding.
abbrev pub IsHindered : LinkState → List BoardTurn → ℕ → Type 0
IsHindered first turns k =
    ((j : ℕ) × (j ≤ 3) × IsDisturbed k (link_at first (k + j) turns))
    ⊎ (1 ≤ length (link_at first k turns).core.link.waiting)

-- The link was disturbed around turn k: in one of the four turns before it or of the four from it on an entry
-- of the link was used, or a copy was held at its end; or at the end of the turn before it something waited.
abbrev pub IsDisturbedAround : LinkState → List BoardTurn → ℕ → Type 0
IsDisturbedAround first turns k =
    ((j : ℕ) × (j ≤ 7) × IsDisturbed (k - 4) (link_at first (k - 4 + j) turns))
    ⊎ (1 ≤ length (link_at first (k - 1) turns).core.link.waiting)

-- so many askings in a row from a turn on, four turns apart, were hindered each, the last one in the four
-- turns before this one
pub record AreHindered (first : LinkState) (turns : List BoardTurn) (turn count : ℕ) : Type 0 where
  pub until : turn + 4 * count ≡ length turns
  pub each : (i : ℕ) → i < count → IsHindered first turns (turn + 4 * i)

-- no steps are queued in any of these turns
abbrev pub BringNoSteps : List BoardTurn → Type 0
BringNoSteps [] = Unit {0}
BringNoSteps (t ∷ turns) = (t.batch.units ≡ []) × BringNoSteps turns

-- the board is asked for its clock once in the latest of these turns
abbrev pub AsksClock : List BoardTurn → Type 0
AsksClock [] = ⊥
AsksClock (t ∷ turns) = uptimes t.control.commands ≡ 1

-- askings in a row, of which the latest stands first: the first one is that of a turn, and each comes four
-- turns or more behind the one before it, and as long before a turn
abbrev pub AreInRow : ℕ → ℕ → List ℕ → Type 0
AreInRow first until [] = ⊥
AreInRow first until (k ∷ []) = (k ≡ first) × (k + 4 ≤ until)
AreInRow first until (k ∷ (l ∷ ks)) = (k + 4 ≤ until) × AreInRow first k (l ∷ ks)

-- the board isn't asked for its clock in the latest of these turns
abbrev pub AsksNone : List BoardTurn → Type 0
AsksNone [] = Unit {0}
AsksNone (t ∷ turns) = uptimes t.control.commands ≡ 0

-- between each of these askings and the next one, or a turn, the board is asked for its clock in no turn
abbrev pub AsksNoneBetween : List BoardTurn → ℕ → List ℕ → Type 0
AsksNoneBetween turns until [] = Unit {0}
AsksNoneBetween turns until (k ∷ ks) =
    ((i : ℕ) → k < i → i < until → AsksNone (before_turn (i + 1) turns)) × AsksNoneBetween turns k ks

-- in each of these turns the board was asked for its clock, and the asking was hindered
abbrev pub AreAskedAndHindered : LinkState → List BoardTurn → List ℕ → Type 0
AreAskedAndHindered first turns [] = Unit {0}
AreAskedAndHindered first turns (k ∷ ks) =
    (AsksClock (before_turn (k + 1) turns) × IsHindered first turns k) × AreAskedAndHindered first turns ks

-- of what came to a reactor in some turns, the latest first, what came before turn k
abbrev pub came_by_turn : ℕ → List Came → List Came
came_by_turn k [] = []
came_by_turn k (c ∷ came) = if nat_le k (length came) then came_by_turn k came else c ∷ came

-- since when the asking of a board is out
abbrev pub since_of : ℕ → List Asking → Option ℕ
since_of b [] = None
since_of zero (a ∷ askings) = a.since
since_of (suc b) (a ∷ askings) = since_of b askings

-- in the latest of these turns, once what came is heard, the asking of a board is out since turn k
abbrev pub IsOutSince : Machine → List Switch → ℕ → ℕ → List Came → Type 0
IsOutSince m switches b k [] = ⊥
IsOutSince m switches b k (c ∷ before) =
    since_of b (listen_all (known_by m switches before).askings.items c.states) ≡ Some k

-- the asking of each of these turns is still out in the four turns behind it
abbrev pub AllUnanswered : Machine → List Switch → ℕ → List Came → List ℕ → Type 0
AllUnanswered m switches b came [] = Unit {0}
AllUnanswered m switches b came (k ∷ ks) =
    ((j : ℕ) → 1 ≤ j → j ≤ 4 → IsOutSince m switches b k (came_by_turn (k + j + 1) came))
    × AllUnanswered m switches b came ks
