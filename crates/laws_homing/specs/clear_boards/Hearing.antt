-- What a homing group hears of a member that could trigger.
use Rattle.std.specs.Prelude.{◌≡◌, ◌⊎◌, ◌≤◌, ℕ, true, List, [], ◌∷◌, None, Some}
use Rattle.plan_types.specs.Board.{nearest}
use Rattle.plan_types.specs.Lines.{Clocks}
use Rattle.clock_line.specs.Early.{turn_in_run, turn_tick}
use Rattle.msg_code.specs.declared.cmd.Cmd.{Cmd}
use Rattle.msg_code.specs.declared.cmd.Cmd.TheVariants as cmd
use Rattle.msg_code.specs.declared.talk.News.{News}
use Rattle.trigger_group.specs.declared.seen.Seen.{Seen}
use Rattle.trigger_group.specs.Group.{fired_by, heard_of}
use Rattle.laws_homing.specs.home_runs.Windows.{IsFired}

-- an answer in a turn tells of a trigger that it could trigger, at a tick that lies in a turn by these clock lines
abbrev pub IsAble : Clocks → ℕ → ℕ → Cmd → Type 0
IsAble clocks turn when (cmd.TrsyncState oid can reason clock) =
    (can ≡ 0 → ⊥) × (turn_in_run clocks (nearest (turn_tick clocks turn) clock) ≡ Some when)
IsAble clocks turn when answer = ⊥

-- so one of some answers
abbrev pub TellAble : Clocks → ℕ → ℕ → List News → Type 0
TellAble clocks turn when [] = ⊥
TellAble clocks turn when (n ∷ news) = IsAble clocks turn when n.answer ⊎ TellAble clocks turn when news

-- the members of a board were heard of as able to trigger in a turn or later
abbrev pub HeardBy : ℕ → ℕ → ℕ → List Seen → Type 0
HeardBy start b when [] = Unit {0}
HeardBy start b when (m ∷ ms) = (m.member.board ≡ b → when ≤ heard_of start m.heard) × HeardBy start b when ms

-- an answer in a turn that tells of a trigger that it can't trigger tells of a tick that lies between two turns
abbrev pub IsFiredIn : Clocks → ℕ → ℕ → ℕ → Cmd → Type 0
IsFiredIn clocks turn start last (cmd.TrsyncState oid can reason clock) =
    can ≡ 0 →
    (when : ℕ) × (start ≤ when) × (when ≤ last)
    × (turn_in_run clocks (nearest (turn_tick clocks turn) clock) ≡ Some when)
IsFiredIn clocks turn start last answer = Unit {0}

-- so all of some answers
abbrev pub AllFiredIn : Clocks → ℕ → ℕ → ℕ → List News → Type 0
AllFiredIn clocks turn start last [] = Unit {0}
AllFiredIn clocks turn start last (n ∷ news) =
    IsFiredIn clocks turn start last n.answer × AllFiredIn clocks turn start last news

-- the members of a board are known to have triggered by a turn
abbrev pub FiredOn : ℕ → ℕ → List Seen → Type 0
FiredOn b last [] = Unit {0}
FiredOn b last (m ∷ ms) = (m.member.board ≡ b → fired_by last m.fired ≡ true) × FiredOn b last ms

-- each member of a board is known to have triggered by a turn, or nothing is known of it
abbrev pub KnownOn : ℕ → ℕ → List Seen → Type 0
KnownOn b last [] = Unit {0}
KnownOn b last (m ∷ ms) = (m.member.board ≡ b → (fired_by last m.fired ≡ true) ⊎ (m.fired ≡ None)) × KnownOn b last ms

-- no member of a board is known to have triggered
abbrev pub NoneOn : ℕ → List Seen → Type 0
NoneOn b [] = Unit {0}
NoneOn b (m ∷ ms) = (m.member.board ≡ b → m.fired ≡ None) × NoneOn b ms

-- no answer tells of a trigger that it can't trigger
abbrev pub FiringNone : List News → Type 0
FiringNone [] = Unit {0}
FiringNone (n ∷ news) = (IsFired n.answer → ⊥) × FiringNone news
