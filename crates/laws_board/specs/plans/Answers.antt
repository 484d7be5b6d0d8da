-- The answers of homing groups, in the words that a planner took.
use Rattle.std.specs.Prelude.{◌≡◌, ◌⊎◌, ℕ, ◌+◌, ◌<◌, ◌≤◌, true, List, [], ◌∷◌, length}
use Rattle.msg_code.specs.declared.talk.WordMsg.{WordMsg}
use Rattle.plan_types.specs.declared.plan.SectionKind.TheVariants.{Home}
use Rattle.motion_work.specs.Homes.{no_end}
use Rattle.motion_work.specs.Seen.{Started}
use Rattle.motion_work.specs.Told.{tells_homed}
use Rattle.session_work.specs.declared.table.MotionTurn.{MotionTurn}

-- one of some words tells that a homing group answered
abbrev pub AnyHomed : List WordMsg → Type 0
AnyHomed [] = ⊥
AnyHomed (w ∷ ws) = (tells_homed w.news ≡ true) ⊎ AnyHomed ws

-- In turns from number k on, before which so many words were taken: in those from turn `start` on and before
-- turn `end` the word of the same turn is taken, and none that tells of an answer.
abbrev pub WaitsIn : ℕ → ℕ → ℕ → ℕ → List MotionTurn → Type 0
WaitsIn start end k taken [] = Unit {0}
WaitsIn start end k taken (t ∷ ts) =
    (start ≤ k → k < end → (AnyHomed t.words → ⊥) × (k < taken + length t.words))
    × WaitsIn start end (k + 1) (taken + length t.words) ts

-- in a turn, of some from number k on, a word is taken that tells of an answer
abbrev pub TakesAnswer : ℕ → ℕ → List MotionTurn → Type 0
TakesAnswer end k [] = ⊥
TakesAnswer end k (t ∷ ts) = ((k ≡ end) × AnyHomed t.words) ⊎ TakesAnswer end (k + 1) ts

-- A homing section by the words of some turns from number k on: from its start on none tells of an answer up
-- to the turn in which it ends; and where it ends in one of them, one tells of it there.
pub record EndsByWord (k taken : ℕ) (ts : List MotionTurn) (s : Started) : Type 0 where
  pub waits : WaitsIn s.start s.end k taken ts
  pub ends : (s.end < k) ⊎ ((s.end ≡ no_end) ⊎ TakesAnswer s.end k ts)

-- so each of some sections that homes
abbrev pub EndByWords : ℕ → ℕ → List MotionTurn → List Started → Type 0
EndByWords k taken ts [] = Unit {0}
EndByWords k taken ts (s ∷ begun) =
    ((axis : ℕ) → s.section.kind ≡ Home axis → EndsByWord k taken ts s) × EndByWords k taken ts begun

-- in turns from number k on no word is taken before the turn of its number
abbrev pub TookNoneAhead : ℕ → ℕ → List MotionTurn → Type 0
TookNoneAhead k taken [] = Unit {0}
TookNoneAhead k taken (t ∷ ts) = (taken + length t.words ≤ k + 1) × TookNoneAhead (k + 1) (taken + length t.words) ts
