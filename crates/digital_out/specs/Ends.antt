-- The times at which lines may switch a fan, and the lines that do, in order.
use Rattle.std.specs.Prelude.{ℕ, ◌+◌, ◌*◌, ◌≤◌, List, [], ◌∷◌, length}
use Rattle.plan_types.specs.declared.plan.Section.{Section}
use Rattle.digital_out.specs.declared.word.FanWord.{FanWord}

-- no time of a run is behind this one, in ns
abbrev pub last_time : ℕ
last_time = 60_000_520_001_260 * 1_000_000

-- how many moves some sections have
abbrev pub moves_in : List Section → ℕ
moves_in [] = 0
moves_in (s ∷ sections) = length s.moves + moves_in sections

-- lines that switch a fan, each behind no fewer moves than the one before it, and behind so many at most
abbrev pub AreWordsFrom : ℕ → ℕ → List FanWord → Type 0
AreWordsFrom low most [] = Unit {0}
AreWordsFrom low most (w ∷ words) = (low ≤ w.moves) × (w.moves ≤ most) × AreWordsFrom w.moves most words

-- the words of a fan behind so many moves of a text
abbrev pub AreWordsOf : ℕ → List FanWord → Type 0
AreWordsOf most words = AreWordsFrom 0 most words
