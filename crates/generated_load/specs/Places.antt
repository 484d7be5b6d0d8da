-- Places in the text of a load, of which one line is kept.
use Rattle.std.specs.Prelude.{◌≡◌, ℕ, ◌-◌, ◌<◌, ◌≤◌, List, ◌++◌, drop, length, take}
use Rattle.generated_load.specs.Text.{load_moves}

-- from this place on the text is this line, and behind it so many moves from a state of the generator on
abbrev pub IsLineAt : List ℕ → ℕ → List ℕ → ℕ → ℕ → Type 0
IsLineAt text at line left state = drop at text ≡ line ++ load_moves left state

-- so many bytes of a text, from a place on, were read into the front of a piece: what the piece was, and what
-- it is then
pub record IsPieceRead (text : List ℕ) (from : ℕ) (old : List ℕ) (count : ℕ) (new : List ℕ) : Type 0 where
  pub size : length new ≡ length old
  pub fits : count ≤ length old
  pub there : count ≤ length text - from
  pub bytes : take count new ≡ take count (drop from text)

-- where nothing was read into a piece that has room, the text has no bytes from the place on
abbrev pub IsEmptyAtEnd : List ℕ → ℕ → List ℕ → ℕ → Type 0
IsEmptyAtEnd text from piece count = count ≡ 0 → 0 < length piece → length text ≤ from
