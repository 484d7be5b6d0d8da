-- What stands first in a list of bytes.
use Rattle.std.specs.Prelude.{◌≡◌, ℕ, ◌+◌, ◌-◌, ◌/◌, ◌<◌, ◌≤◌, List, [], ◌∷◌, ◌++◌, length, slice_index}
use Rattle.block_frame.specs.Block.{block_text}

-- a block, and whatever follows
pub record IsBlock (number : ℕ) (content bytes : List ℕ) : Type 0 where
  pub small : number < 16
  pub fits : length content ≤ 59
  pub after : (rest : List ℕ) × (bytes ≡ block_text number content ++ rest)

-- the bytes begin with a block
abbrev pub HasBlock : List ℕ → Type 0
HasBlock bytes = (number : ℕ) × (content : List ℕ) × IsBlock number content bytes

-- a byte that ends a block stands where one begins
abbrev pub IsSkip : List ℕ → Type 0
IsSkip [] = ⊥
IsSkip (b ∷ bs) = b ≡ 126

-- fewer bytes than decide, all that have come begin as a block does
abbrev pub IsUndecided : List ℕ → Type 0
IsUndecided [] = Unit {0}
IsUndecided (len ∷ []) = (5 ≤ len) × (len ≤ 64)
IsUndecided (len ∷ s ∷ bs) = (5 ≤ len) × (len ≤ 64) × (s / 16 ≡ 1) × (length bs + 2 < len)

-- no block, no byte to skip, and enough bytes to say so
pub record IsBad (bytes : List ℕ) : Type 0 where
  pub no_block : HasBlock bytes → ⊥
  pub no_skip : IsSkip bytes → ⊥
  pub decided : IsUndecided bytes → ⊥

-- so many bytes are up to and with the first one that ends a block
pub record ToEnd (bytes : List ℕ) (count : ℕ) : Type 0 where
  pub some : 0 < count
  pub within : count ≤ length bytes
  pub ends : slice_index bytes (count - 1) ≡ 126
  pub first : (k : ℕ) → k + 1 < count → slice_index bytes k ≡ 126 → ⊥

-- no byte ends a block
abbrev pub NoEnd : List ℕ → Type 0
NoEnd bytes = (k : ℕ) → k < length bytes → slice_index bytes k ≡ 126 → ⊥
