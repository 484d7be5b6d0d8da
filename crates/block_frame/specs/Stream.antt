-- What a scanner finds in a stream of bytes, one thing behind the other.
use Rattle.std.specs.Prelude.{◌≡◌, ℕ, ◌<◌, Bool, List, [], ◌∷◌, ◌++◌, drop}
use Rattle.block_frame.specs.declared.Found.{Found}
use Rattle.block_frame.specs.declared.Found.TheVariants.{Block, Skip, NeedMore, Bad}
use Rattle.block_frame.specs.Scanned.{Scans}

-- the things found until more bytes are needed, by a scanner that drops or not; which bytes are then left, and whether
-- it drops
abbrev pub Reads : Bool → List ℕ → List Found → List ℕ → Bool → Type 0
Reads dropping bytes [] left drops = Scans dropping bytes NeedMore 0 drops × (left ≡ bytes)
Reads dropping bytes (f ∷ fs) left drops =
    (count : ℕ) × (next : Bool) × (0 < count) × Scans dropping bytes f count next
    × Reads next (drop count bytes) fs left drops

-- the things found in pieces, of which each comes behind the bytes that are left of those before it
abbrev pub ReadsPieces : Bool → List ℕ → List (List ℕ) → List Found → List ℕ → Bool → Type 0
ReadsPieces dropping before [] found left drops = (found ≡ []) × (left ≡ before) × (drops ≡ dropping)
ReadsPieces dropping before (piece ∷ pieces) found left drops =
    (first rest : List Found) × (kept : List ℕ) × (next : Bool) × (found ≡ first ++ rest)
    × Reads dropping (before ++ piece) first kept next × ReadsPieces next kept pieces rest left drops

-- the number and content of a block, nothing for other things
abbrev pub block_in : Found → List (ℕ × List ℕ)
block_in (Block number content) = (number, content.items) ∷ []
block_in Skip = []
block_in NeedMore = []
block_in Bad = []

-- the numbers and contents of the blocks among things found
abbrev pub blocks_in : List Found → List (ℕ × List ℕ)
blocks_in [] = []
blocks_in (f ∷ fs) = block_in f ++ blocks_in fs
