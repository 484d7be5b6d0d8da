-- What a scanner finds of a block that was changed on its line.
use Rattle.std.specs.Prelude.{◌≡◌, ℕ, zero, suc, ◌+◌, ◌-◌, ◌/◌, ◌||◌, ◌&&◌, ◌==◌, Bool, true, false, List, [], ◌∷◌, ◌++◌, length, take, drop, nat_le, nat_lt, replicate, if◌then◌else◌}
use Rattle.std.specs.Str.{bytes_eq}
use Rattle.block_frame.specs.declared.Found.{Found}
use Rattle.block_frame.specs.declared.Found.TheVariants.{Block, Skip, NeedMore, Bad}
use Rattle.block_frame.specs.Block.{block_text}
use Rattle.block_frame.specs.Stream.{Reads, blocks_in}

-- what a line gives behind a changed block: 64 bytes that end a block, so that each scanner stands where a block begins
unfoldable pub ending_bytes : List ℕ
ending_bytes = replicate 64 126

-- what a scanner finds is bad bytes
abbrev pub is_bad : Found → Bool
is_bad (Block number content) = false
is_bad Skip = false
is_bad NeedMore = false
is_bad Bad = true

-- something bad is among the things found
abbrev pub some_bad : List Found → Bool
some_bad [] = false
some_bad (f ∷ fs) = is_bad f || some_bad fs

-- a scanner, which is dropping or not, finds no block in these bytes, and something bad, or it found that before
pub record IsOnlyBad (dropping : Bool) (bytes : List ℕ) (before : Bool) : Type 0 where
  pub found : List Found
  pub left : List ℕ
  pub drops : Bool
  pub reads : Reads dropping bytes found left drops
  pub no_block : blocks_in found ≡ []
  pub is_bad : (before || some_bad found) ≡ true

-- a new scanner finds no block, and something bad, in these bytes with those behind them that end a block
abbrev pub Spoils : List ℕ → Type 0
Spoils bytes = IsOnlyBad false (bytes ++ ending_bytes) false

-- bytes all of which end a block
abbrev pub AreEnds : List ℕ → Type 0
AreEnds [] = Unit {0}
AreEnds (b ∷ bs) = (b ≡ 126) × AreEnds bs

-- the same as a test. Whether the bytes begin with the block that their first two bytes say
abbrev pub begins_block : List ℕ → Bool
begins_block [] = false
begins_block (len ∷ []) = false
begins_block (len ∷ s ∷ bytes) =
    nat_lt s 32 && nat_le len 64 && bytes_eq (take len (len ∷ s ∷ bytes)) (block_text (s - 16) (take (len - 5) bytes))

-- the first byte is one that ends a block
abbrev pub begins_end : List ℕ → Bool
begins_end [] = false
begins_end (b ∷ bytes) = b == 126

-- fewer bytes than decide
abbrev pub are_few : List ℕ → Bool
are_few [] = true
are_few (len ∷ []) = nat_le 5 len && nat_le len 64
are_few (len ∷ s ∷ bytes) = nat_le 5 len && nat_le len 64 && (s / 16 == 1) && nat_lt (length bytes + 2) len

-- how many bytes are up to and with the first one that ends a block, and whether there is none
abbrev pub to_end : List ℕ → ℕ × Bool
to_end [] = (0, true)
to_end (b ∷ bytes) = if b == 126 then (1, false) else ((to_end bytes).0 + 1, (to_end bytes).1)

-- only bad bytes are found, in so many steps
abbrev pub are_only_bad : ℕ → Bool → List ℕ → Bool → Bool
are_only_bad zero dropping bytes before = false
are_only_bad (suc n) true [] before = before
are_only_bad (suc n) true (b ∷ bytes) before =
    are_only_bad n (to_end (b ∷ bytes)).1 (drop (to_end (b ∷ bytes)).0 (b ∷ bytes)) true
are_only_bad (suc n) false bytes before =
    let behind_end = are_only_bad n false (drop 1 bytes) before in
    let behind_bad = are_only_bad n (to_end bytes).1 (drop (to_end bytes).0 bytes) true in
    if begins_block bytes then false
    else (if begins_end bytes then behind_end else (if are_few bytes then before else behind_bad))

-- a block that was changed to these bytes is found out
unfoldable pub is_found_out : List ℕ → Bool
is_found_out bytes = are_only_bad (length bytes + 65) false (bytes ++ ending_bytes) false
