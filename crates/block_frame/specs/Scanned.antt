-- What a scan gives.
use Rattle.std.specs.Prelude.{◌≡◌, ℕ, ◌+◌, ◌<◌, Bool, true, false, List, [], length}
use Rattle.block_frame.specs.declared.Found.{Found}
use Rattle.block_frame.specs.declared.Found.TheVariants.{Block, Skip, NeedMore, Bad}
use Rattle.block_frame.specs.Scan.{IsBlock, IsSkip, IsUndecided, IsBad, ToEnd, NoEnd}

-- so many bytes are dropped, and whether the scanner goes on dropping
abbrev pub Drops : List ℕ → ℕ → Bool → Type 0
Drops bytes count true = NoEnd bytes × (count ≡ length bytes)
Drops bytes count false = ToEnd bytes count

-- what a scanner that drops nothing finds first, how many bytes it takes, and whether it drops what follows
abbrev pub Finds : List ℕ → Found → ℕ → Bool → Type 0
Finds bytes (Block number content) count drops =
    IsBlock number content.items bytes × (count ≡ length content.items + 5) × (drops ≡ false)
Finds bytes Skip count drops = IsSkip bytes × (count ≡ 1) × (drops ≡ false)
Finds bytes NeedMore count drops = IsUndecided bytes × (count ≡ 0) × (drops ≡ false)
Finds bytes Bad count drops = IsBad bytes × Drops bytes count drops

-- what a scanner finds first that drops, how many bytes it takes, and whether it goes on dropping
abbrev pub FindsDropping : List ℕ → Found → ℕ → Bool → Type 0
FindsDropping bytes (Block number content) count drops = ⊥
FindsDropping bytes Skip count drops = ⊥
FindsDropping bytes NeedMore count drops = (bytes ≡ []) × (count ≡ 0) × (drops ≡ true)
FindsDropping bytes Bad count drops = (0 < length bytes) × Drops bytes count drops

-- what a scan gives, dropping or not
abbrev pub Scans : Bool → List ℕ → Found → ℕ → Bool → Type 0
Scans false bytes found count drops = Finds bytes found count drops
Scans true bytes found count drops = FindsDropping bytes found count drops
