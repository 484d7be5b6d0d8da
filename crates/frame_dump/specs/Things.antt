-- The things of a trace: what stands first in the bytes that wait and those of a turn, one behind the other.
use Rattle.std.specs.Prelude.{◌≡◌, ℕ, ◌+◌, ◌%◌, ◌<◌, Bool, List, [], ◌∷◌, ◌++◌, ◌==◌, drop, if◌then◌else◌}
use Rattle.block_frame.specs.declared.Found.{Found}
use Rattle.block_frame.specs.declared.Found.TheVariants.{Block, Skip, NeedMore, Bad}
use Rattle.block_frame.specs.Scanned.{Scans}
use Rattle.frame_dump.specs.declared.trace.TraceTurn.{TraceTurn}

-- a thing that is found in a turn, and how many bytes it takes
pub record Thing : Type 0 where
  pub turn : ℕ
  pub found : Found
  pub count : ℕ

-- the things in some bytes that a scanner finds, which drops or not, until more bytes are needed; which bytes
-- are then left, and whether it drops
abbrev pub AreIn : ℕ → Bool → List ℕ → List Thing → List ℕ → Bool → Type 0
AreIn turn dropping bytes [] left drops = Scans dropping bytes NeedMore 0 drops × (left ≡ bytes)
AreIn turn dropping bytes (t ∷ ts) left drops =
    (next : Bool) × (t.turn ≡ turn) × (0 < t.count) × Scans dropping bytes t.found t.count next
    × AreIn turn next (drop t.count bytes) ts left drops

-- the things of turns, where some bytes wait already; and the bytes that wait in the end
abbrev pub AreThings : Bool → List ℕ → List TraceTurn → List Thing → List ℕ → Type 0
AreThings dropping waiting [] things waits = (things ≡ []) × (waits ≡ waiting)
AreThings dropping waiting (t ∷ turns) things waits =
    (first rest : List Thing) × (left : List ℕ) × (drops : Bool) × (things ≡ first ++ rest)
    × AreIn t.turn dropping (waiting ++ t.bytes) first left drops × AreThings drops left turns rest waits

-- a block that is found has a number below 16
abbrev pub HasNumber : Found → Type 0
HasNumber (Block number content) = number < 16
HasNumber Skip = Unit {0}
HasNumber NeedMore = Unit {0}
HasNumber Bad = Unit {0}

-- a block of a number is taken behind so many that were: the wire carries the remainder by 16
abbrev pub is_taken : ℕ → ℕ → Bool
is_taken taken number = number == taken % 16

-- how many blocks are taken behind a thing, and behind several
abbrev pub taken_behind : ℕ → Found → ℕ
taken_behind taken (Block number content) = if is_taken taken number then taken + 1 else taken
taken_behind taken Skip = taken
taken_behind taken NeedMore = taken
taken_behind taken Bad = taken

-- the same of several things
abbrev pub all_taken : ℕ → List Thing → ℕ
all_taken taken [] = taken
all_taken taken (t ∷ ts) = all_taken (taken_behind taken t.found) ts
