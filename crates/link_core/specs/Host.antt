-- What the host's end of a link keeps, and what its calls do.
use Rattle.std.specs.Prelude.{◌≡◌, ℕ, ◌+◌, ◌-◌, ◌<◌, ◌≤◌, ◌⊎◌, Bool, List, [], ◌∷◌, ◌++◌, length, drop, slice_set, ◌==◌, ◌&&◌, nat_lt, Option, Some, None, if◌then◌else◌}
use Rattle.std.specs.List.{flat_map}
use Rattle.link_core.specs.Core.{Command}

-- what the host's end keeps: what waits, the outstanding contents, when each was put, how many were sent, the turn, the
-- last empty reply, and whether the last block is closed
pub record Host : Type 0 where
  -- the commands that are in no block
  pub waiting : List Command
  -- the contents of the blocks that the board hasn't acknowledged, the oldest first, and the turns in which
  -- they were last put
  pub contents : List (List ℕ)
  pub puts : List ℕ
  -- how many blocks were given
  pub sent : ℕ
  -- the turn last given
  pub turn : ℕ
  -- the last empty reply that had the number of the oldest outstanding block: this number, and the turn
  pub empty : Option (ℕ × ℕ)
  -- whether the last block ends with a command that closes it
  pub closed : Bool

-- the number of the oldest outstanding block
abbrev pub acked_of : Host → ℕ
acked_of h = h.sent - length h.contents

-- the bytes of some commands, one behind the other
abbrev pub content_of : List Command → List ℕ
content_of cs = flat_map (λ c. c.bytes) cs

-- whether the last of these commands closes its block
abbrev pub closes_last : Bool → List Command → Bool
closes_last closed [] = closed
closes_last closed (c ∷ cs) = closes_last c.closes cs

-- the host's end with a command queued
abbrev pub with_queued : Host → List ℕ → Bool → Host
with_queued h bytes closes = record h { waiting = h.waiting ++ record { bytes = bytes; closes = closes } ∷ [] }

-- a block of these commands is given
abbrev pub given : Host → ℕ → List Command → Host
given h turn block = record {
  waiting = drop (length block) h.waiting;
  contents = h.contents ++ content_of block ∷ [];
  puts = h.puts ++ turn ∷ [];
  sent = h.sent + 1;
  turn = h.turn;
  empty = h.empty;
  closed = closes_last h.closed block;
}

-- the board has taken all blocks below this one
abbrev pub acked_by : Host → ℕ → Bool → Host
acked_by h n empty = record h {
  contents = drop (n - acked_of h) h.contents;
  puts = drop (n - acked_of h) h.puts;
  empty = if empty && ((n == acked_of h) && nat_lt 0 (length h.contents)) then Some (n, h.turn) else h.empty;
}

-- the host's end with a block put again
abbrev pub put_again : Host → ℕ → Host
put_again h i = record h { puts = slice_set h.puts i h.turn }

-- an empty reply had this number in the turn before
abbrev pub HintIs : Option (ℕ × ℕ) → ℕ → ℕ → Type 0
HintIs None n turn = ⊥
HintIs (Some e) n turn = (e.0 ≡ n) × (e.1 + 1 ≡ turn)

-- the oldest outstanding block was put 4 or more turns ago
abbrev pub IsOld : List ℕ → ℕ → Type 0
IsOld [] turn = ⊥
IsOld (put ∷ puts) turn = put + 4 ≤ turn

-- the outstanding blocks are to be put again
abbrev pub IsResendDue : Host → ℕ → Type 0
IsResendDue h turn = (0 < length h.contents) × (IsOld h.puts turn ⊎ HintIs h.empty (acked_of h) turn)
