-- What was read of a file, piece by piece.
use Rattle.std.specs.Prelude.{◌≡◌, ℕ, ◌+◌, ◌≤◌, List, Option, Some, None, drop, length, nat_lt, take}
use Rattle.io_core.specs.declared.traits.Files.{Ghosts as Files}
use Rattle.io_core.specs.Faults.{Rose}
use Rattle.msg_code.specs.declared.talk.Piece.{Piece}
use Rattle.session_run.specs.declared.read.ReadStop.{ReadStop}
use Rattle.session_run.specs.declared.read.ReadStop.TheVariants as stop

-- so many bytes has a piece, but for the last one
abbrev pub piece_size : ℕ
piece_size = 4_096

-- the piece of a file's bytes at a place; the last one has fewer bytes than the others
pub record IsPieceAt (bytes : List ℕ) (at : ℕ) (p : Piece) : Type 0 where
  pub bytes_are : p.bytes ≡ take piece_size (drop at bytes)
  pub end_is : p.end ≡ nat_lt (length p.bytes) piece_size

-- why a piece is not there: a fault was counted, or memory was wanted and none was
abbrev pub StopsReading : ReadStop → ℕ → ℕ → Type 0
StopsReading stop.Failed before after = Rose before after
StopsReading stop.Memory before after = after ≡ before

-- Faults are counted where the reading stops for one, and nowhere else. Behind a stop nothing is read.
abbrev pub CountsReads : Option ReadStop → ℕ → Option ReadStop → ℕ → Type 0
CountsReads (Some s) before after-stop after = (after-stop ≡ Some s) × (after ≡ before)
CountsReads None before None after = after ≡ before
CountsReads None before (Some s) after = StopsReading s before after

-- the next piece of a file from a place on
abbrev pub IsNextPiece : {F : Type 0} → Files F → List ℕ → F → ℕ → Piece → ℕ → Type 0
IsNextPiece f name files at p after =
    (after ≡ at + length p.bytes) × (length p.bytes ≤ piece_size)
    × ((bytes : List ℕ) → f.told files name ≡ Some bytes → IsPieceAt bytes at p)
