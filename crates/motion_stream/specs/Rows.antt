-- The units of turns one behind the other.
use Rattle.std.specs.Prelude.{◌≡◌, ℕ, ◌<◌, false, ◌++◌, List, [], map, slice_index_or}
use Rattle.std.specs.List.{range_with_len}
use Rattle.msg_code.specs.declared.unit.Batch.{Batch}
use Rattle.step_feed.specs.Units.{StepUnit}
use Rattle.motion_stream.specs.Courses.{row_at}

-- the units of a board in a turn
abbrev pub units_in : List (List StepUnit) → ℕ → List StepUnit
units_in row b = slice_index_or row b []

-- the batches of a turn for so many boards, with the units of some sections and of one more behind them
abbrev pub batches_of : ℕ → ℕ → List (List StepUnit) → List (List StepUnit) → List Batch
batches_of boards turn ahead own =
    map (λ b. record { turn = turn; units = units_in ahead b ++ units_in own b; end = false }) (range_with_len 0 boards)

-- turn by turn and board by board the units of two, of the second behind those of the first
pub record AreJoined (boards : ℕ) (one two joined : List (List (List StepUnit))) : Type 0 where
  pub units : (i b : ℕ) → b < boards → row_at joined i b ≡ row_at one i b ++ row_at two i b

-- no unit waits in some rows, on so many boards
abbrev pub NoneWaits : ℕ → List (List (List StepUnit)) → Type 0
NoneWaits boards rows = (i b : ℕ) → b < boards → row_at rows i b ≡ []
