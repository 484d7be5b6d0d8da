-- The units of sections on all boards, turn by turn.
use Rattle.std.specs.Prelude.{◌≡◌, ℕ, false, List, [], map, All, length, slice_index_or}
use Rattle.std.specs.List.{flat_map, range_with_len}
use Rattle.msg_code.specs.declared.unit.Batch.{Batch}
use Rattle.step_feed.specs.Units.{StepUnit}
use Rattle.step_feed.specs.Pacing.{Release, batch_at}

-- the units of a board that some sections release in a turn
abbrev pub units_at : ℕ → ℕ → List (List (List Release)) → List StepUnit
units_at b turn sections = flat_map (λ s. batch_at turn (slice_index_or s b [])) sections

-- the batches of a turn, for so many boards
abbrev pub batches_at : ℕ → ℕ → List (List (List Release)) → List Batch
batches_at boards turn sections =
    map (λ b. record { turn = turn; units = units_at b turn sections; end = false }) (range_with_len 0 boards)

-- batches of a turn, one for each board
pub record AreOfTurn (k boards : ℕ) (batches : List Batch) : Type 0 where
  pub count : length batches ≡ boards
  pub turns : All (λ b. b.turn ≡ k) batches
