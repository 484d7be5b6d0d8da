-- What the motion worker took and put.
use Rattle.std.specs.Prelude.{◌≡◌, ℕ, ◌+◌, Bool, true, false, Option, List, [], ◌∷◌, ◌++◌, length}
use Rattle.session_work.specs.declared.ends.Lanes.{Lanes}
use Rattle.lane_queue.specs.Ends.{IsSendOf, next_put}
use Rattle.session_work.specs.declared.machines.MotionMachine.{Ghosts}
use Rattle.msg_code.specs.declared.unit.Batch.{Batch}
use Rattle.msg_code.specs.declared.talk.WordMsg.{WordMsg}
use Rattle.msg_code.specs.declared.talk.Piece.{Piece}
use Rattle.session_work.specs.declared.motion.MotionDone.{MotionDone}
use Rattle.session_work.specs.declared.seat.Seat.{Seat}
use Rattle.session_work.specs.declared.table.MotionTurn.{MotionTurn}
use Rattle.session_work.specs.Lates.{late_batches, late_notes}
use Rattle.session_work.specs.Rows.{gather, item, HasPutBut, HasTaken, HavePutBut}
use Rattle.session_work.specs.Seats.{needs, hungers, WordStep, PieceStep, MakeStep}
use Rattle.session_work.specs.Turns.{Goes}

module _ {M : Type 0} (m : Ghosts M) where
  -- the machine before turn 0
  abbrev pub seated : M → Seat M
  seated s = record { machine = s; halted = false; quiet = false; out = false; heard = 0 }

  -- words are taken one by one, as long as the next one is needed for batch k
  abbrev pub Hearing : ℕ → Seat M → List WordMsg → Seat M → Type 0
  Hearing k = Goes (λ _ x w y. (needs m.wants k x ≡ true) × WordStep m.hears x w y) 0

  -- pieces of the file are taken one by one, as long as one is needed for batch k
  abbrev pub Feeding : ℕ → Seat M → List Piece → Seat M → Type 0
  Feeding k = Goes (λ _ x p y. (hungers m.hungry k x ≡ true) × PieceStep m.reads x p y) 0

  -- turn k: words up to where none is needed, pieces up to where none is needed, and then the batches for n boards
  abbrev pub MotionStep : ℕ → ℕ → Seat M → MotionTurn → Seat M → Type 0
  MotionStep n k x t y =
      (a : Seat M) × (b : Seat M)
      × Hearing k x t.words a × (needs m.wants k a ≡ false)
      × Feeding k a t.pieces b × (hungers m.hungry k b ≡ false)
      × MakeStep n m.turns k b t.batches t.note y

  module _ (lanes : Lanes) where
    -- these turns were made, and then these words and pieces were taken; the last batches and notes may wait
    abbrev pub MotionWent : List MotionTurn → List WordMsg → List Piece → MotionDone M → Type 0
    MotionWent ts ws ps d =
        HasTaken (gather (λ t. t.words) ts ++ ws) lanes.words.now d.word_pass
        × HasTaken (gather (λ t. t.pieces) ts ++ ps) lanes.pieces.now d.piece_pass
        × HasPutBut (late_notes d.late.items) (gather (λ t. t.note ∷ []) ts) lanes.notes.now d.note_pass
        × HavePutBut (late_batches (length lanes.batches.now) d.late.items) (λ j. gather (λ t. item j t.batches) ts)
        lanes.batches.now d.batch_passes.items
        × IsSendOf lanes.asks.now d.ask_pass × (next_put d.ask_pass ≡ d.asks)
        × (m.boards d.seat.machine ≡ length lanes.batches.now)

    -- so many turns were made
    abbrev pub IsMotionAt : ℕ → M → MotionDone M → Type 0
    IsMotionAt k s d =
        (ts : List MotionTurn) × (length ts ≡ k) × Goes (MotionStep (length lanes.batches.now)) 0 (seated s) ts d.seat
        × MotionWent ts [] [] d

    -- and words were taken for turn k
    abbrev pub IsHearing : ℕ → M → MotionDone M → Type 0
    IsHearing k s d =
        (ts : List MotionTurn) × (ws : List WordMsg) × (x : Seat M) × (length ts ≡ k)
        × Goes (MotionStep (length lanes.batches.now)) 0 (seated s) ts x × Hearing k x ws d.seat × MotionWent ts ws [] d

    -- all words that are needed
    abbrev pub IsHeard : ℕ → M → MotionDone M → Type 0
    IsHeard k s d = IsHearing k s d × (needs m.wants k d.seat ≡ false)

    -- and pieces
    abbrev pub IsFeeding : ℕ → M → MotionDone M → Type 0
    IsFeeding k s d =
        (ts : List MotionTurn) × (ws : List WordMsg) × (ps : List Piece) × (x : Seat M) × (a : Seat M) × (length ts ≡ k)
        × Goes (MotionStep (length lanes.batches.now)) 0 (seated s) ts x × Hearing k x ws a
        × (needs m.wants k a ≡ false) × Feeding k a ps d.seat × MotionWent ts ws ps d

    -- all pieces that are needed
    abbrev pub IsFed : ℕ → M → MotionDone M → Type 0
    IsFed k s d = IsFeeding k s d × (hungers m.hungry k d.seat ≡ false)

    -- some turns were made, and nothing waits
    abbrev pub IsMotionDone : M → MotionDone M → Type 0
    IsMotionDone s d = (k : ℕ) × IsMotionAt k s d × (d.late.items ≡ [])
