-- Turns of the motion worker whose batches and notes wait, on one thread, until the links are so far.
use Rattle.std.specs.Prelude.{◌≡◌, ℕ, ◌+◌, List, [], ◌∷◌, length}
use Rattle.msg_code.specs.declared.unit.Batch.{Batch}
use Rattle.msg_code.specs.declared.talk.Note.{Note}
use Rattle.session_work.specs.declared.late.Late.{Late}
use Rattle.session_work.specs.declared.late.Row.{Row}
use Rattle.session_work.specs.declared.late.Row.TheVariants as row
use Rattle.session_work.specs.Bares.{bare_batch}
use Rattle.session_work.specs.Rows.{copies, gather, item, AreOf}

-- the batches of turn k in a row, for n boards
abbrev pub batches_of : ℕ → ℕ → Row → List Batch
batches_of n k (row.Made batches) = batches.items
batches_of n k (row.Bare end) = copies n (bare_batch k end)

-- those of a turn that waits
abbrev pub late_row : ℕ → Late → List Batch
late_row n x = batches_of n x.note.turn x.row

-- the notes that wait
abbrev pub late_notes : List Late → List Note
late_notes xs = gather (λ x. x.note ∷ []) xs

-- the batches that wait for board j of n
abbrev pub late_batches : ℕ → List Late → ℕ → List Batch
late_batches n xs j = gather (λ x. item j (late_row n x)) xs

-- a batch for each of n boards and a note, of turn k
abbrev pub IsLate : ℕ → ℕ → Late → Type 0
IsLate n k x = (x.note.turn ≡ k) × (length (late_row n x) ≡ n) × AreOf (λ b. b.turn) k (late_row n x)

-- one turn behind the other, from turn k on
abbrev pub AreLate : ℕ → ℕ → List Late → Type 0
AreLate n k [] = Unit {0}
AreLate n k (x ∷ xs) = IsLate n k x × AreLate n (k + 1) xs
