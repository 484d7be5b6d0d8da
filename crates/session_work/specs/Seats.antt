-- A motion machine at its lanes.
use Rattle.std.specs.Prelude.{◌≡◌, ◌⊎◌, ℕ, ◌+◌, Bool, true, false, cond, nat_lt, Option, Some, None, List, [], ◌∷◌, length}
use Rattle.msg_code.specs.declared.unit.Batch.{Batch}
use Rattle.msg_code.specs.declared.talk.WordMsg.{WordMsg}
use Rattle.msg_code.specs.declared.talk.Note.{Note}
use Rattle.msg_code.specs.declared.talk.Piece.{Piece}
use Rattle.session_work.specs.declared.seat.Seat.{Seat}
use Rattle.session_work.specs.declared.table.MotionTurn.{MotionTurn}
use Rattle.session_work.specs.Bares.{bare_batch, bare_note}
use Rattle.session_work.specs.Rows.{copies}
use Rattle.session_work.specs.Turns.{Goes}

-- a word of this number is wanted, or a later one
abbrev pub is_wanted : Option ℕ → ℕ → Bool
is_wanted None n = false
is_wanted (Some j) n = nat_lt n (j + 1)

module _ {M : Type 0} where
  -- The machine is as it was, and so is what is known of it.
  abbrev pub Same : Seat M → Seat M → Type 0
  Same x y = (y.machine ≡ x.machine) × (y.quiet ≡ x.quiet) × (y.out ≡ x.out)

  -- Whether the next word must be taken before batch k: never behind the end; a quiet worker is 64 turns
  -- ahead of its words.
  abbrev pub needs : (M → ℕ → Option ℕ) → ℕ → Seat M → Bool
  needs wants k s = cond s.halted false (cond s.quiet (nat_lt (s.heard + 63) k) (is_wanted (wants s.machine k) s.heard))

  -- whether a piece of the file must be taken before batch k
  abbrev pub hungers : (M → ℕ → Bool) → ℕ → Seat M → Bool
  hungers hungry k s = cond s.halted false (cond s.quiet false (hungry s.machine k))

  -- Memory was wanted just now.
  abbrev pub WantsMemory : Seat M → Seat M → Type 0
  WantsMemory x y = (x.quiet ≡ false) × (y.quiet ≡ true) × (y.out ≡ true)

  -- a word is told, unless the worker is quiet
  abbrev pub Told : (M → WordMsg → M → Type 0) → Seat M → WordMsg → Seat M → Type 0
  Told hears x w y =
      ((x.quiet ≡ true) × Same x y)
      ⊎ (((x.quiet ≡ false) × (y.quiet ≡ false) × (y.out ≡ x.out) × hears x.machine w y.machine) ⊎ WantsMemory x y)

  -- a word is taken
  abbrev pub WordStep : (M → WordMsg → M → Type 0) → Seat M → WordMsg → Seat M → Type 0
  WordStep hears x w y =
      (y.heard ≡ x.heard + 1)
      × (((w.end ≡ true) × (y.halted ≡ true) × Same x y) ⊎ ((w.end ≡ false) × (y.halted ≡ x.halted) × Told hears x w y))

  -- A piece of the file is taken. That nothing comes is said in the reactor's turn of the last word that was heard.
  abbrev pub PieceStep : (M → Piece → M → Type 0) → Seat M → Piece → Seat M → Type 0
  PieceStep reads x p y =
      (y.heard ≡ x.heard) × (y.halted ≡ x.halted)
      × (((p.stop ≡ true) × (p.turn + 1 ≡ x.heard) × (y.machine ≡ x.machine) × (y.quiet ≡ true) × (y.out ≡ x.out))
      ⊎ (((p.stop ≡ false) × (y.quiet ≡ false) × (y.out ≡ x.out) × reads x.machine p y.machine) ⊎ WantsMemory x y))

  -- The batches of turn k and its note, for n boards: those of the machine, or bare ones where it is asked no more.
  abbrev pub MakeStep : ℕ → (M → ℕ → List Batch → Note → M → Type 0) → ℕ → Seat M → List Batch → Note → Seat M → Type 0
  MakeStep n turns k x bs note y =
      (y.heard ≡ x.heard) × (y.halted ≡ x.halted) × (length bs ≡ n)
      × (((x.halted ≡ false) × (x.quiet ≡ false) × (y.quiet ≡ false) × (y.out ≡ x.out) × (note.out ≡ false)
      × turns x.machine k bs note y.machine)
      ⊎ ((bs ≡ copies n (bare_batch k x.halted)) × (note ≡ bare_note k y.out)
      × ((((x.halted ≡ true) ⊎ (x.quiet ≡ true)) × Same x y) ⊎ ((x.halted ≡ false) × WantsMemory x y))))
